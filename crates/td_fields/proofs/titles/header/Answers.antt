use Rattle.std.proofs.Common.{ap, ◌∙◌}
use Rattle.td_verdict.specs.Answers.{header_over}
use Rattle.td_fields.proofs.OneTable.{header_is}
use Rattle.td_fields.proofs.titles.header.Goals as goal

pub returns : goal.returns
returns c = λ q catalog is.
    c.in_ok-names.ensures
    ∙ ap (λ b. header_over b c.args.plan.now.schema c.args.plan.now.query) c.reads_one.ensures
    ∙ header_is q catalog c.args.plan.now is
