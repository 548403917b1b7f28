use Rattle.std.proofs.Common.{map, ap, ◌∙◌}
use Rattle.td_verdict.specs.Answered.{window_rows}
use Rattle.td_query.specs.Gathered.{grouped_of}
use Rattle.td_query.specs.Shown.{windows_in}
use Rattle.td_query.specs.declared.gathering.Group.{Group}
use Rattle.td_query.proofs.ByGroup.{same_parts}
use Rattle.td_query.proofs.answers.finish_all.Goals as goal

pub returns : goal.returns
returns c =
    let plan = c.args.plan.now in
    same_parts windows_in (λ (g : Group). window_rows plan.schema.columns plan.query (grouped_of g)) c.from_vec.result c.args.groups
    (ap (map windows_in) (c.from_vec.ensures ∙ c.reverse.ensures.items) ∙ c.in_ok-all.ensures)
