use Rattle.std.proofs.Common.{sym, ap, refl, ◌∙◌}
use Rattle.td_bind.specs.Answers.{verdict_of}
use Rattle.td_opening.proofs.Items.{other_refused, judged_refused}
use Rattle.td_opening.proofs.replaying.judge_item.Goals as goal

pub returns-then-not-is_write-clause-refused : goal.returns-then-not-is_write-clause-refused
returns-then-not-is_write-clause-refused c = other_refused c.args.stmt.now c.args.item.now.moment c.args.tables.now.state (sym c.is_write.ensures ∙ c.if-not-is_write.true)

pub returns-in-Ok-clause-accepted : goal.returns-in-Ok-clause-accepted
returns-in-Ok-clause-accepted c = record {
  what = c.in-Ok.what;
  rows = c.in-Ok.field-0-1;
  accepted = sym c.in_ok-what.ensures.verdict ∙ ap verdict_of c.in-Ok.is;
  entry = refl;
}

pub returns-clause-refused : goal.returns-clause-refused
returns-clause-refused c = judged_refused c.args.stmt.now c.args.item.now.moment c.args.tables.now.state c.in-Err.field-0 (ap verdict_of (sym c.in-Err.is) ∙ c.in_ok-what.ensures.verdict)
