use Rattle.std.proofs.Common.{◌≡◌, ◌++◌, drop, map}
use Rattle.td_verdict.specs.Answers.{item_title}
use Rattle.td_fields.proofs.titles.item_titles.Given as goal

abbrev pub invariant-loop-item : goal.invariant-loop-item
invariant-loop-item l = map item_title l.items ≡ l.titles ++ map item_title (drop l.item-index l.items)
