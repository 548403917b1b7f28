use Rattle.std.proofs.lemmas.Bool.Decides.{when_true}
use Rattle.std.proofs.lemmas.List.Sorted.{non_decreasing_from_is_sorted}
use Rattle.td_value_cases.proofs.windows.is_cuttable.Goals as goal

pub returns-then-is_sorted-clause-in_order : goal.returns-then-is_sorted-clause-in_order
returns-then-is_sorted-clause-in_order c = λ t. when_true _ _ c.if-is_sorted.true (non_decreasing_from_is_sorted c.args.ts.now c.is_sorted.result c.is_sorted.ensures.cases)
