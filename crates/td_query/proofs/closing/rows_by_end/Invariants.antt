use Rattle.std.proofs.Common.{◌≡◌, List, map}
use Rattle.std.specs.List.{AllByRecursion}
use Rattle.td_query.specs.Closed.{IsHeld, windows_by_end}
use Rattle.td_verdict.specs.Answered.{window_row}
use Rattle.td_verdict.specs.Windowed.{Keyed}
use Rattle.td_query.proofs.closing.rows_by_end.Given as goal

abbrev pub invariant-windows : goal.invariant-windows
invariant-windows l =
    (held : List Keyed) → AllByRecursion (IsHeld l.asked.frame l.asked.places.now held) l.yielded
    → l.rows ≡ map (window_row l.asked.plan.now.schema.columns l.asked.plan.now.query l.part) (windows_by_end l.asked.frame held l.yielded)
