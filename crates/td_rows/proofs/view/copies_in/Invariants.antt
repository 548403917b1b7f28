use Rattle.std.proofs.Common.{◌≡◌, ◌+◌, ◌++◌, length, map}
use Rattle.td_layer.specs.declared.values.Key.{Key}
use Rattle.td_layer.specs.declared.values.Row.{Row}
use Rattle.td_layer.specs.Scans.{rows_in}
use Rattle.td_rows.proofs.view.copies_in.Given as goal

-- what was found, and what is left to walk over, are all; a step for each that was found
abbrev pub invariant-rows : goal.invariant-rows
invariant-rows g l =
    (l.found ++ map (λ (e : Key × Row). (e.0.ts, e.1)) l.key-iterator ≡ rows_in l.table l.lo l.hi l.rows)
    × (l.steps ≡ l.fn.steps + length l.found)
