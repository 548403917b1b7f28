use Rattle.std.proofs.Common.{◌≡◌, ◌++◌, take}
use Rattle.std.specs.List.{flat_map}
use Rattle.td_cols.specs.Spelling.{spelling}
use Rattle.td_block.specs.Columns.{lane}
use Rattle.td_block.proofs.columns.push_lanes.Given as goal

abbrev pub invariant-loop-cell : goal.invariant-loop-cell
invariant-loop-cell l = l.out.items ≡ l.fn.out.items ++ flat_map (λ cell. spelling l.kind (lane cell)) (take l.cell-index l.cells)
