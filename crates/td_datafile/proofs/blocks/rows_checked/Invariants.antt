use Rattle.std.proofs.Common.{◌≡◌, ◌+◌, ◌*◌, ◌<◌, ◌^◌, length}
use Rattle.td_datafile.specs.Blocks.{rows_checked}
use Rattle.td_datafile.proofs.blocks.rows_checked.Given as goal

abbrev pub invariant-loop-row : goal.invariant-loop-row
invariant-loop-row l = record {
  so_far : rows_checked l.range l.table l.last l.place l.left ≡ rows_checked l.range l.table l.initial.last l.initial.place l.rows;
  room : l.place + 8 * length l.left < 2 ^ 64;
}

abbrev pub decreases-loop-row : goal.decreases-loop-row
decreases-loop-row l = length l.left
