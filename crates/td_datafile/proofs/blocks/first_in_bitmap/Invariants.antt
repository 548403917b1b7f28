use Rattle.std.proofs.Common.{◌≡◌, ◌+◌, ◌≤◌, length, drop}
use Rattle.td_datafile.specs.Blocks.{full_bitmap, first_other}
use Rattle.td_datafile.proofs.blocks.first_in_bitmap.Given as goal

abbrev pub invariant-loop-byte : goal.invariant-loop-byte
invariant-loop-byte l = record {
  at : l.place ≡ l.at + l.byte;
  within : l.place ≤ length l.part;
  so_far : first_other l.place (drop l.byte (full_bitmap l.rows)) (drop l.place l.part) ≡ first_other l.at (full_bitmap l.rows) (drop l.at l.part);
}
