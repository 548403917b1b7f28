use Rattle.std.proofs.Common.{◌≡◌, ◌+◌, ◌≤◌, ◌++◌, reverse, length}
use Rattle.std.specs.Prelude.{vec_len, vec_capacity}
use Rattle.td_committing.proofs.commits.vec_of.Given as goal

-- the items that are left, and those that were taken, turned round
abbrev pub invariant-loop-item : goal.invariant-loop-item
invariant-loop-item g l = record {
  whole : l.items ++ reverse l.all.items ≡ l.fn.items;
  room : vec_len l.all + length l.items ≤ vec_capacity l.all;
}

abbrev pub decreases-loop-item : goal.decreases-loop-item
decreases-loop-item g l = length l.items
