use Rattle.std.proofs.Common.{◌≡◌, ◌++◌, length, reverse}
use Rattle.td_datafile.specs.Scanned.{wanted_of}
use Rattle.td_datafile.proofs.scans.wanted_of.Given as goal

abbrev pub invariant-loop-row : goal.invariant-loop-row
invariant-loop-row l = wanted_of l.lo l.hi l.left ++ reverse l.wanted ≡ wanted_of l.lo l.hi l.initial.left

abbrev pub decreases-loop-row : goal.decreases-loop-row
decreases-loop-row l = length l.left
