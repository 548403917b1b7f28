use Rattle.std.proofs.Common.{◌≡◌, take}
use Rattle.td_verdict.specs.Plans.{lowest, highest}
use Rattle.td_bind.proofs.ranges.range_of.Given as goal

abbrev pub invariant-loop-comparison : goal.invariant-loop-comparison
invariant-loop-comparison l = (l.lo ≡ lowest (take l.comparison-index l.comparisons)) × (l.hi ≡ highest (take l.comparison-index l.comparisons))
