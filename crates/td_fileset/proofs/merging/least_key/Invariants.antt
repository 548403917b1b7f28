use Rattle.std.proofs.Common.{◌≡◌, drop, None}
use Rattle.td_fileset.specs.Merged.{least_key}
use Rattle.td_fileset.proofs.merging.least_key.Given as goal

abbrev pub invariant-loop-source : goal.invariant-loop-source
invariant-loop-source g l = least_key l.least (drop l.source-index l.sources) ≡ least_key None l.sources
