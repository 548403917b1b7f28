use Rattle.std.proofs.Common.{◌≡◌, ◌++◌, map, take, drop}
use Rattle.td_fileset.specs.Sources.{past}
use Rattle.td_fileset.proofs.merging.pass_all.Given as goal

abbrev pub invariant-loop-source : goal.invariant-loop-source
invariant-loop-source g l = l.sources ≡ map (past l.key) (take l.source-index l.fn.sources) ++ drop l.source-index l.fn.sources
