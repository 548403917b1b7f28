use Rattle.std.proofs.Common.{map}
use Rattle.td_fileset.specs.Layered.{OpenSet}
use Rattle.td_fileset.specs.Opened.{Readers}
use Rattle.td_fileset.specs.Pieces.{IsNearest}
use Rattle.td_fileset.proofs.pieces.nearest_set.Given as goal

abbrev pub invariant-loop-at : goal.invariant-loop-at
invariant-loop-at g l = IsNearest l.from (map (λ (s : OpenSet). s.range) (map (λ (r : Readers). r.files) l.sets)) l.at l.nearest
