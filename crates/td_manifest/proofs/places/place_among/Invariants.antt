use Rattle.std.proofs.Common.{◌≡◌, ◌+◌, drop, length}
use Rattle.td_manifest.specs.Places.{file_offset}
use Rattle.td_manifest.proofs.places.place_among.Given as goal

abbrev pub invariant-loop-set : goal.invariant-loop-set
invariant-loop-set l =
    length l.before + file_offset (drop l.set-index l.sets) l.left ≡ length l.fn.before + file_offset l.sets l.fn.index
