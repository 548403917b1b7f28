use Rattle.std.proofs.Common.{◌≡◌, [], take, true}
use Rattle.td_codec.specs.Lists.{all_fit}
use Rattle.td_manifest.specs.Files.{all_files, set_items}
use Rattle.td_making.proofs.heading.sets_fit.Given as goal

-- so many sets fit, and their files are noted
abbrev pub invariant-loop-i : goal.invariant-loop-i
invariant-loop-i l = (l.files.keys ≡ all_files (take l.i l.sets)) × (all_fit set_items [] (take l.i l.sets) ≡ true)
