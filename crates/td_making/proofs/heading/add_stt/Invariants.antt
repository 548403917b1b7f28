use Rattle.std.proofs.Common.{◌≡◌, ◌++◌, [], take, true}
use Rattle.td_codec.specs.Lists.{all_fit}
use Rattle.td_manifest.specs.Files.{stt_items}
use Rattle.td_making.proofs.heading.add_stt.Given as goal

-- so many files fit, and are added
abbrev pub invariant-loop-file : goal.invariant-loop-file
invariant-loop-file l =
    (l.files.keys ≡ l.fn.files.keys ++ take l.file-index l.stt) × (all_fit (stt_items l.fn.files.keys) [] (take l.file-index l.stt) ≡ true)
