use Rattle.std.proofs.Common.{◌≡◌, [], ◌-◌, ◌++◌}
use Rattle.td_codec.specs.Lists.{items_read}
use Rattle.td_codec.proofs.Loop.{with_front}
use Rattle.td_manifest.specs.Files.{stt_items}
use Rattle.td_manifest.proofs.files.stt_files_of.Given as goal

abbrev pub invariant-loop : goal.invariant-loop
invariant-loop l =
    let items = stt_items l.fn.files in
    (with_front l.stt (items_read items l.stt (l.count - l.counter) l.rest) ≡ items_read items [] l.count l.bytes) × (l.files ≡ l.fn.files ++ l.stt)
