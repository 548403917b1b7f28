use Rattle.std.proofs.Common.{◌≡◌, slice_set, sym, ap, ◌∙◌}
use Rattle.std.proofs.lemmas.List.Edits.{map_over_more}
use Rattle.td_memdev.specs.Entries.{closed}
use Rattle.td_memdev.specs.declared.files.FileEntry.{FileEntry}
use Rattle.td_memdev.proofs.files.close_all.Goals as goal

pub loop-entry-preserved : goal.loop-entry-preserved
loop-entry-preserved c =
    let is : c.set_readers.new.self ≡ closed c.entry-item.result = c.set_readers.ensures ∙ ap closed (sym c.entry-item.is) in
    ap (λ (e : FileEntry). slice_set c.loop-entry.files c.loop-entry.entry-index e) is
    ∙ map_over_more closed c.args.files.now c.loop-entry.files c.loop-entry.entry-index c.entry-item.result c.loop-entry-test.true c.loop-entry.invariant c.entry-item.is
