use Rattle.std.proofs.Common.{◌≡◌, true, List, is_some, sym, ap, ◌∙◌, subst}
use Rattle.td_outside.specs.Files.{after_remove, after_failed_remove}
use Rattle.td_memdev.specs.Kept.{Kept, image_of, file_entry, bytes_of, readers_of}
use Rattle.td_memdev.specs.Tables.{IsAt, IsTable}
use Rattle.td_memdev.specs.Entries.{marked}
use Rattle.td_memdev.specs.declared.files.FileEntry.{FileEntry}
use Rattle.td_memdev.specs.contracts.store.MemStore.{the_view}
use Rattle.td_memdev.proofs.Changes.{edited, table_set, table_remove, remove_image, failed_remove_image}
use Rattle.td_memdev.proofs.store.MemStoreStore.remove.Goals as goal

pub invariant_of-self : goal.invariant_of-self
invariant_of-self c =
    let at = subst (λ (k : Kept). IsAt (λ (e : FileEntry). e.number) c.args.name c.finished_place-place.result k.files) (sym c.self.view_is) c.finished_place-place.ensures.there in
    let v = edited (λ (e : FileEntry). e.number) c.args.name c.finished_place-place.result c.self.inside.files.items at c.index_mut.result.now c.mark_removed.new.self c.index_mut.ensures.value (λ e. record e { state = marked e.state }) c.mark_removed.ensures in
    (c.self.invariant.0, table_set (λ (e : FileEntry). e.number) c.args.name c.finished_place-place.result c.self.inside.files.items at c.mark_removed.new.self (ap (λ (e : FileEntry). e.number) v ∙ at.number_is) c.self.invariant.1)

pub returns-then-fails-clause-failed : goal.returns-then-fails-clause-failed
returns-then-fails-clause-failed c =
    let old : Kept = the_view c.self.inside in
    let at = subst (λ (k : Kept). IsAt (λ (e : FileEntry). e.number) c.args.name c.finished_place-place.result k.files) (sym c.self.view_is) c.finished_place-place.ensures.there in
    let v = edited (λ (e : FileEntry). e.number) c.args.name c.finished_place-place.result c.self.inside.files.items at c.index_mut.result.now c.mark_removed.new.self c.index_mut.ensures.value (λ e. record e { state = marked e.state }) c.mark_removed.ensures in
    let finished : is_some (bytes_of (file_entry old.files c.args.name)) ≡ true = subst (λ (k : Kept). is_some (bytes_of (file_entry k.files c.args.name)) ≡ true) (sym c.self.view_is) c.requires.unread.0 in
    failed_remove_image old c.args.name c.finished_place-place.result at c.mark_removed.new.self finished v
    ∙ ap (λ (k : Kept). after_failed_remove c.args.name (image_of k)) c.self.view_is

pub invariant_of-self-2 : goal.invariant_of-self-2
invariant_of-self-2 c =
    let at = subst (λ (k : Kept). IsAt (λ (e : FileEntry). e.number) c.args.name c.finished_place-place.result k.files) (sym c.self.view_is) c.finished_place-place.ensures.there in
    (c.self.invariant.0, subst (λ (xs : List FileEntry). IsTable (λ (e : FileEntry). e.number) xs) (sym c.remove.ensures.items) (table_remove (λ (e : FileEntry). e.number) c.args.name c.finished_place-place.result c.self.inside.files.items at c.self.invariant.1))

pub returns-clause-ok : goal.returns-clause-ok
returns-clause-ok c =
    let old : Kept = the_view c.self.inside in
    let at = subst (λ (k : Kept). IsAt (λ (e : FileEntry). e.number) c.args.name c.finished_place-place.result k.files) (sym c.self.view_is) c.finished_place-place.ensures.there in
    let finished : is_some (bytes_of (file_entry old.files c.args.name)) ≡ true = subst (λ (k : Kept). is_some (bytes_of (file_entry k.files c.args.name)) ≡ true) (sym c.self.view_is) c.requires.unread.0 in
    let unread : readers_of (file_entry old.files c.args.name) ≡ 0 = subst (λ (k : Kept). readers_of (file_entry k.files c.args.name) ≡ 0) (sym c.self.view_is) c.requires.unread.1 in
    ap (λ (xs : List FileEntry). image_of (record old { files = xs })) c.remove.ensures.items
    ∙ remove_image old c.args.name c.finished_place-place.result at c.self.invariant.1 finished unread
    ∙ ap (λ (k : Kept). after_remove c.args.name (image_of k)) c.self.view_is
