use Rattle.std.proofs.Common.{◌≡◌, ℕ, ◌+◌, true, List, Some, None, is_some, sym, ap, ◌∙◌, subst}
use Rattle.td_outside.specs.Files.{after_open}
use Rattle.td_memdev.specs.Kept.{Kept, image_of, file_entry, bytes_of, state_bytes, state_readers}
use Rattle.td_memdev.specs.Tables.{IsAt}
use Rattle.td_memdev.specs.Entries.{with_readers}
use Rattle.td_memdev.specs.declared.files.FileEntry.{FileEntry}
use Rattle.td_memdev.specs.contracts.store.MemStore.{the_view}
use Rattle.td_memdev.proofs.Changes.{entry_is, edited, table_set, open_image, state_is}
use Rattle.std.specs.Option.{option_copied}
use Rattle.td_memdev.proofs.Changes.{true_false}
use Rattle.td_memdev.proofs.store.MemStoreStore.open_file.Goals as goal

pub unreachable-requires : goal.unreachable-requires
unreachable-requires c =
    let old : Kept = the_view c.self.inside in
    let at = subst (λ (k : Kept). IsAt (λ (e : FileEntry). e.number) c.args.name c.finished_place-place.result k.files) (sym c.self.view_is) c.finished_place-place.ensures.there in
    let finished : is_some (bytes_of (file_entry old.files c.args.name)) ≡ true = subst (λ (k : Kept). is_some (bytes_of (file_entry k.files c.args.name)) ≡ true) (sym c.self.view_is) c.requires.finished in
    let there : file_entry old.files c.args.name ≡ Some c.index.result.now = state_is old.files c.args.name c.finished_place-place.result at c.index.result.now c.index.ensures in
    let none : None ≡ state_bytes c.index.result.now.state = sym (ap option_copied c.in_default.is) ∙ c.bytes.ensures in
    true_false (sym finished ∙ ap (λ r. is_some (bytes_of r)) there ∙ ap is_some (sym none))

pub invariant_of-self-2 : goal.invariant_of-self-2
invariant_of-self-2 c =
    let at = subst (λ (k : Kept). IsAt (λ (e : FileEntry). e.number) c.args.name c.finished_place-place.result k.files) (sym c.self.view_is) c.finished_place-place.ensures.there in
    let v = edited (λ (e : FileEntry). e.number) c.args.name c.finished_place-place.result c.self.inside.files.items at c.index_mut.result.now c.set_readers.new.self c.index_mut.ensures.value (λ e. record e { state = with_readers c.in-Some-checked_add.readers e.state }) c.set_readers.ensures in
    (c.self.invariant.0, table_set (λ (e : FileEntry). e.number) c.args.name c.finished_place-place.result c.self.inside.files.items at c.set_readers.new.self (ap (λ (e : FileEntry). e.number) v ∙ at.number_is) c.self.invariant.1)

pub returns-clause-ok : goal.returns-clause-ok
returns-clause-ok c =
    let old : Kept = the_view c.self.inside in
    let at = subst (λ (k : Kept). IsAt (λ (e : FileEntry). e.number) c.args.name c.finished_place-place.result k.files) (sym c.self.view_is) c.finished_place-place.ensures.there in
    let v = edited (λ (e : FileEntry). e.number) c.args.name c.finished_place-place.result c.self.inside.files.items at c.index_mut.result.now c.set_readers.new.self c.index_mut.ensures.value (λ e. record e { state = with_readers c.in-Some-checked_add.readers e.state }) c.set_readers.ensures in
    let finished : is_some (bytes_of (file_entry old.files c.args.name)) ≡ true = subst (λ (k : Kept). is_some (bytes_of (file_entry k.files c.args.name)) ≡ true) (sym c.self.view_is) c.requires.finished in
    let same : c.index-2.result.now ≡ c.index_mut.result.now = entry_is (λ (e : FileEntry). e.number) c.args.name c.finished_place-place.result c.self.inside.files.items at c.index-2.result.now c.index-2.ensures ∙ sym (entry_is (λ (e : FileEntry). e.number) c.args.name c.finished_place-place.result c.self.inside.files.items at c.index_mut.result.now c.index_mut.ensures.value) in
    let counts : c.in-Some-checked_add.readers ≡ state_readers c.index_mut.result.now.state + 1 = c.in-Some-checked_add.ensures.1 ∙ ap (λ r. r + 1) c.readers.ensures ∙ ap (λ (e : FileEntry). state_readers e.state + 1) same in
    open_image old c.args.name c.finished_place-place.result c.in-Some-checked_add.readers at c.index_mut.result.now c.set_readers.new.self (entry_is (λ (e : FileEntry). e.number) c.args.name c.finished_place-place.result c.self.inside.files.items at c.index_mut.result.now c.index_mut.ensures.value) finished counts v
    ∙ ap (λ (k : Kept). after_open c.args.name (image_of k)) c.self.view_is

pub returns-clause-bytes : goal.returns-clause-bytes
returns-clause-bytes c =
    let old : Kept = the_view c.self.inside in
    let at = subst (λ (k : Kept). IsAt (λ (e : FileEntry). e.number) c.args.name c.finished_place-place.result k.files) (sym c.self.view_is) c.finished_place-place.ensures.there in
    let there : file_entry old.files c.args.name ≡ Some c.index.result.now = state_is old.files c.args.name c.finished_place-place.result at c.index.result.now c.index.ensures in
    ap (λ (b : List ℕ). Some b) c.in_ok-bytes.ensures ∙ c.in-Some.ensures ∙ sym (ap bytes_of there) ∙ ap (λ (k : Kept). bytes_of (file_entry k.files c.args.name)) c.self.view_is
