use Rattle.std.proofs.Common.{◌≡◌, true, false, slice_set, refl, sym, ap, ◌∙◌, subst}
use Rattle.td_outside.specs.Image.{Image}
use Rattle.td_outside.specs.Files.{GivesUp, Finishes}
use Rattle.td_memdev.specs.Kept.{Kept, image_of, file_entry, is_making}
use Rattle.td_memdev.specs.Handles.{Writing}
use Rattle.td_memdev.specs.declared.files.FileEntry.{FileEntry}
use Rattle.td_memdev.specs.declared.files.FileState.TheVariants.{Lost, Finished}
use Rattle.td_memdev.specs.contracts.store.MemStore.{the_view}
use Rattle.td_memdev.proofs.Changes.{edited, table_set, finish_image, lost_image, foreign_image}
use Rattle.td_memdev.proofs.store.MemStoreStore.finish.Goals.{then-not-fails, else-not-fails}
use Rattle.td_memdev.proofs.store.MemStoreStore.finish.Goals as goal

pub returns-in_default-clause-failed : goal.returns-in_default-clause-failed
returns-in_default-clause-failed c =
    let making : (image_of c.args.self.now).making c.args.w.number ≡ false = subst (λ (k : Kept). is_making (file_entry k.files c.args.w.number) ≡ false) c.self.view_is (subst (λ (w : Writing). is_making (file_entry c.self.inside.files.items w.number) ≡ false) c.w.view_is (sym c.in_default.ensures.making)) in
    let same : image_of c.if-not-fails.self ≡ image_of c.args.self.now = elim c.if-not-fails.branch [ then-not-fails w ↦ ap image_of w.self-is ∙ ap image_of c.self.view_is | else-not-fails w ↦ ap image_of w.self-is ∙ ap image_of c.self.view_is ] in
    subst (λ (image : Image). GivesUp c.args.w.number (image_of c.args.self.now) image) (sym same) (foreign_image (image_of c.args.self.now) c.args.w.number making)

pub invariant_of-self-then-fails : goal.invariant_of-self-then-fails
invariant_of-self-then-fails c =
    let at = c.in-Some.ensures.there in
    let v = edited (λ (e : FileEntry). e.number) c.w.inside.number c.in-Some.place c.self.inside.files.items at c.index_mut.result.now (record { number = c.index_mut.result.now.number; state = Lost }) c.index_mut.ensures.value (λ e. record e { state = Lost }) refl in
    (c.self.invariant.0, table_set (λ (e : FileEntry). e.number) c.w.inside.number c.in-Some.place c.self.inside.files.items at (record { number = c.index_mut.result.now.number; state = Lost }) (ap (λ (e : FileEntry). e.number) v ∙ at.number_is) c.self.invariant.1)

pub returns-then-fails-clause-failed : goal.returns-then-fails-clause-failed
returns-then-fails-clause-failed c =
    let old : Kept = the_view c.self.inside in
    let at = c.in-Some.ensures.there in
    let v = edited (λ (e : FileEntry). e.number) c.w.inside.number c.in-Some.place c.self.inside.files.items at c.index_mut.result.now (record { number = c.index_mut.result.now.number; state = Lost }) c.index_mut.ensures.value (λ e. record e { state = Lost }) refl in
    let making : is_making (file_entry old.files c.w.inside.number) ≡ true = sym c.in-Some.ensures.making in
    subst (λ (k : Kept). GivesUp c.args.w.number (image_of k) (image_of (record old { files = slice_set old.files c.in-Some.place (record { number = c.index_mut.result.now.number; state = Lost }) }))) c.self.view_is (subst (λ (w : Writing). GivesUp w.number (image_of old) (image_of (record old { files = slice_set old.files c.in-Some.place (record { number = c.index_mut.result.now.number; state = Lost }) }))) c.w.view_is
    (lost_image old c.w.inside.number c.in-Some.place at (record { number = c.index_mut.result.now.number; state = Lost }) making v))

pub invariant_of-self-2 : goal.invariant_of-self-2
invariant_of-self-2 c =
    let at = c.in-Some.ensures.there in
    let v = edited (λ (e : FileEntry). e.number) c.w.inside.number c.in-Some.place c.self.inside.files.items at c.index_mut-2.result.now (record { number = c.index_mut-2.result.now.number; state = Finished (record { bytes = c.w.inside.bytes; readers = 0; removed = false }) }) c.index_mut-2.ensures.value (λ e. record e { state = Finished (record { bytes = c.w.inside.bytes; readers = 0; removed = false }) }) refl in
    (c.self.invariant.0, table_set (λ (e : FileEntry). e.number) c.w.inside.number c.in-Some.place c.self.inside.files.items at (record { number = c.index_mut-2.result.now.number; state = Finished (record { bytes = c.w.inside.bytes; readers = 0; removed = false }) }) (ap (λ (e : FileEntry). e.number) v ∙ at.number_is) c.self.invariant.1)

pub returns-clause-ok : goal.returns-clause-ok
returns-clause-ok c =
    let old : Kept = the_view c.self.inside in
    let at = c.in-Some.ensures.there in
    let v = edited (λ (e : FileEntry). e.number) c.w.inside.number c.in-Some.place c.self.inside.files.items at c.index_mut-2.result.now (record { number = c.index_mut-2.result.now.number; state = Finished (record { bytes = c.w.inside.bytes; readers = 0; removed = false }) }) c.index_mut-2.ensures.value (λ e. record e { state = Finished (record { bytes = c.w.inside.bytes; readers = 0; removed = false }) }) refl in
    let making : is_making (file_entry old.files c.w.inside.number) ≡ true = sym c.in-Some.ensures.making in
    subst (λ (k : Kept). Finishes c.args.w.number c.w.inside.number c.args.w.written (image_of k) (image_of (record old { files = slice_set old.files c.in-Some.place (record { number = c.index_mut-2.result.now.number; state = Finished (record { bytes = c.w.inside.bytes; readers = 0; removed = false }) }) }))) c.self.view_is (subst (λ (w : Writing). Finishes w.number c.w.inside.number w.written (image_of old) (image_of (record old { files = slice_set old.files c.in-Some.place (record { number = c.index_mut-2.result.now.number; state = Finished (record { bytes = c.w.inside.bytes; readers = 0; removed = false }) }) }))) c.w.view_is
    (finish_image old c.w.inside.number c.in-Some.place c.w.inside.bytes at (record { number = c.index_mut-2.result.now.number; state = Finished (record { bytes = c.w.inside.bytes; readers = 0; removed = false }) }) making v))
