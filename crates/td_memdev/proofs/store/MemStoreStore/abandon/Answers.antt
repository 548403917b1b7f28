use Rattle.std.proofs.Common.{◌≡◌, true, false, List, remove, sym, ap, subst}
use Rattle.td_outside.specs.Image.{Image}
use Rattle.td_outside.specs.Files.{GivesUp}
use Rattle.td_memdev.specs.Kept.{Kept, image_of, file_entry, is_making}
use Rattle.td_memdev.specs.Tables.{IsTable}
use Rattle.td_memdev.specs.Handles.{Writing}
use Rattle.td_memdev.specs.declared.files.FileEntry.{FileEntry}
use Rattle.td_memdev.specs.contracts.store.MemStore.{the_view}
use Rattle.td_memdev.proofs.Changes.{table_remove, abandon_image, foreign_image}
use Rattle.td_memdev.proofs.store.MemStoreStore.abandon.Goals as goal

pub invariant_of-self-in-Some : goal.invariant_of-self-in-Some
invariant_of-self-in-Some c =
    let at = c.in-Some.ensures.there in
    (c.self.invariant.0, subst (λ (xs : List FileEntry). IsTable (λ (e : FileEntry). e.number) xs) (sym c.remove.ensures.items) (table_remove (λ (e : FileEntry). e.number) c.w.inside.number c.in-Some.place c.self.inside.files.items at c.self.invariant.1))

pub returns-in-Some-clause-ok : goal.returns-in-Some-clause-ok
returns-in-Some-clause-ok c =
    let old : Kept = the_view c.self.inside in
    let at = c.in-Some.ensures.there in
    let making : is_making (file_entry old.files c.w.inside.number) ≡ true = sym c.in-Some.ensures.making in
    subst (λ (xs : List FileEntry). GivesUp c.args.w.number (image_of c.args.self.now) (image_of (record old { files = xs }))) (sym c.remove.ensures.items)
    (subst (λ (k : Kept). GivesUp c.args.w.number (image_of k) (image_of (record old { files = remove old.files c.in-Some.place }))) c.self.view_is (subst (λ (w : Writing). GivesUp w.number (image_of old) (image_of (record old { files = remove old.files c.in-Some.place }))) c.w.view_is
    (abandon_image old c.w.inside.number c.in-Some.place at c.self.invariant.1 making)))

pub returns-clause-ok : goal.returns-clause-ok
returns-clause-ok c =
    let making : (image_of c.args.self.now).making c.args.w.number ≡ false = subst (λ (k : Kept). is_making (file_entry k.files c.args.w.number) ≡ false) c.self.view_is (subst (λ (w : Writing). is_making (file_entry c.self.inside.files.items w.number) ≡ false) c.w.view_is (sym c.in_default.ensures.making)) in
    subst (λ (image : Image). GivesUp c.args.w.number (image_of c.args.self.now) image) (sym (ap image_of c.self.view_is)) (foreign_image (image_of c.args.self.now) c.args.w.number making)
