use Rattle.std.proofs.Common.{◌≡◌, Bool, List, [], ◌∷◌, ◌++◌, None, not, if◌then◌else◌, refl, sym, ap, ◌∙◌, subst}
use Rattle.td_outside.specs.Files.{after_create}
use Rattle.td_memdev.specs.Kept.{Kept, image_of, file_entry}
use Rattle.td_memdev.specs.Tables.{IsTable}
use Rattle.td_memdev.specs.declared.files.FileEntry.{FileEntry}
use Rattle.td_memdev.specs.declared.files.FileState.TheVariants.{Making}
use Rattle.td_memdev.specs.contracts.store.MemStore.{the_view}
use Rattle.td_memdev.proofs.Changes.{create_image}
use Rattle.td_memdev.proofs.Finding.{IsTable-push}
use Rattle.td_memdev.proofs.store.MemStoreStore.create.Goals as goal

pub invariant_of-self-2 : goal.invariant_of-self-2
invariant_of-self-2 c =
    let none : file_entry c.self.inside.files.items c.in-Some.number ≡ None = subst (λ (xs : List FileEntry). file_entry xs c.in-Some.number ≡ None) c.deref.ensures.value c.in-Some.ensures.free in
    let made : FileEntry = record { number = c.in-Some.number; state = Making } in
    let items : c.push.new.self.items ≡ c.self.inside.files.items ++ made ∷ [] = subst (λ (b : Bool). c.push.new.self.items ≡ (if b then c.self.inside.files.items ++ made ∷ [] else c.self.inside.files.items)) (c.is_err.ensures.negation ∙ ap not c.if-is_err.false) c.push.ensures.items in
    (c.self.invariant.0, subst (λ (xs : List FileEntry). IsTable (λ (e : FileEntry). e.number) xs) (sym items) (IsTable-push (λ (e : FileEntry). e.number) c.in-Some.number c.self.inside.files.items (record { number = c.in-Some.number; state = Making }) none refl c.self.invariant.1))

pub returns-clause-ok : goal.returns-clause-ok
returns-clause-ok c =
    let old : Kept = the_view c.self.inside in
    let none : file_entry c.self.inside.files.items c.in-Some.number ≡ None = subst (λ (xs : List FileEntry). file_entry xs c.in-Some.number ≡ None) c.deref.ensures.value c.in-Some.ensures.free in
    let made : FileEntry = record { number = c.in-Some.number; state = Making } in
    let items : c.push.new.self.items ≡ c.self.inside.files.items ++ made ∷ [] = subst (λ (b : Bool). c.push.new.self.items ≡ (if b then c.self.inside.files.items ++ made ∷ [] else c.self.inside.files.items)) (c.is_err.ensures.negation ∙ ap not c.if-is_err.false) c.push.ensures.items in
    ap (λ (xs : List FileEntry). image_of (record old { files = xs })) items
    ∙ create_image old c.in-Some.number none
    ∙ ap (λ (k : Kept). after_create c.in-Some.number (image_of k)) c.self.view_is
