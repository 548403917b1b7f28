use Rattle.std.proofs.Common.{◌≡◌, true, false, List, Some, sym, ap, ◌∙◌, subst}
use Rattle.td_memdev.specs.Kept.{Kept, file_entry, is_making}
use Rattle.td_memdev.specs.Tables.{IsAt}
use Rattle.td_memdev.specs.declared.files.FileEntry.{FileEntry}
use Rattle.td_memdev.proofs.Changes.{state_is}
use Rattle.td_memdev.proofs.store.MemStore.making_place.Goals as goal

pub returns-then-is_making-clause-making : goal.returns-then-is_making-clause-making
returns-then-is_making-clause-making c =
    let at = subst (λ (xs : List FileEntry). IsAt (λ (e : FileEntry). e.number) c.args.number c.in_ok-place.place xs) c.deref.ensures.value c.in_ok-place.ensures.found in
    let there : file_entry c.self.inside.files.items c.args.number ≡ Some c.index.result.now = state_is c.self.inside.files.items c.args.number c.in_ok-place.place at c.index.result.now c.index.ensures in
    let is : is_making (file_entry c.self.inside.files.items c.args.number) ≡ true = ap is_making there ∙ sym c.is_making.ensures ∙ c.if-is_making.true in
    subst (λ (k : Kept). true ≡ is_making (file_entry k.files c.args.number)) c.self.view_is (sym is)

pub returns-else-is_making-clause-making : goal.returns-else-is_making-clause-making
returns-else-is_making-clause-making c =
    let at = subst (λ (xs : List FileEntry). IsAt (λ (e : FileEntry). e.number) c.args.number c.in_ok-place.place xs) c.deref.ensures.value c.in_ok-place.ensures.found in
    let there : file_entry c.self.inside.files.items c.args.number ≡ Some c.index.result.now = state_is c.self.inside.files.items c.args.number c.in_ok-place.place at c.index.result.now c.index.ensures in
    let is : is_making (file_entry c.self.inside.files.items c.args.number) ≡ false = ap is_making there ∙ sym c.is_making.ensures ∙ c.if-is_making.false in
    subst (λ (k : Kept). false ≡ is_making (file_entry k.files c.args.number)) c.self.view_is (sym is)
