use Rattle.std.proofs.Common.{◌≡◌, ◌-◌, List, sym, ap, ◌∙◌, subst}
use Rattle.td_outside.specs.Files.{after_close}
use Rattle.td_memdev.specs.Kept.{Kept, image_of, state_readers}
use Rattle.td_memdev.specs.Tables.{IsAt}
use Rattle.td_memdev.specs.Entries.{with_readers}
use Rattle.td_memdev.specs.Handles.{Reading}
use Rattle.td_memdev.specs.declared.files.FileEntry.{FileEntry}
use Rattle.td_memdev.specs.contracts.store.MemStore.{the_view}
use Rattle.td_memdev.proofs.Changes.{entry_is, edited, table_set, close_image}
use Rattle.td_memdev.proofs.store.MemStoreStore.close_file.Goals as goal

pub invariant_of-self : goal.invariant_of-self
invariant_of-self c =
    let at = subst (λ (xs : List FileEntry). IsAt (λ (e : FileEntry). e.number) c.r.inside.number c.in-Some.place xs) c.deref.ensures.value c.in-Some.ensures.found in
    let v = edited (λ (e : FileEntry). e.number) c.r.inside.number c.in-Some.place c.self.inside.files.items at c.index_mut.result.now c.set_readers.new.self c.index_mut.ensures.value (λ e. record e { state = with_readers c.saturating_sub.result e.state }) c.set_readers.ensures in
    (c.self.invariant.0, table_set (λ (e : FileEntry). e.number) c.r.inside.number c.in-Some.place c.self.inside.files.items at c.set_readers.new.self (ap (λ (e : FileEntry). e.number) v ∙ at.number_is) c.self.invariant.1)

pub returns-in-Some-clause-ok : goal.returns-in-Some-clause-ok
returns-in-Some-clause-ok c =
    let old : Kept = the_view c.self.inside in
    let at = subst (λ (xs : List FileEntry). IsAt (λ (e : FileEntry). e.number) c.r.inside.number c.in-Some.place xs) c.deref.ensures.value c.in-Some.ensures.found in
    let v = edited (λ (e : FileEntry). e.number) c.r.inside.number c.in-Some.place c.self.inside.files.items at c.index_mut.result.now c.set_readers.new.self c.index_mut.ensures.value (λ e. record e { state = with_readers c.saturating_sub.result e.state }) c.set_readers.ensures in
    let same : c.index.result.now ≡ c.index_mut.result.now = entry_is (λ (e : FileEntry). e.number) c.r.inside.number c.in-Some.place c.self.inside.files.items at c.index.result.now c.index.ensures ∙ sym (entry_is (λ (e : FileEntry). e.number) c.r.inside.number c.in-Some.place c.self.inside.files.items at c.index_mut.result.now c.index_mut.ensures.value) in
    let counts : c.saturating_sub.result ≡ state_readers c.index_mut.result.now.state - 1 = c.saturating_sub.ensures ∙ ap (λ r. r - 1) c.readers-readers.ensures ∙ ap (λ (e : FileEntry). state_readers e.state - 1) same in
    close_image old c.r.inside.number c.in-Some.place c.saturating_sub.result at c.index_mut.result.now c.set_readers.new.self (entry_is (λ (e : FileEntry). e.number) c.r.inside.number c.in-Some.place c.self.inside.files.items at c.index_mut.result.now c.index_mut.ensures.value) counts v
    ∙ ap (λ (k : Kept). after_close c.r.inside.number (image_of k)) c.self.view_is
    ∙ ap (λ (r : Reading). after_close r.number (image_of c.args.self.now)) c.r.view_is
