use Rattle.std.proofs.Common.{◌≡◌, List, map, length, take, drop, ◌++◌, sym, ap, ◌∙◌, subst}
use Rattle.td_memdev.specs.Kept.{Kept, image_of}
use Rattle.td_memdev.specs.Entries.{closed, as_entered}
use Rattle.td_memdev.specs.Tables.{IsTable}
use Rattle.td_memdev.specs.contracts.store.MemStore.{the_view}
use Rattle.td_memdev.specs.declared.files.FileEntry.{FileEntry}
use Rattle.td_memdev.proofs.Resting.{at_rest_image, closed_table, closed_whole}
use Rattle.td_memdev.proofs.store.MemStore.begin.Goals as goal

pub invariant_of-self : goal.invariant_of-self
invariant_of-self c =
    let files : take c.self.inside.files.len (c.close_all.new.files ++ drop (length c.close_all.new.files) c.self.inside.files.items) ≡ map closed c.self.inside.files.items = closed_whole c.self.inside.files.len c.self.inside.files.items c.deref_mut.result.now c.close_all.new.files c.deref_mut.ensures.value c.deref_mut.ensures.len c.close_all.ensures in (
      c.self.invariant.0,
      subst (λ (xs : List FileEntry). IsTable (λ e. e.number) xs) (sym files) (closed_table c.self.inside.files.items c.self.invariant.1),
    )

pub returns-clause-begun : goal.returns-clause-begun
returns-clause-begun c =
    let old : Kept = the_view c.self.inside in
    let files : take c.self.inside.files.len (c.close_all.new.files ++ drop (length c.close_all.new.files) c.self.inside.files.items) ≡ map closed c.self.inside.files.items = closed_whole c.self.inside.files.len c.self.inside.files.items c.deref_mut.result.now c.close_all.new.files c.deref_mut.ensures.value c.deref_mut.ensures.len c.close_all.ensures in
    (λ i. record old { files = files i; track = c.forget.ensures i }) ∙ ap as_entered c.self.view_is

pub returns-clause-image : goal.returns-clause-image
returns-clause-image c = ap image_of (returns-clause-begun c) ∙ at_rest_image c.args.self.now
