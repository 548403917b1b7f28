use Rattle.std.proofs.Common.{◌∙◌, ap, subst}
use Rattle.td_memdev.specs.Kept.{Kept, image_of}
use Rattle.td_memdev.specs.Entries.{numbers_of}
use Rattle.td_outside.specs.Files.{NamesFiles}
use Rattle.td_memdev.specs.contracts.store.MemStore.{the_view}
use Rattle.td_memdev.proofs.Naming.{names_are}
use Rattle.td_memdev.proofs.store.MemStoreStore.names.Goals as goal

pub returns-clause-names : goal.returns-clause-names
returns-clause-names c =
    let is = c.in_ok-names.ensures ∙ ap numbers_of c.deref.ensures.value in
    subst (λ (k : Kept). NamesFiles c.in_ok-names.names (image_of k)) c.self.view_is (names_are (the_view c.self.inside) c.in_ok-names.names is c.self.invariant.1)
