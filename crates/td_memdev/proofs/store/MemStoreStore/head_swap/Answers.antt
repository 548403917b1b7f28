use Rattle.std.proofs.Common.{ℕ, List, [], ◌∷◌, ◌++◌, ap, ◌∙◌, subst}
use Rattle.td_outside.specs.Files.{SwapFails}
use Rattle.td_memdev.specs.Kept.{Kept, image_of}
use Rattle.td_memdev.specs.contracts.store.MemStore.{the_view}
use Rattle.td_memdev.proofs.Changes.{swap_fails}
use Rattle.td_memdev.proofs.store.MemStoreStore.head_swap.Goals as goal

pub returns-then-will_fail-clause-failed : goal.returns-then-will_fail-clause-failed
returns-then-will_fail-clause-failed c _ =
    subst (λ (k : Kept). SwapFails c.args.bytes.now (image_of k) (image_of (record (the_view c.self.inside) { heads = c.add.new.self }))) c.self.view_is
    (swap_fails (the_view c.self.inside) c.add.new.self c.args.bytes.now (c.in_ok-add.ensures.ok ∙ ap (λ (h : List ℕ). c.self.inside.heads ++ h ∷ []) c.in_ok-head.ensures))
