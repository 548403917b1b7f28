use Rattle.std.proofs.Common.{[], ◌∷◌, refl}
use Rattle.td_store_tests.proofs.Filling.{filled}
use Rattle.td_store_tests.proofs.memory.store_of.Goals as goal

pub returns : goal.returns
returns c = filled _ _ _ _ (5 ∷ 0 ∷ []) _ refl c.in_ok-logs.ensures c.in_ok-files.ensures c.in_ok-store.ensures.image
