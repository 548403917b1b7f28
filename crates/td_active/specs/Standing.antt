-- What a call on a store keeps of the states that its image stands for. The states of one version alone are spoken of: an
-- image with a log above the second stands for none of the version of its core, and may come to stand for others.
use Rattle.std.specs.Prelude.{◌≡◌, ◌⊎◌, ℕ, [], ◌∷◌}
use Rattle.td_model.specs.declared.history.Entry.{Entry}
use Rattle.td_model.specs.State.{State, step}
use Rattle.td_outside.specs.Image.{Image}
use Rattle.td_stands.specs.Stands.{Stands}

-- The image stands for each state of this version that it stood for; its files hold what they held, and the same readers
-- are open.
pub record KeepsStanding (version : ℕ) (before now : Image) : Type 0 where
  pub stands : (s : State) → s.version ≡ version → Stands before s → Stands now s
  pub files : now.files ≡ before.files
  pub readers : now.readers ≡ before.readers

-- Of each state of this version that the image stood for, it stands for the one that an entry makes of it.
pub record StandsAfter (version : ℕ) (e : Entry) (before now : Image) : Type 0 where
  pub stands : (s : State) → s.version ≡ version → Stands before s → Stands now (step (s ∷ []) e)
  pub files : now.files ≡ before.files
  pub readers : now.readers ≡ before.readers

-- Of each state of this version that the image stood for, it stands for that one or for the one that an entry makes of
-- it.
pub record StandsEither (version : ℕ) (e : Entry) (before now : Image) : Type 0 where
  pub stands : (s : State) → s.version ≡ version → Stands before s → Stands now s ⊎ Stands now (step (s ∷ []) e)
  pub files : now.files ≡ before.files
  pub readers : now.readers ≡ before.readers
