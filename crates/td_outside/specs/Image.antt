-- What a store tells of itself.
use Rattle.std.specs.Prelude.{◌≡◌, ℕ, Bool, false, if◌then◌else◌, ◌==◌, List, [], Option, Some, None}

-- A log: the bytes that a read gives, how long it was when it was synced last, and from where on and up to where it was
-- written since, where it was.
pub record Log : Type 0 where
  pub bytes : List ℕ
  pub stable : ℕ
  pub unsynced : Option (ℕ × ℕ)

-- What calls that failed leave open: what a crash may bring about although a read doesn't show it.
pub record Doubt : Type 0 where
  -- heads that may stand in the place of the head
  pub heads : List (Option (List ℕ))
  -- numbers at which there may be a new log
  pub fresh : ℕ → Bool
  -- logs that may be gone
  pub gone : ℕ → Bool
  -- numbers under which there may be an unfinished file: its writer is spent
  pub strays : ℕ → Bool
  -- finished files that may be gone
  pub removed : ℕ → Bool

-- The image of a store: its head, or none; its logs by number; its finished files by number; the names of the files in
-- making; how many readers of each file are open; and what is in doubt.
pub record Image : Type 0 where
  pub head : Option (List ℕ)
  pub logs : ℕ → Option Log
  pub files : ℕ → Option (List ℕ)
  pub making : ℕ → Bool
  pub readers : ℕ → ℕ
  pub doubt : Doubt

-- a map with another value at a number
abbrev pub put : {A : Type 0} → ℕ → A → (ℕ → A) → ℕ → A
put n value map m = (if m == n then value else map m)

-- What is told before and what is told after stand in a relation; it is told after exactly where it is told before.
abbrev pub Along : {A : Type 0} → (A → A → Type 0) → Option A → Option A → Type 0
Along R None None = Unit {0}
Along R (Some old) (Some new) = R old new
Along R None (Some new) = ⊥
Along R (Some old) None = ⊥

-- what is told after is made of what is told before
abbrev pub Becomes : {A : Type 0} → (A → A) → Option A → Option A → Type 0
Becomes f before after = Along (λ old new. new ≡ f old) before after

-- nothing is in doubt
abbrev pub no_doubt : Doubt
no_doubt = record { heads = []; fresh = λ n. false; gone = λ n. false; strays = λ n. false; removed = λ n. false }

-- the image with no reader open
abbrev pub at_rest : Image → Image
at_rest image = record image { readers = λ n. 0 }
