-- Tables: lists of entries, each with a number of its own.
use Rattle.std.specs.Prelude.{◌≡◌, ℕ, ◌<◌, ◌≤◌, if◌then◌else◌, ◌==◌, List, [], ◌∷◌, take, Option, Some, None, IsSome, slice_get}

-- the first entry of a number
abbrev pub find : {T : Type 0} → (T → ℕ) → ℕ → List T → Option T
find number n [] = None
find number n (entry ∷ entries) = (if n == number entry then Some entry else find number n entries)

-- no number stands twice
abbrev pub IsTable : {T : Type 0} → (T → ℕ) → List T → Type 0
IsTable number [] = Unit {0}
IsTable number (entry ∷ entries) = (find number (number entry) entries ≡ None) × IsTable number entries

-- an entry of this number stands at a place, and none before
pub record IsAt {T : Type 0} (number : T → ℕ) (n place : ℕ) (entries : List T) : Type 0 where
  pub entry : T
  pub there : slice_get entries place ≡ Some entry
  pub number_is : number entry ≡ n
  pub first : find number n (take place entries) ≡ None

-- each number from one on and below another has an entry
abbrev pub AreTaken : {T : Type 0} → (T → ℕ) → ℕ → ℕ → List T → Type 0
AreTaken number from to entries = (n : ℕ) → from ≤ n → n < to → IsSome (find number n entries)
