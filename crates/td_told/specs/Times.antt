-- The moments of a history beside the readings of a clock.
use Rattle.std.specs.Prelude.{◌≡◌, ◌⊎◌, ℕ, zero, suc, ◌≤◌, Bool, true, false, not, List, [], ◌∷◌, filter, Option, Some, None, slice_get}
use Rattle.td_model.specs.declared.history.What.{What}
use Rattle.td_model.specs.declared.history.What.TheVariants as what
use Rattle.td_model.specs.declared.history.Entry.{Entry}

-- the i-th reading, from 0, of which the last repeats
abbrev pub reading : List ℕ → ℕ → ℕ
reading [] i = 0
reading (t ∷ []) i = t
reading (t ∷ u ∷ ts) zero = t
reading (t ∷ u ∷ ts) (suc i) = reading (u ∷ ts) i

-- the readings that are left after some were taken
abbrev pub left_after : List ℕ → ℕ → List ℕ
left_after [] n = []
left_after (t ∷ ts) zero = t ∷ ts
left_after (t ∷ []) (suc n) = t ∷ []
left_after (t ∷ u ∷ ts) (suc n) = left_after (u ∷ ts) n

-- Where the clock told its readings, n were taken between two moments.
abbrev pub WereTaken : Option (List ℕ) → ℕ → Option (List ℕ) → Type 0
WereTaken None n now = Unit {0}
WereTaken (Some readings) n now = now ≡ Some (left_after readings n)

abbrev pub is_halt : What → Bool
is_halt what.Halt = true
is_halt w = false

-- the entries that aren't halts
abbrev pub without_halts : List Entry → List Entry
without_halts h = filter (λ (e : Entry). not (is_halt e.what)) h

-- a moment is b's or a reading
abbrev pub IsGiven : List ℕ → ℕ → ℕ → Type 0
IsGiven readings b moment = (moment ≡ b) ⊎ ((i : ℕ) × (moment ≡ reading readings i))

-- The moment of the k-th entry that isn't a halt is at least each of the first k readings, and the moment of each entry
-- is b's moment or a reading.
pub record AreTimed (readings : List ℕ) (b : ℕ) (h : List Entry) : Type 0 where
  pub late : (k : ℕ) (e : Entry) → slice_get (without_halts h) k ≡ Some e
      → (i : ℕ) → i ≤ k → reading readings i ≤ e.moment
  pub among : (k : ℕ) (e : Entry) → slice_get h k ≡ Some e → IsGiven readings b e.moment

-- so it is where the clock told its readings
abbrev pub Timed : Option (List ℕ) → ℕ → List Entry → Type 0
Timed None b h = Unit {0}
Timed (Some readings) b h = AreTimed readings b h
