-- The rule of the turn, and what each step tells.
-- Word 0 is the front, word 1 the number of tickets that were drawn, and word 2 the ticket that is served. The one slot
-- has the value.
use Rattle.std.specs.Prelude.{◌≡◌, ◌≢◌, ℕ, ◌+◌, ◌^◌, ◌<◌, ◌≤◌, ◌⊎◌, List, [], ◌∷◌, length, Option, Some, None}
use mathlib.Core.Option.{some, none}
use mathlib.Core.Option as maybe
use mathlib.Core.List.{IsPrefix}
use lib.ListN.{get_elem?}
use Rattle.atomic_table.specs.Table.{State, Me, Step, rest}
use Rattle.td_limits.specs.declared.limits.TheConstants.{PASS_PARTS}
use Rattle.td_turn.specs.declared.rule.View.{View}
use Rattle.td_turn.specs.declared.rule.Stage.{Stage}
use Rattle.td_turn.specs.declared.rule.Stage.TheVariants.{Idle, Waits, Holds}
use Rattle.td_turn.specs.Passes.{numbers_from, versions_after, times}
use Rattle.td_turn.specs.Views.{total, ticket_at, slot_at, at_stage, taken_view, counted_view, told_view}

module _ {S B E : Type 0} (base_of : S → B) (first_of : B → ℕ) (list_of : S → List E) where
  module _ (base : B) where
    -- a view whose seat holds the value has the ticket that is served, and has seen the whole history
    abbrev pub IsServed : ℕ → List E → List E → Stage → Type 0
    IsServed serving history seen Idle = Unit {0}
    IsServed serving history seen (Waits t) = Unit {0}
    IsServed serving history seen (Holds t) = (t ≡ serving) × (seen ≡ history)

    -- what a view saw begins the history; a view without a part has no ticket, and its lists are empty
    pub record Fits (serving : ℕ) (history : List E) (v : View B E) : Type 0 where
      pub seen : IsPrefix v.seen history
      pub also : IsPrefix v.also history
      pub served : IsServed serving history v.seen v.stage
      pub spent : v.parts ≡ 0 → (v.stage ≡ Idle) × (v.versions ≡ []) × (v.seen ≡ [])

    -- the slot is at home, with a value of this base whose list is the history, or one view has it
    abbrev pub AtHome : List E → List (maybe.Option (Option S)) → ℕ → Type 0
    AtHome history homes out = (x : S) × (homes ≡ some (Some x) ∷ [])
        × (base_of x ≡ base) × (list_of x ≡ history) × (out ≡ 0)

    abbrev pub IsOut : List (maybe.Option (Option S)) → ℕ → Type 0
    IsOut homes out = (homes ≡ none ∷ []) × (out ≡ 1)

    pub record IsKept (s : State (Option S) (View B E)) : Type 0 where
      pub history : List E
      pub serving : ℕ
      -- how many views have a ticket
      pub holders : ℕ
      pub words : s.words ≡ length history ∷ (serving + holders) ∷ serving ∷ []
      pub room : serving + holders < 2 ^ 64
      -- their tickets are the numbers from the one that is served on, each once
      pub tickets : (t : ℕ) → total (λ v. ticket_at t v.stage) s.views ≡ times t (numbers_from serving holders)
      pub slot : AtHome history s.homes (total (λ v. slot_at v.stage) s.views)
          ⊎ IsOut s.homes (total (λ v. slot_at v.stage) s.views)
      pub each : (j : ℕ) (v : View B E) → get_elem? s.views j ≡ some v → Fits serving history v
      -- every version stands in exactly one view's list
      pub versions : (x : ℕ)
          → total (λ v. times x v.versions) s.views ≡ times x (versions_after (first_of base) (length history))
      pub parts : total (λ v. v.parts) s.views ≡ PASS_PARTS

  abbrev pub Seated : Type 0
  Seated = Me (Option S) (View B E)

  -- where the number of tickets was as expected, that ticket was drawn
  abbrev pub Draws : Step (Option S) → Seated → ℕ → Seated → Type 0
  Draws st m found m' = (found ≡ st.first → (m'.0 ≡ at_stage (Waits st.first) m.0) × (m'.1 ≡ m.1))
      × (found ≢ st.first → m' ≡ m)

  abbrev pub TakesFor : ℕ → Seated → Seated → Type 0
  TakesFor ticket m m' = (x : S) × (Some (base_of x) ≡ m.0.base) × IsPrefix m.0.seen (list_of x)
      × (m'.0 ≡ taken_view ticket (list_of x) m.0) × (m'.1 ≡ (0, Some x) ∷ m.1)

  -- where the number that is served is the view's ticket, the slot was taken
  abbrev pub WatchesAt : Stage → Seated → ℕ → Seated → Type 0
  WatchesAt Idle m found m' = Unit {0}
  WatchesAt (Waits t) m found m' = (found ≡ t → TakesFor t m m') × (found ≢ t → m' ≡ m)
  WatchesAt (Holds t) m found m' = Unit {0}

  abbrev pub Watches : Step (Option S) → Seated → ℕ → Seated → Type 0
  Watches st m found m' = WatchesAt m.0.stage m found m'

  abbrev pub list_if : Option S → List E
  list_if (Some x) = list_of x
  list_if None = []

  -- the list in the slot that was taken last
  abbrev pub list_in : List (ℕ × Option S) → List E
  list_in [] = []
  list_in (x ∷ xs) = list_if x.1

  abbrev pub first_if : Option B → ℕ
  first_if (Some b) = first_of b
  first_if None = 0

  -- the number after which versions are added
  abbrev pub front_of : View B E → ℕ
  front_of v = first_if v.base + length v.seen

  -- the whole list was seen, and the versions that were added are noted
  abbrev pub Counts : Step (Option S) → Seated → ℕ → Seated → Type 0
  Counts st m found m' = (m'.0 ≡ counted_view (front_of m.0) st.first (list_in m.1) m.0) × (m'.1 ≡ m.1)

  -- the slot was given back, and the ticket with it
  abbrev pub Passes : Step (Option S) → Seated → ℕ → Seated → Type 0
  Passes st m found m' = (m'.0 ≡ at_stage Idle m.0) × (m'.1 ≡ rest m.1)

  -- of the two lists of a view, the one begins the other
  abbrev pub Tells : Step (Option S) → Seated → ℕ → Seated → Type 0
  Tells st m found m' = (m'.0 ≡ told_view m.0) × (m'.1 ≡ m.1)
      × (length m.0.also ≤ length m.0.seen → IsPrefix m.0.also m.0.seen)
