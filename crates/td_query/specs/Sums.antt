-- What is kept of rows in their place: how many there are, and a tally for each column that an aggregate is asked of.
use Rattle.std.specs.Prelude.{ℕ, ◌+◌, ◌^◌, ◌<◌, ◌≤◌, List, [], ◌∷◌, map, length, slice_get, Option}
use Rattle.std.specs.Option.{option_map_or}
use Rattle.std.specs.List.{AllByRecursion}
use Rattle.td_aggr.specs.Tallies.{IsSound, merged, shown, tally_of, tally_of_row}
use Rattle.td_aggr.specs.declared.tally.Tally.{Tally}
use Rattle.td_layer.specs.declared.values.Cell.{Cell}
use Rattle.td_layer.specs.declared.values.Cell.TheVariants as cell
use Rattle.td_layer.specs.declared.values.Func.{Func}
use Rattle.td_query.specs.Cuts.{values}
use Rattle.td_verdict.specs.Windowed.{Keyed, value_at}

pub record Sum : Type 0 where
  pub rows : ℕ
  pub tallies : List Tally

-- the sum of rows, over the columns at places
abbrev pub sum_of : List (Option ℕ) → List Keyed → Sum
sum_of places rows = record { rows = length rows; tallies = map (λ place. tally_of (values place rows)) places }

-- each of some things into the one at its place, as far as there is one
abbrev pub by_each : {A B : Type 0} → (A → B → B) → List A → List B → List B
by_each f xs [] = []
by_each f [] (y ∷ ys) = y ∷ ys
by_each f (x ∷ xs) (y ∷ ys) = f x y ∷ by_each f xs ys

-- a tally with a row more, whose column stands at a place
abbrev pub with_value : Keyed → Option ℕ → Tally → Tally
with_value e place t = merged t (tally_of_row (value_at place e) e.0)

-- a sum with a row more
abbrev pub with_row : List (Option ℕ) → Sum → Keyed → Sum
with_row places s e = record { rows = s.rows + 1; tallies = by_each (with_value e) places s.tallies }

-- the sum of the rows of two, of which the first come before the others
abbrev pub joined : Sum → Sum → Sum
joined front s = record { rows = front.rows + s.rows; tallies = by_each merged front.tallies s.tallies }

-- an aggregate of the column whose tally stands at a place
abbrev pub shown_at : Sum → ℕ → Func → Cell
shown_at s slot f = option_map_or (λ t. shown t f) (slice_get s.tallies slot) cell.Null

-- a tally that aggregates can be read from, of at most so many rows
pub record IsCounted (n : ℕ) (t : Tally) : Type 0 where
  pub sound : IsSound t
  pub rows : t.rows ≤ n
  pub count : t.count ≤ n

abbrev pub AreCounted : ℕ → List Tally → Type 0
AreCounted n ts = AllByRecursion (IsCounted n) ts

-- a sum that is kept
pub record IsKept (s : Sum) : Type 0 where
  pub few : s.rows < 2 ^ 62
  pub counted : AreCounted s.rows s.tallies
