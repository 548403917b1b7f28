-- The tables that a memtable has a put or a cut of.
use Rattle.std.specs.Prelude.{◌≡◌, ℕ, ◌==◌, ◌<◌, ◌≤◌, ◌⊎◌, min, nat_le, Bool, true, ◌&&◌, ◌||◌, List, [], ◌∷◌, Option, Some, None}
use Rattle.std.specs.List.{AllByRecursion, list_any}
use Rattle.td_layer.specs.declared.values.Key.{Key}
use Rattle.td_memtable.specs.Contents.{Contents}

module _ {T : Type 0} where
  -- whether one of some pairs is of a table
  abbrev pub has_table : ℕ → List (Key × T) → Bool
  has_table table pairs = list_any (λ (e : Key × T). e.0.table == table) pairs

  -- no pair is of this table, or of one above it
  abbrev pub NoneFrom : ℕ → List (Key × T) → Type 0
  NoneFrom from pairs = AllByRecursion (λ (e : Key × T). e.0.table < from) pairs

  -- no pair is of a table from the first of two up to the second, which isn't among them
  abbrev pub NoneBetween : ℕ → ℕ → List (Key × T) → Type 0
  NoneBetween from to pairs = AllByRecursion (λ (e : Key × T). (e.0.table < from) ⊎ (to ≤ e.0.table)) pairs

-- the first table of some pairs from a number on, where there is one
abbrev pub FirstOf : {T : Type 0} → ℕ → List (Key × T) → Option ℕ → Type 0
FirstOf from pairs None = NoneFrom from pairs
FirstOf from pairs (Some table) = (from ≤ table) × ((has_table table pairs ≡ true) × NoneBetween from table pairs)

-- the earlier of two tables, of which each may be missing
abbrev pub earlier : Option ℕ → Option ℕ → Option ℕ
earlier None other = other
earlier (Some one) None = Some one
earlier (Some one) (Some other) = Some (min one other)

-- The first table, from one number on, that a memtable has a put or a cut of.
pub record IsFirstTable (from : ℕ) (m : Contents) (table : ℕ) : Type 0 where
  pub from_is : from ≤ table
  pub some : (has_table table m.puts || has_table table m.cuts) ≡ true
  pub no_put : NoneBetween from table m.puts
  pub no_cut : NoneBetween from table m.cuts

-- the timestamp of the first of some pairs
abbrev pub first_time : {T : Type 0} → List (Key × T) → Option ℕ
first_time [] = None
first_time (e ∷ es) = Some e.0.ts

-- whether one of some cuts meets the timestamps from one to another
abbrev pub meets_cut : ℕ → ℕ → List (Key × ℕ) → Bool
meets_cut lo hi cuts = list_any (λ (c : Key × ℕ). nat_le c.0.ts hi && nat_le lo c.1) cuts
