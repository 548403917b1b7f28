-- What a memtable must be so that its parts can be written.
use Rattle.std.specs.Prelude.{ℕ, ◌-◌, ◌^◌, ◌<◌, ◌≤◌, IsTrue, List, [], ◌∷◌, length, slice_get, MatchOption}
use Rattle.std.specs.List.{AllByRecursion}
use Rattle.td_limits.specs.declared.limits.TheConstants.{LAST_DAY_RANGE}
use Rattle.td_cols.specs.declared.kinds.Kind.{Kind}
use Rattle.td_layer.specs.declared.values.Key.{Key}
use Rattle.td_layer.specs.declared.parts.Partial.{Partial}
use Rattle.td_block.specs.Columns.{is_fixed}
use Rattle.td_block.specs.Rows.{IsRowOf}
use Rattle.td_commit.specs.declared.frozen.Frozen.{Frozen}

-- the numbers rise, each above the one before
abbrev pub RiseAbove : ℕ → List ℕ → Type 0
RiseAbove last [] = Unit {0}
RiseAbove last (n ∷ ns) = (last < n) × RiseAbove n ns

abbrev pub Rise : List ℕ → Type 0
Rise [] = Unit {0}
Rise (n ∷ ns) = RiseAbove n ns

-- Kinds of columns that a file can have: at most 65535, each of a fixed width.
pub record AreFileKinds (kinds : List Kind) : Type 0 where
  pub few : length kinds < 2 ^ 16
  pub fixed : AllByRecursion (λ (kind : Kind). IsTrue (is_fixed kind)) kinds

-- a table has an entry among these kinds, by its number from 1, of which this is true
abbrev pub HasKinds : List (List Kind) → ℕ → (List Kind → Type 0) → Type 0
HasKinds kinds table P = (1 ≤ table) × MatchOption (slice_get kinds (table - 1)) ⊥ P

-- A put of a table with such kinds, with a cell for each of them: NULL or a number in its range, where the put names
-- it.
abbrev pub IsPutOf : List (List Kind) → Key × Partial → Type 0
IsPutOf kinds e = HasKinds kinds e.0.table (λ own. AreFileKinds own × IsRowOf own (e.0.ts, e.1))

-- a cut of a table with such kinds
abbrev pub IsCutOf : List (List Kind) → Key × ℕ → Type 0
IsCutOf kinds c = HasKinds kinds c.0.table AreFileKinds

-- The ranges rise and are day ranges; each put and each cut is of a table whose kinds are there and can be written, and
-- each put has a cell for each of these.
pub record IsSound (f : Frozen) : Type 0 where
  pub rise : Rise f.ranges
  pub last : AllByRecursion (λ (range : ℕ). range ≤ LAST_DAY_RANGE) f.ranges
  pub puts : AllByRecursion (IsPutOf f.kinds) f.memtable.puts
  pub cuts : AllByRecursion (IsCutOf f.kinds) f.memtable.cuts
