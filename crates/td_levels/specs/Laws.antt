-- What entries, freezes and commits make of the rows of levels, and what a plan reads of them.
use Rattle.std.specs.Prelude.{◌≡◌, ◌≤◌, ◌<◌, ◌+◌, ◌-◌, ◌^◌, ℕ, true, is_some, List, [], ◌∷◌, map, length, slice_get, Option, Some, None, All}
use Rattle.std.specs.List.Sorted.{IsStrictlySortedBy}
use Rattle.std.specs.Ordering.{nat_cmp}
use Rattle.td_limits.specs.declared.limits.TheConstants.{MEMTABLE_PARTS}
use Rattle.td_cols.specs.declared.kinds.Kind.{Kind}
use Rattle.td_layer.specs.Scans.{rows_in}
use Rattle.td_model.specs.declared.history.Entry.{Entry}
use Rattle.td_model.specs.Catalog.{Catalog}
use Rattle.td_model.specs.State.{State, Rows, step}
use Rattle.td_verdict.specs.Sound.{IsFromEdge}
use Rattle.td_verdict.specs.Valid.{IsValid}
use Rattle.td_catalog.specs.Kept.{CanFollow}
use Rattle.td_memtable.specs.Contents.{nothing_held}
use Rattle.td_fileset.specs.Layered.{Stored, rows_told}
use Rattle.td_commit.specs.declared.frozen.Frozen.{Frozen}
use Rattle.td_commit.specs.Sound.{IsSound}
use Rattle.td_commit.specs.Files.{AreFilesOf}
use Rattle.td_levels.specs.Levels.{SetFiles, Levels, Files, open_sets, memtables_of, table_kinds, rows_over}
use Rattle.td_levels.specs.Taken.{taken, parts_of, HasColumnCells}
use Rattle.td_levels.specs.Fits.{FitsLevels, HaveNoFurther}
use Rattle.td_levels.specs.Ranges.{AreRangesOf, AreByRange, sets_meeting, installed}

-- ---- entries

-- levels with what an entry puts into the active memtable
abbrev pub took : Entry → Levels → Levels
took e l = record { active = taken e.what e.moment l.active; frozen = l.frozen; sets = l.sets }

-- An entry may come next in a state whose rows lie in levels: it may follow the catalog, no row of it lies before the
-- edge, its cells can stand in columns, its moment is a number of 64 bits, and there is room for its parts.
pub record MayCome (s : State) (l : Levels) (e : Entry) : Type 0 where
  pub follows : CanFollow e.what s.catalog
  pub edge : IsFromEdge s.edge e.what
  pub cells : HasColumnCells e.what
  pub moment : e.moment < 2 ^ 64
  pub room : l.active.held + parts_of e.what ≤ MEMTABLE_PARTS

-- the levels hold the rows of a state, over what the finished files hold
pub record HoldRows (files : Files) (s : State) (l : Levels) : Type 0 where
  pub valid : IsValid s.catalog
  pub fits : FitsLevels s.catalog l
  pub further : HaveNoFurther files s.catalog l.sets
  pub rows : rows_over files s.catalog s.edge l ≡ Some s.rows

-- Levels that hold the rows of a state hold those of the state after an entry, once its parts are in the active
-- memtable.
abbrev pub EntriesAreTaken : Type 0
EntriesAreTaken = (files : Files) (s : State) (l : Levels) (e : Entry) → MayCome s l e → HoldRows files s l
    → HoldRows files (step (s ∷ []) e) (took e l)

-- the memtables fit the catalog after an entry too, whatever the files hold
abbrev pub EntriesFit : Type 0
EntriesFit = (s : State) (l : Levels) (e : Entry) → MayCome s l e → IsValid s.catalog → FitsLevels s.catalog l
    → FitsLevels (step (s ∷ []) e).catalog (took e l)

-- ---- freezes

-- the active memtable is frozen, and a new one takes entries
abbrev pub frozen_of : Levels → Levels
frozen_of l = record { active = nothing_held; frozen = Some l.active; sets = l.sets }

abbrev pub FreezesKeepRows : Type 0
FreezesKeepRows = (files : Files) (c : Catalog) (edge : ℕ) (l : Levels) → l.frozen ≡ None
    → rows_over files c edge (frozen_of l) ≡ rows_over files c edge l

-- ---- commits

-- The kinds of a frozen memtable are those of the first tables of a catalog.
pub record HasKindsOf (c : Catalog) (f : Frozen) : Type 0 where
  pub few : length f.kinds ≤ length c.tables
  pub kinds : (table : ℕ) → 1 ≤ table → table ≤ length f.kinds
      → slice_get f.kinds (table - 1) ≡ Some (table_kinds c table)

-- finished files hold what they held, for each file of some sets
pub record KeepFiles (files files' : Files) (s : SetFiles) : Type 0 where
  pub stt : All (λ (n : ℕ). files' n ≡ files n) s.stt
  pub main : (n : ℕ) → s.main ≡ Some n → files' n ≡ files n

-- The files of these numbers are finished, and are those of a frozen memtable, one for each of its day ranges; and the
-- files of the sets hold what they held.
pub record AreWritten (files files' : Files) (f : Frozen) (numbers : List ℕ) (sets : List SetFiles) : Type 0 where
  pub sound : IsSound f
  pub told : All (λ (n : ℕ). is_some (files' n) ≡ true) numbers
  pub befores : List (Option (List ℕ))
  pub files_are : AreFilesOf f f.ranges befores (map files' numbers)
  pub kept : All (KeepFiles files files') sets

-- Levels whose frozen memtable has gone into files, one for each day range that gets one, hold the rows that they held;
-- the edge may have risen since it was frozen, and tables may have come.
abbrev pub CommitsKeepRows : Type 0
CommitsKeepRows = (files files' : Files) (s : State) (l : Levels) (f : Frozen) (edge : ℕ) (numbers : List ℕ)
    → l.frozen ≡ Some f.memtable → HasKindsOf s.catalog f → AreRangesOf f.memtable l.sets edge f.ranges
    → edge ≤ s.edge → AreByRange l.sets → AreWritten files files' f numbers l.sets → HoldRows files s l
    → HoldRows files' s (installed f.ranges numbers edge l) × AreByRange (installed f.ranges numbers edge l).sets

-- ---- plans

-- the kinds of some tables
abbrev pub kinds_at : Catalog → List ℕ → List (ℕ × List Kind)
kinds_at c tables = map (λ (table : ℕ). (table, table_kinds c table)) tables

-- levels as a plan reads them: the file sets that its timestamps meet, and the kinds of its tables alone
abbrev pub read_by : Files → Catalog → ℕ → Levels → List ℕ → ℕ → ℕ → Stored
read_by files c edge l tables lo hi =
    record {
      memtables = memtables_of l;
      sets = open_sets files (sets_meeting edge lo hi l.sets);
      kinds = kinds_at c tables;
      edge = edge;
    }

-- the rows of some tables in a range of timestamps are the same
abbrev pub SameWithin : List ℕ → ℕ → ℕ → Rows → Rows → Type 0
SameWithin tables lo hi rows others =
    All (λ (table : ℕ). rows_in table lo hi rows ≡ rows_in table lo hi others) tables

-- A plan over tables of the catalog, rising, reads the rows that levels hold of them in its range of timestamps.
abbrev pub PlansReadRows : Type 0
PlansReadRows = (files : Files) (s : State) (l : Levels) (tables : List ℕ) (lo hi : ℕ) → HoldRows files s l
    → IsStrictlySortedBy nat_cmp tables → All (λ (table : ℕ). (1 ≤ table) × (table ≤ length s.catalog.tables)) tables
    → (rows : Rows) × (rows_told (read_by files s.catalog s.edge l tables lo hi) ≡ Some rows)
    × SameWithin tables lo hi rows s.rows
