-- The state of a scan as contracts see it.
use Rattle.std.specs.Prelude.{◌≡◌, ℕ, Bool, true, false, if◌then◌else◌, List, [], ◌∷◌, ◌++◌, map, reverse, Option, Some, None, IfSome}
use Rattle.std.specs.Option.{option_map}
use Rattle.std.specs.List.{AllByRecursion}
use Rattle.td_layer.specs.declared.values.Key.{Key}
use Rattle.td_layer.specs.declared.parts.Partial.{Partial}
use Rattle.td_layer.specs.declared.scans.ScanFault.{ScanFault}
use Rattle.td_layer.specs.declared.scans.ScanFault.TheVariants.{ReadFault, Damaged, NoMemory}
use Rattle.td_layer.specs.Columns.{AreColumnCells}
use Rattle.td_layer.specs.Keys.{InKeyOrder}
use Rattle.td_layer.specs.Scans.{Cut, Places}
use Rattle.td_block.specs.Rows.{Rows}
use Rattle.td_fileio.specs.Reading.{IsAhead}
use Rattle.td_sttfile.specs.declared.format.FileCut.{FileCut}
use Rattle.td_sttfile.specs.declared.blocks.Wanted.{Wanted}
use Rattle.td_sttfile.specs.declared.blocks.Spot.{Spot}
use Rattle.td_sttfile.specs.Opening.{as_cut}
use Rattle.td_sttfile.specs.Scanned.{Want, Walked, keyed, walk, scanned, cuts_of_file, damaged_places}

abbrev pub want_of : Wanted → Want
want_of w = record { table = w.table; kinds = w.kinds.now; lo = w.lo; hi = w.hi }

-- what the blocks from a spot on give
abbrev pub left_at : Want → Spot → List ℕ → Walked
left_at want spot all = walk want spot.range all spot.blocks spot.at spot.last

-- what rows that wait, the last first, and the blocks from a spot on give
abbrev pub left_with : Want → Rows → Spot → List ℕ → List (Key × Partial)
left_with want rows spot all = keyed want.table (reverse rows) ++ (left_at want spot all).partials

-- what one call made of the rows that wait and the spot: what is left is the same, and so is the first fault
pub record Keeps (want : Want) (rows rows' : Rows) (spot spot' : Spot) (all : List ℕ) : Type 0 where
  pub partials : left_with want rows' spot' all ≡ left_with want rows spot all
  pub fault : (left_at want spot' all).fault ≡ (left_at want spot all).fault

-- the last of the rows of a table that wait was taken, as a partial by key
abbrev pub IsNextRow : ℕ → Rows → Rows → Option (Key × Partial) → Type 0
IsNextRow table rows rest None = (rows ≡ []) × (rest ≡ [])
IsNextRow table rows rest (Some p) = (p.0.table ≡ table) × (rows ≡ rest ++ (p.0.ts, p.1) ∷ [])

-- the first fault from a spot on is at a place, and no partial stands before it
pub record IsFault (want : Want) (spot : Spot) (place : ℕ) (all : List ℕ) : Type 0 where
  pub fault : (left_at want spot all).fault ≡ Some place
  pub none : (left_at want spot all).partials ≡ []

-- Why reading blocks stopped: damaged bytes are those of the first fault from the spot on, where the file tells its
-- bytes.
abbrev pub Faults : Want → Option (List ℕ) → ℕ → Spot → ScanFault → Type 0
Faults want told file spot (Damaged f place) = (f ≡ file) × IfSome told (IsFault want spot place)
Faults want told file spot ReadFault = Unit {0}
Faults want told file spot NoMemory = Unit {0}

-- A scan: what it wants, its file, whether it has begun, and the partials that are left where the file tells its bytes.
pub record Scan : Type 0 where
  pub want : Want
  pub told : Option (List ℕ)
  pub file : ℕ
  pub size : ℕ
  pub count : ℕ
  pub begun : Bool
  pub left : Option (List (Key × Partial))

-- the places of damaged bytes of a scan's file, where it tells its bytes
abbrev pub damaged_of : Scan → Option Places
damaged_of s = option_map (damaged_places s.want s.file) s.told

-- the cuts of a scan's file, where it tells its bytes
abbrev pub cuts_of : Scan → Option (List Cut)
cuts_of s = option_map cuts_of_file s.told

-- a scan of the same file for the same
pub record IsSameScan (old new : Scan) : Type 0 where
  pub want_is : new.want ≡ old.want
  pub told_is : new.told ≡ old.told
  pub file_is : new.file ≡ old.file
  pub size_is : new.size ≡ old.size

-- Damaged bytes are answered only once each partial before them was given.
abbrev pub ComesLast : Option (List (Key × Partial)) → ScanFault → Type 0
ComesLast left (Damaged f place) = IfSome left (λ l. l ≡ [])
ComesLast left ReadFault = Unit {0}
ComesLast left NoMemory = Unit {0}

-- a scan that gave its last partial found no damage in what it read, where its file tells its bytes
abbrev pub IsSound : Scan → Type 0
IsSound s = IfSome s.told (λ all. (scanned s.want all).fault ≡ None)

-- the partials that are left of a scan, which gives all of them before it has begun
abbrev pub left_of : Want → Option (List ℕ) → Bool → Rows → Spot → Option (List (Key × Partial))
left_of want told begun rows spot =
    option_map (λ all. (if begun then left_with want rows spot all else (scanned want all).partials)) told

-- what is known of an open file
pub record IsOpen (want : Want) (cuts : List FileCut) (spot : Spot) (all : List ℕ) : Type 0 where
  pub cuts_are : map as_cut cuts ≡ cuts_of_file all
  pub fault_is : (left_at want spot all).fault ≡ (scanned want all).fault

-- what is true of a scan's fields
pub record IsScan (want : Want) (told : Option (List ℕ)) (begun : Bool) (from : ℕ) (bytes : List ℕ)
    (cuts : List FileCut) (rows : Rows) (spot : Spot) : Type 0 where
  pub ahead : IsAhead told from bytes
  pub order : IfSome (left_of want told begun rows spot) InKeyOrder
  pub values : AllByRecursion (λ (row : ℕ × Partial). AreColumnCells row.1.cells) rows
  pub fresh : begun ≡ false → rows ≡ []
  pub opened : begun ≡ true → IfSome told (IsOpen want cuts spot)
