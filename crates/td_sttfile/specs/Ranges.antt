-- What scans of a file give of a wider range of timestamps, and where they can find damaged bytes.
use Rattle.std.specs.Prelude.{◌≡◌, ℕ, zero, suc, ◌+◌, ◌≤◌, ◌&&◌, nat_le, List, [], ◌∷◌, ◌++◌, filter, Option, Some, None, Result, Ok, Err, Contains}
use Rattle.td_limits.specs.declared.limits.TheConstants.{LAST_TIMESTAMP}
use Rattle.td_cols.specs.declared.kinds.Kind.{Kind}
use Rattle.td_layer.specs.declared.values.Key.{Key}
use Rattle.td_layer.specs.declared.parts.Partial.{Partial}
use Rattle.td_fileio.specs.Places.{Placed}
use Rattle.td_sttfile.specs.declared.format.FileCut.{FileCut}
use Rattle.td_sttfile.specs.declared.blocks.Found.{Found}
use Rattle.td_sttfile.specs.Opening.{opening_at}
use Rattle.td_sttfile.specs.Blocks.{block_at}
use Rattle.td_sttfile.specs.Scanned.{Want, Walked, before_all, scanned}

-- partials from one timestamp to another, both among them, with the same fault
abbrev pub narrowed : ℕ → ℕ → Walked → Walked
narrowed lo hi w =
    record {
      partials = filter (λ (e : Key × Partial). nat_le lo e.0.ts && nat_le e.0.ts hi) w.partials;
      fault = w.fault;
    }

-- A scan of a range gives those partials of a scan of a wider range that lie in it, and finds no fault, where that
-- finds none.
abbrev pub IsPartOfTheWhole : Type 0
IsPartOfTheWhole = (table : ℕ) (kinds : List Kind) (from lo hi to : ℕ) (all : List ℕ) → from ≤ lo → hi ≤ to
    → (scanned (record { table = table; kinds = kinds; lo = from; hi = to }) all).fault ≡ None
    → scanned (record { table = table; kinds = kinds; lo = lo; hi = hi }) all
    ≡ narrowed lo hi (scanned (record { table = table; kinds = kinds; lo = from; hi = to }) all)

-- what a scan of a table takes of a block at a place, where it decodes each block of the table, and where it passes
-- over each that it can
abbrev pub decoded_block : List Kind → ℕ → ℕ → Key → ℕ → List ℕ → Result (Option Found) ℕ
decoded_block kinds table range last at all = block_at kinds table 0 LAST_TIMESTAMP range last at all

abbrev pub passed_block : List Kind → ℕ → ℕ → Key → ℕ → List ℕ → Result (Option Found) ℕ
passed_block kinds table range last at all = block_at kinds table (LAST_TIMESTAMP + 1) LAST_TIMESTAMP range last at all

-- the place of a fault, where there is one
abbrev pub place_in : {A : Type 0} → Result A ℕ → List ℕ
place_in (Ok x) = []
place_in (Err place) = place ∷ []

-- the faults of the blocks behind one that was passed over
abbrev pub then_faults : (ℕ → Key → List ℕ) → Result (Option Found) ℕ → List ℕ
then_faults others (Err place) = []
then_faults others (Ok None) = []
then_faults others (Ok (Some f)) = others f.next f.last

-- the places of the first faults of so many blocks, from a place on, behind a key: of each where it is decoded, and
-- where it is passed over
unfoldable pub block_faults : List Kind → ℕ → ℕ → List ℕ → ℕ → ℕ → Key → List ℕ
block_faults kinds table range all zero at last = []
block_faults kinds table range all (suc blocks) at last =
    (place_in (decoded_block kinds table range last at all) ++ place_in (passed_block kinds table range last at all))
    ++ then_faults (block_faults kinds table range all blocks) (passed_block kinds table range last at all)

abbrev pub faults_behind : ℕ → List Kind → List ℕ → Placed (ℕ × (ℕ × (List FileCut × ℕ))) → List ℕ
faults_behind table kinds all (Err place) = place ∷ []
faults_behind table kinds all (Ok o) = block_faults kinds table o.0.1.0 all o.0.1.1.1 o.1 before_all

-- The places at which scans of a table can find damaged bytes: that of the opening's first fault, or those of the first
-- faults of blocks.
unfoldable pub faults_of : ℕ → List Kind → List ℕ → List ℕ
faults_of table kinds all = faults_behind table kinds all (opening_at all)

-- The first fault that a scan finds is one of the table's, whatever the range.
abbrev pub IsAmongTheFaults : Type 0
IsAmongTheFaults = (want : Want) (all : List ℕ) (place : ℕ) → (scanned want all).fault ≡ Some place
    → Contains (faults_of want.table want.kinds all) place
