-- What scans of a file give of a wider range of timestamps, and where they can find damaged bytes.
use Rattle.std.specs.Prelude.{◌≡◌, ℕ, ◌+◌, ◌≤◌, ◌==◌, ◌&&◌, nat_le, if◌then◌else◌, List, [], ◌∷◌, ◌++◌, filter, Some, None, Result, Ok, Err, Contains}
use Rattle.td_cols.specs.declared.kinds.Kind.{Kind}
use Rattle.td_layer.specs.declared.values.Key.{Key}
use Rattle.td_layer.specs.declared.parts.Partial.{Partial}
use Rattle.td_datafile.specs.declared.format.Entry.{Entry}
use Rattle.td_datafile.specs.declared.opening.Opening.{Opening}
use Rattle.td_datafile.specs.Opening.{opening_at}
use Rattle.td_datafile.specs.Blocks.{entry_length, own_block}
use Rattle.td_datafile.specs.Scanned.{Want, Walked, last_key, before_all, scanned}

-- partials from one timestamp to another, both among them, with the same fault
abbrev pub narrowed : ℕ → ℕ → Walked → Walked
narrowed lo hi w =
    record {
      partials = filter (λ (e : Key × Partial). nat_le lo e.0.ts && nat_le e.0.ts hi) w.partials;
      fault = w.fault;
    }

-- A scan of a range gives those partials of a scan of a wider range that lie in it, where that finds no fault.
abbrev pub IsPartOfTheWhole : Type 0
IsPartOfTheWhole = (table : ℕ) (kinds : List Kind) (from lo hi to : ℕ) (all : List ℕ) → from ≤ lo → hi ≤ to
    → (scanned (record { table = table; kinds = kinds; lo = from; hi = to }) all).fault ≡ None
    → scanned (record { table = table; kinds = kinds; lo = lo; hi = hi }) all
    ≡ narrowed lo hi (scanned (record { table = table; kinds = kinds; lo = from; hi = to }) all)

-- the place of a fault, where there is one
abbrev pub place_in : {A : Type 0} → Result A ℕ → List ℕ
place_in (Ok x) = []
place_in (Err place) = place ∷ []

-- the places of the first faults of the blocks of these entries that are of a table; the first entry stands at a place
-- behind a key
unfoldable pub block_faults : ℕ → List Kind → ℕ → List ℕ → Key → ℕ → List Entry → List ℕ
block_faults table kinds range all last place [] = []
block_faults table kinds range all last place (e ∷ es) =
    (if e.table == table then place_in (own_block kinds range last place e all) else [])
    ++ block_faults table kinds range all (last_key e) (place + entry_length e) es

abbrev pub faults_behind : ℕ → List Kind → List ℕ → Result Opening ℕ → List ℕ
faults_behind table kinds all (Err place) = place ∷ []
faults_behind table kinds all (Ok o) = block_faults table kinds o.range all before_all o.index o.entries

-- The places at which scans of a table can find damaged bytes: that of the opening's first fault, or those of the first
-- fault of each of the table's blocks.
unfoldable pub faults_of : ℕ → List Kind → List ℕ → List ℕ
faults_of table kinds all = faults_behind table kinds all (opening_at all)

-- The first fault that a scan finds is one of the table's, whatever the range.
abbrev pub IsAmongTheFaults : Type 0
IsAmongTheFaults = (want : Want) (all : List ℕ) (place : ℕ) → (scanned want all).fault ≡ Some place
    → Contains (faults_of want.table want.kinds all) place
