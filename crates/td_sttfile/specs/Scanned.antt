-- What a scan of a file gives, and what is left of it.
use Rattle.std.specs.Prelude.{ℕ, zero, suc, ◌&&◌, nat_le, Bool, List, [], ◌∷◌, ◌++◌, map, filter, Option, Some, None, Result, Ok, Err}
use Rattle.td_cols.specs.declared.kinds.Kind.{Kind}
use Rattle.td_layer.specs.declared.values.Key.{Key}
use Rattle.td_layer.specs.declared.parts.Partial.{Partial}
use Rattle.td_layer.specs.Scans.{Cut, Places}
use Rattle.td_block.specs.Rows.{Rows}
use Rattle.td_fileio.specs.Places.{Placed}
use Rattle.td_sttfile.specs.declared.format.FileCut.{FileCut}
use Rattle.td_sttfile.specs.declared.blocks.Found.{Found}
use Rattle.td_sttfile.specs.Opening.{opening_at, as_cut}
use Rattle.td_sttfile.specs.Blocks.{block_at, key_of}

-- what is wanted of a file: the partials of a table with columns of these kinds, from one timestamp to another
pub record Want : Type 0 where
  pub table : ℕ
  pub kinds : List Kind
  pub lo : ℕ
  pub hi : ℕ

-- whether a row's timestamp is wanted
abbrev pub is_wanted : ℕ → ℕ → ℕ × Partial → Bool
is_wanted lo hi row = nat_le lo row.0 && nat_le row.0 hi

abbrev pub wanted_of : ℕ → ℕ → Rows → Rows
wanted_of lo hi rows = filter (is_wanted lo hi) rows

-- rows of a table by key
abbrev pub keyed : ℕ → Rows → List (Key × Partial)
keyed table rows = map (λ (row : ℕ × Partial). (key_of table row, row.1)) rows

-- What reading blocks gives: partials, and the place of the first fault, behind which nothing is read.
pub record Walked : Type 0 where
  pub partials : List (Key × Partial)
  pub fault : Option ℕ

abbrev pub nothing_left : Walked
nothing_left = record { partials = []; fault = None }

-- what a block gives and the blocks behind it
abbrev pub then_walk : Want → (ℕ → Key → Walked) → Result (Option Found) ℕ → Walked
then_walk want others (Err place) = record { partials = []; fault = Some place }
then_walk want others (Ok None) = nothing_left
then_walk want others (Ok (Some f)) = record {
  partials = keyed want.table (wanted_of want.lo want.hi f.rows) ++ (others f.next f.last).partials;
  fault = (others f.next f.last).fault;
}

-- So many blocks of a file, from a place on, behind a key.
unfoldable pub walk : Want → ℕ → List ℕ → ℕ → ℕ → Key → Walked
walk want range all zero at last = nothing_left
walk want range all (suc blocks) at last =
    then_walk want (walk want range all blocks) (block_at want.kinds want.table want.lo want.hi range last at all)

-- a key before all keys of a file
abbrev pub before_all : Key
before_all = record { table = 0; ts = 0 }

-- what a file gives whose opening was read
abbrev pub behind_opening : Want → List ℕ → Placed (ℕ × (ℕ × (List FileCut × ℕ))) → Walked
behind_opening want all (Err place) = record { partials = []; fault = Some place }
behind_opening want all (Ok o) = walk want o.0.1.0 all o.0.1.1.1 o.1 before_all

abbrev pub cuts_opened : Placed (ℕ × (ℕ × (List FileCut × ℕ))) → List Cut
cuts_opened (Err place) = []
cuts_opened (Ok o) = map as_cut o.0.1.1.0

-- What is wanted of a file, or of what stands before its first fault.
unfoldable pub scanned : Want → List ℕ → Walked
scanned want all = behind_opening want all (opening_at all)

-- the cuts of a file: none where the opening has a fault
unfoldable pub cuts_of_file : List ℕ → List Cut
cuts_of_file all = cuts_opened (opening_at all)

-- the place of a file's first fault
abbrev pub places_of : ℕ → Option ℕ → Places
places_of file None = []
places_of file (Some place) = (file, place) ∷ []

-- The places of damaged bytes that a scan may find: that of the first fault.
abbrev pub damaged_places : Want → ℕ → List ℕ → Places
damaged_places want file all = places_of file (scanned want all).fault
