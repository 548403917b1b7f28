-- What a scan of a file gives, and what is left of it.
use Rattle.std.specs.Prelude.{ℕ, ◌+◌, ◌==◌, ◌&&◌, nat_le, Bool, if◌then◌else◌, List, [], ◌∷◌, ◌++◌, map, filter, Option, Some, None, Result, Ok, Err}
use Rattle.td_cols.specs.declared.kinds.Kind.{Kind}
use Rattle.td_layer.specs.declared.values.Key.{Key}
use Rattle.td_layer.specs.declared.parts.Partial.{Partial}
use Rattle.td_layer.specs.Scans.{Places}
use Rattle.td_codec.specs.Fields.{◌>>=◌}
use Rattle.td_block.specs.Rows.{Rows}
use Rattle.td_datafile.specs.declared.format.Entry.{Entry}
use Rattle.td_datafile.specs.declared.opening.Opening.{Opening}
use Rattle.td_datafile.specs.Opening.{opening_at}
use Rattle.td_datafile.specs.Blocks.{key_of, entry_length, own_block}

-- what is wanted of a file: the partials of a table with columns of these kinds, from one timestamp to another
pub record Want : Type 0 where
  pub table : ℕ
  pub kinds : List Kind
  pub lo : ℕ
  pub hi : ℕ

-- whether a row's timestamp is wanted
abbrev pub is_wanted : ℕ → ℕ → ℕ × Partial → Bool
is_wanted lo hi row = nat_le lo row.0 && nat_le row.0 hi

abbrev pub wanted_of : ℕ → ℕ → Rows → Rows
wanted_of lo hi rows = filter (is_wanted lo hi) rows

-- rows of a table by key
abbrev pub keyed : ℕ → Rows → List (Key × Partial)
keyed table rows = map (λ (row : ℕ × Partial). (key_of table row, row.1)) rows

-- whether the block of an entry can have a row that is wanted
abbrev pub is_needed : Want → Entry → Bool
is_needed want e = (e.table == want.table) && (nat_le want.lo e.last && nat_le e.first want.hi)

-- What reading blocks gives: partials, and the place of the first fault, behind which nothing is read.
pub record Walked : Type 0 where
  pub partials : List (Key × Partial)
  pub fault : Option ℕ

abbrev pub nothing_left : Walked
nothing_left = record { partials = []; fault = None }

-- What is wanted of the block of an entry, which stands at a place behind a key: the block is read only where it is
-- needed.
abbrev pub wanted_block : Want → ℕ → Key → ℕ → Entry → List ℕ → Result Rows ℕ
wanted_block want range last place e all =
    (if is_needed want e
    then (own_block want.kinds range last place e all >>= λ rows. Ok (wanted_of want.lo want.hi rows))
    else Ok [])

-- what a block gives and the blocks behind it
abbrev pub then_walk : Want → Walked → Result Rows ℕ → Walked
then_walk want others (Err place) = record { partials = []; fault = Some place }
then_walk want others (Ok rows) = record { partials = keyed want.table rows ++ others.partials; fault = others.fault }

-- the last key of the block of an entry
abbrev pub last_key : Entry → Key
last_key e = record { table = e.table; ts = e.last }

-- What the blocks of these entries give, the first of which stands at a place behind a key.
unfoldable pub walk : Want → ℕ → List ℕ → Key → ℕ → List Entry → Walked
walk want range all last place [] = nothing_left
walk want range all last place (e ∷ es) =
    then_walk want (walk want range all (last_key e) (place + entry_length e) es)
    (wanted_block want range last place e all)

-- a key before all keys of a file
abbrev pub before_all : Key
before_all = record { table = 0; ts = 0 }

abbrev pub behind_opening : Want → List ℕ → Result Opening ℕ → Walked
behind_opening want all (Err place) = record { partials = []; fault = Some place }
behind_opening want all (Ok o) = walk want o.range all before_all o.index o.entries

-- What is wanted of a file, or of what stands before its first fault.
unfoldable pub scanned : Want → List ℕ → Walked
scanned want all = behind_opening want all (opening_at all)

-- the place of a file's first fault
abbrev pub places_of : ℕ → Option ℕ → Places
places_of file None = []
places_of file (Some place) = (file, place) ∷ []

-- The places of damaged bytes that a scan may find: that of the first fault.
abbrev pub damaged_places : Want → ℕ → List ℕ → Places
damaged_places want file all = places_of file (scanned want all).fault
