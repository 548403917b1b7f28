-- What a scan reads of the block of an entry.
use Rattle.std.specs.Prelude.{ℕ, ◌+◌, ◌*◌, ◌==◌, ◌&&◌, ◌||◌, not, nat_lt, min, Bool, true, if◌then◌else◌, List, [], ◌∷◌, length, take, drop, replicate, slice_index, Option, Some, None, Result, Ok, Err}
use Rattle.td_cols.specs.declared.kinds.Kind.{Kind}
use Rattle.td_layer.specs.declared.values.Key.{Key}
use Rattle.td_layer.specs.declared.parts.Partial.{Partial}
use Rattle.td_codec.specs.Fields.{◌>>=◌}
use Rattle.td_block.specs.declared.block.Block.{Block}
use Rattle.td_block.specs.declared.header.Head.{Head}
use Rattle.td_block.specs.Bits.{bitmap}
use Rattle.td_block.specs.Rows.{Rows, times_of}
use Rattle.td_block.specs.Blocks.{decoded}
use Rattle.td_block.specs.Headers.{column_length, block_length, head_found}
use Rattle.td_fileio.specs.Days.{is_in_day}
use Rattle.td_datafile.specs.declared.format.Entry.{Entry}

-- ---- keys

-- whether a key comes behind the last one before it
abbrev pub is_behind : Key → Key → Bool
is_behind last key = nat_lt last.table key.table || ((last.table == key.table) && nat_lt last.ts key.ts)

abbrev pub key_of : ℕ → ℕ × Partial → Key
key_of table row = record { table = table; ts = row.0 }

-- The last key of rows of a table behind a key. Where a timestamp doesn't rise or lies outside the day range, its
-- place, where that of the first is given.
abbrev pub rows_checked : ℕ → ℕ → Key → ℕ → Rows → Result Key ℕ
rows_checked range table last place [] = Ok last
rows_checked range table last place (row ∷ rows) =
    (if is_behind last (key_of table row) && is_in_day range row.0
    then rows_checked range table (key_of table row) (place + 8) rows else Err place)

-- ---- blocks whose cells are all named

-- the bitmap that names all of so many rows
abbrev pub full_bitmap : ℕ → List ℕ
full_bitmap rows = bitmap (replicate rows true)

-- the place of the first of some bytes that isn't the wanted one, where the first of them stands at a place; bytes that
-- are cut short are wanted
abbrev pub first_other : ℕ → List ℕ → List ℕ → Option ℕ
first_other at [] bytes = None
first_other at (w ∷ ws) [] = None
first_other at (w ∷ ws) (b ∷ bs) = (if w == b then first_other (at + 1) ws bs else Some at)

-- the former place, or else the latter
abbrev pub or_else : Option ℕ → Option ℕ → Option ℕ
or_else None b = b
or_else (Some a) b = Some a

-- The place of the first byte that doesn't name all rows, in the bitmaps of the named cells of columns of these kinds,
-- the first of which begins at a place.
abbrev pub first_unnamed : ℕ → ℕ → List Kind → List ℕ → Option ℕ
first_unnamed at rows [] bytes = None
first_unnamed at rows (kind ∷ kinds) bytes =
    or_else (first_other (at + 1) (full_bitmap rows) (drop (at + 1) bytes))
    (first_unnamed (at + column_length rows kind) rows kinds bytes)

-- what was read, unless a byte before its fault is at fault
abbrev pub unless_before : {A : Type 0} → Option ℕ → Result A ℕ → Result A ℕ
unless_before None r = r
unless_before (Some place) (Ok x) = Err place
unless_before (Some place) (Err at) = Err (min place at)

-- The block of so many rows that begins bytes, all of whose cells are named; a bitmap's byte that doesn't name all its
-- rows is a fault at it.
unfoldable pub whole_decoded : List Kind → ℕ → List ℕ → Result Block ℕ
whole_decoded kinds rows bytes = unless_before (first_unnamed (14 + 16 * rows) rows kinds bytes) (decoded kinds bytes)

-- ---- the block of an entry

-- what is read of a part that begins at a place
abbrev pub moved : {A : Type 0} → ℕ → Result A ℕ → Result A ℕ
moved at (Ok x) = Ok x
moved at (Err place) = Err (at + place)

-- how many bytes the block with this head takes whose columns are of these kinds; those of the head, where it has
-- another count of columns
abbrev pub own_length : List Kind → Head → ℕ
own_length kinds head = (if length kinds == head.columns then block_length head.rows kinds else 14)

-- how many bytes an entry takes
abbrev pub entry_length : Entry → ℕ
entry_length e = 38 + 52 * length e.columns

-- The rows of a block with its entry, which stands at a place, and its last timestamp: where a number of the entry
-- isn't that of the block, its place.
abbrev pub agreeing : ℕ → ℕ → Entry → Block → ℕ → Result Rows ℕ
agreeing place columns e b last =
    (if not (b.used == e.size) then Err (place + 8)
    else (if not (length b.rows == e.rows) then Err (place + 16)
    else (if not (slice_index (times_of b.rows) 0 == e.first) then Err (place + 20)
    else (if not (last == e.last) then Err (place + 28)
    else (if not (length e.columns == columns) then Err (place + 36)
    else Ok b.rows)))))

-- the rows of a block with its entry, which stands at a place behind a key
abbrev pub checked_rows : ℕ → Key → ℕ → ℕ → Entry → Block → Result Rows ℕ
checked_rows range last place columns e b =
    rows_checked range e.table last (e.offset + 14) b.rows >>= λ key. agreeing place columns e b key.ts

-- The rows of the block of an entry, which stands at a place behind a key: the first fault of the block, or else of the
-- entry.
unfoldable pub own_block : List Kind → ℕ → Key → ℕ → Entry → List ℕ → Result Rows ℕ
own_block kinds range last place e all =
    moved e.offset (head_found (take 14 (drop e.offset all)))
    >>= λ h. (if h.table == e.table then moved e.offset
    (whole_decoded kinds h.rows (take (own_length kinds h) (drop e.offset all))) else Err (place + 12))
    >>= checked_rows range last place (length kinds) e
