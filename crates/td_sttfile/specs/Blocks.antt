-- What a scan reads of a block.
use Rattle.std.specs.Prelude.{ℕ, zero, suc, ◌+◌, ◌-◌, ◌*◌, ◌==◌, ◌&&◌, ◌||◌, nat_lt, Bool, if◌then◌else◌, List, [], ◌∷◌, length, take, drop, Option, Some, None, Result, Ok, Err}
use Rattle.std.specs.Int.{w8}
use Rattle.td_cols.specs.declared.kinds.Kind.{Kind}
use Rattle.td_cols.specs.Kinds.{kind_code, kind_width}
use Rattle.td_layer.specs.declared.values.Key.{Key}
use Rattle.td_layer.specs.declared.parts.Partial.{Partial}
use Rattle.td_codec.specs.Fields.{◌>>=◌, Read, number}
use Rattle.td_block.specs.declared.block.Block.{Block}
use Rattle.td_block.specs.declared.header.Head.{Head}
use Rattle.td_block.specs.Bits.{bitmap_length}
use Rattle.td_block.specs.Rows.{Rows}
use Rattle.td_block.specs.Blocks.{decoded}
use Rattle.td_block.specs.Headers.{block_length, kind_of_code, kind_or_fault, passed, first_time, last_time, head_found}
use Rattle.td_fileio.specs.Days.{is_in_day}
use Rattle.td_sttfile.specs.declared.blocks.Found.{Found}

-- ---- keys

-- whether a key comes behind the last one before it
abbrev pub is_behind : Key → Key → Bool
is_behind last key = nat_lt last.table key.table || ((last.table == key.table) && nat_lt last.ts key.ts)

abbrev pub key_of : ℕ → ℕ × Partial → Key
key_of table row = record { table = table; ts = row.0 }

-- The last key of rows of a table behind a key. Where a timestamp doesn't rise or lies outside the day range, its
-- place, where that of the first is given.
abbrev pub rows_checked : ℕ → ℕ → Key → ℕ → Rows → Result Key ℕ
rows_checked range table last place [] = Ok last
rows_checked range table last place (row ∷ rows) =
    (if is_behind last (key_of table row) && is_in_day range row.0
    then rows_checked range table (key_of table row) (place + 8) rows else Err place)

-- ---- a block that is decoded

-- what is read of a part that begins at a place
abbrev pub moved : {A : Type 0} → ℕ → Result A ℕ → Result A ℕ
moved at (Ok x) = Ok x
moved at (Err place) = Err (at + place)

-- how many bytes the block with this head takes whose columns are of these kinds; those of the head, where it has
-- another count of columns
abbrev pub own_length : List Kind → Head → ℕ
own_length kinds head = (if length kinds == head.columns then block_length head.rows kinds else 14)

-- what is taken of a block of the table that is read, at a place behind a key
abbrev pub own_found : ℕ → ℕ → Key → ℕ → Block → Result Found ℕ
own_found table range last at b =
    rows_checked range table last (at + 14) b.rows
    >>= λ key. Ok (record { rows = b.rows; next = at + b.used; last = key })

-- The block of the table that is read, with this head: its rows, the place behind it and its last key.
unfoldable pub own_at : List Kind → ℕ → ℕ → Key → Head → ℕ → List ℕ → Result Found ℕ
own_at kinds table range last head at all =
    moved at (decoded kinds (take (own_length kinds head) (drop at all)))
    >>= own_found table range last at

-- ---- a block that is passed over

-- the first timestamp of a block and the last
abbrev pub Ends : Type 0
Ends = ℕ × ℕ

-- The first timestamp of the block with this head, and the last, from behind the head on; those between are passed over.
abbrev pub ends_read : Head → List ℕ → Read Ends
ends_read head bytes = do
  first ← first_time bytes
  last ← last_time (head.rows - 1) first.0 first.1
  Ok ((first.0, last.0), last.1)

-- the kind of a code, where it is that of the given kind or none is given
abbrev pub kind_said : Option Kind → ℕ → Option Kind
kind_said None code = kind_of_code code
kind_said (Some kind) code = (if code == kind_code kind then kind_of_code code else None)

-- A column of so many rows, of the given kind where one is given: its code is read, and the rest is passed over.
unfoldable pub column_read : Option Kind → ℕ → List ℕ → Read (Unit {0})
column_read given rows bytes = do
  code ← (number w8).read bytes
  kind ← kind_or_fault (length bytes) (kind_said given code.0)
  lanes ← passed 1 (2 * bitmap_length rows) code.1
  rest ← passed (kind_width kind) rows lanes
  Ok (tt, rest)

-- the first of the given kinds, where there is one, and the others
abbrev pub next_kind : List Kind → Option Kind × List Kind
next_kind [] = (None, [])
next_kind (kind ∷ kinds) = (Some kind, kinds)

-- so many columns of so many rows, the first of the given kinds as far as these go
unfoldable pub columns_read : ℕ → List Kind → ℕ → List ℕ → Read (Unit {0})
columns_read rows given zero bytes = Ok (tt, bytes)
columns_read rows given (suc columns) bytes =
    column_read (next_kind given).0 rows bytes
    >>= λ x. columns_read rows (next_kind given).1 columns x.1

-- what stands behind the timestamps of the block with this head: the births and the columns, of which the codes are read
abbrev pub rest_read : List Kind → Head → List ℕ → Read (Unit {0})
rest_read given head bytes = passed 8 head.rows bytes >>= columns_read head.rows given head.columns

-- the block with this head and these ends gives no row, and ends where these bytes begin
abbrev pub passed_found : ℕ → Head → Ends → Read (Unit {0}) → Result Found ℕ
passed_found size head ends (Err left) = Err (size - left)
passed_found size head ends (Ok x) =
    Ok (record { rows = []; next = size - length x.1; last = record { table = head.table; ts = ends.1 } })

-- A block that is passed over: it stands at a place behind a key, with this head and these ends, behind which bytes
-- stand. Its first key comes behind the key, and its first and its last timestamp lie in the day range.
unfoldable pub passed_at : List Kind → ℕ → Key → Head → Ends → List ℕ → ℕ → List ℕ → Result Found ℕ
passed_at given range last head ends rest at all =
    (if is_behind last (record { table = head.table; ts = ends.0 }) && is_in_day range ends.0
    then (if is_in_day range ends.1 then passed_found (length all) head ends (rest_read given head rest)
    else Err (at + 14 + 8 * (head.rows - 1)))
    else Err (at + 14))

-- ---- any block

-- a block of another table is passed over by its own codes
abbrev pub other_found : ℕ → Key → Head → ℕ → List ℕ → Read Ends → Result Found ℕ
other_found range last head at all (Err left) = Err (length all - left)
other_found range last head at all (Ok ends) = passed_at [] range last head ends.0 ends.1 at all

-- whether the block of the table with this head, whose columns are of these kinds, can be passed over: it has so many
-- columns, and its timestamps lie all before the first that is wanted, or all behind the last
abbrev pub is_outside : List Kind → ℕ → ℕ → Head → Ends → Bool
is_outside kinds lo hi head ends = (length kinds == head.columns) && (nat_lt ends.1 lo || nat_lt hi ends.0)

-- A block of the table that is read: it is passed over where its ends could be read and lie outside of what is wanted,
-- else decoded.
abbrev pub wanted_found : List Kind → ℕ → ℕ → ℕ → ℕ → Key → Head → ℕ → List ℕ → Read Ends → Result Found ℕ
wanted_found kinds table lo hi range last head at all (Err left) = own_at kinds table range last head at all
wanted_found kinds table lo hi range last head at all (Ok ends) =
    (if is_outside kinds lo hi head ends.0 then passed_at kinds range last head ends.0 ends.1 at all
    else own_at kinds table range last head at all)

-- A block of the table that is read, or of one below it, with this head.
unfoldable pub found_at : List Kind → ℕ → ℕ → ℕ → ℕ → Key → Head → ℕ → List ℕ → Result Found ℕ
found_at kinds table lo hi range last head at all =
    (if nat_lt head.table table
    then other_found range last head at all (ends_read head (drop (at + 14) all))
    else wanted_found kinds table lo hi range last head at all (ends_read head (drop (at + 14) all)))

-- The block at a place behind those whose last key is given: what is read of it, or nothing where it is of a table
-- above the one that is read, behind which none of that table can stand.
unfoldable pub block_at : List Kind → ℕ → ℕ → ℕ → ℕ → Key → ℕ → List ℕ → Result (Option Found) ℕ
block_at kinds table lo hi range last at all =
    moved at (head_found (take 14 (drop at all)))
    >>= λ head. (if nat_lt head.table last.table then Err (at + 4)
    else (if nat_lt table head.table then Ok None
    else (found_at kinds table lo hi range last head at all >>= λ f. Ok (Some f))))
