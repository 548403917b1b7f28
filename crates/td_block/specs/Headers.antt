-- What a block tells of itself without its kinds: its table, its rows, its columns, its ends and its length.
use Rattle.std.specs.Prelude.{ℕ, ◌+◌, ◌-◌, ◌*◌, ◌%◌, ◌==◌, ◌&&◌, nat_lt, nat_le, true, if◌then◌else◌, sum_by, List, [], length, drop, slice_index, Option, Some, None, Result, Ok, Err}
use Rattle.std.specs.Int.{w8, w64}
use Rattle.td_limits.specs.declared.limits.TheConstants.{LAST_TIMESTAMP}
use Rattle.td_cols.specs.declared.kinds.Kind.{Kind}
use Rattle.td_cols.specs.declared.kinds.Kind.TheVariants.{Bool as Truth, I8, I16, I32, I64, U8, U16, U32, U64, Time}
use Rattle.td_cols.specs.Kinds.{kind_width}
use Rattle.td_codec.specs.Fields.{Read, ◌>>=◌, number, checked}
use Rattle.td_codec.specs.Lists.{Items, items_read}
use Rattle.td_block.specs.declared.header.TheConstants.{BLOCK_MAGIC}
use Rattle.td_block.specs.declared.header.Head.{Head}
use Rattle.td_block.specs.declared.header.Header.{Header}
use Rattle.td_block.specs.Bits.{bitmap_length}
use Rattle.td_block.specs.Rows.{Rows, times_of}
use Rattle.td_block.specs.Blocks.{head, placed}

-- ---- lengths

-- how many bytes a column of so many rows takes: its code, its two bitmaps and its lanes
abbrev pub column_length : ℕ → Kind → ℕ
column_length rows kind = 1 + 2 * bitmap_length rows + rows * kind_width kind

-- how many bytes a block of so many rows takes: its head, a timestamp and a birth a row, and its columns
abbrev pub block_length : ℕ → List Kind → ℕ
block_length rows kinds = 14 + 16 * rows + sum_by (column_length rows) kinds

-- ---- reading

-- The kind of a code, where columns of the kind can stand in blocks.
abbrev pub kind_of_code : ℕ → Option Kind
kind_of_code code =
    (if code == 1 then Some Truth
    else (if code == 2 then Some I8
    else (if code == 3 then Some I16
    else (if code == 4 then Some I32
    else (if code == 5 then Some I64
    else (if code == 6 then Some U8
    else (if code == 7 then Some U16
    else (if code == 8 then Some U32
    else (if code == 9 then Some U64
    else (if code == 10 then Some Time
    else None))))))))))

-- What is behind so many fields of one width, which are passed over; the first that is cut short is a fault.
abbrev pub passed : ℕ → ℕ → List ℕ → Result (List ℕ) ℕ
passed width count bytes =
    (if nat_lt (length bytes) (width * count) then Err (length bytes % width) else Ok (drop (width * count) bytes))

-- a timestamp that is at most the last
abbrev pub first_time : List ℕ → Read ℕ
first_time bytes = (checked (number w64) (λ ts. nat_le ts LAST_TIMESTAMP)).read bytes

-- the last of so many further timestamps, the others of which are passed over; it is later than the first
abbrev pub last_time : ℕ → ℕ → List ℕ → Read ℕ
last_time more first bytes =
    (if more == 0 then Ok (first, bytes)
    else (passed 8 (more - 1) bytes >>= λ after.
    (checked (number w64) (λ ts. nat_le ts LAST_TIMESTAMP && nat_lt first ts)).read after))

-- a code that is the kind's, or a fault
abbrev pub kind_or_fault : ℕ → Option Kind → Result Kind ℕ
kind_or_fault left None = Err left
kind_or_fault left (Some kind) = Ok kind

-- the kind of a column of so many rows, which is passed over
unfoldable pub kind_read : ℕ → List ℕ → Read Kind
kind_read rows bytes = do
  code ← (number w8).read bytes
  kind ← kind_or_fault (length bytes) (kind_of_code code.0)
  lanes ← passed 1 (2 * bitmap_length rows) code.1
  rest ← passed (kind_width kind) rows lanes
  Ok (kind, rest)

-- the kinds of columns of so many rows
abbrev pub kinds_of : ℕ → Items Kind
kinds_of rows = record { read = λ _. kind_read rows; spelled = λ _. []; fits = λ _ _. true }

-- The header of the block that begins bytes, by the block's own kinds. Of its timestamps the first and the last are
-- looked at, of its columns the codes; all else is passed over.
unfoldable pub header_read : List ℕ → Read Header
header_read bytes = do
  h ← (head None).read bytes
  first ← first_time h.1
  last ← last_time (h.0.1.1.0 - 1) first.0 first.1
  columns ← passed 8 h.0.1.1.0 last.1
  kinds ← items_read (kinds_of h.0.1.1.0) [] h.0.1.1.1 columns
  Ok (
    record {
      table = h.0.1.0;
      rows = h.0.1.1.0;
      kinds = kinds.0;
      first = first.0;
      last = last.0;
      size = block_length h.0.1.1.0 kinds.0;
    },
    kinds.1,
  )

-- what the head alone tells, or the place of its first fault
unfoldable pub head_found : List ℕ → Result Head ℕ
head_found bytes =
    placed bytes (λ (h : ℕ × (ℕ × (ℕ × ℕ))) _. record { table = h.1.0; rows = h.1.1.0; columns = h.1.1.1 })
    ((head None).read bytes)

-- the parts of a head that code reads
abbrev pub head_parts : Head → ℕ × (ℕ × (ℕ × ℕ))
head_parts h = (BLOCK_MAGIC, (h.table, (h.rows, h.columns)))

-- the header, or the place of its first fault
unfoldable pub header_found : List ℕ → Result Header ℕ
header_found bytes = placed bytes (λ (h : Header) _. h) (header_read bytes)

-- ---- blocks and headers

-- the header of the block of these rows of a table
abbrev pub header_of_block : List Kind → ℕ → Rows → Header
header_of_block kinds table rows = record {
  table = table;
  rows = length rows;
  kinds = kinds;
  first = slice_index (times_of rows) 0;
  last = slice_index (times_of rows) (length rows - 1);
  size = block_length (length rows) kinds;
}
