-- Texts, cells, columns, and windows of a result with their order.
use Rattle.std.specs.Prelude.{ℕ, ◌^◌, ◌==◌, ◌&&◌, nat_lt, nat_le, Bool, true, false, ℤ, pos, if◌then◌else◌, List, [], ◌++◌, length, slice_get, ◌-◌, Option, Some, None}
use Rattle.std.specs.List.{list_all}
use Rattle.std.specs.Option.{option_map_or}
use Rattle.std.specs.Ordering.{nat_cmp, int_cmp, ordering_then, is_lt}
use Rattle.std.specs.Cmp.Lexicographic.{slice_cmp}
use Rattle.std.specs.declared.cmp.Ordering.{Ordering}
use Rattle.std.specs.Int.{w8, w16, w64, to_le_bytes}
use Rattle.td_cols.specs.declared.kinds.Kind.TheVariants.{Wide}
use Rattle.td_layer.specs.declared.values.Cell.{Cell}
use Rattle.td_layer.specs.declared.values.Cell.TheVariants as cells
use Rattle.td_model.specs.declared.windows.WinKey.{WinKey}
use Rattle.td_model.specs.declared.windows.WinRow.{WinRow}
use Rattle.td_codec.specs.Fields.{Field, ◌>>=◌, number, number_read, kind_number, signed_64, nothing, unknown, checked, pair, made, tagged, string_read}
use Rattle.td_codec.specs.Lists.{Items, each, counted}

-- A text: a length of 16 bits and so many bytes that pass a test. It is one field.
unfoldable pub text : (List ℕ → Bool) → Field (List ℕ)
text good = record {
  read = λ bytes. number_read w16 bytes >>= λ n. string_read good (length bytes) n.0 n.1;
  spelled = λ t. to_le_bytes w16 (length t) ++ t;
  fits = λ t. nat_lt (length t) (2 ^ 16) && good t;
}

-- whether no byte is below 32
abbrev pub is_printable : List ℕ → Bool
is_printable bytes = list_all (λ b. nat_le 32 b) bytes

-- ---- cells

-- a truth value, 0 or 1
unfoldable pub truth : Field Bool
truth = made (checked (number w8) (λ n. nat_lt n 2)) (λ n. n == 1) (λ b. Some (if b then 1 else 0))

abbrev pub as_null : Cell → Option (Unit {0})
as_null cells.Null = Some tt
as_null _ = None

abbrev pub as_truth : Cell → Option Bool
as_truth (cells.Truth b) = Some b
as_truth _ = None

abbrev pub as_num : Cell → Option ℤ
as_num (cells.Num n) = Some n
as_num _ = None

abbrev pub as_frac : Cell → Option (ℤ × ℕ)
as_frac (cells.Frac sum count) = Some (sum, count)
as_frac _ = None

abbrev pub as_str : Cell → Option (List ℕ)
as_str (cells.Str t) = Some t
as_str _ = None

abbrev pub cell_code : Cell → ℕ
cell_code cells.Null = 0
cell_code (cells.Truth b) = 1
cell_code (cells.Num n) = 2
cell_code (cells.Frac sum count) = 3
cell_code (cells.Str t) = 4

-- a fraction: a sum, and a count of at least 1
unfoldable pub fraction : Field (ℤ × ℕ)
fraction = pair (kind_number Wide) (checked (number w64) (λ n. nat_le 1 n))

-- the form of a cell of a code
unfoldable pub cell_form : ℕ → Field Cell
cell_form code =
    (if code == 0 then made nothing (λ _. cells.Null) as_null
    else (if code == 1 then made truth (λ b. cells.Truth b) as_truth
    else (if code == 2 then made (kind_number Wide) (λ n. cells.Num n) as_num
    else (if code == 3 then made fraction (λ p. cells.Frac p.0 p.1) as_frac
    else (if code == 4 then made (text is_printable) (λ t. cells.Str t) as_str
    else unknown)))))

unfoldable pub cell : Field Cell
cell = tagged (checked (number w8) (λ code. nat_lt code 5)) cell_code cell_form

-- a count of 32 bits and so many cells
unfoldable pub cell_list : Field (List Cell)
cell_list = counted (each cell)

-- ---- windows

-- a window: the cells of its partition and its start
abbrev pub key_of : List Cell × ℤ → WinKey
key_of p = record { part = p.0; start = p.1 }

unfoldable pub win_key : Field WinKey
win_key = made (pair cell_list signed_64) key_of (λ k. Some (k.part, k.start))

-- Cells are ordered by their rank: NULL, truth values and numbers, texts, fractions. Within a rank they are ordered by
-- their number, then by their place, then by their text.
abbrev pub rank : Cell → ℕ
rank cells.Null = 0
rank (cells.Truth b) = 1
rank (cells.Num n) = 1
rank (cells.Str t) = 2
rank (cells.Frac sum count) = 3

-- a truth value counts as 1 or 0, a fraction by its sum
abbrev pub number_of : Cell → ℤ
number_of cells.Null = pos 0
number_of (cells.Truth b) = (if b then pos 1 else pos 0)
number_of (cells.Num n) = n
number_of (cells.Str t) = pos 0
number_of (cells.Frac sum count) = sum

-- a truth value comes before the number equal to it, and fractions of one sum are ordered by their count
abbrev pub place_of : Cell → ℕ
place_of cells.Null = 0
place_of (cells.Truth b) = 0
place_of (cells.Num n) = 1
place_of (cells.Str t) = 0
place_of (cells.Frac sum count) = count

abbrev pub text_of : Cell → List ℕ
text_of cells.Null = []
text_of (cells.Truth b) = []
text_of (cells.Num n) = []
text_of (cells.Str t) = t
text_of (cells.Frac sum count) = []

unfoldable pub cell_cmp : Cell → Cell → Ordering
cell_cmp a b =
    ordering_then (nat_cmp (rank a) (rank b))
    (ordering_then (int_cmp (number_of a) (number_of b))
    (ordering_then (nat_cmp (place_of a) (place_of b)) (slice_cmp nat_cmp (text_of a) (text_of b))))

-- Windows are ordered by their partitions, cell by cell, of which one that begins another comes first; within a
-- partition they are ordered by their start.
unfoldable pub win_cmp : WinKey → WinKey → Ordering
win_cmp a b = ordering_then (slice_cmp cell_cmp a.part b.part) (int_cmp a.start b.start)

-- whether a window comes after that of the last of some values, where there are any
abbrev pub comes_after : {A : Type 0} → (A → WinKey) → List A → WinKey → Bool
comes_after window before key =
    option_map_or (λ last. is_lt (win_cmp (window last) key)) (slice_get before (length before - 1)) true

-- windows, each after the one before it; one that isn't is a fault at its first byte
abbrev pub win_key_behind : List WinKey → Field WinKey
win_key_behind before = checked win_key (comes_after (λ k. k) before)

unfoldable pub win_keys : Items WinKey
win_keys =
    record {
      read = λ before. (win_key_behind before).read;
      spelled = win_key.spelled;
      fits = λ before. (win_key_behind before).fits;
    }

unfoldable pub win_key_list : Field (List WinKey)
win_key_list = counted win_keys

-- A row of a window: its key, its end and its cells. Its key comes after that of the row before it.
abbrev pub row_of : WinKey × (ℤ × List Cell) → WinRow
row_of p = record { key = p.0; end = p.1.0; cells = p.1.1 }

-- the window of a row
abbrev pub row_key : WinRow → WinKey
row_key row = row.key

unfoldable pub win_row_behind : List WinRow → Field WinRow
win_row_behind before =
    made (pair (checked win_key (comes_after row_key before)) (pair signed_64 cell_list)) row_of
    (λ row. Some (row.key, (row.end, row.cells)))

unfoldable pub win_rows : Items WinRow
win_rows =
    record {
      read = λ before. (win_row_behind before).read;
      spelled = (win_row_behind []).spelled;
      fits = λ before. (win_row_behind before).fits;
    }

unfoldable pub win_row_list : Field (List WinRow)
win_row_list = counted win_rows
