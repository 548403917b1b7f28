-- A column of a block: the kind's code, two bitmaps and a lane for each row. The first bitmap says which rows name a
-- value, the second which of these name one that isn't NULL.
use Rattle.std.specs.Prelude.{ℕ, ◌-◌, ◌*◌, ◌^◌, ◌==◌, ◌&&◌, ◌||◌, not, min, nat_lt, bit_and, Bool, true, false, ℤ, pos, if◌then◌else◌, List, [], map, length, slice_index, Option, Some, None}
use Rattle.std.specs.List.{flat_map}
use Rattle.std.specs.Ordering.{int_eq}
use Rattle.std.specs.Int.{w8}
use Rattle.td_cols.specs.declared.kinds.Kind.{Kind}
use Rattle.td_cols.specs.Kinds.{kind_code}
use Rattle.td_cols.specs.Spelling.{spelling}
use Rattle.td_layer.specs.declared.values.Value.{Value}
use Rattle.td_layer.specs.declared.values.Value.TheVariants as value
use Rattle.td_codec.specs.Fields.{Field, number, kind_number, checked, followed, made}
use Rattle.td_codec.specs.Lists.{Items, items_read, all_fit}
use Rattle.td_block.specs.declared.bits.Bit.{Bit}
use Rattle.td_block.specs.declared.bits.Bit.TheVariants as bit
use Rattle.td_block.specs.Bits.{bitmap_length, is_set, bitmap}

-- so many items, one behind the other
abbrev pub so_many : {A : Type 0} → ℕ → Items A → Field (List A)
so_many count items =
    record {
      read = items_read items [] count;
      spelled = flat_map items.spelled;
      fits = λ xs. (length xs == count) && all_fit items [] xs;
    }

-- ---- kinds

-- whether the numbers of a kind have a fixed width, which only a text's haven't, and stand in blocks, which sums in
-- 128 bits don't
abbrev pub is_fixed : Kind → Bool
is_fixed kind = nat_lt (kind_code kind) 11

-- the code of a kind whose columns can stand in blocks
abbrev pub code : Kind → Field ℕ
code kind = checked (number w8) (λ c. (c == kind_code kind) && is_fixed kind)

-- ---- bitmaps

-- a byte of the bitmap of the named rows: bits beyond the last row are 0
abbrev pub named_byte : ℕ → List ℕ → Field ℕ
named_byte rows before = checked (number w8) (λ byte. nat_lt byte (2 ^ min 8 (rows - 8 * length before)))

abbrev pub named_bytes : ℕ → Items ℕ
named_bytes rows =
    record {
      read = λ before. (named_byte rows before).read;
      spelled = (number w8).spelled;
      fits = λ before. (named_byte rows before).fits;
    }

-- a byte of the bitmap of the values, which are only where a row names one
abbrev pub valued_byte : List ℕ → List ℕ → Field ℕ
valued_byte names before = checked (number w8) (λ byte. bit_and byte (slice_index names (length before)) == byte)

abbrev pub valued_bytes : List ℕ → Items ℕ
valued_bytes names =
    record {
      read = λ before. (valued_byte names before).read;
      spelled = (number w8).spelled;
      fits = λ before. (valued_byte names before).fits;
    }

abbrev pub named : ℕ → Field (List ℕ)
named rows = so_many (bitmap_length rows) (named_bytes rows)

abbrev pub valued : ℕ → List ℕ → Field (List ℕ)
valued rows names = so_many (bitmap_length rows) (valued_bytes names)

-- ---- cells

-- whether a cell names a value, which may be NULL, and whether it has one
abbrev pub is_named : Option Value → Bool
is_named None = false
is_named (Some v) = true

abbrev pub is_valued : Option Value → Bool
is_valued None = false
is_valued (Some value.Null) = false
is_valued (Some (value.Num n)) = true

-- what a bitmap says of a cell
abbrev pub bit_of : Bit → Option Value → Bool
bit_of bit.Named = is_named
bit_of bit.Valued = is_valued

-- the number in the lane of a cell: 0 where it has no value
abbrev pub lane : Option Value → ℤ
lane None = pos 0
lane (Some value.Null) = pos 0
lane (Some (value.Num n)) = n

-- the cell of two bits and a lane
abbrev pub cell_from : Bool → Bool → ℤ → Option Value
cell_from name has_value n = (if has_value then Some (value.Num n) else (if name then Some value.Null else None))

-- the lane of a cell of these two bits
abbrev pub lane_from : Bool → Bool → Option Value → Option ℤ
lane_from name has_value None = (if name || has_value then None else Some (pos 0))
lane_from name has_value (Some value.Null) = (if name && not has_value then Some (pos 0) else None)
lane_from name has_value (Some (value.Num n)) = (if has_value then Some n else None)

-- a cell of these two bits: a number of the kind, which is 0 where there is no value
abbrev pub cell_of_bits : Kind → Bool → Bool → Field (Option Value)
cell_of_bits kind name has_value =
    made (checked (kind_number kind) (λ n. has_value || int_eq n (pos 0))) (cell_from name has_value)
    (lane_from name has_value)

-- the cell of a row behind those of the rows before
abbrev pub cell_behind : Kind → List ℕ → List ℕ → List (Option Value) → Field (Option Value)
cell_behind kind names values before = cell_of_bits kind (is_set names (length before)) (is_set values (length before))

abbrev pub cell_items : Kind → List ℕ → List ℕ → Items (Option Value)
cell_items kind names values = record {
  read = λ before. (cell_behind kind names values before).read;
  spelled = λ cell. spelling kind (lane cell);
  fits = λ before. (cell_behind kind names values before).fits;
}

-- the cells of so many rows, by the bitmaps before them
abbrev pub cells : Kind → ℕ → List ℕ → List ℕ → Field (List (Option Value))
cells kind rows names values = so_many rows (cell_items kind names values)

-- ---- columns

-- what a column consists of: its code, its two bitmaps and its cells
abbrev pub column_parts : ℕ → Kind → Field (ℕ × (List ℕ × (List ℕ × List (Option Value))))
column_parts rows kind =
    followed (code kind) (λ _. followed (named rows)
    (λ names. followed (valued rows names) (λ values. cells kind rows names values)))

abbrev pub parts_of_column : Kind → List (Option Value) → ℕ × (List ℕ × (List ℕ × List (Option Value)))
parts_of_column kind all = (kind_code kind, (bitmap (map is_named all), (bitmap (map is_valued all), all)))

-- a column of so many rows, as its cells
unfoldable pub column : ℕ → Kind → Field (List (Option Value))
column rows kind = made (column_parts rows kind) (λ parts. parts.1.1.1) (λ all. Some (parts_of_column kind all))
