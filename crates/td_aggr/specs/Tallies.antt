-- What the tally of one row, of none and of two lists together is, and what each aggregate reads from a tally.
use Rattle.std.specs.Prelude.{ℕ, ◌+◌, ◌*◌, ◌^◌, ◌<◌, ℤ, pos, neg_ℤ, ◌+ℤ◌, ◌-ℤ◌, ◌≤ℤ◌, ◌==◌, if◌then◌else◌, List, [], ◌∷◌, Option, Some, None, IfSome}
use Rattle.std.specs.Int.{int_min, int_max}
use Rattle.td_layer.specs.declared.values.Key.{Key}
use Rattle.td_layer.specs.declared.values.Value.{Value}
use Rattle.td_layer.specs.declared.values.Value.TheVariants as value
use Rattle.td_layer.specs.declared.values.Func.{Func}
use Rattle.td_layer.specs.declared.values.Func.TheVariants.{Count, Sum, Min, Max, Avg, First, Last, Spread}
use Rattle.td_layer.specs.declared.values.Cell.{Cell}
use Rattle.td_layer.specs.declared.values.Cell.TheVariants as cell
use Rattle.td_layer.specs.Columns.{IsColumnNumber, IsColumnValue}
use Rattle.td_aggr.specs.Aggregates.{is_before}
use Rattle.td_aggr.specs.declared.tally.Tally.{Tally}

-- a number with its timestamp and table
abbrev pub Mark : Type 0
Mark = ℕ × ℕ × ℤ

abbrev pub key_of : Mark → Key
key_of m = record { table = m.1; ts = m.0 }

-- the lesser, the greater, the earlier and the later of two, of which either may be missing
abbrev pub lesser : Value → Value → Value
lesser value.Null b = b
lesser (value.Num m) value.Null = value.Num m
lesser (value.Num m) (value.Num n) = value.Num (int_min m n)

abbrev pub greater : Value → Value → Value
greater value.Null b = b
greater (value.Num m) value.Null = value.Num m
greater (value.Num m) (value.Num n) = value.Num (int_max m n)

-- of two with one key the former
abbrev pub earlier : Option Mark → Option Mark → Option Mark
earlier None b = b
earlier (Some m) None = Some m
earlier (Some m) (Some n) = Some (if is_before (key_of n) (key_of m) then n else m)

-- of two with one key the latter
abbrev pub later : Option Mark → Option Mark → Option Mark
later None b = b
later (Some m) None = Some m
later (Some m) (Some n) = Some (if is_before (key_of n) (key_of m) then m else n)

abbrev pub empty_tally : Tally
empty_tally = record { rows = 0; count = 0; sum = pos 0; min = value.Null; max = value.Null; first = None; last = None }

abbrev pub tally_of_row : Value → Key → Tally
tally_of_row value.Null at = record empty_tally { rows = 1 }
tally_of_row (value.Num n) at = record {
  rows = 1;
  count = 1;
  sum = n;
  min = value.Num n;
  max = value.Num n;
  first = Some (at.ts, at.table, n);
  last = Some (at.ts, at.table, n);
}

abbrev pub merged : Tally → Tally → Tally
merged a b = record {
  rows = a.rows + b.rows;
  count = a.count + b.count;
  sum = a.sum +ℤ b.sum;
  min = lesser a.min b.min;
  max = greater a.max b.max;
  first = earlier a.first b.first;
  last = later a.last b.last;
}

-- the tally of a list: those of its rows, merged
abbrev pub tally_of : List (Key × Value) → Tally
tally_of [] = empty_tally
tally_of (row ∷ rows) = merged (tally_of_row row.1 row.0) (tally_of rows)

-- the cells that a value, a number or NULL where nothing is counted, a range and a mark are shown as
abbrev pub cell_of_value : Value → Cell
cell_of_value value.Null = cell.Null
cell_of_value (value.Num n) = cell.Num n

abbrev pub unless_none : ℕ → Cell → Cell
unless_none count shown = if count == 0 then cell.Null else shown

abbrev pub cell_of_range : Value → Value → Cell
cell_of_range (value.Num low) (value.Num high) = cell.Num (high -ℤ low)
cell_of_range low high = cell.Null

abbrev pub cell_of_mark : Option Mark → Cell
cell_of_mark None = cell.Null
cell_of_mark (Some m) = cell.Num m.2

-- what a tally shows as an aggregate
abbrev pub shown : Tally → Func → Cell
shown t Count = cell.Num (pos t.count)
shown t Sum = unless_none t.count (cell.Num t.sum)
shown t Avg = unless_none t.count (cell.Frac t.sum t.count)
shown t Min = cell_of_value t.min
shown t Max = cell_of_value t.max
shown t Spread = cell_of_range t.min t.max
shown t First = cell_of_mark t.first
shown t Last = cell_of_mark t.last

-- A tally whose numbers are such as a column holds, and whose sum is such as its count of these can have.
pub record IsSound (t : Tally) : Type 0 where
  pub low : neg_ℤ (pos (2 ^ 64 * t.count)) ≤ℤ t.sum
  pub high : t.sum ≤ℤ pos (2 ^ 64 * t.count)
  pub min : IsColumnValue t.min
  pub max : IsColumnValue t.max
  pub first : IfSome t.first (λ m. IsColumnNumber m.2)
  pub last : IfSome t.last (λ m. IsColumnNumber m.2)

-- two tallies of fewer than 2^62 rows and numbers together
pub record Fit (a b : Tally) : Type 0 where
  pub rows : a.rows + b.rows < 2 ^ 62
  pub count : a.count + b.count < 2 ^ 62
