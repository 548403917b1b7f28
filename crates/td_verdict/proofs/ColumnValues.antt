-- The values of the rows of a valid catalog are such as columns can hold.
use Rattle.std.proofs.Common.{◌≡◌, ◌-◌, ◌^◌, ℤ, pos, negsuc, true, List, [], ◌∷◌, drop, Some, All, refl, arith}
use Rattle.std.specs.Prelude.{neg_ℤ, ◌≤ℤ◌, ◌<ℤ◌, int_le}
use Rattle.std.specs.List.{AllByRecursion, AllZip, list_all}
use Rattle.std.proofs.lemmas.Bool.{and_parts}
use Rattle.std.proofs.lemmas.Int.{ints}
use Rattle.std.proofs.lemmas.List.Elements.{All-weaker, recursion_from_All}
use Rattle.td_cols.specs.declared.kinds.Kind.{Kind}
use Rattle.td_cols.specs.declared.kinds.Kind.TheVariants.{Bool as Truth, I8, I16, I32, I64, U8, U16, U32, U64, Time, Wide, Text}
use Rattle.td_cols.specs.Kinds.{kind_least, kind_most, is_in_range}
use Rattle.td_layer.specs.declared.values.Key.{Key}
use Rattle.td_layer.specs.declared.values.Row.{Row}
use Rattle.td_layer.specs.declared.values.Value.{Value}
use Rattle.td_layer.specs.declared.values.Value.TheVariants as value
use Rattle.td_layer.specs.Columns.{IsColumnNumber, IsColumnValue, AreColumnValues}
use Rattle.td_model.specs.declared.catalog.Column.{Column}
use Rattle.td_model.specs.Catalog.{Catalog}
use Rattle.td_model.specs.State.{Rows}
use Rattle.td_verdict.specs.Names.{table_schema}
use Rattle.td_verdict.specs.Sound.{IsRow, is_value_of, value_columns}
use Rattle.td_verdict.specs.Valid.{IsValid}
use Rattle.td_verdict.specs.Values.{is_column_kind}
use Rattle.td_verdict.proofs.Schemas.{schema_at}

-- the numbers of a kind lie in 64 bits
record IsNarrow (least most : ℤ) : Type 0 where
  low : int_le (negsuc (2 ^ 63 - 1)) least ≡ true
  high : int_le most (pos (2 ^ 64 - 1)) ≡ true

narrow : (k : Kind) → is_column_kind k ≡ true → IsNarrow (kind_least k) (kind_most k)
unfolding kind_least kind_most
narrow Truth is = record { low = refl; high = refl }
narrow I8 is = record { low = refl; high = refl }
narrow I16 is = record { low = refl; high = refl }
narrow I32 is = record { low = refl; high = refl }
narrow I64 is = record { low = refl; high = refl }
narrow U8 is = record { low = refl; high = refl }
narrow U16 is = record { low = refl; high = refl }
narrow U32 is = record { low = refl; high = refl }
narrow U64 is = record { low = refl; high = refl }
narrow Time is = record { low = refl; high = refl }
narrow Wide is = absurd (cc)
narrow (Text n) is = absurd (cc)

in_64_bits : (least most n : ℤ) → IsNarrow least most → int_le least n ≡ true → int_le n most ≡ true → IsColumnNumber n
in_64_bits least most n is low high =
    let a : neg_ℤ (pos (2 ^ 63)) ≤ℤ n = grind (arith, ints, is.low, low) in
    let b : n <ℤ pos (2 ^ 64) = grind (arith, ints, is.high, high) in
    (a, b)

column_number : (k : Kind) (n : ℤ) → is_column_kind k ≡ true → is_in_range k n ≡ true → IsColumnNumber n
unfolding is_in_range
column_number k n is h =
    let p = and_parts (int_le (kind_least k) n) (int_le n (kind_most k)) h in
    in_64_bits (kind_least k) (kind_most k) n (narrow k is) p.0 p.1

column_value : (k : Kind) (v : Value) → is_column_kind k ≡ true → is_value_of k v ≡ true → IsColumnValue v
column_value k value.Null is h = tt
column_value k (value.Num n) is h = column_number k n is h

column_values : (columns : List Column) (values : List Value) → list_all (λ (c : Column). is_column_kind c.kind) columns ≡ true → AllZip (λ (k : Column) (v : Value). is_value_of k.kind v ≡ true) columns values → AreColumnValues values
column_values columns [] is h = tt
column_values [] (v ∷ values) is h = absurd h
column_values (c ∷ columns) (v ∷ values) is h =
    let p = and_parts (is_column_kind c.kind) (list_all (λ (c : Column). is_column_kind c.kind) columns) is in
    (column_value c.kind v p.0 h.0, column_values columns values p.1 h.1)

behind_first : (columns : List Column) → list_all (λ (c : Column). is_column_kind c.kind) columns ≡ true → list_all (λ (c : Column). is_column_kind c.kind) (drop 1 columns) ≡ true
behind_first [] is = is
behind_first (c ∷ columns) is = (and_parts (is_column_kind c.kind) (list_all (λ (c : Column). is_column_kind c.kind) columns) is).1

pub row_values : (c : Catalog) → IsValid c → (e : Key × Row) → IsRow c e → AreColumnValues e.1.values
row_values c valid e is =
    column_values (value_columns e.0.table c) e.1.values (behind_first (table_schema (Some e.0.table) c).columns (schema_at c valid e.0.table is.key.from_one is.key.there).column_kinds) is.values

pub rows_values : (c : Catalog) → IsValid c → (rows : Rows) → All (IsRow c) rows → AllByRecursion (λ (e : Key × Row). AreColumnValues e.1.values) rows
rows_values c valid rows all = recursion_from_All (λ (e : Key × Row). AreColumnValues e.1.values) rows
    (All-weaker (IsRow c) (λ (e : Key × Row). AreColumnValues e.1.values) (λ e is. row_values c valid e is) rows all)
