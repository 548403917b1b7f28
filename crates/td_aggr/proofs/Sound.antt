-- Why what is made of sound tallies is sound.
use Rattle.std.proofs.Common.{◌≡◌, ◌≤◌, true, false, cond, List, [], ◌∷◌, length, Option, Some, None, refl, arith, IfSome, int_lt}
use Rattle.std.specs.List.{AllByRecursion}
use Rattle.std.proofs.lemmas.Int.{ints}
use Rattle.td_layer.specs.declared.values.Key.{Key}
use Rattle.td_layer.specs.declared.values.Value.{Value}
use Rattle.td_layer.specs.declared.values.Value.TheVariants as value
use Rattle.td_layer.specs.Columns.{IsColumnNumber, IsColumnValue}
use Rattle.td_aggr.specs.Aggregates.{is_before}
use Rattle.td_aggr.specs.declared.tally.Tally.{Tally}
use Rattle.td_aggr.specs.Tallies.{Mark, key_of, lesser, greater, earlier, later, empty_tally, tally_of_row, tally_of, merged, IsSound}

pub IsColumnValue-lesser : (a b : Value) → IsColumnValue a → IsColumnValue b → IsColumnValue (lesser a b)
IsColumnValue-lesser value.Null b p q = q
IsColumnValue-lesser (value.Num m) value.Null p q = p
IsColumnValue-lesser (value.Num m) (value.Num n) p q = elim (int_lt n m) as (λ t. IsColumnNumber (cond t n m)) [ true ↦ q | false ↦ p ]

pub IsColumnValue-greater : (a b : Value) → IsColumnValue a → IsColumnValue b → IsColumnValue (greater a b)
IsColumnValue-greater value.Null b p q = q
IsColumnValue-greater (value.Num m) value.Null p q = p
IsColumnValue-greater (value.Num m) (value.Num n) p q = elim (int_lt n m) as (λ t. IsColumnNumber (cond t m n)) [ true ↦ p | false ↦ q ]

abbrev pub IsColumnMark : Option Mark → Type 0
IsColumnMark m = IfSome m (λ x. IsColumnNumber x.2)

pub IsColumnMark-earlier : (a b : Option Mark) → IsColumnMark a → IsColumnMark b → IsColumnMark (earlier a b)
IsColumnMark-earlier None b p q = q
IsColumnMark-earlier (Some m) None p q = p
IsColumnMark-earlier (Some m) (Some n) p q = elim (is_before (key_of n) (key_of m)) as (λ t. IsColumnNumber (cond t n m).2) [ true ↦ q | false ↦ p ]

pub IsColumnMark-later : (a b : Option Mark) → IsColumnMark a → IsColumnMark b → IsColumnMark (later a b)
IsColumnMark-later None b p q = q
IsColumnMark-later (Some m) None p q = p
IsColumnMark-later (Some m) (Some n) p q = elim (is_before (key_of n) (key_of m)) as (λ t. IsColumnNumber (cond t m n).2) [ true ↦ p | false ↦ q ]

pub IsSound-merged : (a b : Tally) → IsSound a → IsSound b → IsSound (merged a b)
IsSound-merged a b p q = record {
  low = omega (arith, ints);
  high = omega (arith, ints);
  min = IsColumnValue-lesser a.min b.min p.min q.min;
  max = IsColumnValue-greater a.max b.max p.max q.max;
  first = IsColumnMark-earlier a.first b.first p.first q.first;
  last = IsColumnMark-later a.last b.last p.last q.last;
}

-- ---- the tally of a list
pub IsSound-empty_tally : IsSound empty_tally
IsSound-empty_tally = record { low = omega (arith, ints); high = omega (arith, ints); min = tt; max = tt; first = tt; last = tt }

pub IsSound-tally_of_row : (v : Value) (at : Key) → IsColumnValue v → IsSound (tally_of_row v at)
IsSound-tally_of_row value.Null at h = record { low = omega (arith, ints); high = omega (arith, ints); min = tt; max = tt; first = tt; last = tt }
IsSound-tally_of_row (value.Num n) at h = record { low = omega (arith, ints); high = omega (arith, ints); min = h; max = h; first = h; last = h }

pub IsSound-tally_of : (rows : List (Key × Value)) → AllByRecursion (λ r. IsColumnValue r.1) rows → IsSound (tally_of rows)
IsSound-tally_of [] h = IsSound-empty_tally
IsSound-tally_of (row ∷ rows) h =
    IsSound-merged (tally_of_row row.1 row.0) (tally_of rows) (IsSound-tally_of_row row.1 row.0 h.0) (IsSound-tally_of rows h.1)

pub rows-tally_of_row : (v : Value) (at : Key) → (tally_of_row v at).rows ≡ 1
rows-tally_of_row value.Null at = refl
rows-tally_of_row (value.Num n) at = refl

pub count-tally_of_row : (v : Value) (at : Key) → (tally_of_row v at).count ≤ 1
count-tally_of_row value.Null at = omega arith
count-tally_of_row (value.Num n) at = omega arith

pub rows-tally_of : (rows : List (Key × Value)) → (tally_of rows).rows ≡ length rows
rows-tally_of [] = refl
rows-tally_of (row ∷ rows) = omega (arith, rows-tally_of_row row.1 row.0, rows-tally_of rows)

pub count-tally_of : (rows : List (Key × Value)) → (tally_of rows).count ≤ length rows
count-tally_of [] = omega arith
count-tally_of (row ∷ rows) = omega (arith, count-tally_of_row row.1 row.0, count-tally_of rows)
