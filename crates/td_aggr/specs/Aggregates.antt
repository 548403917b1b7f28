-- What the aggregates of a column are, over a list of rows.
-- A row stands here as its key and its value in the column. COUNT(*), which looks at no column, is the length of the
-- list.
use Rattle.std.specs.Prelude.{◌≡◌, ◌≢◌, ℤ, pos, ◌+ℤ◌, ◌-ℤ◌, Bool, true, ◌&&◌, ◌||◌, ◌==◌, nat_lt, if◌then◌else◌, List, [], ◌∷◌, length, map, Option, Some, None}
use Rattle.std.specs.Int.{int_min, int_max}
use Rattle.std.specs.List.{filter_map, AllByRecursion}
use Rattle.td_layer.specs.declared.values.Key.{Key}
use Rattle.td_layer.specs.declared.values.Value.{Value}
use Rattle.td_layer.specs.declared.values.Value.TheVariants as value
use Rattle.td_layer.specs.declared.values.Func.{Func}
use Rattle.td_layer.specs.declared.values.Func.TheVariants.{Count, Sum, Min, Max, Avg, First, Last, Spread}
use Rattle.td_layer.specs.declared.values.Cell.{Cell}
use Rattle.td_layer.specs.declared.values.Cell.TheVariants as cell

-- whether one key stands before another in the order of rows: by timestamp, then by table
abbrev pub is_before : Key → Key → Bool
is_before a b = nat_lt a.ts b.ts || (a.ts == b.ts && nat_lt a.table b.table)

-- the number of a row that isn't NULL, with the row's key
abbrev pub noted : Key × Value → Option (Key × ℤ)
noted (key, value.Null) = None
noted (key, value.Num n) = Some (key, n)

-- those of the rows of a list
abbrev pub not_null : List (Key × Value) → List (Key × ℤ)
not_null rows = filter_map noted rows

-- the numbers themselves
abbrev pub numbers : List (Key × ℤ) → List ℤ
numbers = map (λ p. p.1)

-- a sum, and the least and the greatest of a number and others
abbrev pub sum_of : List ℤ → ℤ
sum_of [] = pos 0
sum_of (n ∷ ns) = n +ℤ sum_of ns

abbrev pub least : ℤ → List ℤ → ℤ
least n [] = n
least n (m ∷ ms) = int_min n (least m ms)

abbrev pub greatest : ℤ → List ℤ → ℤ
greatest n [] = n
greatest n (m ∷ ms) = int_max n (greatest m ms)

-- The earliest and the latest of a row and others, in the order of rows. Of rows of one key, which no store holds, the
-- earliest is the first of the list and the latest the last.
abbrev pub earliest : Key × ℤ → List (Key × ℤ) → Key × ℤ
earliest p [] = p
earliest p (q ∷ rest) = let e = earliest q rest in if is_before e.0 p.0 then e else p

abbrev pub latest : Key × ℤ → List (Key × ℤ) → Key × ℤ
latest p [] = p
latest p (q ∷ rest) = let e = latest q rest in if is_before e.0 p.0 then p else e

-- an aggregate of numbers, with their keys
abbrev pub aggregate_of_noted : Func → List (Key × ℤ) → Cell
aggregate_of_noted Count ps = cell.Num (pos (length ps))
aggregate_of_noted Sum (p ∷ ps) = cell.Num (sum_of (numbers (p ∷ ps)))
aggregate_of_noted Avg (p ∷ ps) = cell.Frac (sum_of (numbers (p ∷ ps))) (length (p ∷ ps))
aggregate_of_noted Min (p ∷ ps) = cell.Num (least p.1 (numbers ps))
aggregate_of_noted Max (p ∷ ps) = cell.Num (greatest p.1 (numbers ps))
aggregate_of_noted Spread (p ∷ ps) = cell.Num (greatest p.1 (numbers ps) -ℤ least p.1 (numbers ps))
aggregate_of_noted First (p ∷ ps) = cell.Num (earliest p ps).1
aggregate_of_noted Last (p ∷ ps) = cell.Num (latest p ps).1
aggregate_of_noted f [] = cell.Null

-- an aggregate of a column over a list of rows: over those whose value isn't NULL
abbrev pub aggregate : Func → List (Key × Value) → Cell
aggregate f rows = aggregate_of_noted f (not_null rows)

-- no two rows of a list have one key
abbrev pub HaveOwnKeys : {A : Type 0} → List (Key × A) → Type 0
HaveOwnKeys [] = Unit {0}
HaveOwnKeys (r ∷ rows) = AllByRecursion (λ s. s.0 ≢ r.0) rows × HaveOwnKeys rows

-- each row of a list stands before those that follow it
abbrev pub IsInRowOrder : {A : Type 0} → List (Key × A) → Type 0
IsInRowOrder [] = Unit {0}
IsInRowOrder (r ∷ rows) = AllByRecursion (λ s. is_before r.0 s.0 ≡ true) rows × IsInRowOrder rows
