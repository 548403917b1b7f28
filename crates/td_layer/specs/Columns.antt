-- What a column can hold.
use Rattle.std.specs.Prelude.{◌^◌, ℤ, pos, neg_ℤ, ◌≤ℤ◌, ◌<ℤ◌, List, Option, IfSome}
use Rattle.std.specs.List.{AllByRecursion}
use Rattle.td_layer.specs.declared.values.Value.{Value}
use Rattle.td_layer.specs.declared.values.Value.TheVariants as value

-- the numbers that a column can hold: from -2^63 to 2^64 - 1
abbrev pub IsColumnNumber : ℤ → Type 0
IsColumnNumber n = (neg_ℤ (pos (2 ^ 63)) ≤ℤ n) × (n <ℤ pos (2 ^ 64))

-- NULL, or such a number
abbrev pub IsColumnValue : Value → Type 0
IsColumnValue value.Null = Unit {0}
IsColumnValue (value.Num n) = IsColumnNumber n

-- the values of a row, and the named values among cells
abbrev pub AreColumnValues : List Value → Type 0
AreColumnValues values = AllByRecursion IsColumnValue values

abbrev pub AreColumnCells : List (Option Value) → Type 0
AreColumnCells cells = AllByRecursion (λ (cell : Option Value). IfSome cell IsColumnValue) cells
