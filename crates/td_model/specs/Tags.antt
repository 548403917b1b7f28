-- Comparisons of cells, and the subtables that a condition on a tag picks.
use Rattle.std.specs.Prelude.{ℕ, ℤ, pos, Bool, true, false, not, if◌then◌else◌, List, map, filter, slice_get, Option, Some, None}
use Rattle.std.specs.Option.{option_map_or}
use Rattle.std.specs.Ordering.{nat_cmp, int_cmp, is_lt, is_le, is_gt, is_ge, is_eq, is_ne}
use Rattle.std.specs.Cmp.Lexicographic.{slice_cmp}
use Rattle.std.specs.declared.cmp.Ordering.{Ordering}
use Rattle.td_layer.specs.declared.values.Cell.{Cell}
use Rattle.td_layer.specs.declared.values.Cell.TheVariants as cell
use Rattle.td_model.specs.declared.language.Op.{Op}
use Rattle.td_model.specs.declared.language.Op.TheVariants as op

-- the number that a cell counts as: a truth value is 1 or 0, and texts, quotients and NULL are none
abbrev pub number_of : Cell → Option ℤ
number_of cell.Null = None
number_of (cell.Truth b) = Some (if b then pos 1 else pos 0)
number_of (cell.Num n) = Some n
number_of (cell.Frac sum count) = None
number_of (cell.Str text) = None

abbrev pub text_of : Cell → Option (List ℕ)
text_of cell.Null = None
text_of (cell.Truth b) = None
text_of (cell.Num n) = None
text_of (cell.Frac sum count) = None
text_of (cell.Str text) = Some text

abbrev pub is_null : Cell → Bool
is_null cell.Null = true
is_null (cell.Truth b) = false
is_null (cell.Num n) = false
is_null (cell.Frac sum count) = false
is_null (cell.Str text) = false

abbrev pub order_of : {A : Type 0} → (A → A → Ordering) → Option A → Option A → Option Ordering
order_of cmp None b = None
order_of cmp (Some a) None = None
order_of cmp (Some a) (Some b) = Some (cmp a b)

-- whether an order of two cells passes a comparison
abbrev pub passes : Op → Ordering → Bool
passes op.Lt o = is_lt o
passes op.Le o = is_le o
passes op.Gt o = is_gt o
passes op.Ge o = is_ge o
passes op.Eq o = is_eq o
passes op.Ne o = is_ne o
passes op.IsNull o = false
passes op.NotNull o = false

-- numbers compare by their size, texts by their bytes; two cells that aren't both numbers or both texts don't compare
abbrev pub compares : Op → Cell → Cell → Bool
compares op a b =
    option_map_or (passes op) (order_of int_cmp (number_of a) (number_of b))
    (option_map_or (passes op) (order_of (slice_cmp nat_cmp) (text_of a) (text_of b)) false)

-- whether a cell passes a comparison with another, which `IsNull` and `NotNull` don't look at
abbrev pub cell_matches : Op → Cell → Cell → Bool
cell_matches op.Lt a b = compares op.Lt a b
cell_matches op.Le a b = compares op.Le a b
cell_matches op.Gt a b = compares op.Gt a b
cell_matches op.Ge a b = compares op.Ge a b
cell_matches op.Eq a b = compares op.Eq a b
cell_matches op.Ne a b = compares op.Ne a b
cell_matches op.IsNull a b = is_null a
cell_matches op.NotNull a b = not (is_null a)

-- whether a subtable has a tag at a place, and that tag passes
abbrev pub tag_matches : ℕ → Op → Cell → List Cell → Bool
tag_matches tag op lit tags = option_map_or (λ a. cell_matches op a lit) (slice_get tags tag) false

-- the numbers of the subtables whose tag passes, in the order of the list
abbrev pub matching : ℕ → Op → Cell → List (ℕ × List Cell) → List ℕ
matching tag op lit subtables = map (λ s. s.0) (filter (λ s. tag_matches tag op lit s.1) subtables)
