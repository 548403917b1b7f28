-- Where the tally of a column stands among the tallies of a sum.
use Rattle.std.specs.Prelude.{◌≡◌, ℕ, Bool, true, false, ◌==◌, nat_lt, pos, ◌-ℤ◌, List, Option, Some, None}
use Rattle.std.specs.List.{AllByRecursion, list_any}
use Rattle.td_model.specs.declared.catalog.Column.{Column}
use Rattle.td_model.specs.declared.language.Item.{Item}
use Rattle.td_model.specs.declared.language.ItemKind.{ItemKind}
use Rattle.td_model.specs.declared.language.ItemKind.TheVariants as item
use Rattle.td_query.specs.Sums.{Sum}
use Rattle.td_verdict.specs.Windowed.{Keyed}
use Rattle.td_verdict.specs.Writes.{place_of}
use Rattle.td_window.specs.Windows.{Window}

abbrev pub same_place : Option ℕ → Option ℕ → Bool
same_place None None = true
same_place None (Some n) = false
same_place (Some m) None = false
same_place (Some m) (Some n) = m == n

abbrev pub has_place : Option ℕ → List (Option ℕ) → Bool
has_place place places = list_any (same_place place) places

-- the column of an aggregate stands among places
abbrev pub IsCovered : List Column → List (Option ℕ) → ItemKind → Type 0
IsCovered columns places (item.Fun f name) = has_place (place_of columns name) places ≡ true
IsCovered columns places i = Unit {0}

abbrev pub AreCovered : List Column → List (Option ℕ) → List Item → Type 0
AreCovered columns places items = AllByRecursion (λ (i : Item). IsCovered columns places i.what) items

-- whether a sum is of some row
abbrev pub has_row : Sum → Bool
has_row s = nat_lt 0 s.rows

-- a window from a start to an end
abbrev pub window_from : ℕ → ℕ → List Keyed → Window Keyed
window_from len end rows = record { start = pos end -ℤ pos len; end = pos end; rows = rows }
