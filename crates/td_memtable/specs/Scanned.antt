-- What a scan of a memtable stands for.
use Rattle.std.specs.Prelude.{Bool, List, [], ◌∷◌, Option, Some, None}
use Rattle.std.specs.List.{AllByRecursion}
use Rattle.std.specs.Borrow.{Bor}
use Rattle.td_layer.specs.declared.values.Key.{Key}
use Rattle.td_layer.specs.declared.parts.Partial.{Partial}
use Rattle.td_layer.specs.Columns.{AreColumnCells}
use Rattle.td_layer.specs.Keys.{InKeyOrder}
use Rattle.td_layer.specs.Scans.{Cut}

-- the puts that are left, the cuts of the table, and whether it has begun
pub record Scanned : Type 0 where
  pub left : List (Key × Partial)
  pub cuts : List Cut
  pub begun : Bool

-- The next put, where there is one, and those after it. Where there is none nothing is left.
abbrev pub puts_left : Option (Key × Bor Partial) → List (Key × Partial) → List (Key × Partial)
puts_left None rest = []
puts_left (Some p) rest = (p.0, p.1.now) ∷ rest

-- what is left is in order, and can stand in columns
pub record IsScan (left : List (Key × Partial)) : Type 0 where
  pub order : InKeyOrder left
  pub cells : AllByRecursion (λ (e : Key × Partial). AreColumnCells e.1.cells) left
