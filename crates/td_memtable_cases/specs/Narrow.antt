-- Puts of one cell.
use Rattle.std.specs.Prelude.{◌≡◌, List, length}
use Rattle.std.specs.List.{AllByRecursion}
use Rattle.td_layer.specs.declared.values.Key.{Key}
use Rattle.td_layer.specs.declared.parts.Partial.{Partial}

abbrev pub HaveOneCell : List (Key × Partial) → Type 0
HaveOneCell puts = AllByRecursion (λ (e : Key × Partial). length e.1.cells ≡ 1) puts
