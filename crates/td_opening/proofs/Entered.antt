-- The cells of an entry, and the edge behind it.
use Rattle.std.proofs.Common.{◌≡◌, ℕ, ◌≤◌, true, List, [], ◌∷◌, map, Option, Some, None, refl, ◌∙◌, arith}
use Rattle.std.specs.List.{AllZip}
use Rattle.std.proofs.lemmas.List.Elements.{All-weaker}
use Rattle.td_layer.specs.declared.values.Row.{Row}
use Rattle.td_layer.specs.declared.values.Value.{Value}
use Rattle.td_layer.specs.declared.values.Value.TheVariants as value
use Rattle.td_layer.specs.Columns.{AreColumnValues, AreColumnCells}
use Rattle.td_model.specs.declared.catalog.Column.{Column}
use Rattle.td_model.specs.declared.history.Put.{Put}
use Rattle.td_model.specs.declared.history.What.{What}
use Rattle.td_model.specs.declared.history.What.TheVariants as what
use Rattle.td_model.specs.Catalog.{Catalog, table_at}
use Rattle.td_model.specs.State.{State, row_put, latest_raised, parent_of, put_one, put_all, effect}
use Rattle.td_catalog.specs.Kept.{CanFollow}
use Rattle.td_verdict.specs.Sound.{IsPut, IsFromEdge, is_value_of, is_named_of, value_columns}
use Rattle.td_verdict.specs.Valid.{IsValid}
use Rattle.td_verdict.proofs.ColumnValues.{row_values}
use Rattle.td_levels.specs.Taken.{HasColumnCells}

-- ---- the cells of puts

-- a cell's value, NULL where it isn't named
abbrev value_or_null : Option Value → Value
value_or_null None = value.Null
value_or_null (Some v) = v

abbrev filled : List (Option Value) → List Value
filled cells = map value_or_null cells

filled_zip : (columns : List Column) (cells : List (Option Value)) → AllZip (λ (k : Column) (v : Option Value). is_named_of k.kind v ≡ true) columns cells
    → AllZip (λ (k : Column) (v : Value). is_value_of k.kind v ≡ true) columns (filled cells)
filled_zip [] [] h = h
filled_zip [] (c ∷ cells) h = absurd h
filled_zip (k ∷ columns) [] h = absurd h
filled_zip (k ∷ columns) (None ∷ cells) h = (refl, filled_zip columns cells h.1)
filled_zip (k ∷ columns) (Some v ∷ cells) h = (h.0, filled_zip columns cells h.1)

cells_filled : (cells : List (Option Value)) → AreColumnValues (filled cells) → AreColumnCells cells
cells_filled [] h = tt
cells_filled (None ∷ cells) h = (tt, cells_filled cells h.1)
cells_filled (Some v ∷ cells) h = (h.0, cells_filled cells h.1)

put_cells : (c : Catalog) → IsValid c → (p : Put) → IsPut c p → AreColumnCells p.cells
put_cells c valid p is =
    let row : Row = record { birth = record { born = 0 }; values = filled p.cells } in
    cells_filled p.cells (row_values c valid (p.key, row) (record { key = is.key; values = filled_zip (value_columns p.key.table c) p.cells is.cells }))

pub column_cells : (w : What) (c : Catalog) → IsValid c → CanFollow w c → HasColumnCells w
column_cells (what.MakeStable name schema) c valid follows = tt
column_cells (what.MakeTable name columns) c valid follows = tt
column_cells (what.MakeSub name stable tags) c valid follows = tt
column_cells (what.Put puts) c valid follows = All-weaker (IsPut c) (λ (p : Put). AreColumnCells p.cells) (λ p is. put_cells c valid p is) puts follows
column_cells (what.Cut table lo hi) c valid follows = tt
column_cells (what.MakeStream def) c valid follows = tt
column_cells (what.DropStream n) c valid follows = tt
column_cells (what.Edge edge) c valid follows = tt
column_cells (what.Step stream upto moment) c valid follows = tt
column_cells what.Halt c valid follows = tt

-- ---- the edge doesn't fall

put_edge : (p : Put) (s : State) → (put_one p s).edge ≡ s.edge
put_edge p s = elim (parent_of (table_at p.key.table s.catalog)) as (λ o. (latest_raised o p.key (row_put p s)).edge ≡ s.edge) [
  | None ↦ refl
  | Some n ↦ refl
]

puts_edge : (ps : List Put) (s : State) → (put_all ps s).edge ≡ s.edge
puts_edge [] s = refl
puts_edge (p ∷ ps) s = puts_edge ps (put_one p s) ∙ put_edge p s

same_at_most : (a b : ℕ) → a ≡ b → b ≤ a
same_at_most a b e = omega arith

pub edge_rises : (past : List State) (w : What) (s : State) → IsFromEdge s.edge w → s.edge ≤ (effect past w s).edge
edge_rises past (what.MakeStable name schema) s from = same_at_most s.edge s.edge refl
edge_rises past (what.MakeTable name columns) s from = same_at_most s.edge s.edge refl
edge_rises past (what.MakeSub name stable tags) s from = same_at_most s.edge s.edge refl
edge_rises past (what.Put puts) s from = same_at_most (put_all puts s).edge s.edge (puts_edge puts s)
edge_rises past (what.Cut table lo hi) s from = same_at_most s.edge s.edge refl
edge_rises past (what.MakeStream def) s from = same_at_most s.edge s.edge refl
edge_rises past (what.DropStream n) s from = same_at_most s.edge s.edge refl
edge_rises past (what.Edge edge) s from = from
edge_rises past (what.Step stream upto moment) s from = same_at_most s.edge s.edge refl
edge_rises past what.Halt s from = same_at_most s.edge s.edge refl
