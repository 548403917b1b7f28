-- Cells of rows can be printed: numbers of rows and tags lie in the ranges of their kinds.
use Rattle.std.proofs.Common.{◌≡◌, ℕ, ◌≤◌, ℤ, pos, true, false, cond, ◌&&◌, List, [], ◌∷◌, Option, Some, None, sym, subst}
use Rattle.std.specs.Prelude.{not, FitsSigned}
use Rattle.std.specs.Int.{w128}
use Rattle.std.specs.List.{AllByRecursion}
use Rattle.std.specs.Ordering.{int_eq}
use Rattle.std.proofs.lemmas.Bool.{and_parts}
use Rattle.std.proofs.lemmas.List.Elements.{All-weaker, recursion_from_All}
use Rattle.td_cols.specs.declared.kinds.Kind.{Kind}
use Rattle.td_cols.specs.Kinds.{is_in_range}
use Rattle.td_layer.specs.Columns.{IsColumnValue, AreColumnValues}
use Rattle.td_layer.specs.declared.values.Key.{Key}
use Rattle.td_layer.specs.declared.values.Row.{Row}
use Rattle.td_layer.specs.declared.values.Cell.{Cell}
use Rattle.td_layer.specs.declared.values.Cell.TheVariants as cell
use Rattle.td_layer.specs.declared.values.Value.{Value}
use Rattle.td_layer.specs.declared.values.Value.TheVariants as value
use Rattle.td_limits.specs.declared.limits.TheConstants.{LAST_TIMESTAMP}
use Rattle.td_model.specs.declared.catalog.Column.{Column}
use Rattle.td_model.specs.declared.catalog.TableDef.{TableDef}
use Rattle.td_model.specs.Catalog.{Catalog, stable_at, schema_or_none}
use Rattle.td_model.specs.Printable.{IsPrintableCell, IsPrintableRow}
use Rattle.td_model.specs.State.{State}
use Rattle.td_verdict.specs.Fields.{value_cell, value_cells, column_cells, row_cells}
use Rattle.td_verdict.specs.Sound.{IsRow, IsSound}
use Rattle.td_verdict.proofs.ColumnValues.{row_values}
use Rattle.td_verdict.specs.Valid.{suits_kind, AreTags, IsTable, IsTableBy, IsValid}
use Rattle.td_verdict.specs.Values.{is_truth, is_text, number_cell}
use Rattle.td_printed.proofs.Numbers.{number_fits, time_fits, in_range_fits}
use Rattle.td_printed.proofs.Says.{all_append}

-- ---- the cells of a row

number_cell_prints : (k : Kind) (n : ℤ) → FitsSigned w128 n → IsPrintableCell (number_cell k n)
number_cell_prints k n h = elim (is_truth k) as
    (λ b. IsPrintableCell (cond b (cell.Truth (int_eq n (pos 1))) (cell.Num n))) [ true ↦ tt | false ↦ h ]

cell_prints : (k : Kind) (v : Value) → IsColumnValue v → IsPrintableCell (value_cell k v)
cell_prints k value.Null h = tt
cell_prints k (value.Num n) h = number_cell_prints k n (number_fits n h)

cells_print : (columns : List Column) (values : List Value) → AreColumnValues values
    → IsPrintableRow (value_cells columns values)
cells_print [] values h = tt
cells_print (c ∷ columns) [] h = (tt, cells_print columns [] tt)
cells_print (c ∷ columns) (v ∷ values) h = (cell_prints c.kind v h.0, cells_print columns values h.1)

column_cells_print : (columns : List Column) (ts : ℕ) (values : List Value) → ts ≤ LAST_TIMESTAMP
    → AreColumnValues values → IsPrintableRow (column_cells columns ts values)
column_cells_print [] ts values l h = tt
column_cells_print (c ∷ columns) ts values l h = (time_fits ts l, cells_print columns values h)

pub row_prints : (columns : List Column) (name : List ℕ) (tags : List Cell) (ts : ℕ) (values : List Value)
    → ts ≤ LAST_TIMESTAMP → AreColumnValues values → IsPrintableRow tags
    → IsPrintableRow (row_cells columns name tags ts values)
row_prints columns name tags ts values l h t = (
  tt,
  all_append IsPrintableCell (column_cells columns ts values) tags (column_cells_print columns ts values l h)
      t,
)

-- ---- tags

tag_prints : (k : Kind) (a : Cell) → suits_kind k a ≡ true → IsPrintableCell a
tag_prints k cell.Null h = tt
tag_prints k (cell.Truth b) h = tt
tag_prints k (cell.Num n) h = in_range_fits k n
    (and_parts (not (is_truth k) && not (is_text k)) (is_in_range k n) h).1
tag_prints k (cell.Frac sum count) h = absurd (cc)
tag_prints k (cell.Str text) h = tt

tags_print : (tags : List Column) (cells : List Cell) → AreTags tags cells → IsPrintableRow cells
tags_print tags [] h = tt
tags_print [] (a ∷ cells) h = absurd h
tags_print (t ∷ tags) (a ∷ cells) h = (tag_prints t.kind a h.0, tags_print tags cells h.1)

table_tags_by : (c : Catalog) (t : TableDef) (parent : Option ℕ) → IsTableBy c t parent → IsPrintableRow t.tags
table_tags_by c t None h = subst IsPrintableRow (sym h.1) tt
table_tags_by c t (Some stable) h = tags_print (schema_or_none (stable_at stable c)).tags t.tags h.2

pub tables_print : (c : Catalog) → IsValid c → AllByRecursion (λ (t : TableDef). IsPrintableRow t.tags) c.tables
tables_print c valid = recursion_from_All _ c.tables
    (All-weaker (IsTable c) (λ (t : TableDef). IsPrintableRow t.tags) (λ t h. table_tags_by c t t.parent h) c.tables
    valid.tables)

-- ---- the rows of a state

-- a row in the range of time, with values such as columns hold
pub record IsGood (e : Key × Row) : Type 0 where
  pub time : e.0.ts ≤ LAST_TIMESTAMP
  pub values : AreColumnValues e.1.values

pub rows_good : (s : State) → IsSound s → AllByRecursion IsGood s.rows
rows_good s sound = recursion_from_All IsGood s.rows
    (All-weaker (IsRow s.catalog) IsGood
    (λ e h. record { time = h.key.time; values = row_values s.catalog sound.catalog e h }) s.rows sound.rows)
