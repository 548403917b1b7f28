-- The cells of a row by their places; and a table whose name and tags don't pass has no row of which all comparisons are true.
use Rattle.std.proofs.Common.{◌≡◌, ℕ, zero, suc, ◌+◌, ◌-◌, ◌<◌, ◌≤◌, pos, nat_eq, Option, Some, sym, Bool, true, false, cond, ◌&&◌, nat_lt, List, [], ◌∷◌, ◌++◌, length, refl, ap, ◌∙◌, arith}
use Rattle.std.specs.List.{slice_get}
use Rattle.std.specs.Option.{option_map_or, unwrap_or}
use Rattle.std.proofs.lemmas.Bool.Decides.{nat_tests}
use Rattle.std.proofs.lemmas.Option.{same_Some}
use Rattle.std.proofs.lemmas.Bool.{and_left, and_right, ltb-true}
use Rattle.td_layer.specs.declared.values.Value.{Value}
use Rattle.td_layer.specs.declared.values.Value.TheVariants as value
use Rattle.td_layer.specs.declared.values.Cell.{Cell}
use Rattle.td_layer.specs.declared.values.Cell.TheVariants as cell
use Rattle.td_model.specs.declared.catalog.Column.{Column}
use Rattle.td_model.specs.Tags.{cell_matches, tag_matches}
use Rattle.td_verdict.specs.declared.comparison.Comparison.{Comparison}
use Rattle.td_verdict.specs.Fields.{value_cell, value_cells, column_cells, row_cells, holds, all_hold}
use Rattle.td_verdict.specs.Plans.{holds_of_table, all_hold_of_table}

length-value_cells : (cs : List Column) (values : List Value) → length (value_cells cs values) ≡ length cs
length-value_cells [] values = refl
length-value_cells (c ∷ cs) [] = ap suc (length-value_cells cs [])
length-value_cells (c ∷ cs) (v ∷ values) = ap suc (length-value_cells cs values)

length-column_cells : (columns : List Column) (ts : ℕ) (values : List Value) → length (column_cells columns ts values) ≡ length columns
length-column_cells [] ts values = refl
length-column_cells (c ∷ cs) ts values = ap suc (length-value_cells cs values)

get_behind : (xs ys : List Cell) (i n : ℕ) → length xs + n ≡ i → slice_get (xs ++ ys) i ≡ slice_get ys n
get_behind [] ys i n h = let e : i ≡ n = omega arith in ap (slice_get ys) e
get_behind (x ∷ xs) ys zero n h = absurd (omega arith)
get_behind (x ∷ xs) ys (suc i) n h = get_behind xs ys i n (omega arith)

module _ (columns : List Column) (name : List ℕ) (tags : List Cell) (ts : ℕ) (values : List Value) where
  abbrev cells : List Cell
  cells = row_cells columns name tags ts values

  at_tag : (place : ℕ) → length columns < place → slice_get cells place ≡ slice_get tags (place - (length columns + 1))
  at_tag place h =
      let long = length-column_cells columns ts values in
      get_behind (cell.Str name ∷ column_cells columns ts values) tags place (place - (length columns + 1)) (omega arith)

  fails_tag : (p : Comparison) (b : Bool) → nat_lt (length columns) p.place ≡ b → cond b (tag_matches (p.place - (length columns + 1)) p.op p.operand tags) true ≡ false → holds cells p ≡ false
  fails_tag p true is h = ap (λ o. option_map_or (λ a. cell_matches p.op a p.operand) o false) (at_tag p.place (ltb-true (length columns) p.place is)) ∙ h
  fails_tag p false is h = absurd (cc)

  fails_by : (p : Comparison) (b : Bool) → nat_eq p.place 0 ≡ b → cond b (cell_matches p.op (cell.Str name) p.operand) (cond (nat_lt (length columns) p.place) (tag_matches (p.place - (length columns + 1)) p.op p.operand tags) true) ≡ false → holds cells p ≡ false
  fails_by p true is h = let none : p.place ≡ 0 = grind (arith, nat_tests) in ap (λ n. tag_matches n p.op p.operand cells) none ∙ h
  fails_by p false is h = fails_tag p (nat_lt (length columns) p.place) refl h

  fails_at : (p : Comparison) (ps : List Comparison) (b : Bool) → holds_of_table (length columns) name tags p ≡ b → cond b (all_hold_of_table (length columns) ps name tags) false ≡ false → (all_hold_of_table (length columns) ps name tags ≡ false → all_hold ps cells ≡ false) → (holds cells p && all_hold ps cells) ≡ false
  fails_at p ps true is h rest = and_right (holds cells p) (all_hold ps cells) (rest h)
  fails_at p ps false is h rest = and_left (holds cells p) (all_hold ps cells) (fails_by p (nat_eq p.place 0) refl is)

  pub fails : (ps : List Comparison) → all_hold_of_table (length columns) ps name tags ≡ false → all_hold ps cells ≡ false
  fails [] h = absurd (cc)
  fails (p ∷ ps) h = fails_at p ps (holds_of_table (length columns) name tags p) refl h (fails ps)

-- ---- a column's cell
get_front : (xs ys : List Cell) (i : ℕ) → i < length xs → slice_get (xs ++ ys) i ≡ slice_get xs i
get_front [] ys i h = absurd (omega arith)
get_front (x ∷ xs) ys zero h = refl
get_front (x ∷ xs) ys (suc i) h = get_front xs ys i (omega arith)

value_there : (cs : List Column) (values : List Value) (i : ℕ) (c : Column) → slice_get cs i ≡ Some c → slice_get (value_cells cs values) i ≡ Some (value_cell c.kind (unwrap_or (slice_get values i) value.Null))
value_there [] values i c h = absurd (cc)
value_there (d ∷ cs) [] zero c h = let same : d ≡ c = same_Some d c h in ap (λ (c : Column). Some (value_cell c.kind value.Null)) same
value_there (d ∷ cs) [] (suc i) c h = value_there cs [] i c h
value_there (d ∷ cs) (v ∷ values) zero c h = let same : d ≡ c = same_Some d c h in ap (λ (c : Column). Some (value_cell c.kind v)) same
value_there (d ∷ cs) (v ∷ values) (suc i) c h = value_there cs values i c h

module _ (columns : List Column) (name : List ℕ) (tags : List Cell) (ts : ℕ) (values : List Value) where
  -- the cell at a place of a column
  pub at_column : (place : ℕ) (a : Cell) → ¬ (place ≡ 0) → place ≤ length columns → slice_get (column_cells columns ts values) (place - 1) ≡ Some a → slice_get (row_cells columns name tags ts values) place ≡ Some a
  at_column zero a ne le h = absurd (ne refl)
  at_column (suc i) a ne le h =
      let long = length-column_cells columns ts values in
      let one : suc i - 1 ≡ i = omega arith in
      get_front (column_cells columns ts values) tags i (omega arith) ∙ ap (slice_get (column_cells columns ts values)) (sym one) ∙ h

  pub at_tag_place : (place : ℕ) → length columns < place → slice_get (row_cells columns name tags ts values) place ≡ slice_get tags (place - 1 - length columns)
  at_tag_place place h =
      let one : place - (length columns + 1) ≡ place - 1 - length columns = omega arith in
      at_tag columns name tags ts values place h ∙ ap (slice_get tags) one

-- the cell of a column: the timestamp, or a value
pub first_there : (columns : List Column) (ts : ℕ) (values : List Value) (at : ℕ) → at < length columns → at ≡ 0 → slice_get (column_cells columns ts values) at ≡ Some (cell.Num (pos ts))
first_there [] ts values at h none = absurd (omega arith)
first_there (c ∷ cs) ts values at h none = ap (slice_get (column_cells (c ∷ cs) ts values)) none

pub behind_there : (columns : List Column) (ts : ℕ) (values : List Value) (at : ℕ) (c : Column) (v : Option Value) → ¬ (at ≡ 0) → slice_get columns at ≡ Some c → v ≡ slice_get values (at - 1) → slice_get (column_cells columns ts values) at ≡ Some (value_cell c.kind (unwrap_or v value.Null))
behind_there [] ts values at c v ne h is = absurd (cc)
behind_there (d ∷ cs) ts values zero c v ne h is = absurd (ne refl)
behind_there (d ∷ cs) ts values (suc i) c v ne h is =
    let one : suc i - 1 ≡ i = omega arith in
    value_there cs values i c h ∙ ap (λ o. Some (value_cell c.kind (unwrap_or o value.Null))) (ap (slice_get values) (sym one) ∙ sym is)
