-- An entry that the state can take, and that has room, may come next in the levels.
use Rattle.std.proofs.Common.{◌≡◌, ℕ, ◌+◌, ◌≤◌, nat_le, Bool, true, false, List, [], ◌∷◌, length, map, Option, Some, None, refl, ◌∙◌, arith}
use Rattle.std.specs.Prelude.{All, if◌then◌else◌}
use Rattle.std.specs.List.{AllZip}
use Rattle.std.proofs.lemmas.List.Elements.{All-weaker, All-cons, All-tail}
use Rattle.td_layer.specs.declared.values.Row.{Row}
use Rattle.td_layer.specs.declared.values.Value.{Value}
use Rattle.td_layer.specs.declared.values.Value.TheVariants as value
use Rattle.td_layer.specs.Columns.{AreColumnValues, AreColumnCells}
use Rattle.td_limits.specs.declared.limits.TheConstants.{MEMTABLE_PARTS, LAST_TIMESTAMP}
use Rattle.td_fileset.specs.Layered.{listed}
use Rattle.td_memtree.specs.Keys.{item_at, with_item}
use Rattle.td_memtree.specs.Within.{pairs_without}
use Rattle.td_memtable.specs.Contents.{Contents, key_at, later_end, with_put, with_cut}
use Rattle.td_model.specs.declared.catalog.Column.{Column}
use Rattle.td_model.specs.declared.history.Put.{Put}
use Rattle.td_model.specs.declared.history.What.{What}
use Rattle.td_model.specs.declared.history.What.TheVariants as what
use Rattle.td_model.specs.declared.history.Entry.{Entry}
use Rattle.td_model.specs.Catalog.{Catalog, table_at}
use Rattle.td_model.specs.State.{State, row_put, latest_raised, parent_of, put_one, put_all, effect, step}
use Rattle.td_catalog.specs.Kept.{CanFollow}
use Rattle.td_verdict.specs.Sound.{IsPut, IsFromEdge, is_value_of, is_named_of, value_columns}
use Rattle.td_verdict.specs.Valid.{IsValid}
use Rattle.td_verdict.proofs.ColumnValues.{row_values}
use Rattle.td_state.specs.Held.{CanTake}
use Rattle.td_levels.specs.Levels.{Levels, memtables_of}
use Rattle.td_levels.specs.Taken.{with_puts, taken, parts_of, HasColumnCells}
use Rattle.td_levels.specs.Laws.{MayCome, took}

-- ---- the cells of puts

-- a cell's value, NULL where it isn't named
abbrev value_or_null : Option Value → Value
value_or_null None = value.Null
value_or_null (Some v) = v

abbrev filled : List (Option Value) → List Value
filled cells = map value_or_null cells

filled_zip : (columns : List Column) (cells : List (Option Value)) → AllZip (λ (k : Column) (v : Option Value). is_named_of k.kind v ≡ true) columns cells
    → AllZip (λ (k : Column) (v : Value). is_value_of k.kind v ≡ true) columns (filled cells)
filled_zip [] [] h = h
filled_zip [] (c ∷ cells) h = absurd h
filled_zip (k ∷ columns) [] h = absurd h
filled_zip (k ∷ columns) (None ∷ cells) h = (refl, filled_zip columns cells h.1)
filled_zip (k ∷ columns) (Some v ∷ cells) h = (h.0, filled_zip columns cells h.1)

cells_filled : (cells : List (Option Value)) → AreColumnValues (filled cells) → AreColumnCells cells
cells_filled [] h = tt
cells_filled (None ∷ cells) h = (tt, cells_filled cells h.1)
cells_filled (Some v ∷ cells) h = (h.0, cells_filled cells h.1)

put_cells : (c : Catalog) → IsValid c → (p : Put) → IsPut c p → AreColumnCells p.cells
put_cells c valid p is =
    let row : Row = record { birth = record { born = 0 }; values = filled p.cells } in
    cells_filled p.cells (row_values c valid (p.key, row) (record { key = is.key; values = filled_zip (value_columns p.key.table c) p.cells is.cells }))

pub column_cells : (c : Catalog) (w : What) → IsValid c → CanFollow w c → HasColumnCells w
column_cells c (what.MakeStable name schema) valid follows = tt
column_cells c (what.MakeTable name columns) valid follows = tt
column_cells c (what.MakeSub name stable tags) valid follows = tt
column_cells c (what.Put puts) valid follows = All-weaker (IsPut c) (λ (p : Put). AreColumnCells p.cells) (λ p is. put_cells c valid p is) puts follows
column_cells c (what.Cut table lo hi) valid follows = tt
column_cells c (what.MakeStream def) valid follows = tt
column_cells c (what.DropStream n) valid follows = tt
column_cells c (what.Edge edge) valid follows = tt
column_cells c (what.Step stream upto moment) valid follows = tt
column_cells c what.Halt valid follows = tt

-- ---- an entry may come

pub may_come : (s : State) (l : Levels) (e : Entry) → IsValid s.catalog → CanTake e.what s → e.moment ≤ LAST_TIMESTAMP → l.active.held + parts_of e.what ≤ MEMTABLE_PARTS → MayCome s l e
may_come s l e valid takes last room = record {
  follows = takes.follows;
  edge = takes.edge;
  cells = column_cells s.catalog e.what valid takes.follows;
  moment = omega (arith, last);
  room = room;
}

-- ---- the edge doesn't fall

put_edge : (p : Put) (s : State) → (put_one p s).edge ≡ s.edge
put_edge p s = elim (parent_of (table_at p.key.table s.catalog)) as (λ o. (latest_raised o p.key (row_put p s)).edge ≡ s.edge) [
  | None ↦ refl
  | Some n ↦ refl
]

puts_edge : (ps : List Put) (s : State) → (put_all ps s).edge ≡ s.edge
puts_edge [] s = refl
puts_edge (p ∷ ps) s = puts_edge ps (put_one p s) ∙ put_edge p s

same_at_most : (a b : ℕ) → a ≡ b → b ≤ a
same_at_most a b e = omega arith

edge_rises : (past : List State) (w : What) (s : State) → IsFromEdge s.edge w → s.edge ≤ (effect past w s).edge
edge_rises past (what.MakeStable name schema) s from = same_at_most s.edge s.edge refl
edge_rises past (what.MakeTable name columns) s from = same_at_most s.edge s.edge refl
edge_rises past (what.MakeSub name stable tags) s from = same_at_most s.edge s.edge refl
edge_rises past (what.Put puts) s from = same_at_most (put_all puts s).edge s.edge (puts_edge puts s)
edge_rises past (what.Cut table lo hi) s from = same_at_most s.edge s.edge refl
edge_rises past (what.MakeStream def) s from = same_at_most s.edge s.edge refl
edge_rises past (what.DropStream n) s from = same_at_most s.edge s.edge refl
edge_rises past (what.Edge edge) s from = from
edge_rises past (what.Step stream upto moment) s from = same_at_most s.edge s.edge refl
edge_rises past what.Halt s from = same_at_most s.edge s.edge refl

pub edge_after : (s : State) (l : Levels) (e : Entry) → MayCome s l e → s.edge ≤ (step (s ∷ []) e).edge
edge_after s l e may = edge_rises (s ∷ []) e.what (record s { version = s.version + 1; moment = e.moment }) may.edge

-- ---- how many parts the active memtable holds then

puts_held : (moment : ℕ) (ps : List Put) (m : Contents) → (with_puts moment ps m).held ≡ m.held + length ps
puts_held moment [] m = omega arith
puts_held moment (p ∷ ps) m = omega (arith, puts_held moment ps (with_put p.key (record { birth = record { born = moment }; cells = p.cells }) m))

either_held : (b : Bool) (x y : Contents) (n : ℕ) → x.held ≡ n → y.held ≡ n → (if b then x else y).held ≡ n
either_held true x y n p q = p
either_held false x y n p q = q

cut_held : (table lo hi : ℕ) (m : Contents) → (with_cut table lo hi m).held ≡ m.held + 1
cut_held table lo hi m =
    let some : Contents = record {
      puts = pairs_without (key_at table lo) (key_at table hi) m.puts;
      cuts = with_item (key_at table lo) (later_end hi (item_at (key_at table lo) m.cuts)) m.cuts;
      held = m.held + 1;
    } in
    let none : Contents = record { puts = m.puts; cuts = m.cuts; held = m.held + 1 } in
    either_held (nat_le lo hi) some none (m.held + 1) refl refl

no_parts : (n : ℕ) → n ≡ n + 0
no_parts n = omega arith

pub taken_held : (w : What) (moment : ℕ) (m : Contents) → (taken w moment m).held ≡ m.held + parts_of w
taken_held (what.MakeStable name schema) moment m = no_parts m.held
taken_held (what.MakeTable name columns) moment m = no_parts m.held
taken_held (what.MakeSub name stable tags) moment m = no_parts m.held
taken_held (what.Put puts) moment m = puts_held moment puts m
taken_held (what.Cut table lo hi) moment m = cut_held table lo hi m
taken_held (what.MakeStream def) moment m = no_parts m.held
taken_held (what.DropStream n) moment m = no_parts m.held
taken_held (what.Edge edge) moment m = no_parts m.held
taken_held (what.Step stream upto at) moment m = no_parts m.held
taken_held what.Halt moment m = no_parts m.held

fits_in : (a b c d : ℕ) → a ≡ b + c → b + c ≤ d → a ≤ d
fits_in a b c d is le = omega arith

pub took_held : (s : State) (l : Levels) (e : Entry) → MayCome s l e → All (λ (m : Contents). m.held ≤ MEMTABLE_PARTS) (memtables_of l) → All (λ (m : Contents). m.held ≤ MEMTABLE_PARTS) (memtables_of (took e l))
took_held s l e may held =
    All-cons (λ (m : Contents). m.held ≤ MEMTABLE_PARTS) (taken e.what e.moment l.active) (listed l.frozen)
    (fits_in (taken e.what e.moment l.active).held l.active.held (parts_of e.what) MEMTABLE_PARTS (taken_held e.what e.moment l.active) may.room)
    (All-tail (λ (m : Contents). m.held ≤ MEMTABLE_PARTS) l.active (listed l.frozen) held)
