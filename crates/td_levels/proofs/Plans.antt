-- A plan reads the rows of its tables in its range of timestamps.
use Rattle.std.proofs.Common.{◌≡◌, ℕ, zero, suc, ◌<◌, ◌≤◌, ◌==◌, leb, Bool, true, false, cond, ◌&&◌, List, [], ◌∷◌, length, map, Some, None, All, refl, sym, ap, subst, ◌∙◌, arith}
use Rattle.std.specs.Prelude.{Contains, slice_index_or}
use Rattle.std.specs.List.{flat_map, list_all, AllByRecursion}
use Rattle.std.specs.List.Sorted.{IsStrictlySortedBy}
use Rattle.std.specs.FinMap.Entries.{find}
use Rattle.std.specs.Ordering.{nat_cmp}
use Rattle.std.specs.declared.cmp.Ordering.TheVariants.{Less}
use Rattle.std.proofs.lemmas.Bool.{and_parts, and_from, eqb-true, eqb-false, leb-true, le-leb}
use Rattle.std.proofs.lemmas.List.Elements.{All-contains_itself, All-contains, All-weaker, recursion_from_All}
use Rattle.td_cols.specs.declared.kinds.Kind.{Kind}
use Rattle.td_layer.specs.declared.values.Key.{Key}
use Rattle.td_layer.specs.declared.values.Row.{Row}
use Rattle.td_layer.specs.Keys.{key_cmp, AllAfter}
use Rattle.td_layer.specs.Scans.{rows_in}
use Rattle.td_model.specs.Catalog.{Catalog}
use Rattle.td_model.specs.State.{State, Rows}
use Rattle.td_fileio.specs.Days.{day_start, day_end}
use Rattle.td_fileset.specs.Stack.{row_at}
use Rattle.td_fileset.specs.Ranges.{only}
use Rattle.td_fileset.specs.Layered.{Stored, whole, memtable_layer, table_layers, table_rows, set_layers, are_sound, is_between, rows_told}
use Rattle.td_fileset.proofs.Pieced.{above}
use Rattle.td_fileset.proofs.Ranged.{only_found, only_rises}
use Rattle.td_fileset.proofs.Rows.{one_list}
use Rattle.td_levels.specs.Levels.{SetFiles, Levels, Files, open_sets, memtables_of, table_kinds}
use Rattle.td_levels.specs.Laws.{HoldRows, kinds_at, read_by, SameWithin}
use Rattle.td_levels.proofs.Days.{row_over, kept_row, kept_sound, not_met}
use Rattle.td_levels.proofs.Told.{row_in, row_among, AreRising, found_among, rise_among, told}
use Rattle.td_levels.proofs.Held.{level_row, Make, makes}

module _ (c : Catalog) where
  after_all : (n : ℕ) (tables : List ℕ) → AllByRecursion (λ (m : ℕ). nat_cmp n m ≡ Less) tables → AllAfter nat_cmp n (kinds_at c tables)
  after_all n [] h = tt
  after_all n (t ∷ ts) h = (h.0, after_all n ts h.1)

  kinds_rise : (tables : List ℕ) → IsStrictlySortedBy nat_cmp tables → AreRising (kinds_at c tables)
  unfolding IsStrictlySortedBy
  kinds_rise [] h = tt
  kinds_rise (t ∷ ts) h = (after_all t ts h.0, kinds_rise ts h.1)

  -- the row of a key of one of the tables
  among : (st : Stored) (q : Key) (tables : List ℕ) → Contains tables q.table → row_among st q (kinds_at c tables) ≡ row_in st q (q.table, table_kinds c q.table)
  among st q [] h = absurd (omega (arith, h.1))
  among st q (t ∷ ts) h = by (q.table == t) refl (λ k. among st q ts k)
    where
      later : (k : ℕ) → k < suc (length ts) → slice_index_or (t ∷ ts) k q.table ≡ q.table → (q.table == t) ≡ false → Contains ts q.table
      later zero lt is e = absurd (eqb-false q.table t e (sym is))
      later (suc k) lt is e = (k, omega (arith, lt), is)

      by : (b : Bool) → (q.table == t) ≡ b → (Contains ts q.table → row_among st q (kinds_at c ts) ≡ row_in st q (q.table, table_kinds c q.table))
          → cond b (row_in st q (t, table_kinds c t)) (row_among st q (kinds_at c ts)) ≡ row_in st q (q.table, table_kinds c q.table)
      by true e rest = ap (λ (n : ℕ). row_in st q (n, table_kinds c n)) (sym (eqb-true q.table t e))
      by false e rest = rest (later h.0 h.1 h.2 e)

module _ (files : Files) (s : State) (l : Levels) (tables : List ℕ) (lo hi : ℕ) (m : Make files s.catalog s.edge l s.rows) (rise : IsStrictlySortedBy nat_cmp tables) (there : All (λ (table : ℕ). (1 ≤ table) × (table ≤ length s.catalog.tables)) tables) where
  abbrev read : Stored
  read = read_by files s.catalog s.edge l tables lo hi

  abbrev meets : SetFiles → Bool
  meets f = leb s.edge f.range && (leb (day_start f.range) hi && leb lo (day_end f.range))

  all_sound : (ts : List ℕ) → AllByRecursion (λ (table : ℕ). (1 ≤ table) × (table ≤ length s.catalog.tables)) ts → list_all (λ (t : ℕ × List Kind). are_sound t read.sets) (kinds_at s.catalog ts) ≡ true
  all_sound [] h = refl
  all_sound (t ∷ ts) h =
      and_from _ _ (kept_sound files meets (t, table_kinds s.catalog t) l.sets (m.sound t h.0.0 h.0.1)) (all_sound ts h.1)

  abbrev rows_read : Rows
  rows_read = flat_map (table_rows read) read.kinds

  -- the layers that a plan reads make the row of a key in its range
  layers_row : (q : Key) → day_start s.edge ≤ q.ts → lo ≤ q.ts → q.ts ≤ hi → row_at q (table_layers read.memtables read.sets (q.table, table_kinds s.catalog q.table)) ≡ level_row files s.catalog l q
  layers_row q from low high =
      let t : ℕ × List Kind = (q.table, table_kinds s.catalog q.table) in
      row_over q (map (memtable_layer (whole t.0 t.1)) (memtables_of l)) (flat_map (set_layers t) read.sets)
      ∙ ap (above q (map (memtable_layer (whole t.0 t.1)) (memtables_of l))) (kept_row files meets t q l.sets (λ f out. not_met s.edge lo hi f.range q.ts from low high out))
      ∙ sym (row_over q (map (memtable_layer (whole t.0 t.1)) (memtables_of l)) (flat_map (set_layers t) (open_sets files l.sets)))

  same_row : (q : Key) → Contains tables q.table → lo ≤ q.ts → q.ts ≤ hi → find key_cmp q rows_read ≡ find key_cmp q s.rows
  same_row q of low high =
      let at = All-contains (λ (table : ℕ). (1 ≤ table) × (table ≤ length s.catalog.tables)) tables q.table there of in
      found_among read q read.kinds (kinds_rise s.catalog tables rise)
      ∙ among s.catalog read q tables of
      ∙ by (leb (day_start s.edge) q.ts) refl
      ∙ ap (λ (b : Bool). cond (b && leb (day_start s.edge) q.ts) (level_row files s.catalog l q) None) (sym (and_from (leb 1 q.table) (leb q.table (length s.catalog.tables)) (le-leb 1 q.table at.0) (le-leb q.table (length s.catalog.tables) at.1)))
      ∙ sym (m.found q)
    where
      by : (b : Bool) → leb (day_start s.edge) q.ts ≡ b → cond b (row_at q (table_layers read.memtables read.sets (q.table, table_kinds s.catalog q.table))) None ≡ cond b (level_row files s.catalog l q) None
      by true e = layers_row q (leb-true (day_start s.edge) q.ts e) low high
      by false e = refl

  same_in : (table : ℕ) → Contains tables table → rows_in table lo hi rows_read ≡ rows_in table lo hi s.rows
  same_in table of =
      ap (map (λ (e : Key × Row). (e.0.ts, e.1))) (one_list (only (is_between table lo hi) rows_read) (only (is_between table lo hi) s.rows) (only_rises (is_between table lo hi) rows_read (rise_among read read.kinds (kinds_rise s.catalog tables rise))) (only_rises (is_between table lo hi) s.rows m.order)
      (λ q. only_found (is_between table lo hi) rows_read q ∙ by q (is_between table lo hi q) refl ∙ sym (only_found (is_between table lo hi) s.rows q)))
    where
      by : (q : Key) (b : Bool) → is_between table lo hi q ≡ b → cond b (find key_cmp q rows_read) None ≡ cond b (find key_cmp q s.rows) None
      by q true e =
          let parts = and_parts (q.table == table) (leb lo q.ts && leb q.ts hi) e in
          let ends = and_parts (leb lo q.ts) (leb q.ts hi) parts.1 in
          same_row q (subst (Contains tables) (sym (eqb-true q.table table parts.0)) of) (leb-true lo q.ts ends.0) (leb-true q.ts hi ends.1)
      by q false e = refl

  plan_reads : (rows : Rows) × (rows_told read ≡ Some rows) × SameWithin tables lo hi rows s.rows
  plan_reads = (
    rows_read,
    told read (all_sound tables (recursion_from_All (λ (table : ℕ). (1 ≤ table) × (table ≤ length s.catalog.tables)) tables there)),
    All-weaker (Contains tables) (λ (table : ℕ). rows_in table lo hi rows_read ≡ rows_in table lo hi s.rows) same_in tables (All-contains_itself tables),
  )

pub plans_read : (files : Files) (s : State) (l : Levels) (tables : List ℕ) (lo hi : ℕ) → HoldRows files s l → IsStrictlySortedBy nat_cmp tables → All (λ (table : ℕ). (1 ≤ table) × (table ≤ length s.catalog.tables)) tables
    → (rows : Rows) × (rows_told (read_by files s.catalog s.edge l tables lo hi) ≡ Some rows) × SameWithin tables lo hi rows s.rows
plans_read files s l tables lo hi holds rise there = plan_reads files s l tables lo hi (makes files s.catalog s.edge l s.rows holds.rows) rise there
