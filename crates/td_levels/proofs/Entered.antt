-- Levels that hold the rows of a state hold those of the state after an entry.
use Rattle.std.proofs.Common.{◌≡◌, ℕ, ◌+◌, ◌*◌, ◌^◌, ◌<◌, ◌≤◌, leb, Bool, true, false, cond, ◌&&◌, not, List, [], ◌∷◌, length, map, filter, Option, Some, None, All, refl, sym, ap, ◌∙◌, arith}
use Rattle.std.specs.Prelude.{IfSome}
use Rattle.std.specs.List.{flat_map, AllByRecursion}
use Rattle.std.specs.FinMap.Entries.{find}
use Rattle.std.specs.Ordering.{eq_by_cmp}
use Rattle.std.proofs.lemmas.Bool.{le-leb, leb-true, leb-false, and_from, ne_eqb}
use Rattle.std.proofs.lemmas.List.Elements.{recursion_from_All, All-head, All-tail, All-append, All-map, All-weaker}
use Rattle.td_limits.specs.declared.limits.TheConstants.{DAY_RANGE, MEMTABLE_PARTS}
use Rattle.td_cols.specs.declared.kinds.Kind.{Kind}
use Rattle.td_layer.specs.declared.values.Key.{Key}
use Rattle.td_layer.specs.declared.values.Row.{Row}
use Rattle.td_layer.specs.declared.parts.Partial.{Partial}
use Rattle.td_layer.specs.Columns.{AreColumnCells}
use Rattle.td_layer.specs.Keys.{key_cmp}
use Rattle.td_layer.specs.Parts.{act, HaveOneWidth}
use Rattle.td_layer.specs.Parts as parts
use Rattle.td_layer.specs.Scans.{is_cut}
use Rattle.td_model.specs.declared.catalog.Column.{Column}
use Rattle.td_model.specs.declared.history.Put.{Put}
use Rattle.td_model.specs.Catalog.{Catalog}
use Rattle.td_model.specs.State.{Rows, row_at as row_of, with_row, lay, is_cut as is_in_cut}
use Rattle.td_verdict.specs.Sound.{IsPut}
use Rattle.td_memtree.specs.Keys.{item_at}
use Rattle.td_memtree.specs.Within.{is_within}
use Rattle.td_memtable.specs.Contents.{Contents, key_at, with_put, with_cut}
use Rattle.td_fileio.specs.Days.{day_start}
use Rattle.td_fileset.specs.Stack.{Layer, row_at}
use Rattle.td_fileset.specs.Layered.{listed, whole, last_ts, memtable_layer, set_layers, table_layers, are_sound}
use Rattle.td_fileset.proofs.Filters.{span_of_keys, filter_none}
use Rattle.td_fileset.proofs.Ranged.{only_found, only_rises}
use Rattle.td_fileset.proofs.Rows.{equal_keys}
use Rattle.td_levels.specs.Levels.{Levels, Files, open_sets, memtables_of, table_kinds}
use Rattle.td_levels.specs.Taken.{with_puts}
use Rattle.td_levels.specs.Fits.{FitsPut, FitsMemtable, FitsLevels, HaveNoFurther}
use Rattle.td_levels.proofs.Found.{looked_up, find_inserted, insert_rises}
use Rattle.td_levels.proofs.Fitting.{found_item, one_width, new_fits, put_fits}
use Rattle.td_levels.proofs.Grown.{Grows}
use Rattle.td_levels.proofs.Held.{is_there, level_row, Make}
use Rattle.td_levels.proofs.Memory.{mem_row, put_row, cut_row}

-- levels with another active memtable
abbrev pub with_active : Contents → Levels → Levels
with_active m l = record { active = m; frozen = l.frozen; sets = l.sets }

-- the rows after puts
abbrev pub puts_rows : ℕ → List Put → Rows → Rows
puts_rows moment [] rows = rows
puts_rows moment (p ∷ ps) rows = puts_rows moment ps (with_row p.key (lay p.cells moment (row_of p.key rows)) rows)

module _ (files : Files) (c : Catalog) (edge : ℕ) where
  -- the row of a key below the active memtable
  abbrev below : Levels → Key → Option Row
  below l q = row_at q (table_layers (listed l.frozen) (open_sets files l.sets) (q.table, table_kinds c q.table))

  -- ---- puts

  put_makes : (l : Levels) (rows : Rows) (k : Key) (p : Partial) → is_there (length c.tables) edge k ≡ true → k.ts ≤ last_ts → HaveOneWidth (Some p) (item_at k l.active.puts)
      → Make files c edge l rows → Make files c edge (with_active (with_put k p l.active) l) (with_row k (parts.lay p (row_of k rows)) rows)
  put_makes l rows k p there time width m = record {
    sound = m.sound;
    order = insert_rises k (parts.lay p (row_of k rows)) rows m.order;
    found = λ q. find_inserted q k (parts.lay p (row_of k rows)) rows ∙ by q (eq_by_cmp key_cmp q k) refl ∙ ap (λ (o : Option Row). cond (is_there (length c.tables) edge q) o None) (sym (put_row q k p l.active (below l q) time width));
  }
    where
      by : (q : Key) (b : Bool) → eq_by_cmp key_cmp q k ≡ b
          → cond b (Some (parts.lay p (row_of k rows))) (find key_cmp q rows) ≡ cond (is_there (length c.tables) edge q) (cond b (Some (parts.lay p (mem_row q.table q l.active (below l q)))) (mem_row q.table q l.active (below l q))) None
      by q true e =
          let same : q ≡ k = equal_keys q k e in
          let there_q : is_there (length c.tables) edge q ≡ true = ap (is_there (length c.tables) edge) same ∙ there in
          let row : row_of k rows ≡ mem_row q.table q l.active (below l q) =
          looked_up k rows ∙ ap (λ (x : Key). find key_cmp x rows) (sym same) ∙ m.found q ∙ ap (λ (b : Bool). cond b (level_row files c l q) None) there_q in
          ap (λ (o : Option Row). Some (parts.lay p o)) row
          ∙ sym (ap (λ (b : Bool). cond b (Some (parts.lay p (mem_row q.table q l.active (below l q)))) None) there_q)
      by q false e = m.found q

  key_there : (p : Put) → IsPut c p → edge * DAY_RANGE ≤ p.key.ts → is_there (length c.tables) edge p.key ≡ true
  key_there p is from =
      and_from (leb 1 p.key.table && leb p.key.table (length c.tables)) (leb (day_start edge) p.key.ts)
      (and_from (leb 1 p.key.table) (leb p.key.table (length c.tables)) (le-leb 1 p.key.table is.key.from_one) (le-leb p.key.table (length c.tables) is.key.there))
      (le-leb (day_start edge) p.key.ts from)

  width_of : (k : Key) (p : Partial) (o : Option Partial) → FitsPut c (k, p) → IfSome o (λ (q : Partial). FitsPut c (k, q)) → HaveOneWidth (Some p) o
  width_of k p None f g = tt
  width_of k p (Some q) f g = one_width c k p q f g

  pub puts_make : (moment : ℕ) (ps : List Put) (l : Levels) (rows : Rows) → moment < 2 ^ 64 → All (IsPut c) ps → All (λ (p : Put). edge * DAY_RANGE ≤ p.key.ts) ps → All (λ (p : Put). AreColumnCells p.cells) ps
      → l.active.held + length ps ≤ MEMTABLE_PARTS → FitsMemtable c l.active → Make files c edge l rows → Make files c edge (with_active (with_puts moment ps l.active) l) (puts_rows moment ps rows)
  puts_make moment [] l rows small are from cells room fits m = m
  puts_make moment (p ∷ ps) l rows small are from cells room fits m =
      let is = All-head (IsPut c) p ps are in
      let at = All-head (λ (p : Put). edge * DAY_RANGE ≤ p.key.ts) p ps from in
      let its = All-head (λ (p : Put). AreColumnCells p.cells) p ps cells in
      let new : Partial = record { birth = record { born = moment }; cells = p.cells } in
      let fit : FitsPut c (p.key, new) = new_fits c moment p small is in
      let time = is.key.time in
      let width = width_of p.key new (item_at p.key l.active.puts) fit (found_item (FitsPut c) p.key l.active.puts (recursion_from_All (FitsPut c) l.active.puts fits.puts)) in
      puts_make moment ps (with_active (with_put p.key new l.active) l) (with_row p.key (lay p.cells moment (row_of p.key rows)) rows) small
      (All-tail (IsPut c) p ps are) (All-tail (λ (p : Put). edge * DAY_RANGE ≤ p.key.ts) p ps from) (All-tail (λ (p : Put). AreColumnCells p.cells) p ps cells) (omega (arith, room))
      (put_fits c p.key new l.active fit its (omega (arith, room)) fits)
      (put_makes l rows p.key new (key_there p is at) (omega (arith, time)) width m)

  -- ---- cuts, and a retention edge

  pub cut_makes : (l : Levels) (rows : Rows) (table lo hi : ℕ) → lo ≤ last_ts → Make files c edge l rows
      → Make files c edge (with_active (with_cut table lo hi l.active) l) (filter (λ (e : Key × Row). not (is_in_cut table lo hi e.0)) rows)
  cut_makes l rows table lo hi le m = record {
    sound = m.sound;
    order = only_rises (λ (key : Key). not (is_in_cut table lo hi key)) rows m.order;
    found = λ q. only_found (λ (key : Key). not (is_in_cut table lo hi key)) rows q
        ∙ ap (λ (o : Option Row). cond (not (is_in_cut table lo hi q)) o None) (m.found q)
        ∙ by (is_in_cut table lo hi q) (is_there (length c.tables) edge q) (mem_row q.table q l.active (below l q))
        ∙ ap (λ (o : Option Row). cond (is_there (length c.tables) edge q) o None) (sym (cut_row q table lo hi l.active (below l q) le));
  }
    where
      by : (b t : Bool) (row : Option Row) → cond (not b) (cond t row None) None ≡ cond t (cond b None row) None
      by true true row = refl
      by true false row = refl
      by false t row = refl

pub edge_makes : (files : Files) (c : Catalog) (edge next : ℕ) (l : Levels) (rows : Rows) → edge ≤ next → Make files c edge l rows → Make files c next l (filter (λ (e : Key × Row). leb (next * DAY_RANGE) e.0.ts) rows)
edge_makes files c edge next l rows le m = record {
  sound = m.sound;
  order = only_rises (λ (key : Key). leb (next * DAY_RANGE) key.ts) rows m.order;
  found = λ q. only_found (λ (key : Key). leb (next * DAY_RANGE) key.ts) rows q
      ∙ ap (λ (o : Option Row). cond (leb (next * DAY_RANGE) q.ts) o None) (m.found q)
      ∙ by (leb 1 q.table && leb q.table (length c.tables)) (leb (edge * DAY_RANGE) q.ts) (leb (next * DAY_RANGE) q.ts) (level_row files c l q) (later q.ts);
}
  where
    later : (ts : ℕ) → leb (next * DAY_RANGE) ts ≡ true → leb (edge * DAY_RANGE) ts ≡ true
    later ts h = let past = leb-true (next * DAY_RANGE) ts h in le-leb (edge * DAY_RANGE) ts (omega (arith, past, le))

    by : (t a b : Bool) (row : Option Row) → (b ≡ true → a ≡ true) → cond b (cond (t && a) row None) None ≡ cond (t && b) row None
    by true a true row h = ap (λ (x : Bool). cond x row None) (h refl)
    by true a false row h = refl
    by false a true row h = refl
    by false a false row h = refl

-- ---- a catalog that grows

-- under layers without partials no key has a row
pub no_row : (q : Key) (layers : List Layer) → AllByRecursion (λ (l : Layer). l.partials ≡ []) layers → row_at q layers ≡ None
no_row q [] h = refl
no_row q (l ∷ older) h =
    ap (act (record { cut = is_cut q l.cuts; put = find key_cmp q l.partials })) (no_row q older h.1)
    ∙ ap (λ (es : List (Key × Partial)). act (record { cut = is_cut q l.cuts; put = find key_cmp q es }) None) h.0
    ∙ by (is_cut q l.cuts)
  where
    by : (b : Bool) → ◌≡◌ {A = Option Row} (cond b None None) None
    by true = refl
    by false = refl

-- memtables that fit have nothing of a further table
pub nothing_further : (c : Catalog) (t : ℕ × List Kind) (m : Contents) → length c.tables < t.0 → FitsMemtable c m → (memtable_layer (whole t.0 t.1) m).partials ≡ []
nothing_further c t m lt fits = filter_none (λ (e : Key × Partial). is_within (key_at t.0 0) (key_at t.0 last_ts) e.0) m.puts (each m.puts (recursion_from_All (FitsPut c) m.puts fits.puts))
  where
    each : (es : List (Key × Partial)) → AllByRecursion (FitsPut c) es → AllByRecursion (λ (e : Key × Partial). is_within (key_at t.0 0) (key_at t.0 last_ts) e.0 ≡ false) es
    each [] h = tt
    each (e ∷ es) h =
        let there : e.0.table ≤ length c.tables = h.0.put.key.there in
        (span_of_keys t.0 0 last_ts e.0 ∙ ap (λ (b : Bool). b && (leb 0 e.0.ts && leb e.0.ts last_ts)) (ne_eqb e.0.table t.0 (λ e. omega (arith, e, there, lt))), each es h.1)

module _ (files : Files) (c d : Catalog) (edge : ℕ) (l : Levels) (g : Grows c d) (fits : FitsLevels c l) (further : HaveNoFurther files c l.sets) where
  same_kinds : (table : ℕ) → 1 ≤ table → table ≤ length c.tables → table_kinds d table ≡ table_kinds c table
  same_kinds table one there = ap (map (λ (k : Column). k.kind)) (g.same table one there)

  further_row : (q : Key) (kinds : List Kind) → length c.tables < q.table → row_at q (table_layers (memtables_of l) (open_sets files l.sets) (q.table, kinds)) ≡ None
  further_row q kinds lt =
      no_row q (table_layers (memtables_of l) (open_sets files l.sets) (q.table, kinds))
      (recursion_from_All (λ (l : Layer). l.partials ≡ []) (table_layers (memtables_of l) (open_sets files l.sets) (q.table, kinds))
      (All-append (λ (l : Layer). l.partials ≡ []) (map (memtable_layer (whole q.table kinds)) (memtables_of l)) (flat_map (set_layers (q.table, kinds)) (open_sets files l.sets))
      (All-map (λ (l : Layer). l.partials ≡ []) (memtable_layer (whole q.table kinds)) (memtables_of l)
      (All-weaker (FitsMemtable c) (λ (m : Contents). (memtable_layer (whole q.table kinds) m).partials ≡ []) (λ m f. nothing_further c (q.table, kinds) m lt f) (memtables_of l) fits.memtables))
      ((further q.table lt).none kinds)))

  pub grow_makes : (rows : Rows) → Make files c edge l rows → Make files d edge l rows
  grow_makes rows m = record {
    sound = λ table one there. sound table one there (leb table (length c.tables)) refl;
    order = m.order;
    found = λ q. m.found q ∙ by q (leb 1 q.table) (leb q.table (length c.tables)) refl refl;
  }
    where
      sound : (table : ℕ) → 1 ≤ table → table ≤ length d.tables → (b : Bool) → leb table (length c.tables) ≡ b → are_sound (table, table_kinds d table) (open_sets files l.sets) ≡ true
      sound table one there true e =
          let at = leb-true table (length c.tables) e in
          ap (λ (kinds : List Kind). are_sound (table, kinds) (open_sets files l.sets)) (same_kinds table one at) ∙ m.sound table one at
      sound table one there false e = (further table (leb-false table (length c.tables) e)).sound (table_kinds d table)

      none : (b : Bool) → ◌≡◌ {A = Option Row} None (cond b None None)
      none true = refl
      none false = refl

      by : (q : Key) (a b : Bool) → leb 1 q.table ≡ a → leb q.table (length c.tables) ≡ b
          → cond ((a && b) && leb (day_start edge) q.ts) (level_row files c l q) None ≡ cond ((a && leb q.table (length d.tables)) && leb (day_start edge) q.ts) (level_row files d l q) None
      by q true true e f =
          let one = leb-true 1 q.table e in
          let at = leb-true q.table (length c.tables) f in
          let more : length c.tables ≤ length d.tables = g.more in
          ap (λ (kinds : List Kind). cond (leb (day_start edge) q.ts) (row_at q (table_layers (memtables_of l) (open_sets files l.sets) (q.table, kinds))) None) (sym (same_kinds q.table one at))
          ∙ ap (λ (b : Bool). cond (b && leb (day_start edge) q.ts) (level_row files d l q) None) (sym (le-leb q.table (length d.tables) (omega (arith, at, more))))
      by q true false e f =
          let past = leb-false q.table (length c.tables) f in
          none (leb q.table (length d.tables) && leb (day_start edge) q.ts)
          ∙ ap (λ (o : Option Row). cond (leb q.table (length d.tables) && leb (day_start edge) q.ts) o None) (sym (further_row q (table_kinds d q.table) past))
      by q false true e f = refl
      by q false false e f = refl
