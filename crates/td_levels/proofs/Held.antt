-- What it is, key by key, that levels hold rows.
use Rattle.std.proofs.Common.{◌≡◌, ℕ, ◌+◌, ◌<◌, ◌≤◌, ◌==◌, nat_le, nat_lt, Bool, true, false, cond, ◌&&◌, List, [], ◌∷◌, length, Option, Some, None, refl, sym, ap, subst, ◌∙◌, arith, suc}
use Rattle.std.specs.List.{flat_map, list_all}
use Rattle.std.specs.Cmp.{nat_cmp_is}
use Rattle.std.specs.FinMap.Entries.{find}
use Rattle.std.specs.Ordering.{nat_cmp}
use Rattle.std.specs.declared.cmp.Ordering.TheVariants.{Less}
use Rattle.std.proofs.lemmas.Bool.{and_parts, and_from, eqb-true, eqb-false}
use Rattle.std.proofs.lemmas.Bool.Decides.{nat_tests}
use Rattle.td_cols.specs.declared.kinds.Kind.{Kind}
use Rattle.td_layer.specs.declared.values.Key.{Key}
use Rattle.td_layer.specs.declared.values.Row.{Row}
use Rattle.td_layer.specs.Keys.{key_cmp, AllAfter, InKeyOrder}
use Rattle.td_model.specs.declared.catalog.TableDef.{TableDef}
use Rattle.td_model.specs.Catalog.{Catalog}
use Rattle.td_model.specs.State.{Rows}
use Rattle.td_fileio.specs.Days.{day_start}
use Rattle.td_fileset.specs.Stack.{row_at}
use Rattle.td_fileset.specs.Layered.{Stored, OpenSet, table_layers, table_rows, are_sound}
use Rattle.td_fileset.proofs.Rows.{one_list}
use Rattle.td_levels.specs.Levels.{Levels, Files, open_sets, memtables_of, table_kinds, kinds_from, kinds_of, stored_of, rows_over}
use Rattle.td_levels.proofs.Told.{row_in, row_among, AreRising, found_among, rise_among, are_told, told}

-- ---- the tables of a catalog

module _ (c : Catalog) where
  kinds_after : (m n : ℕ) (ts : List TableDef) → m < n → AllAfter nat_cmp m (kinds_from c n ts)
  kinds_after m n [] lt = tt
  kinds_after m n (t ∷ ts) lt = (sym (nat_cmp_is m n Less lt), kinds_after m (n + 1) ts (omega (arith, lt)))

  kinds_rise : (n : ℕ) (ts : List TableDef) → AreRising (kinds_from c n ts)
  kinds_rise n [] = tt
  kinds_rise n (t ∷ ts) = (kinds_after n (n + 1) ts (omega arith), kinds_rise (n + 1) ts)

  all_sound : (sets : List OpenSet) (n : ℕ) (ts : List TableDef) → ((table : ℕ) → n ≤ table → table < n + length ts → are_sound (table, table_kinds c table) sets ≡ true)
      → list_all (λ (t : ℕ × List Kind). are_sound t sets) (kinds_from c n ts) ≡ true
  all_sound sets n [] h = refl
  all_sound sets n (t ∷ ts) h = and_from _ _ (h n (omega arith) (omega arith)) (all_sound sets (n + 1) ts (λ table from to. h table (omega (arith, from)) (omega (arith, to))))

  each_sound : (sets : List OpenSet) (n : ℕ) (ts : List TableDef) → list_all (λ (t : ℕ × List Kind). are_sound t sets) (kinds_from c n ts) ≡ true
      → (table : ℕ) → n ≤ table → table < n + length ts → are_sound (table, table_kinds c table) sets ≡ true
  each_sound sets n [] h table from to = absurd (omega (arith, from, to))
  each_sound sets n (t ∷ ts) h table from to =
      let parts = and_parts (are_sound (n, table_kinds c n) sets) (list_all (λ (t : ℕ × List Kind). are_sound t sets) (kinds_from c (n + 1) ts)) h in
      by (table == n) refl parts.0 (each_sound sets (n + 1) ts parts.1 table)
    where
      by : (b : Bool) → (table == n) ≡ b → are_sound (n, table_kinds c n) sets ≡ true
          → (n + 1 ≤ table → table < n + 1 + length ts → are_sound (table, table_kinds c table) sets ≡ true) → are_sound (table, table_kinds c table) sets ≡ true
      by true e this rest = subst (λ (m : ℕ). are_sound (m, table_kinds c m) sets ≡ true) (sym (eqb-true table n e)) this
      by false e this rest = let other = eqb-false table n e in rest (omega (arith, from, other)) (omega (arith, to))

  among : (st : Stored) (q : Key) (n : ℕ) (ts : List TableDef) → row_among st q (kinds_from c n ts) ≡ cond (nat_le n q.table && nat_lt q.table (n + length ts)) (row_in st q (q.table, table_kinds c q.table)) None
  among st q n [] = ap (λ (b : Bool). cond b (row_in st q (q.table, table_kinds c q.table)) None) (none n q.table)
    where
      none : (n x : ℕ) → false ≡ (nat_le n x && nat_lt x (n + 0))
      none n x = grind (arith, nat_tests)
  among st q n (t ∷ ts) = ap (cond (q.table == n) (row_in st q (n, table_kinds c n))) (among st q (n + 1) ts) ∙ by (q.table == n) refl
    where
      first : (n x k : ℕ) → (x == n) ≡ true → true ≡ (nat_le n x && nat_lt x (n + (1 + k)))
      first n x k e = grind (arith, nat_tests)

      later : (n x k : ℕ) → (x == n) ≡ false → (nat_le (n + 1) x && nat_lt x (n + 1 + k)) ≡ (nat_le n x && nat_lt x (n + (1 + k)))
      later n x k e = grind (arith, nat_tests)

      longer : (k : ℕ) → 1 + k ≡ suc k
      longer k = omega arith

      by : (b : Bool) → (q.table == n) ≡ b
          → cond b (row_in st q (n, table_kinds c n)) (cond (nat_le (n + 1) q.table && nat_lt q.table (n + 1 + length ts)) (row_in st q (q.table, table_kinds c q.table)) None)
          ≡ cond (nat_le n q.table && nat_lt q.table (n + length (t ∷ ts))) (row_in st q (q.table, table_kinds c q.table)) None
      by true e =
          ap (λ (m : ℕ). row_in st q (m, table_kinds c m)) (sym (eqb-true q.table n e))
          ∙ ap (λ (b : Bool). cond b (row_in st q (q.table, table_kinds c q.table)) None) (first n q.table (length ts) e ∙ ap (λ (k : ℕ). nat_le n q.table && nat_lt q.table (n + k)) (longer (length ts)))
      by false e =
          ap (λ (b : Bool). cond b (row_in st q (q.table, table_kinds c q.table)) None) (later n q.table (length ts) e ∙ ap (λ (k : ℕ). nat_le n q.table && nat_lt q.table (n + k)) (longer (length ts)))

-- ---- rows by key

-- a key is of one of so many tables, and at or above the edge
abbrev pub is_there : ℕ → ℕ → Key → Bool
is_there count edge q = (nat_le 1 q.table && nat_le q.table count) && nat_le (day_start edge) q.ts

-- the row that levels make of a key of a table of a catalog
abbrev pub level_row : Files → Catalog → Levels → Key → Option Row
level_row files c l q = row_at q (table_layers (memtables_of l) (open_sets files l.sets) (q.table, table_kinds c q.table))

-- The files of levels are sound, and these are the rows that the levels make, each of its key.
pub record Make (files : Files) (c : Catalog) (edge : ℕ) (l : Levels) (rows : Rows) : Type 0 where
  pub sound : (table : ℕ) → 1 ≤ table → table ≤ length c.tables → are_sound (table, table_kinds c table) (open_sets files l.sets) ≡ true
  pub order : InKeyOrder rows
  pub found : (q : Key) → find key_cmp q rows ≡ cond (is_there (length c.tables) edge q) (level_row files c l q) None

module _ (files : Files) (c : Catalog) (edge : ℕ) (l : Levels) where
  abbrev st : Stored
  st = stored_of files c edge l

  all_found : (q : Key) → find key_cmp q (flat_map (table_rows st) (kinds_of c)) ≡ cond (is_there (length c.tables) edge q) (level_row files c l q) None
  all_found q =
      found_among st q (kinds_of c) (kinds_rise c 1 c.tables)
      ∙ among c st q 1 c.tables
      ∙ ap (λ (b : Bool). cond (nat_le 1 q.table && b) (row_in st q (q.table, table_kinds c q.table)) None) (below q.table (length c.tables))
      ∙ both (nat_le 1 q.table && nat_le q.table (length c.tables)) (nat_le (day_start edge) q.ts)
    where
      below : (x k : ℕ) → nat_lt x (1 + k) ≡ nat_le x k
      below x k = grind (arith, nat_tests)

      both : (a b : Bool) → cond a (cond b (level_row files c l q) None) None ≡ cond (a && b) (level_row files c l q) None
      both true b = refl
      both false b = refl

  pub makes : (rows : Rows) → rows_over files c edge l ≡ Some rows → Make files c edge l rows
  makes rows h =
      let are = are_told st rows h in
      record {
        sound = λ table one there. each_sound c (open_sets files l.sets) 1 c.tables are.sound table one (omega (arith, there));
        order = subst (λ (r : Rows). InKeyOrder r) are.rows_are (rise_among st (kinds_of c) (kinds_rise c 1 c.tables));
        found = λ q. ap (find key_cmp q) (sym are.rows_are) ∙ all_found q;
      }

  pub made : (rows : Rows) → Make files c edge l rows → rows_over files c edge l ≡ Some rows
  made rows m =
      told st (all_sound c (open_sets files l.sets) 1 c.tables (λ table one to. m.sound table one (omega (arith, to))))
      ∙ ap Some (one_list (flat_map (table_rows st) (kinds_of c)) rows (rise_among st (kinds_of c) (kinds_rise c 1 c.tables)) m.order (λ q. all_found q ∙ sym (m.found q)))
