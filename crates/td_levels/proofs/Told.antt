-- The rows that are told stand in the order of their keys, and each is found as the layers of its table make it.
use Rattle.std.proofs.Common.{◌≡◌, ℕ, ◌<◌, ◌==◌, nat_le, Bool, true, false, cond, ◌&&◌, List, [], ◌∷◌, ◌++◌, Option, Some, None, refl, sym, ap, subst, ◌∙◌, arith}
use Rattle.std.specs.Prelude.{if◌then◌else◌}
use Rattle.std.specs.List.{flat_map, list_all}
use Rattle.std.specs.Cmp.{ranked}
use Rattle.std.specs.FinMap.Entries.{find}
use Rattle.std.specs.Ordering.{nat_cmp}
use Rattle.std.specs.declared.cmp.Ordering.TheVariants.{Less}
use Rattle.std.proofs.lemmas.Bool.{and_parts, eqb-true, ne_eqb}
use Rattle.td_cols.specs.declared.kinds.Kind.{Kind}
use Rattle.td_layer.specs.declared.values.Key.{Key}
use Rattle.td_layer.specs.declared.values.Row.{Row}
use Rattle.td_layer.specs.Keys.{key_cmp, AllAfter, RisesBy, InKeyOrder}
use Rattle.td_model.specs.State.{Rows}
use Rattle.td_fileio.specs.Days.{day_start}
use Rattle.td_fileset.specs.Stack.{row_at, rows_of}
use Rattle.td_fileset.specs.Ranges.{only}
use Rattle.td_fileset.specs.Layered.{Stored, is_from, table_layers, table_rows, are_sound, rows_told}
use Rattle.td_fileset.proofs.Rows.{rows_rise}
use Rattle.td_fileset.proofs.Ranged.{rows_only, only_rises}
use Rattle.td_levels.proofs.Found.{or_else, or_none, find_behind, AreOf, AreAbove, rise_behind}

-- the row that the layers of a table make of a key at or above the edge
abbrev pub row_in : Stored → Key → ℕ × List Kind → Option Row
row_in st q t = cond (nat_le (day_start st.edge) q.ts) (row_at q (table_layers st.memtables st.sets t)) None

-- the row of a key, by the first of some tables that is the key's
abbrev pub row_among : Stored → Key → List (ℕ × List Kind) → Option Row
row_among st q [] = None
row_among st q (t ∷ ts) = cond (q.table == t.0) (row_in st q t) (row_among st q ts)

-- the tables rise
abbrev pub AreRising : List (ℕ × List Kind) → Type 0
AreRising ts = RisesBy nat_cmp ts

module _ (st : Stored) where
  -- of later tables the key has none
  none_among : (q : Key) (n : ℕ) (ts : List (ℕ × List Kind)) → q.table ≡ n → AllAfter nat_cmp n ts → row_among st q ts ≡ None
  none_among q n [] is a = refl
  none_among q n (t ∷ ts) is a =
      let lt : n < t.0 = ranked n t.0 Less (sym a.0) in
      ap (λ (b : Bool). cond b (row_in st q t) (row_among st q ts)) (ne_eqb q.table t.0 (λ e. omega (arith, e, is, lt)))
      ∙ none_among q n ts is a.1

  pub found_among : (q : Key) (ts : List (ℕ × List Kind)) → AreRising ts → find key_cmp q (flat_map (table_rows st) ts) ≡ row_among st q ts
  found_among q [] r = refl
  found_among q (t ∷ ts) r =
      find_behind q (table_rows st t) (flat_map (table_rows st) ts)
      ∙ ap (λ (o : Option Row). or_else o (find key_cmp q (flat_map (table_rows st) ts))) (rows_only (is_from st.edge t.0) (table_layers st.memtables st.sets t) q)
      ∙ ap (λ (o : Option Row). or_else (cond (is_from st.edge t.0 q) (row_at q (table_layers st.memtables st.sets t)) None) o) (found_among q ts r.1)
      ∙ by (q.table == t.0) refl
    where
      by : (b : Bool) → (q.table == t.0) ≡ b
          → or_else (cond (b && nat_le (day_start st.edge) q.ts) (row_at q (table_layers st.memtables st.sets t)) None) (row_among st q ts) ≡ cond b (row_in st q t) (row_among st q ts)
      by true e = ap (or_else (row_in st q t)) (none_among q t.0 ts (eqb-true q.table t.0 e) r.0) ∙ or_none (row_in st q t)
      by false e = refl

  -- ---- order

  of_table : (table : ℕ) (es : Rows) → AreOf table (only (is_from st.edge table) es)
  of_table table [] = tt
  of_table table (e ∷ es) = by (is_from st.edge table e.0) refl (of_table table es)
    where
      by : (b : Bool) → is_from st.edge table e.0 ≡ b → AreOf table (only (is_from st.edge table) es) → AreOf table (cond b (e ∷ only (is_from st.edge table) es) (only (is_from st.edge table) es))
      by true is i = (eqb-true e.0.table table (and_parts (e.0.table == table) (nat_le (day_start st.edge) e.0.ts) is).0, i)
      by false is i = i

  above_first : (table n : ℕ) (es fs : Rows) → table < n → AreOf n es → AreAbove table fs → AreAbove table (es ++ fs)
  above_first table n [] fs lt of above = above
  above_first table n (e ∷ es) fs lt of above = (subst (λ (m : ℕ). table < m) (sym of.0) lt, above_first table n es fs lt of.1 above)

  are_above : (table : ℕ) (ts : List (ℕ × List Kind)) → AllAfter nat_cmp table ts → AreAbove table (flat_map (table_rows st) ts)
  are_above table [] a = tt
  are_above table (t ∷ ts) a =
      above_first table t.0 (table_rows st t) (flat_map (table_rows st) ts) (ranked table t.0 Less (sym a.0)) (of_table t.0 (rows_of (table_layers st.memtables st.sets t))) (are_above table ts a.1)

  pub rise_among : (ts : List (ℕ × List Kind)) → AreRising ts → InKeyOrder (flat_map (table_rows st) ts)
  rise_among [] r = tt
  rise_among (t ∷ ts) r =
      let layers = table_layers st.memtables st.sets t in
      rise_behind t.0 (table_rows st t) (flat_map (table_rows st) ts) (of_table t.0 (rows_of layers)) (are_above t.0 ts r.0)
      (only_rises (is_from st.edge t.0) (rows_of layers) (rows_rise layers)) (rise_among ts r.1)

  -- ---- what is told

  -- each table's files are sound, and these are the rows
  pub record AreTold (rows : Rows) : Type 0 where
    pub sound : list_all (λ (t : ℕ × List Kind). are_sound t st.sets) st.kinds ≡ true
    pub rows_are : flat_map (table_rows st) st.kinds ≡ rows

  pub are_told : (rows : Rows) → rows_told st ≡ Some rows → AreTold rows
  unfolding rows_told
  are_told rows h = by (list_all (λ (t : ℕ × List Kind). are_sound t st.sets) st.kinds) refl h
    where
      by : (b : Bool) → list_all (λ (t : ℕ × List Kind). are_sound t st.sets) st.kinds ≡ b → (if b then Some (flat_map (table_rows st) st.kinds) else None) ≡ Some rows → AreTold rows
      by true is h = record { sound = is; rows_are = cc }
      by false is h = absurd (let clash : ⊥ = cc in clash)

  pub told : list_all (λ (t : ℕ × List Kind). are_sound t st.sets) st.kinds ≡ true → rows_told st ≡ Some (flat_map (table_rows st) st.kinds)
  unfolding rows_told
  told is = ap (λ (b : Bool). if b then Some (flat_map (table_rows st) st.kinds) else None) is
