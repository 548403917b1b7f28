-- The rows of a snapshot's tables, one table after the other, stand in the order of their keys.
use Rattle.std.proofs.Common.{◌≡◌, ℕ, Bool, true, false, cond, List, [], ◌∷◌, ◌++◌, Some, None, refl, subst, arith}
use Rattle.std.specs.Prelude.{IfSome}
use Rattle.std.specs.List.{flat_map, list_all, AllByRecursion}
use Rattle.std.specs.List.Sorted.{IsStrictlySortedBy}
use Rattle.std.specs.Map.{keys_of}
use Rattle.std.specs.Ordering.{nat_cmp}
use Rattle.std.specs.declared.cmp.Ordering.TheVariants.{Less}
use Rattle.std.proofs.lemmas.Bool.Decides.{nat_tests}
use Rattle.td_cols.specs.declared.kinds.Kind.{Kind}
use Rattle.td_layer.specs.declared.values.Key.{Key}
use Rattle.td_layer.specs.declared.values.Row.{Row}
use Rattle.td_layer.specs.Keys.{key_cmp, AllAfter, InKeyOrder}
use Rattle.td_memtree.proofs.Taking.{rises_filter}
use Rattle.td_fileset.specs.Stack.{rows_of}
use Rattle.td_fileset.specs.Ranges.{only}
use Rattle.td_fileset.specs.Layered.{Stored, table_layers, is_from, table_rows, are_sound, rows_told}
use Rattle.td_fileset.proofs.Rows.{rows_rise}

abbrev Table : Type 0
Table = ℕ × List Kind

after_both : (k : Key) (es fs : List (Key × Row)) → AllAfter key_cmp k es → AllAfter key_cmp k fs → AllAfter key_cmp k (es ++ fs)
after_both k [] fs a b = b
after_both k (e ∷ es) fs a b = (a.0, after_both k es fs a.1 b)

rises_both : (es fs : List (Key × Row)) → InKeyOrder es → InKeyOrder fs → AllByRecursion (λ (e : Key × Row). AllAfter key_cmp e.0 fs) es → InKeyOrder (es ++ fs)
rises_both [] fs a b h = b
rises_both (e ∷ es) fs a b h = (after_both e.0 es fs a.0 h.0, rises_both es fs a.1 b h.1)

-- a key of a table is before the keys of a later one
before_later : (k j : Key) (table edge : ℕ) → nat_cmp k.table table ≡ Less → is_from edge table j ≡ true → key_cmp k j ≡ Less
before_later k j table edge less is = grind (arith, nat_tests)

own_table : (j : Key) (table edge : ℕ) → is_from edge table j ≡ true → table ≡ j.table
own_table j table edge is = grind (arith, nat_tests)

after_table : (k : Key) (table edge : ℕ) (es : List (Key × Row)) → nat_cmp k.table table ≡ Less → AllAfter key_cmp k (only (is_from edge table) es)
after_table k table edge [] less = tt
after_table k table edge (e ∷ es) less = by (is_from edge table e.0) refl (after_table k table edge es less)
  where
    by : (b : Bool) → is_from edge table e.0 ≡ b → AllAfter key_cmp k (only (is_from edge table) es) → AllAfter key_cmp k (cond b (e ∷ only (is_from edge table) es) (only (is_from edge table) es))
    by true is rest = (before_later k e.0 table edge less is, rest)
    by false is rest = rest

module _ (st : Stored) where
  after_tables : (k : Key) (ts : List Table) → AllByRecursion (λ (n : ℕ). nat_cmp k.table n ≡ Less) (keys_of ts) → AllAfter key_cmp k (flat_map (table_rows st) ts)
  after_tables k [] h = tt
  after_tables k (t ∷ ts) h =
      after_both k (table_rows st t) (flat_map (table_rows st) ts)
      (after_table k t.0 st.edge (rows_of (table_layers st.memtables st.sets t)) h.0)
      (after_tables k ts h.1)

  all_before : (table : ℕ) (es : List (Key × Row)) (ts : List Table) → AllByRecursion (λ (n : ℕ). nat_cmp table n ≡ Less) (keys_of ts)
      → AllByRecursion (λ (e : Key × Row). AllAfter key_cmp e.0 (flat_map (table_rows st) ts)) (only (is_from st.edge table) es)
  all_before table [] ts h = tt
  all_before table (e ∷ es) ts h = by (is_from st.edge table e.0) refl (all_before table es ts h)
    where
      by : (b : Bool) → is_from st.edge table e.0 ≡ b → AllByRecursion (λ (e : Key × Row). AllAfter key_cmp e.0 (flat_map (table_rows st) ts)) (only (is_from st.edge table) es)
          → AllByRecursion (λ (e : Key × Row). AllAfter key_cmp e.0 (flat_map (table_rows st) ts)) (cond b (e ∷ only (is_from st.edge table) es) (only (is_from st.edge table) es))
      by true is left = (after_tables e.0 ts (subst (λ (n : ℕ). AllByRecursion (λ (m : ℕ). nat_cmp n m ≡ Less) (keys_of ts)) (own_table e.0 table st.edge is) h), left)
      by false is left = left

  tables_rise : (ts : List Table) → IsStrictlySortedBy nat_cmp (keys_of ts) → InKeyOrder (flat_map (table_rows st) ts)
  unfolding IsStrictlySortedBy
  tables_rise [] order = tt
  tables_rise (t ∷ ts) order =
      let rows = rows_of (table_layers st.memtables st.sets t) in
      rises_both (table_rows st t) (flat_map (table_rows st) ts)
      (rises_filter key_cmp (λ (e : Key × Row). is_from st.edge t.0 e.0) rows (rows_rise (table_layers st.memtables st.sets t)))
      (tables_rise ts order.1)
      (all_before t.0 rows ts order.0)

  pub told_rises : IsStrictlySortedBy nat_cmp (keys_of st.kinds) → IfSome (rows_told st) (λ (rows : List (Key × Row)). InKeyOrder rows)
  unfolding rows_told
  told_rises order = by (list_all (λ (t : Table). are_sound t st.sets) st.kinds)
    where
      by : (b : Bool) → IfSome (cond b (Some (flat_map (table_rows st) st.kinds)) None) (λ (rows : List (Key × Row)). InKeyOrder rows)
      by true = tables_rise st.kinds order
      by false = tt
