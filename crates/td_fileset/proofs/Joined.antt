-- Rows and partials of a table in a range of timestamps: piece by piece, and among those of all tables.
use Rattle.std.proofs.Common.{◌≡◌, ℕ, ◌+◌, ◌≤◌, Bool, true, false, cond, ◌&&◌, ◌||◌, eqb, leb, List, [], ◌∷◌, ◌++◌, length, Some, None, refl, ap, ◌∙◌, arith}
use Rattle.std.specs.Prelude.{max}
use Rattle.std.specs.List.{flat_map, AllByRecursion}
use Rattle.std.specs.List.Sorted.{IsStrictlySortedBy}
use Rattle.std.specs.Map.{lookup, keys_of}
use Rattle.std.specs.Ordering.{nat_cmp}
use Rattle.std.specs.declared.cmp.Ordering.TheVariants.{Less}
use Rattle.std.proofs.lemmas.Bool.Decides.{nat_tests}
use Rattle.std.proofs.lemmas.List.{map-append}
use Rattle.std.proofs.lemmas.List.Sums.{sum_by-cons}
use Rattle.td_cols.specs.declared.kinds.Kind.{Kind}
use Rattle.td_layer.specs.declared.values.Key.{Key}
use Rattle.td_layer.specs.declared.values.Row.{Row}
use Rattle.td_layer.specs.Keys.{key_cmp, InKeyOrder}
use Rattle.td_layer.specs.Scans.{rows_in}
use Rattle.td_fileio.specs.Days.{day_start}
use Rattle.td_fileset.specs.Stack.{Layer, rows_of}
use Rattle.td_fileset.specs.Ranges.{only}
use Rattle.td_fileset.specs.Layered.{Stored, table_layers, is_from, table_rows, partials_in}
use Rattle.td_fileset.specs.Opened.{timed}
use Rattle.td_fileset.proofs.Filters.{in_span, only_both, only_none, filter_append, count_apart, rise_apart}
use Rattle.td_fileset.proofs.Rows.{rows_rise}

-- ---- piece by piece

-- a range is its front and the others
joined_tests : (t : Bool) (from to hi ts : ℕ) → from ≤ to + 1 → to ≤ hi → (t && (leb from ts && leb ts hi)) ≡ ((t && (leb from ts && leb ts to)) || (t && (leb (to + 1) ts && leb ts hi)))
joined_tests true from to hi ts a b = grind (arith, nat_tests)
joined_tests false from to hi ts a b = refl

apart_tests : (t : Bool) (from to hi ts : ℕ) → ((t && (leb from ts && leb ts to)) && (t && (leb (to + 1) ts && leb ts hi))) ≡ false
apart_tests true from to hi ts = grind (arith, nat_tests)
apart_tests false from to hi ts = refl

later_tests : (table from to hi : ℕ) (k j : Key) → in_span table (to + 1) hi k ≡ true → key_cmp k j ≡ Less → in_span table from to j ≡ false
later_tests table from to hi k j is less = grind (arith, nat_tests)

pub rows_joined : (table from to hi : ℕ) (rows : List (Key × Row)) → from ≤ to + 1 → to ≤ hi → InKeyOrder rows → rows_in table from hi rows ≡ rows_in table from to rows ++ rows_in table (to + 1) hi rows
rows_joined table from to hi rows a b order =
    ap timed (rise_apart (in_span table from to) (in_span table (to + 1) hi) (in_span table from hi) rows
    (λ key. joined_tests (eqb key.table table) from to hi key.ts a b)
    (λ key. apart_tests (eqb key.table table) from to hi key.ts)
    (λ k j. later_tests table from to hi k j) order)
    ∙ map-append (λ (e : Key × Row). (e.0.ts, e.1)) (only (in_span table from to) rows) (only (in_span table (to + 1) hi) rows)

pub layers_joined : (table from to hi : ℕ) (layers : List Layer) → from ≤ to + 1 → to ≤ hi → rows_in table from hi (rows_of layers) ≡ rows_in table from to (rows_of layers) ++ rows_in table (to + 1) hi (rows_of layers)
layers_joined table from to hi layers a b = rows_joined table from to hi (rows_of layers) a b (rows_rise layers)

pub partials_joined : (table from to hi : ℕ) (layers : List Layer) → from ≤ to + 1 → to ≤ hi → partials_in table from hi layers ≡ partials_in table from to layers + partials_in table (to + 1) hi layers
partials_joined table from to hi [] a b = refl
partials_joined table from to hi (l ∷ ls) a b =
    let one = count_apart (λ (e : Key × _). in_span table from to e.0) (λ (e : Key × _). in_span table (to + 1) hi e.0) (λ (e : Key × _). in_span table from hi e.0) l.partials
    (λ e. joined_tests (eqb e.0.table table) from to hi e.0.ts a b) (λ e. apart_tests (eqb e.0.table table) from to hi e.0.ts) in
    let rest = partials_joined table from to hi ls a b in
    omega (arith, one, rest, sum_by-cons (λ (l : Layer). length (only (in_span table from to) l.partials)) l ls, sum_by-cons (λ (l : Layer). length (only (in_span table (to + 1) hi) l.partials)) l ls, sum_by-cons (λ (l : Layer). length (only (in_span table from hi) l.partials)) l ls)

-- ---- among all tables

abbrev Table : Type 0
Table = ℕ × List Kind

-- at or above the edge a table has the rows that its layers make
pub from_edge : (st : Stored) (t : Table) (lo hi : ℕ) → rows_in t.0 lo hi (table_rows st t) ≡ rows_in t.0 (max lo (day_start st.edge)) hi (rows_of (table_layers st.memtables st.sets t))
from_edge st t lo hi = ap timed (only_both (in_span t.0 lo hi) (is_from st.edge t.0) (in_span t.0 (max lo (day_start st.edge)) hi) (rows_of (table_layers st.memtables st.sets t)) (λ key. by (eqb key.table t.0) (day_start st.edge) key.ts))
  where
    by : (b : Bool) (start ts : ℕ) → ((b && leb start ts) && (b && (leb lo ts && leb ts hi))) ≡ (b && (leb (max lo start) ts && leb ts hi))
    by true start ts = grind (arith, nat_tests)
    by false start ts = refl

-- a table has no rows of another
other_rows : (st : Stored) (t : Table) (table lo hi : ℕ) → eqb t.0 table ≡ false → rows_in table lo hi (table_rows st t) ≡ []
other_rows st t table lo hi other = ap timed (only_none (in_span table lo hi) (is_from st.edge t.0) (rows_of (table_layers st.memtables st.sets t)) (λ key. apart t.0 table (day_start st.edge) key.table key.ts other))
  where
    apart : (a b start k ts : ℕ) → eqb a b ≡ false → ((eqb k a && leb start ts) && (eqb k b && (leb lo ts && leb ts hi))) ≡ false
    apart a b start k ts h = grind (arith, nat_tests)

more_rows : (st : Stored) (t : Table) (ts : List Table) (table lo hi : ℕ) → rows_in table lo hi (flat_map (table_rows st) (t ∷ ts)) ≡ rows_in table lo hi (table_rows st t) ++ rows_in table lo hi (flat_map (table_rows st) ts)
more_rows st t ts table lo hi =
    ap timed (filter_append (λ (e : Key × Row). in_span table lo hi e.0) (table_rows st t) (flat_map (table_rows st) ts))
    ∙ map-append (λ (e : Key × Row). (e.0.ts, e.1)) (only (in_span table lo hi) (table_rows st t)) (only (in_span table lo hi) (flat_map (table_rows st) ts))

-- no table has this number
abbrev IsNone : ℕ → List Table → Type 0
IsNone table ts = AllByRecursion (λ (t : Table). eqb t.0 table ≡ false) ts

pub no_rows : (st : Stored) (table lo hi : ℕ) (ts : List Table) → IsNone table ts → rows_in table lo hi (flat_map (table_rows st) ts) ≡ []
no_rows st table lo hi [] h = refl
no_rows st table lo hi (t ∷ ts) h = more_rows st t ts table lo hi ∙ ap (λ rows. rows ++ rows_in table lo hi (flat_map (table_rows st) ts)) (other_rows st t table lo hi h.0) ∙ no_rows st table lo hi ts h.1

pub not_found : (table : ℕ) (ts : List Table) → lookup (λ (t : ℕ). eqb t table) ts ≡ None → IsNone table ts
not_found table [] h = tt
not_found table (t ∷ ts) h = by (eqb t.0 table) refl h (not_found table ts)
  where
    by : (b : Bool) → eqb t.0 table ≡ b → cond b (Some t.1) (lookup (λ (t : ℕ). eqb t table) ts) ≡ None → (lookup (λ (t : ℕ). eqb t table) ts ≡ None → IsNone table ts) → IsNone table (t ∷ ts)
    by true e h rest = absurd (cc)
    by false e h rest = (e, rest h)

later_other : (a : ℕ) (table : ℕ) (ts : List Table) → eqb a table ≡ true → AllByRecursion (λ (k : ℕ). nat_cmp a k ≡ Less) (keys_of ts) → IsNone table ts
later_other a table [] is h = tt
later_other a table (t ∷ ts) is h = (other a table t.0 is h.0, later_other a table ts is h.1)
  where
    other : (a table k : ℕ) → eqb a table ≡ true → nat_cmp a k ≡ Less → eqb k table ≡ false
    other a table k is less = grind (arith, nat_tests)

pub found_rows : (st : Stored) (table lo hi : ℕ) (kinds : List Kind) (ts : List Table) → IsStrictlySortedBy nat_cmp (keys_of ts) → lookup (λ (t : ℕ). eqb t table) ts ≡ Some kinds → rows_in table lo hi (flat_map (table_rows st) ts) ≡ rows_in table lo hi (table_rows st (table, kinds))
unfolding IsStrictlySortedBy
found_rows st table lo hi kinds [] order h = absurd (cc)
found_rows st table lo hi kinds (t ∷ ts) order h = by (eqb t.0 table) refl h (found_rows st table lo hi kinds ts order.1)
  where
    nothing : {X : Type 0} (xs : List X) → xs ++ [] ≡ xs
    nothing [] = refl
    nothing (x ∷ xs) = ap (λ l. x ∷ l) (nothing xs)

    number : (a b : ℕ) → eqb a b ≡ true → a ≡ b
    number a b h = grind (arith, nat_tests)

    kinds_are : (x y : List Kind) → Some x ≡ Some y → x ≡ y
    kinds_are x y e = cc

    by : (b : Bool) → eqb t.0 table ≡ b → cond b (Some t.1) (lookup (λ (t : ℕ). eqb t table) ts) ≡ Some kinds
        → (lookup (λ (t : ℕ). eqb t table) ts ≡ Some kinds → rows_in table lo hi (flat_map (table_rows st) ts) ≡ rows_in table lo hi (table_rows st (table, kinds)))
        → rows_in table lo hi (flat_map (table_rows st) (t ∷ ts)) ≡ rows_in table lo hi (table_rows st (table, kinds))
    by true e h rest =
        more_rows st t ts table lo hi
        ∙ ap (λ rows. rows_in table lo hi (table_rows st t) ++ rows) (no_rows st table lo hi ts (later_other t.0 table ts e order.0))
        ∙ nothing (rows_in table lo hi (table_rows st t))
        ∙ (λ i. rows_in table lo hi (table_rows st (number t.0 table e i, kinds_are t.1 kinds h i)))
    by false e h rest = more_rows st t ts table lo hi ∙ ap (λ rows. rows ++ rows_in table lo hi (flat_map (table_rows st) ts)) (other_rows st t table lo hi e) ∙ rest h
