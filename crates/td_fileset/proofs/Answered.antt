-- What a snapshot answers for a table, by what its pieces gave.
use Rattle.std.proofs.Common.{◌≡◌, ℕ, ◌+◌, ◌≤◌, Bool, true, false, cond, eqb, List, [], ◌∷◌, Option, Some, None, refl, sym, ◌∙◌, subst, arith}
use Rattle.std.specs.Prelude.{IfSome, max}
use Rattle.std.specs.List.{flat_map, list_all}
use Rattle.std.specs.List.Sorted.{IsStrictlySortedBy}
use Rattle.std.specs.Map.{lookup, keys_of}
use Rattle.std.specs.Ordering.{nat_cmp}
use Rattle.std.proofs.lemmas.Bool.{and_parts}
use Rattle.std.proofs.lemmas.Bool.Decides.{nat_tests}
use Rattle.td_cols.specs.declared.kinds.Kind.{Kind}
use Rattle.td_layer.specs.declared.values.Row.{Row}
use Rattle.td_layer.specs.Scans.{rows_in}
use Rattle.td_fileio.specs.Days.{day_start}
use Rattle.td_fileset.specs.Layered.{Span, Stored, table_layers, table_rows, are_sound, rows_told, partials_in, held_of, held_told}
use Rattle.td_fileset.specs.Opened.{AddsRows, TakesSteps}
use Rattle.td_fileset.proofs.Joined.{from_edge, no_rows, not_found, found_rows}

abbrev Table : Type 0
Table = ℕ × List Kind

-- where all tables are sound, so is the one that was found
sound_found : (test : Table → Bool) (table : ℕ) (kinds : List Kind) (ts : List Table) → lookup (λ (t : ℕ). eqb t table) ts ≡ Some kinds → list_all test ts ≡ true → test (table, kinds) ≡ true
sound_found test table kinds [] h s = absurd (cc)
sound_found test table kinds (t ∷ ts) h s = by (eqb t.0 table) refl h (sound_found test table kinds ts)
  where
    parts : (test t ≡ true) × (list_all test ts ≡ true)
    parts = and_parts (test t) (list_all test ts) s

    number : (a b : ℕ) → eqb a b ≡ true → a ≡ b
    number a b h = grind (arith, nat_tests)

    kinds_are : (x y : List Kind) → Some x ≡ Some y → x ≡ y
    kinds_are x y e = cc

    by : (b : Bool) → eqb t.0 table ≡ b → cond b (Some t.1) (lookup (λ (t : ℕ). eqb t table) ts) ≡ Some kinds
        → (lookup (λ (t : ℕ). eqb t table) ts ≡ Some kinds → list_all test ts ≡ true → test (table, kinds) ≡ true) → test (table, kinds) ≡ true
    by true e h rest = (λ i. test (sym (number t.0 table e) i, sym (kinds_are t.1 kinds h) i)) ∙ parts.0
    by false e h rest = rest h parts.1

module _ (st : Stored) (table lo hi : ℕ) where
  abbrev part : List Kind → Span
  part kinds = record { table = table; kinds = kinds; lo = max lo (day_start st.edge); hi = hi }

  pub answer_found : (kinds : List Kind) (found : List (ℕ × Row)) → IsStrictlySortedBy nat_cmp (keys_of st.kinds) → lookup (λ (t : ℕ). eqb t table) st.kinds ≡ Some kinds
      → AddsRows st.memtables st.sets (part kinds) [] found → IfSome (rows_told st) (λ all. found ≡ rows_in table lo hi all)
  unfolding rows_told
  answer_found kinds found order is adds = by (list_all (λ (t : Table). are_sound t st.sets) st.kinds) refl
    where
      by : (b : Bool) → list_all (λ (t : Table). are_sound t st.sets) st.kinds ≡ b → IfSome (cond b (Some (flat_map (table_rows st) st.kinds)) None) (λ all. found ≡ rows_in table lo hi all)
      by true e = adds (sound_found (λ (t : Table). are_sound t st.sets) table kinds st.kinds is e) ∙ sym (from_edge st (table, kinds) lo hi) ∙ sym (found_rows st table lo hi kinds st.kinds order is)
      by false e = tt

  pub answer_none : lookup (λ (t : ℕ). eqb t table) st.kinds ≡ None → IfSome (rows_told st) (λ all. [] ≡ rows_in table lo hi all)
  unfolding rows_told
  answer_none is = by (list_all (λ (t : Table). are_sound t st.sets) st.kinds)
    where
      by : (b : Bool) → IfSome (cond b (Some (flat_map (table_rows st) st.kinds)) None) (λ all. [] ≡ rows_in table lo hi all)
      by true = sym (no_rows st table lo hi st.kinds (not_found table st.kinds is))
      by false = tt

  pub answer_most : (kinds : List Kind) (before now : ℕ) → lookup (λ (t : ℕ). eqb t table) st.kinds ≡ Some kinds → TakesSteps st.memtables st.sets (part kinds) before now
      → IfSome (held_told st table lo hi) (λ n. now ≤ before + n)
  unfolding held_told
  answer_most kinds before now is takes = subst (λ (o : Option (List Kind)). IfSome (held_of st table lo hi o) (λ n. now ≤ before + n)) (sym is) (by (are_sound (table, kinds) st.sets) refl)
    where
      by : (b : Bool) → are_sound (table, kinds) st.sets ≡ b → IfSome (cond b (Some (partials_in table (max lo (day_start st.edge)) hi (table_layers st.memtables st.sets (table, kinds)))) None) (λ n. now ≤ before + n)
      by true e = takes e
      by false e = tt

  pub answer_no_steps : (before : ℕ) → lookup (λ (t : ℕ). eqb t table) st.kinds ≡ None → IfSome (held_told st table lo hi) (λ n. before ≤ before + n)
  unfolding held_told
  answer_no_steps before is = subst (λ (o : Option (List Kind)). IfSome (held_of st table lo hi o) (λ n. before ≤ before + n)) (sym is) (omega arith)
