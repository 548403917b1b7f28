-- The tally of a column, row by row.
use Rattle.std.proofs.Common.{◌≡◌, ◌+◌, ◌<◌, ◌≤◌, ◌^◌, ℕ, zero, suc, Bool, true, false, cond, List, [], ◌∷◌, ◌++◌, take, length, get_or, Option, Some, None, refl, sym, ap, ◌∙◌, arith}
use Rattle.std.specs.List.{AllByRecursion, slice_get}
use Rattle.std.specs.Option.{unwrap_or}
use Rattle.std.proofs.lemmas.Int.{ints}
use Rattle.std.proofs.lemmas.List.{map-append}
use Rattle.std.proofs.lemmas.List.Elements.{filter-append}
use Rattle.td_aggr.proofs.Sound.{IsSound-tally_of, rows-tally_of, count-tally_of}
use Rattle.td_aggr.specs.Laws.{of_joined_rows, of_one_row, unit_right}
use Rattle.td_aggr.specs.Tallies.{IsSound, Fit, merged, tally_of, tally_of_row}
use Rattle.td_aggr.specs.declared.tally.Tally.{Tally}
use Rattle.td_layer.specs.Columns.{IsColumnValue, AreColumnValues}
use Rattle.td_layer.specs.declared.values.Key.{Key}
use Rattle.td_layer.specs.declared.values.Value.{Value}
use Rattle.td_layer.specs.declared.values.Value.TheVariants as value
use Rattle.td_limits.specs.declared.limits.TheConstants.{LAST_TIMESTAMP}
use Rattle.td_query.specs.declared.columns.Kept.{Kept}
use Rattle.td_query.specs.Cuts.{is_kept, kept_rows, values}
use Rattle.td_query.specs.Read.{IsGood}
use Rattle.td_verdict.specs.Windowed.{Keyed, value_at}

-- ---- values are such as a column holds
behind : (vs : List Value) (at : ℕ) → AreColumnValues vs → IsColumnValue (unwrap_or (slice_get vs at) value.Null)
behind [] at all = tt
behind (v ∷ vs) zero all = all.0
behind (v ∷ vs) (suc at) all = behind vs at all.1

pub column_value : (place : Option ℕ) (e : Keyed) → IsGood LAST_TIMESTAMP e → IsColumnValue (value_at place e)
column_value None e good = tt
column_value (Some zero) e good = let below : e.0.ts ≤ LAST_TIMESTAMP = good.0 in (omega (arith, ints), omega (arith, ints))
column_value (Some (suc at)) e good = behind e.1.values at good.1

module _ (place : Option ℕ) (kept : Kept) where
  abbrev noted : List Keyed → List (Key × Value)
  noted rows = values place (kept_rows kept rows)

  good_at : (e : Keyed) (b : Bool) (es : List Keyed) → IsGood LAST_TIMESTAMP e → AllByRecursion (λ r. IsColumnValue r.1) (noted es) → AllByRecursion (λ (r : Key × Value). IsColumnValue r.1) (values place (cond b (e ∷ kept_rows kept es) (kept_rows kept es)))
  good_at e true es here rest = (column_value place e here, rest)
  good_at e false es here rest = rest

  good_values : (rows : List Keyed) → AllByRecursion (IsGood LAST_TIMESTAMP) rows → AllByRecursion (λ r. IsColumnValue r.1) (noted rows)
  good_values [] good = tt
  good_values (e ∷ es) good = good_at e (is_kept kept e) es good.0 (good_values es good.1)

  few_at : (e : Keyed) (b : Bool) (es : List Keyed) → length (noted es) ≤ length es → length (values place (cond b (e ∷ kept_rows kept es) (kept_rows kept es))) ≤ length (e ∷ es)
  few_at e true es rest = omega (arith, rest)
  few_at e false es rest = omega (arith, rest)

  few : (rows : List Keyed) → length (noted rows) ≤ length rows
  few [] = omega arith
  few (e ∷ es) = few_at e (is_kept kept e) es (few es)

  pub sound_so_far : (rows : List Keyed) → AllByRecursion (IsGood LAST_TIMESTAMP) rows → IsSound (tally_of (noted rows))
  sound_so_far rows good = IsSound-tally_of (noted rows) (good_values rows good)

  pub rows_so_far : (rows : List Keyed) → (tally_of (noted rows)).rows ≤ length rows
  rows_so_far rows = let e = rows-tally_of (noted rows) in let l = few rows in omega (arith, e)

  pub count_so_far : (rows : List Keyed) → (tally_of (noted rows)).count ≤ length rows
  count_so_far rows = let e = count-tally_of (noted rows) in let l = few rows in omega (arith, e)

  one_at : (before : List (Key × Value)) (e : Keyed) (b : Bool) → is_kept kept e ≡ b → tally_of (before ++ values place (cond b (e ∷ []) [])) ≡ cond b (merged (tally_of before) (tally_of_row (value_at place e) e.0)) (tally_of before)
  one_at before e true is = of_joined_rows before ((e.0, value_at place e) ∷ []) ∙ ap (merged (tally_of before)) (of_one_row (value_at place e) e.0)
  one_at before e false is = of_joined_rows before [] ∙ unit_right (tally_of before)

  pub one_more : (rows : List Keyed) (e : Keyed) → cond (is_kept kept e) (merged (tally_of (noted rows)) (tally_of_row (value_at place e) e.0)) (tally_of (noted rows)) ≡ tally_of (noted (rows ++ e ∷ []))
  one_more rows e =
      sym (one_at (noted rows) e (is_kept kept e) refl)
      ∙ ap tally_of (sym (map-append (λ (f : Keyed). (f.0, value_at place f)) (kept_rows kept rows) (kept_rows kept (e ∷ []))) ∙ ap (values place) (sym (filter-append (is_kept kept) rows (e ∷ []))))

-- ---- a list's first ones, and one of them
pub good_take : (n : ℕ) (rows : List Keyed) → AllByRecursion (IsGood LAST_TIMESTAMP) rows → AllByRecursion (IsGood LAST_TIMESTAMP) (take n rows)
good_take zero rows good = tt
good_take (suc n) [] good = tt
good_take (suc n) (e ∷ es) good = (good.0, good_take n es good.1)

pub good_one : (n : ℕ) (rows : List Keyed) (d : Keyed) → AllByRecursion (IsGood LAST_TIMESTAMP) rows → n < length rows → IsGood LAST_TIMESTAMP (get_or rows n d)
good_one n [] d good h = absurd (omega arith)
good_one zero (e ∷ es) d good h = good.0
good_one (suc n) (e ∷ es) d good h = good_one n es d good.1 (omega arith)

-- one row more can be merged
pub fit_one : (t : Tally) (v : Value) (at : Key) → t.rows + 1 < 2 ^ 62 → t.count + 1 < 2 ^ 62 → Fit t (tally_of_row v at)
fit_one t value.Null at r c = record { rows = r; count = omega (arith, c) }
fit_one t (value.Num n) at r c = record { rows = r; count = c }
