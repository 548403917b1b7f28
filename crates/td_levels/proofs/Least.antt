-- The least day ranges in which a memtable has puts.
use Rattle.std.proofs.Common.{◌≡◌, ℕ, ◌-◌, ◌^◌, ◌<◌, ◌≤◌, Bool, true, false, cond, List, [], ◌∷◌, filter, Option, Some, None, All, refl, ap, subst, ◌∙◌, arith}
use Rattle.std.specs.Prelude.{◌&&◌, ◌||◌, ◌==◌}
use Rattle.std.specs.List.{list_any}
use Rattle.std.proofs.lemmas.Bool.Decides.{nat_tests}
use Rattle.std.proofs.lemmas.List.Elements.{All-head, All-tail, All-cons, All-filter, All-from_recursion, All-weaker, filter_passes}
use Rattle.td_limits.specs.declared.limits.TheConstants.{LAST_TIMESTAMP}
use Rattle.td_layer.specs.declared.values.Key.{Key}
use Rattle.td_layer.specs.declared.parts.Partial.{Partial}
use Rattle.td_layer.specs.Keys.{key_cmp, AllAfter, InKeyOrder}
use Rattle.td_memtree.specs.Within.{is_within}
use Rattle.td_memtable.specs.Contents.{key_at}
use Rattle.td_memtable.specs.Tables.{first_time}
use Rattle.td_fileio.specs.Days.{day_start, day_end, is_in_day}
use Rattle.td_levels.specs.Days.{LeastFrom, IsTimely}

abbrev or_zero : Option ℕ → ℕ
or_zero None = 0
or_zero (Some n) = n

-- ---- tests of some elements

module _ {X : Type 0} (R : X → Type 0) (p q : X → Bool) (implied : (x : X) → R x → q x ≡ true → p x ≡ true) where
  -- where what passes the one test passes the other, it is enough to ask those that pass this
  pub any_filter : (xs : List X) → All R xs → list_any q xs ≡ list_any q (filter p xs)
  any_filter [] all = refl
  any_filter (x ∷ xs) all = by (p x) (q x) refl refl (any_filter xs (All-tail R x xs all))
    where
      by : (a b : Bool) → p x ≡ a → q x ≡ b → list_any q xs ≡ list_any q (filter p xs) → list_any q (x ∷ xs) ≡ list_any q (cond a (x ∷ filter p xs) (filter p xs))
      by true b is here rest = ap (λ r. q x || r) rest
      by false true is here rest = let passes = implied x (All-head R x xs all) here in absurd (cc)
      by false false is here rest = rw here rest

pub any_none : {X : Type 0} (q : X → Bool) (xs : List X) → All (λ (x : X). q x ≡ false) xs → list_any q xs ≡ false
any_none q [] all = refl
any_none {X} q (x ∷ xs) all = rw (All-head (λ (x : X). q x ≡ false) x xs all) (any_none q xs (All-tail (λ (x : X). q x ≡ false) x xs all))

-- ---- days

pub later_day : (from n : ℕ) → from ≤ n → day_start from ≤ day_start n
later_day from n le = omega (arith, le)

pub apart_days : (d n : ℕ) → n < d → day_end n < day_start d
apart_days d n lt = omega (arith, lt)

-- ---- the puts of a table

module _ (table from : ℕ) where
  abbrev wanted : Key × Partial → Bool
  wanted e = is_within (key_at table (day_start from)) (key_at table (2 ^ 64 - 1)) e.0

  abbrev pub of_day : ℕ → Key × Partial → Bool
  of_day n e = (e.0.table == table) && is_in_day n e.0.ts

  in_range : (e : Key × Partial) → wanted e ≡ true → (e.0.table ≡ table) × (day_start from ≤ e.0.ts)
  in_range e h = (grind (arith, nat_tests, h), grind (arith, nat_tests, h))

  is_wanted : (n : ℕ) → from ≤ n → (e : Key × Partial) → IsTimely e → of_day n e ≡ true → wanted e ≡ true
  is_wanted n le e t h = let s = later_day from n le in grind (arith, nat_tests, h, s, t.0)

  module _ (puts : List (Key × Partial)) (times : All IsTimely puts) where
    abbrev there : List (Key × Partial)
    there = filter wanted puts

    -- a put of the table in a day range from the first on is one of those that are wanted
    asked : (n : ℕ) → from ≤ n → list_any (of_day n) puts ≡ list_any (of_day n) there
    asked n le = any_filter IsTimely wanted (of_day n) (is_wanted n le) puts times

    of_none : (es : List (Key × Partial)) → first_time es ≡ None → es ≡ []
    of_none [] h = refl
    of_none (e ∷ es) h = absurd cc

    pub least_none : first_time there ≡ None → LeastFrom (λ n. list_any (of_day n) puts) from None
    least_none h n le = asked n le ∙ ap (list_any (of_day n)) (of_none there h)

    -- the first of those that are wanted
    of_some : (es : List (Key × Partial)) (ts : ℕ) → first_time es ≡ Some ts → (e : Key × Partial) × (rest : List (Key × Partial)) × (es ≡ e ∷ rest) × (e.0.ts ≡ ts)
    of_some [] ts h = absurd cc
    of_some (e ∷ es) ts h = (e, es, refl, ap (λ (o : Option ℕ). or_zero o) h)

    pub first_fits : (ts : ℕ) → first_time there ≡ Some ts → ts ≤ LAST_TIMESTAMP
    first_fits ts h =
        let s = of_some there ts h in
        let all : All IsTimely (s.0 ∷ s.1) = subst (All IsTimely) s.2 (All-filter wanted IsTimely puts times) in
        subst (λ (t : ℕ). t ≤ LAST_TIMESTAMP) s.3 (All-head IsTimely s.0 s.1 all).0

    -- a put that isn't before another lies in no day range before the other's
    out_of : (d n ts : ℕ) → n < d → is_in_day d ts ≡ true → (e : Key × Partial) → ts ≤ e.0.ts → of_day n e ≡ false
    out_of d n ts lt day e le = let apart = apart_days d n lt in grind (arith, nat_tests, day, le, apart)

    not_before : (first : Key × Partial) (es : List (Key × Partial)) → wanted first ≡ true → AllAfter key_cmp first.0 es → All (λ (e : Key × Partial). wanted e ≡ true) es → All (λ (e : Key × Partial). first.0.ts ≤ e.0.ts) es
    not_before first [] w after all = All-from_recursion (λ (e : Key × Partial). first.0.ts ≤ e.0.ts) [] tt
    not_before first (e ∷ es) w after all =
        let own = in_range first w in
        let its = in_range e (All-head (λ (e : Key × Partial). wanted e ≡ true) e es all) in
        let less = after.0 in
        All-cons (λ (e : Key × Partial). first.0.ts ≤ e.0.ts) e es (grind (arith, nat_tests, less, own.0, its.0)) (not_before first es w after.1 (All-tail (λ (e : Key × Partial). wanted e ≡ true) e es all))

    all_out : (d n ts : ℕ) → n < d → is_in_day d ts ≡ true → (es : List (Key × Partial)) → All (λ (e : Key × Partial). ts ≤ e.0.ts) es → All (λ (e : Key × Partial). of_day n e ≡ false) es
    all_out d n ts lt day es all = All-weaker (λ (e : Key × Partial). ts ≤ e.0.ts) (λ (e : Key × Partial). of_day n e ≡ false) (out_of d n ts lt day) es all

    pub least_some : (ts d : ℕ) → first_time there ≡ Some ts → InKeyOrder there → is_in_day d ts ≡ true → LeastFrom (λ n. list_any (of_day n) puts) from (Some d)
    least_some ts d h order day =
        let s = of_some there ts h in
        let passes : All (λ (e : Key × Partial). wanted e ≡ true) (s.0 ∷ s.1) = subst (All (λ (e : Key × Partial). wanted e ≡ true)) s.2 (filter_passes wanted puts) in
        let first : wanted s.0 ≡ true = All-head (λ (e : Key × Partial). wanted e ≡ true) s.0 s.1 passes in
        let own = in_range s.0 first in
        let rises : InKeyOrder (s.0 ∷ s.1) = subst InKeyOrder s.2 order in
        let behind = not_before s.0 s.1 first rises.0 (All-tail (λ (e : Key × Partial). wanted e ≡ true) s.0 s.1 passes) in
        let within : ts ≤ day_end d = grind (arith, nat_tests, day) in
        let le : from ≤ d = omega (arith, own.1, s.3, within) in
        let here : of_day d s.0 ≡ true = grind (arith, nat_tests, own.0, day, s.3) in (
          le,
          asked d le ∙ ap (list_any (of_day d)) s.2 ∙ rw here refl,
          λ n from_n lt.
              let after : All (λ (e : Key × Partial). ts ≤ e.0.ts) (s.0 ∷ s.1) = All-cons (λ (e : Key × Partial). ts ≤ e.0.ts) s.0 s.1 (omega (arith, s.3)) (subst (λ (t : ℕ). All (λ (e : Key × Partial). t ≤ e.0.ts) s.1) s.3 behind) in
              asked n from_n ∙ ap (list_any (of_day n)) s.2 ∙ any_none (of_day n) (s.0 ∷ s.1) (all_out d n ts lt day (s.0 ∷ s.1) after),
        )
