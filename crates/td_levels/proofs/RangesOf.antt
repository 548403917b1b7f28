-- The day ranges that get a file, found one after another.
use Rattle.std.proofs.Common.{◌≡◌, ◌⊎◌, inl, inr, ℕ, ◌+◌, ◌<◌, ◌≤◌, Bool, true, false, List, [], ◌∷◌, ◌++◌, Some, None, All, refl, subst, arith}
use Rattle.std.specs.Prelude.{◌*◌, ◌||◌, ◌==◌, nat_lt, Contains}
use Rattle.std.specs.List.{list_any}
use Rattle.std.proofs.lemmas.Bool.{eqb-true, ltb-true, ltb-false, and_parts}
use Rattle.std.proofs.lemmas.Bool.Decides.{nat_tests}
use Rattle.std.proofs.lemmas.List.Elements.{All-head, All-tail, All-append, All-cons, All-from_recursion, All-weaker, All-contains, Contains-append_left, Contains-push}
use Rattle.td_limits.specs.declared.limits.TheConstants.{DAY_RANGE, LAST_DAY_RANGE}
use Rattle.td_layer.specs.declared.values.Key.{Key}
use Rattle.td_layer.specs.declared.parts.Partial.{Partial}
use Rattle.td_memtable.specs.Contents.{Contents}
use Rattle.td_commit.specs.Sound.{Rise, RiseAbove}
use Rattle.td_fileio.specs.Days.{is_in_day}
use Rattle.td_levels.specs.Levels.{SetFiles}
use Rattle.td_levels.specs.Ranges.{has_put_in, has_files, meets_cut, GetsFile, AreRangesOf}
use Rattle.td_levels.specs.Days.{LeastFrom, IsTimely, TimesFit, RangesFit, has_cut_files, gets_file}

-- ---- which ranges get a file

any_gives : {X : Type 0} {C : Type 0} (R : X → Type 0) (q : X → Bool) → ((x : X) → R x → q x ≡ true → C) → (xs : List X) → All R xs → list_any q xs ≡ true → C
any_gives R q give [] all h = absurd cc
any_gives {X} {C} R q give (x ∷ xs) all h = by (q x) refl h (any_gives R q give xs (All-tail R x xs all))
  where
    by : (b : Bool) → q x ≡ b → (b || list_any q xs) ≡ true → (list_any q xs ≡ true → C) → C
    by true is h rest = give x (All-head R x xs all) is
    by false is h rest = rest h

or_second : (a b : Bool) → b ≡ true → (a || b) ≡ true
or_second true b h = refl
or_second false b h = h

either : (a b : Bool) → (a || b) ≡ true → (a ≡ true) ⊎ (b ≡ true)
either true b h = inl refl
either false b h = inr h

module _ (m : Contents) (sets : List SetFiles) (times : TimesFit m) (fit : RangesFit sets) where
  pub gets_fits : (range : ℕ) → gets_file m sets range ≡ true → range ≤ LAST_DAY_RANGE
  gets_fits range h = by (either (has_put_in range m) (has_cut_files m sets range) h)
    where
      by : (has_put_in range m ≡ true) ⊎ (has_cut_files m sets range ≡ true) → range ≤ LAST_DAY_RANGE
      by (inl p) = any_gives IsTimely (λ (e : Key × Partial). is_in_day range e.0.ts) (λ e t d. let within : range * DAY_RANGE ≤ e.0.ts = grind (arith, nat_tests, d) in omega (arith, within, t.0)) m.puts times p
      by (inr f) = any_gives (λ (s : SetFiles). s.range ≤ LAST_DAY_RANGE) (λ (s : SetFiles). s.range == range) (λ s t e. subst (λ (r : ℕ). r ≤ LAST_DAY_RANGE) (eqb-true s.range range e) t) sets fit (and_parts (has_files range sets) (meets_cut range m) f).0

module _ (m : Contents) (sets : List SetFiles) where
  gets_as : (edge range : ℕ) → edge ≤ range → gets_file m sets range ≡ true → GetsFile m sets edge range
  gets_as edge range le h = (le, by (either (has_put_in range m) (has_cut_files m sets range) h))
    where
      by : (has_put_in range m ≡ true) ⊎ (has_cut_files m sets range ≡ true) → (has_put_in range m ≡ true) ⊎ ((has_files range sets ≡ true) × (meets_cut range m ≡ true))
      by (inl p) = inl p
      by (inr f) = inr (and_parts (has_files range sets) (meets_cut range m) f)

  as_gets : (edge range : ℕ) → GetsFile m sets edge range → gets_file m sets range ≡ true
  as_gets edge range (le, inl p) = rw p refl
  as_gets edge range (le, inr f) = or_second (has_put_in range m) (has_cut_files m sets range) (rw (f.0, f.1) refl)

-- ---- the ranges so far

-- the ranges that get a file from an edge up to a number, rising
pub record UpTo (m : Contents) (sets : List SetFiles) (edge from : ℕ) (ranges : List ℕ) : Type 0 where
  pub edge_first : edge ≤ from
  pub rise : Rise ranges
  pub own : All (λ (r : ℕ). (edge ≤ r) × (r < from) × (gets_file m sets r ≡ true)) ranges
  pub all : (r : ℕ) → edge ≤ r → r < from → gets_file m sets r ≡ true → Contains ranges r

rises_push : (last : ℕ) (rs : List ℕ) (n : ℕ) → RiseAbove last rs → last < n → All (λ (r : ℕ). r < n) rs → RiseAbove last (rs ++ n ∷ [])
rises_push last [] n rise lt all = (lt, tt)
rises_push last (r ∷ rs) n rise lt all = (rise.0, rises_push r rs n rise.1 (All-head (λ (r : ℕ). r < n) r rs all) (All-tail (λ (r : ℕ). r < n) r rs all))

rise_push : (rs : List ℕ) (n : ℕ) → Rise rs → All (λ (r : ℕ). r < n) rs → Rise (rs ++ n ∷ [])
rise_push [] n rise all = tt
rise_push (r ∷ rs) n rise all = rises_push r rs n rise (All-head (λ (r : ℕ). r < n) r rs all) (All-tail (λ (r : ℕ). r < n) r rs all)

module _ (m : Contents) (sets : List SetFiles) where
  abbrev Own : ℕ → ℕ → ℕ → Type 0
  Own edge from r = (edge ≤ r) × (r < from) × (gets_file m sets r ≡ true)

  pub upto_none : (edge : ℕ) → UpTo m sets edge edge []
  upto_none edge = record {
    edge_first = omega arith;
    rise = tt;
    own = All-from_recursion (Own edge edge) [] tt;
    all = λ r le lt h. absurd (omega (arith, le, lt));
  }

  wider : (edge from to : ℕ) → from ≤ to → (r : ℕ) → Own edge from r → Own edge to r
  wider edge from to le r o = (o.0, omega (arith, le, o.1), o.2)

  pub upto_more : (edge from n : ℕ) (ranges : List ℕ) → UpTo m sets edge from ranges → LeastFrom (gets_file m sets) from (Some n) → UpTo m sets edge (n + 1) (ranges ++ n ∷ [])
  upto_more edge from n ranges u l =
      let wide = All-weaker (Own edge from) (Own edge (n + 1)) (wider edge from (n + 1) (omega (arith, l.0))) ranges u.own in
      record {
        edge_first = omega (arith, u.edge_first, l.0);
        rise = rise_push ranges n u.rise (All-weaker (Own edge from) (λ (r : ℕ). r < n) (λ r o. omega (arith, o.1, l.0)) ranges u.own);
        own = All-append (Own edge (n + 1)) ranges (n ∷ []) wide (All-cons (Own edge (n + 1)) n [] (omega (arith, u.edge_first, l.0), omega arith, l.1) (All-from_recursion (Own edge (n + 1)) [] tt));
        all = λ r le lt h. found r le lt h (nat_lt r from) refl (nat_lt r n) refl;
      }
    where
      found : (r : ℕ) → edge ≤ r → r < n + 1 → gets_file m sets r ≡ true → (a : Bool) → nat_lt r from ≡ a → (b : Bool) → nat_lt r n ≡ b → Contains (ranges ++ n ∷ []) r
      found r le lt h true is b at = Contains-append_left ranges (n ∷ []) r (u.all r le (ltb-true r from is) h)
      found r le lt h false is true at = let no = l.2 r (ltb-false r from is) (ltb-true r n at) in absurd (cc)
      found r le lt h false is false at = let same : n ≡ r = omega (arith, lt, ltb-false r n at) in subst (Contains (ranges ++ n ∷ [])) same (Contains-push ranges n)

  pub upto_end : (edge from : ℕ) (ranges : List ℕ) → UpTo m sets edge from ranges → LeastFrom (gets_file m sets) from None → AreRangesOf m sets edge ranges
  upto_end edge from ranges u l = record {
    rise = u.rise;
    each = λ r. (
      λ within. let o = All-contains (Own edge from) ranges r u.own within in gets_as m sets edge r o.0 o.2,
      λ gets. has r gets.0 (as_gets m sets edge r gets) (nat_lt r from) refl,
    );
  }
    where
      has : (r : ℕ) → edge ≤ r → gets_file m sets r ≡ true → (b : Bool) → nat_lt r from ≡ b → Contains ranges r
      has r le h true is = u.all r le (ltb-true r from is) h
      has r le h false is = let no = l r (ltb-false r from is) in absurd (cc)
