-- How many partials wait and are left, and sums that don't depend on the order.
use Rattle.std.proofs.Common.{◌≡◌, ℕ, suc, ◌+◌, ◌≤◌, Bool, true, false, cond, inl, inr, List, [], ◌∷◌, ◌++◌, length, map, Some, refl, sym, ap, ◌∙◌, subst, arith}
use Rattle.std.specs.Prelude.{reverse, sum, sum_by}
use Rattle.std.specs.List.{AllByRecursion}
use Rattle.std.specs.Ordering.{eq_by_cmp, is_eq}
use Rattle.std.specs.Cmp.{tied_itself}
use Rattle.std.proofs.lemmas.List.{reverse-append}
use Rattle.std.proofs.lemmas.List.Sums.{sum_by-cons, sum_by-append}
use Rattle.td_layer.specs.declared.values.Key.{Key}
use Rattle.td_layer.specs.declared.parts.Partial.{Partial}
use Rattle.td_layer.specs.Keys.{key_cmp}
use Rattle.td_fileset.specs.declared.source.Ahead.{Ahead}
use Rattle.td_fileset.specs.declared.source.Ahead.TheVariants as ahead
use Rattle.td_fileset.specs.Stack.{Layer}
use Rattle.td_fileset.specs.Sources.{Fed, with_first, is_read, waits, IsSettled, key_ahead, ahead_past, past}
use Rattle.td_fileset.specs.Merged.{waiting, held}
use Rattle.td_fileset.proofs.Ordered.{keys_total}
use Rattle.td_fileset.proofs.Fronts.{without_first, passed}
use Rattle.td_fileset.proofs.Feds.{Waits, Tell, told_is}

-- ---- sums

module _ {X : Type 0} (f : X → ℕ) where
  pub sum_by_reverse : (xs : List X) → sum_by f (reverse xs) ≡ sum_by f xs
  sum_by_reverse [] = refl
  sum_by_reverse (x ∷ xs) =
      let one : sum_by f (x ∷ []) ≡ f x = omega (arith, sum_by-cons f x []) in
      let turned : sum_by f (reverse (x ∷ xs)) ≡ sum_by f (reverse xs ++ x ∷ []) = ap (sum_by f) (reverse-append (x ∷ []) xs) in
      omega (arith, turned, sum_by-append f (reverse xs) (x ∷ []), one, sum_by_reverse xs, sum_by-cons f x xs)

pub sum_reverse : (ns : List ℕ) → sum (reverse ns) ≡ sum ns
sum_reverse ns = sum_by_reverse (λ n. n) ns

-- ---- one scan

less_waits : (k : Key) (a : Ahead) → waits (ahead_past k a) ≤ waits a
less_waits k ahead.Unread = omega arith
less_waits k ahead.End = omega arith
less_waits k (ahead.First key partial) = by (eq_by_cmp key_cmp k key)
  where
    by : (b : Bool) → waits (cond b ahead.Unread (ahead.First key partial)) ≤ 1
    by true = omega arith
    by false = omega arith

used_waits : (k : Key) (a : Ahead) → key_ahead a ≡ Some k → waits (ahead_past k a) + 1 ≡ waits a
used_waits k ahead.Unread e = absurd (cc)
used_waits k ahead.End e = absurd (cc)
used_waits k (ahead.First key partial) e = ap (λ b. waits (cond b ahead.Unread (ahead.First key partial)) + 1) (same_key (key_is e))
  where
    key_is : Some key ≡ Some k → key ≡ k
    key_is h = cc

    same_key : key ≡ k → eq_by_cmp key_cmp k key ≡ true
    same_key h = ap (λ x. eq_by_cmp key_cmp k x) h ∙ ap is_eq (tied_itself keys_total k)

-- what is left of a scan falls as what waits
left_falls : (k : Key) (a : Ahead) (rest : List (Key × Partial)) → is_read a ≡ true → waits a + length (without_first k (with_first a rest)) ≡ waits (ahead_past k a) + length (with_first a rest)
left_falls k ahead.Unread rest r = absurd (cc)
left_falls k ahead.End rest r = omega arith
left_falls k (ahead.First key partial) rest r = by (eq_by_cmp key_cmp k key)
  where
    by : (b : Bool) → 1 + length (cond b rest ((key, partial) ∷ rest)) ≡ waits (cond b ahead.Unread (ahead.First key partial)) + suc (length rest)
    by true = omega arith
    by false = omega arith

waits_left : (a : Ahead) (rest : List (Key × Partial)) → waits a ≤ length (with_first a rest)
waits_left ahead.Unread rest = omega arith
waits_left ahead.End rest = omega arith
waits_left (ahead.First key partial) rest = omega arith

-- ---- all scans

abbrev waits_of : Fed → ℕ
waits_of f = waits f.ahead

abbrev left_of : Layer → ℕ
left_of l = length l.partials

fewer : (k : Key) (fs : List Fed) → waiting (map (past k) fs) ≤ waiting fs
fewer k [] = omega arith
fewer k (f ∷ fs) = omega (arith, sum_by-cons waits_of f fs, sum_by-cons waits_of (past k f) (map (past k) fs), less_waits k f.ahead, fewer k fs)

pub one_fewer : (k : Key) (fs : List Fed) → Waits k fs → waiting (map (past k) fs) + 1 ≤ waiting fs
one_fewer k [] w = absurd w
one_fewer k (f ∷ fs) w =
    let now = sum_by-cons waits_of f fs in
    let then = sum_by-cons waits_of (past k f) (map (past k) fs) in
    elim w [
      | inl e ↦ omega (arith, now, then, used_waits k f.ahead e, fewer k fs)
      | inr v ↦ omega (arith, now, then, less_waits k f.ahead, one_fewer k fs v)
    ]

pub all_fall : (k : Key) (fs : List Fed) (ls : List Layer) → AllByRecursion IsSettled fs → Tell fs ls → waiting fs + held (map (passed k) ls) ≡ waiting (map (past k) fs) + held ls
all_fall k [] [] s t = refl
all_fall k [] (l ∷ ls) s t = absurd t
all_fall k (f ∷ fs) [] s t = absurd t
all_fall k (f ∷ fs) (l ∷ ls) s t =
    let told = told_is f l t.0 in
    let one : waits f.ahead + length (without_first k l.partials) ≡ waits (ahead_past k f.ahead) + length l.partials =
    subst (λ (es : List (Key × Partial)). waits f.ahead + length (without_first k es) ≡ waits (ahead_past k f.ahead) + length es) (sym told.1.partials) (left_falls k f.ahead told.0 s.0.read) in
    omega (arith, sum_by-cons waits_of f fs, sum_by-cons waits_of (past k f) (map (past k) fs), sum_by-cons left_of l ls, sum_by-cons left_of (passed k l) (map (passed k) ls), one, all_fall k fs ls s.1 t.1)

pub wait_left : (fs : List Fed) (ls : List Layer) → Tell fs ls → waiting fs ≤ held ls
wait_left [] [] t = omega arith
wait_left [] (l ∷ ls) t = absurd t
wait_left (f ∷ fs) [] t = absurd t
wait_left (f ∷ fs) (l ∷ ls) t =
    let told = told_is f l t.0 in
    let one : waits f.ahead ≤ length l.partials = subst (λ (es : List (Key × Partial)). waits f.ahead ≤ length es) (sym told.1.partials) (waits_left f.ahead told.0) in
    omega (arith, sum_by-cons waits_of f fs, sum_by-cons left_of l ls, one, wait_left fs ls t.1)
