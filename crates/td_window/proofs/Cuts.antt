-- How a list is cut where its first group is known, and how lists of places divide.
use Rattle.std.proofs.Common.{◌≡◌, ℕ, zero, suc, ◌+◌, ◌-◌, ◌<◌, ◌≤◌, Bool, true, false, cond, List, [], ◌∷◌, ◌++◌, map, filter, refl, sym, ap, ◌∙◌, subst, arith}
use Rattle.std.specs.List.{range_with_len}
use Rattle.td_window.specs.Windows.{cut, led_by, last_of}

-- ---- lists of places
pub range-append : (a m n : ℕ) → range_with_len a (m + n) ≡ range_with_len a m ++ range_with_len (a + m) n
range-append a zero n = let e : 0 + n ≡ n = omega arith in let f : a + 0 ≡ a = omega arith in rw (e, f)
range-append a (suc m) n =
    let e : suc m + n ≡ suc (m + n) = omega arith in
    let f : (a + 1) + m ≡ a + suc m = omega arith in
    rw e (ap (λ l. a ∷ l) (subst (λ (b : ℕ). range_with_len (a + 1) (m + n) ≡ range_with_len (a + 1) m ++ range_with_len b n) f (range-append (a + 1) m n)))

-- the places from a to n, divided at b
pub range_at : (a b n : ℕ) → a ≤ b → b ≤ n → range_with_len a (n - a) ≡ range_with_len a (b - a) ++ range_with_len b (n - b)
range_at a b n p q =
    let e : n - a ≡ (b - a) + (n - b) = omega arith in
    let f : a + (b - a) ≡ b = omega arith in
    ap (range_with_len a) e ∙ subst (λ (c : ℕ). range_with_len a ((b - a) + (n - b)) ≡ range_with_len a (b - a) ++ range_with_len c (n - b)) f (range-append a (b - a) (n - b))

pub range_first : (a m : ℕ) → 0 < m → range_with_len a m ≡ a ∷ range_with_len (a + 1) (m - 1)
range_first a zero h = absurd (omega arith)
range_first a (suc m) h = let e : suc m - 1 ≡ m = omega arith in rw e

pub range_last : (a m : ℕ) → range_with_len a (m + 1) ≡ range_with_len a m ++ (a + m) ∷ []
range_last a m = range-append a m 1

-- ---- what passes a test
module _ (test : ℕ → Bool) where
  pub filter_no_range : (a m : ℕ) → ((p : ℕ) → a ≤ p → p < a + m → test p ≡ false) → filter test (range_with_len a m) ≡ []
  filter_no_range a zero none = refl
  filter_no_range a (suc m) none =
      let here : test a ≡ false = none a (omega arith) (omega arith) in
      let rest : filter test (range_with_len (a + 1) m) ≡ [] = filter_no_range (a + 1) m (λ p u v. none p (omega arith) (omega arith)) in
      rw (here, rest)

  pub filter_whole_range : (a m : ℕ) → ((p : ℕ) → a ≤ p → p < a + m → test p ≡ true) → filter test (range_with_len a m) ≡ range_with_len a m
  filter_whole_range a zero every = refl
  filter_whole_range a (suc m) every =
      let here : test a ≡ true = every a (omega arith) (omega arith) in
      let rest : filter test (range_with_len (a + 1) m) ≡ range_with_len (a + 1) m = filter_whole_range (a + 1) m (λ p u v. every p (omega arith) (omega arith)) in
      rw (here, rest)

-- ---- a list that is cut
module _ {A : Type 0} (apart : A → A → Bool) where
  -- no two neighbours are apart
  abbrev pub IsRun : A → List A → Type 0
  IsRun x [] = Unit {0}
  IsRun x (y ∷ ys) = (apart x y ≡ false) × IsRun y ys

  -- what follows, if anything, is apart
  abbrev pub Ends : A → List A → Type 0
  Ends x [] = Unit {0}
  Ends x (y ∷ ys) = apart x y ≡ true

  led_by-head : (y : A) (groups : List (A × List A)) → (zs : List A) × (more : List (A × List A)) × (led_by apart y groups ≡ (y, zs) ∷ more)
  led_by-head y [] = ([], [], refl)
  led_by-head y ((z, zs) ∷ groups) =
      elim (apart y z) as (λ t. (us : List A) × (more : List (A × List A)) × (cond t ((y, []) ∷ (z, zs) ∷ groups) ((y, z ∷ zs) ∷ groups) ≡ (y, us) ∷ more)) [ true ↦ ([], (z, zs) ∷ groups, refl) | false ↦ (z ∷ zs, groups, refl) ]

  led_by_apart : (x y : A) (zs : List A) (groups more : List (A × List A)) → groups ≡ (y, zs) ∷ more → apart x y ≡ true → led_by apart x groups ≡ (x, []) ∷ groups
  led_by_apart x y zs groups more e t = rw (e, t)

  -- a run that ends is the first group
  pub cut_run : (x : A) (xs rest : List A) → IsRun x xs → Ends (last_of x xs) rest → cut apart (x ∷ (xs ++ rest)) ≡ (x, xs) ∷ cut apart rest
  cut_run x [] [] run ends = refl
  cut_run x [] (y ∷ ys) run ends = let h = led_by-head y (cut apart ys) in led_by_apart x y h.0 (cut apart (y ∷ ys)) h.1 h.2 ends
  cut_run x (z ∷ zs) rest run ends =
      let e = cut_run z zs rest run.1 ends in
      let t : apart x z ≡ false = run.0 in
      rw (e, t)

pub last_of-append : {A : Type 0} (x : A) (xs : List A) (y : A) → last_of x (xs ++ y ∷ []) ≡ y
last_of-append x [] y = refl
last_of-append x (z ∷ zs) y = last_of-append z zs y

-- ---- a loop's step: one more window at the end of those that were made
pub one_more_window : {S W : Type 0} (f : S → W) (done : List S) (s : S) (w : W) (all left rest : List W) → all ≡ map f done ++ left → left ≡ w ∷ rest → f s ≡ w → all ≡ map f (done ++ s ∷ []) ++ rest
one_more_window f [] s w all left rest e d g = e ∙ d ∙ ap (λ v. v ∷ rest) (sym g)
one_more_window {S} {W} f (x ∷ done) s w all left rest e d g =
    e ∙ ap (λ l. f x ∷ l) (one_more_window f done s w (map f done ++ left) left rest refl d g)

-- the end of a run, where places follow
pub Ends-range : (apart : ℕ → ℕ → Bool) (x past k : ℕ) → (0 < k → apart x past ≡ true) → Ends apart x (range_with_len past k)
Ends-range apart x past zero h = tt
Ends-range apart x past (suc k) h = h (omega arith)

pub last_place : (a m : ℕ) → last_of a (range_with_len (a + 1) m) ≡ a + m
last_place a zero = omega arith
last_place a (suc m) = last_place (a + 1) m ∙ omega arith
