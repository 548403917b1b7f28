-- Sums over lists, and lists of numbers that rise.
use Rattle.std.proofs.Common.{◌≡◌, ℕ, suc, ◌+◌, ◌<◌, ◌≤◌, Bool, true, false, cond, List, [], ◌∷◌, map, length, get_or, filter, insert, sum_by, ◌==◌, Some, None, refl, sym, ap, ◌∙◌, arith, inl, inr}
use Rattle.std.specs.Prelude.{⊤}
use Rattle.std.specs.Ordering.{nat_cmp, is_eq, match_ordering}
use Rattle.std.specs.declared.cmp.Ordering.{Ordering}
use Rattle.std.specs.declared.cmp.Ordering.TheVariants.{Less, Equal, Greater}
use Rattle.std.specs.List.Sorted.{IsNonDecreasingBy}
use Rattle.std.specs.Map.{lookup}
use Rattle.std.specs.BTreeMap.{insert_entry, is_at}
use Rattle.std.proofs.lemmas.Bool.{cases_order}
use Rattle.std.proofs.lemmas.Bool.Decides.{nat_tests}
use Rattle.std.proofs.lemmas.Cmp.{ranked}
use Rattle.std.proofs.lemmas.List.Sums.{sum_by-cons}
use Rattle.std.proofs.lemmas.List.Sorted.{sum_by-IsPermutation, IsPermutation-insert}
use Rattle.td_tagidx.specs.Slots.{HasSame}

-- ---- sums
pub sum-map : {X Y : Type 0} (f : Y → ℕ) (g : X → Y) (xs : List X) → sum_by f (map g xs) ≡ sum_by (λ x. f (g x)) xs
sum-map f g [] = refl
sum-map f g (x ∷ xs) = sum_by-cons f (g x) (map g xs) ∙ ap (λ n. f (g x) + n) (sum-map f g xs) ∙ sym (sum_by-cons (λ y. f (g y)) x xs)

sum-cond : {X : Type 0} (f : X → ℕ) (b : Bool) (x : X) (ys : List X) → sum_by f (cond b (x ∷ ys) ys) ≡ cond b (f x) 0 + sum_by f ys
sum-cond f true x ys = sum_by-cons f x ys
sum-cond f false x ys = omega arith

pub sum-filter : {X : Type 0} (f : X → ℕ) (p : X → Bool) (xs : List X) → sum_by f (filter p xs) ≡ sum_by (λ x. cond (p x) (f x) 0) xs
sum-filter f p [] = refl
sum-filter f p (x ∷ xs) = sum-cond f (p x) x (filter p xs) ∙ ap (λ n. cond (p x) (f x) 0 + n) (sum-filter f p xs) ∙ sym (sum_by-cons (λ y. cond (p y) (f y) 0) x xs)

pub sum-same : {X : Type 0} (f g : X → ℕ) → ((x : X) → f x ≡ g x) → (xs : List X) → sum_by f xs ≡ sum_by g xs
sum-same f g e xs = λ j. sum_by (λ x. e x j) xs

pub sum-insert : {X : Type 0} (f : X → ℕ) (xs : List X) (i : ℕ) (y : X) → sum_by f (insert xs i y) ≡ f y + sum_by f xs
sum-insert f xs i y = sum_by-IsPermutation f (y ∷ xs) (insert xs i y) (IsPermutation-insert xs i y) ∙ sum_by-cons f y xs

-- ---- numbers that don't fall
abbrev pub AllFrom : ℕ → List ℕ → Type 0
AllFrom x [] = ⊤
AllFrom x (y ∷ ys) = (x ≤ y) × AllFrom x ys

abbrev pub Rises : List ℕ → Type 0
Rises [] = ⊤
Rises (x ∷ xs) = AllFrom x xs × Rises xs

lower : (x y : ℕ) (zs : List ℕ) → x ≤ y → AllFrom y zs → AllFrom x zs
lower x y [] h a = tt
lower x y (z ∷ zs) h a = (omega (arith, a.0), lower x y zs h a.1)

from_by : {X : Type 0} (n : X → ℕ) (m : ℕ) (xs : List X) → ((k : ℕ) (d : X) → k < length xs → m ≤ n (get_or xs k d)) → AllFrom m (map n xs)
from_by n m [] h = tt
from_by n m (x ∷ xs) h = (h 0 x (omega arith), from_by n m xs (λ k d l. h (suc k) d (omega arith)))

pub rises_by : {X : Type 0} (n : X → ℕ) (xs : List X) → IsNonDecreasingBy n xs → Rises (map n xs)
rises_by n [] h = tt
rises_by n (x ∷ xs) h = (from_by n (n x) xs (λ k d l. h 0 (suc k) d (omega arith) (omega arith)), rises_by n xs (λ i j d le lt. h (suc i) (suc j) d (omega arith) (omega arith)))

from_test : {X : Type 0} (n : X → ℕ) (b : Bool) (m : ℕ) (x : X) (ys : List X) → m ≤ n x → AllFrom m (map n ys) → AllFrom m (map n (cond b (x ∷ ys) ys))
from_test n true m x ys h a = (h, a)
from_test n false m x ys h a = a

from_kept : {X : Type 0} (n : X → ℕ) (p : X → Bool) (m : ℕ) (xs : List X) → AllFrom m (map n xs) → AllFrom m (map n (filter p xs))
from_kept n p m [] a = tt
from_kept n p m (x ∷ xs) a = from_test n (p x) m x (filter p xs) a.0 (from_kept n p m xs a.1)

rises_test : {X : Type 0} (n : X → ℕ) (b : Bool) (x : X) (ys : List X) → AllFrom (n x) (map n ys) → Rises (map n ys) → Rises (map n (cond b (x ∷ ys) ys))
rises_test n true x ys a r = (a, r)
rises_test n false x ys a r = r

pub rises_filter : {X : Type 0} (n : X → ℕ) (p : X → Bool) (xs : List X) → Rises (map n xs) → Rises (map n (filter p xs))
rises_filter n p [] r = tt
rises_filter n p (x ∷ xs) r = rises_test n (p x) x (filter p xs) (from_kept n p (n x) xs r.0) (rises_filter n p xs r.1)

-- ---- entries, with one more
module _ {V : Type 0} (key : ℕ) (v : V) where
  from_at : (m : ℕ) (e : ℕ × V) (es ps : List (ℕ × V)) (o : Ordering) → m ≤ key → m ≤ e.0 → AllFrom m (map (λ s. s.0) es) → AllFrom m (map (λ s. s.0) ps) → AllFrom m (map (λ s. s.0) (match_ordering o ((key, v) ∷ e ∷ es) ((e.0, v) ∷ es) (e ∷ ps)))
  from_at m e es ps Less h k a b = (h, (k, a))
  from_at m e es ps Equal h k a b = (k, a)
  from_at m e es ps Greater h k a b = (k, b)

  from_put : (m : ℕ) (es : List (ℕ × V)) → m ≤ key → AllFrom m (map (λ s. s.0) es) → AllFrom m (map (λ s. s.0) (insert_entry nat_cmp es key v))
  from_put m [] h a = (h, tt)
  from_put m (e ∷ es) h a = from_at m e es (insert_entry nat_cmp es key v) (nat_cmp key e.0) h a.0 a.1 (from_put m es h a.1)

  rises_at : (e : ℕ × V) (es : List (ℕ × V)) (o : Ordering) → o ≡ nat_cmp key e.0 → AllFrom e.0 (map (λ s. s.0) es) → Rises (map (λ s. s.0) es) → Rises (map (λ s. s.0) (insert_entry nat_cmp es key v)) → Rises (map (λ s. s.0) (match_ordering o ((key, v) ∷ e ∷ es) ((e.0, v) ∷ es) (e ∷ insert_entry nat_cmp es key v)))
  rises_at e es Less h a r q =
      let less : key < e.0 = ranked key e.0 Less h in
      ((omega arith, lower key e.0 (map (λ s. s.0) es) (omega arith) a), (a, r))
  rises_at e es Equal h a r q = (a, r)
  rises_at e es Greater h a r q =
      let more : e.0 < key = ranked key e.0 Greater h in
      (from_put e.0 es (omega arith) a, q)

  pub rises_put : (es : List (ℕ × V)) → Rises (map (λ s. s.0) es) → Rises (map (λ s. s.0) (insert_entry nat_cmp es key v))
  rises_put [] r = (tt, tt)
  rises_put (e ∷ es) r = rises_at e es (nat_cmp key e.0) refl r.0 r.1 (rises_put es r.1)

  sum-at : (f : ℕ × V → ℕ) (e : ℕ × V) (es ps : List (ℕ × V)) (o : Ordering) → (cond (is_eq o) (Some e.1) (lookup (is_at (nat_cmp key)) es) ≡ None) → (lookup (is_at (nat_cmp key)) es ≡ None → sum_by f ps ≡ f (key, v) + sum_by f es) → sum_by f (match_ordering o ((key, v) ∷ e ∷ es) ((e.0, v) ∷ es) (e ∷ ps)) ≡ f (key, v) + sum_by f (e ∷ es)
  sum-at f e es ps Less h r = sum_by-cons f (key, v) (e ∷ es)
  sum-at f e es ps Equal h r = absurd (cc)
  sum-at f e es ps Greater h r =
      let rest = r h in
      let all = sum_by-cons f e ps in
      let old = sum_by-cons f e es in
      omega arith

  pub sum-put : (f : ℕ × V → ℕ) (es : List (ℕ × V)) → lookup (is_at (nat_cmp key)) es ≡ None → sum_by f (insert_entry nat_cmp es key v) ≡ f (key, v) + sum_by f es
  sum-put f [] h = sum_by-cons f (key, v) []
  sum-put f (e ∷ es) h = sum-at f e es (insert_entry nat_cmp es key v) (nat_cmp key e.0) h (λ k. sum-put f es k)

-- ---- numbers that don't fall are told by their sums
differs : (x z : ℕ) → x < z → (x == z) ≡ false
differs x z h = grind (arith, nat_tests)

itself : (x : ℕ) → (x == x) ≡ true
itself x = grind (arith, nat_tests)

none_at : (f : ℕ → ℕ) (x y : ℕ) (zs : List ℕ) → ((z : ℕ) → x < z → f z ≡ 0) → x < y → AllFrom y zs → sum_by f zs ≡ 0
none_at f x y [] no_above h a = refl
none_at f x y (z ∷ zs) no_above h a =
    let rest = none_at f x y zs no_above h a.1 in
    let apart : f z ≡ 0 = no_above z (omega (arith, a.0)) in
    let all = sum_by-cons f z zs in
    omega arith

not_above : (f : ℕ → ℕ) (x y : ℕ) (xs ys : List ℕ) → f x ≡ 1 → ((z : ℕ) → x < z → f z ≡ 0) → x < y → AllFrom y ys → sum_by f (x ∷ xs) ≡ sum_by f (y ∷ ys) → y ≤ x
not_above f x y xs ys one no_above h a both =
    let first = sum_by-cons f x xs in
    let none : sum_by f (y ∷ ys) ≡ 0 = none_at f x y (y ∷ ys) no_above h (omega arith, a) in
    absurd (omega arith)

-- the least of a list isn't below all of another that has the same
not_below : (x y : ℕ) (xs ys : List ℕ) → AllFrom y ys → HasSame (x ∷ xs) (y ∷ ys) → y ≤ x
not_below x y xs ys a h =
    elim (cases_order x y) [
      | inl e ↦ omega arith
      | inr r ↦ elim r [
        | inl lt ↦ not_above (λ z. cond (x == z) 1 0) x y xs ys (ap (λ b. cond b 1 0) (itself x)) (λ z l. ap (λ b. cond b 1 0) (differs x z l)) lt a (h (λ z. cond (x == z) 1 0))
        | inr gt ↦ omega arith
      ]
    ]

same_rest : (f : ℕ → ℕ) (x y : ℕ) (xs ys : List ℕ) → x ≡ y → sum_by f (x ∷ xs) ≡ sum_by f (y ∷ ys) → sum_by f xs ≡ sum_by f ys
same_rest f x y xs ys e h =
    let left = sum_by-cons f x xs in
    let right = sum_by-cons f y ys in
    let first : f x ≡ f y = ap f e in
    omega arith

pub same_rising : (xs ys : List ℕ) → Rises xs → Rises ys → HasSame xs ys → xs ≡ ys
same_rising [] [] r q h = refl
same_rising [] (y ∷ ys) r q h =
    let none = h (λ _. 1) in
    let some = sum_by-cons (λ (_ : ℕ). 1) y ys in
    absurd (omega arith)
same_rising (x ∷ xs) [] r q h =
    let none = h (λ _. 1) in
    let some = sum_by-cons (λ (_ : ℕ). 1) x xs in
    absurd (omega arith)
same_rising (x ∷ xs) (y ∷ ys) r q h =
    let low : y ≤ x = not_below x y xs ys q.0 h in
    let high : x ≤ y = not_below y x ys xs r.0 (λ f. sym (h f)) in
    let first : x ≡ y = omega arith in
    let rest : HasSame xs ys = λ f. same_rest f x y xs ys first (h f) in
    λ j. first j ∷ same_rising xs ys r.1 q.1 rest j
