-- Beginnings of one list, numbers in a row, and how often a number stands in a list.
use Rattle.std.proofs.Common.{◌≡◌, ◌≢◌, ℕ, zero, suc, ◌+◌, ◌<◌, ◌≤◌, eqb, eq-eqb, ltb-true, ltb-false, Bool, true, false, List, [], ◌∷◌, ◌++◌, length, refl, ap, sym, ◌∙◌, subst, arith, append_assoc, length-append}
use Rattle.std.specs.Prelude.{nat_lt, ◌==◌}
use mathlib.Core.List.{IsPrefix}
use Rattle.td_turn.specs.Passes.{numbers_from, one_if, times, second_if, longer, shorter}

module _ {A : Type 0} where
  -- each list begins with itself
  pub prefix_self : (xs : List A) → IsPrefix xs xs
  prefix_self [] = ([], refl)
  prefix_self (x ∷ xs) = let r = prefix_self xs in (r.0, ap (λ ys. x ∷ ys) r.1)

  pub prefix_same : (xs ys : List A) → xs ≡ ys → IsPrefix xs ys
  prefix_same xs ys e = subst (λ (zs : List A). IsPrefix xs zs) e (prefix_self xs)

  pub prefix_trans : (xs ys zs : List A) → IsPrefix xs ys → IsPrefix ys zs → IsPrefix xs zs
  prefix_trans xs ys zs p q = (p.0 ++ q.0, sym (append_assoc xs p.0 q.0) ∙ (ap (λ w. w ++ q.0) p.1 ∙ q.1))

  -- of two beginnings of one list the shorter begins the longer
  pub prefix_shorter : (xs ys zs : List A) → IsPrefix xs zs → IsPrefix ys zs → length xs ≤ length ys → IsPrefix xs ys
  prefix_shorter [] ys zs p q le = (ys, refl)
  prefix_shorter (x ∷ xs) [] zs p q le = absurd (omega arith)
  prefix_shorter (x ∷ xs) (y ∷ ys) [] p q le = absurd (cc (p.1))
  prefix_shorter (x ∷ xs) (y ∷ ys) (z ∷ zs) p q le =
      let heads : x ≡ y = cc (p.1, q.1) in
      let rest = prefix_shorter xs ys zs (p.0, cc (p.1)) (q.0, cc (q.1)) (omega arith) in
      (rest.0, cc (heads, rest.1))

  pub second_is : (P : List A → Type 0) (b : Bool) (xs ys : List A) → P xs → P ys → P (second_if b xs ys)
  second_is P true xs ys p q = q
  second_is P false xs ys p q = p

  lengths_if : (b : Bool) (xs ys : List A) → nat_lt (length xs) (length ys) ≡ b → length (second_if b ys xs) ≤ length (second_if b xs ys)
  lengths_if true xs ys is = omega (arith, ltb-true (length xs) (length ys) is)
  lengths_if false xs ys is = ltb-false (length xs) (length ys) is

  pub shorter_le : (xs ys : List A) → length (shorter xs ys) ≤ length (longer xs ys)
  shorter_le xs ys = lengths_if (nat_lt (length xs) (length ys)) xs ys refl

  begins_if : (b : Bool) (xs ys : List A) → IsPrefix (second_if b ys xs) (second_if b xs ys) → IsPrefix xs (second_if b xs ys) × IsPrefix ys (second_if b xs ys)
  begins_if true xs ys p = (p, prefix_self ys)
  begins_if false xs ys p = (prefix_self xs, p)

  -- both lists begin the longer, where the shorter does
  pub both_begin : (xs ys : List A) → IsPrefix (shorter xs ys) (longer xs ys) → IsPrefix xs (longer xs ys) × IsPrefix ys (longer xs ys)
  both_begin xs ys p = begins_if (nat_lt (length xs) (length ys)) xs ys p

pub numbers_append : (k m n t j : ℕ) → t ≡ m + n → j ≡ k + m → numbers_from k t ≡ numbers_from k m ++ numbers_from j n
numbers_append k zero n t j is at =
    let all : t ≡ n = omega arith in
    let here : k ≡ j = omega arith in
    λ i. numbers_from (here i) (all i)
numbers_append k (suc m) n zero j is at = absurd (omega arith)
numbers_append k (suc m) n (suc t) j is at = ap (λ ns. k ∷ ns) (numbers_append (suc k) m n t j (omega arith) (omega arith))

pub length_numbers : (k n : ℕ) → length (numbers_from k n) ≡ n
length_numbers k zero = refl
length_numbers k (suc n) = ap suc (length_numbers (suc k) n)

pub times_append : (x : ℕ) (xs ys : List ℕ) → times x (xs ++ ys) ≡ times x xs + times x ys
times_append x [] ys = omega arith
times_append x (y ∷ xs) ys = omega (arith, times_append x xs ys)

pub one_if_le : (b : Bool) → one_if b ≤ 1
one_if_le true = omega arith
one_if_le false = omega arith

pub one_if_same : (x y : ℕ) → x ≡ y → one_if (x == y) ≡ 1
one_if_same x y e = ap one_if (eq-eqb x y e)

one_if_apart : (x y : ℕ) → x ≢ y → one_if (x == y) ≡ 0
one_if_apart x y ne = go (x == y) refl
  where
    go : (b : Bool) → (x == y) ≡ b → one_if b ≡ 0
    go true is = absurd (ne (Rattle.std.proofs.Common.eqb-true x y is))
    go false is = refl

times_below : (x k n : ℕ) → x < k → times x (numbers_from k n) ≡ 0
times_below x k zero lt = refl
times_below x k (suc n) lt = omega (arith, one_if_apart k x (λ (e : k ≡ x). omega arith), times_below x (suc k) n (omega arith))

-- the first of numbers in a row stands there once at most
pub times_first : (k n : ℕ) → times k (numbers_from k n) ≤ 1
times_first k zero = omega arith
times_first k (suc n) = omega (arith, one_if_le (k == k), times_below k (suc k) n (omega arith))
