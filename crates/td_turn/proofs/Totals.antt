-- Sums over all views.
use Rattle.std.proofs.Common.{◌≡◌, ◌≢◌, ℕ, zero, suc, ◌+◌, ◌≤◌, List, [], ◌∷◌, ◌++◌, set, refl, ap, sym, arith}
use mathlib.Core.Option.{some, some-injective, some-ne-none}
use lib.ListN.{get_elem?}
use Rattle.td_turn.specs.Views.{total}

module _ {A : Type 0} where
  pub total_set : (f : A → ℕ) (l : List A) (i : ℕ) (v w : A) → get_elem? l i ≡ some v → total f (set l i w) + f v ≡ total f l + f w
  total_set f [] i v w e = absurd (some-ne-none v (sym e))
  total_set f (x ∷ xs) zero v w e = let is : f x ≡ f v = ap f (some-injective x v e) in omega arith
  total_set f (x ∷ xs) (suc i) v w e = omega (arith, total_set f xs i v w e)

  pub total_same : (f : A → ℕ) (l : List A) (i : ℕ) (v w : A) → get_elem? l i ≡ some v → f w ≡ f v → total f (set l i w) ≡ total f l
  total_same f l i v w e same = omega (arith, total_set f l i v w e)

  pub total_push : (f : A → ℕ) (l : List A) (w : A) → total f (l ++ w ∷ []) ≡ total f l + f w
  total_push f [] w = omega arith
  total_push f (x ∷ xs) w = omega (arith, total_push f xs w)

  pub part_le : (f : A → ℕ) (l : List A) (i : ℕ) (v : A) → get_elem? l i ≡ some v → f v ≤ total f l
  part_le f [] i v e = absurd (some-ne-none v (sym e))
  part_le f (x ∷ xs) zero v e = let is : f x ≡ f v = ap f (some-injective x v e) in omega arith
  part_le f (x ∷ xs) (suc i) v e = omega (arith, part_le f xs i v e)

  pub two_le : (f : A → ℕ) (l : List A) (i j : ℕ) (v w : A) → get_elem? l i ≡ some v → get_elem? l j ≡ some w → j ≢ i → f v + f w ≤ total f l
  two_le f [] i j v w e d apart = absurd (some-ne-none v (sym e))
  two_le f (x ∷ xs) zero zero v w e d apart = absurd (apart refl)
  two_le f (x ∷ xs) zero (suc j) v w e d apart = let is : f x ≡ f v = ap f (some-injective x v e) in omega (arith, part_le f xs j w d)
  two_le f (x ∷ xs) (suc i) zero v w e d apart = let is : f x ≡ f w = ap f (some-injective x w d) in omega (arith, part_le f xs i v e)
  two_le f (x ∷ xs) (suc i) (suc j) v w e d apart = omega (arith, two_le f xs i j v w e d (λ same. apart (ap suc same)))

  total_le : (f g : A → ℕ) (l : List A) → ((j : ℕ) (u : A) → get_elem? l j ≡ some u → f u ≤ g u) → total f l ≤ total g l
  total_le f g [] h = omega arith
  total_le f g (x ∷ xs) h = omega (arith, h zero x refl, total_le f g xs (λ j u e. h (suc j) u e))

  -- what f falls behind g at one place, it falls behind in all
  pub total_behind : (f g : A → ℕ) (l : List A) (i : ℕ) (v : A) → ((j : ℕ) (u : A) → get_elem? l j ≡ some u → f u ≤ g u) → get_elem? l i ≡ some v
      → total f l + g v ≤ total g l + f v
  total_behind f g [] i v h e = absurd (some-ne-none v (sym e))
  total_behind f g (x ∷ xs) zero v h e =
      let is : f x ≡ f v = ap f (some-injective x v e) in
      let also : g x ≡ g v = ap g (some-injective x v e) in
      omega (arith, total_le f g xs (λ j u d. h (suc j) u d))
  total_behind f g (x ∷ xs) (suc i) v h e = omega (arith, h zero x refl, total_behind f g xs i v (λ j u d. h (suc j) u d) e)

  total_none : (p f : A → ℕ) (l : List A) → ((j : ℕ) (u : A) → get_elem? l j ≡ some u → p u ≡ 0 → f u ≡ 0) → total p l ≡ 0 → total f l ≡ 0
  total_none p f [] h z = refl
  total_none p f (x ∷ xs) h z = omega (arith, h zero x refl (omega arith), total_none p f xs (λ j u e. h (suc j) u e) (omega arith))

  -- where one view has all of p, and f is nothing where p is nothing, that view has all of f
  pub total_alone : (p f : A → ℕ) (l : List A) (i : ℕ) (v : A) → ((j : ℕ) (u : A) → get_elem? l j ≡ some u → p u ≡ 0 → f u ≡ 0) → get_elem? l i ≡ some v
      → total p l ≡ p v → total f l ≡ f v
  total_alone p f [] i v h e all = absurd (some-ne-none v (sym e))
  total_alone p f (x ∷ xs) zero v h e all =
      let is : f x ≡ f v = ap f (some-injective x v e) in
      let also : p x ≡ p v = ap p (some-injective x v e) in
      omega (arith, total_none p f xs (λ j u d. h (suc j) u d) (omega arith))
  total_alone p f (x ∷ xs) (suc i) v h e all =
      let within = part_le p xs i v e in
      let none_here : p x ≡ 0 = omega arith in
      omega (arith, h zero x refl none_here, total_alone p f xs i v (λ j u d. h (suc j) u d) e (omega arith))
