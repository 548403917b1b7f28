-- Pairs that are taken off the end of a list in order: first those on the right, then those on the left.
use Rattle.std.proofs.Common.{◌≡◌, ℕ, ◌+◌, ◌<◌, List, ◌++◌, length, take, drop, sym, ap, ◌∙◌, subst, append_assoc}
use Rattle.std.proofs.lemmas.List.{length-append, take-append-drop}
use Rattle.td_layer.specs.declared.values.Key.{Key}
use Rattle.td_layer.specs.Keys.{InKeyOrder, key_cmp}
use Rattle.td_memtree.specs.Parts.{Parts, IsFirst}
use Rattle.td_memtree.proofs.Keyed.{keys_total}
use Rattle.td_memtree.proofs.Around.{rises_front, rises_back, first_before, first_from}

pub first_parts : {T : Type 0} (k : Key) (l r : List (Key × T)) → 0 < length r → InKeyOrder (l ++ r) → IsFirst k r → Parts k l r
first_parts k l r some s i = record {
  before = first_before key_cmp keys_total k l r some s i;
  from = first_from key_cmp keys_total k r (rises_back key_cmp l r s) i;
}

pub sorted_take : {T : Type 0} (l front : List (Key × T)) (n : ℕ) → front ≡ take n l → InKeyOrder l → InKeyOrder front
sorted_take l front n a s = rw a (rises_front key_cmp (take n l) (drop n l) (subst InKeyOrder (sym (take-append-drop n l)) s))

pub sorted_drop : {T : Type 0} (l back : List (Key × T)) (n : ℕ) → back ≡ drop n l → InKeyOrder l → InKeyOrder back
sorted_drop l back n a s = rw a (rises_back key_cmp (take n l) (drop n l) (subst InKeyOrder (sym (take-append-drop n l)) s))

pub halves : {T : Type 0} (l front back : List (Key × T)) (n : ℕ) (k : Key) → front ≡ take n l → back ≡ drop n l → 0 < length back → InKeyOrder l → IsFirst k back → Parts k front back
halves l front back n k a b some s i = first_parts k front back some (rw (a, b) (subst InKeyOrder (sym (take-append-drop n l)) s)) i

module _ {T : Type 0} (old p1 r : List (Key × T)) (s : InKeyOrder old) (a : old ≡ p1 ++ r) where
  pub rest_sorted : InKeyOrder p1
  rest_sorted = rises_front key_cmp p1 r (subst InKeyOrder a s)

  pub last_sorted : InKeyOrder r
  last_sorted = rises_back key_cmp p1 r (subst InKeyOrder a s)

  pub rest_long : length old ≡ length p1 + length r
  rest_long = ap length a ∙ length-append p1 r

  module _ (p2 l : List (Key × T)) (b : p1 ≡ p2 ++ l) where
    pub built_is : old ≡ p2 ++ (l ++ r)
    built_is = a ∙ ap (λ t. t ++ r) b ∙ append_assoc p2 l r

    pub built_parts : (k : Key) → 0 < length r → IsFirst k r → Parts k l r
    built_parts k some i = first_parts k l r some (rises_back key_cmp p2 (l ++ r) (subst InKeyOrder built_is s)) i
