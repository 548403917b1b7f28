-- Pairs up to a key, in order.
use Rattle.std.proofs.Common.{◌≡◌, ◌⊎◌, inl, inr, Bool, true, false, ◌&&◌, cond, List, [], ◌∷◌, refl, ap, ◌∙◌, subst, filter}
use Rattle.std.specs.Cmp.{IsTotalOrder}
use Rattle.std.specs.Ordering.{is_le, ordering_reverse}
use Rattle.std.specs.declared.cmp.Ordering.{Ordering}
use Rattle.std.specs.declared.cmp.Ordering.TheVariants.{Less, Equal, Greater}
use Rattle.td_layer.specs.declared.values.Key.{Key}
use Rattle.td_layer.specs.Keys.{AllAfter, RisesBy, InKeyOrder, key_cmp}
use Rattle.td_memtree.specs.Keys.{pairs_from}
use Rattle.td_memtree.specs.Within.{pairs_within, pairs_to}
use Rattle.td_memtree.proofs.Around.{after_less}
use Rattle.td_memtree.proofs.Taking.{rises_filter}

pub twice : {X : Type 0} (p q : X → Bool) (m : List X) → filter q (filter p m) ≡ filter (λ x. p x && q x) m
twice p q [] = refl
twice p q (x ∷ m) = by (p x) (q x) refl (twice p q m)
  where
    by : (b c : Bool) → q x ≡ c → filter q (filter p m) ≡ filter (λ x. p x && q x) m → filter q (cond b (x ∷ filter p m) (filter p m)) ≡ cond (b && c) (x ∷ filter (λ x. p x && q x) m) (filter (λ x. p x && q x) m)
    by true true h i = rw h (ap (λ t. x ∷ t) i)
    by true false h i = rw h i
    by false c h i = i

module _ {K X : Type 0} (R : K → K → Ordering) (hi : K) where
  abbrev upto : K × X → Bool
  upto e = is_le (R e.0 hi)

  none_past : (o : IsTotalOrder R) (m : List (K × X)) → AllAfter R hi m → filter upto m ≡ []
  none_past o [] a = refl
  none_past o (x ∷ m) a = rw (o.antisymm x.0 hi ∙ ap ordering_reverse a.0) (none_past o m a.1)

  -- the first pair lies beyond: nothing is left, of it and the others
  pub past : (o : IsTotalOrder R) (w after : List (K × X)) (e : K × X) → RisesBy R w → w ≡ e ∷ after → R e.0 hi ≡ Greater → (filter upto w ≡ []) × (filter upto after ≡ [])
  past o w after e s a h =
      let t : RisesBy R (e ∷ after) = subst (RisesBy R) a s in
      let first : R hi e.0 ≡ Less = o.antisymm hi e.0 ∙ ap ordering_reverse h in
      let rest = after_less R o hi e.0 after first t.0 in
      (ap (filter upto) a ∙ none_past o (e ∷ after) (first, rest), none_past o after rest)

  pub here : (w after : List (K × X)) (e : K × X) (r : Ordering) → w ≡ e ∷ after → R e.0 hi ≡ r → (r ≡ Less) ⊎ (r ≡ Equal) → filter upto w ≡ e ∷ filter upto after
  here w after e r a b h =
      let le : is_le (R e.0 hi) ≡ true = rw b (elim h [ inl i ↦ rw i refl | inr i ↦ rw i refl ]) in
      ap (filter upto) a ∙ rw le refl

  pub order_after : (w after : List (K × X)) (e : K × X) → RisesBy R w → w ≡ e ∷ after → RisesBy R after
  order_after w after e s a = (subst (RisesBy R) a s).1

pub pairs_to-from : {T : Type 0} (lo hi : Key) (d : List (Key × T)) → pairs_to hi (pairs_from lo d) ≡ pairs_within lo hi d
pairs_to-from {T} lo hi d = twice (λ (e : Key × T). is_le (key_cmp lo e.0)) (λ (e : Key × T). is_le (key_cmp e.0 hi)) d

pub order_from : {T : Type 0} (lo : Key) (d : List (Key × T)) → InKeyOrder d → InKeyOrder (pairs_from lo d)
order_from {T} lo d s = rises_filter key_cmp (λ (e : Key × T). is_le (key_cmp lo e.0)) d s

pub order_to : {T : Type 0} (hi : Key) (d : List (Key × T)) → InKeyOrder d → InKeyOrder (pairs_to hi d)
order_to {T} hi d s = rises_filter key_cmp (λ (e : Key × T). is_le (key_cmp e.0 hi)) d s
