-- The pairs from a key on, of pairs on both sides of a key.
use Rattle.std.proofs.Common.{◌≡◌, List, [], ◌∷◌, ◌++◌, refl, ap, ◌∙◌, filter}
use Rattle.std.proofs.lemmas.List.Elements.{filter-append}
use Rattle.std.specs.Ordering.{is_le}
use Rattle.std.specs.declared.cmp.Ordering.{Ordering}
use Rattle.td_layer.specs.Keys.{AllAfter}
use Rattle.td_memtree.specs.Parts.{AllBefore}

module _ {K X : Type 0} (R : K → K → Ordering) where
  pub all_pass : (m : List (K × X)) (k : K) → AllAfter R k m → filter (λ (e : K × X). is_le (R k e.0)) m ≡ m
  all_pass [] k a = refl
  all_pass (x ∷ m) k a = rw a.0 (ap (λ t. x ∷ t) (all_pass m k a.1))

  none_pass : (l : List (K × X)) (k : K) → AllBefore R k l → filter (λ (e : K × X). is_le (R k e.0)) l ≡ []
  none_pass [] k b = refl
  none_pass (x ∷ l) k b = rw b.0 (none_pass l k b.1)

  pub from_left : (l r : List (K × X)) (k : K) → AllAfter R k r → filter (λ (e : K × X). is_le (R k e.0)) (l ++ r) ≡ filter (λ (e : K × X). is_le (R k e.0)) l ++ r
  from_left l r k a = filter-append (λ (e : K × X). is_le (R k e.0)) l r ∙ ap (λ t. filter (λ (e : K × X). is_le (R k e.0)) l ++ t) (all_pass r k a)

  pub from_right : (l r : List (K × X)) (k : K) → AllBefore R k l → filter (λ (e : K × X). is_le (R k e.0)) (l ++ r) ≡ filter (λ (e : K × X). is_le (R k e.0)) r
  from_right l r k b = filter-append (λ (e : K × X). is_le (R k e.0)) l r ∙ rw (none_pass l k b) refl
