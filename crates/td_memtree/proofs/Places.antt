-- What stands at the place of a key among pairs in the order of their keys.
use Rattle.std.proofs.Common.{◌≡◌, suc, ◌<◌, ◌≤◌, true, false, cond, List, [], ◌∷◌, length, drop, Some, None, refl, ap, filter, arith}
use Rattle.std.specs.Prelude.{slice_index_or, slice_set}
use Rattle.std.specs.List.{insert, remove}
use Rattle.std.specs.Cmp.{IsTotalOrder}
use Rattle.std.specs.Ordering.{is_eq, is_le, match_ordering}
use Rattle.std.specs.Map.{lookup, remove_entry}
use Rattle.std.specs.BTreeMap.{insert_entry, is_at}
use Rattle.std.specs.declared.cmp.Ordering.{Ordering}
use Rattle.std.specs.declared.cmp.Ordering.TheVariants.{Less, Equal, Greater}
use Rattle.td_layer.specs.Keys.{RisesBy}
use Rattle.td_memtree.specs.Places.{place, is_there}
use Rattle.td_memtree.proofs.Around.{none_after, after_less, after_same}
use Rattle.td_memtree.proofs.Taken.{take_none}
use Rattle.td_memtree.proofs.Froms.{all_pass}

module _ {K X : Type 0} (R : K → K → Ordering) (k : K) where
  -- by where the first pair stands
  pub at_less : (l m : List (K × X)) (e : K × X) → l ≡ e ∷ m → R k e.0 ≡ Less → (place R k l ≡ 0) × (is_there R k l ≡ false)
  at_less l m e a h = rw a (rw h (refl, refl))

  pub at_equal : (l m : List (K × X)) (e : K × X) → l ≡ e ∷ m → R k e.0 ≡ Equal → (place R k l ≡ 0) × (is_there R k l ≡ true)
  at_equal l m e a h = rw a (rw h (refl, refl))

  pub at_greater : (l m : List (K × X)) (e : K × X) → l ≡ e ∷ m → R k e.0 ≡ Greater → (place R k l ≡ suc (place R k m)) × (is_there R k l ≡ is_there R k m)
  at_greater l m e a h = rw a (rw h (refl, refl))

  pub place_within : (l : List (K × X)) → place R k l ≤ length l
  place_within [] = omega arith
  place_within (x ∷ l) = by (R k x.0) (place_within l)
    where
      by : (r : Ordering) → place R k l ≤ length l → match_ordering r 0 0 (suc (place R k l)) ≤ suc (length l)
      by Less i = omega arith
      by Equal i = omega arith
      by Greater i = omega (arith, i)

  pub there_within : (l : List (K × X)) → is_there R k l ≡ true → place R k l < length l
  there_within [] h = cc
  there_within (x ∷ l) h = by (R k x.0) h (there_within l)
    where
      by : (r : Ordering) → match_ordering r false true (is_there R k l) ≡ true → (is_there R k l ≡ true → place R k l < length l) → match_ordering r 0 0 (suc (place R k l)) < suc (length l)
      by Less g i = cc
      by Equal g i = omega arith
      by Greater g i = omega (arith, i g)

  -- a new pair is inserted there
  pub put_new : (l : List (K × X)) (v : X) → is_there R k l ≡ false → insert l (place R k l) (k, v) ≡ insert_entry R l k v
  put_new [] v h = refl
  put_new (x ∷ l) v h = by (R k x.0) h (put_new l v)
    where
      by : (r : Ordering) → match_ordering r false true (is_there R k l) ≡ false → (is_there R k l ≡ false → insert l (place R k l) (k, v) ≡ insert_entry R l k v) → insert (x ∷ l) (match_ordering r 0 0 (suc (place R k l))) (k, v) ≡ match_ordering r ((k, v) ∷ x ∷ l) ((x.0, v) ∷ l) (x ∷ insert_entry R l k v)
      by Less g i = refl
      by Equal g i = cc
      by Greater g i = ap (λ t. x ∷ t) (i g)

  -- the pair of the key takes another item
  pub put_over : (l : List (K × X)) (v : X) (e : K × X) → is_there R k l ≡ true → e ≡ slice_index_or l (place R k l) e → slice_set l (place R k l) (e.0, v) ≡ insert_entry R l k v
  put_over [] v e h a = cc
  put_over (x ∷ l) v e h a = by (R k x.0) h a (put_over l v e)
    where
      by : (r : Ordering) → match_ordering r false true (is_there R k l) ≡ true → e ≡ slice_index_or (x ∷ l) (match_ordering r 0 0 (suc (place R k l))) e → (is_there R k l ≡ true → e ≡ slice_index_or l (place R k l) e → slice_set l (place R k l) (e.0, v) ≡ insert_entry R l k v) → slice_set (x ∷ l) (match_ordering r 0 0 (suc (place R k l))) (e.0, v) ≡ match_ordering r ((k, v) ∷ x ∷ l) ((x.0, v) ∷ l) (x ∷ insert_entry R l k v)
      by Less g a i = cc
      by Equal g a i = ap (λ (t : K × X). (t.0, v) ∷ l) a
      by Greater g a i = ap (λ t. x ∷ t) (i g a)

  pub taken_there : (l : List (K × X)) → is_there R k l ≡ true → remove l (place R k l) ≡ remove_entry (is_at (R k)) l
  taken_there [] h = cc
  taken_there (x ∷ l) h = by (R k x.0) h (taken_there l)
    where
      by : (r : Ordering) → match_ordering r false true (is_there R k l) ≡ true → (is_there R k l ≡ true → remove l (place R k l) ≡ remove_entry (is_at (R k)) l) → remove (x ∷ l) (match_ordering r 0 0 (suc (place R k l))) ≡ cond (is_eq r) l (x ∷ remove_entry (is_at (R k)) l)
      by Less g i = cc
      by Equal g i = refl
      by Greater g i = ap (λ t. x ∷ t) (i g)

  pub found_there : (l : List (K × X)) (e : K × X) → is_there R k l ≡ true → e ≡ slice_index_or l (place R k l) e → Some e.1 ≡ lookup (is_at (R k)) l
  found_there [] e h a = cc
  found_there (x ∷ l) e h a = by (R k x.0) h a (found_there l e)
    where
      by : (r : Ordering) → match_ordering r false true (is_there R k l) ≡ true → e ≡ slice_index_or (x ∷ l) (match_ordering r 0 0 (suc (place R k l))) e → (is_there R k l ≡ true → e ≡ slice_index_or l (place R k l) e → Some e.1 ≡ lookup (is_at (R k)) l) → Some e.1 ≡ cond (is_eq r) (Some x.1) (lookup (is_at (R k)) l)
      by Less g a i = cc
      by Equal g a i = ap (λ (t : K × X). Some t.1) a
      by Greater g a i = i g a

  module _ (o : IsTotalOrder R) where
    pub taken_nowhere : (l : List (K × X)) → RisesBy R l → is_there R k l ≡ false → l ≡ remove_entry (is_at (R k)) l
    taken_nowhere [] s h = refl
    taken_nowhere (x ∷ l) s h = by (R k x.0) refl h (taken_nowhere l s.1)
      where
        by : (r : Ordering) → R k x.0 ≡ r → match_ordering r false true (is_there R k l) ≡ false → (is_there R k l ≡ false → l ≡ remove_entry (is_at (R k)) l) → x ∷ l ≡ cond (is_eq r) l (x ∷ remove_entry (is_at (R k)) l)
        by Less e g i = rw (take_none R l k (after_less R o k x.0 l e s.0)) refl
        by Equal e g i = cc
        by Greater e g i = ap (λ t. x ∷ t) (i g)

    pub found_nowhere : (l : List (K × X)) → RisesBy R l → is_there R k l ≡ false → None ≡ lookup (is_at (R k)) l
    found_nowhere [] s h = refl
    found_nowhere (x ∷ l) s h = by (R k x.0) refl h (found_nowhere l s.1)
      where
        by : (r : Ordering) → R k x.0 ≡ r → match_ordering r false true (is_there R k l) ≡ false → (is_there R k l ≡ false → None ≡ lookup (is_at (R k)) l) → None ≡ cond (is_eq r) (Some x.1) (lookup (is_at (R k)) l)
        by Less e g i = rw (none_after R l k (after_less R o k x.0 l e s.0)) refl
        by Equal e g i = cc
        by Greater e g i = i g

    -- the pairs from there on
    pub from_place : (l : List (K × X)) → RisesBy R l → drop (place R k l) l ≡ filter (λ (e : K × X). is_le (R k e.0)) l
    from_place [] s = refl
    from_place (x ∷ l) s = by (R k x.0) refl (from_place l s.1)
      where
        by : (r : Ordering) → R k x.0 ≡ r → drop (place R k l) l ≡ filter (λ (e : K × X). is_le (R k e.0)) l → drop (match_ordering r 0 0 (suc (place R k l))) (x ∷ l) ≡ cond (is_le r) (x ∷ filter (λ (e : K × X). is_le (R k e.0)) l) (filter (λ (e : K × X). is_le (R k e.0)) l)
        by Less e i = rw (all_pass R l k (after_less R o k x.0 l e s.0)) refl
        by Equal e i = rw (all_pass R l k (after_same R o k x.0 l e s.0)) refl
        by Greater e i = i
