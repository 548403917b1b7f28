-- The pairs of a leaf at the place of a key, which a search found.
use Rattle.std.proofs.Common.{◌≡◌, ℕ, ◌+◌, ◌^◌, ◌<◌, ◌≤◌, true, false, List, [], ◌∷◌, ◌++◌, length, drop, Some, None, refl, sym, ap, subst, arith}
use Rattle.std.specs.Prelude.{slice_index_or, slice_set}
use Rattle.std.specs.List.{insert, remove}
use Rattle.td_layer.specs.declared.values.Key.{Key}
use Rattle.td_layer.specs.Keys.{InKeyOrder, key_cmp}
use Rattle.td_memtree.specs.Keys.{item_at, with_item, without, pairs_from}
use Rattle.td_memtree.specs.Parts.{IsFirst}
use Rattle.td_memtree.specs.Places.{place, is_there}
use Rattle.td_memtree.specs.declared.branch.Leaf.{Leaf}
use Rattle.td_memtree.specs.Branches.{LeafIsFit}
use Rattle.td_memtree.proofs.Keyed.{keys_total}
use Rattle.td_memtree.proofs.Around.{rises_put, some_put, length_put}
use Rattle.td_memtree.proofs.AtFork.{AtLeaf}
use Rattle.td_memtree.proofs.Places.{place_within, there_within, put_new, put_over, taken_there, taken_nowhere, found_there, found_nowhere, from_place}

module _ {T : Type 0} (l : List (Key × T)) (k : Key) (n : ℕ) (i : n ≡ place key_cmp k l) where
  pub within : n ≤ length l
  within = rw i (place_within key_cmp k l)

  pub within_there : is_there key_cmp k l ≡ true → n < length l
  within_there h = rw i (there_within key_cmp k l h)

  pub put_new_at : (v : T) → is_there key_cmp k l ≡ false → insert l n (k, v) ≡ with_item k v l
  put_new_at v h = rw i (put_new key_cmp k l v h)

  pub put_over_at : (v : T) (e : Key × T) → is_there key_cmp k l ≡ true → e ≡ slice_index_or l n e → slice_set l n (e.0, v) ≡ with_item k v l
  put_over_at v e h = subst (λ j. e ≡ slice_index_or l j e → slice_set l j (e.0, v) ≡ with_item k v l) (sym i) (put_over key_cmp k l v e h)

  pub taken_at : is_there key_cmp k l ≡ true → remove l n ≡ without k l
  taken_at h = rw i (taken_there key_cmp k l h)

  pub found_at : (e : Key × T) → is_there key_cmp k l ≡ true → e ≡ slice_index_or l n e → Some e.1 ≡ item_at k l
  found_at e h = subst (λ j. e ≡ slice_index_or l j e → Some e.1 ≡ item_at k l) (sym i) (found_there key_cmp k l e h)

  pub from_at : InKeyOrder l → drop n l ≡ pairs_from k l
  from_at s = rw i (from_place key_cmp k keys_total l s)

module _ {T : Type 0} (l : List (Key × T)) (k : Key) (s : InKeyOrder l) (h : is_there key_cmp k l ≡ false) where
  pub taken_none : l ≡ without k l
  taken_none = taken_nowhere key_cmp k keys_total l s h

  pub found_none : None ≡ item_at k l
  found_none = found_nowhere key_cmp k keys_total l s h

-- a leaf l that is seen as d, with an item put at a key
pub leaf_put : {T : Type 0} {d : List (Key × T) × ℕ} {l : Leaf T} → AtLeaf d l → (k : Key) (v : T) → length d.0 + 1 < 2 ^ 32 → (m : List (Key × T)) → m ≡ with_item k v l.pairs.items → LeafIsFit m
leaf_put {T} {d} {l} here k v few m a = rw a (record {
  rises = rises_put key_cmp keys_total l.pairs.items k v here.fit.rises;
  some = some_put key_cmp l.pairs.items k v;
  few = omega (arith, (length_put key_cmp l.pairs.items k v).1, few, ap length here.pairs);
})

-- the key at place 0 is the first one
pub first_at : {T : Type 0} (l : List (Key × T)) (e : Key × T) → e ≡ slice_index_or l 0 e → IsFirst e.0 l
first_at [] e a = tt
first_at (x ∷ l) e a = rw a refl

-- the first key of two lists is that of the first one, if that has a pair
pub first_of : {T : Type 0} (k : Key) (l m : List (Key × T)) → 0 < length l → IsFirst k l → IsFirst k (l ++ m)
first_of k [] m some i = absurd (omega (arith, some))
first_of k (x ∷ l) m some i = i
