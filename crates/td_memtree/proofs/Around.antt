-- Pairs on both sides of a key, in a list that rises.
use Rattle.std.proofs.Common.{◌≡◌, ◌⊎◌, inl, inr, suc, ◌+◌, ◌<◌, ◌≤◌, true, cond, List, [], ◌∷◌, ◌++◌, length, Some, None, refl, sym, ap, ◌∙◌, subst, arith}
use Rattle.std.specs.Cmp.{IsTotalOrder}
use Rattle.std.specs.Ordering.{is_eq, is_le, match_ordering, ordering_reverse}
use Rattle.std.specs.Map.{lookup}
use Rattle.std.specs.BTreeMap.{insert_entry, is_at}
use Rattle.std.specs.declared.cmp.Ordering.{Ordering}
use Rattle.std.specs.declared.cmp.Ordering.TheVariants.{Less, Equal, Greater}
use Rattle.td_layer.specs.Keys.{AllAfter, RisesBy}
use Rattle.td_memtree.specs.Parts.{AllBefore, AllFrom, IsFirst}

turned : {K : Type 0} {R : K → K → Ordering} (o : IsTotalOrder R) (x y : K) {r : Ordering} → R y x ≡ r → R x y ≡ ordering_reverse r
turned o x y h = o.antisymm x y ∙ ap ordering_reverse h

module _ {K : Type 0} (R : K → K → Ordering) (o : IsTotalOrder R) where
  -- a key before one that isn't after x is before x
  less_from : (k s x : K) → R k s ≡ Less → is_le (R s x) ≡ true → R k x ≡ Less
  less_from k s x h i = by (R s x) refl i
    where
      by : (r : Ordering) → R s x ≡ r → is_le r ≡ true → R k x ≡ Less
      by Less e i = o.trans k s x h e
      by Equal e i = turned o k x (sym (o.congr s x k e) ∙ turned o s k h)
      by Greater e i = cc

  not_before : (k s : K) (r : Ordering) → R k s ≡ r → (r ≡ Equal) ⊎ (r ≡ Greater) → is_le (R s k) ≡ true
  not_before k s r e h = elim h [ inl i ↦ ap is_le (turned o s k (e ∙ i)) | inr i ↦ ap is_le (turned o s k (e ∙ i)) ]

  same_self : (k : K) → R k k ≡ Equal
  same_self k = by (R k k) (o.antisymm k k)
    where
      by : (r : Ordering) → r ≡ ordering_reverse r → r ≡ Equal
      by Less h = cc
      by Equal h = refl
      by Greater h = cc

module _ {K X : Type 0} (R : K → K → Ordering) where
  after_front : (k : K) (l m : List (K × X)) → AllAfter R k (l ++ m) → AllAfter R k l
  after_front k [] m a = tt
  after_front k (x ∷ l) m a = (a.0, after_front k l m a.1)

  after_back : (k : K) (l m : List (K × X)) → AllAfter R k (l ++ m) → AllAfter R k m
  after_back k [] m a = a
  after_back k (x ∷ l) m a = after_back k l m a.1

  after_both : (k : K) (l m : List (K × X)) → AllAfter R k l → AllAfter R k m → AllAfter R k (l ++ m)
  after_both k [] m a b = b
  after_both k (x ∷ l) m a b = (a.0, after_both k l m a.1 b)

  pub rises_front : (l m : List (K × X)) → RisesBy R (l ++ m) → RisesBy R l
  rises_front [] m s = tt
  rises_front (x ∷ l) m s = (after_front x.0 l m s.0, rises_front l m s.1)

  pub rises_back : (l m : List (K × X)) → RisesBy R (l ++ m) → RisesBy R m
  rises_back [] m s = s
  rises_back (x ∷ l) m s = rises_back l m s.1

  pub before_front : (k : K) (l m : List (K × X)) → AllBefore R k (l ++ m) → AllBefore R k l
  before_front k [] m a = tt
  before_front k (x ∷ l) m a = (a.0, before_front k l m a.1)

  pub before_back : (k : K) (l m : List (K × X)) → AllBefore R k (l ++ m) → AllBefore R k m
  before_back k [] m a = a
  before_back k (x ∷ l) m a = before_back k l m a.1

  pub before_both : (k : K) (l m : List (K × X)) → AllBefore R k l → AllBefore R k m → AllBefore R k (l ++ m)
  before_both k [] m a b = b
  before_both k (x ∷ l) m a b = (a.0, before_both k l m a.1 b)

  pub from_front : (k : K) (l m : List (K × X)) → AllFrom R k (l ++ m) → AllFrom R k l
  from_front k [] m a = tt
  from_front k (x ∷ l) m a = (a.0, from_front k l m a.1)

  pub from_back : (k : K) (l m : List (K × X)) → AllFrom R k (l ++ m) → AllFrom R k m
  from_back k [] m a = a
  from_back k (x ∷ l) m a = from_back k l m a.1

  pub from_both : (k : K) (l m : List (K × X)) → AllFrom R k l → AllFrom R k m → AllFrom R k (l ++ m)
  from_both k [] m a b = b
  from_both k (x ∷ l) m a b = (a.0, from_both k l m a.1 b)

  pub from_after : (k : K) (m : List (K × X)) → AllAfter R k m → AllFrom R k m
  from_after k [] a = tt
  from_after k (x ∷ m) a = (rw a.0 refl, from_after k m a.1)

  put_first : (m : List (K × X)) (k : K) (v : X) → AllAfter R k m → insert_entry R m k v ≡ (k, v) ∷ m
  put_first [] k v a = refl
  put_first (x ∷ m) k v a = rw a.0 refl

  -- what goes before the pairs m goes to its place in front of them
  pub put_front : (l m : List (K × X)) (k : K) (v : X) → AllAfter R k m → insert_entry R (l ++ m) k v ≡ insert_entry R l k v ++ m
  put_front [] m k v a = put_first m k v a
  put_front (x ∷ l) m k v a = by (R k x.0) (put_front l m k v a)
    where
      by : (o : Ordering) → insert_entry R (l ++ m) k v ≡ insert_entry R l k v ++ m → match_ordering o ((k, v) ∷ x ∷ (l ++ m)) ((x.0, v) ∷ (l ++ m)) (x ∷ insert_entry R (l ++ m) k v) ≡ match_ordering o ((k, v) ∷ x ∷ l) ((x.0, v) ∷ l) (x ∷ insert_entry R l k v) ++ m
      by Less i = refl
      by Equal i = refl
      by Greater i = ap (λ t. x ∷ t) i

  -- what goes after the pairs l goes to its place behind them
  pub put_back : (l m : List (K × X)) (k : K) (v : X) → AllBefore R k l → insert_entry R (l ++ m) k v ≡ l ++ insert_entry R m k v
  put_back [] m k v b = refl
  put_back (x ∷ l) m k v b = rw b.0 (ap (λ t. x ∷ t) (put_back l m k v b.1))

  pub find_back : (l m : List (K × X)) (k : K) → AllBefore R k l → lookup (is_at (R k)) (l ++ m) ≡ lookup (is_at (R k)) m
  find_back [] m k b = refl
  find_back (x ∷ l) m k b = rw b.0 (find_back l m k b.1)

  pub none_after : (m : List (K × X)) (k : K) → AllAfter R k m → lookup (is_at (R k)) m ≡ None
  none_after [] k a = refl
  none_after (x ∷ m) k a = rw a.0 (none_after m k a.1)

  pub find_front : (l m : List (K × X)) (k : K) → AllAfter R k m → lookup (is_at (R k)) (l ++ m) ≡ lookup (is_at (R k)) l
  find_front [] m k a = none_after m k a
  find_front (x ∷ l) m k a = ap (λ t. cond (is_eq (R k x.0)) (Some x.1) t) (find_front l m k a)

  pub length_put : (l : List (K × X)) (k : K) (v : X) → (length l ≤ length (insert_entry R l k v)) × (length (insert_entry R l k v) ≤ length l + 1)
  length_put [] k v = (omega arith, omega arith)
  length_put (x ∷ l) k v = by (R k x.0) (length_put l k v)
    where
      by : (o : Ordering) → (length l ≤ length (insert_entry R l k v)) × (length (insert_entry R l k v) ≤ length l + 1) → (suc (length l) ≤ length (match_ordering o ((k, v) ∷ x ∷ l) ((x.0, v) ∷ l) (x ∷ insert_entry R l k v))) × (length (match_ordering o ((k, v) ∷ x ∷ l) ((x.0, v) ∷ l) (x ∷ insert_entry R l k v)) ≤ suc (length l) + 1)
      by Less i = (omega arith, omega arith)
      by Equal i = (omega arith, omega arith)
      by Greater i = (omega (arith, i.0), omega (arith, i.1))

  -- a pair that is put makes a list that has one
  pub some_put : (l : List (K × X)) (k : K) (v : X) → 0 < length (insert_entry R l k v)
  some_put [] k v = omega arith
  some_put (x ∷ l) k v = by (R k x.0)
    where
      by : (o : Ordering) → 0 < length (match_ordering o ((k, v) ∷ x ∷ l) ((x.0, v) ∷ l) (x ∷ insert_entry R l k v))
      by Less = omega arith
      by Equal = omega arith
      by Greater = omega arith

  module _ (o : IsTotalOrder R) where
    -- the pairs before e have keys before its key
    pub before_middle : (l : List (K × X)) (e : K × X) (r : List (K × X)) → RisesBy R (l ++ e ∷ r) → AllBefore R e.0 l
    before_middle [] e r s = tt
    before_middle (x ∷ l) e r s = (turned o e.0 x.0 (after_back x.0 l (e ∷ r) s.0).0, before_middle l e r s.1)

    pub before_more : (k j : K) (l : List (K × X)) → R k j ≡ Greater → AllBefore R j l → AllBefore R k l
    before_more k j [] h b = tt
    before_more k j (x ∷ l) h b = (turned o k x.0 (o.trans x.0 j k (turned o x.0 j b.0) (turned o j k h)), before_more k j l h b.1)

    before_same : (k j : K) (l : List (K × X)) → R k j ≡ Equal → AllBefore R j l → AllBefore R k l
    before_same k j [] h b = tt
    before_same k j (x ∷ l) h b = (o.congr k j x.0 h ∙ b.0, before_same k j l h b.1)

    pub after_less : (k j : K) (m : List (K × X)) → R k j ≡ Less → AllAfter R j m → AllAfter R k m
    after_less k j [] h a = tt
    after_less k j (x ∷ m) h a = (o.trans k j x.0 h a.0, after_less k j m h a.1)

    pub after_same : (k j : K) (m : List (K × X)) → R k j ≡ Equal → AllAfter R j m → AllAfter R k m
    after_same k j [] h a = tt
    after_same k j (x ∷ m) h a = (o.congr k j x.0 h ∙ a.0, after_same k j m h a.1)

    after_put : (j : K) (l : List (K × X)) (k : K) (v : X) → R j k ≡ Less → AllAfter R j l → AllAfter R j (insert_entry R l k v)
    after_put j [] k v h a = (h, tt)
    after_put j (x ∷ l) k v h a = by (R k x.0) (after_put j l k v h a.1)
      where
        by : (r : Ordering) → AllAfter R j (insert_entry R l k v) → AllAfter R j (match_ordering r ((k, v) ∷ x ∷ l) ((x.0, v) ∷ l) (x ∷ insert_entry R l k v))
        by Less i = (h, a)
        by Equal i = a
        by Greater i = (a.0, i)

    pub rises_put : (l : List (K × X)) (k : K) (v : X) → RisesBy R l → RisesBy R (insert_entry R l k v)
    rises_put [] k v s = (tt, tt)
    rises_put (x ∷ l) k v s = by (R k x.0) refl (rises_put l k v s.1)
      where
        by : (r : Ordering) → R k x.0 ≡ r → RisesBy R (insert_entry R l k v) → RisesBy R (match_ordering r ((k, v) ∷ x ∷ l) ((x.0, v) ∷ l) (x ∷ insert_entry R l k v))
        by Less h i = ((h, after_less k x.0 l h s.0), s)
        by Equal h i = s
        by Greater h i = (after_put x.0 l k v (turned o x.0 k h) s.0, i)

    pub after_from : (k s : K) (m : List (K × X)) → R k s ≡ Less → AllFrom R s m → AllAfter R k m
    after_from k s [] h a = tt
    after_from k s (x ∷ m) h a = (less_from R o k s x.0 h a.0, after_from k s m h a.1)

    pub before_from : (k s : K) (l : List (K × X)) (r : Ordering) → R k s ≡ r → (r ≡ Equal) ⊎ (r ≡ Greater) → AllBefore R s l → AllBefore R k l
    before_from k s l r e h b = elim h [ inl i ↦ before_same k s l (e ∙ i) b | inr i ↦ before_more k s l (e ∙ i) b ]

    pub before_put : (s : K) (l : List (K × X)) (k : K) (v : X) → R k s ≡ Less → AllBefore R s l → AllBefore R s (insert_entry R l k v)
    before_put s [] k v h b = (turned o s k h, tt)
    before_put s (x ∷ l) k v h b = by (R k x.0) (before_put s l k v h b.1)
      where
        by : (r : Ordering) → AllBefore R s (insert_entry R l k v) → AllBefore R s (match_ordering r ((k, v) ∷ x ∷ l) ((x.0, v) ∷ l) (x ∷ insert_entry R l k v))
        by Less i = (turned o s k h, b)
        by Equal i = b
        by Greater i = (b.0, i)

    pub from_put : (s : K) (l : List (K × X)) (k : K) (v : X) (r : Ordering) → R k s ≡ r → (r ≡ Equal) ⊎ (r ≡ Greater) → AllFrom R s l → AllFrom R s (insert_entry R l k v)
    from_put s [] k v r e h b = (not_before R o k s r e h, tt)
    from_put s (x ∷ l) k v r e h b = by (R k x.0) (from_put s l k v r e h b.1)
      where
        by : (q : Ordering) → AllFrom R s (insert_entry R l k v) → AllFrom R s (match_ordering q ((k, v) ∷ x ∷ l) ((x.0, v) ∷ l) (x ∷ insert_entry R l k v))
        by Less i = (not_before R o k s r e h, b)
        by Equal i = b
        by Greater i = (b.0, i)

    pub rises_both : (s : K) (l m : List (K × X)) → RisesBy R l → RisesBy R m → AllBefore R s l → AllFrom R s m → RisesBy R (l ++ m)
    rises_both s [] m a b c d = b
    rises_both s (x ∷ l) m a b c d = (after_both x.0 l m a.0 (after_from x.0 s m (turned o x.0 s c.0) d), rises_both s l m a.1 b c.1 d)

    -- where there are pairs from k on and before j, k is before j
    between : (k j : K) (m : List (K × X)) → 0 < length m → AllFrom R k m → AllBefore R j m → R k j ≡ Less
    between k j [] some a b = absurd (omega (arith, some))
    between k j (x ∷ m) some a b = turned o k j (by (R k x.0) refl a.0)
      where
        by : (r : Ordering) → R k x.0 ≡ r → is_le r ≡ true → R j k ≡ Greater
        by Less e i = turned o j k (o.trans k x.0 j e (turned o x.0 j b.0))
        by Equal e i = turned o j k (o.congr k x.0 j e ∙ turned o x.0 j b.0)
        by Greater e i = cc

    pub before_over : (k j : K) (l m : List (K × X)) → 0 < length m → AllBefore R k l → AllFrom R k m → AllBefore R j m → AllBefore R j l
    before_over k j l m some a b c = before_more j k l (turned o j k (between k j m some b c)) a

    pub from_over : (k j : K) (m r : List (K × X)) → 0 < length m → AllFrom R k m → AllBefore R j m → AllFrom R j r → AllFrom R k r
    from_over k j m r some a b c = from_after k r (after_from k j r (between k j m some a b) c)

    -- the first key of some pairs parts those before from them
    pub first_before : (k : K) (l m : List (K × X)) → 0 < length m → RisesBy R (l ++ m) → IsFirst k m → AllBefore R k l
    first_before k l [] some s i = absurd (omega (arith, some))
    first_before k l (x ∷ m) some s i = subst (λ j. AllBefore R j l) i (before_middle l x m s)

    pub first_from : (k : K) (m : List (K × X)) → RisesBy R m → IsFirst k m → AllFrom R k m
    first_from k [] s i = tt
    first_from k (x ∷ m) s i = subst (λ j. AllFrom R j (x ∷ m)) i (ap is_le (same_self R o x.0), from_after x.0 m s.0)
