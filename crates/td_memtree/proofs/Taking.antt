-- Pairs of a range of keys, taken out of a list one at a time while a walk goes over them.
use Rattle.std.proofs.Common.{◌≡◌, ◌⊎◌, inl, inr, Bool, true, false, not, ◌&&◌, cond, List, [], ◌∷◌, refl, sym, ap, ◌∙◌, subst, filter}
use Rattle.std.specs.Cmp.{IsTotalOrder}
use Rattle.std.specs.Ordering.{is_le, is_eq, ordering_reverse}
use Rattle.std.specs.Map.{remove_entry}
use Rattle.std.specs.BTreeMap.{is_at}
use Rattle.std.specs.declared.cmp.Ordering.{Ordering}
use Rattle.std.specs.declared.cmp.Ordering.TheVariants.{Less, Equal, Greater}
use Rattle.td_layer.specs.Keys.{AllAfter, RisesBy}
use Rattle.td_memtree.specs.Parts.{AllFrom}
use Rattle.td_memtree.proofs.Around.{after_less}

none_left : {X : Type 0} (p : X → Bool) (m : List X) → filter p m ≡ [] → filter (λ x. not (p x)) m ≡ m
none_left p [] h = refl
none_left p (x ∷ m) h = by (p x) h (none_left p m)
  where
    by : (b : Bool) → cond b (x ∷ filter p m) (filter p m) ≡ [] → (filter p m ≡ [] → filter (λ x. not (p x)) m ≡ m) → cond (not b) (x ∷ filter (λ x. not (p x)) m) (filter (λ x. not (p x)) m) ≡ x ∷ m
    by true i j = cc
    by false i j = ap (λ t. x ∷ t) (j i)

same_self : (r : Ordering) → r ≡ ordering_reverse r → r ≡ Equal
same_self Less h = cc
same_self Equal h = refl
same_self Greater h = cc

not_after : (r : Ordering) → (r ≡ Equal) ⊎ (r ≡ Greater) → is_le (ordering_reverse r) ≡ true
not_after r h = elim h [ inl i ↦ rw i refl | inr i ↦ rw i refl ]

same_test : {K : Type 0} (R : K → K → Ordering) → IsTotalOrder R → (lo hi j k : K) → R j k ≡ Equal → (is_le (R lo j) && is_le (R j hi)) ≡ (is_le (R lo k) && is_le (R k hi))
same_test R o lo hi j k h =
    let a : R lo j ≡ R lo k = o.antisymm lo j ∙ ap ordering_reverse (o.congr j k lo h) ∙ sym (o.antisymm lo k) in
    rw (a, o.congr j k hi h) refl

module _ {K X : Type 0} (R : K → K → Ordering) (lo : K) where
  from_filter : (m : List (K × X)) → AllFrom R lo (filter (λ (e : K × X). is_le (R lo e.0)) m)
  from_filter [] = tt
  from_filter (x ∷ m) = by (is_le (R lo x.0)) refl (from_filter m)
    where
      by : (b : Bool) → is_le (R lo x.0) ≡ b → AllFrom R lo (filter (λ (e : K × X). is_le (R lo e.0)) m) → AllFrom R lo (cond b (x ∷ filter (λ (e : K × X). is_le (R lo e.0)) m) (filter (λ (e : K × X). is_le (R lo e.0)) m))
      by true h i = (h, i)
      by false h i = i

module _ {K X : Type 0} (R : K → K → Ordering) (p : K × X → Bool) where
  after_filter : (k : K) (m : List (K × X)) → AllAfter R k m → AllAfter R k (filter p m)
  after_filter k [] a = tt
  after_filter k (x ∷ m) a = by (p x) (after_filter k m a.1)
    where
      by : (b : Bool) → AllAfter R k (filter p m) → AllAfter R k (cond b (x ∷ filter p m) (filter p m))
      by true i = (a.0, i)
      by false i = i

  pub rises_filter : (m : List (K × X)) → RisesBy R m → RisesBy R (filter p m)
  rises_filter [] s = tt
  rises_filter (x ∷ m) s = by (p x) (rises_filter m s.1)
    where
      by : (b : Bool) → RisesBy R (filter p m) → RisesBy R (cond b (x ∷ filter p m) (filter p m))
      by true i = (after_filter x.0 m s.0, i)
      by false i = i

module _ {K X : Type 0} (R : K → K → Ordering) (lo hi : K) where
  abbrev within : K × X → Bool
  within e = is_le (R lo e.0) && is_le (R e.0 hi)

  abbrev without : K × X → Bool
  without e = not (is_le (R lo e.0) && is_le (R e.0 hi))

  within_from : (m : List (K × X)) → filter within (filter (λ (e : K × X). is_le (R lo e.0)) m) ≡ filter within m
  within_from [] = refl
  within_from (x ∷ m) = by (is_le (R lo x.0)) (is_le (R x.0 hi)) refl refl (within_from m)
    where
      by : (b q : Bool) → is_le (R lo x.0) ≡ b → is_le (R x.0 hi) ≡ q → filter within (filter (λ (e : K × X). is_le (R lo e.0)) m) ≡ filter within m → filter within (cond b (x ∷ filter (λ (e : K × X). is_le (R lo e.0)) m) (filter (λ (e : K × X). is_le (R lo e.0)) m)) ≡ cond (b && q) (x ∷ filter within m) (filter within m)
      by true true h g i = rw (h, g) (ap (λ t. x ∷ t) i)
      by true false h g i = rw (h, g) i
      by false q h g i = i

  -- While the pairs of a range are taken out of d: what is left of d, and the pairs that a walk has still to give.
  pub record Taking (d left rest : List (K × X)) : Type 0 where
    pub kept : filter without left ≡ filter without d
    pub gone : filter within left ≡ filter within rest
    pub from : AllFrom R lo rest
    pub order : RisesBy R rest

  pub taking : (d left rest : List (K × X)) → left ≡ d → rest ≡ filter (λ (e : K × X). is_le (R lo e.0)) d → RisesBy R d → Taking d left rest
  taking d left rest a b s = rw (a, b) (record { kept = refl; gone = sym (within_from d); from = from_filter R lo d; order = rises_filter R (λ (e : K × X). is_le (R lo e.0)) d s })

  pub taken_all : (d left rest : List (K × X)) → Taking d left rest → rest ≡ [] → left ≡ filter without d
  taken_all d left rest t a = sym (none_left within left (t.gone ∙ ap (filter within) a)) ∙ t.kept

  module _ (o : IsTotalOrder R) where
    keep_take : (m : List (K × X)) (k : K) → (is_le (R lo k) && is_le (R k hi)) ≡ true → filter without (remove_entry (is_at (R k)) m) ≡ filter without m
    keep_take [] k w = refl
    keep_take (x ∷ m) k w = by (R k x.0) refl (keep_take m k w)
      where
        other : (b : Bool) → filter without (remove_entry (is_at (R k)) m) ≡ filter without m → cond b (x ∷ filter without (remove_entry (is_at (R k)) m)) (filter without (remove_entry (is_at (R k)) m)) ≡ cond b (x ∷ filter without m) (filter without m)
        other true i = ap (λ t. x ∷ t) i
        other false i = i

        by : (r : Ordering) → R k x.0 ≡ r → filter without (remove_entry (is_at (R k)) m) ≡ filter without m → filter without (cond (is_eq r) m (x ∷ remove_entry (is_at (R k)) m)) ≡ filter without (x ∷ m)
        by Less h i = other (without x) i
        by Equal h i = rw (sym (same_test R o lo hi k x.0 h) ∙ w) refl
        by Greater h i = other (without x) i

    gone_take : (m : List (K × X)) (k : K) → (is_le (R lo k) && is_le (R k hi)) ≡ true → filter within (remove_entry (is_at (R k)) m) ≡ remove_entry (is_at (R k)) (filter within m)
    gone_take [] k w = refl
    gone_take (x ∷ m) k w = by (R k x.0) refl (gone_take m k w)
      where
        other : (r : Ordering) (b : Bool) → is_eq r ≡ false → R k x.0 ≡ r → filter within (remove_entry (is_at (R k)) m) ≡ remove_entry (is_at (R k)) (filter within m) → cond b (x ∷ filter within (remove_entry (is_at (R k)) m)) (filter within (remove_entry (is_at (R k)) m)) ≡ remove_entry (is_at (R k)) (cond b (x ∷ filter within m) (filter within m))
        other r true n h i = rw (h, n) (ap (λ t. x ∷ t) i)
        other r false n h i = i

        by : (r : Ordering) → R k x.0 ≡ r → filter within (remove_entry (is_at (R k)) m) ≡ remove_entry (is_at (R k)) (filter within m) → filter within (cond (is_eq r) m (x ∷ remove_entry (is_at (R k)) m)) ≡ remove_entry (is_at (R k)) (filter within (x ∷ m))
        by Less h i = other Less (within x) refl h i
        by Equal h i = rw (sym (same_test R o lo hi k x.0 h) ∙ w, h) refl
        by Greater h i = other Greater (within x) refl h i

    none_beyond : (m : List (K × X)) → AllAfter R hi m → filter within m ≡ []
    none_beyond [] a = refl
    none_beyond (x ∷ m) a = by (is_le (R lo x.0)) (o.antisymm x.0 hi ∙ ap ordering_reverse a.0) (none_beyond m a.1)
      where
        by : (b : Bool) → R x.0 hi ≡ Greater → filter within m ≡ [] → cond (b && is_le (R x.0 hi)) (x ∷ filter within m) (filter within m) ≡ []
        by true h i = rw h i
        by false h i = i

    pub take_next : (d left rest after new : List (K × X)) (e : K × X) (r : Ordering) → Taking d left rest → rest ≡ e ∷ after → R hi e.0 ≡ r → (r ≡ Equal) ⊎ (r ≡ Greater) → new ≡ remove_entry (is_at (R e.0)) left → Taking d new after
    take_next d left rest after new e r t a b h c =
        let f : AllFrom R lo (e ∷ after) = subst (AllFrom R lo) a t.from in
        let s : RisesBy R (e ∷ after) = subst (RisesBy R) a t.order in
        let w : (is_le (R lo e.0) && is_le (R e.0 hi)) ≡ true = rw (f.0, o.antisymm e.0 hi, b) (not_after r h) in
        let self : R e.0 e.0 ≡ Equal = same_self (R e.0 e.0) (o.antisymm e.0 e.0) in
        let first : filter within (e ∷ after) ≡ e ∷ filter within after = rw w refl in
        let out : remove_entry (is_at (R e.0)) (e ∷ filter within after) ≡ filter within after = rw self refl in
        rw c (record {
          kept = keep_take left e.0 w ∙ t.kept;
          gone = gone_take left e.0 w ∙ ap (remove_entry (is_at (R e.0))) (t.gone ∙ ap (filter within) a ∙ first) ∙ out;
          from = f.1;
          order = s.1;
        })

    pub taken_beyond : (d left rest after : List (K × X)) (e : K × X) → Taking d left rest → rest ≡ e ∷ after → R hi e.0 ≡ Less → left ≡ filter without d
    taken_beyond d left rest after e t a h =
        let s : RisesBy R (e ∷ after) = subst (RisesBy R) a t.order in
        let beyond = none_beyond (e ∷ after) (h, after_less R o hi e.0 after h s.0) in
        sym (none_left within left (t.gone ∙ ap (filter within) a ∙ beyond)) ∙ t.kept
