-- Why there is only one list of the interval windows of rows.
use Rattle.std.proofs.Common.{◌≡◌, ◌⊎◌, ℕ, zero, suc, ◌<ℤ◌, List, [], ◌∷◌, refl, sym, ap, ◌∙◌, subst, arith, inl, inr, Contains}
use Rattle.std.proofs.lemmas.Int.{ints}
use Rattle.std.specs.List.{AllByRecursion}
use Rattle.td_window.specs.Windows.{Window, StartsRise, IsIntervalWindow, AreIntervalWindows}

module _ {A : Type 0} where
  in_cons : (v : A) (vs : List A) (w : A) → Contains (v ∷ vs) w → (v ≡ w) ⊎ Contains vs w
  in_cons v vs w (zero, h, e) = inl e
  in_cons v vs w (suc k, h, e) = inr (k, omega (arith, h), e)

  in_nothing : (w : A) → Contains [] w → ⊥
  in_nothing w (k, h, e) = omega (arith, h)

  at_contained : (P : A → Type 0) (ws : List A) (w : A) → AllByRecursion P ws → Contains ws w → P w
  at_contained P [] w h c = absurd (in_nothing w c)
  at_contained P (x ∷ ws) w h c = go (λ d. at_contained P ws w h.1 d) (in_cons x ws w c)
    where
      go : (Contains ws w → P w) → (x ≡ w) ⊎ Contains ws w → P w
      go rest (inl e) = subst P e h.0
      go rest (inr d) = rest d

  all_by_recursion : (P Q R : A → Type 0) → ((x : A) → P x → Q x → R x) → (xs : List A) → AllByRecursion P xs → AllByRecursion Q xs → AllByRecursion R xs
  all_by_recursion P Q R f [] p q = tt
  all_by_recursion P Q R f (x ∷ xs) p q = (f x p.0 q.0, all_by_recursion P Q R f xs p.1 q.1)

  each_by_recursion : (P Q : A → Type 0) → ((x : A) → P x → Q x) → (xs : List A) → AllByRecursion P xs → AllByRecursion Q xs
  each_by_recursion P Q f [] p = tt
  each_by_recursion P Q f (x ∷ xs) p = (f x p.0, each_by_recursion P Q f xs p.1)

module _ {A : Type 0} where
  -- two rising lists have one first window
  same_first : (w v : Window A) (ws vs : List (Window A)) → AllByRecursion (λ u. w.start <ℤ u.start) ws → AllByRecursion (λ u. v.start <ℤ u.start) vs → Contains (v ∷ vs) w → Contains (w ∷ ws) v → v ≡ w
  same_first w v ws vs r s a b = go (in_cons v vs w a) (in_cons w ws v b)
    where
      go : (v ≡ w) ⊎ Contains vs w → (w ≡ v) ⊎ Contains ws v → v ≡ w
      go (inl e) d = e
      go (inr c) (inl e) = sym e
      go (inr c) (inr d) =
          let x : v.start <ℤ w.start = at_contained (λ u. v.start <ℤ u.start) vs w s c in
          let y : w.start <ℤ v.start = at_contained (λ u. w.start <ℤ u.start) ws v r d in
          absurd (omega (arith, ints))

  -- what comes later is not the first
  later_ones : (v : Window A) (vs ws : List (Window A)) → AllByRecursion (λ u. v.start <ℤ u.start) ws → AllByRecursion (Contains (v ∷ vs)) ws → AllByRecursion (Contains vs) ws
  later_ones v vs ws = all_by_recursion (λ u. v.start <ℤ u.start) (Contains (v ∷ vs)) (Contains vs) not_first ws
    where
      not_first : (u : Window A) → v.start <ℤ u.start → Contains (v ∷ vs) u → Contains vs u
      not_first u h c = go (in_cons v vs u c)
        where
          go : (v ≡ u) ⊎ Contains vs u → Contains vs u
          go (inl e) = let x : u.start <ℤ u.start = subst (λ (k : Window A). k.start <ℤ u.start) e h in absurd (omega (arith, ints))
          go (inr d) = d

  same_windows : (ws vs : List (Window A)) → StartsRise ws → StartsRise vs → AllByRecursion (Contains vs) ws → AllByRecursion (Contains ws) vs → ws ≡ vs
  same_windows [] [] r s a b = refl
  same_windows [] (v ∷ vs) r s a b = absurd (in_nothing v b.0)
  same_windows (w ∷ ws) [] r s a b = absurd (in_nothing w a.0)
  same_windows (w ∷ ws) (v ∷ vs) r s a b =
      let e : v ≡ w = same_first w v ws vs r.0 s.0 a.0 b.0 in
      let r' : AllByRecursion (λ u. v.start <ℤ u.start) ws = subst (λ (k : Window A). AllByRecursion (λ u. k.start <ℤ u.start) ws) (sym e) r.0 in
      let s' : AllByRecursion (λ u. w.start <ℤ u.start) vs = subst (λ (k : Window A). AllByRecursion (λ u. k.start <ℤ u.start) vs) e s.0 in
      let rest : ws ≡ vs = same_windows ws vs r.1 s.1 (later_ones v vs ws r' a.1) (later_ones w ws vs s' b.1) in
      ap (λ (k : Window A). k ∷ ws) (sym e) ∙ ap (λ k. v ∷ k) rest

  pub intervals_unique : (time : A → ℕ) (len offset slide : ℕ) (rows : List A) (ws vs : List (Window A)) → AreIntervalWindows time len offset slide rows ws → AreIntervalWindows time len offset slide rows vs → ws ≡ vs
  intervals_unique time len offset slide rows ws vs h k =
      same_windows ws vs h.by_start k.by_start
      (each_by_recursion (IsIntervalWindow time len offset slide rows) (Contains vs) k.all ws h.each)
      (each_by_recursion (IsIntervalWindow time len offset slide rows) (Contains ws) h.all vs k.each)
