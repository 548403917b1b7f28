-- Windows put in by their starts.
use Rattle.std.proofs.Common.{◌≡◌, ◌≢◌, ℤ, ◌<ℤ◌, ◌≤ℤ◌, int_le, Bool, true, false, cond, List, [], ◌∷◌, ◌++◌, refl, ap, ◌∙◌, subst, arith, inl, inr}
use Rattle.std.proofs.lemmas.Int.{ints, by_lt_z}
use Rattle.std.specs.List.{AllByRecursion}
use Rattle.td_window.specs.Windows.{Window, StartsRise}
use Rattle.td_trigger.specs.Splices.{put_by_start, put_all_by_start}
use Rattle.td_trigger.proofs.Lists.{each_weaker, each_append, In}

le_test : (a b : ℤ) → a ≤ℤ b → int_le a b ≡ true
le_test a b h = grind (arith, ints)

gt_test : (a b : ℤ) → b <ℤ a → int_le a b ≡ false
gt_test a b h = grind (arith, ints)

test_le : (a b : ℤ) → int_le a b ≡ true → a ≤ℤ b
test_le a b h = omega (arith, ints)

test_gt : (a b : ℤ) → int_le a b ≡ false → b <ℤ a
test_gt a b h = omega (arith, ints)

antisymmetric : (a b : ℤ) → a ≤ℤ b → b ≤ℤ a → a ≡ b
antisymmetric a b h k = omega (arith, ints)

strictly : (a b : ℤ) → a ≤ℤ b → a ≢ b → a <ℤ b
strictly a b l n = by_lt_z a b (λ h. h) (λ h. absurd (n (antisymmetric a b l h)))

differ : (a b : ℤ) → a <ℤ b → a ≡ b → ⊥
differ a b h e = omega (arith, ints)

module _ {A : Type 0} where
  -- ---- what is true of each window
  pub put_window_each : (P : Window A → Type 0) (w : Window A) (vs : List (Window A)) → P w → AllByRecursion P vs → AllByRecursion P (put_by_start w vs)
  put_window_each P w [] h k = (h, tt)
  put_window_each P w (v ∷ vs) h k = elim (int_le w.start v.start) as (λ t. AllByRecursion P (cond t (w ∷ v ∷ vs) (v ∷ put_by_start w vs))) [ true ↦ (h, k) | false ↦ (k.0, put_window_each P w vs h k.1) ]

  pub put_windows_each : (P : Window A → Type 0) (ws vs : List (Window A)) → AllByRecursion P ws → AllByRecursion P vs → AllByRecursion P (put_all_by_start ws vs)
  put_windows_each P [] vs h k = k
  put_windows_each P (w ∷ ws) vs h k = put_window_each P w (put_all_by_start ws vs) h.0 (put_windows_each P ws vs h.1 k)

  -- ---- windows that go before, or after
  put_first : (w : Window A) (vs : List (Window A)) → AllByRecursion (λ v. w.start ≤ℤ v.start) vs → put_by_start w vs ≡ w ∷ vs
  put_first w [] h = refl
  put_first w (v ∷ vs) h = let t : int_le w.start v.start ≡ true = le_test w.start v.start h.0 in rw t

  put_past : (w : Window A) (us vs : List (Window A)) → AllByRecursion (λ u. u.start <ℤ w.start) us → put_by_start w (us ++ vs) ≡ us ++ put_by_start w vs
  put_past w [] vs h = refl
  put_past w (u ∷ us) vs h = let t : int_le w.start u.start ≡ false = gt_test w.start u.start h.0 in rw t (ap (λ l. u ∷ l) (put_past w us vs h.1))

  -- starts don't fall
  abbrev pub StartsDontFall : List (Window A) → Type 0
  StartsDontFall [] = Unit {0}
  StartsDontFall (w ∷ ws) = AllByRecursion (λ v. w.start ≤ℤ v.start) ws × StartsDontFall ws

  pub put_all_front : (p : ℤ) (ws vs : List (Window A)) → StartsDontFall ws → AllByRecursion (λ w. w.start ≤ℤ p) ws → AllByRecursion (λ v. p ≤ℤ v.start) vs → put_all_by_start ws vs ≡ ws ++ vs
  put_all_front p [] vs up low high = refl
  put_all_front p (w ∷ ws) vs up low high =
      let l : w.start ≤ℤ p = low.0 in
      ap (put_by_start w) (put_all_front p ws vs up.1 low.1 high) ∙ put_first w (ws ++ vs) (each_append (λ v. w.start ≤ℤ v.start) ws vs up.0 (each_weaker (λ v. p ≤ℤ v.start) (λ v. w.start ≤ℤ v.start) (λ v h. omega (arith, ints)) vs high))

  pub put_alone : (ws : List (Window A)) → StartsDontFall ws → put_all_by_start ws [] ≡ ws ++ []
  put_alone [] up = refl
  put_alone (w ∷ ws) up = ap (put_by_start w) (put_alone ws up.1) ∙ put_first w (ws ++ []) (each_append (λ v. w.start ≤ℤ v.start) ws [] up.0 tt)

  pub put_all-append : (ws ks vs : List (Window A)) → put_all_by_start (ws ++ ks) vs ≡ put_all_by_start ws (put_all_by_start ks vs)
  put_all-append [] ks vs = refl
  put_all-append (w ∷ ws) ks vs = ap (put_by_start w) (put_all-append ws ks vs)

  pub put_all_past : (p : ℤ) (ks us vs : List (Window A)) → AllByRecursion (λ u. u.start <ℤ p) us → AllByRecursion (λ k. p ≤ℤ k.start) ks → put_all_by_start ks (us ++ vs) ≡ us ++ put_all_by_start ks vs
  put_all_past p [] us vs low high = refl
  put_all_past p (k ∷ ks) us vs low high =
      let l : p ≤ℤ k.start = high.0 in
      ap (put_by_start k) (put_all_past p ks us vs low high.1) ∙ put_past k us (put_all_by_start ks vs) (each_weaker (λ (u : Window A). u.start <ℤ p) (λ u. u.start <ℤ k.start) (λ u h. omega (arith, ints)) us low)

  -- ---- windows of different starts rise
  put_rises : (w : Window A) (vs : List (Window A)) → StartsRise vs → AllByRecursion (λ v. w.start ≢ v.start) vs → StartsRise (put_by_start w vs)
  put_rises w [] up apart = (tt, tt)
  put_rises w (v ∷ vs) up apart = go (put_rises w vs up.1 apart.1) (int_le w.start v.start) refl
    where
      go : StartsRise (put_by_start w vs) → (t : Bool) → int_le w.start v.start ≡ t → StartsRise (put_by_start w (v ∷ vs))
      go rest true e =
          let l = test_le w.start v.start e in
          let n = apart.0 in
          let s : w.start <ℤ v.start = strictly w.start v.start l n in
          rw e ((s, each_weaker (λ (u : Window A). v.start <ℤ u.start) (λ u. w.start <ℤ u.start) (λ u h. omega (arith, ints)) vs up.0), up)
      go rest false e = rw e (put_window_each (λ (u : Window A). v.start <ℤ u.start) w vs (test_gt w.start v.start e) up.0, rest)

  pub put_all_rises : (ws vs : List (Window A)) → StartsRise ws → StartsRise vs → AllByRecursion (λ w. AllByRecursion (λ v. w.start ≢ v.start) vs) ws → StartsRise (put_all_by_start ws vs)
  put_all_rises [] vs up upper apart = upper
  put_all_rises (w ∷ ws) vs up upper apart = put_rises w (put_all_by_start ws vs) (put_all_rises ws vs up.1 upper apart.1) (put_windows_each (λ v. w.start ≢ v.start) ws vs (each_weaker (λ (v : Window A). w.start <ℤ v.start) (λ v. w.start ≢ v.start) (λ v h e. differ w.start v.start h e) ws up.0) apart.0)

  -- ---- membership
  in_put : (w : Window A) (vs : List (Window A)) → In w (put_by_start w vs)
  in_put w [] = inl refl
  in_put w (v ∷ vs) = elim (int_le w.start v.start) as (λ t. In w (cond t (w ∷ v ∷ vs) (v ∷ put_by_start w vs))) [ true ↦ inl refl | false ↦ inr (in_put w vs) ]

  in_put_other : (u w : Window A) (vs : List (Window A)) → In u vs → In u (put_by_start w vs)
  in_put_other u w [] i = absurd i
  in_put_other u w (v ∷ vs) i = elim (int_le w.start v.start) as (λ t. In u (cond t (w ∷ v ∷ vs) (v ∷ put_by_start w vs))) [ true ↦ inr i | false ↦ go i (λ k. in_put_other u w vs k) ]
    where
      go : In u (v ∷ vs) → (In u vs → In u (put_by_start w vs)) → In u (v ∷ put_by_start w vs)
      go (inl e) rest = inl e
      go (inr k) rest = inr (rest k)

  pub in_put_right : (u : Window A) (ws vs : List (Window A)) → In u vs → In u (put_all_by_start ws vs)
  in_put_right u [] vs i = i
  in_put_right u (w ∷ ws) vs i = in_put_other u w (put_all_by_start ws vs) (in_put_right u ws vs i)

  pub in_put_left : (u : Window A) (ws vs : List (Window A)) → In u ws → In u (put_all_by_start ws vs)
  in_put_left u [] vs i = absurd i
  in_put_left u (w ∷ ws) vs (inl e) = subst (λ x. In x (put_by_start w (put_all_by_start ws vs))) e (in_put w (put_all_by_start ws vs))
  in_put_left u (w ∷ ws) vs (inr i) = in_put_other u w (put_all_by_start ws vs) (in_put_left u ws vs i)
