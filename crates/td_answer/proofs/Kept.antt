-- Lists of which the same is kept.
use Rattle.std.proofs.Common.{◌≡◌, Bool, true, false, cond, List, [], ◌∷◌, map, filter, refl, sym, ap, ◌∙◌}
use Rattle.std.specs.List.{AllByRecursion}

map_test : {A B : Type 0} (f : A → B) (test : A → Bool) (x : A) (xs : List A) → map f (filter test (x ∷ xs)) ≡ cond (test x) (f x ∷ map f (filter test xs)) (map f (filter test xs))
map_test f test x xs = elim (test x) as (λ b. map f (cond b (x ∷ filter test xs) (filter test xs)) ≡ cond b (f x ∷ map f (filter test xs)) (map f (filter test xs))) [ true ↦ refl | false ↦ refl ]

-- What is kept of f of what an inner test lets through is what is kept of g of what an outer test lets through.
module _ {A B : Type 0} (f g : A → B) (keep : B → Bool) (inner outer : A → Bool) where
  pub record IsSame (x : A) : Type 0 where
    pub same : outer x ≡ true → inner x ≡ true → f x ≡ g x
    pub left_out : outer x ≡ true → inner x ≡ false → keep (g x) ≡ false
    pub outside : outer x ≡ false → inner x ≡ false

  kept_from : (x : A) (ys zs : List B) (o i : Bool) → outer x ≡ o → inner x ≡ i → IsSame x → filter keep ys ≡ filter keep zs → filter keep (cond i (f x ∷ ys) ys) ≡ filter keep (cond o (g x ∷ zs) zs)
  kept_from x ys zs true true p q s rest = ap (λ y. filter keep (y ∷ ys)) (s.same p q) ∙ ap (λ r. cond (keep (g x)) (g x ∷ r) r) rest
  kept_from x ys zs true false p q s rest = rest ∙ sym (ap (λ b. cond b (g x ∷ filter keep zs) (filter keep zs)) (s.left_out p q))
  kept_from x ys zs false true p q s rest = let no : inner x ≡ false = s.outside p in absurd (cc)
  kept_from x ys zs false false p q s rest = rest

  pub kept_same : (xs : List A) → AllByRecursion IsSame xs → filter keep (map f (filter inner xs)) ≡ filter keep (map g (filter outer xs))
  kept_same [] each = refl
  kept_same (x ∷ xs) each =
      ap (filter keep) (map_test f inner x xs)
      ∙ kept_from x (map f (filter inner xs)) (map g (filter outer xs)) (outer x) (inner x) refl refl each.0 (kept_same xs each.1)
      ∙ ap (filter keep) (sym (map_test g outer x xs))

-- what is kept of nothing that is kept
pub none_kept : {A B : Type 0} (g : A → B) (keep : B → Bool) → ((x : A) → keep (g x) ≡ false) → (xs : List A) → filter keep (map g xs) ≡ []
none_kept g keep none [] = refl
none_kept g keep none (x ∷ xs) = ap (λ b. cond b (g x ∷ filter keep (map g xs)) (filter keep (map g xs))) (none x) ∙ none_kept g keep none xs
