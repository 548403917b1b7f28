-- What holds of each item of a list, and what a filter leaves of it.
use Rattle.std.proofs.Common.{◌≡◌, ◌⊎◌, ℕ, zero, suc, ◌<◌, ◌≤◌, slice_index_or, Bool, true, false, ◌&&◌, cond, List, [], ◌∷◌, ◌++◌, map, filter, take, drop, length, refl, sym, ap, ◌∙◌, subst, arith, inl, inr, Contains}
use Rattle.std.proofs.lemmas.Bool.{false≢true, and_right}
use Rattle.std.specs.List.{AllByRecursion}
use Rattle.std.specs.List.Sorted.{IsNonDecreasingBy}

module _ {A : Type 0} where
  pub each_weaker : (P Q : A → Type 0) → ((x : A) → P x → Q x) → (xs : List A) → AllByRecursion P xs → AllByRecursion Q xs
  each_weaker P Q f [] h = tt
  each_weaker P Q f (x ∷ xs) h = (f x h.0, each_weaker P Q f xs h.1)

  pub each_append : (P : A → Type 0) (xs ys : List A) → AllByRecursion P xs → AllByRecursion P ys → AllByRecursion P (xs ++ ys)
  each_append P [] ys h k = k
  each_append P (x ∷ xs) ys h k = (h.0, each_append P xs ys h.1 k)

  pub filter_every : (p : A → Bool) (xs : List A) → AllByRecursion (λ x. p x ≡ true) xs → filter p xs ≡ xs
  filter_every p [] h = refl
  filter_every p (x ∷ xs) h = let t : p x ≡ true = h.0 in rw (t, filter_every p xs h.1)

  pub filter_none : (p : A → Bool) (xs : List A) → AllByRecursion (λ x. p x ≡ false) xs → filter p xs ≡ []
  filter_none p [] h = refl
  filter_none p (x ∷ xs) h = let t : p x ≡ false = h.0 in rw (t, filter_none p xs h.1)

  pub first_is_least : (n : A → ℕ) (x : A) (xs : List A) → IsNonDecreasingBy n (x ∷ xs) → AllByRecursion (λ y. n x ≤ n y) xs
  first_is_least n x [] h = tt
  first_is_least n x (y ∷ ys) h = (
    h 0 1 x (omega arith) (omega arith),
    first_is_least n x ys (λ i j d u v. skip i j d u v),
  )
    where
      skip : (i j : ℕ) (d : A) → i ≤ j → j < length (x ∷ ys) → n (slice_index_or (x ∷ ys) i d) ≤ n (slice_index_or (x ∷ ys) j d)
      skip zero zero d u v = omega arith
      skip zero (suc j) d u v = h 0 (suc (suc j)) d (omega arith) (omega arith)
      skip (suc i) zero d u v = absurd (omega arith)
      skip (suc i) (suc j) d u v = h (suc (suc i)) (suc (suc j)) d (omega arith) (omega arith)

  pub rest_in_order : (n : A → ℕ) (x : A) (xs : List A) → IsNonDecreasingBy n (x ∷ xs) → IsNonDecreasingBy n xs
  rest_in_order n x xs h = λ i j d u v. h (suc i) (suc j) d (omega arith) (omega arith)

  -- ---- filters
  pub filter_of_filter : (p q : A → Bool) → ((x : A) → p x ≡ true → q x ≡ true) → (xs : List A) → filter p (filter q xs) ≡ filter p xs
  filter_of_filter p q f [] = refl
  filter_of_filter p q f (x ∷ xs) = go (filter_of_filter p q f xs) (p x) refl (q x) refl
    where
      go : filter p (filter q xs) ≡ filter p xs → (t : Bool) → p x ≡ t → (u : Bool) → q x ≡ u → filter p (filter q (x ∷ xs)) ≡ filter p (x ∷ xs)
      go rest true e true d = rw (d, e, rest)
      go rest true e false d = absurd (false≢true (sym d ∙ f x e))
      go rest false e true d = rw (d, e, rest)
      go rest false e false d = rw (d, e, rest)

  -- what passes a test that only items of two like filters pass
  pub filter_alike : (p q : A → Bool) → ((x : A) → p x ≡ true → q x ≡ true) → (xs ys : List A) → filter q xs ≡ filter q ys → filter p xs ≡ filter p ys
  filter_alike p q f xs ys e = sym (filter_of_filter p q f xs) ∙ ap (filter p) e ∙ filter_of_filter p q f ys

  pub filter_swap : (p q : A → Bool) (xs : List A) → filter p (filter q xs) ≡ filter q (filter p xs)
  filter_swap p q [] = refl
  filter_swap p q (x ∷ xs) = go (filter_swap p q xs) (p x) refl (q x) refl
    where
      go : filter p (filter q xs) ≡ filter q (filter p xs) → (t : Bool) → p x ≡ t → (u : Bool) → q x ≡ u → filter p (filter q (x ∷ xs)) ≡ filter q (filter p (x ∷ xs))
      go rest true e true d = rw (d, e, d) (ap (λ l. x ∷ l) rest)
      go rest true e false d = rw (d, e, d) rest
      go rest false e true d = rw (d, e) rest
      go rest false e false d = rw (d, e) rest

  pub filter_twice : (p q : A → Bool) (xs : List A) → filter p (filter q xs) ≡ filter (λ x. q x && p x) xs
  filter_twice p q [] = refl
  filter_twice p q (x ∷ xs) = go (filter_twice p q xs) (q x) refl
    where
      go : filter p (filter q xs) ≡ filter (λ x. q x && p x) xs → (t : Bool) → q x ≡ t → filter p (filter q (x ∷ xs)) ≡ filter (λ x. q x && p x) (x ∷ xs)
      go rest true e = rw e (elim (p x) as (λ u. cond u (x ∷ filter p (filter q xs)) (filter p (filter q xs)) ≡ cond u (x ∷ filter (λ x. q x && p x) xs) (filter (λ x. q x && p x) xs)) [ true ↦ ap (λ l. x ∷ l) rest | false ↦ rest ])
      go rest false e = rw e rest

  pub filter_agrees : (p q : A → Bool) (xs : List A) → AllByRecursion (λ x. p x ≡ q x) xs → filter p xs ≡ filter q xs
  filter_agrees p q [] h = refl
  filter_agrees p q (x ∷ xs) h = let e = h.0 in rw (e, filter_agrees p q xs h.1)

  pub each_filter : (P : A → Type 0) (p : A → Bool) (xs : List A) → AllByRecursion P xs → AllByRecursion (λ x. P x × (p x ≡ true)) (filter p xs)
  each_filter P p [] h = tt
  each_filter P p (x ∷ xs) h = go (each_filter P p xs h.1) (p x) refl
    where
      go : AllByRecursion (λ x. P x × (p x ≡ true)) (filter p xs) → (t : Bool) → p x ≡ t → AllByRecursion (λ x. P x × (p x ≡ true)) (filter p (x ∷ xs))
      go rest true e = rw e ((h.0, e), rest)
      go rest false e = rw e rest

  pub each_both : (P Q : A → Type 0) (xs : List A) → AllByRecursion P xs → AllByRecursion Q xs → AllByRecursion (λ x. P x × Q x) xs
  each_both P Q [] h k = tt
  each_both P Q (x ∷ xs) h k = ((h.0, k.0), each_both P Q xs h.1 k.1)

  pub each_true : (P : A → Type 0) → ((x : A) → P x) → (xs : List A) → AllByRecursion P xs
  each_true P f [] = tt
  each_true P f (x ∷ xs) = (f x, each_true P f xs)

  -- ---- membership
  abbrev pub In : A → List A → Type 0
  In x [] = ⊥
  In x (y ∷ ys) = (y ≡ x) ⊎ In x ys

  pub at_in : (P : A → Type 0) (x : A) (xs : List A) → AllByRecursion P xs → In x xs → P x
  at_in P x [] h i = absurd i
  at_in P x (y ∷ ys) h (inl e) = subst P e h.0
  at_in P x (y ∷ ys) h (inr i) = at_in P x ys h.1 i

  pub in_filter : (p : A → Bool) (x : A) (xs : List A) → p x ≡ true → In x xs → In x (filter p xs)
  in_filter p x [] t i = i
  in_filter p x (y ∷ ys) t (inl e) = let u : p y ≡ true = ap p e ∙ t in rw u (inl e)
  in_filter p x (y ∷ ys) t (inr i) = elim (p y) as (λ u. In x (cond u (y ∷ filter p ys) (filter p ys))) [ true ↦ inr (in_filter p x ys t i) | false ↦ in_filter p x ys t i ]

  pub in_left : (x : A) (xs ys : List A) → In x xs → In x (xs ++ ys)
  in_left x [] ys i = absurd i
  in_left x (z ∷ xs) ys (inl e) = inl e
  in_left x (z ∷ xs) ys (inr i) = inr (in_left x xs ys i)

  pub in_right : (x : A) (xs ys : List A) → In x ys → In x (xs ++ ys)
  in_right x [] ys i = i
  in_right x (z ∷ xs) ys i = inr (in_right x xs ys i)

  pub each_in_itself : (xs : List A) → AllByRecursion (λ x. In x xs) xs
  each_in_itself [] = tt
  each_in_itself (x ∷ xs) = (inl refl, each_weaker (λ y. In y xs) (λ y. In y (x ∷ xs)) (λ y i. inr i) xs (each_in_itself xs))

  pub in_contains : (x : A) (xs : List A) → In x xs → Contains xs x
  in_contains x [] i = absurd i
  in_contains x (y ∷ ys) (inl e) = (0, omega arith, e)
  in_contains x (y ∷ ys) (inr i) = let c = in_contains x ys i in (suc c.0, omega (arith, c.1), c.2)

  pub contains_in : (x : A) (xs : List A) → Contains xs x → In x xs
  contains_in x [] (k, h, e) = absurd (omega (arith, h))
  contains_in x (y ∷ ys) (zero, h, e) = inl e
  contains_in x (y ∷ ys) (suc k, h, e) = inr (contains_in x ys (k, omega (arith, h), e))

pub each_map : {A B : Type 0} (f : A → B) (P : B → Type 0) (xs : List A) → AllByRecursion (λ x. P (f x)) xs → AllByRecursion P (map f xs)
each_map f P [] h = tt
each_map f P (x ∷ xs) h = (h.0, each_map f P xs h.1)

pub each_of_map : {A B : Type 0} (f : A → B) (P : B → Type 0) (xs : List A) → AllByRecursion P (map f xs) → AllByRecursion (λ x. P (f x)) xs
each_of_map f P [] h = tt
each_of_map f P (x ∷ xs) h = (h.0, each_of_map f P xs h.1)

module _ {A : Type 0} where
  -- what holds of what passes a test, and of what doesn't
  pub each_by_filter : (P : A → Type 0) (p : A → Bool) → ((x : A) → p x ≡ false → P x) → (xs : List A) → AllByRecursion P (filter p xs) → AllByRecursion P xs
  each_by_filter P p f [] h = tt
  each_by_filter P p f (x ∷ xs) h = go (λ k. each_by_filter P p f xs k) (p x) refl
    where
      go : (AllByRecursion P (filter p xs) → AllByRecursion P xs) → (t : Bool) → p x ≡ t → AllByRecursion P (x ∷ xs)
      go rest true e = let k = rw e at h in (k.0, rest k.1)
      go rest false e = let k = rw e at h in (f x e, rest k)

  pub each_passing : (P : A → Type 0) (p : A → Bool) (xs : List A) → AllByRecursion P xs → AllByRecursion P (filter p xs)
  each_passing P p xs h = each_weaker (λ x. P x × (p x ≡ true)) P (λ x k. k.0) (filter p xs) (each_filter P p xs h)

  pub each_test : (p : A → Bool) (xs : List A) → AllByRecursion (λ x. p x ≡ true) (filter p xs)
  each_test p xs = each_weaker (λ x. Unit {0} × (p x ≡ true)) (λ x. p x ≡ true) (λ x k. k.1) (filter p xs) (each_filter (λ x. Unit {0}) p xs (each_true (λ x. Unit {0}) (λ x. tt) xs))

  pub two_of_each : (P : A → Type 0) (l : List A) (x y : A) (m : List A) → AllByRecursion P (l ++ x ∷ y ∷ m) → P x × P y
  two_of_each P [] x y m h = (h.0, h.1.0)
  two_of_each P (z ∷ l) x y m h = two_of_each P l x y m h.1

module _ {A : Type 0} where
  pub filter_of_filter_on : (P : A → Type 0) (p q : A → Bool) → ((x : A) → P x → p x ≡ true → q x ≡ true) → (xs : List A) → AllByRecursion P xs → filter p (filter q xs) ≡ filter p xs
  filter_of_filter_on P p q f xs h = filter_twice p q xs ∙ filter_agrees (λ x. q x && p x) p xs (each_weaker P (λ x. (q x && p x) ≡ p x) both xs h)
    where
      both : (x : A) → P x → (q x && p x) ≡ p x
      both x k = go (p x) refl
        where
          go : (t : Bool) → p x ≡ t → (q x && p x) ≡ p x
          go true e = let d = f x k e in rw (e, d) refl
          go false e = rw e (and_right (q x) false refl)

  pub each_take : (P : A → Type 0) (n : ℕ) (xs : List A) → AllByRecursion P xs → AllByRecursion P (take n xs)
  each_take P zero xs h = tt
  each_take P (suc n) [] h = tt
  each_take P (suc n) (x ∷ xs) h = (h.0, each_take P n xs h.1)

  pub each_drop : (P : A → Type 0) (n : ℕ) (xs : List A) → AllByRecursion P xs → AllByRecursion P (drop n xs)
  each_drop P zero xs h = h
  each_drop P (suc n) [] h = tt
  each_drop P (suc n) (x ∷ xs) h = each_drop P n xs h.1

  pub each_middle : (P : A → Type 0) (l : List A) (x : A) (m : List A) → AllByRecursion P (l ++ x ∷ m) → P x
  each_middle P [] x m h = h.0
  each_middle P (y ∷ l) x m h = each_middle P l x m h.1

  pub each_front : (P : A → Type 0) (l m : List A) → AllByRecursion P (l ++ m) → AllByRecursion P l
  each_front P [] m h = tt
  each_front P (y ∷ l) m h = (h.0, each_front P l m h.1)

  pub each_back : (P : A → Type 0) (l m : List A) → AllByRecursion P (l ++ m) → AllByRecursion P m
  each_back P [] m h = h
  each_back P (y ∷ l) m h = each_back P l m h.1

  pub in_middle : (l : List A) (x : A) (m : List A) → In x (l ++ x ∷ m)
  in_middle l x m = in_right x l (x ∷ m) (inl refl)
