-- Names that are apart stay apart as one more is put among them, or some are left out.
use Rattle.std.proofs.Common.{◌≡◌, ℕ, Bool, true, false, cond, List, [], ◌∷◌, ◌++◌, map, filter, refl, ap, ◌∙◌, append_assoc}
use Rattle.std.specs.List.{list_any}
use Rattle.std.specs.Str.{bytes_eq}
use Rattle.std.specs.Cmp.Lexicographic.{nat_list_eq_equiv}
use Rattle.std.proofs.lemmas.Bool.{or_from, or_parts}
use Rattle.td_verdict.specs.Names.{stands_twice}

-- no element passes where none of either list and not the one between them does
any_among : {X : Type 0} (p : X → Bool) (xs ys : List X) (x : X) → p x ≡ false → list_any p (xs ++ ys) ≡ false → list_any p (xs ++ x ∷ ys) ≡ false
any_among p [] ys x here none = or_from (p x) (list_any p ys) here none
any_among p (z ∷ xs) ys x here none =
    let parts = or_parts (p z) (list_any p (xs ++ ys)) none in
    or_from (p z) (list_any p (xs ++ x ∷ ys)) parts.0 (any_among p xs ys x here parts.1)

pub apart_among : (xs ys : List (List ℕ)) (name : List ℕ) → list_any (bytes_eq name) (xs ++ ys) ≡ false → stands_twice (xs ++ ys) ≡ false → stands_twice (xs ++ name ∷ ys) ≡ false
apart_among [] ys name none apart = or_from (list_any (bytes_eq name) ys) (stands_twice ys) none apart
apart_among (x ∷ xs) ys name none apart =
    let here = or_parts (bytes_eq name x) (list_any (bytes_eq name) (xs ++ ys)) none in
    let rest = or_parts (list_any (bytes_eq x) (xs ++ ys)) (stands_twice (xs ++ ys)) apart in
    or_from (list_any (bytes_eq x) (xs ++ name ∷ ys)) (stands_twice (xs ++ name ∷ ys))
    (any_among (bytes_eq x) xs ys name (nat_list_eq_equiv.symm x name ∙ here.0) rest.0)
    (apart_among xs ys name here.1 rest.1)

-- the same, where the name stands at the end of the first list
pub apart_behind : (xs ys : List (List ℕ)) (name : List ℕ) → list_any (bytes_eq name) (xs ++ ys) ≡ false → stands_twice (xs ++ ys) ≡ false → stands_twice ((xs ++ name ∷ []) ++ ys) ≡ false
apart_behind xs ys name none apart = ap stands_twice (append_assoc xs (name ∷ []) ys) ∙ apart_among xs ys name none apart

-- fewer elements pass no test that more don't pass
any_fewer : {X Y : Type 0} (q : Y → Bool) (ys : List Y) (f : X → Y) (p : X → Bool) (xs : List X) → list_any q (ys ++ map f xs) ≡ false → list_any q (ys ++ map f (filter p xs)) ≡ false
any_fewer q (y ∷ ys) f p xs none =
    let parts = or_parts (q y) (list_any q (ys ++ map f xs)) none in
    or_from (q y) (list_any q (ys ++ map f (filter p xs))) parts.0 (any_fewer q ys f p xs parts.1)
any_fewer q [] f p [] none = refl
any_fewer {X} {Y} q [] f p (x ∷ xs) none =
    let parts = or_parts (q (f x)) (list_any q (map f xs)) none in
    by (p x) parts.0 (any_fewer q [] f p xs parts.1)
  where
    by : (b : Bool) → q (f x) ≡ false → list_any q (map f (filter p xs)) ≡ false → list_any q (map f (cond b (x ∷ filter p xs) (filter p xs))) ≡ false
    by true here rest = or_from (q (f x)) (list_any q (map f (filter p xs))) here rest
    by false here rest = rest

pub apart_fewer : {X : Type 0} (names : List (List ℕ)) (f : X → List ℕ) (p : X → Bool) (xs : List X) → stands_twice (names ++ map f xs) ≡ false → stands_twice (names ++ map f (filter p xs)) ≡ false
apart_fewer (name ∷ names) f p xs apart =
    let parts = or_parts (list_any (bytes_eq name) (names ++ map f xs)) (stands_twice (names ++ map f xs)) apart in
    or_from (list_any (bytes_eq name) (names ++ map f (filter p xs))) (stands_twice (names ++ map f (filter p xs)))
    (any_fewer (bytes_eq name) names f p xs parts.0)
    (apart_fewer names f p xs parts.1)
apart_fewer [] f p [] apart = refl
apart_fewer {X} [] f p (x ∷ xs) apart =
    let parts = or_parts (list_any (bytes_eq (f x)) (map f xs)) (stands_twice (map f xs)) apart in
    by (p x) (any_fewer (bytes_eq (f x)) [] f p xs parts.0) (apart_fewer [] f p xs parts.1)
  where
    by : (b : Bool) → list_any (bytes_eq (f x)) (map f (filter p xs)) ≡ false → stands_twice (map f (filter p xs)) ≡ false → stands_twice (map f (cond b (x ∷ filter p xs) (filter p xs))) ≡ false
    by true here rest = or_from (list_any (bytes_eq (f x)) (map f (filter p xs))) (stands_twice (map f (filter p xs))) here rest
    by false here rest = rest

-- the names of a first list alone
pub apart_first : (xs ys : List (List ℕ)) → stands_twice (xs ++ ys) ≡ false → stands_twice xs ≡ false
apart_first [] ys apart = refl
apart_first (x ∷ xs) ys apart =
    let parts = or_parts (list_any (bytes_eq x) (xs ++ ys)) (stands_twice (xs ++ ys)) apart in
    or_from (list_any (bytes_eq x) xs) (stands_twice xs) (any_first (bytes_eq x) xs ys parts.0) (apart_first xs ys parts.1)
  where
    any_first : (p : List ℕ → Bool) (xs ys : List (List ℕ)) → list_any p (xs ++ ys) ≡ false → list_any p xs ≡ false
    any_first p [] ys none = refl
    any_first p (x ∷ xs) ys none =
        let parts = or_parts (p x) (list_any p (xs ++ ys)) none in
        or_from (p x) (list_any p xs) parts.0 (any_first p xs ys parts.1)
