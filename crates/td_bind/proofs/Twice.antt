-- A name stands twice where one is among those before it.
use Rattle.std.proofs.Common.{◌≡◌, ℕ, ◌+◌, ◌<◌, Bool, true, false, not, ◌||◌, List, [], ◌∷◌, ◌++◌, take, drop, length, get_or, refl, ap, sym, ◌∙◌, Vec, true≢false}
use Rattle.std.specs.Str.{bytes_eq}
use Rattle.std.specs.List.{list_any}
use Rattle.std.proofs.lemmas.List.{take_more, take-append-drop}
use Rattle.std.specs.Cmp.Lexicographic.{nat_list_eq_equiv}
use Rattle.td_verdict.specs.Names.{stands_twice}
use Rattle.td_bind.specs.Seen.{texts}

pub among_texts : {A : Type 0} (q : List ℕ) (keys : List (Vec ℕ A)) → list_any (λ k. bytes_eq q k.items) keys ≡ list_any (bytes_eq q) (texts keys)
among_texts q [] = refl
among_texts q (k ∷ ks) = ap (λ b. bytes_eq q k.items || b) (among_texts q ks)

any_push : (q y : List ℕ) (xs : List (List ℕ)) → list_any (bytes_eq q) (xs ++ y ∷ []) ≡ (list_any (bytes_eq q) xs || bytes_eq q y)
any_push q y [] = by (bytes_eq q y)
  where
    by : (b : Bool) → (b || false) ≡ b
    by true = refl
    by false = refl
any_push q y (x ∷ xs) = ap (λ b. bytes_eq q x || b) (any_push q y xs) ∙ by (bytes_eq q x) (list_any (bytes_eq q) xs) (bytes_eq q y)
  where
    by : (a b c : Bool) → (a || (b || c)) ≡ ((a || b) || c)
    by true b c = refl
    by false b c = refl

crossed : (a b c d : Bool) → ((a || b) || (c || d)) ≡ ((a || c) || (b || d))
crossed true b c d = refl
crossed false true true d = refl
crossed false true false d = refl
crossed false false true d = refl
crossed false false false d = refl

pub twice_push : (xs : List (List ℕ)) (y : List ℕ) → stands_twice (xs ++ y ∷ []) ≡ (stands_twice xs || list_any (bytes_eq y) xs)
twice_push [] y = refl
twice_push (x ∷ xs) y =
    (λ i. any_push x y xs i || twice_push xs y i)
    ∙ crossed (list_any (bytes_eq x) xs) (bytes_eq x y) (stands_twice xs) (list_any (bytes_eq y) xs)
    ∙ ap (λ b. (list_any (bytes_eq x) xs || stands_twice xs) || (b || list_any (bytes_eq y) xs)) (nat_list_eq_equiv.symm x y)

or_keeps : (a b c : Bool) → (b ≡ true → c ≡ true) → (a || b) ≡ true → (a || c) ≡ true
or_keeps true b c f h = refl
or_keeps false b c f h = f h

either_keeps : (a b c d : Bool) → (a ≡ true → c ≡ true) → (b ≡ true → d ≡ true) → (a || b) ≡ true → (c || d) ≡ true
either_keeps true b c d f g h = ap (λ e. e || d) (f refl)
either_keeps false b true d f g h = refl
either_keeps false b false d f g h = g h

any_more : (q : List ℕ) (xs ys : List (List ℕ)) → list_any (bytes_eq q) xs ≡ true → list_any (bytes_eq q) (xs ++ ys) ≡ true
any_more q [] ys h = absurd (true≢false (sym h))
any_more q (x ∷ xs) ys h = or_keeps (bytes_eq q x) (list_any (bytes_eq q) xs) (list_any (bytes_eq q) (xs ++ ys)) (any_more q xs ys) h

pub twice_more : (xs ys : List (List ℕ)) → stands_twice xs ≡ true → stands_twice (xs ++ ys) ≡ true
twice_more [] ys h = absurd (true≢false (sym h))
twice_more (x ∷ xs) ys h = either_keeps (list_any (bytes_eq x) xs) (stands_twice xs) (list_any (bytes_eq x) (xs ++ ys)) (stands_twice (xs ++ ys)) (any_more x xs ys) (twice_more xs ys) h

or_true : (a b : Bool) → b ≡ true → (a || b) ≡ true
or_true true b h = refl
or_true false b h = h

not_true : (b : Bool) → not b ≡ false → b ≡ true
not_true true h = refl
not_true false h = absurd (true≢false h)

-- a name that is among those before it stands twice
pub found_twice : (names : List (List ℕ)) (i : ℕ) (x : List ℕ) (seen : List (List ℕ)) → i < length names → x ≡ get_or names i x → seen ≡ take i names → not (list_any (bytes_eq x) seen) ≡ false → stands_twice names ≡ true
found_twice names i x seen within at same h =
    let among : list_any (bytes_eq x) (take i names) ≡ true = ap (list_any (bytes_eq x)) (sym same) ∙ not_true (list_any (bytes_eq x) seen) h in
    let front : stands_twice (take i names ++ x ∷ []) ≡ true = twice_push (take i names) x ∙ or_true (stands_twice (take i names)) (list_any (bytes_eq x) (take i names)) among in
    let next : take (i + 1) names ≡ take i names ++ x ∷ [] = take_more names i x within ∙ ap (λ y. take i names ++ y ∷ []) (sym at) in
    let more : stands_twice (take (i + 1) names ++ drop (i + 1) names) ≡ true = twice_more (take (i + 1) names) (drop (i + 1) names) (ap stands_twice next ∙ front) in
    ap stands_twice (sym (take-append-drop (i + 1) names)) ∙ more

-- a name that isn't leaves none that does
pub none_more : (names : List (List ℕ)) (i : ℕ) (x : List ℕ) (seen after : List (List ℕ)) → i < length names → x ≡ get_or names i x → seen ≡ take i names → stands_twice (take i names) ≡ false → not (list_any (bytes_eq x) seen) ≡ true → after ≡ seen ++ x ∷ [] → (after ≡ take (i + 1) names) × (stands_twice (take (i + 1) names) ≡ false)
none_more names i x seen after within at same none new then =
    let next : take (i + 1) names ≡ take i names ++ x ∷ [] = take_more names i x within ∙ ap (λ y. take i names ++ y ∷ []) (sym at) in
    let among : list_any (bytes_eq x) (take i names) ≡ false = ap (list_any (bytes_eq x)) (sym same) ∙ not_false (list_any (bytes_eq x) seen) new in
    (then ∙ ap (λ r. r ++ x ∷ []) same ∙ sym next, ap stands_twice next ∙ twice_push (take i names) x ∙ (λ j. none j || among j))
  where
    not_false : (b : Bool) → not b ≡ true → b ≡ false
    not_false false h = refl
    not_false true h = absurd (true≢false (sym h))
