-- A list from a place on, as loops go over it.
use Rattle.std.proofs.Common.{◌≡◌, ℕ, ◌+◌, ◌<◌, List, ◌∷◌, drop, length, get_or, ap, ◌∙◌, add-one, sym, map, ◌++◌, []}
use Rattle.std.proofs.Math.Seq.{drop-cons}
use Rattle.std.proofs.lemmas.List.{append_assoc}

-- the element at a place, and those behind it
pub at_place : {X : Type 0} (xs : List X) (i : ℕ) (d : X) → i < length xs → drop i xs ≡ get_or xs i d ∷ drop (i + 1) xs
at_place xs i d h = drop-cons xs i d h ∙ ap (λ n. get_or xs i d ∷ drop n xs) (sym (add-one i))

-- one more image at the end, and one fewer to come
pub one_more : {X Y : Type 0} (f : X → Y) (xs : List X) (i : ℕ) (d : X) (ys : List Y) → i < length xs → ys ++ map f (drop i xs) ≡ (ys ++ f (get_or xs i d) ∷ []) ++ map f (drop (i + 1) xs)
one_more f xs i d ys h = ap (λ r. ys ++ map f r) (at_place xs i d h) ∙ sym (append_assoc ys (f (get_or xs i d) ∷ []) (map f (drop (i + 1) xs)))
