-- The longest front of a text whose bytes pass a test, and what follows it.
use Rattle.std.proofs.Common.{◌≡◌, ℕ, ◌+◌, Bool, true, false, cond, ◌&&◌, List, [], ◌∷◌, ◌++◌, length, take, drop, refl, arith, add-one, add_comm}
use Rattle.std.proofs.Math.Seq.{take-append_seam, drop-append_seam}
use Rattle.std.specs.List.{prefix_len, list_all}
use Rattle.td_lex.specs.Tokens.{BeginsNot}

pub both : (a b : Bool) → (a && b) ≡ true → (a ≡ true) × (b ≡ true)
both true b e = (refl, e)
both false b e = cc

pub together : (a b : Bool) → a ≡ true → b ≡ true → (a && b) ≡ true
together a b x y = rw (x, y) refl

pub all_append : (p : ℕ → Bool) (xs ys : List ℕ) → list_all p xs ≡ true → list_all p ys ≡ true → list_all p (xs ++ ys) ≡ true
all_append p [] ys h k = k
all_append p (x ∷ xs) ys h k = let f = both (p x) (list_all p xs) h in together (p x) (list_all p (xs ++ ys)) f.0 (all_append p xs ys f.1 k)

module _ (p : ℕ → Bool) where
  -- one more byte at the front
  pub take_front : (b : ℕ) (bs : List ℕ) → p b ≡ true → take (prefix_len p (b ∷ bs)) (b ∷ bs) ≡ b ∷ take (prefix_len p bs) bs
  take_front b bs h = rw (h, add_comm 1 (prefix_len p bs), add-one) refl

  pub drop_front : (b : ℕ) (bs : List ℕ) → p b ≡ true → drop (prefix_len p (b ∷ bs)) (b ∷ bs) ≡ drop (prefix_len p bs) bs
  drop_front b bs h = rw (h, add_comm 1 (prefix_len p bs), add-one) refl

  pub front_all : (bs : List ℕ) → list_all p (take (prefix_len p bs) bs) ≡ true
  front_all [] = refl
  front_all (b ∷ bs) = elim (p b) as (λ t. p b ≡ t → list_all p (take (cond t (1 + prefix_len p bs) 0) (b ∷ bs)) ≡ true) [
    | true ↦ λ e. rw (add_comm 1 (prefix_len p bs), add-one) (together (p b) _ e (front_all bs))
    | false ↦ λ e. refl
  ] refl

  pub rest_not : (bs : List ℕ) → BeginsNot p (drop (prefix_len p bs) bs)
  rest_not [] = tt
  rest_not (b ∷ bs) = elim (p b) as (λ t. p b ≡ t → BeginsNot p (drop (cond t (1 + prefix_len p bs) 0) (b ∷ bs))) [
    | true ↦ λ e. rw (add_comm 1 (prefix_len p bs), add-one) (rest_not bs)
    | false ↦ λ e. e
  ] refl

  -- a front that ends where the test fails is the longest
  pub front_is : (xs after : List ℕ) → list_all p xs ≡ true → BeginsNot p after → prefix_len p (xs ++ after) ≡ length xs
  front_is [] [] h k = refl
  front_is [] (a ∷ after) h k = rw k refl
  front_is (x ∷ xs) after h k = let f = both (p x) (list_all p xs) h in rw (f.0, front_is xs after f.1 k) (omega arith)

  pub take_is : (xs after : List ℕ) → list_all p xs ≡ true → BeginsNot p after → take (prefix_len p (xs ++ after)) (xs ++ after) ≡ xs
  take_is xs after h k = rw (front_is xs after h k) (take-append_seam xs after)

  pub drop_is : (xs after : List ℕ) → list_all p xs ≡ true → BeginsNot p after → drop (prefix_len p (xs ++ after)) (xs ++ after) ≡ after
  drop_is xs after h k = rw (front_is xs after h k) (drop-append_seam xs after)
