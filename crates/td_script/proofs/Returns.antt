-- A line and its carriage return.
use Rattle.std.proofs.Common.{◌≡◌, ◌≢◌, ℕ, ◌-◌, true, false, cond, ◌==◌, List, [], ◌∷◌, ◌++◌, length, take, drop, refl, sym, ap, ◌∙◌, arith}
use Rattle.std.specs.Str.{bytes_eq}
use Rattle.std.proofs.lemmas.Slice.Eq.{bytes_eq-Decides}
use Rattle.std.proofs.lemmas.Bool.Decides.{nat_tests}
use Rattle.std.proofs.lemmas.List.{take-append-drop, length-append}
use Rattle.std.proofs.Math.Seq.{drop-append_seam}
use Rattle.td_script.specs.Script.{without_return}

-- a carriage return at the end is dropped
dropped : (front : List ℕ) → without_return (front ++ 13 ∷ []) ≡ front
dropped [] = refl
dropped (b ∷ []) = refl
dropped (b ∷ c ∷ front) = ap (λ xs. b ∷ xs) (dropped (c ∷ front))

-- a line that has none stays as it is
kept : (line : List ℕ) → ((front : List ℕ) → line ≢ front ++ 13 ∷ []) → without_return line ≡ line
kept [] none = refl
kept (b ∷ []) none = elim (b == 13) as (λ t. (b == 13) ≡ t → cond t [] (b ∷ []) ≡ b ∷ []) [
  | true ↦ λ same. absurd (none [] (ap (λ x. x ∷ []) (grind (arith, nat_tests))))
  | false ↦ λ other. refl
] refl
kept (b ∷ c ∷ bs) none = ap (λ xs. b ∷ xs) (kept (c ∷ bs) (λ front is. none (b ∷ front) (ap (λ xs. b ∷ xs) is)))

pub with_return : (line : List ℕ) → bytes_eq (drop (length line - 1) line) (13 ∷ []) ≡ true → take (length line - 1) line ≡ without_return line
with_return line e =
    let tail : drop (length line - 1) line ≡ 13 ∷ [] = (bytes_eq-Decides (drop (length line - 1) line) (13 ∷ [])).0 e in
    let whole : line ≡ take (length line - 1) line ++ 13 ∷ [] = sym (take-append-drop (length line - 1) line) ∙ ap (λ xs. take (length line - 1) line ++ xs) tail in
    sym (dropped (take (length line - 1) line)) ∙ sym (ap without_return whole)

ends_so : (line front : List ℕ) → line ≡ front ++ 13 ∷ [] → drop (length line - 1) line ≡ 13 ∷ []
ends_so line front is =
    let at : length line - 1 ≡ length front = omega (arith, ap length is, length-append front (13 ∷ [])) in
    rw at (rw is (drop-append_seam front (13 ∷ [])))

pub with_none : (line : List ℕ) → bytes_eq (drop (length line - 1) line) (13 ∷ []) ≡ false → line ≡ without_return line
with_none line e = sym (kept line (λ front is.
    let same : bytes_eq (drop (length line - 1) line) (13 ∷ []) ≡ true = (bytes_eq-Decides (drop (length line - 1) line) (13 ∷ [])).1 (ends_so line front is) in
    cc))
