-- The arguments of the program, of which the first is its name.
use Rattle.std.proofs.Common.{◌≡◌, ◌<◌, ℕ, true, false, List, [], ◌∷◌, ◌++◌, drop, length, Option, Some, None, refl, sym, arith}
use Rattle.std.specs.Prelude.{◌↔◌, IsSome}
use Rattle.std.specs.Option.{option_to_list}

pub none_left : {X : Type 0} (xs : List X) (n : ℕ) → length xs ≡ n → n ≡ 0 → xs ≡ []
none_left [] n e none = refl
none_left (x ∷ xs) n e none = absurd (omega arith)

-- what is behind the first
pub behind : {X : Type 0} (r : Option X) (old new : List X) (n : ℕ) → old ≡ option_to_list r ++ new → (IsSome r ↔ (0 < n)) → length old ≡ n → new ≡ drop 1 old
behind (Some x) old new n e some count = rw e refl
behind None [] new n e some count = sym e
behind None (x ∷ old) new n e some count = absurd (no (some.1 (omega arith))) where
  no : false ≡ true → ⊥
  no e = cc
