-- Sets of kinds.
use Rattle.std.proofs.Common.{◌≡◌, ℕ, Bool, true, false, ◌&&◌, ◌||◌, nat_le, nat_lt, List, [], ◌∷◌, ◌++◌, refl, sym, ap, ◌∙◌, arith, ◌⊎◌, inl, inr}
use Rattle.std.proofs.lemmas.Bool.{and_parts}
use Rattle.std.proofs.lemmas.Bool.Decides.{nat_tests}
use Rattle.td_grammar.specs.declared.lexemes.Lexeme.{Lexeme}
use Rattle.td_grammar.specs.Grammar.{Kinds, has, clear, apart, starts}

or_assoc : (a b c : Bool) → (a || b || c) ≡ (a || (b || c))
or_assoc true b c = refl
or_assoc false b c = refl

pub or_none : (a b : Bool) → (a || b) ≡ false → (a ≡ false) × (b ≡ false)
or_none true b h = cc
or_none false b h = (refl, h)

pub or_some : (a b : Bool) → (a || b) ≡ true → (a ≡ true) ⊎ (b ≡ true)
or_some true b h = inl refl
or_some false b h = inr h

pub or_first : (a b : Bool) → a ≡ true → (a || b) ≡ true
or_first true b h = refl
or_first false b h = cc

pub or_second : (a b : Bool) → b ≡ true → (a || b) ≡ true
or_second true b h = refl
or_second false b h = h

pub has_append : (k : ℕ) (s u : Kinds) → has k (s ++ u) ≡ (has k s || has k u)
has_append k [] u = refl
has_append k (i ∷ s) u = ap (λ b. (nat_le i.0 k && nat_le k i.1) || b) (has_append k s u) ∙ sym (or_assoc (nat_le i.0 k && nat_le k i.1) (has k s) (has k u))

pub starts_append : (s u : Kinds) (ts : List Lexeme) → starts (s ++ u) ts ≡ (starts s ts || starts u ts)
starts_append s u [] = refl
starts_append s u (t ∷ ts) = has_append t.kind s u

pub starts_none : (s u : Kinds) (ts : List Lexeme) → starts (s ++ u) ts ≡ false → (starts s ts ≡ false) × (starts u ts ≡ false)
starts_none s u ts h = or_none (starts s ts) (starts u ts) (sym (starts_append s u ts) ∙ h)

away : (i j : ℕ × ℕ) (k : ℕ) → (nat_lt i.1 j.0 || nat_lt j.1 i.0) ≡ true → (nat_le j.0 k && nat_le k j.1) ≡ true → (nat_le i.0 k && nat_le k i.1) ≡ false
away i j k h m = grind (arith, nat_tests)

clear_of : (i : ℕ × ℕ) (u : Kinds) (k : ℕ) → clear i u ≡ true → has k u ≡ true → (nat_le i.0 k && nat_le k i.1) ≡ false
clear_of i [] k h m = cc
clear_of i (j ∷ u) k h m =
    let c = and_parts (nat_lt i.1 j.0 || nat_lt j.1 i.0) (clear i u) h in
    elim (or_some (nat_le j.0 k && nat_le k j.1) (has k u) m) [ inl here ↦ away i j k c.0 here | inr later ↦ clear_of i u k c.1 later ]

pub apart_from : (s u : Kinds) (k : ℕ) → apart s u ≡ true → has k u ≡ true → has k s ≡ false
apart_from [] u k h m = refl
apart_from (i ∷ s) u k h m =
    let c = and_parts (clear i u) (apart s u) h in
    ap (λ b. b || has k s) (clear_of i u k c.0 m) ∙ apart_from s u k c.1 m
