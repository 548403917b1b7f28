-- What a test that passes says, and the tests of a digit.
use Rattle.std.proofs.Common.{◌≡◌, ℕ, ◌<◌, ◌≤◌, Bool, true, false, ◌&&◌, ◌==◌, nat_le, nat_lt, List, [], ◌∷◌, refl, arith}
use Rattle.std.specs.Char.{is_ascii_digit, digit_value}
use Rattle.std.specs.List.{list_all}
use Rattle.std.specs.Str.Parse.{AllDigits}
use Rattle.std.proofs.lemmas.Bool.Decides.{nat_tests}
use Rattle.std.proofs.lemmas.Str.Parse.{digit_from_value}

pub both : (a b : Bool) → (a && b) ≡ true → (a ≡ true) × (b ≡ true)
both true b e = (refl, e)
both false b e = cc

pub together : (a b : Bool) → a ≡ true → b ≡ true → (a && b) ≡ true
together a b x y = rw (x, y) refl

pub equal_bytes : (b c : ℕ) → (b == c) ≡ true → b ≡ c
equal_bytes b c h = grind (arith, nat_tests)

pub less : (a b : ℕ) → nat_lt a b ≡ true → a < b
less a b h = grind (arith, nat_tests)

pub lt_yes : (a b : ℕ) → a < b → nat_lt a b ≡ true
lt_yes a b h = grind (arith, nat_tests)

pub leb_yes : (a b : ℕ) → a ≤ b → nat_le a b ≡ true
leb_yes a b h = grind (arith, nat_tests)

pub leb_says : (a b : ℕ) → nat_le a b ≡ true → a ≤ b
leb_says a b h = grind (arith, nat_tests)

pub digit_below : (b : ℕ) → is_ascii_digit b ≡ true → digit_value b < 10
digit_below b h = grind (arith, nat_tests)

digit_test : (b : ℕ) → digit_value b < 10 → is_ascii_digit b ≡ true
digit_test b h = let r = digit_from_value b h in grind (arith, nat_tests)

pub digits_test : (ds : List ℕ) → AllDigits 10 ds → list_all is_ascii_digit ds ≡ true
digits_test [] h = refl
digits_test (d ∷ ds) h = together (is_ascii_digit d) (list_all is_ascii_digit ds) (digit_test d h.0) (digits_test ds h.1)
