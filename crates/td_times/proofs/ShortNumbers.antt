-- Numbers of at most four digits.
use Rattle.std.proofs.Common.{◌≡◌, ℕ, ◌≤◌, ◌<◌, ◌^◌, Bool, true, false, cond, nat_le, List, [], ◌∷◌, length, Option, Some, None, Result, Ok, Err, IfSome, refl, sym, ap, subst, ◌∙◌, arith, rules, lit<}
use Rattle.std.proofs.Math.Nat.{pow-le-pow_right}
use Rattle.std.specs.Char.{is_ascii_digit}
use Rattle.std.specs.List.{list_all}
use Rattle.std.specs.Result.{result_ok}
use Rattle.std.specs.Str.{IsUtf8}
use Rattle.std.specs.Str.Parse.{AllDigits, digits_value, ParsesUnsigned}
use Rattle.std.proofs.lemmas.Bool.Decides.{nat_tests}
use Rattle.std.proofs.lemmas.Fmt.{IsAscii-from_digits}
use Rattle.std.proofs.lemmas.Str.{IsUtf8-from_ascii}
use Rattle.std.proofs.lemmas.Str.Parse.{IsNumeralModel, numerals_by_value, parse_digits, digits_value_short}
use Rattle.td_times.specs.Stamps.{are_digits, number_of}
use Rattle.td_times.proofs.Tests.{both, digit_below}

own : IsNumeralModel (λ ds. list_all is_ascii_digit ds ≡ true) (digits_value 10)
own = numerals_by_value (λ ds. list_all is_ascii_digit ds ≡ true) (search rules)

pub all_are_digits : (ds : List ℕ) → list_all is_ascii_digit ds ≡ true → AllDigits 10 ds
all_are_digits [] h = tt
all_are_digits (d ∷ ds) h = let f = both (is_ascii_digit d) (list_all is_ascii_digit ds) h in (digit_below d f.0, all_are_digits ds f.1)

pub digits_are_utf8 : (ds : List ℕ) → list_all is_ascii_digit ds ≡ true → IsUtf8 ds
digits_are_utf8 ds h = IsUtf8-from_ascii ds (IsAscii-from_digits ds (all_are_digits ds h))

pub short_value : (ds : List ℕ) → list_all is_ascii_digit ds ≡ true → digits_value 10 ds < 10 ^ length ds
short_value ds h = digits_value_short own ds (length ds) h (omega arith)

no_number : (ds : List ℕ) → are_digits ds ≡ false → None ≡ number_of ds
no_number ds h = rw h refl

a_number : (ds : List ℕ) → are_digits ds ≡ true → Some (digits_value 10 ds) ≡ number_of ds
a_number ds h = rw h refl

pub too_long : (ds : List ℕ) → 4 < length ds → None ≡ number_of ds
too_long ds h = no_number ds (grind (arith, nat_tests))

pub not_digits : (ds : List ℕ) → list_all is_ascii_digit ds ≡ false → None ≡ number_of ds
not_digits ds h = no_number ds (grind (arith, nat_tests))

four : (ds : List ℕ) → length ds ≤ 4 → list_all is_ascii_digit ds ≡ true → digits_value 10 ds < 2 ^ 32
four ds few h = let l : 10 ^ length ds ≤ 10 ^ 4 = pow-le-pow_right (lit< tt) few in omega (arith, short_value ds h)

pub reads_number : {E : Type 0} (ds : List ℕ) (r : Result ℕ E) → length ds ≤ 4 → list_all is_ascii_digit ds ≡ true → ParsesUnsigned 32 10 ds r → result_ok r ≡ number_of ds
reads_number {E} ds (Ok n) few h k = let p = parse_digits own {E = E} 32 ds (Ok n) k h in ap (λ v. Some v) p.1 ∙ a_number ds (grind (arith, nat_tests, p.0.0))
reads_number {E} ds (Err e) few h k =
    let p = parse_digits own {E = E} 32 ds (Err e) k h in
    let none : ¬ (0 < length ds) = λ some. p (some, four ds few h) in
    no_number ds (grind (arith, nat_tests))

number_small_if : (t : Bool) (ds : List ℕ) → (t ≡ true → list_all is_ascii_digit ds ≡ true) → IfSome (cond t (Some (digits_value 10 ds)) None) (λ n. n < 10 ^ length ds)
number_small_if true ds h = short_value ds (h refl)
number_small_if false ds h = tt

pub number_small : (ds : List ℕ) → IfSome (number_of ds) (λ n. n < 10 ^ length ds)
number_small ds = number_small_if (are_digits ds) ds (λ e. (both _ (list_all is_ascii_digit ds) (both (nat_le 1 (length ds)) _ e).1).1)

pub small_too : (ds : List ℕ) (o : Option ℕ) → o ≡ number_of ds → IfSome o (λ n. n < 10 ^ length ds)
small_too ds o e = subst (λ r. IfSome r (λ n. n < 10 ^ length ds)) (sym e) (number_small ds)
