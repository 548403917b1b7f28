-- A printed number is read back.
use Rattle.std.proofs.Common.{◌≡◌, ℕ, ℤ, pos, negsuc, suc, ◌<◌, ◌^◌, false, ◌==◌, List, [], ◌∷◌, length, FitsSigned, refl, sym, ap, subst, ◌∙◌, arith}
use Rattle.std.specs.Int.{w128}
use Rattle.std.specs.Fmt.{decimal, signed_decimal}
use Rattle.std.specs.Str.Parse.{IsNumeral, digits_value, signed_digits_value, without_leading_sign}
use Rattle.std.proofs.lemmas.Bool.Decides.{nat_tests}
use Rattle.std.proofs.lemmas.Fmt.{decimal_is_IsNumeral_wide}
use Rattle.td_lex.specs.declared.kinds.Token.TheVariants.{Num}
use Rattle.td_lex.specs.Tokens.{IsToken, IsTokens}
use Rattle.td_lex.specs.Laws.{alone}
use Rattle.td_lex.proofs.Again.{digit_test}
use Rattle.td_lex.proofs.Places.{one_token}

-- digits have no sign
no_sign : (ds : List ℕ) → IsNumeral 10 ds → (without_leading_sign ds ≡ ds) × (signed_digits_value 10 ds ≡ pos (digits_value 10 ds))
no_sign [] h = absurd (omega (arith, h.0))
no_sign (d ∷ ds) h =
    let digit = digit_test d h.1.0 in
    let minus : (d == 45) ≡ false = grind (arith, nat_tests) in
    let plus : (d == 43) ≡ false = grind (arith, nat_tests) in
    (rw (minus, plus) refl, rw (minus, plus) refl)

plain : (ds : List ℕ) (n : ℕ) → IsNumeral 10 ds → digits_value 10 ds ≡ n → FitsSigned w128 (pos n) → IsToken ds (Num (pos n))
plain ds n h is fits = let f = no_sign ds h in (subst (λ t. IsNumeral 10 t) (sym f.0) h, ap (λ k. pos k) (sym is) ∙ sym f.1, fits)

minus : (ds : List ℕ) (n : ℕ) → IsNumeral 10 ds → digits_value 10 ds ≡ suc n → FitsSigned w128 (negsuc n) → IsToken (45 ∷ ds) (Num (negsuc n))
minus ds n h is fits = (h, rw is refl, fits)

wide_enough : (n : ℕ) → n < 2 ^ 127 → (n < 10 ^ 64) × (suc n < 10 ^ 64)
wide_enough n h = (omega arith, omega arith)

number_token : (n : ℤ) → FitsSigned w128 n → IsToken (signed_decimal n) (Num n)
number_token (pos n) fits = let small : n < 2 ^ 127 = fits.sfits in let d = decimal_is_IsNumeral_wide n (wide_enough n small).0 in plain (decimal n) n d.0 d.1 fits
number_token (negsuc n) fits = let small : n < 2 ^ 127 = fits.sfits in let d = decimal_is_IsNumeral_wide (suc n) (wide_enough n small).1 in minus (decimal (suc n)) n d.0 d.1 fits

pub printed_number : (n : ℤ) → FitsSigned w128 n → IsTokens (signed_decimal n) (alone (Num n) (length (signed_decimal n)))
printed_number n fits = one_token (signed_decimal n) (Num n) (number_token n fits)
