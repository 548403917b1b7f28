-- Digits at the front of a text, and what a sign and digits are.
use Rattle.std.proofs.Common.{◌≡◌, ℕ, ◌+◌, ◌≤◌, ◌<◌, true, false, cond, ◌==◌, List, [], ◌∷◌, length, take, drop, refl, sym, subst, arith, add-one, add_comm}
use Rattle.std.specs.Char.{is_ascii_digit, digit_value}
use Rattle.std.specs.List.{prefix_len}
use Rattle.std.specs.Str.{IsUtf8, is_utf8, IsAscii}
use Rattle.std.specs.Str.Parse.{IsNumeral, AllDigits, without_leading_sign}
use Rattle.std.proofs.lemmas.List.{length-take-le}
use Rattle.std.proofs.lemmas.List.Sums.{prefix_len-le-length}
use Rattle.std.proofs.lemmas.Bool.Decides.{nat_tests}
use Rattle.std.proofs.lemmas.Str.{IsUtf8-from_ascii, IsUtf8-from_is_utf8}
use Rattle.std.proofs.lemmas.Str.Ascii.{IsAscii-cons}
use Rattle.std.proofs.lemmas.Fmt.{IsAscii-from_digits}
use Rattle.td_lex.specs.Tokens.{Begins, is_sign}

pub digit_below : (b : ℕ) → is_ascii_digit b ≡ true → digit_value b < 10
digit_below b h = grind (arith, nat_tests)

pub numeral_is_utf8 : (ds : List ℕ) → IsNumeral 10 ds → IsUtf8 ds
numeral_is_utf8 ds h = IsUtf8-from_ascii ds (IsAscii-from_digits ds h.1)

number_is_ascii : (text : List ℕ) → IsNumeral 10 (without_leading_sign text) → IsAscii text
number_is_ascii [] h = absurd (omega (arith, h.0))
number_is_ascii (b ∷ bs) h = elim (b == 45) as (λ t. (b == 45) ≡ t → IsNumeral 10 (cond t bs (drop (cond (b == 43) 1 0) (b ∷ bs))) → IsAscii (b ∷ bs)) [
  | true ↦ λ e h. IsAscii-cons b bs (grind (arith, nat_tests)) (IsAscii-from_digits bs h.1)
  | false ↦ λ e h. elim (b == 43) as (λ t. (b == 43) ≡ t → IsNumeral 10 (drop (cond t 1 0) (b ∷ bs)) → IsAscii (b ∷ bs)) [
    | true ↦ λ e h. IsAscii-cons b bs (grind (arith, nat_tests)) (IsAscii-from_digits bs h.1)
    | false ↦ λ e h. IsAscii-from_digits (b ∷ bs) h.1
  ] refl h
] refl h

pub number_is_utf8 : (text : List ℕ) → IsNumeral 10 (without_leading_sign text) → IsUtf8 text
number_is_utf8 text h = IsUtf8-from_ascii text (number_is_ascii text h)

-- the digits at the front are digits
pub front_digits : (xs : List ℕ) → AllDigits 10 (take (prefix_len is_ascii_digit xs) xs)
front_digits [] = tt
front_digits (x ∷ xs) = elim (is_ascii_digit x) as (λ t. is_ascii_digit x ≡ t → AllDigits 10 (take (cond t (1 + prefix_len is_ascii_digit xs) 0) (x ∷ xs))) [
  | true ↦ λ e. rw (add_comm 1 (prefix_len is_ascii_digit xs), add-one) (digit_below x e, front_digits xs)
  | false ↦ λ e. tt
] refl

-- a text that begins with a digit, a sign or digits after a sign
pub plain_sign : (b : ℕ) (bs : List ℕ) → is_ascii_digit b ≡ true → without_leading_sign (b ∷ bs) ≡ b ∷ bs
plain_sign b bs h =
    let minus : (b == 45) ≡ false = grind (arith, nat_tests) in
    let plus : (b == 43) ≡ false = grind (arith, nat_tests) in
    rw (minus, plus) refl

pub after_sign : (b : ℕ) (bs : List ℕ) → is_sign b ≡ true → without_leading_sign (b ∷ bs) ≡ bs
after_sign b bs h = elim (b == 45) as (λ t. (b == 45) ≡ t → cond t bs (drop (cond (b == 43) 1 0) (b ∷ bs)) ≡ bs) [
  | true ↦ λ e. refl
  | false ↦ λ e. let plus : (b == 43) ≡ true = grind (arith, nat_tests) in rw plus refl
] refl

-- with a first digit the front is a numeral
pub front_numeral : (text : List ℕ) → Begins is_ascii_digit text → IsNumeral 10 (take (prefix_len is_ascii_digit text) text)
front_numeral [] h = absurd h
front_numeral (b ∷ bs) h = (rw (h, add_comm 1 (prefix_len is_ascii_digit bs), add-one) (omega arith), front_digits (b ∷ bs))

pub front_number : (text : List ℕ) → Begins is_ascii_digit text → IsNumeral 10 (without_leading_sign (take (prefix_len is_ascii_digit text) text))
front_number [] h = absurd h
front_number (b ∷ bs) h =
    let one : take (prefix_len is_ascii_digit (b ∷ bs)) (b ∷ bs) ≡ b ∷ take (prefix_len is_ascii_digit bs) bs = rw (h, add_comm 1 (prefix_len is_ascii_digit bs), add-one) refl in
    let all = subst (λ ds. IsNumeral 10 ds) one (front_numeral (b ∷ bs) h) in
    subst (λ ds. IsNumeral 10 (without_leading_sign ds)) (sym one) (subst (λ ds. IsNumeral 10 ds) (sym (plain_sign b (take (prefix_len is_ascii_digit bs) bs) h)) all)

pub signed_number : (text : List ℕ) (n : ℕ) → Begins is_sign text → n ≡ prefix_len is_ascii_digit (drop 1 text) → 0 < n → IsNumeral 10 (without_leading_sign (take (1 + n) text))
signed_number [] n h e some = absurd h
signed_number (b ∷ bs) n h e some =
    let one : take (1 + n) (b ∷ bs) ≡ b ∷ take n bs = rw (add_comm 1 n, add-one) refl in
    let long : n ≤ length bs = rw e (prefix_len-le-length is_ascii_digit bs) in
    let digits : IsNumeral 10 (take n bs) = (rw (length-take-le n bs) some, subst (λ k. AllDigits 10 (take k bs)) (sym e) (front_digits bs)) in
    subst (λ ds. IsNumeral 10 (without_leading_sign ds)) (sym one) (subst (λ ds. IsNumeral 10 ds) (sym (after_sign b (take n bs) h)) digits)

pub not_utf8 : (bs : List ℕ) → ¬ (IsUtf8 bs) → is_utf8 bs ≡ false
not_utf8 bs h = elim (is_utf8 bs) as (λ t. is_utf8 bs ≡ t → t ≡ false) [ true ↦ λ e. absurd (h (IsUtf8-from_is_utf8 bs e)) | false ↦ λ e. refl ] refl
