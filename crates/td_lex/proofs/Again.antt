-- What stands at the front of a text is read there.
use Rattle.std.proofs.Common.{◌≡◌, ◌≢◌, ℕ, ◌+◌, ◌<◌, ◌≤◌, ◌^◌, Bool, true, false, cond, ◌&&◌, ◌||◌, ◌==◌, not, nat_lt, inl, inr, List, [], ◌∷◌, ◌++◌, length, take, drop, map, Some, Ok, Err, FitsSigned, refl, sym, ap, subst, ◌∙◌, arith, add-one, add_comm, append_assoc, get_or}
use lib.Signed.{mag}
use Rattle.std.specs.Int.{w128}
use Rattle.std.specs.Char.{is_ascii_digit, to_ascii_lowercase, digit_value}
use Rattle.std.specs.List.{list_all}
use Rattle.std.specs.Str.{IsUtf8}
use Rattle.std.specs.Str.Parse.{IsNumeral, AllDigits, digits_value, signed_digits_value, without_leading_sign}
use Rattle.std.proofs.lemmas.Bool.Decides.{nat_tests}
use Rattle.std.proofs.Math.Seq.{take-append_seam, drop-append_seam}
use Rattle.std.proofs.lemmas.Str.{is_utf8-from_IsUtf8}
use Rattle.std.proofs.lemmas.Str.Parse.{digit_from_value}
use Rattle.td_lex.specs.declared.kinds.Token.{Token}
use Rattle.td_lex.specs.declared.kinds.Token.TheVariants.{Word, Num, Dur, Str, Sym, Le, Ge, Ne}
use Rattle.td_lex.specs.declared.kinds.Stop.TheVariants.{NoForm, Wide}
use Rattle.td_lex.specs.Tokens.{is_blank, is_word_start, is_word_byte, is_sign, is_quote, is_text_byte, is_unit, is_symbol, goes_on, BeginsNot, IsWord, IsNumber, IsDuration, doubled, quoted, IsToken, IsWide, Ends, Stands, StandsWide}
use Rattle.td_lex.specs.Lexing.{ends, word_of, whole_of, count_of, ◌>>=◌, duration_of, unsigned_of, signed_of, and_byte, content_of, text_of, symbol_of, token_of}
use Rattle.td_lex.proofs.Fronts.{both, together, front_is, take_is, drop_is}
use Rattle.td_lex.proofs.Numerals.{after_sign}
use Rattle.td_lex.proofs.Tells.{equal_bytes, same_byte}

pub lt_yes : (a b : ℕ) → a < b → nat_lt a b ≡ true
lt_yes a b h = grind (arith, nat_tests)

lt_no : (a b : ℕ) → ¬ (a < b) → nat_lt a b ≡ false
lt_no a b h = grind (arith, nat_tests)

-- which of the forms a first byte begins
pub word_branch : (b : ℕ) (bs : List ℕ) → is_word_start b ≡ true → token_of (b ∷ bs) ≡ word_of (b ∷ bs)
unfolding token_of
word_branch b bs h = rw h refl

pub digit_branch : (b : ℕ) (bs : List ℕ) → is_ascii_digit b ≡ true → token_of (b ∷ bs) ≡ unsigned_of (b ∷ bs)
unfolding token_of
digit_branch b bs h =
    let word : is_word_start b ≡ false = grind (arith, nat_tests) in
    rw (word, h) refl

pub sign_branch : (b : ℕ) (bs : List ℕ) → is_sign b ≡ true → token_of (b ∷ bs) ≡ signed_of (b ∷ bs)
unfolding token_of
sign_branch b bs h =
    let word : is_word_start b ≡ false = grind (arith, nat_tests) in
    let digit : is_ascii_digit b ≡ false = grind (arith, nat_tests) in
    rw (word, digit, h) refl

pub quote_branch : (b : ℕ) (bs : List ℕ) → is_quote b ≡ true → token_of (b ∷ bs) ≡ text_of (content_of b bs)
unfolding token_of
quote_branch b bs h =
    let word : is_word_start b ≡ false = grind (arith, nat_tests) in
    let digit : is_ascii_digit b ≡ false = grind (arith, nat_tests) in
    let sign : is_sign b ≡ false = grind (arith, nat_tests) in
    rw (word, digit, sign, h) refl

-- neither a letter, `_`, digit, sign nor quote
abbrev pub other : ℕ → Bool
other b = not (is_word_start b) && (not (is_ascii_digit b) && (not (is_sign b) && not (is_quote b)))

pub other_branch : (b : ℕ) (bs : List ℕ) → other b ≡ true → token_of (b ∷ bs) ≡ symbol_of (b ∷ bs)
unfolding token_of
other_branch b bs h =
    let word : is_word_start b ≡ false = grind (arith, nat_tests) in
    let digit : is_ascii_digit b ≡ false = grind (arith, nat_tests) in
    let sign : is_sign b ≡ false = grind (arith, nat_tests) in
    let quote : is_quote b ≡ false = grind (arith, nat_tests) in
    rw (word, digit, sign, quote) refl

ends_yes : (after : List ℕ) → BeginsNot is_word_byte after → ends after ≡ true
ends_yes [] h = refl
ends_yes (b ∷ bs) h = rw h refl

digit_is_byte : (b : ℕ) → is_word_byte b ≡ false → is_ascii_digit b ≡ false
digit_is_byte b h = grind (arith, nat_tests)

no_digit : (after : List ℕ) → BeginsNot is_word_byte after → BeginsNot is_ascii_digit after
no_digit [] h = tt
no_digit (b ∷ bs) h = digit_is_byte b h

-- a word
word_again : (word after : List ℕ) → IsWord word → BeginsNot is_word_byte after → token_of (word ++ after) ≡ Ok (Word (map to_ascii_lowercase word), after)
unfolding word_of
word_again [] after h k = absurd h.0
word_again (b ∷ bs) after h k = word_branch b (bs ++ after) h.0 ∙ rw (take_is is_word_byte (b ∷ bs) after h.1 k, drop_is is_word_byte (b ∷ bs) after h.1 k) refl

-- numbers and durations
pub digit_test : (b : ℕ) → digit_value b < 10 → is_ascii_digit b ≡ true
digit_test b h = let r = digit_from_value b h in grind (arith, nat_tests)

pub digits_test : (ds : List ℕ) → AllDigits 10 ds → list_all is_ascii_digit ds ≡ true
digits_test [] h = refl
digits_test (d ∷ ds) h = together (is_ascii_digit d) (list_all is_ascii_digit ds) (digit_test d h.0) (digits_test ds h.1)

unsigned_again : (ds after : List ℕ) → IsNumeral 10 ds → BeginsNot is_word_byte after → token_of (ds ++ after) ≡ whole_of ds after
unfolding unsigned_of
unsigned_again [] after h k = absurd (omega (arith, h.0))
unsigned_again (d ∷ ds) after h k =
    let all = digits_test (d ∷ ds) h.1 in
    let is = take_is is_ascii_digit (d ∷ ds) after all (no_digit after k) in
    let rest = drop_is is_ascii_digit (d ∷ ds) after all (no_digit after k) in
    digit_branch d (ds ++ after) (digit_test d h.1.0) ∙ rw (is, rest, ends_yes after k) refl

signed_again : (b : ℕ) (ds after : List ℕ) → is_sign b ≡ true → IsNumeral 10 ds → BeginsNot is_word_byte after → token_of (b ∷ (ds ++ after)) ≡ whole_of (b ∷ ds) after
unfolding signed_of
signed_again b ds after s h k =
    let n = front_is is_ascii_digit ds after (digits_test ds h.1) (no_digit after k) in
    let is : take (1 + length ds) (b ∷ (ds ++ after)) ≡ b ∷ ds = rw (add_comm 1 (length ds), add-one, take-append_seam ds after) refl in
    let rest : drop (1 + length ds) (b ∷ (ds ++ after)) ≡ after = rw (add_comm 1 (length ds), add-one, drop-append_seam ds after) refl in
    let some : nat_lt 0 (length ds) ≡ true = grind (arith, nat_tests, h.0) in
    sign_branch b (ds ++ after) s ∙ rw (n, is, rest, some, ends_yes after k) refl

number_again : (word after : List ℕ) → IsNumber word → BeginsNot is_word_byte after → token_of (word ++ after) ≡ whole_of word after
number_again [] after h k = absurd (omega (arith, h.0))
number_again (b ∷ bs) after h k = elim (is_sign b) as (λ t. is_sign b ≡ t → token_of (b ∷ (bs ++ after)) ≡ whole_of (b ∷ bs) after) [
  | true ↦ λ e. signed_again b bs after e (subst (λ ds. IsNumeral 10 ds) (after_sign b bs e) h) k
  | false ↦ λ e.
      let minus : (b == 45) ≡ false = grind (arith, nat_tests) in
      let plus : (b == 43) ≡ false = grind (arith, nat_tests) in
      let plain : without_leading_sign (b ∷ bs) ≡ b ∷ bs = rw (minus, plus) refl in
      unsigned_again (b ∷ bs) after (subst (λ ds. IsNumeral 10 ds) plain h) k
] refl

unit_is_no_digit : (u : ℕ) → is_unit u ≡ true → is_ascii_digit u ≡ false
unit_is_no_digit u h = grind (arith, nat_tests)

unit_is_byte : (u : ℕ) → is_unit u ≡ true → is_word_byte u ≡ true
unit_is_byte u h = grind (arith, nat_tests)

duration_at : (ds : List ℕ) (u : ℕ) (after : List ℕ) → IsNumeral 10 ds → is_unit u ≡ true → BeginsNot is_word_byte after → token_of (ds ++ u ∷ after) ≡ (count_of ds >>= (λ count. Ok (Dur count (to_ascii_lowercase u), after)))
unfolding unsigned_of duration_of
duration_at [] u after h i k = absurd (omega (arith, h.0))
duration_at (d ∷ ds) u after h i k =
    let all = digits_test (d ∷ ds) h.1 in
    let is = take_is is_ascii_digit (d ∷ ds) (u ∷ after) all (unit_is_no_digit u i) in
    let rest = drop_is is_ascii_digit (d ∷ ds) (u ∷ after) all (unit_is_no_digit u i) in
    digit_branch d (ds ++ u ∷ after) (digit_test d h.1.0) ∙ rw (is, rest, unit_is_byte u i, i, ends_yes after k) refl

duration_again : (word digits : List ℕ) (u : ℕ) (after : List ℕ) → IsDuration word digits u → BeginsNot is_word_byte after → token_of (word ++ after) ≡ (count_of digits >>= (λ count. Ok (Dur count (to_ascii_lowercase u), after)))
duration_again word digits u after h k = ap (λ t. token_of (t ++ after)) h.0 ∙ ap token_of (append_assoc digits (u ∷ []) after) ∙ duration_at digits u after h.1 h.2 k

-- a text in quotes
longer : (xs : List ℕ) (y : ℕ) (ys : List ℕ) → xs ++ y ∷ ys ≢ []
longer [] y ys e = cc
longer (x ∷ xs) y ys e = cc

plain_byte : (q b : ℕ) (rest : List ℕ) → rest ≢ [] → (b == q) ≡ false → is_text_byte b ≡ true → content_of q (b ∷ rest) ≡ and_byte b (content_of q rest)
unfolding content_of
plain_byte q b [] some h k = absurd (some refl)
plain_byte q b (c ∷ bs) some h k = rw (h, k) refl

closing : (q : ℕ) (after : List ℕ) → BeginsNot (λ b. b == q) after → content_of q (q ∷ after) ≡ Some ([], after)
unfolding content_of
closing q [] k = rw (same_byte q) refl
closing q (c ∷ cs) k = rw (same_byte q, k) refl

twice : (q : ℕ) (rest : List ℕ) → content_of q (q ∷ q ∷ rest) ≡ and_byte q (content_of q rest)
unfolding content_of
twice q rest = rw (same_byte q) refl

content_again : (q : ℕ) (s after : List ℕ) → list_all is_text_byte s ≡ true → BeginsNot (λ b. b == q) after → content_of q (doubled q s ++ q ∷ after) ≡ Some (s, after)
content_again q [] after h k = closing q after k
content_again q (b ∷ s) after h k =
    let f = both (is_text_byte b) (list_all is_text_byte s) h in
    let more = content_again q s after f.1 k in
    elim (b == q) as (λ t. (b == q) ≡ t → content_of q (cond t (q ∷ q ∷ doubled q s) (b ∷ doubled q s) ++ q ∷ after) ≡ Some (b ∷ s, after)) [
      | true ↦ λ e. twice q (doubled q s ++ q ∷ after) ∙ ap (and_byte q) more ∙ ap (λ x. Some (x ∷ s, after)) (sym (equal_bytes b q e))
      | false ↦ λ e. plain_byte q b (doubled q s ++ q ∷ after) (longer (doubled q s) q after) e f.0 ∙ ap (and_byte b) more
    ] refl

text_again : (q : ℕ) (s after : List ℕ) → is_quote q ≡ true → list_all is_text_byte s ≡ true → IsUtf8 s → BeginsNot (λ b. b == q) after → token_of (quoted q s ++ after) ≡ Ok (Str s, after)
text_again q s after h i u k =
    quote_branch q ((doubled q s ++ q ∷ []) ++ after) h
    ∙ ap (λ t. text_of (content_of q t)) (append_assoc (doubled q s) (q ∷ []) after)
    ∙ ap text_of (content_again q s after i k)
    ∙ rw (is_utf8-from_IsUtf8 s u) refl

-- symbols and operators
symbol_is_other : (b : ℕ) → is_symbol b ≡ true → other b ≡ true
symbol_is_other b h = grind (arith, nat_tests)

no_le : (b c : ℕ) → goes_on b c ≡ false → ((b == 60) && (c == 61)) ≡ false
no_le b c h = grind (arith, nat_tests)

no_ge : (b c : ℕ) → goes_on b c ≡ false → ((b == 62) && (c == 61)) ≡ false
no_ge b c h = grind (arith, nat_tests)

no_ne : (b c : ℕ) → is_symbol b ≡ true → goes_on b c ≡ false → (((b == 60) && (c == 62)) || ((b == 33) && (c == 61))) ≡ false
no_ne b c h k = grind (arith, nat_tests)

symbol_again : (b : ℕ) (after : List ℕ) → is_symbol b ≡ true → BeginsNot (goes_on b) after → token_of (b ∷ after) ≡ Ok (Sym b, after)
unfolding symbol_of
symbol_again b [] h k = other_branch b [] (symbol_is_other b h) ∙ rw h refl
symbol_again b (c ∷ cs) h k = other_branch b (c ∷ cs) (symbol_is_other b h) ∙ rw (no_le b c k, no_ge b c k, no_ne b c h k, h) refl

le_again : (after : List ℕ) → token_of (60 ∷ 61 ∷ after) ≡ Ok (Le, after)
unfolding token_of symbol_of
le_again after = refl

ge_again : (after : List ℕ) → token_of (62 ∷ 61 ∷ after) ≡ Ok (Ge, after)
unfolding token_of symbol_of
ge_again after = refl

ne_again : (after : List ℕ) → token_of (60 ∷ 62 ∷ after) ≡ Ok (Ne, after)
unfolding token_of symbol_of
ne_again after = refl

not_equal_again : (after : List ℕ) → token_of (33 ∷ 61 ∷ after) ≡ Ok (Ne, after)
unfolding token_of symbol_of
not_equal_again after = refl

in_range : (front after : List ℕ) → FitsSigned w128 (signed_digits_value 10 front) → whole_of front after ≡ Ok (Num (signed_digits_value 10 front), after)
unfolding whole_of
in_range front after h = rw (lt_yes (mag (signed_digits_value 10 front)) (2 ^ 127) h.sfits) refl

out_of_range : (front after : List ℕ) → ¬ (FitsSigned w128 (signed_digits_value 10 front)) → whole_of front after ≡ Err Wide
unfolding whole_of
out_of_range front after h = rw (lt_no (mag (signed_digits_value 10 front)) (2 ^ 127) (λ l. h (record { sfits = l }))) refl

count_fits : (digits : List ℕ) → digits_value 10 digits < 2 ^ 63 → count_of digits ≡ Ok (digits_value 10 digits)
count_fits digits h = rw (lt_yes (digits_value 10 digits) (2 ^ 63) h) refl

not_below : (a b : ℕ) → b ≤ a → ¬ (a < b)
not_below a b h k = omega arith

count_big : (digits : List ℕ) → 2 ^ 63 ≤ digits_value 10 digits → count_of digits ≡ Err Wide
count_big digits h = rw (lt_no (digits_value 10 digits) (2 ^ 63) (not_below _ (2 ^ 63) h)) refl

module _ (after : List ℕ) where
  token_again : (token : Token) (word : List ℕ) → IsToken word token → Ends token word after → token_of (word ++ after) ≡ Ok (token, after)
  token_again (Word name) word h k = word_again word after h.0 k ∙ ap (λ w. Ok (Word w, after)) (sym h.1)
  token_again (Num n) word h k = number_again word after h.0 k ∙ in_range word after (subst (FitsSigned w128) h.1 h.2) ∙ ap (λ z. Ok (Num z, after)) (sym h.1)
  token_again (Dur count unit) word (digits, u, h, value, fits, is) k = duration_again word digits u after h k ∙ rw (count_fits digits (subst (λ n. n < 2 ^ 63) value fits), value, is) refl
  token_again (Str content) word (q, h, is, bytes, utf8) k = ap (λ t. token_of (t ++ after)) is ∙ text_again q content after h bytes utf8 (subst (λ t. BeginsNot (λ b. b == get_or t 0 0) after) is k)
  token_again (Sym b) word h k = ap (λ t. token_of (t ++ after)) h.0 ∙ symbol_again b after h.1 k
  token_again Le word h k = ap (λ t. token_of (t ++ after)) h ∙ le_again after
  token_again Ge word h k = ap (λ t. token_of (t ++ after)) h ∙ ge_again after
  token_again Ne word (inl h) k = ap (λ t. token_of (t ++ after)) h ∙ ne_again after
  token_again Ne word (inr h) k = ap (λ t. token_of (t ++ after)) h ∙ not_equal_again after

  wide_word : (word : List ℕ) → IsWide word → BeginsNot is_word_byte after → token_of (word ++ after) ≡ Err Wide
  wide_word word (inl h) k = number_again word after h.0 k ∙ out_of_range word after h.1
  wide_word word (inr (digits, u, h, big)) k = duration_again word digits u after h k ∙ rw (count_big digits big) refl

-- a token that stands in front is read
pub stands_again : (token : Token) (text word after : List ℕ) → Stands token text word after → token_of text ≡ Ok (token, after)
stands_again token text word after h = ap token_of h.0 ∙ token_again after token word h.1 h.2

pub wide_again : (text word after : List ℕ) → StandsWide text word after → token_of text ≡ Err Wide
wide_again text word after h = ap token_of h.0 ∙ wide_word after word h.1 h.2

-- a blank begins no token
space_again : (bs : List ℕ) → token_of (32 ∷ bs) ≡ Err NoForm
unfolding token_of symbol_of
space_again [] = refl
space_again (c ∷ cs) = refl

tab_again : (bs : List ℕ) → token_of (9 ∷ bs) ≡ Err NoForm
unfolding token_of symbol_of
tab_again [] = refl
tab_again (c ∷ cs) = refl

pub blank_again : (b : ℕ) (bs : List ℕ) → is_blank b ≡ true → token_of (b ∷ bs) ≡ Err NoForm
blank_again b bs h = elim (b == 32) as (λ t. (b == 32) ≡ t → (t || (b == 9)) ≡ true → token_of (b ∷ bs) ≡ Err NoForm) [
  | true ↦ λ e h. ap (λ x. token_of (x ∷ bs)) (equal_bytes b 32 e) ∙ space_again bs
  | false ↦ λ e h. ap (λ x. token_of (x ∷ bs)) (equal_bytes b 9 h) ∙ tab_again bs
] refl h

-- no token is empty
pub some_bytes : (token : Token) → ¬ (IsToken [] token)
some_bytes (Word name) h = h.0.0
some_bytes (Num n) h = omega (arith, h.0.0)
some_bytes (Dur count unit) (digits, u, h, _, _, _) = longer digits u [] (sym h.0)
some_bytes (Str content) (q, h, is, _, _) = cc
some_bytes (Sym b) h = let e = h.0 in cc
some_bytes Le h = cc
some_bytes Ge h = cc
some_bytes Ne (inl h) = cc
some_bytes Ne (inr h) = cc

pub some_wide : ¬ (IsWide [])
some_wide (inl h) = omega (arith, h.0.0)
some_wide (inr (digits, u, h, _)) = longer digits u [] (sym h.0)
