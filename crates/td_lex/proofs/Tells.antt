-- What reading finds at the front of a text stands there.
use Rattle.std.proofs.Common.{◌≡◌, ℕ, ℤ, ◌+◌, ◌<◌, ◌≤◌, ◌^◌, true, false, cond, ◌&&◌, ◌||◌, ◌==◌, not, nat_lt, ◌⊎◌, inl, inr, List, [], ◌∷◌, ◌++◌, take, drop, Option, Some, None, Ok, Err, FitsSigned, refl, sym, ap, subst, ◌∙◌, arith, append_assoc}
use lib.Signed.{mag}
use Rattle.std.specs.Int.{w128}
use Rattle.std.specs.Char.{is_ascii_digit, to_ascii_lowercase}
use Rattle.std.specs.List.{prefix_len, list_all}
use Rattle.std.specs.Str.{is_utf8}
use Rattle.std.specs.Str.Parse.{IsNumeral, digits_value, signed_digits_value}
use Rattle.std.proofs.lemmas.Bool.Decides.{nat_tests}
use Rattle.std.proofs.lemmas.List.{take-append-drop}
use Rattle.std.proofs.lemmas.Str.{IsUtf8-from_is_utf8}
use Rattle.td_lex.specs.declared.kinds.Token.TheVariants.{Num, Dur, Str, Sym, Le, Ge, Ne}
use Rattle.td_lex.specs.declared.kinds.Stop.TheVariants.{NoForm, Wide, NoMemory}
use Rattle.td_lex.specs.Tokens.{is_word_start, is_word_byte, is_sign, is_quote, is_text_byte, is_unit, is_symbol, goes_on, Begins, BeginsNot, IsNumber, doubled, quoted, Stands, WideFirst}
use Rattle.td_lex.specs.Lexing.{Reading, ends, word_of, whole_of, count_of, ◌>>=◌, duration_of, unsigned_of, signed_of, and_byte, content_of, text_of, single_of, symbol_of, token_of}
use Rattle.td_lex.proofs.Fronts.{both, together, take_front, front_all, rest_not}
use Rattle.td_lex.proofs.Numerals.{front_numeral, front_number, signed_number}

-- what is read stands at the front, or a number that is too wide does
abbrev pub Tells : List ℕ → Reading → Type 0
Tells text (Ok p) = (word : List ℕ) × Stands p.0 text word p.1
Tells text (Err NoForm) = Unit {0}
Tells text (Err Wide) = WideFirst text
Tells text (Err NoMemory) = Unit {0}

le_not_lt : (a b : ℕ) → a ≤ b → ¬ (b < a)
le_not_lt a b h k = omega arith

pub less : (a b : ℕ) → nat_lt a b ≡ true → a < b
less a b h = grind (arith, nat_tests)

pub not_less : (a b : ℕ) → nat_lt a b ≡ false → b ≤ a
not_less a b h = grind (arith, nat_tests)

pub starts_as_byte : (b : ℕ) → is_word_start b ≡ true → is_word_byte b ≡ true
starts_as_byte b h = grind (arith, nat_tests)

ends_not : (after : List ℕ) → ends after ≡ true → BeginsNot is_word_byte after
ends_not [] h = tt
ends_not (b ∷ bs) h = elim (is_word_byte b) as (λ t. not t ≡ true → t ≡ false) [ true ↦ λ e. cc | false ↦ λ e. refl ] h

-- a word
word_tells : (b : ℕ) (bs : List ℕ) → is_word_start b ≡ true → Tells (b ∷ bs) (word_of (b ∷ bs))
unfolding word_of
word_tells b bs h =
    let text : List ℕ = b ∷ bs in
    let front : List ℕ = take (prefix_len is_word_byte text) text in
    let start : Begins is_word_start front = subst (Begins is_word_start) (sym (take_front is_word_byte b bs (starts_as_byte b h))) h in
    (front, (sym (take-append-drop (prefix_len is_word_byte text) text), ((start, front_all is_word_byte text), refl), rest_not is_word_byte text))

outside : (z : ℤ) → 2 ^ 127 ≤ mag z → ¬ (FitsSigned w128 z)
outside z h fits = let in_range : mag z < 2 ^ 127 = fits.sfits in le_not_lt (2 ^ 127) (mag z) h in_range

-- a number
whole_tells : (front after : List ℕ) → IsNumber front → BeginsNot is_word_byte after → Tells (front ++ after) (whole_of front after)
unfolding whole_of
whole_tells front after h k = elim (nat_lt (mag (signed_digits_value 10 front)) (2 ^ 127)) as (λ t. nat_lt (mag (signed_digits_value 10 front)) (2 ^ 127) ≡ t → Tells (front ++ after) (cond t (Ok (Num (signed_digits_value 10 front), after)) (Err Wide))) [
  | true ↦ λ e. (front, (refl, (h, refl, record { sfits = less _ (2 ^ 127) e }), k))
  | false ↦ λ e. (front, after, (refl, inl (h, λ fits. outside _ (not_less _ (2 ^ 127) e) fits), k))
] refl

-- a duration
count_tells : (digits : List ℕ) (u : ℕ) (after : List ℕ) → IsNumeral 10 digits → is_unit u ≡ true → BeginsNot is_word_byte after → Tells (digits ++ u ∷ after) (count_of digits >>= (λ count. Ok (Dur count (to_ascii_lowercase u), after)))
count_tells digits u after h i k = elim (nat_lt (digits_value 10 digits) (2 ^ 63)) as (λ t. nat_lt (digits_value 10 digits) (2 ^ 63) ≡ t → Tells (digits ++ u ∷ after) (cond t (Ok (digits_value 10 digits)) (Err Wide) >>= (λ count. Ok (Dur count (to_ascii_lowercase u), after)))) [
  | true ↦ λ e. (digits ++ u ∷ [], (sym (append_assoc digits (u ∷ []) after), (digits, u, (refl, h, i), refl, less _ (2 ^ 63) e, refl), k))
  | false ↦ λ e. (digits ++ u ∷ [], after, (sym (append_assoc digits (u ∷ []) after), inr (digits, u, (refl, h, i), not_less _ (2 ^ 63) e), k))
] refl

duration_tells : (digits after : List ℕ) → IsNumeral 10 digits → Tells (digits ++ after) (duration_of digits after)
unfolding duration_of
duration_tells digits [] h = tt
duration_tells digits (u ∷ after) h = elim (is_unit u && ends after) as (λ t. (is_unit u && ends after) ≡ t → Tells (digits ++ u ∷ after) (cond t (count_of digits >>= (λ count. Ok (Dur count (to_ascii_lowercase u), after))) (Err NoForm))) [
  | true ↦ λ e. let f = both (is_unit u) (ends after) e in count_tells digits u after h f.0 (ends_not after f.1)
  | false ↦ λ e. tt
] refl

unsigned_tells : (text : List ℕ) → Begins is_ascii_digit text → Tells text (unsigned_of text)
unfolding unsigned_of
unsigned_tells text h =
    let n : ℕ = prefix_len is_ascii_digit text in
    subst (λ t. Tells t (cond (ends (drop n text)) (whole_of (take n text) (drop n text)) (duration_of (take n text) (drop n text)))) (take-append-drop n text) (
    elim (ends (drop n text)) as (λ t. ends (drop n text) ≡ t → Tells (take n text ++ drop n text) (cond t (whole_of (take n text) (drop n text)) (duration_of (take n text) (drop n text)))) [
      | true ↦ λ e. whole_tells (take n text) (drop n text) (front_number text h) (ends_not (drop n text) e)
      | false ↦ λ e. duration_tells (take n text) (drop n text) (front_numeral text h)
    ] refl)

signed_tells : (text : List ℕ) → Begins is_sign text → Tells text (signed_of text)
unfolding signed_of
signed_tells text h =
    let n : ℕ = prefix_len is_ascii_digit (drop 1 text) in
    elim (nat_lt 0 n && ends (drop (1 + n) text)) as (λ t. (nat_lt 0 n && ends (drop (1 + n) text)) ≡ t → Tells text (cond t (whole_of (take (1 + n) text) (drop (1 + n) text)) (Err NoForm))) [
      | true ↦ λ e.
          let f = both (nat_lt 0 n) (ends (drop (1 + n) text)) e in
          subst (λ t. Tells t (whole_of (take (1 + n) text) (drop (1 + n) text))) (take-append-drop (1 + n) text) (
          whole_tells (take (1 + n) text) (drop (1 + n) text) (signed_number text n h refl (less 0 n f.0)) (ends_not (drop (1 + n) text) f.1))
      | false ↦ λ e. tt
    ] refl

-- a text in quotes
abbrev ContentTells : ℕ → List ℕ → Option (List ℕ × List ℕ) → Type 0
ContentTells q text None = Unit {0}
ContentTells q text (Some p) = (text ≡ doubled q p.0 ++ q ∷ p.1) × (list_all is_text_byte p.0 ≡ true) × BeginsNot (λ b. b == q) p.1

quote_is_text : (q : ℕ) → is_quote q ≡ true → is_text_byte q ≡ true
quote_is_text q h = grind (arith, nat_tests)

pub equal_bytes : (b c : ℕ) → (b == c) ≡ true → b ≡ c
equal_bytes b c h = grind (arith, nat_tests)

pub same_byte : (b : ℕ) → (b == b) ≡ true
same_byte b = grind (arith, nat_tests)

one_more : (q b : ℕ) (text more : List ℕ) (read : Option (List ℕ × List ℕ)) → is_text_byte b ≡ true → ((s : List ℕ) → more ++ doubled q s ≡ doubled q (b ∷ s)) → ContentTells q text read → ContentTells q (more ++ text) (and_byte b read)
one_more q b text more None h e k = tt
one_more q b text more (Some p) h e k = (
  ap (λ t. more ++ t) k.0 ∙ sym (append_assoc more (doubled q p.0) (q ∷ p.1)) ∙ ap (λ t. t ++ q ∷ p.1) (e p.0),
  together (is_text_byte b) (list_all is_text_byte p.0) h k.1,
  k.2,
)

content_tells : (q : ℕ) (text : List ℕ) → is_quote q ≡ true → ContentTells q text (content_of q text)
unfolding content_of
content_tells q [] h = tt
content_tells q (b ∷ []) h = elim (b == q) as (λ t. (b == q) ≡ t → ContentTells q (b ∷ []) (cond t (Some ([], [])) None)) [
  | true ↦ λ e. (ap (λ x. x ∷ []) (equal_bytes b q e), refl, tt)
  | false ↦ λ e. tt
] refl
content_tells q (b ∷ c ∷ bs) h = elim (b == q) as (λ t. (b == q) ≡ t → ContentTells q (b ∷ c ∷ bs) (cond t (cond (c == q) (and_byte q (content_of q bs)) (Some ([], c ∷ bs))) (cond (is_text_byte b) (and_byte b (content_of q (c ∷ bs))) None))) [
  | true ↦ λ e. elim (c == q) as (λ t. (c == q) ≡ t → ContentTells q (b ∷ c ∷ bs) (cond t (and_byte q (content_of q bs)) (Some ([], c ∷ bs)))) [
    | true ↦ λ f. rw (equal_bytes b q e, equal_bytes c q f) (one_more q q bs (q ∷ q ∷ []) (content_of q bs) (quote_is_text q h) (λ s. rw (same_byte q) refl) (content_tells q bs h))
    | false ↦ λ f. (ap (λ x. x ∷ c ∷ bs) (equal_bytes b q e), refl, f)
  ] refl
  | false ↦ λ e. elim (is_text_byte b) as (λ t. is_text_byte b ≡ t → ContentTells q (b ∷ c ∷ bs) (cond t (and_byte b (content_of q (c ∷ bs))) None)) [
    | true ↦ λ f. one_more q b (c ∷ bs) (b ∷ []) (content_of q (c ∷ bs)) f (λ s. rw e refl) (content_tells q (c ∷ bs) h)
    | false ↦ λ f. tt
  ] refl
] refl

text_tells : (q : ℕ) (text : List ℕ) (read : Option (List ℕ × List ℕ)) → is_quote q ≡ true → ContentTells q text read → Tells (q ∷ text) (text_of read)
text_tells q text None h k = tt
text_tells q text (Some p) h k = elim (is_utf8 p.0) as (λ t. is_utf8 p.0 ≡ t → Tells (q ∷ text) (cond t (Ok (Str p.0, p.1)) (Err NoForm))) [
  | true ↦ λ e. (quoted q p.0, (ap (λ t. q ∷ t) (k.0 ∙ sym (append_assoc (doubled q p.0) (q ∷ []) p.1)), (q, h, refl, k.1, IsUtf8-from_is_utf8 p.0 e), k.2))
  | false ↦ λ e. tt
] refl

-- a symbol or an operator
alone : (b : ℕ) (after : List ℕ) → BeginsNot (goes_on b) after → Tells (b ∷ after) (single_of b after)
alone b after k = elim (is_symbol b) as (λ t. is_symbol b ≡ t → Tells (b ∷ after) (cond t (Ok (Sym b, after)) (Err NoForm))) [
  | true ↦ λ e. (b ∷ [], (refl, (refl, e), k))
  | false ↦ λ e. tt
] refl

two_bytes : (b c x y : ℕ) → ((b == x) && (c == y)) ≡ true → b ∷ c ∷ [] ≡ x ∷ y ∷ []
two_bytes b c x y h = let f = both (b == x) (c == y) h in rw (equal_bytes b x f.0, equal_bytes c y f.1) refl

either_pair : (b c : ℕ) → (((b == 60) && (c == 62)) || ((b == 33) && (c == 61))) ≡ true → (b ∷ c ∷ [] ≡ 60 ∷ 62 ∷ []) ⊎ (b ∷ c ∷ [] ≡ 33 ∷ 61 ∷ [])
either_pair b c h = elim ((b == 60) && (c == 62)) as (λ t. ((b == 60) && (c == 62)) ≡ t → (t || ((b == 33) && (c == 61))) ≡ true → (b ∷ c ∷ [] ≡ 60 ∷ 62 ∷ []) ⊎ (b ∷ c ∷ [] ≡ 33 ∷ 61 ∷ [])) [
  | true ↦ λ e h. inl (two_bytes b c 60 62 e)
  | false ↦ λ e h. inr (two_bytes b c 33 61 h)
] refl h

no_operator : (b c : ℕ) → ((b == 60) && (c == 61)) ≡ false → ((b == 62) && (c == 61)) ≡ false → (((b == 60) && (c == 62)) || ((b == 33) && (c == 61))) ≡ false → goes_on b c ≡ false
no_operator b c e f g = grind (arith, nat_tests)

symbol_tells : (text : List ℕ) → Tells text (symbol_of text)
unfolding symbol_of
symbol_tells [] = tt
symbol_tells (b ∷ []) = alone b [] tt
symbol_tells (b ∷ c ∷ bs) = elim ((b == 60) && (c == 61)) as (λ t. ((b == 60) && (c == 61)) ≡ t → Tells (b ∷ c ∷ bs) (cond t (Ok (Le, bs)) (cond ((b == 62) && (c == 61)) (Ok (Ge, bs)) (cond (((b == 60) && (c == 62)) || ((b == 33) && (c == 61))) (Ok (Ne, bs)) (single_of b (c ∷ bs)))))) [
  | true ↦ λ e. (b ∷ c ∷ [], (refl, two_bytes b c 60 61 e, tt))
  | false ↦ λ e. elim ((b == 62) && (c == 61)) as (λ t. ((b == 62) && (c == 61)) ≡ t → Tells (b ∷ c ∷ bs) (cond t (Ok (Ge, bs)) (cond (((b == 60) && (c == 62)) || ((b == 33) && (c == 61))) (Ok (Ne, bs)) (single_of b (c ∷ bs))))) [
    | true ↦ λ f. (b ∷ c ∷ [], (refl, two_bytes b c 62 61 f, tt))
    | false ↦ λ f. elim (((b == 60) && (c == 62)) || ((b == 33) && (c == 61))) as (λ t. (((b == 60) && (c == 62)) || ((b == 33) && (c == 61))) ≡ t → Tells (b ∷ c ∷ bs) (cond t (Ok (Ne, bs)) (single_of b (c ∷ bs)))) [
      | true ↦ λ g. (b ∷ c ∷ [], (refl, either_pair b c g, tt))
      | false ↦ λ g. alone b (c ∷ bs) (no_operator b c e f g)
    ] refl
  ] refl
] refl

pub token_tells : (text : List ℕ) → Tells text (token_of text)
unfolding token_of
token_tells [] = tt
token_tells (b ∷ bs) = elim (is_word_start b) as (λ t. is_word_start b ≡ t → Tells (b ∷ bs) (cond t (word_of (b ∷ bs)) (cond (is_ascii_digit b) (unsigned_of (b ∷ bs)) (cond (is_sign b) (signed_of (b ∷ bs)) (cond (is_quote b) (text_of (content_of b bs)) (symbol_of (b ∷ bs))))))) [
  | true ↦ λ e. word_tells b bs e
  | false ↦ λ e. elim (is_ascii_digit b) as (λ t. is_ascii_digit b ≡ t → Tells (b ∷ bs) (cond t (unsigned_of (b ∷ bs)) (cond (is_sign b) (signed_of (b ∷ bs)) (cond (is_quote b) (text_of (content_of b bs)) (symbol_of (b ∷ bs)))))) [
    | true ↦ λ f. unsigned_tells (b ∷ bs) f
    | false ↦ λ f. elim (is_sign b) as (λ t. is_sign b ≡ t → Tells (b ∷ bs) (cond t (signed_of (b ∷ bs)) (cond (is_quote b) (text_of (content_of b bs)) (symbol_of (b ∷ bs))))) [
      | true ↦ λ g. signed_tells (b ∷ bs) g
      | false ↦ λ g. elim (is_quote b) as (λ t. is_quote b ≡ t → Tells (b ∷ bs) (cond t (text_of (content_of b bs)) (symbol_of (b ∷ bs)))) [
        | true ↦ λ i. text_tells b bs (content_of b bs) i (content_tells b bs i)
        | false ↦ λ i. symbol_tells (b ∷ bs)
      ] refl
    ] refl
  ] refl
] refl
