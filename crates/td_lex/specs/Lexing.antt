-- Reading the token at the front of a text: the token and what follows it, or why there is none.
use Rattle.std.specs.Prelude.{◌≡◌, ℕ, ◌+◌, ◌^◌, Bool, true, ◌||◌, ◌&&◌, ◌==◌, not, nat_lt, if◌then◌else◌, List, [], ◌∷◌, take, drop, map, Option, Some, None, Result, Ok, Err}
use lib.Signed.{mag}
use Rattle.std.specs.Char.{is_ascii_digit, to_ascii_lowercase}
use Rattle.std.specs.List.{prefix_len}
use Rattle.std.specs.Option.{option_map}
use Rattle.std.specs.Str.{is_utf8}
use Rattle.std.specs.Str.Parse.{digits_value, signed_digits_value}
use Rattle.td_lex.specs.declared.kinds.Token.{Token}
use Rattle.td_lex.specs.declared.kinds.Token.TheVariants.{Word, Num, Dur, Str, Sym, Le, Ge, Ne}
use Rattle.td_lex.specs.declared.kinds.Stop.{Stop}
use Rattle.td_lex.specs.declared.kinds.Stop.TheVariants.{NoForm, Wide, NoMemory}
use Rattle.td_lex.specs.Tokens.{is_word_start, is_word_byte, is_sign, is_quote, is_text_byte, is_unit, is_symbol}

-- a token and what follows it
abbrev pub Reading : Type 0
Reading = Result (Token × List ℕ) Stop

-- What a function returned, seen by a view, is what reading gives, unless memory ran out.
abbrev pub Fails : {Y : Type 0} → Stop → Result Y Stop → Type 0
Fails NoMemory read = Unit {0}
Fails NoForm read = read ≡ Err NoForm
Fails Wide read = read ≡ Err Wide

abbrev pub Gives : {X Y : Type 0} → (X → Y) → Result X Stop → Result Y Stop → Type 0
Gives view (Ok x) read = read ≡ Ok (view x)
Gives view (Err e) read = Fails e read

-- no letter, digit or `_` stands first
abbrev pub ends : List ℕ → Bool
ends [] = true
ends (b ∷ bs) = not (is_word_byte b)

-- the longest front of letters, digits and `_`
unfoldable pub word_of : List ℕ → Reading
word_of text = Ok (
  Word (map to_ascii_lowercase (take (prefix_len is_word_byte text) text)),
  drop
      (prefix_len is_word_byte text) text,
)

-- the number that a sign and digits are
unfoldable pub whole_of : List ℕ → List ℕ → Reading
whole_of front after = if nat_lt (mag (signed_digits_value 10 front)) (2 ^ 127) then Ok
    (Num (signed_digits_value 10 front), after) else Err Wide

-- how many units the digits say
abbrev pub count_of : List ℕ → Result ℕ Stop
count_of digits = if nat_lt (digits_value 10 digits) (2 ^ 63) then Ok (digits_value 10 digits) else Err Wide

infixl 10 ◌>>=◌
abbrev pub ◌>>=◌ : {A B : Type 0} → Result A Stop → (A → Result B Stop) → Result B Stop
(Ok x) >>= f = f x
(Err e) >>= f = Err e

-- the duration of these digits and the unit that follows
unfoldable pub duration_of : List ℕ → List ℕ → Reading
duration_of digits [] = Err NoForm
duration_of digits (u ∷ after) =
    if is_unit u && ends after
    then count_of digits >>= (λ count. Ok (Dur count (to_ascii_lowercase u), after))
    else Err NoForm

-- a text that begins with a digit
unfoldable pub unsigned_of : List ℕ → Reading
unsigned_of text =
    let n = prefix_len is_ascii_digit text in
    if ends (drop n text) then whole_of (take n text) (drop n text) else duration_of (take n text) (drop n text)

-- a text that begins with a sign
unfoldable pub signed_of : List ℕ → Reading
signed_of text =
    let n = prefix_len is_ascii_digit (drop 1 text) in
    if nat_lt 0 n && ends (drop (1 + n) text) then whole_of (take (1 + n) text) (drop (1 + n) text) else Err NoForm

-- one more byte of the content
abbrev pub and_byte : ℕ → Option (List ℕ × List ℕ) → Option (List ℕ × List ℕ)
and_byte b read = option_map (λ p. (b ∷ p.0, p.1)) read

-- the content up to the closing quote, and what follows that
unfoldable pub content_of : ℕ → List ℕ → Option (List ℕ × List ℕ)
content_of quote [] = None
content_of quote (b ∷ []) = if b == quote then Some ([], []) else None
content_of quote (b ∷ c ∷ bs) =
    if b == quote
    then (if c == quote then and_byte quote (content_of quote bs) else Some ([], c ∷ bs))
    else (if is_text_byte b then and_byte b (content_of quote (c ∷ bs)) else None)

-- the text of a content that is UTF-8
abbrev pub text_of : Option (List ℕ × List ℕ) → Reading
text_of None = Err NoForm
text_of (Some p) = if is_utf8 p.0 then Ok (Str p.0, p.1) else Err NoForm

-- a symbol or an operator
abbrev pub single_of : ℕ → List ℕ → Reading
single_of b after = if is_symbol b then Ok (Sym b, after) else Err NoForm

unfoldable pub symbol_of : List ℕ → Reading
symbol_of [] = Err NoForm
symbol_of (b ∷ []) = single_of b []
symbol_of (b ∷ c ∷ after) =
    if (b == 60) && (c == 61) then Ok (Le, after)
    else (if (b == 62) && (c == 61) then Ok (Ge, after)
    else (if ((b == 60) && (c == 62)) || ((b == 33) && (c == 61)) then Ok (Ne, after)
    else single_of b (c ∷ after)))

-- the token at the front
unfoldable pub token_of : List ℕ → Reading
token_of [] = Err NoForm
token_of (b ∷ bs) =
    if is_word_start b then word_of (b ∷ bs)
    else (if is_ascii_digit b then unsigned_of (b ∷ bs)
    else (if is_sign b then signed_of (b ∷ bs)
    else (if is_quote b then text_of (content_of b bs)
    else symbol_of (b ∷ bs))))
