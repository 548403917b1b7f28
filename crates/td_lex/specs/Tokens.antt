-- The tokens of the statement language, stated on whole texts.
use Rattle.std.specs.Prelude.{◌≡◌, ℕ, ◌+◌, ◌<◌, ◌≤◌, ◌^◌, Bool, true, false, ◌||◌, ◌&&◌, ◌==◌, nat_le, not, if◌then◌else◌, ◌⊎◌, List, [], ◌∷◌, ◌++◌, length, map, Result, Ok, Err, FitsSigned, slice_index}
use Rattle.std.specs.Char.{is_ascii_alphabetic, is_ascii_alphanumeric, to_ascii_lowercase}
use Rattle.std.specs.Int.{w128}
use Rattle.std.specs.List.{list_all}
use Rattle.std.specs.Str.{IsUtf8}
use Rattle.std.specs.Str.Parse.{IsNumeral, digits_value, without_leading_sign, signed_digits_value}
use Rattle.td_lex.specs.declared.kinds.Token.{Token}
use Rattle.td_lex.specs.declared.kinds.Token.TheVariants.{Word, Num, Dur, Str, Sym, Le, Ge, Ne}
use Rattle.td_lex.specs.declared.kinds.Spanned.{Spanned}
use Rattle.td_lex.specs.declared.kinds.LexFault.{LexFault}
use Rattle.td_lex.specs.declared.kinds.LexFault.TheVariants.{BadToken, TooWide, NoMemory}

-- a space or a tab
abbrev pub is_blank : ℕ → Bool
is_blank b = (b == 32) || (b == 9)

-- a letter or `_`
abbrev pub is_word_start : ℕ → Bool
is_word_start b = is_ascii_alphabetic b || (b == 95)

-- a letter, a digit or `_`
abbrev pub is_word_byte : ℕ → Bool
is_word_byte b = is_ascii_alphanumeric b || (b == 95)

-- `+` or `-`
abbrev pub is_sign : ℕ → Bool
is_sign b = (b == 43) || (b == 45)

-- `'` or `"`
abbrev pub is_quote : ℕ → Bool
is_quote b = (b == 39) || (b == 34)

-- what a text in quotes may hold: no control byte
abbrev pub is_text_byte : ℕ → Bool
is_text_byte b = nat_le 32 b && not (b == 127)

-- one of a b d h m n s u w y, in either case
abbrev pub is_small_unit : ℕ → Bool
is_small_unit b = (b == 97) || (b == 98) || (b == 100) || (b == 104) || (b == 109) || (b == 110) || (b == 115) ||
    (b == 117) || (b == 119) || (b == 121)

abbrev pub is_unit : ℕ → Bool
is_unit b = is_small_unit (to_ascii_lowercase b)

-- one of ( ) , ; * < > =
abbrev pub is_symbol : ℕ → Bool
is_symbol b = (b == 40) || (b == 41) || (b == 44) || (b == 59) || (b == 42) || (b == 60) || (b == 62) || (b == 61)

-- the two bytes are `<=`, `>=` or `<>`, which begin with a symbol
abbrev pub goes_on : ℕ → ℕ → Bool
goes_on b c = ((b == 60) && ((c == 61) || (c == 62))) || ((b == 62) && (c == 61))

-- the text begins with a byte that passes; it does not
abbrev pub Begins : (ℕ → Bool) → List ℕ → Type 0
Begins p [] = ⊥
Begins p (b ∷ bs) = p b ≡ true

abbrev pub BeginsNot : (ℕ → Bool) → List ℕ → Type 0
BeginsNot p [] = Unit {0}
BeginsNot p (b ∷ bs) = p b ≡ false

-- a letter or `_`, then letters, digits and `_`
abbrev pub IsWord : List ℕ → Type 0
IsWord text = Begins is_word_start text × (list_all is_word_byte text ≡ true)

-- a sign or none, then digits
abbrev pub IsNumber : List ℕ → Type 0
IsNumber text = IsNumeral 10 (without_leading_sign text)

-- digits, then the letter of a unit
abbrev pub IsDuration : List ℕ → List ℕ → ℕ → Type 0
IsDuration text digits unit = (text ≡ digits ++ unit ∷ []) × IsNumeral 10 digits × (is_unit unit ≡ true)

-- the content of a text in quotes, with each such quote doubled
abbrev pub doubled : ℕ → List ℕ → List ℕ
doubled quote [] = []
doubled quote (b ∷ bs) = if b == quote then quote ∷ quote ∷ doubled quote bs else b ∷ doubled quote bs

-- the content in quotes
abbrev pub quoted : ℕ → List ℕ → List ℕ
quoted quote content = quote ∷ (doubled quote content ++ quote ∷ [])

-- the text is a token's, from its first byte to its last
abbrev pub IsToken : List ℕ → Token → Type 0
IsToken text (Word name) = IsWord text × (name ≡ map to_ascii_lowercase text)
IsToken text (Num n) = IsNumber text × (n ≡ signed_digits_value 10 text) × FitsSigned w128 n
IsToken text (Dur count unit) = (digits : List ℕ) × (letter : ℕ) × IsDuration text digits letter ×
    (count ≡ digits_value 10 digits) × (count < 2 ^ 63) × (unit ≡ to_ascii_lowercase letter)
IsToken text (Str content) = (quote : ℕ) × (is_quote quote ≡ true) × (text ≡ quoted quote content) ×
    (list_all is_text_byte content ≡ true) × IsUtf8 content
IsToken text (Sym b) = (text ≡ b ∷ []) × (is_symbol b ≡ true)
IsToken text Le = text ≡ 60 ∷ 61 ∷ []
IsToken text Ge = text ≡ 62 ∷ 61 ∷ []
IsToken text Ne = (text ≡ 60 ∷ 62 ∷ []) ⊎ (text ≡ 33 ∷ 61 ∷ [])

-- The text is a number outside -2^127 to 2^127-1, or a duration whose count is above 2^63-1.
abbrev pub IsWide : List ℕ → Type 0
IsWide text = (IsNumber text × ¬ (FitsSigned w128 (signed_digits_value 10 text)))
    ⊎ ((digits : List ℕ) × (letter : ℕ) × IsDuration text digits letter × (2 ^ 63 ≤ digits_value 10 digits))

-- What may stand directly after a token, so that each takes the longest form: after a word, a number or a duration no
-- letter, digit or `_`, after a text in quotes no further such quote, after `<` and `>` nothing that makes them longer.
abbrev pub Ends : Token → List ℕ → List ℕ → Type 0
Ends (Word name) text after = BeginsNot is_word_byte after
Ends (Num n) text after = BeginsNot is_word_byte after
Ends (Dur count unit) text after = BeginsNot is_word_byte after
Ends (Str content) text after = BeginsNot (λ b. b == slice_index text 0) after
Ends (Sym b) text after = BeginsNot (goes_on b) after
Ends Le text after = Unit {0}
Ends Ge text after = Unit {0}
Ends Ne text after = Unit {0}

-- a text is a token's text and what follows it
abbrev pub Stands : Token → List ℕ → List ℕ → List ℕ → Type 0
Stands token text word after = (text ≡ word ++ after) × IsToken word token × Ends token word after

-- a text is that of a number or a duration that is too wide, and what follows it
abbrev pub StandsWide : List ℕ → List ℕ → List ℕ → Type 0
StandsWide text word after = (text ≡ word ++ after) × IsWide word × BeginsNot is_word_byte after

-- From a place on, the text is these tokens, parted by blanks, and then the rest. A token's span is from its first
-- byte to behind its last.
abbrev pub Reads : ℕ → List ℕ → List Spanned → List ℕ → Type 0
Reads at text [] rest = (gap : List ℕ) × (list_all is_blank gap ≡ true) × (text ≡ gap ++ rest)
Reads at text (t ∷ ts) rest = (gap : List ℕ) × (word : List ℕ) × (after : List ℕ) × (list_all is_blank gap ≡ true) ×
    (text ≡ gap ++ (word ++ after))
    × Stands t.token (word ++ after) word after × (t.at ≡ at + length gap) × (t.end ≡ t.at + length word)
    × Reads t.end after ts rest

-- the whole text is these tokens
abbrev pub IsTokens : List ℕ → List Spanned → Type 0
IsTokens text ts = Reads 0 text ts []

-- A byte stands first that is no blank, and no token stands there, nor one that is too wide.
pub record NoToken (text : List ℕ) : Type 0 where
  pub some : ¬ (text ≡ [])
  pub apart : BeginsNot is_blank text
  pub none : (token : Token) (word after : List ℕ) → ¬ (Stands token text word after)
  pub not_wide : (word after : List ℕ) → ¬ (StandsWide text word after)

-- a number or a duration stands first that is too wide
abbrev pub WideFirst : List ℕ → Type 0
WideFirst text = (word : List ℕ) × (after : List ℕ) × StandsWide text word after

-- up to a place the text is tokens and blanks, and what stands there fails in this way
abbrev pub FailsAt : (List ℕ → Type 0) → List ℕ → ℕ → Type 0
FailsAt F text at = (ts : List Spanned) × (rest : List ℕ) × Reads 0 text ts rest × (at + length rest ≡ length text)
    × F rest

-- what may be answered of a text: its tokens, or its first failure; want of memory may come of any
abbrev pub Answers : List ℕ → Result (List Spanned) LexFault → Type 0
Answers text (Ok ts) = IsTokens text ts
Answers text (Err (BadToken at)) = FailsAt NoToken text at
Answers text (Err (TooWide at)) = FailsAt WideFirst text at
Answers text (Err NoMemory) = Unit {0}
