-- The text of a token at a name is a short name, and a text in quotes can be printed.
use Rattle.std.proofs.Common.{◌≡◌, ℕ, ◌≤◌, true, false, ◌&&◌, ◌||◌, nat_le, nat_lt, List, [], ◌∷◌, map, refl, sym, subst, arith, length}
use Rattle.std.proofs.lemmas.Bool.{and_parts, or_parts, leb-true}
use Rattle.std.proofs.lemmas.Bool.Decides.{nat_tests}
use Rattle.std.specs.Char.{to_ascii_lowercase}
use Rattle.std.specs.List.{list_all, AllByRecursion}
use Rattle.td_limits.specs.declared.limits.TheConstants.{NAME_BYTES}
use Rattle.td_lex.specs.declared.kinds.Token.{Token}
use Rattle.td_lex.specs.declared.kinds.Token.TheVariants.{Str}
use Rattle.td_lex.specs.Tokens.{IsToken, IsWord, is_word_start, is_word_byte, is_text_byte}
use Rattle.td_grammar.specs.declared.kinds.TheConstants.{NAMES}
use Rattle.td_grammar.specs.declared.lexemes.Lexeme.{Lexeme}
use Rattle.td_grammar.specs.Grammar.{within, fits, real}
use Rattle.td_grammar.specs.Kinds.{kind_of, kind_of_word}
use Rattle.td_grammar.specs.Names.{is_folded, is_name, is_word}
use Rattle.td_grammar.specs.Words.{word_of, text_of}
use Rattle.td_parse.specs.Statements.{has_long_name}
use Rattle.td_printed.specs.Heads.{IsShortName, is_printable}
use Rattle.td_printed.proofs.Bytes.{both_true, for_words}

-- a token that some text spells, whose word isn't longer than a name may be
pub record IsShort (t : Lexeme) : Type 0 where
  pub spelled : real t
  pub few : length (word_of t.token) ≤ NAME_BYTES

-- ---- words

folded_start : (b : ℕ) → is_word_start b ≡ true → is_word_start (to_ascii_lowercase b) ≡ true
folded_start b h = grind (arith, nat_tests)

folded_byte : (b : ℕ) → is_word_byte b ≡ true → is_folded (to_ascii_lowercase b) ≡ true
folded_byte b h = grind (arith, nat_tests)

folded_bytes : (text : List ℕ) → list_all is_word_byte text ≡ true
    → list_all is_folded (map to_ascii_lowercase text) ≡ true
folded_bytes [] h = refl
folded_bytes (b ∷ bs) h =
    let p = and_parts (is_word_byte b) (list_all is_word_byte bs) h in
    both_true (is_folded (to_ascii_lowercase b)) (list_all is_folded (map to_ascii_lowercase bs))
    (folded_byte b p.0) (folded_bytes bs p.1)

word_folded : (text : List ℕ) → IsWord text → is_word (map to_ascii_lowercase text) ≡ true
word_folded [] h = absurd h.0
word_folded (b ∷ bs) h = both_true (is_word_start (to_ascii_lowercase b))
    (list_all is_folded (map to_ascii_lowercase (b ∷ bs))) (folded_start b h.0) (folded_bytes (b ∷ bs) h.1)

-- ---- names

spelled_named : (token : Token) (text : List ℕ) → IsToken text token
    → (nat_le NAMES.low (kind_of token) && nat_le (kind_of token) NAMES.high) ≡ true → is_name (word_of token) ≡ true
spelled_named token text h k =
    for_words
    (λ t. IsToken text t → (nat_le NAMES.low (kind_of t) && nat_le (kind_of t) NAMES.high) ≡ true
    → is_name (word_of t) ≡ true)
    (λ name spells among. both_true (is_word name)
    (nat_le NAMES.low (kind_of_word name) && nat_le (kind_of_word name) NAMES.high)
    (subst (λ n. is_word n ≡ true) (sym spells.1) (word_folded text spells.0)) among) token
    (leb-true NAMES.low (kind_of token)
    (and_parts (nat_le NAMES.low (kind_of token)) (nat_le (kind_of token) NAMES.high) k).0) h k

-- the kinds of a range alone
in_range : (low high k : ℕ) → (((nat_le low k && nat_le k high) || false) && true) ≡ true
    → (nat_le low k && nat_le k high) ≡ true
in_range low high k h = grind (arith, nat_tests)

pub name_short : (t : Lexeme) → IsShort t → fits (within NAMES) (λ _. true) t ≡ true → IsShortName (word_of t.token)
name_short t short fit =
    record {
      few = short.few;
      named = spelled_named t.token short.spelled.1 short.spelled.2
          (subst (λ k. (nat_le NAMES.low k && nat_le k NAMES.high) ≡ true) short.spelled.0
          (in_range NAMES.low NAMES.high t.kind fit));
    }

-- ---- texts in quotes

text_byte : (b : ℕ) → is_text_byte b ≡ true → nat_le 32 b ≡ true
text_byte b h = (and_parts (nat_le 32 b) _ h).0

text_bytes : (text : List ℕ) → list_all is_text_byte text ≡ true → is_printable text ≡ true
text_bytes [] h = refl
text_bytes (b ∷ bs) h =
    let p = and_parts (is_text_byte b) (list_all is_text_byte bs) h in
    both_true (nat_le 32 b) (is_printable bs) (text_byte b p.0) (text_bytes bs p.1)

spelled_printable : (token : Token) (text : List ℕ) → IsToken text token → is_printable (text_of token) ≡ true
spelled_printable (Str content) text h = text_bytes content h.3
spelled_printable _ text h = refl

pub text_printable : (t : Lexeme) → IsShort t → is_printable (text_of t.token) ≡ true
text_printable t short = spelled_printable t.token short.spelled.1 short.spelled.2

-- ---- all tokens of a text

pub all_short : (ls : List Lexeme) → AllByRecursion real ls → has_long_name ls ≡ false → AllByRecursion IsShort ls
all_short [] spelled h = tt
all_short (l ∷ ls) spelled h =
    let n : ℕ = length (word_of l.token) in
    let p = or_parts (nat_lt NAME_BYTES n) (has_long_name ls) h in
    let few : n ≤ NAME_BYTES = grind (arith, nat_tests) in
    (record { spelled = spelled.0; few = few }, all_short ls spelled.1 p.1)
