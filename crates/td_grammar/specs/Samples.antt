-- A token of each kind, with a text that spells it.
use Rattle.std.proofs.Common.{◌≡◌, ℕ, ◌^◌, ◌==◌, pos, Bool, true, false, cond, ◌&&◌, ◌||◌, nat_le, List, [], ◌∷◌, map, refl, sym, ap, ◌∙◌}
use Rattle.std.proofs.lemmas.Bool.{and_parts, ltb-true, eqb-true, false≢true}
use Rattle.std.proofs.lemmas.Int.{fits_signed_from_abs}
use Rattle.std.proofs.lemmas.Str.{IsUtf8-nil}
use Rattle.std.specs.Int.{w128}
use Rattle.std.specs.Char.{to_ascii_lowercase}
use Rattle.std.specs.List.{list_all}
use lib.Chars.{codes}
use Rattle.td_lex.specs.declared.kinds.Token.TheVariants.{Word, Num, Dur, Str}
use Rattle.td_lex.specs.Tokens.{IsToken, IsWord, is_word_byte}
use Rattle.td_grammar.specs.Kinds.{kind_of_word}
use Rattle.td_grammar.specs.declared.kinds.TheConstants.{NAMES}
use Rattle.td_grammar.specs.Names.{is_folded, begins_word, is_word, is_name, as_name}
use Rattle.td_grammar.specs.Grammar.{has, within}

pub both_true : (a b : Bool) → a ≡ true → b ≡ true → (a && b) ≡ true
both_true a b h i = ap (λ c. c && b) h ∙ i

pub zero_text : IsToken (codes "0") (Num (pos 0))
zero_text = (
  (ltb-true 0 1 refl, (ltb-true 0 10 refl, tt)),
  refl,
  fits_signed_from_abs w128 (pos 0)
      (ltb-true 0 (2 ^ 127) refl),
)

pub second_text : IsToken (codes "1s") (Dur 1 115)
second_text = (
  49 ∷ [],
  115,
  (refl, (ltb-true 0 1 refl, (ltb-true 1 10 refl, tt)), refl),
  refl,
  ltb-true 1
      (2 ^ 63) refl,
  refl,
)

pub empty_text : IsToken (codes "''") (Str [])
empty_text = (39, refl, refl, refl, IsUtf8-nil)

folded_bytes : (text : List ℕ) → list_all is_folded text ≡ true → (list_all is_word_byte text ≡ true) ×
    (text ≡ map to_ascii_lowercase text)
folded_bytes [] h = (refl, refl)
folded_bytes (b ∷ bs) h =
    let p = and_parts (is_folded b) (list_all is_folded bs) h in
    let q = and_parts (is_word_byte b) (to_ascii_lowercase b == b) p.0 in
    let deeper = folded_bytes bs p.1 in
    let same : to_ascii_lowercase b ≡ b = eqb-true (to_ascii_lowercase b) b q.1 in (
      both_true (is_word_byte b) (list_all is_word_byte bs) q.0 deeper.0,
      ap (λ c. c ∷ bs) (sym same) ∙ ap
          (λ cs. to_ascii_lowercase b ∷ cs) deeper.1,
    )

begun_word : (text : List ℕ) → begins_word text ≡ true → list_all is_word_byte text ≡ true → IsWord text
begun_word [] h all = absurd (false≢true h)
begun_word (b ∷ bs) h all = (h, all)

-- a text that passes the test is that of a word
pub word_text : (text : List ℕ) → is_word text ≡ true → IsToken text (Word text)
word_text text h =
    let p = and_parts (begins_word text) (list_all is_folded text) h in
    let f = folded_bytes text p.1 in
    (begun_word text p.0 f.0, f.1)

-- a name is a word's text
pub name_text : (text : List ℕ) → IsToken (as_name text) (Word (as_name text))
name_text text = elim (is_name text) as
    (λ n. is_name text ≡ n → IsToken (cond n text (codes "x")) (Word (cond n text (codes "x")))) [
      | true ↦ λ is. word_text text
          (and_parts (is_word text)
          (nat_le NAMES.low (kind_of_word text) && nat_le (kind_of_word text) NAMES.high) is).0
      | false ↦ λ _. ((refl, refl), refl)
    ] refl

-- and its kind is one of the names'
pub name_kind : (text : List ℕ) → has (kind_of_word (as_name text)) (within NAMES) ≡ true
name_kind text = elim (is_name text) as
    (λ n. is_name text ≡ n → has (kind_of_word (cond n text (codes "x"))) (within NAMES) ≡ true) [
      | true ↦ λ is. ap (λ b. b || false)
          (and_parts (is_word text)
          (nat_le NAMES.low (kind_of_word text) && nat_le (kind_of_word text) NAMES.high) is).1
      | false ↦ λ _. refl
    ] refl
