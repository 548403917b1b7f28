-- The text of a token of words is a name.
use Rattle.std.proofs.Common.{◌≡◌, ℕ, ◌≤◌, Bool, true, false, cond, ◌&&◌, ◌||◌, nat_le, List, [], ◌∷◌, map, refl, sym, ap, subst, ◌∙◌, arith}
use Rattle.std.proofs.lemmas.Bool.{and_parts, leb-true}
use Rattle.std.proofs.lemmas.Bool.Decides.{nat_tests}
use Rattle.std.specs.Char.{to_ascii_lowercase}
use Rattle.std.specs.List.{list_all}
use Rattle.std.specs.Str.{bytes_eq}
use Rattle.td_lex.specs.declared.kinds.Token.{Token}
use Rattle.td_lex.specs.declared.kinds.Token.TheVariants.{Word, Num, Dur, Str, Sym, Le, Ge, Ne}
use Rattle.td_lex.specs.Tokens.{IsToken, IsWord, is_word_byte}
use Rattle.td_grammar.specs.declared.lexemes.Lexeme.{Lexeme}
use Rattle.td_grammar.specs.declared.kinds.TheConstants.{EQUAL, PLAIN_WORD}
use Rattle.td_grammar.specs.Kinds.{Table, lookup, signs, is_bit, kind_of}
use Rattle.td_grammar.specs.Grammar.{Kinds, has, fits, real}
use Rattle.td_grammar.specs.Words.{word_of}
use Rattle.td_model.specs.Printable.{is_word_byte as is_printed}
use Rattle.td_printed.specs.Names.{IsName}

pub both_true : (a b : Bool) → a ≡ true → b ≡ true → (a && b) ≡ true
both_true a b h i = ap (λ c. c && b) h ∙ i

-- a byte of a word stays one in lower case
folded_byte : (b : ℕ) → is_word_byte b ≡ true → is_printed (to_ascii_lowercase b) ≡ true
folded_byte b h = grind (arith, nat_tests)

folded_bytes : (text : List ℕ) → list_all is_word_byte text ≡ true
    → list_all is_printed (map to_ascii_lowercase text) ≡ true
folded_bytes [] h = refl
folded_bytes (b ∷ bs) h =
    let p = and_parts (is_word_byte b) (list_all is_word_byte bs) h in
    both_true (is_printed (to_ascii_lowercase b)) (list_all is_printed (map to_ascii_lowercase bs))
    (folded_byte b p.0) (folded_bytes bs p.1)

word_name : (text : List ℕ) → IsWord text → IsName (map to_ascii_lowercase text)
word_name [] h = absurd h.0
word_name (b ∷ bs) h = record { some = omega arith; word = folded_bytes (b ∷ bs) h.1 }

-- ---- the kinds of words come behind those of other tokens

below : (table : Table) (text : List ℕ) (other : ℕ) → list_all (λ (e : List ℕ × ℕ). nat_le e.1 EQUAL) table ≡ true
    → other ≤ EQUAL → lookup table text other ≤ EQUAL
below [] text other h l = l
below (e ∷ es) text other h l =
    let p = and_parts (nat_le e.1 EQUAL) (list_all (λ (e : List ℕ × ℕ). nat_le e.1 EQUAL) es) h in
    elim (bytes_eq text e.0) as (λ b. cond b e.1 (lookup es text other) ≤ EQUAL) [
      | true ↦ leb-true e.1 EQUAL p.0
      | false ↦ below es text other p.1 l
    ]

no_number : (b : Bool) → PLAIN_WORD ≤ cond b 1 2 → ⊥
no_number true l = omega arith
no_number false l = omega arith

-- what is so of each word is so of each token of such a kind
pub for_words : (P : Token → Type 0) → ((name : List ℕ) → P (Word name)) → (token : Token)
    → PLAIN_WORD ≤ kind_of token → P token
for_words P f (Word name) l = f name
for_words P f (Num n) l = absurd (no_number (is_bit n) l)
for_words P f (Dur count unit) l = absurd (omega arith)
for_words P f (Str content) l = absurd (omega arith)
for_words P f (Sym b) l = absurd (omega (arith, below signs (b ∷ []) EQUAL refl (omega arith)))
for_words P f Le l = absurd (omega arith)
for_words P f Ge l = absurd (omega arith)
for_words P f Ne l = absurd (omega arith)

spelled_name : (token : Token) (text : List ℕ) → IsToken text token → PLAIN_WORD ≤ kind_of token
    → IsName (word_of token)
spelled_name token text h l = for_words (λ t. IsToken text t → IsName (word_of t))
    (λ name spells. subst IsName (sym spells.1) (word_name text spells.0)) token l h

-- ---- sets of kinds of words

abbrev pub are_words : Kinds → Bool
are_words s = list_all (λ (i : ℕ × ℕ). nat_le PLAIN_WORD i.0) s

of_first : (low high k : ℕ) (rest : Bool) → PLAIN_WORD ≤ low → ((nat_le low k && nat_le k high) || rest) ≡ true
    → (rest ≡ true → PLAIN_WORD ≤ k) → PLAIN_WORD ≤ k
of_first low high k true l h more = more refl
of_first low high k false l h more = let p : low ≤ k = grind (arith, nat_tests) in omega arith

words_alone : (s : Kinds) (k : ℕ) → are_words s ≡ true → has k s ≡ true → PLAIN_WORD ≤ k
words_alone [] k w h = absurd (cc)
words_alone (i ∷ s) k w h =
    let p = and_parts (nat_le PLAIN_WORD i.0) (are_words s) w in
    of_first i.0 i.1 k (has k s) (leb-true PLAIN_WORD i.0 p.0) h (λ m. words_alone s k p.1 m)

pub token_name : (s : Kinds) (t : Lexeme) → are_words s ≡ true → real t → fits s (λ _. true) t ≡ true
    → IsName (word_of t.token)
token_name s t w (kind, text, spells) h =
    let l : PLAIN_WORD ≤ t.kind = words_alone s t.kind w (and_parts (has t.kind s) true h).0 in
    spelled_name t.token text spells (subst (λ k. PLAIN_WORD ≤ k) kind l)
