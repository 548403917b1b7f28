-- Grammars of one token, and the forms that productions are made of.
use Rattle.std.specs.Prelude.{◌≡◌, ℕ, ℤ, pos, Bool, true, false, ◌&&◌, ◌||◌, ◌==◌, ◌+◌, ◌*◌, nat_lt, if◌then◌else◌, List, [], ◌∷◌, ◌++◌, length, refl}
use Rattle.std.proofs.Common.{ap, le_refl}
use Rattle.std.proofs.lemmas.Bool.{and_parts, eqb-true, le-leb}
use Rattle.std.proofs.lemmas.Slice.Eq.{bytes_eq-Decides}
use Rattle.std.specs.Str.{bytes_eq}
use Rattle.std.specs.Ordering.{int_eq}
use lib.Chars.{codes}
use Rattle.td_limits.specs.declared.limits.TheConstants.{LONGEST_DURATION}
use Rattle.td_lex.specs.declared.kinds.Token.{Token}
use Rattle.td_lex.specs.declared.kinds.Token.TheVariants.{Word, Num, Dur, Str, Sym, Le, Ge, Ne}
use Rattle.td_lex.specs.Tokens.{is_symbol}
use Rattle.td_grammar.specs.declared.kinds.TheConstants as kinds
use Rattle.td_grammar.specs.declared.lexemes.Lexeme.{Lexeme}
use Rattle.td_grammar.specs.Kinds.{Table, lookup, words, signs, kind_of_word, kind_of_sign, spelling, first_byte}
use Rattle.td_grammar.specs.Names.{is_word, as_name}
use Rattle.td_grammar.specs.Grammar.{Kinds, only, within, has, fits, Reading, looped, G, first, read, one, token, both, maybe, loop}
use Rattle.td_grammar.specs.Samples.{both_true, zero_text, second_text, empty_text, word_text, name_kind, name_text}

-- what tokens say
abbrev pub word_of : Token → List ℕ
word_of (Word text) = text
word_of (Num n) = []
word_of (Dur count unit) = []
word_of (Str text) = []
word_of (Sym b) = []
word_of Le = []
word_of Ge = []
word_of Ne = []

abbrev pub number_of : Token → ℤ
number_of (Word text) = pos 0
number_of (Num n) = n
number_of (Dur count unit) = pos 0
number_of (Str text) = pos 0
number_of (Sym b) = pos 0
number_of Le = pos 0
number_of Ge = pos 0
number_of Ne = pos 0

abbrev pub text_of : Token → List ℕ
text_of (Word text) = []
text_of (Num n) = []
text_of (Dur count unit) = []
text_of (Str text) = text
text_of (Sym b) = []
text_of Le = []
text_of Ge = []
text_of Ne = []

-- the milliseconds of the units a, s, m, h, d, w; 0 of those that are not built
abbrev pub units : Table
units = (codes "a", 1) ∷ (codes "s", 1000) ∷ (codes "m", 60 * 1000) ∷ (codes "h", 3600 * 1000) ∷
    (codes "d", 24 * 3600 * 1000) ∷ (codes "w", 7 * 24 * 3600 * 1000) ∷ []

abbrev pub unit_of : ℕ → ℕ
unit_of u = lookup units (u ∷ []) 0

-- a number of milliseconds; above the longest duration it is kept as one more than that
abbrev pub kept : ℕ → ℕ
kept n = if nat_lt LONGEST_DURATION n then LONGEST_DURATION + 1 else n

abbrev pub duration_of : Token → ℕ
duration_of (Word text) = 0
duration_of (Num n) = 0
duration_of (Dur count unit) = kept (count * unit_of unit)
duration_of (Str text) = 0
duration_of (Sym b) = 0
duration_of Le = 0
duration_of Ge = 0
duration_of Ne = 0

-- whether some word is of this kind
abbrev pub is_word_kind : ℕ → Bool
is_word_kind k = (k == kind_of_word (spelling words k)) && is_word (spelling words k)

-- whether some sign is of this kind
abbrev pub is_sign_kind : ℕ → Bool
is_sign_kind k = (k == kind_of_sign (first_byte (spelling signs k))) && is_symbol (first_byte (spelling signs k))

pub fits_within : (s : Kinds) (k : ℕ) (t : Token) → has k s ≡ true → fits s (λ _. true)
    (record { kind = k; token = t }) ≡ true
fits_within s k t h = ap (λ b. b && true) h

pub in_only : (k : ℕ) → has k (only k) ≡ true
in_only k = ap (λ b. (b && b) || false) (le-leb k k (le_refl k))

-- a word of these kinds, with its value; the word of kind k is one of them
abbrev pub word_in : {E A : Type 0} → (s : Kinds) → (Lexeme → A) → (k : ℕ) → is_word_kind k ≡ true → has k s ≡ true
    → G E A
word_in s value k is member =
    let p = and_parts (k == kind_of_word (spelling words k)) (is_word (spelling words k)) is in
    token s (λ _ _. true) value (λ _. record { kind = k; token = Word (spelling words k) })
    (λ _. fits_within s k (Word (spelling words k)) member)
    (λ _. (eqb-true k (kind_of_word (spelling words k)) p.0, spelling words k, word_text (spelling words k) p.1))

-- the word of this kind, in any case
abbrev pub word : {E : Type 0} → (k : ℕ) → is_word_kind k ≡ true → G E (Unit {0})
word k is = word_in (only k) (λ _. tt) k is (in_only k)

-- the sign of this kind
abbrev pub sign : {E : Type 0} → (k : ℕ) → is_sign_kind k ≡ true → G E (Unit {0})
sign k is =
    let p = and_parts (k == kind_of_sign (first_byte (spelling signs k)))
    (is_symbol (first_byte (spelling signs k))) is in
    token (only k) (λ _ _. true) (λ _. tt) (λ _. record { kind = k; token = Sym (first_byte (spelling signs k)) })
    (λ _. fits_within (only k) k (Sym (first_byte (spelling signs k))) (in_only k))
    (λ _. (
      eqb-true k (kind_of_sign (first_byte (spelling signs k))) p.0,
      first_byte (spelling signs k) ∷ [],
      (refl, p.1),
    ))

abbrev pub comma : {E : Type 0} → G E (Unit {0})
comma = sign kinds.COMMA refl

-- `<=` and `>=`
abbrev pub at_most : {E : Type 0} → G E (Unit {0})
at_most = token (only kinds.AT_MOST) (λ _ _. true) (λ _. tt) (λ _. record { kind = kinds.AT_MOST; token = Le })
    (λ _. refl) (λ _. (refl, codes "<=", refl))

abbrev pub at_least : {E : Type 0} → G E (Unit {0})
at_least = token (only kinds.AT_LEAST) (λ _ _. true) (λ _. tt) (λ _. record { kind = kinds.AT_LEAST; token = Ge })
    (λ _. refl) (λ _. (refl, codes ">=", refl))

-- a word that is neither reserved nor one that is not built
abbrev pub name : {E : Type 0} → G E (List ℕ)
name = word_in (within kinds.NAMES) (λ t. word_of t.token) kinds.PLAIN_WORD refl refl

abbrev pub number : {E : Type 0} → G E ℤ
number = token (within kinds.NUMBERS) (λ _ _. true) (λ t. number_of t.token)
    (λ _. record { kind = kinds.BIT; token = Num (pos 0) }) (λ _. refl) (λ _. (refl, codes "0", zero_text))

abbrev pub zero_or_one : {E : Type 0} → G E Bool
zero_or_one = token (only kinds.BIT) (λ _ _. true) (λ t. int_eq (number_of t.token) (pos 1))
    (λ _. record { kind = kinds.BIT; token = Num (pos 0) }) (λ _. refl) (λ _. (refl, codes "0", zero_text))

abbrev pub quoted_text : {E : Type 0} → G E (List ℕ)
quoted_text = token (only kinds.TEXT) (λ _ _. true) (λ t. text_of t.token)
    (λ _. record { kind = kinds.TEXT; token = Str [] }) (λ _. refl) (λ _. (refl, codes "''", empty_text))

abbrev pub duration : {E : Type 0} → G E ℕ
duration = token (only kinds.DURATION) (λ _ _. true) (λ t. duration_of t.token)
    (λ _. record { kind = kinds.DURATION; token = Dur 1 (first_byte (codes "s")) }) (λ _. refl)
    (λ _. (refl, codes "1s", second_text))

-- the name in force
abbrev pub same_name : G (List ℕ) (Unit {0})
same_name = token (within kinds.NAMES) (λ name t. bytes_eq (word_of t.token) (as_name name)) (λ _. tt {0})
    (λ name. record { kind = kind_of_word (as_name name); token = Word (as_name name) })
    (λ name. both_true (has (kind_of_word (as_name name)) (within kinds.NAMES))
    (bytes_eq (as_name name) (as_name name)) (name_kind name)
    ((bytes_eq-Decides (as_name name) (as_name name)).1 refl)) (λ name. (refl, as_name name, name_text name))

-- reading one token that says no more
abbrev pub skipped : ℕ → List Lexeme → Reading (Unit {0})
skipped k ts = one (fits (only k) (λ _. true)) (λ _. tt) ts

-- the value of the second, of the first
infixr 6 ◌▷◌
abbrev pub ◌▷◌ : {E A B : Type 0} → G E A → G E B → G E B
g ▷ h = both (λ a b. b) g h

infixr 6 ◌◁◌
abbrev pub ◌◁◌ : {E A B : Type 0} → G E A → G E B → G E A
g ◁ h = both (λ a b. a) g h

abbrev pub anything : {S : Type 0} → S → Lexeme → Bool
anything s t = true

abbrev pub push : {A : Type 0} → List A → A → List A
push all a = all ++ a ∷ []

-- one, and any number of further ones
abbrev pub listed : {E A : Type 0} → G E A → G E A → G E (List A)
listed head item = both (λ a more. a ∷ more) head (loop [] anything push item)

-- items, parted by commas
abbrev pub comma_list : {E A : Type 0} → G E A → G E (List A)
comma_list item = listed item (comma ▷ item)

-- there or not
abbrev pub perhaps : {E A : Type 0} → G E A → G E (Unit {0})
perhaps g = maybe (tt {0}) (λ _. tt {0}) g

-- reading further items of a list, after those that are read
abbrev pub list_from : {A : Type 0} → G (Unit {0}) A → List A → List Lexeme → Reading (List A)
list_from item all ts = looped (first item) anything push (λ now us. read (tt {0}) item us) (length ts) all ts

-- reading further items, from a state
abbrev pub states_from : {S A : Type 0} → G (Unit {0}) A → (S → Lexeme → Bool) → (S → A → S) → S → List Lexeme
    → Reading S
states_from item ok next s ts = looped (first item) ok next (λ now us. read (tt {0}) item us) (length ts) s ts
