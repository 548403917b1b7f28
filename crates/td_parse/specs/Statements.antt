-- Which texts are statements, and what is answered of any text.
use Rattle.std.specs.Prelude.{◌≡◌, ◌<◌, ◌≤◌, ◌+◌, ◌-◌, ◌==◌, ◌||◌, ◌⊎◌, ℕ, Bool, true, false, not, nat_lt, if◌then◌else◌, List, [], ◌∷◌, ◌++◌, length, map, drop, Option, Some, None}
use Rattle.std.specs.List.{list_any}
use lib.Chars.{codes}
use Rattle.td_limits.specs.declared.limits.TheConstants.{NAME_BYTES, STATEMENT_BYTES}
use Rattle.td_lex.specs.declared.kinds.Token.{Token}
use Rattle.td_lex.specs.declared.kinds.Token.TheVariants.{Dur, Sym}
use Rattle.td_lex.specs.declared.kinds.Spanned.{Spanned}
use Rattle.td_lex.specs.Tokens.{Reads, IsTokens, NoToken, WideFirst}
use Rattle.td_cols.specs.declared.kinds.Kind.{Kind}
use Rattle.td_cols.specs.declared.kinds.Kind.TheVariants as kind
use Rattle.td_model.specs.declared.catalog.Column.{Column}
use Rattle.td_model.specs.declared.report.Cause.{Cause}
use Rattle.td_model.specs.declared.report.Cause.TheVariants.{TooLong, Syntax, NameTooLong, TypeNotBuilt, OptionNotBuilt}
use Rattle.td_model.specs.declared.language.Stmt.{Stmt}
use Rattle.td_model.specs.declared.language.Stmt.TheVariants as stmt
use Rattle.td_grammar.specs.declared.lexemes.Lexeme.{Lexeme}
use Rattle.td_grammar.specs.declared.kinds.TheConstants.{SEMICOLON, NOT_BUILT}
use Rattle.td_grammar.specs.Kinds.{kind_of, lexeme_of, first_byte}
use Rattle.td_grammar.specs.Words.{word_of}
use Rattle.td_grammar.specs.Grammar.{Derives, Begins, FailsAt}
use Rattle.td_parse.specs.Productions.{statement_text}

-- tokens with their kinds
abbrev pub lexemes : List Spanned → List Lexeme
lexemes ts = map (λ t. lexeme_of t.token) ts

-- the sign that may end a statement
abbrev pub semicolon : Lexeme
semicolon = record { kind = SEMICOLON; token = Sym (first_byte (codes ";")) }

-- The tokens are a statement, and this is its tree.
abbrev pub IsStatement : List Lexeme → Stmt → Type 0
IsStatement ts tree = Derives (tt {0}) statement_text ts tree

-- some statement begins with these tokens
abbrev pub BeginsStatement : List Lexeme → Type 0
BeginsStatement ts = Begins IsStatement ts

-- the cause where a token of this kind, at this place, is the first that fails
abbrev pub cause_of_kind : ℕ → ℕ → Cause
cause_of_kind kind at = if kind == NOT_BUILT then OptionNotBuilt else Syntax at

abbrev pub cause_by : Spanned → Cause
cause_by t = cause_of_kind (kind_of t.token) t.at

-- the text ends here, and these tokens are no statement
abbrev pub EndsEarly : List ℕ → List Spanned → List ℕ → Cause → Type 0
EndsEarly text ts rest cause = (rest ≡ []) × ((tree : Stmt) → IsStatement (lexemes ts) tree → ⊥) ×
    (cause ≡ Syntax (length text))

-- no statement begins with these tokens and the next one
abbrev pub TokenFails : List ℕ → List Spanned → Cause → Type 0
TokenFails text ts cause = (t : Spanned) × (after : List ℕ) × Reads 0 text (ts ++ t ∷ []) after ×
    (BeginsStatement (lexemes (ts ++ t ∷ [])) → ⊥) × (cause ≡ cause_by t)

-- no token stands next, or a number or a duration that is too wide
abbrev pub NoTokenStands : List ℕ → List ℕ → Cause → Type 0
NoTokenStands text rest cause = (NoToken rest ⊎ WideFirst rest) × (at : ℕ) × (at + length rest ≡ length text) ×
    (cause ≡ Syntax at)

-- The text is no statement: some statement begins with its first tokens, and none goes on as it does. The cause names
-- the place of what follows these tokens.
abbrev pub Fails : List ℕ → Cause → Type 0
Fails text cause = (ts : List Spanned) × (rest : List ℕ) × Reads 0 text ts rest × BeginsStatement (lexemes ts) ×
    (EndsEarly text ts rest cause ⊎ (TokenFails text ts cause ⊎ NoTokenStands text rest cause))

-- A name is longer than a name may be: so long a word is a name wherever it stands in a statement.
abbrev pub has_long_name : List Lexeme → Bool
has_long_name ls = list_any (λ l. nat_lt NAME_BYTES (length (word_of l.token))) ls

-- a type stands there that is not built there
abbrev pub is_wide : Kind → Bool
is_wide kind.Wide = true
is_wide _ = false

abbrev pub any_wide : List Column → Bool
any_wide columns = list_any (λ c. is_wide c.kind) columns

abbrev pub any_wide_tag : Option (List Column) → Bool
any_wide_tag None = false
any_wide_tag (Some tags) = any_wide tags

abbrev pub has_type_not_built : Stmt → Bool
has_type_not_built (stmt.MakeStable name columns tags) = any_wide columns || any_wide_tag tags
has_type_not_built (stmt.MakeTable name columns) = any_wide columns
has_type_not_built _ = false

-- a duration in b, u, n or y
abbrev pub is_unit_not_built : ℕ → Bool
is_unit_not_built u = list_any (λ b. u == b) (codes "buny")

abbrev pub is_duration_not_built : Token → Bool
is_duration_not_built (Dur count unit) = is_unit_not_built unit
is_duration_not_built _ = false

-- IGNORE EXPIRED 1, or FILL_HISTORY 0
abbrev pub has_option_not_built : Stmt → Bool
has_option_not_built (stmt.MakeStream def) = def.ignore_expired || not def.fill_history
has_option_not_built _ = false

-- what is answered of a text that is a statement: its tree, or the first cause that applies
abbrev pub judged : List Lexeme → Stmt → Stmt
judged ls tree =
    if has_long_name ls then stmt.Wrong NameTooLong
    else if has_type_not_built tree then stmt.Wrong TypeNotBuilt
    else if list_any (λ l. is_duration_not_built l.token) ls || has_option_not_built tree then stmt.Wrong OptionNotBuilt
    else tree

-- a cause that was found, or else the tree
abbrev pub or_wrong : Option Cause → Stmt → Stmt
or_wrong None tree = tree
or_wrong (Some cause) tree = stmt.Wrong cause

abbrev pub Parsed : List ℕ → Stmt → Type 0
Parsed text answer = (ts : List Spanned) × (tree : Stmt) × IsTokens text ts × IsStatement (lexemes ts) tree ×
    (answer ≡ judged (lexemes ts) tree)

abbrev pub Refused : List ℕ → Stmt → Type 0
Refused text answer = (cause : Cause) × Fails text cause × (answer ≡ stmt.Wrong cause)

-- What is answered of a text. One that is longer than a statement may be is too long, whatever stands in it.
abbrev pub IsAnswer : List ℕ → Stmt → Type 0
IsAnswer text answer = ((STATEMENT_BYTES < length text) × (answer ≡ stmt.Wrong TooLong)) ⊎
    ((length text ≤ STATEMENT_BYTES) × (Parsed text answer ⊎ Refused text answer))

-- where the tokens begin
abbrev pub places : List Spanned → List ℕ
places ts = map (λ t. t.at) ts

-- the cause where these tokens, at these places, are left at the first failure, and the text or what can be read of
-- it ends there
abbrev pub cause_of_rest : List Lexeme → List ℕ → ℕ → Cause
cause_of_rest [] ats end = Syntax end
cause_of_rest (l ∷ ls) [] end = Syntax end
cause_of_rest (l ∷ ls) (at ∷ ats) end = cause_of_kind l.kind at

abbrev pub cause_of : List Lexeme → List ℕ → ℕ → ℕ → Cause
cause_of ls ats left end = cause_of_rest (drop (length ls - left) ls) (drop (length ls - left) ats) end

abbrev pub FailsIn : List Lexeme → List ℕ → ℕ → Stmt → Type 0
FailsIn ls ats end answer = (left : ℕ) × FailsAt IsStatement ls left × (answer ≡ stmt.Wrong (cause_of ls ats left end))

-- what is answered of all tokens of a text of this length
abbrev pub OfTokens : List Lexeme → List ℕ → ℕ → Stmt → Type 0
OfTokens ls ats end answer = ((tree : Stmt) × IsStatement ls tree × (answer ≡ judged ls tree))
    ⊎ FailsIn ls ats end answer

-- what is answered of the tokens before a place at which there is none
abbrev pub OfFront : List Lexeme → List ℕ → ℕ → Stmt → Type 0
OfFront ls ats at answer = ((tree : Stmt) × IsStatement ls tree × (answer ≡ stmt.Wrong (Syntax at)))
    ⊎ FailsIn ls ats at answer
