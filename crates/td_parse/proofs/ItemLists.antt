-- The lists of the grammar.
use Rattle.std.proofs.Common.{◌≡◌, ℕ, List, [], ◌∷◌, ◌++◌, Ok, Err, refl, ap}
use Rattle.td_grammar.specs.declared.lexemes.Lexeme.{Lexeme}
use Rattle.td_grammar.specs.declared.kinds.TheConstants as kinds
use Rattle.td_grammar.specs.Grammar.{read, only, ◌>>=◌, as_value}
use Rattle.td_grammar.specs.Words.{list_from, states_from}
use Rattle.td_grammar.proofs.Forms.{Lists, lists_of, list_begins, States, states_of}
use Rattle.td_model.specs.declared.language.Lit.{Lit}
use Rattle.td_clauses.specs.Productions.{a_lit, lits, truth, word_lit}
use Rattle.td_parse.specs.Productions.{stream_option, a_trigger, further_group, group, groups, is_new, no_options, options, with_option}

pub groups_laws : Lists further_group (only kinds.COMMA ++ only kinds.OPEN_PAREN)
unfolding further_group group lits a_lit word_lit truth
groups_laws = lists_of further_group refl refl

pub groups_begins : (ts : List Lexeme) (a : List Lit) (rest : List Lexeme) → read (tt {0}) group ts ≡ Ok (a, rest) → list_from further_group (a ∷ []) rest ≡ read (tt {0}) groups ts
unfolding groups
groups_begins ts a rest h = list_begins group further_group ts (a, rest) h

pub groups_fail : (ts : List Lexeme) (n : ℕ) → read (tt {0}) group ts ≡ Err n → read (tt {0}) groups ts ≡ Err n
unfolding groups
groups_fail ts n h = ap (λ r. r >>= λ a. as_value (λ more. a.0 ∷ more) (list_from further_group [] a.1)) h

pub options_laws : States stream_option ((only kinds.TRIGGER ++ only kinds.WATERMARK) ++ (only kinds.IGNORE ++ only kinds.FILL_HISTORY)) is_new with_option
unfolding stream_option a_trigger
options_laws = states_of stream_option is_new with_option refl refl

pub options_begins : (ts : List Lexeme) → states_from stream_option is_new with_option no_options ts ≡ read (tt {0}) options ts
unfolding options
options_begins ts = refl
