-- The tokens that clauses begin with.
use Rattle.std.proofs.Common.{◌≡◌, List, ◌++◌, refl}
use Rattle.td_grammar.specs.declared.lexemes.Lexeme.{Lexeme}
use Rattle.td_grammar.specs.declared.kinds.TheConstants as kinds
use Rattle.td_grammar.specs.Grammar.{starts, first, only, within}
use Rattle.td_clauses.specs.Productions.{between, count_item, count_argument, function_item, interval, null_test, session, state_window, window}

pub starts_count_argument : (ts : List Lexeme) → starts (first (count_argument {E = Unit {0}})) ts ≡ starts (only kinds.OPEN_PAREN) ts
unfolding count_argument
starts_count_argument ts = refl

pub starts_count_item : (ts : List Lexeme) → starts (first (count_item {E = Unit {0}})) ts ≡ starts (only kinds.COUNT) ts
unfolding count_item
starts_count_item ts = refl

pub starts_function_item : (ts : List Lexeme) → starts (first (function_item {E = Unit {0}})) ts ≡ starts (within kinds.COLUMN_FUNCTIONS) ts
unfolding function_item
starts_function_item ts = refl

pub starts_between : (ts : List Lexeme) → starts (first (between {E = Unit {0}})) ts ≡ starts (only kinds.BETWEEN) ts
unfolding between
starts_between ts = refl

pub starts_null_test : (ts : List Lexeme) → starts (first (null_test {E = Unit {0}})) ts ≡ starts (only kinds.IS) ts
unfolding null_test
starts_null_test ts = refl

pub starts_interval : (ts : List Lexeme) → starts (first (interval {E = Unit {0}})) ts ≡ starts (only kinds.INTERVAL) ts
unfolding interval
starts_interval ts = refl

pub starts_session : (ts : List Lexeme) → starts (first (session {E = Unit {0}})) ts ≡ starts (only kinds.SESSION) ts
unfolding session
starts_session ts = refl

pub starts_window : (ts : List Lexeme) → starts (first (window {E = Unit {0}})) ts ≡ starts (only kinds.INTERVAL ++ (only kinds.SESSION ++ only kinds.STATE_WINDOW)) ts
unfolding window interval session state_window
starts_window ts = refl
