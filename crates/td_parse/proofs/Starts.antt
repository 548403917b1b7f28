-- The tokens that productions begin with.
use Rattle.std.proofs.Common.{◌≡◌, List, refl}
use Rattle.td_grammar.specs.declared.lexemes.Lexeme.{Lexeme}
use Rattle.td_grammar.specs.declared.kinds.TheConstants as kinds
use Rattle.td_grammar.specs.Grammar.{starts, first, only}
use Rattle.td_clauses.specs.Productions.{query}
use Rattle.td_parse.specs.Productions.{a_trigger, close_cursor, create, delete, drop_stream, fetch, insert, of_stable, open_cursor, stable, step, table, tags, text_kind}

pub starts_tags : (ts : List Lexeme) → starts (first (tags {E = Unit {0}})) ts ≡ starts (only kinds.TAGS) ts
unfolding tags
starts_tags ts = refl

pub starts_of_stable : (ts : List Lexeme) → starts (first (of_stable {E = Unit {0}})) ts ≡ starts (only kinds.USING) ts
unfolding of_stable
starts_of_stable ts = refl

pub starts_text_kind : (ts : List Lexeme) → starts (first (text_kind {E = Unit {0}})) ts ≡ starts (only kinds.VARCHAR) ts
unfolding text_kind
starts_text_kind ts = refl

pub starts_a_trigger : (ts : List Lexeme) → starts (first (a_trigger {E = Unit {0}})) ts ≡ starts (only kinds.TRIGGER) ts
unfolding a_trigger
starts_a_trigger ts = refl

pub starts_stable : (ts : List Lexeme) → starts (first (stable {E = Unit {0}})) ts ≡ starts (only kinds.STABLE) ts
unfolding stable
starts_stable ts = refl

pub starts_table : (ts : List Lexeme) → starts (first (table {E = Unit {0}})) ts ≡ starts (only kinds.TABLE) ts
unfolding table
starts_table ts = refl

pub starts_query : (ts : List Lexeme) → starts (first (query {E = Unit {0}})) ts ≡ starts (only kinds.SELECT) ts
unfolding query
starts_query ts = refl

pub starts_drop_stream : (ts : List Lexeme) → starts (first (drop_stream {E = Unit {0}})) ts ≡ starts (only kinds.DROP) ts
unfolding drop_stream
starts_drop_stream ts = refl

pub starts_open_cursor : (ts : List Lexeme) → starts (first (open_cursor {E = Unit {0}})) ts ≡ starts (only kinds.OPEN) ts
unfolding open_cursor
starts_open_cursor ts = refl

pub starts_fetch : (ts : List Lexeme) → starts (first (fetch {E = Unit {0}})) ts ≡ starts (only kinds.FETCH) ts
unfolding fetch
starts_fetch ts = refl

pub starts_close_cursor : (ts : List Lexeme) → starts (first (close_cursor {E = Unit {0}})) ts ≡ starts (only kinds.CLOSE) ts
unfolding close_cursor
starts_close_cursor ts = refl

pub starts_step : (ts : List Lexeme) → starts (first (step {E = Unit {0}})) ts ≡ starts (only kinds.STEP) ts
unfolding step
starts_step ts = refl

pub starts_create : (ts : List Lexeme) → starts (first (create {E = Unit {0}})) ts ≡ starts (only kinds.CREATE) ts
unfolding create
starts_create ts = refl

pub starts_insert : (ts : List Lexeme) → starts (first (insert {E = Unit {0}})) ts ≡ starts (only kinds.INSERT) ts
unfolding insert
starts_insert ts = refl

pub starts_delete : (ts : List Lexeme) → starts (first (delete {E = Unit {0}})) ts ≡ starts (only kinds.DELETE) ts
unfolding delete
starts_delete ts = refl
