-- The grammar of statements as the language's description writes it: each statement whole, and alternatives in its
-- order, whatever lookahead they take. Productions that are read as they are written are those of `Productions`.
use Rattle.std.specs.Prelude.{ℕ, List, Option, Some, None, refl}
use Rattle.td_cols.specs.declared.kinds.Kind.{Kind}
use Rattle.td_cols.specs.declared.kinds.Kind.TheVariants as kind
use Rattle.td_model.specs.declared.catalog.Column.{Column}
use Rattle.td_model.specs.declared.language.Lit.{Lit}
use Rattle.td_model.specs.declared.language.Query.{Query}
use Rattle.td_model.specs.declared.language.Trigger.TheVariants as trigger
use Rattle.td_model.specs.declared.language.Stmt.{Stmt}
use Rattle.td_model.specs.declared.language.Stmt.TheVariants as stmt
use Rattle.td_grammar.specs.Grammar.{G, valued, both, under, maybe, either, loop}
use Rattle.td_grammar.specs.declared.kinds.TheConstants as kinds
use Rattle.td_grammar.specs.Words.{name, number, zero_or_one, duration, same_name, word, sign, at_most, at_least, ◌▷◌, ◌◁◌, listed, comma_list, perhaps}
use Rattle.td_clauses.specs.Productions.{inside, names, a_bound}
use Rattle.td_parse.specs.declared.drafts.StreamOption.{StreamOption}
use Rattle.td_parse.specs.declared.drafts.StreamOption.TheVariants as choice
use Rattle.td_parse.specs.declared.drafts.Options.{Options}
use Rattle.td_parse.specs.Productions.{whole_number, column_not_built, tag_not_built, sizes, text_kind, is_new, with_option, no_options, stream_of, body_of, table_of}
use Rattle.td_clauses.specs.Written.{written_lits, written_query}

-- type := BOOL | TIMESTAMP | ( TINYINT | SMALLINT | INT | INTEGER | BIGINT ) [ UNSIGNED ] | one not built [ ( Num [ ,
-- Num ] ) ]
unfoldable pub written_type : {E : Type 0} → G E Kind
written_type = either (valued (λ _. kind.Bool) (word kinds.BOOL refl))
    (either (valued (λ _. kind.Time) (word kinds.TIMESTAMP refl))
    (either whole_number (valued (λ _. kind.Wide) (column_not_built ▷ sizes))))

-- cols := name type { , name type }
unfoldable pub written_col : {E : Type 0} → G E Column
written_col = both (λ n k. record { name = n; kind = k }) name written_type

unfoldable pub written_cols : {E : Type 0} → G E (List Column)
written_cols = comma_list written_col

-- tags := the same, but that VARCHAR and BINARY have one number in parentheses
unfoldable pub written_tag_type : {E : Type 0} → G E Kind
written_tag_type = either (valued (λ _. kind.Bool) (word kinds.BOOL refl))
    (either (valued (λ _. kind.Time) (word kinds.TIMESTAMP refl))
    (either whole_number
    (either text_kind (valued (λ _. kind.Wide) (tag_not_built ▷ sizes)))))

unfoldable pub written_tag : {E : Type 0} → G E Column
written_tag = both (λ n k. record { name = n; kind = k }) name written_tag_type

unfoldable pub written_tags : {E : Type 0} → G E (List Column)
written_tags = comma_list written_tag

-- option := TRIGGER AT_ONCE | TRIGGER WINDOW_CLOSE | TRIGGER MAX_DELAY Dur | WATERMARK Dur | IGNORE EXPIRED bit |
-- FILL_HISTORY bit
unfoldable pub written_option : {E : Type 0} → G E StreamOption
written_option = either
    (valued choice.Trigger (word kinds.TRIGGER refl ▷ valued (λ _. trigger.AtOnce) (word kinds.AT_ONCE refl)))
    (either (valued choice.Trigger
    (word kinds.TRIGGER refl ▷ valued (λ _. trigger.WindowClose) (word kinds.WINDOW_CLOSE refl)))
    (either (valued choice.Trigger
    (word kinds.TRIGGER refl ▷ valued trigger.MaxDelay (word kinds.MAX_DELAY refl ▷ duration)))
    (either (valued choice.Watermark (word kinds.WATERMARK refl ▷ duration))
    (either (valued choice.Expired (word kinds.IGNORE refl ▷ word kinds.EXPIRED refl ▷ zero_or_one))
    (valued choice.History (word kinds.FILL_HISTORY refl ▷ zero_or_one))))))

-- { option }, each kind at most once
unfoldable pub written_options : {E : Type 0} → G E Options
written_options = loop no_options is_new with_option written_option

-- CREATE STABLE name ( cols ) [ TAGS ( tags ) ]
unfoldable pub written_stable : {E : Type 0} → G E Stmt
written_stable = word kinds.CREATE refl ▷ word kinds.STABLE refl ▷ both
    (λ n (r : List Column × Option (List Column)). stmt.MakeStable n r.0 r.1) name
    (both (λ c t. (c, t)) (inside written_cols) (maybe None Some (word kinds.TAGS refl ▷ inside written_tags)))

-- CREATE TABLE name ( cols ) [ TAGS ( tags ) ], which with TAGS makes a supertable
unfoldable pub written_table : {E : Type 0} → G E Stmt
written_table = word kinds.CREATE refl ▷ word kinds.TABLE refl ▷ both
    (λ n (r : List Column × Option (List Column)). table_of n (body_of r.0 r.1)) name
    (both (λ c t. (c, t)) (inside written_cols) (maybe None Some (word kinds.TAGS refl ▷ inside written_tags)))

-- CREATE TABLE name USING name TAGS ( lits )
unfoldable pub written_sub : {E : Type 0} → G E Stmt
written_sub = word kinds.CREATE refl ▷ word kinds.TABLE refl ▷ both
    (λ n (r : List ℕ × List Lit). stmt.MakeSub n r.0 r.1) name
    (word kinds.USING refl ▷ both (λ s l. (s, l)) name (word kinds.TAGS refl ▷ inside written_lits))

-- INSERT INTO name [ ( name { , name } ) ] VALUES group { [,] group }, and group := ( lits )
unfoldable pub written_insert : {E : Type 0} → G E Stmt
written_insert = word kinds.INSERT refl ▷ word kinds.INTO refl ▷ both
    (λ t (r : Option (List (List ℕ)) × List (List Lit)). stmt.Insert t r.0 r.1) name
    (both (λ c g. (c, g)) (maybe None Some (inside names))
    (word kinds.VALUES refl ▷ listed (inside written_lits) (perhaps (sign kinds.COMMA refl) ▷ inside written_lits)))

-- DELETE FROM name WHERE name >= tlit AND name <= tlit, with one name in both places
unfoldable pub written_delete : {E : Type 0} → G E Stmt
written_delete = word kinds.DELETE refl ▷ word kinds.FROM refl ▷ both
    (λ t (r : List ℕ × (Lit × Lit)). stmt.Delete t r.0 r.1.0 r.1.1) name
    (word kinds.WHERE refl ▷ under (λ c r. (c, r)) name
    (at_least ▷ both (λ lo hi. (lo, hi)) a_bound (word kinds.AND refl ▷ same_name ▷ at_most ▷ a_bound)))

-- CREATE STREAM name { option } INTO name AS query
unfoldable pub written_stream : {E : Type 0} → G E Stmt
written_stream = word kinds.CREATE refl ▷ word kinds.STREAM refl ▷ both
    (λ n (r : Options × (List ℕ × Query)). stmt.MakeStream (stream_of n r.0 r.1.0 r.1.1)) name
    (both (λ o r. (o, r)) written_options
    (word kinds.INTO refl ▷ both (λ t q. (t, q)) name (word kinds.AS refl ▷ written_query)))

-- OPEN name AS query | FETCH name Num | CLOSE name
unfoldable pub written_cursor : {E : Type 0} → G E Stmt
written_cursor = either (word kinds.OPEN refl ▷ both stmt.OpenCursor name (word kinds.AS refl ▷ written_query))
    (either (word kinds.FETCH refl ▷ both stmt.Fetch name number)
    (word kinds.CLOSE refl ▷ valued stmt.CloseCursor name))

-- COMMIT | MERGE | SWEEP | TRIM | STEP name
unfoldable pub written_maintenance : {E : Type 0} → G E Stmt
written_maintenance = either (valued (λ _. stmt.Commit) (word kinds.COMMIT refl))
    (either (valued (λ _. stmt.Merge) (word kinds.MERGE refl))
    (either (valued (λ _. stmt.Sweep) (word kinds.SWEEP refl))
    (either (valued (λ _. stmt.Trim) (word kinds.TRIM refl)) (word kinds.STEP refl ▷ valued stmt.Step name))))

unfoldable pub written_statement : {E : Type 0} → G E Stmt
written_statement = either written_stable
    (either written_table
    (either written_sub
    (either written_insert
    (either written_delete
    (either written_stream
    (either (word kinds.DROP refl ▷ word kinds.STREAM refl ▷ valued stmt.DropStream name)
    (either (valued stmt.Select written_query)
    (either written_cursor written_maintenance))))))))

-- One `;` may end a statement; then nothing follows.
unfoldable pub written_text : G (Unit {0}) Stmt
written_text = written_statement ◁ perhaps (sign kinds.SEMICOLON refl)
