-- The productions of statements, in the order of the language's description, above those of their clauses. A word in
-- capitals is that word in any case.
use Rattle.std.specs.Prelude.{◌≡◌, ◌==◌, if◌then◌else◌, ℕ, ℤ, pos, negsuc, Bool, true, false, nat_le, List, Option, Some, None, refl}
use Rattle.std.specs.Option.{unwrap_or}
use Rattle.td_cols.specs.declared.kinds.Kind.{Kind}
use Rattle.td_cols.specs.declared.kinds.Kind.TheVariants as kind
use Rattle.td_model.specs.declared.catalog.Column.{Column}
use Rattle.td_model.specs.declared.language.Lit.{Lit}
use Rattle.td_model.specs.declared.language.Query.{Query}
use Rattle.td_model.specs.declared.language.Trigger.{Trigger}
use Rattle.td_model.specs.declared.language.Trigger.TheVariants as trigger
use Rattle.td_model.specs.declared.language.StreamDef.{StreamDef}
use Rattle.td_model.specs.declared.language.Stmt.{Stmt}
use Rattle.td_model.specs.declared.language.Stmt.TheVariants as stmt
use Rattle.td_grammar.specs.declared.lexemes.Lexeme.{Lexeme}
use Rattle.td_grammar.specs.declared.kinds.KindRange.{KindRange}
use Rattle.td_grammar.specs.declared.kinds.TheConstants as kinds
use Rattle.td_grammar.specs.Grammar.{G, Reading, ◌>>=◌, as_value, one, fits, within, read, valued, both, under, maybe, either, loop, good}
use Rattle.td_grammar.specs.Words.{name, number, zero_or_one, duration, same_name, word, word_in, sign, at_most, at_least, ◌▷◌, ◌◁◌, listed, comma_list, perhaps}
use Rattle.td_clauses.specs.Productions.{inside, truth, word_lit, a_lit, lits, a_bound, compared, names, count_item, count_argument, function_item, named_item, selected, select_item, select_items, items, part, part_list, compares, between, null_test, a_test, clause, further_clause, cond_list, where_part, partition_part, lengths, interval, session, state_window, window, window_part, order_name, direction, order_part, cut_part, clauses, query}
use Rattle.td_parse.specs.declared.drafts.Body.{Body}
use Rattle.td_parse.specs.declared.drafts.Body.TheVariants as body
use Rattle.td_parse.specs.declared.drafts.StreamOption.{StreamOption}
use Rattle.td_parse.specs.declared.drafts.StreamOption.TheVariants as choice
use Rattle.td_parse.specs.declared.drafts.Options.{Options}

-- type := BOOL | TIMESTAMP | ( TINYINT | SMALLINT | INT | INTEGER | BIGINT ) [ UNSIGNED ] | one that is not built, as
-- below.
-- INT and INTEGER are of one kind of words.
-- The kind with a sign, and without
unfoldable pub long_width : {E : Type 0} → G E (Kind × Kind)
long_width = either (valued (λ _. (kind.I32, kind.U32)) (word kinds.INT refl))
    (valued (λ _. (kind.I64, kind.U64)) (word kinds.BIGINT refl))

unfoldable pub width : {E : Type 0} → G E (Kind × Kind)
width = either (valued (λ _. (kind.I8, kind.U8)) (word kinds.TINYINT refl))
    (either (valued (λ _. (kind.I16, kind.U16)) (word kinds.SMALLINT refl)) long_width)

unfoldable pub whole_number : {E : Type 0} → G E Kind
whole_number = both (λ (w : Kind × Kind) unsigned. if unsigned then w.1 else w.0) width
    (maybe false (λ _. true) (word kinds.UNSIGNED refl))

-- the word of a type that is not built in a column, and of one that is not built in a tag either
abbrev pub column_not_built : {E : Type 0} → G E (Unit {0})
column_not_built = word_in (within kinds.NOT_BUILT_TYPES) (λ _. tt) kinds.NOT_BUILT_TYPE refl refl

abbrev pub tag_not_built : {E : Type 0} → G E (Unit {0})
tag_not_built = word kinds.NOT_BUILT_TYPE refl

-- [ ( Num [ , Num ] ) ], which says nothing
unfoldable pub sizes : {E : Type 0} → G E (Unit {0})
sizes = perhaps (inside (number ▷ perhaps (sign kinds.COMMA refl ▷ number)))

-- reading a word of types that are not built, of these kinds, and its sizes
abbrev pub not_built_in : KindRange → List Lexeme → Reading (Unit {0})
not_built_in range ts = one (fits (within range) (λ _. true)) (λ _. tt {0}) ts >>= λ a. as_value (λ b. b)
    (read (tt {0}) sizes a.1)

-- A column whose type is not built has the kind of sums, which no column has.
unfoldable pub column_kind : {E : Type 0} → G E Kind
column_kind = either (valued (λ _. kind.Bool) (word kinds.BOOL refl))
    (either (valued (λ _. kind.Time) (word kinds.TIMESTAMP refl))
    (either (valued (λ _. kind.Wide) (column_not_built ▷ sizes)) whole_number))

-- a number of bytes; outside 0 to 65535 it is kept as 0
abbrev pub size_of : ℤ → ℕ
size_of (pos n) = if nat_le n 65535 then n else 0
size_of (negsuc n) = 0

-- in a tag VARCHAR ( Num ) and BINARY ( Num ) are built too
unfoldable pub text_kind : {E : Type 0} → G E Kind
text_kind = word kinds.VARCHAR refl ▷ valued (λ n. kind.Text (size_of n)) (inside number)

unfoldable pub later_tag_kind : {E : Type 0} → G E Kind
later_tag_kind = either text_kind whole_number

unfoldable pub tag_kind : {E : Type 0} → G E Kind
tag_kind = either (valued (λ _. kind.Bool) (word kinds.BOOL refl))
    (either (valued (λ _. kind.Time) (word kinds.TIMESTAMP refl))
    (either (valued (λ _. kind.Wide) (tag_not_built ▷ sizes)) later_tag_kind))

-- cols := name type { , name type }
unfoldable pub column : {E : Type 0} → G E Column
column = both (λ n k. record { name = n; kind = k }) name column_kind

pub column_good : good (column {E = Unit {0}}) ≡ true
unfolding column column_kind sizes whole_number width long_width
column_good = refl

unfoldable pub column_list : {E : Type 0} → G E (List Column)
column_list = comma_list column

unfoldable pub columns : {E : Type 0} → G E (List Column)
columns = inside column_list

-- tags := name type { , name type }
unfoldable pub tag : {E : Type 0} → G E Column
tag = both (λ n k. record { name = n; kind = k }) name tag_kind

pub tag_good : good (tag {E = Unit {0}}) ≡ true
unfolding tag tag_kind later_tag_kind text_kind sizes whole_number width long_width
tag_good = refl

unfoldable pub tag_list : {E : Type 0} → G E (List Column)
tag_list = comma_list tag

unfoldable pub tags : {E : Type 0} → G E (List Column)
tags = word kinds.TAGS refl ▷ inside tag_list

-- CREATE STABLE name ( cols ) [ TAGS ( tags ) ]
unfoldable pub stable : {E : Type 0} → G E Stmt
stable = word kinds.STABLE refl ▷ both (λ n (r : List Column × Option (List Column)). stmt.MakeStable n r.0 r.1) name
    (both (λ c t. (c, t)) columns (maybe None Some tags))

-- CREATE TABLE name ( cols ) [ TAGS ( tags ) ], which with TAGS makes a supertable, and CREATE TABLE name USING name
-- TAGS ( lits )
abbrev pub body_of : List Column → Option (List Column) → Body
body_of columns None = body.Plain columns
body_of columns (Some tags) = body.Super columns tags

unfoldable pub own_columns : {E : Type 0} → G E Body
own_columns = both body_of columns (maybe None Some tags)

unfoldable pub of_stable : {E : Type 0} → G E Body
of_stable = word kinds.USING refl ▷ both body.Sub name (word kinds.TAGS refl ▷ inside lits)

abbrev pub table_of : List ℕ → Body → Stmt
table_of n (body.Plain columns) = stmt.MakeTable n columns
table_of n (body.Super columns tags) = stmt.MakeStable n columns (Some tags)
table_of n (body.Sub stable tags) = stmt.MakeSub n stable tags

unfoldable pub table_body : {E : Type 0} → G E Body
table_body = either of_stable own_columns

unfoldable pub table : {E : Type 0} → G E Stmt
table = word kinds.TABLE refl ▷ both table_of name table_body

-- INSERT INTO name [ ( name { , name } ) ] VALUES group { [,] group }, and group := ( lits )
unfoldable pub group : {E : Type 0} → G E (List Lit)
group = inside lits

unfoldable pub further_group : {E : Type 0} → G E (List Lit)
further_group = perhaps (sign kinds.COMMA refl) ▷ group

unfoldable pub groups : {E : Type 0} → G E (List (List Lit))
groups = listed group further_group

unfoldable pub chosen_columns : {E : Type 0} → G E (Option (List (List ℕ)))
chosen_columns = maybe None Some (inside names)

unfoldable pub insert : {E : Type 0} → G E Stmt
insert = word kinds.INSERT refl ▷ word kinds.INTO refl ▷ both
    (λ t (r : Option (List (List ℕ)) × List (List Lit)). stmt.Insert t r.0 r.1) name
    (both (λ c g. (c, g)) chosen_columns (word kinds.VALUES refl ▷ groups))

-- DELETE FROM name WHERE name >= tlit AND name <= tlit, with one name in both places
unfoldable pub range_of : G (List ℕ) (Lit × Lit)
range_of = at_least ▷ both (λ lo hi. (lo, hi)) a_bound (word kinds.AND refl ▷ same_name ▷ at_most ▷ a_bound)

unfoldable pub delete : {E : Type 0} → G E Stmt
delete = word kinds.DELETE refl ▷ word kinds.FROM refl ▷ both
    (λ t (r : List ℕ × (Lit × Lit)). stmt.Delete t r.0 r.1.0 r.1.1) name
    (word kinds.WHERE refl ▷ under (λ c r. (c, r)) name range_of)

-- option := TRIGGER AT_ONCE | TRIGGER WINDOW_CLOSE | TRIGGER MAX_DELAY Dur | WATERMARK Dur | IGNORE EXPIRED bit |
-- FILL_HISTORY bit
unfoldable pub a_trigger : {E : Type 0} → G E Trigger
a_trigger = word kinds.TRIGGER refl ▷ either (valued (λ _. trigger.AtOnce) (word kinds.AT_ONCE refl))
    (either (valued (λ _. trigger.WindowClose) (word kinds.WINDOW_CLOSE refl))
    (valued trigger.MaxDelay (word kinds.MAX_DELAY refl ▷ duration)))

unfoldable pub stream_option : {E : Type 0} → G E StreamOption
stream_option = either (valued choice.Trigger a_trigger)
    (either (valued choice.Watermark (word kinds.WATERMARK refl ▷ duration))
    (either (valued choice.Expired (word kinds.IGNORE refl ▷ word kinds.EXPIRED refl ▷ zero_or_one))
    (valued choice.History (word kinds.FILL_HISTORY refl ▷ zero_or_one))))

abbrev pub missing : {A : Type 0} → Option A → Bool
missing None = true
missing (Some a) = false

-- no option of its kind stands before
abbrev pub is_new : Options → Lexeme → Bool
is_new all t = if t.kind == kinds.TRIGGER then missing all.trigger
    else if t.kind == kinds.WATERMARK then missing all.watermark
    else if t.kind == kinds.IGNORE then missing all.expired else missing all.history

abbrev pub with_option : Options → StreamOption → Options
with_option all (choice.Trigger t) = record all { trigger = Some t }
with_option all (choice.Watermark n) = record all { watermark = Some n }
with_option all (choice.Expired b) = record all { expired = Some b }
with_option all (choice.History b) = record all { history = Some b }

abbrev pub no_options : Options
no_options = record { trigger = None; watermark = None; expired = None; history = None }

unfoldable pub options : {E : Type 0} → G E Options
options = loop no_options is_new with_option stream_option

-- CREATE STREAM name { option } INTO name AS query
abbrev pub stream_of : List ℕ → Options → List ℕ → Query → StreamDef
stream_of n o target q =
    record {
      name = n;
      trigger = unwrap_or o.trigger trigger.AtOnce;
      watermark = unwrap_or o.watermark 0;
      ignore_expired = unwrap_or o.expired false;
      fill_history = unwrap_or o.history true;
      target = target;
      query = q;
    }

unfoldable pub stream : {E : Type 0} → G E Stmt
stream = word kinds.STREAM refl ▷ both
    (λ n (r : Options × (List ℕ × Query)). stmt.MakeStream (stream_of n r.0 r.1.0 r.1.1)) name
    (both (λ o r. (o, r)) options (word kinds.INTO refl ▷ both (λ t q. (t, q)) name (word kinds.AS refl ▷ query)))

unfoldable pub create : {E : Type 0} → G E Stmt
create = word kinds.CREATE refl ▷ either stable (either table stream)

-- DROP STREAM name
unfoldable pub drop_stream : {E : Type 0} → G E Stmt
drop_stream = word kinds.DROP refl ▷ word kinds.STREAM refl ▷ valued stmt.DropStream name

-- OPEN name AS query | FETCH name Num | CLOSE name
unfoldable pub open_cursor : {E : Type 0} → G E Stmt
open_cursor = word kinds.OPEN refl ▷ both stmt.OpenCursor name (word kinds.AS refl ▷ query)

unfoldable pub fetch : {E : Type 0} → G E Stmt
fetch = word kinds.FETCH refl ▷ both stmt.Fetch name number

unfoldable pub close_cursor : {E : Type 0} → G E Stmt
close_cursor = word kinds.CLOSE refl ▷ valued stmt.CloseCursor name

-- COMMIT | MERGE | SWEEP | TRIM | STEP name
unfoldable pub step : {E : Type 0} → G E Stmt
step = word kinds.STEP refl ▷ valued stmt.Step name

unfoldable pub plain_command : {E : Type 0} → G E Stmt
plain_command = either (valued (λ _. stmt.Commit) (word kinds.COMMIT refl))
    (either (valued (λ _. stmt.Merge) (word kinds.MERGE refl))
    (either (valued (λ _. stmt.Sweep) (word kinds.SWEEP refl)) (valued (λ _. stmt.Trim) (word kinds.TRIM refl))))

unfoldable pub maintenance_command : {E : Type 0} → G E Stmt
maintenance_command = either step plain_command

unfoldable pub cursor_command : {E : Type 0} → G E Stmt
cursor_command = either open_cursor (either fetch (either close_cursor maintenance_command))

unfoldable pub query_or_command : {E : Type 0} → G E Stmt
query_or_command = either drop_stream (either (valued stmt.Select query) cursor_command)

unfoldable pub a_statement : {E : Type 0} → G E Stmt
a_statement = either create (either insert (either delete query_or_command))

-- One `;` may end a statement; then nothing follows.
unfoldable pub statement_text : G (Unit {0}) Stmt
statement_text = a_statement ◁ perhaps (sign kinds.SEMICOLON refl)

-- One token of lookahead decides.
pub statement_good : good statement_text ≡ true
unfolding statement_text a_statement query_or_command cursor_command maintenance_command plain_command step close_cursor
    fetch open_cursor drop_stream create stream options stream_option a_trigger query clauses cut_part order_part
    direction order_name window_part window state_window session interval lengths partition_part where_part cond_list
    further_clause clause a_test null_test between compares part_list part items select_items select_item selected
    named_item function_item count_item count_argument delete range_of insert chosen_columns groups further_group group
    names table table_body of_stable own_columns stable tags tag_list tag columns column_list column tag_kind
    later_tag_kind text_kind column_kind sizes whole_number width long_width compared lits a_lit word_lit truth
statement_good = refl
