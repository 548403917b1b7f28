-- What a write meets in a catalog, at a retention edge and a moment in milliseconds since 1970. Of each form its causes
-- stand in their one order, and within one cause its places in the order of the text; then what it is accepted as.
use Rattle.std.specs.Prelude.{ℕ, ◌+◌, ◌-◌, ◌*◌, ◌/◌, max, min, ℤ, pos, negsuc, int_lt, Bool, false, not, ◌&&◌, ◌||◌, ◌==◌, nat_lt, nat_le, if◌then◌else◌, List, [], ◌∷◌, ◌++◌, map, length, drop, Option, Some, None, is_none, position, slice_get}
use Rattle.std.specs.Int.{int_min, int_max}
use Rattle.std.specs.List.{list_any, filter_map, find, zip}
use Rattle.std.specs.Option.{option_map, option_and_then, option_or, unwrap_or}
use Rattle.td_cols.specs.declared.kinds.Kind.{Kind}
use Rattle.td_cols.specs.declared.kinds.Kind.TheVariants.{Time}
use Rattle.td_layer.specs.declared.values.Value.{Value}
use Rattle.td_layer.specs.declared.values.Cell.{Cell}
use Rattle.td_model.specs.declared.catalog.Column.{Column}
use Rattle.td_model.specs.declared.language.Lit.{Lit}
use Rattle.td_model.specs.declared.language.Stmt.{Stmt}
use Rattle.td_model.specs.declared.language.Stmt.TheVariants as stmt
use Rattle.td_model.specs.declared.history.Put.{Put}
use Rattle.td_model.specs.declared.history.What.{What}
use Rattle.td_model.specs.declared.history.What.TheVariants as what
use Rattle.td_model.specs.declared.history.Verdict.{Verdict}
use Rattle.td_model.specs.declared.history.Verdict.TheVariants.{Pass, Refuse}
use Rattle.td_model.specs.declared.report.Many.TheVariants as many
use Rattle.td_model.specs.declared.report.Cause.{Cause}
use Rattle.td_model.specs.declared.report.Cause.TheVariants as cause
use Rattle.td_model.specs.Catalog.{Catalog, stable_named, table_named, stream_named}
use Rattle.td_limits.specs.declared.limits.TheConstants.{COLUMNS, DAY_RANGE, INSERT_ROWS, KEEP, LAST_TIMESTAMP, TABLES, TAGS}
use Rattle.td_verdict.specs.Causes.{when, first_cause, accepted_or}
use Rattle.td_verdict.specs.Names.{is_stable, is_target, is_taken, is_stream, number_or_none, table_schema, stable_schema, stands_twice, names_of, is_named, column_named, is_first, lacks_time}
use Rattle.td_verdict.specs.Values.{number_at, is_null, suits, fits, value_of, tag_of, is_column_kind, is_tag_kind}

-- the first that a list's items give
abbrev pub first_given : {A B : Type 0} → (A → Option B) → List A → Option B
first_given give [] = None
first_given give (x ∷ xs) = option_or (give x) (first_given give xs)

-- ---- CREATE STABLE, CREATE TABLE

-- out of range at the first column whose kind fails a test
abbrev pub kind_cause : (Kind → Bool) → List Column → Option Cause
kind_cause test columns = option_map (λ c. cause.OutOfRange c.name) (find (λ c. not (test c.kind)) columns)

-- one more table or supertable would be too many together
abbrev pub is_full : Catalog → Bool
is_full c = nat_le TABLES (length c.tables + length c.stables)

-- The place of a name is before that of the columns, whose place is before that of the tags.
abbrev pub count_cause : List Column → List Column → Catalog → Option Cause
count_cause columns tags c = first_cause (
    when (is_full c) (cause.TooMany many.Tables TABLES)
    ∷ when (nat_lt COLUMNS (length columns)) (cause.TooMany many.Columns COLUMNS)
    ∷ when (nat_lt TAGS (length tags)) (cause.TooMany many.Tags TAGS)
    ∷ [])

-- two columns or tags have one name
abbrev pub have_one_name : List Column → List Column → Bool
have_one_name columns tags = stands_twice (names_of columns ++ names_of tags)

-- of the kinds of a definition's columns and tags, and of their numbers
abbrev pub size_cause : List Column → List Column → Catalog → Option Cause
size_cause columns tags c = first_cause (
    kind_cause is_column_kind columns
    ∷ kind_cause is_tag_kind tags
    ∷ count_cause columns tags c
    ∷ [])

abbrev pub definition_cause : List ℕ → List Column → List Column → Catalog → Option Cause
definition_cause name columns tags c = first_cause (
    when (is_taken name c || have_one_name columns tags) cause.NameTaken
    ∷ when (lacks_time columns) cause.NeedsTime
    ∷ size_cause columns tags c
    ∷ [])

abbrev pub make_stable_verdict : List ℕ → List Column → Option (List Column) → Catalog → Verdict
make_stable_verdict name columns None c = Refuse cause.NeedsTags
make_stable_verdict name columns (Some tags) c =
    accepted_or (definition_cause name columns tags c)
    (what.MakeStable name (record { columns = columns; tags = tags })) 0

abbrev pub make_table_verdict : List ℕ → List Column → Catalog → Verdict
make_table_verdict name columns c = accepted_or (definition_cause name columns [] c) (what.MakeTable name columns) 0

-- ---- literals at columns

-- a literal doesn't suit its column
abbrev pub is_mismatch : ℕ → Column × Lit → Bool
is_mismatch moment p = not (suits p.0.kind moment p.1)

-- A literal is outside the range of its column. Where the columns of a table are given, NULL is outside that of the
-- first.
abbrev pub is_outside : List Column → ℕ → Column × Lit → Bool
is_outside table moment p = is_first table p.0.name && is_null p.1 || not (fits p.0.kind moment p.1)

-- the first column whose literal passes a test, in a group of literals at columns
abbrev pub first_column : (Column × Lit → Bool) → List Column → List Lit → Option Column
first_column test columns group = option_map (λ p. p.0) (find test (zip columns group))

abbrev pub mismatch_of : Option Column → Option Cause
mismatch_of found = option_map (λ c. cause.TypeMismatch c.name) found

abbrev pub outside_of : Option Column → Option Cause
outside_of found = option_map (λ c. cause.OutOfRange c.name) found

-- ---- CREATE TABLE .. USING

abbrev pub tag_cells : ℕ → List Column → List Lit → List Cell
tag_cells moment tags lits = map (λ p. tag_of p.0.kind moment p.1) (zip tags lits)

-- USING names nothing, or no supertable
abbrev pub stable_cause : List ℕ → Catalog → Option Cause
stable_cause stable c = first_cause (
    when (not (is_taken stable c)) cause.UnknownStable
    ∷ when (not (is_stable stable c)) cause.NotAStable
    ∷ [])

-- of the literals, and of the number of tables
abbrev pub tags_cause : List Column → List Lit → ℕ → Catalog → Option Cause
tags_cause tags lits moment c = first_cause (
    when (not (length lits == length tags)) cause.Arity
    ∷ mismatch_of (first_column (is_mismatch moment) tags lits)
    ∷ outside_of (first_column (is_outside [] moment) tags lits)
    ∷ when (is_full c) (cause.TooMany many.Tables TABLES)
    ∷ [])

abbrev pub make_sub_cause : List ℕ → List ℕ → List Column → List Lit → ℕ → Catalog → Option Cause
make_sub_cause name stable tags lits moment c = first_cause (
    stable_cause stable c
    ∷ when (is_taken name c) cause.NameTaken
    ∷ tags_cause tags lits moment c
    ∷ [])

abbrev pub make_sub_in : List ℕ → List ℕ → List Column → List Lit → ℕ → Catalog → Verdict
make_sub_in name stable tags lits moment c =
    accepted_or (make_sub_cause name stable tags lits moment c)
    (what.MakeSub name (number_or_none (stable_named stable c)) (tag_cells moment tags lits)) 0

abbrev pub make_sub_verdict : List ℕ → List ℕ → List Lit → ℕ → Catalog → Verdict
make_sub_verdict name stable lits moment c =
    make_sub_in name stable (stable_schema (stable_named stable c) c).tags lits moment c

-- ---- INSERT

-- the names that an INSERT lists
abbrev pub listed : Option (List (List ℕ)) → List (List ℕ)
listed None = []
listed (Some names) = names

-- a list lacks the first column
abbrev pub lacks_first : List Column → Option (List (List ℕ)) → Bool
lacks_first columns None = false
lacks_first columns (Some names) = not (list_any (is_first columns) names)

-- the columns of the literals of a group: those of the list, in its order, or all
abbrev pub chosen : List Column → Option (List (List ℕ)) → List Column
chosen columns None = columns
chosen columns (Some names) = filter_map (column_named columns) names

-- the place of the column of a name in a list, and of a table's first column
abbrev pub place_of : List Column → List ℕ → Option ℕ
place_of places name = position (is_named name) places

abbrev pub first_place : List Column → List Column → Option ℕ
first_place [] places = None
first_place (c ∷ cs) places = place_of places c.name

-- the literal at a place of a group
abbrev pub literal_at : List Lit → Option ℕ → Option Lit
literal_at group place = option_and_then (slice_get group) place

-- the timestamp that the literal there says
abbrev pub time_at : ℕ → List Lit → Option ℕ → Option ℤ
time_at moment group place = option_and_then (number_at Time moment) (literal_at group place)

-- the value that the literal there has at a column of a kind
abbrev pub cell_at : ℕ → List Lit → Kind → Option ℕ → Option Value
cell_at moment group kind place = option_map (value_of kind moment) (literal_at group place)

abbrev pub is_before : ℕ → Option ℤ → Bool
is_before edge None = false
is_before edge (Some ts) = int_lt ts (pos (edge * DAY_RANGE))

-- a number brought into the range of timestamps
abbrev pub time_from : ℤ → ℕ
time_from (pos n) = min n LAST_TIMESTAMP
time_from (negsuc n) = 0

-- A group as a put into a table: each column but the first has its literal's value, and one that isn't chosen isn't
-- named.
abbrev pub put_of : ℕ → List Column → List Column → ℕ → List Lit → Put
put_of table columns places moment group = record {
  key = record {
    table = table;
    ts = time_from
        (unwrap_or (time_at moment group (first_place columns places)) (pos 0));
  };
  cells = map (λ c. cell_at moment group c.kind (place_of places c.name)) (drop 1 columns);
}

-- an INSERT or a DELETE names no table
abbrev pub written_cause : List ℕ → Catalog → Option Cause
written_cause table c = first_cause (
    when (not (is_taken table c)) cause.UnknownTable
    ∷ when (is_target table c) cause.TargetOfStream
    ∷ when (is_stable table c) cause.NotATable
    ∷ [])

-- of the list of columns
abbrev pub list_cause : List Column → Option (List (List ℕ)) → Option Cause
list_cause columns names = first_cause (
    when (stands_twice (listed names)) cause.NameTaken
    ∷ when (lacks_first columns names) cause.NeedsTime
    ∷ when (list_any (λ name. is_none (column_named columns name)) (listed names)) cause.UnknownColumn
    ∷ [])

-- of the number of the groups, and of their timestamps
abbrev pub rows_cause : List Column → List Column → List (List Lit) → ℕ → ℕ → Option Cause
rows_cause columns places groups edge moment = first_cause (
    when (nat_lt INSERT_ROWS (length groups)) (cause.TooMany many.Rows INSERT_ROWS)
    ∷ when (list_any (λ group. is_before edge (time_at moment group (first_place columns places))) groups)
    (cause.BeforeEdge edge)
    ∷ [])

-- of the groups
abbrev pub groups_cause : List Column → List Column → List (List Lit) → ℕ → ℕ → Option Cause
groups_cause columns places groups edge moment = first_cause (
    when (list_any (λ group. not (length group == length places)) groups) cause.Arity
    ∷ mismatch_of (first_given (first_column (is_mismatch moment) places) groups)
    ∷ outside_of (first_given (first_column (is_outside columns moment) places) groups)
    ∷ rows_cause columns places groups edge moment
    ∷ [])

abbrev pub groups_verdict : ℕ → List Column → List Column → List (List Lit) → ℕ → ℕ → Verdict
groups_verdict table columns places groups edge moment =
    accepted_or (groups_cause columns places groups edge moment)
    (what.Put (map (put_of table columns places moment) groups)) (length groups)

abbrev pub refused_or : Option Cause → Verdict → Verdict
refused_or None verdict = verdict
refused_or (Some cause) verdict = Refuse cause

abbrev pub insert_in : List ℕ → List Column → Option (List (List ℕ)) → List (List Lit) → ℕ → ℕ → Catalog → Verdict
insert_in table columns names groups edge moment c =
    refused_or (first_cause (written_cause table c ∷ list_cause columns names ∷ []))
    (groups_verdict (number_or_none (table_named table c)) columns (chosen columns names) groups edge moment)

abbrev pub insert_verdict : List ℕ → Option (List (List ℕ)) → List (List Lit) → ℕ → ℕ → Catalog → Verdict
insert_verdict table names groups edge moment c =
    insert_in table (table_schema (table_named table c) c).columns names groups edge moment c

-- ---- DELETE

-- a bound that says no timestamp's number
abbrev pub bad_bound : List ℕ → ℕ → Lit → Option Cause
bad_bound column moment bound = when (is_none (number_at Time moment bound)) (cause.TypeMismatch column)

abbrev pub delete_cause : List ℕ → List Column → List ℕ → Lit → Lit → ℕ → Catalog → Option Cause
delete_cause table columns column lo hi moment c = first_cause (
    written_cause table c
    ∷ when (not (is_first columns column)) cause.NeedsTime
    ∷ bad_bound column moment lo
    ∷ bad_bound column moment hi
    ∷ [])

-- a bound's number, and a literal that says none as 0
abbrev pub bound_of : ℕ → Lit → ℤ
bound_of moment bound = unwrap_or (number_at Time moment bound) (pos 0)

-- the timestamps from the one bound to the other; 1 to 0 where there are none
abbrev pub cut_between : ℕ → ℤ → ℤ → What
cut_between table lo hi = if int_lt hi lo then what.Cut table 1 0 else what.Cut table (time_from lo) (time_from hi)

abbrev pub cut_of : ℕ → ℤ → ℤ → What
cut_of table lo hi = cut_between table (int_max lo (pos 0)) (int_min hi (pos LAST_TIMESTAMP))

abbrev pub delete_in : List ℕ → List Column → List ℕ → Lit → Lit → ℕ → Catalog → Verdict
delete_in table columns column lo hi moment c =
    accepted_or (delete_cause table columns column lo hi moment c)
    (cut_of (number_or_none (table_named table c)) (bound_of moment lo) (bound_of moment hi)) 0

abbrev pub delete_verdict : List ℕ → List ℕ → Lit → Lit → ℕ → Catalog → Verdict
delete_verdict table column lo hi moment c =
    delete_in table (table_schema (table_named table c) c).columns column lo hi moment c

-- ---- TRIM, DROP STREAM

-- the edge rises to the day range of the moment that long ago, and never falls
abbrev pub trim_verdict : ℕ → ℕ → Verdict
trim_verdict edge moment = accepted_or None (what.Edge (max edge ((moment - KEEP) / DAY_RANGE))) 0

abbrev pub drop_stream_verdict : List ℕ → Catalog → Verdict
drop_stream_verdict name c =
    accepted_or (when (not (is_stream name c)) cause.UnknownStream)
    (what.DropStream (number_or_none (stream_named name c))) 0

-- ---- all

-- What a write that is built meets. CREATE STREAM isn't built: what it meets beside the causes of its query stands in
-- `Streams`.
abbrev pub write_verdict : Stmt → Catalog → ℕ → ℕ → Verdict
write_verdict (stmt.MakeStable name columns tags) c edge moment = make_stable_verdict name columns tags c
write_verdict (stmt.MakeTable name columns) c edge moment = make_table_verdict name columns c
write_verdict (stmt.MakeSub name stable tags) c edge moment = make_sub_verdict name stable tags moment c
write_verdict (stmt.Insert table columns rows) c edge moment = insert_verdict table columns rows edge moment c
write_verdict (stmt.Delete table column lo hi) c edge moment = delete_verdict table column lo hi moment c
write_verdict stmt.Trim c edge moment = trim_verdict edge moment
write_verdict (stmt.DropStream name) c edge moment = drop_stream_verdict name c
write_verdict _ c edge moment = Pass
