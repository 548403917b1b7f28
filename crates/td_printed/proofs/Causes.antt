-- Causes of refusal can be printed.
use Rattle.std.proofs.Common.{ℕ, Bool, List, [], ◌∷◌, length, Option, Some, None, refl, arith}
use Rattle.std.specs.Prelude.{IfSome, not, ◌&&◌, ◌||◌, nat_lt, ◌==◌, is_none}
use Rattle.std.specs.List.{AllByRecursion, find, zip, list_any}
use Rattle.td_cols.specs.declared.kinds.Kind.{Kind}
use Rattle.td_cols.specs.declared.kinds.Kind.TheVariants.{Time}
use Rattle.td_limits.specs.declared.limits.TheConstants.{COLUMNS, INSERT_ROWS, TABLES, TAGS}
use Rattle.td_model.specs.declared.catalog.Column.{Column}
use Rattle.td_model.specs.declared.catalog.Schema.{Schema}
use Rattle.td_model.specs.declared.language.Cond.{Cond}
use Rattle.td_model.specs.declared.language.Lit.{Lit}
use Rattle.td_model.specs.declared.language.PartBy.{PartBy}
use Rattle.td_model.specs.declared.language.PartBy.TheVariants as part
use Rattle.td_model.specs.declared.language.Query.{Query}
use Rattle.td_model.specs.declared.report.Cause.{Cause}
use Rattle.td_model.specs.declared.report.Cause.TheVariants as cause
use Rattle.td_model.specs.declared.report.Many.TheVariants as many
use Rattle.td_model.specs.Catalog.{Catalog}
use Rattle.td_model.specs.Printable.{IsWord, IsCount, IsPrintableCause}
use Rattle.td_verdict.specs.Causes.{when, first_cause}
use Rattle.td_verdict.specs.Names.{is_taken, is_stable, is_target, stands_twice, lacks_time, is_first, column_named}
use Rattle.td_verdict.specs.Fields.{fields, part_column}
use Rattle.td_verdict.specs.Queries as queries
use Rattle.td_verdict.specs.Refusals.{is_bad_selection, is_bad_window}
use Rattle.td_verdict.specs.Values.{is_column_kind, is_tag_kind, number_at, suits}
use Rattle.td_verdict.specs.Writes as writes
use Rattle.td_printed.specs.Names.{IsName, AreNamed}
use Rattle.td_printed.proofs.Lists.{if_mapped, if_either, if_found, if_given, all_zipped, all_given, if_when, if_first}
use Rattle.td_printed.proofs.Schemas.{SchemaHasWords, fields_named, found_named}

-- a cause, if there is one, can be printed
abbrev pub Prints : Option Cause → Type 0
Prints why = IfSome why IsPrintableCause

-- a cause, if there is one, that can be printed
record Item : Type 0 where
  why : Option Cause
  prints : Prints why

-- one that applies or not
abbrev item : (b : Bool) (why : Cause) → IsPrintableCause why → Item
item b why h = record { why = when b why; prints = if_when IsPrintableCause b why h }

abbrev found : (why : Option Cause) → Prints why → Item
found why h = record { why = why; prints = h }

abbrev whys : List Item → List (Option Cause)
whys [] = []
whys (i ∷ is) = i.why ∷ whys is

first_prints : (items : List Item) → Prints (first_cause (whys items))
first_prints items = if_first IsPrintableCause (whys items) (all items)
  where
    all : (items : List Item) → AllByRecursion Prints (whys items)
    all [] = tt
    all (i ∷ is) = (i.prints, all is)

few_tables : IsCount TABLES
few_tables = omega arith

-- ---- CREATE STABLE, CREATE TABLE

kind_prints : (test : Kind → Bool) (columns : List Column) → AreNamed columns → Prints (writes.kind_cause test columns)
kind_prints test columns h = if_mapped (λ (c : Column). IsName c.name) IsPrintableCause (λ c. cause.OutOfRange c.name)
    (find (λ c. not (test c.kind)) columns) (λ c n. n.word)
    (if_found (λ (c : Column). IsName c.name) (λ c. not (test c.kind)) columns h)

count_prints : (columns tags : List Column) (c : Catalog) → Prints (writes.count_cause columns tags c)
count_prints columns tags c = first_prints (
    item (writes.is_full c) (cause.TooMany many.Tables TABLES) few_tables
    ∷ item (nat_lt COLUMNS (length columns)) (cause.TooMany many.Columns COLUMNS) (omega arith)
    ∷ item (nat_lt TAGS (length tags)) (cause.TooMany many.Tags TAGS) (omega arith)
    ∷ [])

size_prints : (columns tags : List Column) (c : Catalog) → AreNamed columns → AreNamed tags
    → Prints (writes.size_cause columns tags c)
size_prints columns tags c h i = first_prints (
    found (writes.kind_cause is_column_kind columns) (kind_prints is_column_kind columns h)
    ∷ found (writes.kind_cause is_tag_kind tags) (kind_prints is_tag_kind tags i)
    ∷ found (writes.count_cause columns tags c) (count_prints columns tags c)
    ∷ [])

pub definition_prints : (name : List ℕ) (columns tags : List Column) (c : Catalog) → AreNamed columns → AreNamed tags
    → Prints (writes.definition_cause name columns tags c)
definition_prints name columns tags c h i = first_prints (
    item (is_taken name c || writes.have_one_name columns tags) cause.NameTaken tt
    ∷ item (lacks_time columns) cause.NeedsTime tt
    ∷ found (writes.size_cause columns tags c) (size_prints columns tags c h i)
    ∷ [])

-- ---- literals at columns

first_named : (test : Column × Lit → Bool) (columns : List Column) (group : List Lit) → AreNamed columns
    → IfSome (writes.first_column test columns group) (λ (c : Column). IsName c.name)
first_named test columns group h = if_mapped (λ (p : Column × Lit). IsName p.0.name) (λ (c : Column). IsName c.name)
    (λ p. p.0) (find test (zip columns group)) (λ p n. n)
    (if_found (λ (p : Column × Lit). IsName p.0.name) test (zip columns group)
    (all_zipped (λ (c : Column). IsName c.name) columns group h))

mismatch : (o : Option Column) → IfSome o (λ (c : Column). IsName c.name) → Prints (writes.mismatch_of o)
mismatch o h = if_mapped (λ (c : Column). IsName c.name) IsPrintableCause (λ c. cause.TypeMismatch c.name) o
    (λ c n. n.word) h

outside : (o : Option Column) → IfSome o (λ (c : Column). IsName c.name) → Prints (writes.outside_of o)
outside o h = if_mapped (λ (c : Column). IsName c.name) IsPrintableCause (λ c. cause.OutOfRange c.name) o
    (λ c n. n.word) h

-- ---- CREATE TABLE .. USING

stable_prints : (stable : List ℕ) (c : Catalog) → Prints (writes.stable_cause stable c)
stable_prints stable c =
    first_prints (item (not (is_taken stable c)) cause.UnknownStable tt ∷ item (not (is_stable stable c))
    cause.NotAStable tt ∷ [])

tags_print : (tags : List Column) (lits : List Lit) (moment : ℕ) (c : Catalog) → AreNamed tags
    → Prints (writes.tags_cause tags lits moment c)
tags_print tags lits moment c h =
    let wrong = writes.first_column (writes.is_mismatch moment) tags lits in
    let far = writes.first_column (writes.is_outside [] moment) tags lits in
    first_prints (
    item (not (length lits == length tags)) cause.Arity tt
    ∷ found (writes.mismatch_of wrong) (mismatch wrong (first_named (writes.is_mismatch moment) tags lits h))
    ∷ found (writes.outside_of far) (outside far (first_named (writes.is_outside [] moment) tags lits h))
    ∷ item (writes.is_full c) (cause.TooMany many.Tables TABLES) few_tables
    ∷ [])

pub make_sub_prints : (name stable : List ℕ) (tags : List Column) (lits : List Lit) (moment : ℕ) (c : Catalog)
    → AreNamed tags → Prints (writes.make_sub_cause name stable tags lits moment c)
make_sub_prints name stable tags lits moment c h = first_prints (
    found (writes.stable_cause stable c) (stable_prints stable c)
    ∷ item (is_taken name c) cause.NameTaken tt
    ∷ found (writes.tags_cause tags lits moment c) (tags_print tags lits moment c h)
    ∷ [])

-- ---- INSERT

written_prints : (table : List ℕ) (c : Catalog) → Prints (writes.written_cause table c)
written_prints table c = first_prints (
    item (not (is_taken table c)) cause.UnknownTable tt
    ∷ item (is_target table c) cause.TargetOfStream tt
    ∷ item (is_stable table c) cause.NotATable tt
    ∷ [])

list_prints : (columns : List Column) (names : Option (List (List ℕ))) → Prints (writes.list_cause columns names)
list_prints columns names = first_prints (
    item (stands_twice (writes.listed names)) cause.NameTaken tt
    ∷ item (writes.lacks_first columns names) cause.NeedsTime tt
    ∷ item (list_any (λ name. is_none (column_named columns name)) (writes.listed names)) cause.UnknownColumn tt
    ∷ [])

pub target_prints : (table : List ℕ) (columns : List Column) (names : Option (List (List ℕ))) (c : Catalog)
    → Prints (first_cause (writes.written_cause table c ∷ writes.list_cause columns names ∷ []))
target_prints table columns names c =
    first_prints (found (writes.written_cause table c) (written_prints table c)
    ∷ found (writes.list_cause columns names) (list_prints columns names) ∷ [])

pub chosen_named : (columns : List Column) (names : Option (List (List ℕ))) → AreNamed columns
    → AreNamed (writes.chosen columns names)
chosen_named columns None h = h
chosen_named columns (Some names) h = all_given (λ (c : Column). IsName c.name) (column_named columns) names
    (λ name. found_named columns name h)

rows_print : (columns places : List Column) (groups : List (List Lit)) (edge moment : ℕ) → IsCount edge
    → Prints (writes.rows_cause columns places groups edge moment)
rows_print columns places groups edge moment e = first_prints (
    item (nat_lt INSERT_ROWS (length groups)) (cause.TooMany many.Rows INSERT_ROWS) (omega arith)
    ∷ item
    (list_any (λ group. writes.is_before edge (writes.time_at moment group (writes.first_place columns places)))
    groups) (cause.BeforeEdge edge) e
    ∷ [])

pub groups_print : (columns places : List Column) (groups : List (List Lit)) (edge moment : ℕ) → AreNamed places
    → IsCount edge → Prints (writes.groups_cause columns places groups edge moment)
groups_print columns places groups edge moment h e =
    let wrong = writes.first_column (writes.is_mismatch moment) places in
    let far = writes.first_column (writes.is_outside columns moment) places in
    first_prints (
    item (list_any (λ group. not (length group == length places)) groups) cause.Arity tt
    ∷ found (writes.mismatch_of (writes.first_given wrong groups))
    (mismatch (writes.first_given wrong groups)
    (if_given (λ (c : Column). IsName c.name) wrong groups
    (λ group. first_named (writes.is_mismatch moment) places group h)))
    ∷ found (writes.outside_of (writes.first_given far groups))
    (outside (writes.first_given far groups)
    (if_given (λ (c : Column). IsName c.name) far groups
    (λ group. first_named (writes.is_outside columns moment) places group h)))
    ∷ found (writes.rows_cause columns places groups edge moment) (rows_print columns places groups edge moment e)
    ∷ [])

-- ---- DELETE

bound_prints : (column : List ℕ) (moment : ℕ) (bound : Lit) → IsName column
    → Prints (writes.bad_bound column moment bound)
bound_prints column moment bound h = if_when IsPrintableCause (is_none (number_at Time moment bound))
    (cause.TypeMismatch column) h.word

pub delete_prints : (table : List ℕ) (columns : List Column) (column : List ℕ) (lo hi : Lit) (moment : ℕ)
    (c : Catalog) → IsName column → Prints (writes.delete_cause table columns column lo hi moment c)
delete_prints table columns column lo hi moment c h = first_prints (
    found (writes.written_cause table c) (written_prints table c)
    ∷ item (not (is_first columns column)) cause.NeedsTime tt
    ∷ found (writes.bad_bound column moment lo) (bound_prints column moment lo h)
    ∷ found (writes.bad_bound column moment hi) (bound_prints column moment hi h)
    ∷ [])

-- ---- queries

part_named : (s : Schema) (of : PartBy) → SchemaHasWords s → IfSome (part_column s of) (λ (c : Column). IsWord c.name)
part_named s part.TbName h = refl
part_named s (part.Tag name) h = go (column_named (fields s) name) (found_named (fields s) name (fields_named s h))
  where
    go : (o : Option Column) → IfSome o (λ (c : Column). IsName c.name) → IfSome o (λ (c : Column). IsWord c.name)
    go None n = tt
    go (Some c) n = n.word

at_prints : (o : Option Column) (c : Cond) → IfSome o (λ (c : Column). IsWord c.name)
    → Prints (queries.mismatch_at o c)
at_prints None c h = tt
at_prints (Some column) c h = if_when IsPrintableCause (not (suits column.kind 0 c.lit))
    (cause.TypeMismatch column.name) h

body_prints : (of_table : Bool) (s : Schema) (q : Query) → SchemaHasWords s
    → Prints (queries.body_cause of_table s q)
body_prints of_table s q h =
    let wrong : Cond → Option Cause = λ c. queries.mismatch_at (part_column s c.of) c in
    first_prints (
    item (queries.has_unknown s q) cause.UnknownColumn tt
    ∷ found (queries.mismatch_cause s q.conds)
    (if_given IsPrintableCause wrong q.conds (λ c. at_prints (part_column s c.of) c (part_named s c.of h)))
    ∷ item (is_bad_selection s q) cause.BadSelect tt
    ∷ item (is_bad_window of_table s q q.window) cause.BadWindow tt
    ∷ item (queries.is_bad_limit q) cause.BadLimit tt
    ∷ [])

source_prints : (q : Query) (c : Catalog) → Prints (queries.source_cause q c)
source_prints q c =
    first_prints
    (item (not (is_taken q.source c)) cause.UnknownTable tt ∷ item (is_target q.source c && not (queries.reads_all q))
    cause.TargetOfStream tt ∷ [])

pub query_prints : (q : Query) (c : Catalog) → SchemaHasWords (queries.source_schema q.source c)
    → Prints (queries.query_cause q c)
query_prints q c h = if_either IsPrintableCause (queries.source_cause q c)
    (queries.body_cause (queries.reads_table q c) (queries.source_schema q.source c) q) (source_prints q c)
    (body_prints (queries.reads_table q c) (queries.source_schema q.source c) q h)
