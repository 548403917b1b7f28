-- What a query meets in a catalog.
use Rattle.std.specs.Prelude.{ℕ, ℤ, pos, int_le, Bool, false, not, ◌&&◌, ◌||◌, ◌==◌, List, [], ◌∷◌, length, Option, Some, None, is_none, is_some}
use Rattle.std.specs.Ordering.{int_eq}
use Rattle.std.specs.List.{list_any}
use Rattle.std.specs.Option.{option_map_or, option_or}
use Rattle.td_model.specs.declared.catalog.Column.{Column}
use Rattle.td_model.specs.declared.catalog.Schema.{Schema}
use Rattle.td_model.specs.declared.language.Item.{Item}
use Rattle.td_model.specs.declared.language.ItemKind.{ItemKind}
use Rattle.td_model.specs.declared.language.ItemKind.TheVariants as item
use Rattle.td_model.specs.declared.language.Cond.{Cond}
use Rattle.td_model.specs.declared.language.PartBy.{PartBy}
use Rattle.td_model.specs.declared.language.PartBy.TheVariants as part
use Rattle.td_model.specs.declared.language.OrderBy.{OrderBy}
use Rattle.td_model.specs.declared.language.OrderBy.TheVariants as order
use Rattle.td_model.specs.declared.language.Query.{Query}
use Rattle.td_model.specs.declared.language.WindowDef.{WindowDef}
use Rattle.td_model.specs.declared.language.WindowDef.TheVariants as window
use Rattle.td_model.specs.declared.history.Verdict.{Verdict}
use Rattle.td_model.specs.declared.history.Verdict.TheVariants.{Pass, Refuse}
use Rattle.td_model.specs.declared.report.Cause.{Cause}
use Rattle.td_model.specs.declared.report.Cause.TheVariants as cause
use Rattle.td_limits.specs.declared.limits.TheConstants.{LAST_COUNT}
use Rattle.td_model.specs.Catalog.{Catalog, stable_named, table_named, no_schema}
use Rattle.td_verdict.specs.declared.source.Source.{Source}
use Rattle.td_verdict.specs.declared.source.Source.TheVariants.{Table, Stable, Other}
use Rattle.td_verdict.specs.Causes.{when, first_cause}
use Rattle.td_verdict.specs.Names.{is_taken, is_target, table_schema, stable_schema, column_named}
use Rattle.td_verdict.specs.Values.{suits}
use Rattle.td_verdict.specs.Fields.{fields, part_column}
use Rattle.td_verdict.specs.Refusals.{is_window_start, is_bad_selection, is_bad_window}
use Rattle.td_verdict.specs.Streams.{is_plain}
use Rattle.td_verdict.specs.Writes.{first_given}

-- `SELECT *` with an optional LIMIT, whose OFFSET is 0 or not given: the one form that reads a target
abbrev pub reads_all : Query → Bool
reads_all q = q.star && (length q.conds == 0) && is_plain q.order && int_eq q.skip (pos 0)

-- ---- the source

-- what a name names: a table, or else a supertable
abbrev pub source_by : Option ℕ → Option ℕ → Source
source_by (Some table) stable = Table table
source_by None (Some stable) = Stable stable
source_by None None = Other

abbrev pub source_of : List ℕ → Catalog → Source
source_of name c = source_by (table_named name c) (stable_named name c)

abbrev pub schema_from : Source → Catalog → Schema
schema_from (Table n) c = table_schema (Some n) c
schema_from (Stable n) c = stable_schema (Some n) c
schema_from Other c = no_schema

abbrev pub source_schema : List ℕ → Catalog → Schema
source_schema name c = schema_from (source_of name c) c

-- whether the source is a table, and not a supertable
abbrev pub reads_table : Query → Catalog → Bool
reads_table q c = is_some (table_named q.source c)

-- ---- causes

-- a name that is no column or tag
abbrev pub is_unknown : Schema → List ℕ → Bool
is_unknown s name = is_none (column_named (fields s) name)

abbrev pub is_item_unknown : Schema → ItemKind → Bool
is_item_unknown s (item.Col name) = is_unknown s name
is_item_unknown s (item.Fun f name) = is_unknown s name
is_item_unknown s _ = false

abbrev pub is_part_unknown : Schema → PartBy → Bool
is_part_unknown s (part.Tag name) = is_unknown s name
is_part_unknown s part.TbName = false

abbrev pub is_window_unknown : Schema → WindowDef → Bool
is_window_unknown s window.Whole = false
is_window_unknown s (window.Interval len offset slide) = false
is_window_unknown s (window.Session column tol) = is_unknown s column
is_window_unknown s (window.State column) = is_unknown s column

abbrev pub is_order_unknown : Schema → OrderBy → Bool
is_order_unknown s order.Plain = false
is_order_unknown s (order.Asc name) = not (is_window_start name) && is_unknown s name
is_order_unknown s (order.Desc name) = not (is_window_start name) && is_unknown s name

abbrev pub has_unknown : Schema → Query → Bool
has_unknown s q =
    list_any (λ (i : Item). is_item_unknown s i.what) q.items || list_any (λ (c : Cond). is_part_unknown s c.of) q.conds
    || list_any (is_part_unknown s) q.parts || is_window_unknown s q.window || is_order_unknown s q.order

-- a condition's literal doesn't suit its column or tag
abbrev pub mismatch_at : Option Column → Cond → Option Cause
mismatch_at None c = None
mismatch_at (Some column) c = when (not (suits column.kind 0 c.lit)) (cause.TypeMismatch column.name)

abbrev pub mismatch_cause : Schema → List Cond → Option Cause
mismatch_cause s conds = first_given (λ (c : Cond). mismatch_at (part_column s c.of) c) conds

-- a count of rows of LIMIT or OFFSET is 0 to the greatest that there is
abbrev pub is_count : ℤ → Bool
is_count n = int_le (pos 0) n && int_le n (pos LAST_COUNT)

abbrev pub is_bad_limit : Query → Bool
is_bad_limit q = not (is_count q.skip) || option_map_or (λ n. not (is_count n)) q.limit false

-- the causes of a query over the schema of its source, which is a table or else a supertable
abbrev pub body_cause : Bool → Schema → Query → Option Cause
body_cause of_table s q = first_cause (
    when (has_unknown s q) cause.UnknownColumn
    ∷ mismatch_cause s q.conds
    ∷ when (is_bad_selection s q) cause.BadSelect
    ∷ when (is_bad_window of_table s q q.window) cause.BadWindow
    ∷ when (is_bad_limit q) cause.BadLimit
    ∷ [])

-- the causes of its source
abbrev pub source_cause : Query → Catalog → Option Cause
source_cause q c = first_cause (
    when (not (is_taken q.source c)) cause.UnknownTable
    ∷ when (is_target q.source c && not (reads_all q)) cause.TargetOfStream
    ∷ [])

abbrev pub query_cause : Query → Catalog → Option Cause
query_cause q c = option_or (source_cause q c) (body_cause (reads_table q c) (source_schema q.source c) q)

abbrev pub passes_or : Option Cause → Verdict
passes_or None = Pass
passes_or (Some why) = Refuse why

abbrev pub query_verdict : Query → Catalog → Verdict
query_verdict q c = passes_or (query_cause q c)
