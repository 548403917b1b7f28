-- What a query reads: the tables of its source that its conditions on tags leave, and the timestamps that its
-- conditions on the first column leave.
use Rattle.std.specs.Prelude.{ℕ, ◌+◌, ◌-◌, ◌&&◌, min, max, ℤ, pos, negsuc, Bool, true, false, ◌==◌, nat_lt, if◌then◌else◌, List, [], ◌∷◌, map, filter, length, Option, is_some}
use Rattle.std.specs.Option.{option_map_or}
use Rattle.std.specs.Str.{bytes_eq}
use Rattle.td_layer.specs.declared.values.Cell.{Cell}
use Rattle.td_layer.specs.declared.values.Cell.TheVariants as cell
use Rattle.td_model.specs.declared.catalog.TableDef.{TableDef}
use Rattle.td_model.specs.declared.catalog.Schema.{Schema}
use Rattle.td_model.specs.declared.language.Op.{Op}
use Rattle.td_model.specs.declared.language.Op.TheVariants as op
use Rattle.td_model.specs.declared.language.Query.{Query}
use Rattle.td_model.specs.declared.plan.Plan.{Plan}
use Rattle.td_limits.specs.declared.limits.TheConstants.{LAST_TIMESTAMP}
use Rattle.td_model.specs.Catalog.{Catalog, target_named}
use Rattle.td_model.specs.Tags.{number_of, cell_matches, tag_matches}
use Rattle.td_verdict.specs.declared.source.Source.{Source}
use Rattle.td_verdict.specs.declared.source.Source.TheVariants.{Table, Stable, Other}
use Rattle.td_verdict.specs.declared.comparison.Comparison.{Comparison}
use Rattle.td_verdict.specs.Fields.{comparisons_of}
use Rattle.td_verdict.specs.Parts.{part_of}
use Rattle.td_verdict.specs.Queries.{source_of, source_schema}
use Rattle.td_verdict.specs.Writes.{time_from}

-- ---- tables

-- a table with its number
abbrev pub Numbered : Type 0
Numbered = ℕ × TableDef

abbrev pub numbered : ℕ → List TableDef → List Numbered
numbered n [] = []
numbered n (t ∷ ts) = (n, t) ∷ numbered (n + 1) ts

abbrev pub all_tables : Catalog → List Numbered
all_tables c = numbered 1 c.tables

-- the subtables of a catalog with their tags, by number
abbrev pub subtables_of : Catalog → List (ℕ × List Cell)
subtables_of c = map (λ (e : Numbered). (e.0, e.1.tags)) (filter (λ (e : Numbered). is_some e.1.parent) (all_tables c))

-- whether a table is a subtable of the supertable of a number
abbrev pub is_under : ℕ → TableDef → Bool
is_under stable t = option_map_or (λ parent. parent == stable) t.parent false

-- whether a table is that of a source, or a subtable of it
abbrev pub is_in_source : Source → Numbered → Bool
is_in_source (Table n) e = e.0 == n
is_in_source (Stable n) e = is_under n e.1
is_in_source Other e = false

-- the tables of a source, by number: the table of its name, or all subtables of the supertable of its name
abbrev pub source_tables : List ℕ → Catalog → List Numbered
source_tables source c = filter (is_in_source (source_of source c)) (all_tables c)

-- whether a comparison is true of a table's name and tags, where it is of one of these: the name is at place 0, and the
-- tags stand behind the columns
abbrev pub holds_of_table : ℕ → List ℕ → List Cell → Comparison → Bool
holds_of_table columns name tags p =
    if p.place == 0 then cell_matches p.op (cell.Str name) p.operand
    else (if nat_lt columns p.place then tag_matches (p.place - (columns + 1)) p.op p.operand tags else true)

abbrev pub all_hold_of_table : ℕ → List Comparison → List ℕ → List Cell → Bool
all_hold_of_table columns [] name tags = true
all_hold_of_table columns (p ∷ ps) name tags =
    if holds_of_table columns name tags p then all_hold_of_table columns ps name tags else false

-- whether a table is read: a source's own table is, and a subtable of it that the comparisons leave
abbrev pub is_read : Source → ℕ → List Comparison → Numbered → Bool
is_read (Table n) columns ps e = e.0 == n
is_read (Stable n) columns ps e = is_under n e.1 && all_hold_of_table columns ps e.1.name e.1.tags
is_read Other columns ps e = false

-- the tables that are read, of a source whose tables have so many columns
abbrev pub planned : Source → ℕ → List Comparison → Catalog → List Numbered
planned source columns ps c = filter (is_read source columns ps) (all_tables c)

-- ---- timestamps

-- the timestamps above and below a number, brought into the range of time
abbrev pub time_above : ℤ → ℕ
time_above (pos n) = min (n + 1) LAST_TIMESTAMP
time_above (negsuc n) = 0

abbrev pub time_below : ℤ → ℕ
time_below (pos n) = min (n - 1) LAST_TIMESTAMP
time_below (negsuc n) = 0

-- the least and the greatest timestamp that a comparison with a number leaves
abbrev pub low_of : Op → ℤ → ℕ
low_of op.Gt n = time_above n
low_of op.Ge n = time_from n
low_of op.Eq n = time_from n
low_of _ n = 0

abbrev pub high_of : Op → ℤ → ℕ
high_of op.Lt n = time_below n
high_of op.Le n = time_from n
high_of op.Eq n = time_from n
high_of _ n = LAST_TIMESTAMP

-- those that a comparison leaves: one of the first column, at place 1, with a number, or else all
abbrev pub low : Comparison → ℕ
low p = if p.place == 1 then option_map_or (low_of p.op) (number_of p.operand) 0 else 0

abbrev pub high : Comparison → ℕ
high p = if p.place == 1 then option_map_or (high_of p.op) (number_of p.operand) LAST_TIMESTAMP else LAST_TIMESTAMP

abbrev pub lowest : List Comparison → ℕ
lowest [] = 0
lowest (p ∷ ps) = max (low p) (lowest ps)

abbrev pub highest : List Comparison → ℕ
highest [] = LAST_TIMESTAMP
highest (p ∷ ps) = min (high p) (highest ps)

-- ---- the plan

abbrev pub plan_over : Query → Schema → List Numbered → List Comparison → Option ℕ → Plan
plan_over q s tables ps target = record {
  query = q;
  tables = map (λ (e : Numbered). e.0) tables;
  parts = map (λ (e : Numbered). part_of s q.parts e.1.name e.1.tags) tables;
  tags = map (λ (e : Numbered). e.1.tags) tables;
  names = map (λ (e : Numbered). e.1.name) tables;
  schema = s;
  lo = lowest ps;
  hi = highest ps;
  target = target;
}

abbrev pub plan_from : Query → Source → Schema → Catalog → Plan
plan_from q source s c =
    plan_over q s (planned source (length s.columns) (comparisons_of s q.conds) c) (comparisons_of s q.conds)
    (target_named q.source c)

abbrev pub plan_of : Query → Catalog → Plan
plan_of q c = plan_from q (source_of q.source c) (source_schema q.source c) c

-- whether a plan is of a table, and not of a supertable: names share one space, so it is where its first table has the
-- source's name
abbrev pub is_of_table : List (List ℕ) → List ℕ → Bool
is_of_table [] source = false
is_of_table (name ∷ names) source = bytes_eq name source

abbrev pub reads_one : Plan → Bool
reads_one p = is_of_table p.names p.query.source
