-- What a table has by its number, which comparison the index serves for, and which leaves the table of one name.
use Rattle.std.specs.Prelude.{ℕ, ◌&&◌, ◌==◌, Bool, true, false, List, [], map, length, Option, nat_lt, ⊤}
use Rattle.std.specs.List.{find, All}
use Rattle.std.specs.Option.{option_map_or, option_and_then}
use Rattle.td_layer.specs.declared.values.Cell.{Cell}
use Rattle.td_model.specs.declared.catalog.Schema.{Schema}
use Rattle.td_model.specs.declared.catalog.TableDef.{TableDef}
use Rattle.td_model.specs.declared.language.Op.{Op}
use Rattle.td_model.specs.declared.language.Op.TheVariants as op
use Rattle.td_model.specs.declared.language.PartBy.{PartBy}
use Rattle.td_model.specs.Catalog.{Catalog, table_at, table_named}
use Rattle.td_model.specs.Tags.{text_of}
use Rattle.td_verdict.specs.declared.comparison.Comparison.{Comparison}
use Rattle.td_verdict.specs.declared.source.Source.{Source}
use Rattle.td_verdict.specs.declared.source.Source.TheVariants.{Table, Stable, Other}
use Rattle.td_verdict.specs.Parts.{part_of}
use Rattle.td_verdict.specs.Plans.{Numbered, is_under, all_hold_of_table}
use Rattle.td_catalog.specs.Kept.{IsNumbered}

-- there is a table of the number
abbrev pub IsThere : Source → Catalog → Type 0
IsThere (Table n) c = IsNumbered n (length c.tables)
IsThere (Stable n) c = IsNumbered n (length c.stables)
IsThere Other c = ⊤

-- the numbers of tables
abbrev pub numbers_of : List Numbered → List ℕ
numbers_of tables = map (λ (e : Numbered). e.0) tables

-- whether the table of a number is a subtable of a supertable, and all comparisons of its name and tags are true
abbrev pub is_planned : ℕ → ℕ → List Comparison → Catalog → ℕ → Bool
is_planned stable columns ps c n =
    option_map_or (λ (t : TableDef). is_under stable t && all_hold_of_table columns ps t.name t.tags)
    (table_at n c) false

-- the tags and the name of the table of a number
abbrev pub tags_at : Catalog → ℕ → List Cell
tags_at c n = option_map_or (λ (t : TableDef). t.tags) (table_at n c) []

abbrev pub name_at : Catalog → ℕ → List ℕ
name_at c n = option_map_or (λ (t : TableDef). t.name) (table_at n c) []

-- the cells that PARTITION BY items give for the table of a number
abbrev pub part_at : Schema → List PartBy → Catalog → ℕ → List Cell
part_at s parts c n = part_of s parts (name_at c n) (tags_at c n)

-- whether the tags that pass a comparison lie together in the index
abbrev pub is_indexed : Op → Bool
is_indexed op.Lt = true
is_indexed op.Le = true
is_indexed op.Gt = true
is_indexed op.Ge = true
is_indexed op.Eq = true
is_indexed op.Ne = false
is_indexed op.IsNull = false
is_indexed op.NotNull = false

-- the first comparison of a tag for which the index serves
abbrev pub first_indexed : ℕ → List Comparison → Option Comparison
first_indexed columns ps = find (λ (p : Comparison). nat_lt columns p.place && is_indexed p.op) ps

-- whether a comparison of a name leaves that name alone
abbrev pub is_equal : Op → Bool
is_equal op.Lt = false
is_equal op.Le = false
is_equal op.Gt = false
is_equal op.Ge = false
is_equal op.Eq = true
is_equal op.Ne = false
is_equal op.IsNull = false
is_equal op.NotNull = false

-- the first comparison of the table's name that leaves one name
abbrev pub first_named : List Comparison → Option Comparison
first_named ps = find (λ (p : Comparison). (p.place == 0) && is_equal p.op) ps

-- the number of the table whose name a cell is
abbrev pub table_of_cell : Cell → Catalog → Option ℕ
table_of_cell name c = option_and_then (λ text. table_named text c) (text_of name)

-- each number is one of a table
abbrev pub AreThere : Catalog → List ℕ → Type 0
AreThere c numbers = All (λ n. IsNumbered n (length c.tables)) numbers
