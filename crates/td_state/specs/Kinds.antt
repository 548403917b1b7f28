-- The kinds of the columns of tables, by which their rows are read.
use Rattle.std.specs.Prelude.{ℕ, List, map}
use Rattle.td_cols.specs.declared.kinds.Kind.{Kind}
use Rattle.td_model.specs.declared.catalog.Column.{Column}
use Rattle.td_model.specs.Catalog.{Catalog}
use Rattle.td_verdict.specs.Plans.{Numbered, all_tables}
use Rattle.td_verdict.specs.Sound.{value_columns}

-- the kinds of columns
abbrev pub kinds_of : List Column → List Kind
kinds_of columns = map (λ (k : Column). k.kind) columns

-- the kinds of a table's columns behind the timestamp
abbrev pub table_kinds : Catalog → ℕ → List Kind
table_kinds c table = map (λ (k : Column). k.kind) (value_columns table c)

-- these of each table, by number
abbrev pub all_kinds : Catalog → List (List Kind)
all_kinds c = map (λ (e : Numbered). table_kinds c e.0) (all_tables c)

-- tables with these
abbrev pub with_kinds : Catalog → List ℕ → List (ℕ × List Kind)
with_kinds c tables = map (λ t. (t, table_kinds c t)) tables
