-- Puts and cuts of two tables of two columns.
use Rattle.std.specs.Prelude.{ℕ, ◌≤◌, List, [], ◌∷◌}
use Rattle.std.specs.List.{AllByRecursion}
use Rattle.td_cols.specs.declared.kinds.Kind.{Kind}
use Rattle.td_cols.specs.declared.kinds.Kind.TheVariants.{I64}
use Rattle.td_layer.specs.declared.values.Key.{Key}
use Rattle.td_layer.specs.declared.parts.Partial.{Partial}
use Rattle.td_block.specs.Rows.{IsRowOf}
use Rattle.td_memtable.specs.Contents.{Contents}

-- the kinds of the columns of each table, and those of both tables
abbrev pub both_columns : List Kind
both_columns = I64 ∷ I64 ∷ []

abbrev pub both_tables : List (List Kind)
both_tables = both_columns ∷ both_columns ∷ []

-- a key is of one of the tables
pub record IsOfTables (key : Key) : Type 0 where
  pub first : 1 ≤ key.table
  pub last : key.table ≤ 2

-- a put of one of the tables
abbrev pub IsPut : Key × Partial → Type 0
IsPut e = IsOfTables e.0 × IsRowOf both_columns (e.0.ts, e.1)

-- a memtable has puts and cuts of the tables alone
pub record HasParts (m : Contents) : Type 0 where
  pub puts : AllByRecursion IsPut m.puts
  pub cuts : AllByRecursion (λ (c : Key × ℕ). IsOfTables c.0) m.cuts
