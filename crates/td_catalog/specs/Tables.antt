-- The table that a kept table is, and where it may lie.
use Rattle.std.specs.Prelude.{◌≡◌, ℕ, [], Option, Some, None}
use Rattle.td_model.specs.declared.catalog.TableDef.{TableDef}
use Rattle.td_catalog.specs.declared.catalog.Table.{Table}
use Rattle.td_catalog.specs.Kept.{IsNumbered}

abbrev pub table_of : Table → TableDef
table_of t = record { name = t.name; parent = t.parent; columns = t.schema.columns; tags = t.tags }

-- a plain table has no tags, and a subtable's supertable is one of so many
abbrev pub HasParent : ℕ → Table → Option ℕ → Type 0
HasParent stables t None = (t.schema.tags ≡ []) × (t.tags ≡ [])
HasParent stables t (Some stable) = IsNumbered stable stables
