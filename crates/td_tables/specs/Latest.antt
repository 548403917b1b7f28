-- The greatest timestamps that were ever put, raised by puts.
use Rattle.std.specs.Prelude.{ℕ, List, [], ◌∷◌, Option, Some, None}
use Rattle.td_layer.specs.declared.values.Key.{Key}
use Rattle.td_model.specs.declared.history.Put.{Put}
use Rattle.td_model.specs.Catalog.{Catalog, table_at}
use Rattle.td_model.specs.State.{raised, parent_of}

-- of each supertable, and of each plain table, the greatest timestamp that was ever put there
pub record Greatest : Type 0 where
  pub stables : List (Option ℕ)
  pub tables : List (Option ℕ)

-- these, and how many more supertables and tables are taken without further memory
pub record LatestHeld : Type 0 where
  pub greatest : Greatest
  pub stable_room : ℕ
  pub table_room : ℕ

-- a subtable's greatest timestamp is its supertable's
abbrev pub raised_by : Option ℕ → Key → Greatest → Greatest
raised_by None key l = record l { tables = raised l.tables key.table key.ts }
raised_by (Some stable) key l = record l { stables = raised l.stables stable key.ts }

abbrev pub raised_all : Catalog → List Put → Greatest → Greatest
raised_all c [] l = l
raised_all c (p ∷ ps) l = raised_all c ps (raised_by (parent_of (table_at p.key.table c)) p.key l)
