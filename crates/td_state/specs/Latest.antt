-- The greatest timestamps that were ever put, raised by puts, and what is true of them.
use Rattle.std.specs.Prelude.{ℕ, ◌-◌, ◌≤◌, length, slice_set, List, [], ◌∷◌, Option, Some, None, ⊤}
use Rattle.std.specs.List.{AllZip}
use Rattle.td_limits.specs.declared.limits.TheConstants.{LAST_TIMESTAMP}
use Rattle.td_layer.specs.declared.values.Key.{Key}
use Rattle.td_model.specs.declared.catalog.StableDef.{StableDef}
use Rattle.td_model.specs.declared.catalog.TableDef.{TableDef}
use Rattle.td_model.specs.declared.history.Put.{Put}
use Rattle.td_model.specs.Catalog.{Catalog, table_at}
use Rattle.td_model.specs.State.{raised, parent_of}

-- of each supertable, and of each plain table, the greatest timestamp that was ever put there
pub record Greatest : Type 0 where
  pub stables : List (Option ℕ)
  pub tables : List (Option ℕ)

-- these, and how many more supertables and tables are taken without further memory
pub record LatestHeld : Type 0 where
  pub greatest : Greatest
  pub stable_room : ℕ
  pub table_room : ℕ

-- a subtable's greatest timestamp is its supertable's
abbrev pub raised_by : Option ℕ → Key → Greatest → Greatest
raised_by None key l = record l { tables = raised l.tables key.table key.ts }
raised_by (Some stable) key l = record l { stables = raised l.stables stable key.ts }

abbrev pub raised_all : Catalog → List Put → Greatest → Greatest
raised_all c [] l = l
raised_all c (p ∷ ps) l = raised_all c ps (raised_by (parent_of (table_at p.key.table c)) p.key l)

-- with the last replaced, where there is one
abbrev pub with_last : List (Option ℕ) → Option ℕ → List (Option ℕ)
with_last latest last = slice_set latest (length latest - 1) last

-- a timestamp that isn't missing is in the range of time
abbrev pub IsInTime : Option ℕ → Type 0
IsInTime None = ⊤
IsInTime (Some ts) = ts ≤ LAST_TIMESTAMP

-- that of a table with a supertable or none: a subtable has none of its own
abbrev pub IsLatestOf : Option ℕ → Option ℕ → Type 0
IsLatestOf (Some stable) (Some ts) = ⊥
IsLatestOf (Some stable) None = ⊤
IsLatestOf None latest = IsInTime latest

-- one for each supertable, and one for each table
pub record AreLatest (c : Catalog) (l : Greatest) : Type 0 where
  pub stables : AllZip (λ (s : StableDef) (o : Option ℕ). IsInTime o) c.stables l.stables
  pub tables : AllZip (λ (t : TableDef) (o : Option ℕ). IsLatestOf t.parent o) c.tables l.tables
