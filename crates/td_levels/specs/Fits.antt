-- Levels that fit a catalog: each put and each cut of a memtable is of a table that is there, and no file has a row of
-- a table that isn't.
use Rattle.std.specs.Prelude.{◌≡◌, ◌≤◌, ◌<◌, ◌^◌, ℕ, true, List, [], All, length}
use Rattle.std.specs.List.{flat_map}
use Rattle.td_cols.specs.declared.kinds.Kind.{Kind}
use Rattle.td_layer.specs.declared.values.Key.{Key}
use Rattle.td_layer.specs.declared.parts.Partial.{Partial}
use Rattle.td_model.specs.Catalog.{Catalog}
use Rattle.td_verdict.specs.Sound.{IsPut}
use Rattle.td_memtable.specs.Contents.{Contents, IsSound}
use Rattle.td_fileset.specs.Stack.{Layer}
use Rattle.td_fileset.specs.Layered.{HaveOwnRanges, are_sound, set_layers}
use Rattle.td_levels.specs.Levels.{SetFiles, Levels, Files, open_sets, memtables_of}

-- a put of a table that is there, with a cell for each column, not named or in its kind's range; its birth is a number
-- of 64 bits
pub record FitsPut (c : Catalog) (e : Key × Partial) : Type 0 where
  pub put : IsPut c (record { key = e.0; cells = e.1.cells })
  pub born : e.1.birth.born < 2 ^ 64

-- a cut of a table that is there
pub record FitsCut (c : Catalog) (e : Key × ℕ) : Type 0 where
  pub from_one : 1 ≤ e.0.table
  pub there : e.0.table ≤ length c.tables

pub record FitsMemtable (c : Catalog) (m : Contents) : Type 0 where
  pub sound : IsSound m
  pub puts : All (FitsPut c) m.puts
  pub cuts : All (FitsCut c) m.cuts

-- the memtables fit, and no two file sets have one day range
pub record FitsLevels (c : Catalog) (l : Levels) : Type 0 where
  pub memtables : All (FitsMemtable c) (memtables_of l)
  pub ranges : (files : Files) → HaveOwnRanges (open_sets files l.sets)

-- the files of sets have no row of a table, whatever kinds its columns would have, and no damage there
pub record HaveNone (files : Files) (sets : List SetFiles) (table : ℕ) : Type 0 where
  pub sound : (kinds : List Kind) → are_sound (table, kinds) (open_sets files sets) ≡ true
  pub none : (kinds : List Kind)
      → All (λ (l : Layer). l.partials ≡ []) (flat_map (set_layers (table, kinds)) (open_sets files sets))

-- they have none of the tables that a catalog doesn't have
abbrev pub HaveNoFurther : Files → Catalog → List SetFiles → Type 0
HaveNoFurther files c sets = (table : ℕ) → length c.tables < table → HaveNone files sets table
