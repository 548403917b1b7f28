-- The levels that the rows of a store lie in: memtables over the files of day ranges.
use Rattle.std.specs.Prelude.{ℕ, ◌+◌, List, [], ◌∷◌, map, Option}
use Rattle.std.specs.Option.{option_map}
use Rattle.td_cols.specs.declared.kinds.Kind.{Kind}
use Rattle.td_model.specs.declared.catalog.Column.{Column}
use Rattle.td_model.specs.declared.catalog.TableDef.{TableDef}
use Rattle.td_model.specs.Catalog.{Catalog}
use Rattle.td_model.specs.State.{Rows}
use Rattle.td_verdict.specs.Sound.{value_columns}
use Rattle.td_memtable.specs.Contents.{Contents}
use Rattle.td_fileset.specs.Sources.{Kept, Reads, InSttFile, InDataFile}
use Rattle.td_fileset.specs.Layered.{OpenSet, Stored, listed, rows_told}

-- the files of a day range, by number: the stt files, the newest first, and the data file, where there is one
pub record SetFiles : Type 0 where
  pub range : ℕ
  pub stt : List ℕ
  pub main : Option ℕ

-- the memtable that takes entries; the frozen one, where there is one; and the file sets
pub record Levels : Type 0 where
  pub active : Contents
  pub frozen : Option Contents
  pub sets : List SetFiles

-- the memtables, the newest first
abbrev pub memtables_of : Levels → List Contents
memtables_of l = l.active ∷ listed l.frozen

-- what the finished files of a store hold, by number
abbrev pub Files : Type 0
Files = ℕ → Option (List ℕ)

-- what a reader of a finished file reads; how long the file is has no part in the rows
abbrev pub reads_of : Files → Kept → ℕ → Reads
reads_of files kept n = record { kept = kept; bytes = files n; file = n; size = 0 }

abbrev pub open_set : Files → SetFiles → OpenSet
open_set files s =
    record {
      range = s.range;
      stt = map (reads_of files InSttFile) s.stt;
      main = option_map (reads_of files InDataFile) s.main;
    }

abbrev pub open_sets : Files → List SetFiles → List OpenSet
open_sets files sets = map (open_set files) sets

-- the kinds of a table's columns behind the timestamp
abbrev pub table_kinds : Catalog → ℕ → List Kind
table_kinds c table = map (λ (k : Column). k.kind) (value_columns table c)

-- these of each table, by its number, of the tables from a number on
abbrev pub kinds_from : Catalog → ℕ → List TableDef → List (ℕ × List Kind)
kinds_from c n [] = []
kinds_from c n (t ∷ ts) = (n, table_kinds c n) ∷ kinds_from c (n + 1) ts

abbrev pub kinds_of : Catalog → List (ℕ × List Kind)
kinds_of c = kinds_from c 1 c.tables

-- levels over what the finished files hold, for the tables of a catalog, from an edge on
abbrev pub stored_of : Files → Catalog → ℕ → Levels → Stored
stored_of files c edge l =
    record { memtables = memtables_of l; sets = open_sets files l.sets; kinds = kinds_of c; edge = edge }

-- The rows that levels make at the keys at or above an edge, where each file is there and none is damaged.
abbrev pub rows_over : Files → Catalog → ℕ → Levels → Option Rows
rows_over files c edge l = rows_told (stored_of files c edge l)
