-- What a snapshot over memtables and files stands for.
use Rattle.std.specs.Prelude.{◌≢◌, ℕ, ◌+◌, ◌-◌, ◌^◌, min, max, sum, sum_by, nat_le, ◌==◌, ◌&&◌, Bool, false, is_none, if◌then◌else◌, List, [], ◌∷◌, ◌++◌, map, length, Option, Some, None, unwrap_or}
use Rattle.std.specs.List.{flat_map, list_all, AllByRecursion}
use Rattle.std.specs.Option.{option_map}
use Rattle.std.specs.Map.{lookup}
use Rattle.td_cols.specs.declared.kinds.Kind.{Kind}
use Rattle.td_layer.specs.declared.values.Key.{Key}
use Rattle.td_layer.specs.declared.values.Row.{Row}
use Rattle.td_layer.specs.Scans.{Cut, Places}
use Rattle.td_memtree.specs.Within.{pairs_within}
use Rattle.td_memtable.specs.Contents.{Contents, key_at, table_cuts}
use Rattle.td_fileio.specs.Days.{day_start, day_end, is_in_day}
use Rattle.td_sttfile.specs.Scanned.{Want as SttWant, scanned as stt_scanned, cuts_of_file}
use Rattle.td_sttfile.specs.Ranges.{faults_of as stt_faults}
use Rattle.td_datafile.specs.Scanned.{Want as DataWant, scanned as data_scanned}
use Rattle.td_datafile.specs.Ranges.{faults_of as data_faults}
use Rattle.td_fileset.specs.Stack.{Layer, rows_of}
use Rattle.td_fileset.specs.Ranges.{only}
use Rattle.td_fileset.specs.Sources.{Kept, Reads, InMemory, InSttFile, InDataFile}
use Rattle.td_fileset.specs.Merged.{told_places}

-- ---- files

-- The open files of a day range: the stt files, the newest first, and the data file, where there is one.
pub record OpenSet : Type 0 where
  pub range : ℕ
  pub stt : List Reads
  pub main : Option Reads

-- no two sets have one day range
abbrev pub HaveOwnRanges : List OpenSet → Type 0
HaveOwnRanges [] = Unit {0}
HaveOwnRanges (s ∷ ss) = AllByRecursion (λ (other : OpenSet). other.range ≢ s.range) ss × HaveOwnRanges ss

-- a reader as what it reads, by what its file is
abbrev pub opened : {R : Type 0} → Kept → (R → Option (List ℕ)) → (R → ℕ) → (R → ℕ) → R → Reads
opened kept bytes file size r = record { kept = kept; bytes = bytes r; file = file r; size = size r }

-- how often readers failed, of some and one that may be missing
abbrev pub failed_of : {R : Type 0} → (R → ℕ) → List R → Option R → ℕ
failed_of count rs None = sum (map count rs)
failed_of count rs (Some r) = sum (map count rs) + count r

-- the one that may be missing, as a list
abbrev pub listed : {X : Type 0} → Option X → List X
listed None = []
listed (Some x) = x ∷ []

-- the files of a set, the newest first
abbrev pub files_of : OpenSet → List Reads
files_of s = s.stt ++ listed s.main

-- ---- layers

-- the last timestamp
abbrev pub last_ts : ℕ
last_ts = 2 ^ 64 - 1

-- a table's range of timestamps, both ends among them, with the kinds of the table's columns
pub record Span : Type 0 where
  pub table : ℕ
  pub kinds : List Kind
  pub lo : ℕ
  pub hi : ℕ

-- a table over all timestamps
abbrev pub whole : ℕ → List Kind → Span
whole table kinds = record { table = table; kinds = kinds; lo = 0; hi = last_ts }

abbrev pub stt_want : Span → SttWant
stt_want s = record { table = s.table; kinds = s.kinds; lo = s.lo; hi = s.hi }

abbrev pub data_want : Span → DataWant
data_want s = record { table = s.table; kinds = s.kinds; lo = s.lo; hi = s.hi }

-- what a memtable has of a span, with the table's cuts
abbrev pub memtable_layer : Span → Contents → Layer
memtable_layer s m =
    record {
      cuts = table_cuts s.table m.cuts;
      partials = pairs_within (key_at s.table s.lo) (key_at s.table s.hi) m.puts;
    }

-- what the bytes of a file have of a span, with the file's cuts
abbrev pub bytes_layer : Span → Kept → List ℕ → Layer
bytes_layer s InMemory all = record { cuts = []; partials = [] }
bytes_layer s InSttFile all =
    record { cuts = cuts_of_file all; partials = (stt_scanned (stt_want s) all).partials }
bytes_layer s InDataFile all = record { cuts = []; partials = (data_scanned (data_want s) all).partials }

-- what a file that tells its bytes has of a span
abbrev pub file_layer : Span → Reads → Layer
file_layer s r = bytes_layer s r.kept (unwrap_or r.bytes [])

-- a cut within a day range: it has the timestamps that are in both
abbrev pub cut_in_day : ℕ → Cut → Cut
cut_in_day range c = record { table = c.table; lo = max c.lo (day_start range); hi = min c.hi (day_end range) }

-- what of a layer lies in a day range
abbrev pub in_day : ℕ → Layer → Layer
in_day range l =
    record {
      cuts = map (cut_in_day range) l.cuts;
      partials = only (λ (key : Key). is_in_day range key.ts) l.partials;
    }

-- ---- snapshots

-- memtables, the newest first; file sets; the kinds of each table's columns, by the table's number; and the edge
pub record Stored : Type 0 where
  pub memtables : List Contents
  pub sets : List OpenSet
  pub kinds : List (ℕ × List Kind)
  pub edge : ℕ

-- these, and how often the readers of the files failed together
pub record Layered : Type 0 where
  pub stored : Stored
  pub failed : ℕ

-- the layers that a file set's files are of a table, the newest first: each counts in the set's day range alone
abbrev pub set_layers : ℕ × List Kind → OpenSet → List Layer
set_layers t s = map (λ (r : Reads). in_day s.range (file_layer (whole t.0 t.1) r)) (files_of s)

-- The layers of a table, of which the newest stands first: memtables over files, and stt files over the data file. No
-- two file sets have one day range, so that their order is nothing.
abbrev pub table_layers : List Contents → List OpenSet → ℕ × List Kind → List Layer
table_layers memtables sets t = map (memtable_layer (whole t.0 t.1)) memtables ++ flat_map (set_layers t) sets

-- whether a key is of a table and at or above the edge
abbrev pub is_from : ℕ → ℕ → Key → Bool
is_from edge table key = (key.table == table) && nat_le (day_start edge) key.ts

-- The rows of a table: what its layers compose to, at the keys at or above the edge.
abbrev pub table_rows : Stored → ℕ × List Kind → List (Key × Row)
table_rows s t = only (is_from s.edge t.0) (rows_of (table_layers s.memtables s.sets t))

-- ---- what is told

-- the place of the first fault that a scan of a table over all timestamps finds in the bytes of a file
abbrev pub fault_of : Span → Kept → List ℕ → Option ℕ
fault_of s InMemory all = None
fault_of s InSttFile all = (stt_scanned (stt_want s) all).fault
fault_of s InDataFile all = (data_scanned (data_want s) all).fault

-- whether bytes are told, in which no such fault is
abbrev pub is_sound : Span → Kept → Option (List ℕ) → Bool
is_sound s kept None = false
is_sound s kept (Some all) = is_none (fault_of s kept all)

-- whether each file of some sets tells its bytes, and none is damaged where it has a table
abbrev pub are_sound : ℕ × List Kind → List OpenSet → Bool
are_sound t sets =
    list_all (λ (s : OpenSet). list_all (λ (r : Reads). is_sound (whole t.0 t.1) r.kept r.bytes) (files_of s)) sets

-- The rows, where each file tells its bytes and none is damaged: those of one table after the other.
unfoldable pub rows_told : Stored → Option (List (Key × Row))
rows_told s =
    if list_all (λ (t : ℕ × List Kind). are_sound t s.sets) s.kinds then Some (flat_map (table_rows s) s.kinds)
    else None

-- whether a key is of a table, and its timestamp from one to another, both among them
abbrev pub is_between : ℕ → ℕ → ℕ → Key → Bool
is_between table lo hi key = (key.table == table) && (nat_le lo key.ts && nat_le key.ts hi)

-- how many partials layers have of a table from one timestamp to another
abbrev pub partials_in : ℕ → ℕ → ℕ → List Layer → ℕ
partials_in table lo hi layers =
    sum_by (λ (l : Layer). length (only (is_between table lo hi) l.partials)) layers

-- how many partials the layers have of a table in a range of timestamps, at or above the edge, where this is told; of
-- another table than those whose kinds are given there is none
abbrev pub held_of : Stored → ℕ → ℕ → ℕ → Option (List Kind) → Option ℕ
held_of s table lo hi None = Some 0
held_of s table lo hi (Some kinds) =
    if are_sound (table, kinds) s.sets
    then Some (partials_in table (max lo (day_start s.edge)) hi (table_layers s.memtables s.sets (table, kinds)))
    else None

unfoldable pub held_told : Stored → ℕ → ℕ → ℕ → Option ℕ
held_told s table lo hi = held_of s table lo hi (lookup (λ (t : ℕ). t == table) s.kinds)

-- the places at which scans of a table can find damaged bytes of a file
abbrev pub places_in : Span → Kept → ℕ → List ℕ → Places
places_in s InMemory file all = []
places_in s InSttFile file all = map (λ (at : ℕ). (file, at)) (stt_faults s.table s.kinds all)
places_in s InDataFile file all = map (λ (at : ℕ). (file, at)) (data_faults s.table s.kinds all)

-- The damaged places of files, where each tells its bytes.
abbrev pub file_places : Span → Reads → Option Places
file_places s r = option_map (places_in s r.kept r.file) r.bytes

abbrev pub table_places : List OpenSet → ℕ × List Kind → List (Option Places)
table_places sets t = flat_map (λ (s : OpenSet). map (file_places (whole t.0 t.1)) (files_of s)) sets

unfoldable pub damaged_told : Stored → Option Places
damaged_told s = told_places (flat_map (table_places s.sets) s.kinds)
