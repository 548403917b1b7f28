-- Readers of file sets, as scans take them out and give them back.
use Rattle.std.specs.Prelude.{◌≡◌, ℕ, ◌+◌, ◌-◌, ◌^◌, ◌≤◌, min, sum, true, Bool, List, [], ◌∷◌, ◌++◌, map, length, Option, Some, None}
use Rattle.std.specs.Option.{option_map, option_and_then}
use Rattle.td_layer.specs.declared.values.Key.{Key}
use Rattle.td_layer.specs.declared.values.Row.{Row}
use Rattle.td_layer.specs.declared.parts.Partial.{Partial}
use Rattle.td_layer.specs.Scans.{Cut, Places, rows_in}
use Rattle.td_memtable.specs.Contents.{Contents}
use Rattle.td_sttfile.specs.Scanned.{damaged_places as stt_damaged}
use Rattle.td_sttfile.specs.Scanning.{cuts_of as stt_cuts, damaged_of as stt_damaged_of}
use Rattle.td_datafile.specs.Scanned.{damaged_places as data_damaged}
use Rattle.td_datafile.specs.Scanning.{cuts_of as data_cuts, damaged_of as data_damaged_of}
use Rattle.td_fileset.specs.declared.any_scan.AnyScan.{AnyScan}
use Rattle.td_fileset.specs.declared.any_scan.AnyScan.TheVariants as any
use Rattle.td_fileset.specs.declared.spans.Span.{Span as SpanArgs}
use Rattle.td_fileset.specs.Stack.{Layer, rows_of}
use Rattle.td_fileset.specs.Sources.{Kept, Reads, InMemory, InSttFile, InDataFile}
use Rattle.td_fileset.specs.Merged.{Merged}
use Rattle.td_fileset.specs.Layered.{OpenSet, listed, Span, stt_want, data_want, memtable_layer, bytes_layer, table_layers, are_sound, partials_in}

-- ---- scans of every kind

module _ {R : Type 0} where
  -- what each scan stands for, by its kind
  abbrev pub scan_left : AnyScan R → Option (List (Key × Partial))
  scan_left (any.Memtable s) = Some s.left
  scan_left (any.Stt s) = s.left
  scan_left (any.Data s) = s.left

  abbrev pub scan_cuts : AnyScan R → Option (List Cut)
  scan_cuts (any.Memtable s) = Some s.cuts
  scan_cuts (any.Stt s) = stt_cuts s
  scan_cuts (any.Data s) = data_cuts s

  abbrev pub scan_begun : AnyScan R → Bool
  scan_begun (any.Memtable s) = s.begun
  scan_begun (any.Stt s) = s.begun
  scan_begun (any.Data s) = s.begun

  abbrev pub scan_damaged : AnyScan R → Option Places
  scan_damaged (any.Memtable s) = Some []
  scan_damaged (any.Stt s) = stt_damaged_of s
  scan_damaged (any.Data s) = data_damaged_of s

  abbrev pub scan_count : AnyScan R → ℕ
  scan_count (any.Memtable s) = 0
  scan_count (any.Stt s) = s.count
  scan_count (any.Data s) = s.count

  abbrev pub scan_reads : AnyScan R → Reads
  scan_reads (any.Memtable s) = record { kept = InMemory; bytes = None; file = 0; size = 0 }
  scan_reads (any.Stt s) = record { kept = InSttFile; bytes = s.told; file = s.file; size = s.size }
  scan_reads (any.Data s) = record { kept = InDataFile; bytes = s.told; file = s.file; size = s.size }

-- ---- sets whose readers are out

-- a file set, how often its readers failed together, and how many readers of stt files it has memory for
pub record Readers : Type 0 where
  pub files : OpenSet
  pub failed : ℕ
  pub room : ℕ

-- a file comes back, where its kind belongs; a memtable is none
abbrev pub with_kept : Kept → Reads → OpenSet → OpenSet
with_kept InMemory r s = s
with_kept InSttFile r s = record { range = s.range; stt = s.stt ++ r ∷ []; main = s.main }
with_kept InDataFile r s = record { range = s.range; stt = s.stt; main = Some r }

-- files come back one after the other
abbrev pub with_files : List Reads → OpenSet → OpenSet
with_files [] s = s
with_files (r ∷ rs) s = with_files rs (with_kept r.kept r s)

-- a set whose scans may be in a merge: its files once all have come back, and how often its readers failed
abbrev pub all_files : Merged → Readers → OpenSet
all_files m s = with_files m.reads s.files

abbrev pub all_failed : Merged → Readers → ℕ
all_failed m s = s.failed + sum m.counts

-- how many of some files are stt files, and how many data files
abbrev pub stt_in : Kept → ℕ
stt_in InMemory = 0
stt_in InSttFile = 1
stt_in InDataFile = 0

abbrev pub data_in : Kept → ℕ
data_in InMemory = 0
data_in InSttFile = 0
data_in InDataFile = 1

abbrev pub stt_among : List Reads → ℕ
stt_among [] = 0
stt_among (r ∷ rs) = stt_in r.kept + stt_among rs

abbrev pub data_among : List Reads → ℕ
data_among [] = 0
data_among (r ∷ rs) = data_in r.kept + data_among rs

-- a set has the room for files that are out: the memory for the stt files, and no data file where one of them is one
pub record HasRoom (out : List Reads) (s : Readers) : Type 0 where
  pub stt : length s.files.stt + stt_among out ≤ s.room
  pub main : length (listed s.files.main) + data_among out ≤ 1

-- ---- merges of scans

abbrev pub span_of : SpanArgs → Span
span_of s = record { table = s.table; kinds = s.kinds.now; lo = s.lo; hi = s.hi }

-- a file's layer in a span, where it tells its bytes
abbrev pub told_file : Span → Reads → Option Layer
told_file s r = option_map (bytes_layer s r.kept) r.bytes

-- the place of the first fault that a scan of a span finds
abbrev pub first_places : Span → Kept → ℕ → List ℕ → Places
first_places s InMemory file all = []
first_places s InSttFile file all = stt_damaged (stt_want s) file all
first_places s InDataFile file all = data_damaged (data_want s) file all

abbrev pub told_damage : Span → Reads → Option Places
told_damage s r = option_map (first_places s r.kept r.file) r.bytes

-- layers over others, where all are told
abbrev pub over_layers : List (Option Layer) → Option (List Layer) → Option (List Layer)
over_layers [] base = base
over_layers (l ∷ ls) base = option_and_then (λ older. option_map (λ newest. newest ∷ older) l) (over_layers ls base)

-- places beside others, where all are told
abbrev pub beside_places : List (Option Places) → Option Places → Option Places
beside_places [] base = base
beside_places (p ∷ ps) base = option_and_then (λ others. option_map (λ its. others ++ its) p) (beside_places ps base)

-- The layers and the damaged places of scans, of which the newest stands first, came over those of a merge.
pub record HasPushed (layers : List (Option Layer)) (places : List (Option Places)) (old new : Merged) : Type 0 where
  pub layers_are : new.layers ≡ over_layers layers old.layers
  pub places_are : new.damaged ≡ beside_places places old.damaged

-- the layers and the damaged places of memtables and of a set's files in a span, where these files count in a span of
-- their own
abbrev pub span_layers : List Contents → OpenSet → Span → Span → Option (List Layer)
span_layers ms s span own =
    over_layers (map (λ (m : Contents). Some (memtable_layer span m)) ms)
    (over_layers (map (told_file own) s.stt) (over_layers (map (told_file own) (listed s.main)) (Some [])))

abbrev pub span_places : List Contents → OpenSet → Span → Option Places
span_places ms s own =
    beside_places (map (λ (m : Contents). Some []) ms)
    (beside_places (map (told_damage own) s.stt) (beside_places (map (told_damage own) (listed s.main)) (Some [])))

-- rows by timestamp
abbrev pub timed : List (Key × Row) → List (ℕ × Row)
timed rows = map (λ (e : Key × Row). (e.0.ts, e.1)) rows

-- Rows were added to those that were found: the first of those that a merge had left.
abbrev pub IsRead : List (ℕ × Row) → List (ℕ × Row) → Option (List (Key × Row)) → Option (List (Key × Row)) → Type 0
IsRead before found None None = Unit {0}
IsRead before found None (Some rest) = ⊥
IsRead before found (Some all) None = ⊥
IsRead before found (Some all) (Some rest) = before ++ timed all ≡ found ++ timed rest

-- The rows of a table in a span were added to those that were found, where its files are sound; and so many steps were
-- taken at most.
abbrev pub AddsRows : List Contents → List OpenSet → Span → List (ℕ × Row) → List (ℕ × Row) → Type 0
AddsRows ms sets span before after = are_sound (span.table, span.kinds) sets ≡ true
    → after ≡ before ++ rows_in span.table span.lo span.hi (rows_of (table_layers ms sets (span.table, span.kinds)))

abbrev pub TakesSteps : List Contents → List OpenSet → Span → ℕ → ℕ → Type 0
TakesSteps ms sets span before now = are_sound (span.table, span.kinds) sets ≡ true
    → now ≤ before + partials_in span.table span.lo span.hi (table_layers ms sets (span.table, span.kinds))

-- a count of faults, up to the number's end
abbrev pub shown_count : ℕ → ℕ
shown_count n = min n (2 ^ 64 - 1)
