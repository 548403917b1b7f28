-- What scans of the files of a memtable give.
use Rattle.std.specs.Prelude.{◌≡◌, ℕ, ◌-◌, ◌^◌, ◌<◌, ◌≤◌, ◌&&◌, max, min, Bool, if◌then◌else◌, List, [], ◌∷◌, slice_get, Some, None}
use Rattle.std.specs.List.{AllByRecursion, list_any}
use Rattle.td_layer.specs.declared.values.Key.{Key}
use Rattle.td_layer.specs.declared.parts.Partial.{Partial}
use Rattle.td_layer.specs.declared.parts.Part.{Part}
use Rattle.td_layer.specs.Parts.{composed, no_part}
use Rattle.td_layer.specs.Scans.{is_cut}
use Rattle.td_memtree.specs.Keys.{item_at}
use Rattle.td_memtree.specs.Within.{pairs_within}
use Rattle.td_memtable.specs.Contents.{key_at, table_cuts, part_at}
use Rattle.td_fileio.specs.Days.{day_start, day_end, is_in_day}
use Rattle.td_sttfile.specs.Scanned.{Want, scanned, cuts_of_file}
use Rattle.td_commit.specs.declared.frozen.Frozen.{Frozen}

-- the puts of a memtable of which a scan wants the partials, as far as they lie in a day range
abbrev pub puts_wanted : Frozen → ℕ → Want → List (Key × Partial)
puts_wanted f range want =
    pairs_within (key_at want.table (max want.lo (day_start range))) (key_at want.table (min want.hi (day_end range)))
    f.memtable.puts

-- A table of the program's numbers is wanted, with the kinds of its columns.
pub record IsWanted (f : Frozen) (want : Want) : Type 0 where
  pub number : 1 ≤ want.table
  pub fits : want.table < 2 ^ 32
  pub kinds : slice_get f.kinds (want.table - 1) ≡ Some want.kinds

-- A file gives the parts of a memtable in a day range: each scan finds no fault and gives the puts there, and a key is
-- cut by the file exactly where it lies in the day range and is cut by the memtable.
pub record GivesPartsOf (f : Frozen) (range : ℕ) (bytes : List ℕ) : Type 0 where
  pub puts : (want : Want) → IsWanted f want
      → scanned want bytes ≡ record { partials = puts_wanted f range want; fault = None }
  pub cuts : (key : Key) → 1 ≤ key.table → key.table < 2 ^ 32
      → is_cut key (cuts_of_file bytes) ≡ (is_in_day range key.ts && is_cut key (table_cuts key.table f.memtable.cuts))

-- births are numbers of 64 bits, as in the program they always are
abbrev pub HasBirths : Frozen → Type 0
HasBirths f = AllByRecursion (λ (e : Key × Partial). e.1.birth.born < 2 ^ 64) f.memtable.puts

-- ---- all files together

-- the part that a file has of a key, as a scan finds it
abbrev pub part_in : Want → Key → List ℕ → Part
part_in want key bytes =
    record { cut = is_cut key (cuts_of_file bytes); put = item_at key (scanned want bytes).partials }

-- the part that files have together of a key
abbrev pub part_of_all : Want → Key → List (List ℕ) → Part
part_of_all want key [] = no_part
part_of_all want key (bytes ∷ files) = composed (part_in want key bytes) (part_of_all want key files)

-- whether a timestamp lies in one of some day ranges
abbrev pub is_in_any : List ℕ → ℕ → Bool
is_in_any ranges ts = list_any (λ range. is_in_day range ts) ranges

-- the part that a memtable has of a key, as far as that lies in one of some day ranges
abbrev pub clipped_part : Frozen → Key → Part
clipped_part f key = (if is_in_any f.ranges key.ts then part_at key f.memtable else no_part)

-- a scan wants a key
pub record Wants (want : Want) (key : Key) : Type 0 where
  pub table : want.table ≡ key.table
  pub from : want.lo ≤ key.ts
  pub to : key.ts ≤ want.hi

-- Files give together the parts of a memtable in its day ranges, as scans find them.
abbrev pub GiveParts : Frozen → List (List ℕ) → Type 0
GiveParts f files =
    (want : Want) (key : Key) → IsWanted f want → Wants want key → part_of_all want key files ≡ clipped_part f key
