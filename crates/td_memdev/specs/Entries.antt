-- Entries of the tables of a store in memory.
use Rattle.std.specs.Prelude.{ℕ, true, false, if◌then◌else◌, List, [], ◌∷◌, map, Some, is_some}
use Rattle.td_outside.specs.Crash.{stable_log}
use Rattle.td_memdev.specs.declared.logs.LogEntry.{LogEntry}
use Rattle.td_memdev.specs.declared.files.FileEntry.{FileEntry}
use Rattle.td_memdev.specs.declared.files.FileState.{FileState}
use Rattle.td_memdev.specs.declared.files.FileState.TheVariants.{Making, Lost, Finished}
use Rattle.td_memdev.specs.Kept.{Kept, state_bytes}

-- an entry of a log of these bytes, all of them stable
abbrev pub stable_entry : ℕ × List ℕ → LogEntry
stable_entry pair = record { number = pair.0; log = Some (stable_log pair.1); fresh = false; gone = false }

-- an entry of a finished file of these bytes
abbrev pub finished_entry : ℕ × List ℕ → FileEntry
finished_entry pair =
    record { number = pair.0; state = Finished (record { bytes = pair.1; readers = 0; removed = false }) }

-- a state with so many open readers, where it has a finished file
abbrev pub with_readers : ℕ → FileState → FileState
with_readers n Making = Making
with_readers n Lost = Lost
with_readers n (Finished file) = Finished (record file { readers = n })

-- an entry without open readers
abbrev pub closed : FileEntry → FileEntry
closed entry = record entry { state = with_readers 0 entry.state }

-- the store as its place gives it out: no reader is open, and its count of faults is 0
abbrev pub as_entered : Kept → Kept
as_entered kept = record kept { files = map closed kept.files; track = record kept.track { faults = 0 } }

-- a state of which a crash may leave nothing, where it has a finished file
abbrev pub marked : FileState → FileState
marked Making = Making
marked Lost = Lost
marked (Finished file) = Finished (record file { removed = true })

-- the numbers of the finished files
abbrev pub numbers_of : List FileEntry → List ℕ
numbers_of [] = []
numbers_of (entry ∷ entries) =
    (if is_some (state_bytes entry.state) then entry.number ∷ numbers_of entries else numbers_of entries)
