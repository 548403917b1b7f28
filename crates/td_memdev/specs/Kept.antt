-- What contracts see of a store in memory, and the image that it tells.
use Rattle.std.specs.Prelude.{ℕ, Bool, true, false, List, map, Option, Some, None}
use Rattle.td_outside.specs.Image.{Log, Image}
use Rattle.td_memdev.specs.Tables.{find}
use Rattle.td_memdev.specs.Track.{Track}
use Rattle.td_memdev.specs.declared.logs.LogEntry.{LogEntry}
use Rattle.td_memdev.specs.declared.files.FileEntry.{FileEntry}
use Rattle.td_memdev.specs.declared.files.FileState.{FileState}
use Rattle.td_memdev.specs.declared.files.FileState.TheVariants.{Making, Lost, Finished}

-- the head, or none; the heads of swaps that failed; logs; files; how many readers and writers it made; its calls
pub record Kept : Type 0 where
  pub head : Option (List ℕ)
  pub heads : List (List ℕ)
  pub logs : List LogEntry
  pub files : List FileEntry
  pub made : ℕ
  pub track : Track

-- what an entry of the table of logs tells, or none
abbrev pub log_of : Option LogEntry → Option Log
log_of None = None
log_of (Some entry) = entry.log

abbrev pub is_fresh : Option LogEntry → Bool
is_fresh None = false
is_fresh (Some entry) = entry.fresh

abbrev pub is_gone : Option LogEntry → Bool
is_gone None = false
is_gone (Some entry) = entry.gone

-- what the state of a file tells
abbrev pub state_bytes : FileState → Option (List ℕ)
state_bytes Making = None
state_bytes Lost = None
state_bytes (Finished file) = Some file.bytes

abbrev pub state_making : FileState → Bool
state_making Making = true
state_making Lost = false
state_making (Finished file) = false

abbrev pub state_lost : FileState → Bool
state_lost Making = false
state_lost Lost = true
state_lost (Finished file) = false

abbrev pub state_readers : FileState → ℕ
state_readers Making = 0
state_readers Lost = 0
state_readers (Finished file) = file.readers

abbrev pub state_removed : FileState → Bool
state_removed Making = false
state_removed Lost = false
state_removed (Finished file) = file.removed

-- what an entry of the table of files tells, or none
abbrev pub bytes_of : Option FileEntry → Option (List ℕ)
bytes_of None = None
bytes_of (Some entry) = state_bytes entry.state

abbrev pub is_making : Option FileEntry → Bool
is_making None = false
is_making (Some entry) = state_making entry.state

abbrev pub is_lost : Option FileEntry → Bool
is_lost None = false
is_lost (Some entry) = state_lost entry.state

abbrev pub readers_of : Option FileEntry → ℕ
readers_of None = 0
readers_of (Some entry) = state_readers entry.state

abbrev pub is_removed : Option FileEntry → Bool
is_removed None = false
is_removed (Some entry) = state_removed entry.state

-- the entry of a number
abbrev pub log_entry : List LogEntry → ℕ → Option LogEntry
log_entry logs n = find (λ entry. entry.number) n logs

abbrev pub file_entry : List FileEntry → ℕ → Option FileEntry
file_entry files n = find (λ entry. entry.number) n files

-- the image of a store in memory
abbrev pub image_of : Kept → Image
image_of kept = record {
  head = kept.head;
  logs = λ n. log_of (log_entry kept.logs n);
  files = λ n. bytes_of (file_entry kept.files n);
  making = λ n. is_making (file_entry kept.files n);
  readers = λ n. readers_of (file_entry kept.files n);
  doubt = record {
    heads = map (λ head. Some head) kept.heads;
    fresh = λ n. is_fresh (log_entry kept.logs n);
    gone = λ n. is_gone (log_entry kept.logs n);
    strays = λ n. is_lost (file_entry kept.files n);
    removed = λ n. is_removed (file_entry kept.files n);
  };
}
