-- Where the numbers of files, and the text of the first stream, stand in the bytes of a head.
use Rattle.std.specs.Prelude.{◌≡◌, ℕ, ◌+◌, ◌-◌, ◌*◌, ◌==◌, nat_lt, if◌then◌else◌, List, [], ◌∷◌, ◌++◌, length, take, drop, slice_get, Option, Some, None}
use Rattle.std.specs.Int.{w32, w64, to_le_bytes}
use lib.Chars.{codes}
use Rattle.td_manifest.specs.declared.head.Head.{Head}
use Rattle.td_manifest.specs.declared.head.HeadSet.{HeadSet}
use Rattle.td_manifest.specs.declared.head.HeadStream.{HeadStream}
use Rattle.td_manifest.specs.declared.reading.TheConstants.{FORMAT}
use Rattle.td_codec.specs.Fields.{followed}
use Rattle.td_manifest.specs.Files.{files_of, all_files}
use Rattle.td_manifest.specs.Heads.{IsHead, start_field, stables_field, tables_field}

-- the bytes of the supertables and tables
abbrev pub catalog_bytes : Head → List ℕ
catalog_bytes h = (followed (stables_field h.version) (tables_field h.version)).spelled (h.stables, h.tables)

-- the bytes before the count of file sets; how many all bytes are has no part in their number
abbrev pub front_bytes : Head → List ℕ
front_bytes h =
    codes "TDH1" ++ (to_le_bytes w64 0 ++ (to_le_bytes w32 FORMAT
    ++ (start_field.spelled (h.version, (h.moment, (h.first_log, h.edge))) ++ catalog_bytes h)))

-- a count of items, a day range, a file's number
abbrev pub COUNT_BYTES : ℕ
COUNT_BYTES = 4

abbrev pub RANGE_BYTES : ℕ
RANGE_BYTES = 4

abbrev pub FILE_BYTES : ℕ
FILE_BYTES = 8

-- the bytes of a set before its stt files, and all its bytes
abbrev pub stt_offset : ℕ
stt_offset = RANGE_BYTES + FILE_BYTES + COUNT_BYTES

abbrev pub set_size : HeadSet → ℕ
set_size s = stt_offset + FILE_BYTES * length s.stt

abbrev pub sets_size : List HeadSet → ℕ
sets_size [] = 0
sets_size (s ∷ ss) = set_size s + sets_size ss

-- the place in a set of its file of this index, from 0: the data file, where there is one, then the stt files
abbrev pub own_offset : Option ℕ → ℕ → ℕ
own_offset None i = stt_offset + FILE_BYTES * i
own_offset (Some main) i = if i == 0 then RANGE_BYTES else stt_offset + FILE_BYTES * (i - 1)

-- the place in some sets of their file of this index
abbrev pub file_offset : List HeadSet → ℕ → ℕ
file_offset [] i = 0
file_offset (s ∷ ss) i =
    if nat_lt i (length (files_of s)) then own_offset s.main i
    else set_size s + file_offset ss (i - length (files_of s))

-- the place of a file's number, in bytes from 0
abbrev pub file_place : Head → ℕ → ℕ
file_place h i = length (front_bytes h) + COUNT_BYTES + file_offset h.sets i

-- the bytes of a stream before its text: its number, the version that made it, and the text's length
abbrev pub text_offset : ℕ
text_offset = 4 + 8 + 4

-- the place of the first stream's text: behind the file sets, the next stream's number and the count of streams
abbrev pub stream_place : Head → ℕ
stream_place h = length (front_bytes h) + COUNT_BYTES + sets_size h.sets + 4 + COUNT_BYTES + text_offset

-- The number of each file stands at its place, and the text of the first stream at its own.
abbrev pub FilesStandThere : Type 0
FilesStandThere = (bytes : List ℕ) (h : Head) (i n : ℕ) → IsHead bytes h → slice_get (all_files h.sets) i ≡ Some n
    → take FILE_BYTES (drop (file_place h i) bytes) ≡ to_le_bytes w64 n

abbrev pub StreamStandsThere : Type 0
StreamStandsThere = (bytes : List ℕ) (h : Head) (s : HeadStream) (ss : List HeadStream) → IsHead bytes h
    → h.streams ≡ s ∷ ss → take (length s.text) (drop (stream_place h) bytes) ≡ s.text
