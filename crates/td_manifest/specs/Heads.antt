-- The bytes of a head.
use Rattle.std.specs.Prelude.{◌≡◌, ◌<◌, ℕ, ◌+◌, ◌-◌, ◌^◌, ◌==◌, ◌||◌, ◌&&◌, nat_lt, nat_le, Bool, true, if◌then◌else◌, List, ◌++◌, length, Option, Some, Result, Ok, Err}
use Rattle.std.specs.Str.{bytes_eq}
use Rattle.std.specs.Int.{w32, w64, to_le_bytes}
use lib.Chars.{codes}
use Rattle.td_limits.specs.declared.limits.TheConstants.{LAST_TIMESTAMP, LAST_VERSION, LAST_DAY_RANGE, TABLES, STREAMS}
use Rattle.td_codec.specs.Fields.{Field, ◌>>=◌, number, checked, pair, followed, made, string_read}
use Rattle.td_manifest.specs.declared.head.Head.{Head}
use Rattle.td_manifest.specs.declared.head.HeadStable.{HeadStable}
use Rattle.td_manifest.specs.declared.head.HeadTable.{HeadTable}
use Rattle.td_manifest.specs.declared.head.HeadSet.{HeadSet}
use Rattle.td_manifest.specs.declared.head.HeadStream.{HeadStream}
use Rattle.td_manifest.specs.declared.fault.HeadFault.{HeadFault}
use Rattle.td_manifest.specs.declared.fault.HeadFault.TheVariants as faults
use Rattle.td_manifest.specs.declared.reading.TheConstants.{FORMAT}
use Rattle.td_manifest.specs.Listed.{listed}
use Rattle.td_manifest.specs.Tables.{stable_items, table_items}
use Rattle.td_manifest.specs.Files.{set_items}
use Rattle.td_manifest.specs.Streams.{stream_items}

-- ---- what stands between the format and the end mark

-- of version 0 there is only the empty head, in which each of these has its first value
abbrev pub begun : ℕ → Bool → Bool
begun version is_first = nat_lt 0 version || is_first

abbrev pub version_field : Field ℕ
version_field = checked (number w64) (λ v. nat_le v LAST_VERSION)

abbrev pub moment_field : ℕ → Field ℕ
moment_field version = checked (number w64) (λ moment. nat_le moment LAST_TIMESTAMP && begun version (moment == 0))

abbrev pub first_log_field : ℕ → Field ℕ
first_log_field version = checked (number w64) (λ log. nat_le 1 log && nat_le log (version + 1))

abbrev pub edge_field : ℕ → Field ℕ
edge_field version = checked (number w32) (λ edge. nat_le edge LAST_DAY_RANGE && begun version (edge == 0))

unfoldable pub stables_field : ℕ → Field (List HeadStable)
stables_field version = listed w32 (λ n. nat_le n TABLES && begun version (n == 0)) stable_items

unfoldable pub tables_field : ℕ → List HeadStable → Field (List HeadTable)
tables_field version stables =
    listed w32 (λ n. nat_le (length stables + n) TABLES && begun version (n == 0)) (table_items stables)

unfoldable pub sets_field : ℕ → Field (List HeadSet)
sets_field version = listed w32 (λ n. begun version (n == 0)) set_items

abbrev pub next_field : ℕ → Field ℕ
next_field version = checked (number w32) (λ next. nat_le 1 next && begun version (next == 1))

unfoldable pub streams_field : ℕ → ℕ → Field (List HeadStream)
streams_field version next = listed w32 (λ n. nat_le n STREAMS && begun version (n == 0)) (stream_items version next)

-- version, moment, first log, edge
abbrev pub Start : Type 0
Start = ℕ × (ℕ × (ℕ × ℕ))

unfoldable pub start_field : Field Start
start_field = followed version_field (λ v. pair (moment_field v) (pair (first_log_field v) (edge_field v)))

-- supertables and tables, file sets, the next stream and the streams, of a head of a version
abbrev pub Objects : Type 0
Objects = (List HeadStable × List HeadTable) × (List HeadSet × (ℕ × List HeadStream))

unfoldable pub objects_field : ℕ → Field Objects
objects_field version =
    pair (followed (stables_field version) (tables_field version))
    (pair (sets_field version) (followed (next_field version) (streams_field version)))

abbrev pub head_of : Start × Objects → Head
head_of p = record {
  version = p.0.0;
  moment = p.0.1.0;
  first_log = p.0.1.1.0;
  edge = p.0.1.1.1;
  stables = p.1.0.0;
  tables = p.1.0.1;
  sets = p.1.1.0;
  next_stream = p.1.1.1.0;
  streams = p.1.1.1.1;
}

abbrev pub head_parts : Head → Option (Start × Objects)
head_parts h =
    Some ((h.version, (h.moment, (h.first_log, h.edge))), ((h.stables, h.tables), (h.sets, (h.next_stream, h.streams))))

unfoldable pub head_body : Field Head
head_body = made (followed start_field (λ start. objects_field start.0)) head_of head_parts

-- ---- the whole head

-- these bytes and no others
unfoldable pub mark : List ℕ → Field (Unit {0})
mark m = record {
  read = λ bytes. string_read (λ t. bytes_eq t m) (length bytes) (length m) bytes >>= λ t. Ok (tt, t.1);
  spelled = λ _. m;
  fits = λ _. true;
}

-- a mark, the count of all bytes, the format, what the head says, and the end mark
abbrev pub Framed : Type 0
Framed = Unit {0} × (ℕ × (ℕ × (Head × Unit {0})))

unfoldable pub frame : ℕ → Field Framed
frame size =
    pair (mark (codes "TDH1")) (pair (checked (number w64) (λ n. n == size))
    (pair (checked (number w32) (λ n. n == FORMAT)) (pair head_body (mark (codes "TDHE")))))

-- a head's bytes around the count of all of them
unfoldable pub framed : ℕ → Head → List ℕ
framed size h =
    codes "TDH1" ++ (to_le_bytes w64 size ++ (to_le_bytes w32 FORMAT ++ (head_body.spelled h ++ codes "TDHE")))

-- The bytes are a head: they are spelled so, and each value keeps its rules.
pub record IsHead (bytes : List ℕ) (h : Head) : Type 0 where
  pub bytes_are : bytes ≡ framed (length bytes) h
  pub size : length bytes < 2 ^ 64
  pub fits : head_body.fits h ≡ true

-- A head has bytes: each value keeps its rules, and the count of the bytes fits its field.
pub record HasBytes (h : Head) : Type 0 where
  pub fits : head_body.fits h ≡ true
  pub size : length (framed 0 h) < 2 ^ 64

-- what reading all the bytes gives; bytes left over are a fault at the first of them
unfoldable pub head_read : List ℕ → Result Head ℕ
head_read bytes =
    (frame (length bytes)).read bytes >>= λ x. (if length x.1 == 0 then Ok x.0.1.1.1.0 else Err (length x.1))

-- the place of the first field that is cut short or breaks its rule
pub record BreaksAt (bytes : List ℕ) (at : ℕ) : Type 0 where
  pub left : ℕ
  pub breaks : head_read bytes ≡ Err left
  pub place : at ≡ length bytes - left

-- What is answered of bytes: the head that they are, or the place where they break its form. Want of memory says
-- nothing.
abbrev pub Answers : List ℕ → Result Head HeadFault → Type 0
Answers bytes (Ok h) = IsHead bytes h
Answers bytes (Err (faults.NotThis at)) = BreaksAt bytes at
Answers bytes (Err faults.NoMemory) = Unit {0}
