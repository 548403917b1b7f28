-- What stands before the blocks of a file: its day range, its cuts, and how many blocks there are.
use Rattle.std.specs.Prelude.{ℕ, ◌+◌, ◌-◌, ◌*◌, ◌==◌, List, length, slice_get, Option}
use Rattle.std.specs.Int.{w32}
use Rattle.td_layer.specs.Scans.{Cut}
use Rattle.td_codec.specs.Fields.{◌>>=◌, Field, number, checked, followed, pair}
use Rattle.td_codec.specs.Lists.{Items, counted}
use Rattle.td_fileio.specs.Places.{Placed, field_at}
use Rattle.td_sttfile.specs.declared.format.FileCut.{FileCut}
use Rattle.td_sttfile.specs.declared.format.TheConstants.{FILE_MAGIC}
use Rattle.td_sttfile.specs.declared.opening.Opening.{Opening}
use Rattle.td_sttfile.specs.Cuts.{cut_behind}
use Rattle.td_sttfile.specs.Written.{cut_bytes}

-- the last of some cuts, where there are any
abbrev pub last_cut : List FileCut → Option FileCut
last_cut cuts = slice_get cuts (length cuts - 1)

-- cuts, each behind those before it
abbrev pub cut_items : ℕ → Items FileCut
cut_items range =
    record {
      read = λ before. (cut_behind range (last_cut before)).read;
      spelled = cut_bytes;
      fits = λ before. (cut_behind range (last_cut before)).fits;
    }

abbrev pub magic : Field ℕ
magic = checked (number w32) (λ n. n == FILE_MAGIC)

-- The first 12 bytes: the magic, the day range and the count of the cuts.
unfoldable pub front : Field (ℕ × (ℕ × ℕ))
front = pair magic (pair (number w32) (number w32))

-- The magic, the day range, the cuts and the count of the blocks.
unfoldable pub opening : Field (ℕ × (ℕ × (List FileCut × ℕ)))
opening = pair magic (followed (number w32) (λ range. pair (counted (cut_items range)) (number w32)))

-- how many bytes stand before the blocks, with so many cuts
abbrev pub opening_length : ℕ → ℕ
opening_length cuts = 16 + 20 * cuts

-- what an opening consists of
abbrev pub opening_parts : Opening → ℕ × (ℕ × (List FileCut × ℕ))
opening_parts o = (FILE_MAGIC, (o.range, (o.cuts, o.blocks)))

-- The opening of a file with the place behind it, or the place of its first fault. The front says how long it is.
unfoldable pub opening_at : List ℕ → Placed (ℕ × (ℕ × (List FileCut × ℕ)))
opening_at all = field_at front 12 0 all >>= λ f. field_at opening (opening_length f.0.1.1) 0 all

-- a cut of a file as a cut of a layer
abbrev pub as_cut : FileCut → Cut
as_cut c = record { table = c.table; lo = c.lo; hi = c.hi }
