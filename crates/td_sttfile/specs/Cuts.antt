-- The cuts of a file: a table's range of timestamps each, in order.
use Rattle.std.specs.Prelude.{ℕ, ◌+◌, ◌==◌, ◌&&◌, nat_lt, nat_le, Bool, true, if◌then◌else◌, Option, Some, None}
use Rattle.std.specs.Int.{w32, w64}
use Rattle.td_codec.specs.Fields.{Field, number, checked, followed, made}
use Rattle.td_fileio.specs.Days.{is_in_day}
use Rattle.td_sttfile.specs.declared.format.FileCut.{FileCut}

-- whether a cut's table is not below that of the cut before
abbrev pub follows : Option FileCut → ℕ → Bool
follows None table = true
follows (Some c) table = nat_le c.table table

-- whether a cut begins apart from the cut before, where that is of the same table: at least one timestamp lies
-- between them
abbrev pub begins_apart : Option FileCut → ℕ → ℕ → Bool
begins_apart None table lo = true
begins_apart (Some c) table lo = (if c.table == table then nat_lt (c.hi + 1) lo else true)

-- table, lo and hi of a cut behind another, in a day range
abbrev pub cut_parts : ℕ → Option FileCut → Field (ℕ × (ℕ × ℕ))
cut_parts range before =
    followed (checked (number w32) (follows before))
    (λ table. followed (checked (number w64) (λ lo. is_in_day range lo && begins_apart before table lo))
    (λ lo. checked (number w64) (λ hi. nat_le lo hi && is_in_day range hi)))

abbrev pub cut_of : ℕ × (ℕ × ℕ) → FileCut
cut_of p = record { table = p.0; lo = p.1.0; hi = p.1.1 }

abbrev pub parts_of_cut : FileCut → Option (ℕ × (ℕ × ℕ))
parts_of_cut c = Some (c.table, (c.lo, c.hi))

-- A cut behind another. A table below that of the cut before is a fault at the table; a cut that isn't apart from it,
-- or that begins outside the day range, at lo; one whose lo is above its hi, or that ends outside the day range, at
-- hi.
unfoldable pub cut_behind : ℕ → Option FileCut → Field FileCut
cut_behind range before = made (cut_parts range before) cut_of parts_of_cut
