-- What the calls on logs make of an image.
use Rattle.std.specs.Prelude.{◌≡◌, ℕ, ◌+◌, ◌≤◌, min, max, true, false, if◌then◌else◌, List, [], ◌∷◌, ◌++◌, length, take, drop, Option, Some, None, IfSome, is_some}
use Rattle.std.specs.Option.{option_map, IsSomeAnd}
use Rattle.td_outside.specs.Image.{Log, Image, put}

-- a log of a number is there, and this is true of it
abbrev pub HasLog : ℕ → (Log → Type 0) → Image → Type 0
HasLog n P image = IsSomeAnd (image.logs n) P

-- a new log: one stable byte, a closed gate
abbrev pub new_log : Log
new_log = record { bytes = 0 ∷ []; stable = 1; unsynced = None }

-- bytes with others at a place, over what is there and past the end
abbrev pub overwritten : ℕ → List ℕ → List ℕ → List ℕ
overwritten at bytes old = take at old ++ bytes ++ drop (at + length bytes) old

-- the unsynced range, widened so that it takes in another
abbrev pub widened : ℕ → ℕ → Option (ℕ × ℕ) → Option (ℕ × ℕ)
widened from to None = Some (from, to)
widened from to (Some range) = Some (min from range.0, max to range.1)

-- bytes were written to a log at a place
abbrev pub after_write : ℕ → List ℕ → Log → Log
after_write at bytes log =
    record {
      bytes = overwritten at bytes log.bytes;
      stable = log.stable;
      unsynced = widened at (at + length bytes) log.unsynced;
    }

-- all of a log is stable
abbrev pub after_sync : Log → Log
after_sync log = record { bytes = log.bytes; stable = length log.bytes; unsynced = None }

-- the log of a number, where it is there, is made into another
abbrev pub with_log : ℕ → (Log → Log) → Image → Image
with_log n f image = record image { logs = put n (option_map f (image.logs n)) image.logs }

-- a new log stands in the place of what was there
abbrev pub after_log_create : ℕ → Image → Image
after_log_create n image =
    record image {
      logs = put n (Some new_log) image.logs;
      doubt = record image.doubt { fresh = put n false image.doubt.fresh; gone = put n false image.doubt.gone };
    }

-- a log couldn't be made: all is as it was, and a crash may leave the new log
abbrev pub after_failed_log_create : ℕ → Image → Image
after_failed_log_create n image = record image { doubt = record image.doubt { fresh = put n true image.doubt.fresh } }

-- a log is gone, if it was there
abbrev pub after_log_drop : ℕ → Image → Image
after_log_drop n image =
    (if is_some (image.logs n) then record image {
      logs = put n None image.logs;
      doubt = record image.doubt
          { fresh = put n false image.doubt.fresh; gone = put n false image.doubt.gone };
    } else image)

-- a log couldn't be dropped: all is as it was, and a crash may leave it or not
abbrev pub after_failed_log_drop : ℕ → Image → Image
after_failed_log_drop n image = record image { doubt = record image.doubt { gone = put n true image.doubt.gone } }

-- A write of some bytes at a place failed: in their range any may stand, and elsewhere the same. The log may have
-- grown.
pub record IsTorn (at count : ℕ) (old new : List ℕ) : Type 0 where
  pub before : take at new ≡ take at old
  pub after : drop (at + count) new ≡ drop (at + count) old
  pub no_shorter : length old ≤ length new
  pub no_longer : length new ≤ max (length old) (at + count)

-- a log with these bytes after a write of some bytes at a place that failed
abbrev pub after_torn_write : ℕ → ℕ → List ℕ → Log → Log
after_torn_write at count bytes log =
    record { bytes = bytes; stable = log.stable; unsynced = widened at (at + count) log.unsynced }

-- a write of some bytes at a place of a log failed
pub record Tears (n at count : ℕ) (old new : Image) : Type 0 where
  pub bytes : List ℕ
  pub range : IfSome (old.logs n) (λ log. IsTorn at count log.bytes bytes)
  pub image : new ≡ with_log n (after_torn_write at count bytes) old
