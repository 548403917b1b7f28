-- The images that a crash may leave of what a store tells: which bytes are stable, and what the disk may make of the
-- others.
use Rattle.std.specs.Prelude.{◌≡◌, ◌⊎◌, ℕ, ◌≤◌, Bool, true, false, ◌||◌, List, [], ◌∷◌, length, take, drop, Option, Some, None, IsSome, IfSome}
use Rattle.td_outside.specs.Image.{Log, Image, no_doubt}
use Rattle.td_outside.specs.Logs.{new_log}

-- Outside the unsynced range the bytes stay.
abbrev pub Stays : Option (ℕ × ℕ) → List ℕ → List ℕ → Type 0
Stays None old left = left ≡ old
Stays (Some range) old left = (take range.0 left ≡ take range.0 old) × (drop range.1 left ≡ drop range.1 old)

-- What a crash may leave of the bytes of a log: in the unsynced range anything, of what the log grew by since it was
-- synced any part.
pub record IsLeft (log : Log) (left : List ℕ) : Type 0 where
  pub stays : Stays log.unsynced log.bytes left
  pub no_shorter : log.stable ≤ length left
  pub no_longer : length left ≤ length log.bytes

-- a log as it stands after a crash: what a read gives is stable
abbrev pub stable_log : List ℕ → Log
stable_log bytes = record { bytes = bytes; stable = length bytes; unsynced = None }

-- what a crash may leave where a read gives this log or none
abbrev pub IsLeftOf : Option Log → Option Log → Type 0
IsLeftOf None left = left ≡ None
IsLeftOf (Some log) left = (bytes : List ℕ) × IsLeft log bytes × (left ≡ Some (stable_log bytes))

-- what a crash may leave of the log of a number, also after calls on it that failed
abbrev pub LeavesLog : (fresh gone : Bool) → Option Log → Option Log → Type 0
LeavesLog fresh gone log left =
    IsLeftOf log left ⊎ (((fresh ≡ true) × (left ≡ Some new_log)) ⊎ ((gone ≡ true) × (left ≡ None)))

-- What a crash may leave of the file of a number. A finished file stays, unless its removal failed. An unfinished file
-- may be gone, or there with any bytes.
abbrev pub LeavesFile : (unfinished removed : Bool) → Option (List ℕ) → Option (List ℕ) → Type 0
LeavesFile unfinished removed (Some bytes) left = (left ≡ Some bytes) ⊎ ((removed ≡ true) × (left ≡ None))
LeavesFile unfinished removed None left = (left ≡ None) ⊎ ((unfinished ≡ true) × IsSome left)

-- what a crash may leave of the head: it, or one of others
abbrev pub LeavesHead : List (Option (List ℕ)) → Option (List ℕ) → Option (List ℕ) → Type 0
LeavesHead [] head left = left ≡ head
LeavesHead (other ∷ others) head left = (left ≡ other) ⊎ LeavesHead others head left

-- An image that a crash at this moment may leave. Nothing of it is unsynced or in doubt, and no writer or reader is
-- out.
pub record MayLeave (now left : Image) : Type 0 where
  pub head : LeavesHead now.doubt.heads now.head left.head
  pub logs : (n : ℕ) → LeavesLog (now.doubt.fresh n) (now.doubt.gone n) (now.logs n) (left.logs n)
  pub making : (n : ℕ) → left.making n ≡ false
  pub files : (n : ℕ) → LeavesFile (now.making n || now.doubt.strays n) (now.doubt.removed n) (now.files n)
      (left.files n)
  pub readers : (n : ℕ) → left.readers n ≡ 0
  pub doubt : left.doubt ≡ no_doubt

-- the images that a crash at this moment may leave, where the store tells its own
abbrev pub may_leave : Option Image → Image → Type 0
may_leave told left = IfSome told (λ now. MayLeave now left)
