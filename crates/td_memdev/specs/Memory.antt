-- What contracts see of the devices in memory, and what their calls do.
use Rattle.std.specs.Prelude.{◌≡◌, ℕ, ◌+◌, ◌-◌, ◌^◌, length, min, Bool, if◌then◌else◌, ◌||◌, ◌&&◌, not, ◌==◌, List, Option, Result, is_err, IfOk}
use Rattle.std.specs.List.{list_any}
use Rattle.td_memdev.specs.Kept.{Kept}

-- a source: the bytes that are left, how many it gives at most a call, how many it gave, how many calls there were,
-- which fail, how many failed
pub record Feed : Type 0 where
  pub left : List ℕ
  pub most : ℕ
  pub given : ℕ
  pub calls : ℕ
  pub fails : List ℕ
  pub faults : ℕ

-- a sink: the bytes that it took, the room that is left, and the rest as of a source
pub record Page : Type 0 where
  pub written : List ℕ
  pub room : ℕ
  pub most : ℕ
  pub calls : ℕ
  pub fails : List ℕ
  pub faults : ℕ

-- one more, up to the end of the number's type
abbrev pub one_more : ℕ → ℕ
one_more n = min (n + 1) (2 ^ 64 - 1)

-- whether the list names the call
abbrev pub names : List ℕ → ℕ → Bool
names fails call = list_any (λ n. n == call) fails

-- A read fails exactly where the list names its call. Else it gives all that is left and fits, up to the most.
pub record ReadsAsListed {E : Type 0} (old new : Feed) (room : ℕ) (result : Result ℕ E) : Type 0 where
  pub fails : is_err result ≡ names old.fails (one_more old.calls)
  pub gives : IfOk result (λ n. n ≡ min (min (length old.left) room) old.most)
  pub calls : new.calls ≡ one_more old.calls
  pub faults : new.faults ≡ (if is_err result then one_more old.faults else old.faults)
  pub same : (new.most ≡ old.most) × (new.fails ≡ old.fails)

-- how much of a piece a sink takes
abbrev pub taken : Page → ℕ → ℕ
taken page count = min (min count page.most) page.room

-- A write fails exactly where the list names its call, or where it can take nothing of a piece that isn't empty.
pub record WritesAsListed {E : Type 0} (old new : Page) (count : ℕ) (result : Result ℕ E) : Type 0 where
  pub fails : is_err result ≡ (names old.fails (one_more old.calls) || ((taken old count == 0) && not (count == 0)))
  pub takes : IfOk result (λ n. n ≡ taken old count)
  pub calls : new.calls ≡ one_more old.calls
  pub faults : new.faults ≡ (if is_err result then one_more old.faults else old.faults)
  pub same : (new.most ≡ old.most) × (new.fails ≡ old.fails)

-- a place: its store, unless it is out; its calls, which fail, how many failed; how many faults of stores it took back
pub record Holding : Type 0 where
  pub store : Option Kept
  pub calls : ℕ
  pub fails : List ℕ
  pub faults : ℕ
  pub taken : ℕ

-- A call on a place fails exactly where the list names it, and counts no other fault.
pub record PlaceAsListed (old new : Holding) (failed : Bool) : Type 0 where
  pub fails : failed ≡ names old.fails (one_more old.calls)
  pub calls : new.calls ≡ one_more old.calls
  pub faults : new.faults ≡ (if failed then one_more old.faults else old.faults)
  pub same : new.fails ≡ old.fails
