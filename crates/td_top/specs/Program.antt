-- What the program did, from its arguments to its end.
use Rattle.std.specs.Prelude.{◌≡◌, ◌↔◌, ◌⊎◌, ℕ, List, Option, drop}
use Rattle.std.specs.Io.KnownBytes.{Appends}
use Rattle.std.specs.declared.io.ErrorKind.{ErrorKind}
use Rattle.std.specs.declared.io.ErrorKind.TheVariants.{OutOfMemory}
use Rattle.td_outside.specs.Causes.{Rose}
use Rattle.td_words.specs.Words.{dir_of}
use Rattle.td_top.specs.Stream.{WroteFront}
use Rattle.td_top.specs.Run.{Devices, Runs}
use Rattle.td_top.specs.declared.status.Status.{Status}
use Rattle.td_top.specs.declared.status.Status.TheVariants as status

-- there was no memory for the words, and nothing was touched
pub record Starved {I O P : Type 0} (before after : Devices I O P) (s : Status) : Type 0 where
  pub memory : s ≡ status.NoMemory
  pub untouched : after ≡ before

-- Over these arguments, of which the first is the program's own name, the words behind it were run.
abbrev pub RunsWords : {I O P : Type 0}
    → List (List ℕ) → Option (List ℕ) → Devices I O P → Devices I O P → Status → Type 0
RunsWords args readings before after s =
    Runs (dir_of (drop 1 args)) readings before after s ⊎ Starved before after s

-- The arguments couldn't be read: for want of memory, or since one isn't text. Nothing was touched.
pub record Unread {I O P : Type 0} (kind : ErrorKind) (before after : Devices I O P) (s : Status) : Type 0 where
  pub memory : (s ≡ status.NoMemory) ↔ (kind ≡ OutOfMemory)
  pub usage : (s ≡ status.NoMemory) ⊎ (s ≡ status.Usage)
  pub untouched : after ≡ before

-- A line was written and no write failed, or a front of it was and one did.
abbrev pub WroteLine : Option (List ℕ) → Option (List ℕ) → ℕ → ℕ → List ℕ → Type 0
WroteLine written written' count count' line =
    (Appends written written' line × (count' ≡ count)) ⊎ (WroteFront written written' line × Rose count count')
