-- What installs answer, and what they make of a core.
use Rattle.std.specs.Prelude.{◌≡◌, ◌⊎◌, ◌≤◌, ℕ, ◌+◌, List, [], ◌∷◌, ◌++◌, map, length, All, IsSome, Option, Some, None, IfSome}
use Rattle.td_limits.specs.declared.limits.TheConstants.{LAST_VERSION}
use Rattle.td_model.specs.declared.history.Entry.{Entry}
use Rattle.td_model.specs.State.{step}
use Rattle.td_outside.specs.Image.{Image, Along}
use Rattle.td_outside.specs.Causes.{Rose}
use Rattle.td_outside.specs.Files.{IsFinished}
use Rattle.td_told.specs.Journal.{halt_at}
use Rattle.td_told.specs.Turn.{halt_line}
use Rattle.td_manifest.specs.declared.head.Head.{Head}
use Rattle.td_manifest.specs.Files.{all_files}
use Rattle.td_commit.specs.declared.frozen.Frozen.{Frozen}
use Rattle.td_commit.specs.Files.{AreFilesOf}
use Rattle.td_levels.specs.Ranges.{installed}
use Rattle.td_stands.specs.Heads.{HeadIs}
use Rattle.td_state.specs.Held.{bare}
use Rattle.td_engine.specs.declared.installing.Install.{Install}
use Rattle.td_engine.specs.declared.installing.Install.TheVariants as install
use Rattle.td_engine.specs.CoreState.{CoreState, FrozenAt}
use Rattle.td_engine.specs.Commits.{IsHome, KeepsFiles}

-- The writers have the files of a frozen memtable, one for each of its day ranges, where the store tells its image.
pub record HaveFiles (told : Option Image) (f : Frozen) (written : List (Option (List ℕ))) : Type 0 where
  pub befores : List (Option (List ℕ))
  pub files : AreFilesOf f f.ranges befores written
  pub are_told : IfSome told (λ _. All (λ (b : Option (List ℕ)). IsSome b) befores)

-- the history is as it was, and the memtable is frozen and not out
pub record Unflown (old new : CoreState) : Type 0 where
  pub state : new.state ≡ old.state
  pub levels : new.levels ≡ old.levels
  pub committed : new.committed ≡ old.committed
  pub frozen_at : new.frozen_at ≡ old.frozen_at
  pub flight : new.flight ≡ None
  pub pins : new.pins ≡ old.pins
  pub base : new.base ≡ old.base
  pub journal : new.journal ≡ old.journal
  pub floor : new.floor ≡ old.floor
  pub readings : new.readings ≡ old.readings

-- the files of these numbers are finished, and are those of a frozen memtable
pub record AreNow (f : Frozen) (numbers : List ℕ) (before now : Image) : Type 0 where
  pub told : All (λ (n : ℕ). IsSome (now.files n)) numbers
  pub befores : List (Option (List ℕ))
  pub files_are : AreFilesOf f f.ranges befores (map now.files numbers)

-- The head now has the version of a frozen memtable and names finished files alone, the log before its first one is
-- gone, and the image stands for what it stood for. The files of these numbers are those of the frozen memtable.
pub record IsInstalled (f : Frozen) (numbers : List ℕ) (before now : Image) : Type 0 where
  pub keeps : KeepsFiles before now
  pub head : Head
  pub head_is : HeadIs now.head head
  pub version : head.version ≡ f.version
  pub finished : All (λ (n : ℕ). IsFinished n now) (all_files head.sets)
  pub dropped : (n : ℕ) → n + 1 ≡ head.first_log → now.logs n ≡ None
  pub files : AreNow f numbers before now

-- The files of the frozen memtable have taken its place, and the head has its version.
pub record Installs (old new : CoreState) (f : Frozen) (version : ℕ) : Type 0 where
  pub going : old.state.halt ≡ None
  pub home : IsHome old f
  pub version_is : version ≡ f.version
  pub numbers : List ℕ
  pub count_is : length numbers ≡ length f.ranges
  pub at : FrozenAt
  pub at_is : old.frozen_at ≡ Some at
  pub levels : new.levels ≡ installed f.ranges numbers at.edge old.levels
  pub committed : new.committed ≡ f.version
  pub frozen_at : new.frozen_at ≡ None
  pub flight : new.flight ≡ None
  pub state : new.state ≡ old.state
  pub pins : new.pins ≡ old.pins
  pub base : new.base ≡ old.base
  pub journal : new.journal ≡ old.journal
  pub floor : new.floor ≡ old.floor
  pub readings : new.readings ≡ old.readings
  pub image : Along (IsInstalled f numbers) old.told new.told

-- The files of the frozen memtable have taken its place.
pub record Replaced (old new : CoreState) (f : Frozen) : Type 0 where
  pub numbers : List ℕ
  pub count_is : length numbers ≡ length f.ranges
  pub at : FrozenAt
  pub at_is : old.frozen_at ≡ Some at
  pub levels : new.levels ≡ installed f.ranges numbers at.edge old.levels
  pub committed : new.committed ≡ f.version
  pub frozen_at : new.frozen_at ≡ None
  pub files : Along (AreNow f numbers) old.told new.told

-- the memtable is frozen still, and the head has its version
abbrev pub IsAsBefore : CoreState → CoreState → Type 0
IsAsBefore old new =
    (new.levels ≡ old.levels) × (new.committed ≡ old.committed) × (new.frozen_at ≡ old.frozen_at)

-- The head couldn't be swapped, or the older log couldn't be dropped: a halt is added. Where the head was swapped the
-- files have taken the memtable's place.
pub record HaltsNow (old new : CoreState) (f : Frozen) (halt : ℕ) : Type 0 where
  pub going : old.state.halt ≡ None
  pub home : IsHome old f
  pub last : old.state.version ≤ LAST_VERSION
  pub halt_is : halt ≡ old.state.version + 1
  pub state : new.state ≡ bare (step (old.state ∷ []) (halt_at old.floor))
  pub flight : new.flight ≡ None
  pub pins : new.pins ≡ old.pins
  pub base : new.base ≡ old.base
  pub journal : new.journal ≡ old.journal ++ halt_line halt old.floor ∷ []
  pub floor : new.floor ≡ old.floor
  pub readings : new.readings ≡ old.readings
  pub image : Along KeepsFiles old.told new.told
  pub levels : IsAsBefore old new ⊎ Replaced old new f
  pub cause : Rose old.count new.count

-- a halt stood before, and nothing is written
pub record StoodStill (old new : CoreState) (f : Frozen) (halt : ℕ) : Type 0 where
  pub halt_is : old.state.halt ≡ Some halt
  pub home : IsHome old f → new.flight ≡ None
  pub other : (IsHome old f → ⊥) → new.flight ≡ old.flight
  pub keeps : Unflown (record old { flight = new.flight }) (record new { flight = None })
  pub image : Along KeepsFiles old.told new.told

-- What an install answers. Strange exactly where the frozen memtable isn't the one that is out; a store fault only
-- where the count rose. After each answer but Installed and Strange the memtable is frozen and not out.
abbrev pub InstallEnds : CoreState → CoreState → Frozen → Install → Type 0
InstallEnds old new f (install.Installed version) = Installs old new f version
InstallEnds old new f (install.Strange number) =
    (number ≡ f.number) × (IsHome old f → ⊥) × Unflown (record old { flight = None }) (record new { flight = None })
    × (new.flight ≡ old.flight) × Along KeepsFiles old.told new.told
InstallEnds old new f install.StoreFault =
    (old.state.halt ≡ None) × IsHome old f × Unflown old new × Along KeepsFiles old.told new.told
    × Rose old.count new.count
InstallEnds old new f (install.Halted halt) = HaltsNow old new f halt ⊎ StoodStill old new f halt
InstallEnds old new f install.NoMemory =
    (old.state.halt ≡ None) × IsHome old f × Unflown old new × Along KeepsFiles old.told new.told

-- what an install adds to the history: a halt, where it answers one and none stood before
abbrev pub halt_unless : Option ℕ → ℕ → List Entry
halt_unless None floor = halt_at floor ∷ []
halt_unless (Some halt) floor = []

abbrev pub added_by : Install → Option ℕ → ℕ → List Entry
added_by (install.Halted version) halted floor = halt_unless halted floor
added_by (install.Installed version) halted floor = []
added_by (install.Strange number) halted floor = []
added_by install.StoreFault halted floor = []
added_by install.NoMemory halted floor = []
