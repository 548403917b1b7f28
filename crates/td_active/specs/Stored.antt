-- What is true of a state whose rows lie in levels, of the log that is written, and of the store beneath.
use Rattle.std.specs.Prelude.{◌≡◌, ◌≤◌, ◌<◌, ℕ, ◌+◌, true, List, [], ◌∷◌, ◌++◌, length, All, Option, Some, None, IfSome}
use Rattle.td_limits.specs.declared.limits.TheConstants.{LAST_VERSION}
use Rattle.td_layer.specs.declared.values.Key.{Key}
use Rattle.td_layer.specs.declared.parts.Partial.{Partial}
use Rattle.td_model.specs.State.{State}
use Rattle.td_outside.specs.Image.{Image}
use Rattle.td_outside.specs.Files.{IsFinished}
use Rattle.td_manifest.specs.declared.head.Head.{Head}
use Rattle.td_manifest.specs.Heads.{head_body}
use Rattle.td_memtable.specs.Contents.{Contents}
use Rattle.td_printed.specs.Heads.{FitsHead}
use Rattle.td_printed.specs.Names.{AreWords}
use Rattle.td_levels.specs.Levels.{SetFiles, Levels}
use Rattle.td_levels.specs.Days.{RangesFit}
use Rattle.td_levels.specs.Fits.{FitsLevels}
use Rattle.td_levels.specs.Ranges.{AreByRange}
use Rattle.td_active.specs.declared.active_log.ActiveLog.{ActiveLog}
use Rattle.td_active.specs.Active.{IsActive}

-- What is known of a frozen memtable and of the head beside it, also of a store that doesn't tell its image: the head
-- can be written, and lies between the store's and the state; the memtable has parts of the head's tables alone.
pub record IsSealing (m : Contents) (h : Head) (place : ActiveLog) (s : State) (committed : ℕ) : Type 0 where
  pub number : place.number ≡ h.first_log
  pub fits : head_body.fits h ≡ true
  pub no_sets : h.sets ≡ []
  pub no_streams : h.streams ≡ []
  pub later : committed < h.version
  pub most : h.version ≤ s.version
  pub edge : h.edge ≤ s.edge
  pub puts : All (λ (e : Key × Partial). e.0.table ≤ length h.tables) m.puts
  pub cuts : All (λ (c : Key × ℕ). c.0.table ≤ length h.tables) m.cuts

-- A head stands beside the frozen memtable exactly where there is one. The numbers of logs rise by one at most with
-- each head.
abbrev pub Sealing : Option Contents → Option Head → ActiveLog → State → ℕ → Type 0
Sealing None None place s committed = place.number ≤ committed + 1
Sealing (Some m) (Some h) place s committed = IsSealing m h place s committed
Sealing None (Some h) place s committed = ⊥
Sealing (Some m) None place s committed = ⊥

-- the numbers of the files of a set
abbrev pub names_of : SetFiles → List ℕ
names_of s = s.stt ++ listed s.main
  where
    listed : Option ℕ → List ℕ
    listed None = []
    listed (Some n) = n ∷ []

-- the files of sets are finished
abbrev pub AreFinished : List SetFiles → Image → Type 0
AreFinished sets image = All (λ (s : SetFiles). All (λ (n : ℕ). IsFinished n image) (names_of s)) sets

-- What is true of a state whose rows lie in levels: the levels fit its catalog, which has no stream so far and can be
-- written as a head; as long as nothing halted, its version can stand in a head, and where the store tells its image,
-- it stands for the state, by the log that is written. The files of its sets are finished.
pub record IsStored
    (told : Option Image) (s : State) (l : Levels) (committed : ℕ) (sealed : Option Head) (place : ActiveLog)
    : Type 0 where
  pub fits : FitsLevels s.catalog l
  pub by_range : AreByRange l.sets
  pub ranges : RangesFit l.sets
  pub no_streams : s.catalog.streams ≡ []
  pub words : AreWords s.catalog
  pub heads : FitsHead s.catalog
  pub committed_is : committed ≤ s.version
  pub sealing : Sealing l.frozen sealed place s committed
  pub last_version : s.halt ≡ None → s.version ≤ LAST_VERSION
  pub active : s.halt ≡ None → IfSome told (λ image. IsActive image place s l committed sealed)
  pub files : IfSome told (AreFinished l.sets)
