-- What a submit answers, and what it makes of a core.
use Rattle.std.specs.Prelude.{◌≡◌, ◌≢◌, ℕ, ◌+◌, ◌≤◌, ◌<◌, max, List, [], ◌∷◌, ◌++◌, Option, Some, None}
use Rattle.td_limits.specs.declared.limits.TheConstants.{LAST_TIMESTAMP, MEMTABLE_PARTS}
use Rattle.td_model.specs.declared.history.What.{What}
use Rattle.td_model.specs.declared.history.Entry.{Entry}
use Rattle.td_model.specs.declared.history.Verdict.{Verdict}
use Rattle.td_model.specs.declared.history.Verdict.TheVariants.{Accept, Pass, Refuse}
use Rattle.td_model.specs.declared.language.Stmt.{Stmt}
use Rattle.td_model.specs.declared.report.Cause.{Cause}
use Rattle.td_model.specs.State.{step}
use Rattle.td_outside.specs.Image.{Along}
use Rattle.td_outside.specs.Causes.{Reads, Rose}
use Rattle.td_told.specs.Turn.{entry_at, line_at, halt_line}
use Rattle.td_told.specs.Journal.{halt_at}
use Rattle.td_told.specs.Verdict.{verdict}
use Rattle.td_engine.specs.declared.submit.Submitted.{Submitted}
use Rattle.td_engine.specs.declared.submit.Submitted.TheVariants as submitted
use Rattle.td_levels.specs.Taken.{parts_of}
use Rattle.td_levels.specs.Laws.{MayCome, took}
use Rattle.td_active.specs.Standing.{KeepsStanding, StandsAfter, StandsEither}
use Rattle.td_state.specs.Held.{bare}
use Rattle.td_engine.specs.CoreState.{CoreState}

-- ---- the moment

-- The clock is read once. The reading, or the floor where that is greater, is the moment of the call, and becomes the
-- floor. It isn't before the moment of the state, nor beyond the last.
pub record TakesMoment (old new : CoreState) : Type 0 where
  pub now : ℕ
  pub reads : Reads old.readings new.readings now
  pub floor : new.floor ≡ max now old.floor
  pub since : old.state.moment ≤ new.floor
  pub last : new.floor ≤ LAST_TIMESTAMP

-- ---- answers

-- nothing is changed of what was committed, frozen or pinned
pub record KeepsCommitted (old new : CoreState) : Type 0 where
  pub committed : new.committed ≡ old.committed
  pub frozen_at : new.frozen_at ≡ old.frozen_at
  pub flight : new.flight ≡ old.flight
  pub pins : new.pins ≡ old.pins
  pub base : new.base ≡ old.base

-- nothing is changed of the history: state, levels and journal are as they were
pub record KeepsHistory (old new : CoreState) : Type 0 where
  pub state : new.state ≡ old.state
  pub levels : new.levels ≡ old.levels
  pub journal : new.journal ≡ old.journal
  pub committed : KeepsCommitted old new

-- An entry is added: what the verdict accepts at the moment, with the session and the ordinal of the call. Its parts
-- are in the active memtable, which had room for them, and the store stands for the state with it.
pub record Accepts (old new : CoreState) (session ordinal moment : ℕ) (stmt : Stmt) (version rows edge : ℕ) :
    Type 0 where
  pub entered : What
  pub accepted : verdict stmt old.state [] moment ≡ Accept entered rows
  pub version_is : version ≡ old.state.version + 1
  pub edge_is : edge ≡ new.state.edge
  pub comes : MayCome old.state old.levels (entry_at session ordinal moment entered)
  pub state : new.state ≡ bare (step (old.state ∷ []) (entry_at session ordinal moment entered))
  pub levels : new.levels ≡ took (entry_at session ordinal moment entered) old.levels
  pub committed : KeepsCommitted old new
  pub journal : new.journal ≡ old.journal ++ line_at version session ordinal moment ∷ []
  pub image : Along (StandsAfter old.state.version (entry_at session ordinal moment entered)) old.told new.told
  pub count : new.count ≡ old.count

-- The verdict accepts, but the store failed: a halt is added. The store stands for the state from before, or for that
-- with the entry that was tried.
pub record Halts (old new : CoreState) (session ordinal moment : ℕ) (stmt : Stmt) (halt : ℕ) : Type 0 where
  pub tried : What
  pub rows : ℕ
  pub accepted : verdict stmt old.state [] moment ≡ Accept tried rows
  pub room : old.levels.active.held + parts_of tried ≤ MEMTABLE_PARTS
  pub version_is : halt ≡ old.state.version + 1
  pub state : new.state ≡ bare (step (old.state ∷ []) (halt_at moment))
  pub levels : new.levels ≡ old.levels
  pub committed : KeepsCommitted old new
  pub journal : new.journal ≡ old.journal ++ halt_line halt moment ∷ []
  pub image : Along (StandsEither old.state.version (entry_at session ordinal moment tried)) old.told new.told
  pub cause : Rose old.count new.count

-- the verdict at the moment is this cause, in the state whose version is the prefix; the store isn't called
pub record Refuses (old new : CoreState) (moment : ℕ) (stmt : Stmt) (cause : Cause) (prefix : ℕ) : Type 0 where
  pub refused : verdict stmt old.state [] moment ≡ Refuse cause
  pub prefix_is : prefix ≡ old.state.version
  pub keeps : KeepsHistory old new
  pub log : new.log ≡ old.log
  pub told : new.told ≡ old.told
  pub count : new.count ≡ old.count

-- The verdict accepts, but the active memtable, which holds so many parts, has no room for those of the entry. Nothing
-- else is done.
pub record IsFull (old new : CoreState) (moment : ℕ) (stmt : Stmt) (held : ℕ) : Type 0 where
  pub wanted : What
  pub rows : ℕ
  pub accepted : verdict stmt old.state [] moment ≡ Accept wanted rows
  pub held_is : held ≡ old.levels.active.held
  pub full : MEMTABLE_PARTS < held + parts_of wanted
  pub keeps : KeepsHistory old new
  pub log : new.log ≡ old.log
  pub told : new.told ≡ old.told
  pub count : new.count ≡ old.count

-- There was no memory, and the history is as it was. At most a log without items was made, and after a halt not even
-- that.
pub record Lacks (old new : CoreState) : Type 0 where
  pub keeps : KeepsHistory old new
  pub log : new.log ≡ record old.log { is_made = new.log.is_made }
  pub image : Along (KeepsStanding old.state.version) old.told new.told
  pub halted : old.state.halt ≢ None → new.told ≡ old.told
  pub count : new.count ≡ old.count

-- what a submit answers at a moment, and what it makes of the history, the store and the count of its faults
abbrev pub Answers : CoreState → CoreState → ℕ → ℕ → ℕ → Stmt → Submitted → Type 0
Answers old new session ordinal moment stmt (submitted.Accepted version rows edge) =
    Accepts old new session ordinal moment stmt version rows edge
Answers old new session ordinal moment stmt (submitted.Refused cause prefix) =
    Refuses old new moment stmt cause prefix
Answers old new session ordinal moment stmt (submitted.Full held) = IsFull old new moment stmt held
Answers old new session ordinal moment stmt (submitted.StoreFault halt) = Halts old new session ordinal moment stmt halt
Answers old new session ordinal moment stmt submitted.NoMemory = Lacks old new

-- a submit takes its moment, and answers
pub record Submits (old new : CoreState) (session ordinal : ℕ) (stmt : Stmt) (result : Submitted) : Type 0 where
  pub takes : TakesMoment old new
  pub answers : Answers old new session ordinal new.floor stmt result

-- ---- the history

-- the entry of a verdict, if it accepts
abbrev pub entry_of : ℕ → ℕ → ℕ → Verdict → List Entry
entry_of session ordinal moment (Accept entered rows) = entry_at session ordinal moment entered ∷ []
entry_of session ordinal moment Pass = []
entry_of session ordinal moment (Refuse cause) = []

-- What a submit at a moment adds to the history, by the verdict on its statement: where it answers Accepted, the entry
-- that the verdict accepts; where it answers StoreFault, a halt.
abbrev pub entries_by : ℕ → ℕ → ℕ → Verdict → Submitted → List Entry
entries_by session ordinal moment judged (submitted.Accepted version rows edge) = entry_of session ordinal moment judged
entries_by session ordinal moment judged (submitted.StoreFault halt) = halt_at moment ∷ []
entries_by session ordinal moment judged (submitted.Refused cause prefix) = []
entries_by session ordinal moment judged (submitted.Full held) = []
entries_by session ordinal moment judged submitted.NoMemory = []

-- the entries that a submit adds to the history of a core: its moment is the floor that it leaves
abbrev pub added : CoreState → CoreState → ℕ → ℕ → Stmt → Submitted → List Entry
added old new session ordinal stmt result =
    entries_by session ordinal new.floor (verdict stmt old.state [] new.floor) result

-- the statement of each entry that is added, and none for a halt
abbrev pub asked_by : Stmt → Submitted → List (Option Stmt)
asked_by stmt (submitted.Accepted version rows edge) = Some stmt ∷ []
asked_by stmt (submitted.StoreFault halt) = None ∷ []
asked_by stmt (submitted.Refused cause prefix) = []
asked_by stmt (submitted.Full held) = []
asked_by stmt submitted.NoMemory = []
