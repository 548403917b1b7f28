-- What writing an item to the log of a store leaves of it.
use Rattle.std.specs.Prelude.{◌≡◌, ◌≤◌, ℕ, ◌+◌, List, [], ◌∷◌, Option}
use Rattle.td_limits.specs.declared.limits.TheConstants.{MEMTABLE_PARTS}
use Rattle.td_model.specs.declared.history.Entry.{Entry}
use Rattle.td_model.specs.declared.history.Verdict.TheVariants.{Accept}
use Rattle.td_model.specs.declared.language.Stmt.{Stmt}
use Rattle.td_model.specs.State.{State, step}
use Rattle.td_manifest.specs.declared.head.Head.{Head}
use Rattle.td_outside.specs.Image.{Image}
use Rattle.td_parse.specs.Statements.{IsAnswer}
use Rattle.td_told.specs.Turn.{entry_at}
use Rattle.td_told.specs.Verdict.{verdict}
use Rattle.td_wal.specs.declared.item.LogItem.{LogItem}
use Rattle.td_wal.specs.declared.item.LogBody.TheVariants as bodies
use Rattle.td_levels.specs.Levels.{Levels}
use Rattle.td_levels.specs.Laws.{took}
use Rattle.td_levels.specs.Taken.{parts_of}
use Rattle.td_state.specs.Held.{bare}
use Rattle.td_active.specs.declared.active_log.ActiveLog.{ActiveLog}
use Rattle.td_active.specs.Active.{IsActive}
use Rattle.td_active.specs.Standing.{KeepsStanding, StandsAfter}

-- the item of a text, of a version, a session, an ordinal and a moment
abbrev pub text_item : ℕ → ℕ → ℕ → ℕ → List ℕ → LogItem
text_item version session ordinal moment text =
    record { version = version; moment = moment; session = session; ordinal = ordinal; body = bodies.Text text }

-- What the image of a store carries: a state but for its rows, which lie in levels, above a head of a version; and the
-- head that is kept beside a frozen memtable.
pub record Carried : Type 0 where
  pub state : State
  pub levels : Levels
  pub committed : ℕ
  pub sealed : Option Head

abbrev pub carried : State → Levels → ℕ → Option Head → Carried
carried s l committed sealed = record { state = s; levels = l; committed = committed; sealed = sealed }

-- the same with an entry more, whose parts are in the active memtable
abbrev pub with_entry : Entry → Carried → Carried
with_entry e k = record k { state = bare (step (k.state ∷ []) e); levels = took e k.levels }

-- An item is the record of an entry that may come next in a state whose parts lie in levels: its text is a statement
-- that is accepted there as what the entry does, and the active memtable has room for the parts.
pub record Records (i : LogItem) (s : State) (l : Levels) (e : Entry) : Type 0 where
  pub text : List ℕ
  pub stmt : Stmt
  pub rows : ℕ
  pub body : i.body ≡ bodies.Text text
  pub parsed : IsAnswer text stmt
  pub version : i.version ≡ s.version + 1
  pub moment : s.moment ≤ i.moment
  pub accepted : verdict stmt s [] i.moment ≡ Accept e.what rows
  pub entry : e ≡ entry_at i.session i.ordinal i.moment e.what
  pub room : l.active.held + parts_of e.what ≤ MEMTABLE_PARTS

-- The image stands for this by the log that is written.
abbrev pub Carries : ActiveLog → Carried → Image → Type 0
Carries place k image = IsActive image place k.state k.levels k.committed k.sealed

-- The image now carries this, and stands for each state of its version that it stood for.
pub record Leaves (place : ActiveLog) (k : Carried) (before now : Image) : Type 0 where
  pub carries : Carries place k now
  pub keeps : KeepsStanding k.state.version before now

-- The image now carries an entry more, and stands for what that makes of each state of the version that it stood for.
pub record Reaches (place : ActiveLog) (k : Carried) (e : Entry) (before now : Image) : Type 0 where
  pub carries : Carries place (with_entry e k) now
  pub after : StandsAfter k.state.version e before now
