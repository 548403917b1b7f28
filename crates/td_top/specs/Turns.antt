-- A line's turn on a core: its moment, how it ends, and what it leaves; and what the lines of a script together give.
use Rattle.std.specs.Prelude.{◌≡◌, ◌≢◌, ◌⊎◌, ℕ, ◌≤◌, max, Bool, true, false, List, [], ◌++◌, Option, IfSome}
use Rattle.td_limits.specs.declared.limits.TheConstants.{LAST_TIMESTAMP}
use Rattle.td_model.specs.declared.history.Entry.{Entry}
use Rattle.td_model.specs.declared.language.Stmt.{Stmt}
use Rattle.td_model.specs.declared.report.Reply.{Reply}
use Rattle.td_model.specs.declared.report.Report.{Report}
use Rattle.td_model.specs.State.{State, after}
use Rattle.td_model.specs.Text.{report_text}
use Rattle.td_outside.specs.Causes.{Reads, Rose}
use Rattle.td_outside.specs.Image.{Image}
use Rattle.td_core.specs.CoreState.{CoreState}
use Rattle.td_core.specs.Covers.{Covers, ImageIsBy}
use Rattle.td_script.specs.declared.lines.Line.{Line}
use Rattle.td_told.specs.Asked.{Asked}
use Rattle.td_told.specs.Journal.{halts_named}
use Rattle.td_told.specs.Times.{WereTaken}
use Rattle.td_told.specs.Verdict.{reads_clock, verdict}
use Rattle.td_told.specs.Turn.{End, by_verdict, starved, halted, Judged, TurnIs, line_then, entry_then, as_list, reads}
use Rattle.td_printed.specs.Names.{HasCounts}
use Rattle.td_top.specs.Asks.{Asks, TellsLines}

-- ---- moments

-- a reading of the clock, which doesn't fall below the moments that were given before
abbrev pub TakesReading : Option (List ℕ) → Option (List ℕ) → ℕ → ℕ → Type 0
TakesReading before after floor m = (now : ℕ) × Reads before after now × (now ≤ LAST_TIMESTAMP) × (m ≡ max now floor)

-- a reading, or the last moment that was given
abbrev pub TakesBy : Bool → Option (List ℕ) → Option (List ℕ) → ℕ → ℕ → Type 0
TakesBy true before after floor m = TakesReading before after floor m
TakesBy false before after floor m = (after ≡ before) × (m ≡ floor)

-- The moment of a statement's turn: a reading where its turn reads the clock, else the last moment that was given.
abbrev pub TakesMoment : Stmt → Option (List ℕ) → Option (List ℕ) → ℕ → ℕ → Type 0
TakesMoment q before after floor m = TakesBy (reads_clock q) before after floor m

-- ---- one turn

-- the count of the store's faults rises where a fault ends the turn, and else it stays
abbrev pub CountIs : End → ℕ → ℕ → Type 0
CountIs (by_verdict v) before now = now ≡ before
CountIs starved before now = now ≡ before
CountIs halted before now = Rose before now

-- A statement's turn on a core. Its moment is the greatest that the core has given then. It ends by the verdict at that
-- moment, for want of memory, or by a fault of the store; reply, line, state and entry are those of its end.
pub record TurnOn (q : Stmt) (session ordinal : ℕ) (old new : CoreState) (r : Reply) : Type 0 where
  pub takes : TakesMoment q old.readings new.readings old.floor new.floor
  pub end : End
  pub judged : Judged end (verdict q old.state [] new.floor)
  pub turn : TurnIs q end old.state new.state session ordinal new.floor r
      (line_then end old.state session ordinal new.floor)
  pub journal : new.journal ≡ old.journal ++ as_list (line_then end old.state session ordinal new.floor)
  pub covers : (opened : Option (List ℕ)) (b : State) (h : List Entry)
      → Covers opened old b h → Covers opened new b (h ++ entry_then end session ordinal new.floor)
  pub count : CountIs end old.count new.count

-- the turn of what a line asks
pub record LineTurn (l : Line) (old new : CoreState) (r : Reply) : Type 0 where
  pub asked : Asked
  pub asks : Asks l asked
  pub turn : TurnOn asked.stmt asked.session asked.ordinal old new r

-- ---- the lines of a script

-- no reply names a halt, and no fault was counted; or one does, and faults were counted
abbrev pub HaltsBy : List (ℕ × ℕ × Reply) → ℕ → ℕ → Type 0
HaltsBy replies before now =
    ((halts_named replies ≡ []) × (now ≡ before)) ⊎ ((halts_named replies ≢ []) × Rose before now)

-- a reply names a halt only where faults were counted
abbrev pub HaltCause : List (ℕ × ℕ × Reply) → ℕ → ℕ → Type 0
HaltCause replies before now = (halts_named replies ≡ []) ⊎ Rose before now

-- An image that is told stands for what entries make of a state. After a halt it stands for the state before it, or for
-- that with the entry that was tried.
abbrev pub LeavesBy : State → List Entry → Option Image → Type 0
LeavesBy b h image = IfSome image (λ i. ImageIsBy (after b h).halt i b h)

-- The report tells the run of the statements of the lines on a core, from its state on. The clock was read as often as
-- the script has writes and texts that are no statement. The core has the entries of the run.
pub record PlayedOn (old new : CoreState) (lines : List Line) (r : Report) : Type 0 where
  pub tells : TellsLines old.state old.readings lines r
  pub readings : WereTaken old.readings (reads tells.script) new.readings
  pub covers : Covers old.readings new old.state tells.told.told.entries
  pub cause : HaltsBy r.replies old.count new.count

-- the text is that of the report, whose numbers are in the range of their types
pub record PlayedText (old new : CoreState) (lines : List Line) (text : List ℕ) : Type 0 where
  pub report : Report
  pub played : PlayedOn old new lines report
  pub counts : HasCounts report
  pub text_is : text ≡ report_text report

-- the replies are those of such a report, whose journal is the core's
abbrev pub RepliedOn : CoreState → CoreState → List Line → List (ℕ × ℕ × Reply) → Type 0
RepliedOn old new lines replies =
    PlayedOn old new lines (record { base = new.base; replies = replies; streams = []; journal = new.journal })

-- a core has the entries of some history since it was opened
abbrev pub HasSome : CoreState → CoreState → Type 0
HasSome old new = (h : List Entry) × Covers old.readings new old.state h
