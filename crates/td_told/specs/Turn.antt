-- One statement's turn: the reply, the line of the journal and the state that its verdict gives.
use Rattle.std.specs.Prelude.{◌≡◌, ◌⊎◌, ℕ, ◌+◌, if◌then◌else◌, List, [], ◌∷◌, Option, Some, None}
use Rattle.td_model.specs.declared.language.Stmt.{Stmt}
use Rattle.td_model.specs.declared.history.What.{What}
use Rattle.td_model.specs.declared.history.What.TheVariants as what
use Rattle.td_model.specs.declared.history.Entry.{Entry}
use Rattle.td_model.specs.declared.history.Verdict.{Verdict}
use Rattle.td_model.specs.declared.history.Verdict.TheVariants.{Accept, Pass, Refuse}
use Rattle.td_model.specs.declared.report.Reply.{Reply}
use Rattle.td_model.specs.declared.report.Reply.TheVariants as reply
use Rattle.td_model.specs.declared.report.Mark.TheVariants as mark
use Rattle.td_model.specs.declared.report.JournalLine.{JournalLine}
use Rattle.td_model.specs.State.{State, step}
use Rattle.td_told.specs.Asked.{Asked}
use Rattle.td_told.specs.Journal.{halt_at}
use Rattle.td_told.specs.Verdict.{reads_clock, verdict, header, answer}

-- how often a statement's turn reads the clock
abbrev pub clock_reads : Stmt → ℕ
clock_reads q = if reads_clock q then 1 else 0

-- the turns of a script together
abbrev pub reads : List Asked → ℕ
reads [] = 0
reads (a ∷ script) = clock_reads a.stmt + reads script

abbrev pub accepted_reply : What → ℕ → ℕ → Reply
accepted_reply (what.Put puts) version rows = reply.AcceptedRows version rows
accepted_reply (what.Edge edge) version rows = reply.AcceptedEdge version edge
accepted_reply w version rows = reply.Accepted version

-- How a turn ends: by the statement's verdict, for want of memory, or by a fault of the store as the statement's entry
-- was to be written, which halts it.
pub data End : Type 0 where
  by_verdict : Verdict → End
  starved : End
  halted : End

-- what a statement is answered
abbrev pub reply_of : Stmt → End → State → Reply
reply_of q (by_verdict (Accept w rows)) s = accepted_reply w (s.version + 1) rows
reply_of q (by_verdict Pass) s = reply.Answer s.version (header q s) (answer q s)
reply_of q (by_verdict (Refuse cause)) s = reply.Refused s.version cause
reply_of q starved s = reply.NoMemory
reply_of q halted s = reply.StoreFaultHalt (s.version + 1)

abbrev pub entry_at : ℕ → ℕ → ℕ → What → Entry
entry_at session ordinal moment w = record { session = session; ordinal = ordinal; moment = moment; what = w }

-- the entry of a statement looks at no state before the one that it is judged in, and a halt at none
abbrev pub state_then : End → State → ℕ → ℕ → ℕ → State
state_then (by_verdict (Accept w rows)) s session ordinal moment = step (s ∷ []) (entry_at session ordinal moment w)
state_then (by_verdict Pass) s session ordinal moment = s
state_then (by_verdict (Refuse cause)) s session ordinal moment = s
state_then starved s session ordinal moment = s
state_then halted s session ordinal moment = step (s ∷ []) (halt_at moment)

abbrev pub line_at : ℕ → ℕ → ℕ → ℕ → JournalLine
line_at version session ordinal moment =
    record { version = version; session = session; ordinal = ordinal; moment = moment; mark = mark.Plain }

-- the line of a halt, which is of no session
abbrev pub halt_line : ℕ → ℕ → JournalLine
halt_line version moment = record { version = version; session = 0; ordinal = 0; moment = moment; mark = mark.Halt }

abbrev pub line_then : End → State → ℕ → ℕ → ℕ → Option JournalLine
line_then (by_verdict (Accept w rows)) s session ordinal moment = Some (line_at (s.version + 1) session ordinal moment)
line_then (by_verdict Pass) s session ordinal moment = None
line_then (by_verdict (Refuse cause)) s session ordinal moment = None
line_then starved s session ordinal moment = None
line_then halted s session ordinal moment = Some (halt_line (s.version + 1) moment)

-- the entry that a turn adds, if it adds one
abbrev pub entry_then : End → ℕ → ℕ → ℕ → List Entry
entry_then (by_verdict (Accept w rows)) session ordinal m = entry_at session ordinal m w ∷ []
entry_then (by_verdict Pass) session ordinal m = []
entry_then (by_verdict (Refuse cause)) session ordinal m = []
entry_then starved session ordinal m = []
entry_then halted session ordinal m = halt_at m ∷ []

abbrev pub as_list : Option JournalLine → List JournalLine
as_list None = []
as_list (Some j) = j ∷ []

-- the reply, the line and the state after are those of an end
pub record TurnIs
    (q : Stmt) (e : End) (s t : State) (session ordinal moment : ℕ) (r : Reply) (l : Option JournalLine)
    : Type 0 where
  pub reply : r ≡ reply_of q e s
  pub line : l ≡ line_then e s session ordinal moment
  pub state : t ≡ state_then e s session ordinal moment

-- a verdict that accepts
abbrev pub Accepts : Verdict → Type 0
Accepts (Accept w rows) = Unit {0}
Accepts Pass = ⊥
Accepts (Refuse cause) = ⊥

-- They are those of the statement's verdict at the moment, where the session has no cursor open, or there was no
-- memory.
abbrev pub TurnTells : Stmt → State → State → ℕ → ℕ → ℕ → Reply → Option JournalLine → Type 0
TurnTells q s t session ordinal moment r line =
    TurnIs q (by_verdict (verdict q s [] moment)) s t session ordinal moment r line
    ⊎ TurnIs q starved s t session ordinal moment r line

-- a fault of the store ended the turn, which comes only where the verdict accepts
abbrev pub TurnHalts : Stmt → State → State → ℕ → ℕ → ℕ → Reply → Option JournalLine → Type 0
TurnHalts q s t session ordinal moment r line =
    Accepts (verdict q s [] moment) × TurnIs q halted s t session ordinal moment r line

-- what may come of a turn
abbrev pub TurnAnswers : Stmt → State → State → ℕ → ℕ → ℕ → Reply → Option JournalLine → Type 0
TurnAnswers q s t session ordinal moment r line =
    TurnTells q s t session ordinal moment r line ⊎ TurnHalts q s t session ordinal moment r line

-- a reply with its statement's session and ordinal
abbrev pub reply_line_at : ℕ → ℕ → Reply → (ℕ × ℕ × Reply)
reply_line_at session ordinal r = (session, ordinal, r)

-- what a turn that ends so asks of the statement's verdict: it is this one; nothing; it accepts
abbrev pub Judged : End → Verdict → Type 0
Judged (by_verdict v) w = v ≡ w
Judged starved w = Unit {0}
Judged halted w = Accepts w
