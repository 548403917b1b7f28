-- What a statement meets in a state, and what a query answers.
use Rattle.std.specs.Prelude.{ℕ, Bool, true, nat_le, if◌then◌else◌, List, [], ◌∷◌, Option, Some, None}
use Rattle.td_layer.specs.declared.values.Cell.{Cell}
use Rattle.td_model.specs.declared.language.Stmt.{Stmt}
use Rattle.td_model.specs.declared.language.Stmt.TheVariants as stmt
use Rattle.td_model.specs.declared.history.Verdict.{Verdict}
use Rattle.td_model.specs.declared.history.Verdict.TheVariants.{Pass, Refuse}
use Rattle.td_model.specs.declared.report.Cause.{Cause}
use Rattle.td_model.specs.declared.report.Cause.TheVariants.{OptionNotBuilt, Stopped, TooManyVersions}
use Rattle.td_model.specs.Built.{is_write, is_built}
use Rattle.td_model.specs.State.{State}
use Rattle.td_limits.specs.declared.limits.TheConstants.{LAST_VERSION}
use Rattle.td_verdict.specs.Causes.{when, first_cause}
use Rattle.td_verdict.specs.Writes.{refused_or, write_verdict}
use Rattle.td_verdict.specs.Queries.{query_verdict}
use Rattle.td_verdict.specs.Answered as answered
use Rattle.td_verdict.specs.Answers as answers

-- whether a statement's turn reads the clock: that of a write and of a text that is no statement does, that of a query
-- doesn't
abbrev pub reads_clock : Stmt → Bool
reads_clock (stmt.Wrong cause) = true
reads_clock q = is_write q

-- what a built form that is no write meets in a state, where the session has cursors of these names open
abbrev pub read_verdict : Stmt → State → List (List ℕ) → Verdict
read_verdict (stmt.Select query) s cursors = query_verdict query s.catalog
read_verdict _ s cursors = Pass

-- after a halt no write is taken
abbrev pub halt_cause : Option ℕ → Option Cause
halt_cause None = None
halt_cause (Some version) = Some (Stopped version)

-- why a state takes no write, whatever it says: there is a halt, or there is no version for it
abbrev pub closed_cause : State → Option Cause
closed_cause s = first_cause (halt_cause s.halt ∷ when (nat_le LAST_VERSION s.version) TooManyVersions ∷ [])

-- what a write that is built meets in a state, at a moment
abbrev pub entry_verdict : Stmt → State → ℕ → Verdict
entry_verdict q s moment = refused_or (closed_cause s) (write_verdict q s.catalog s.edge moment)

-- what a built form meets in a state, at a moment
abbrev pub form_verdict : Stmt → State → List (List ℕ) → ℕ → Verdict
form_verdict q s cursors moment = if is_write q then entry_verdict q s moment else read_verdict q s cursors

-- What a statement meets in a state, at a moment, where the session has cursors of these names open: a text that is no
-- statement has its own cause; then the form must be built; then the state must take writes, where it is one; then
-- comes what the form meets.
abbrev pub verdict : Stmt → State → List (List ℕ) → ℕ → Verdict
verdict (stmt.Wrong cause) s cursors moment = Refuse cause
verdict q s cursors moment = if is_built q then form_verdict q s cursors moment else Refuse OptionNotBuilt

-- the header and the rows that a statement is answered, where it is a query
abbrev pub header : Stmt → State → List (List ℕ)
header (stmt.Select query) s = answers.header query s.catalog
header _ s = []

abbrev pub answer : Stmt → State → List (List Cell)
answer (stmt.Select query) s = answered.answer query s
answer _ s = []
