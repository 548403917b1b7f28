-- What the replies to statements say.
use Rattle.std.specs.Prelude.{◌≡◌, ℕ, ◌+◌, ◌-◌, ◌≤◌, ◌<◌, Bool, true, false, not, ◌&&◌, ◌||◌, ◌==◌, List, [], ◌∷◌, map, filter, Some, slice_get, length}
use Rattle.td_limits.specs.declared.limits.TheConstants.{LAST_TIMESTAMP}
use Rattle.td_model.specs.declared.language.Query.{Query}
use Rattle.td_model.specs.declared.language.Stmt.{Stmt}
use Rattle.td_model.specs.declared.language.Stmt.TheVariants as stmt
use Rattle.td_model.specs.declared.history.What.{What}
use Rattle.td_model.specs.declared.history.What.TheVariants as what
use Rattle.td_model.specs.declared.history.Entry.{Entry}
use Rattle.td_model.specs.declared.history.Verdict.{Verdict}
use Rattle.td_model.specs.declared.history.Verdict.TheVariants.{Accept, Pass, Refuse}
use Rattle.td_model.specs.declared.report.Reply.{Reply}
use Rattle.td_model.specs.declared.report.Reply.TheVariants as reply
use Rattle.td_model.specs.declared.report.Mark.TheVariants as mark
use Rattle.td_model.specs.declared.report.JournalLine.{JournalLine}
use Rattle.td_model.specs.Built.{is_write}
use Rattle.td_model.specs.State.{State, at}
use Rattle.td_told.specs.Asked.{Asked}
use Rattle.td_told.specs.Numbers.{Replied}
use Rattle.td_told.specs.Verdict.{verdict, header, answer}

-- ---- which replies a statement may have

abbrev pub is_insert : Stmt → Bool
is_insert (stmt.Insert table columns rows) = true
is_insert _ = false

abbrev pub is_trim : Stmt → Bool
is_trim stmt.Trim = true
is_trim _ = false

-- a write whose acceptance has neither a count of rows nor an edge
abbrev pub is_other_write : Stmt → Bool
is_other_write q = is_write q && not (is_insert q || is_trim q)

abbrev pub is_query : Stmt → Bool
is_query (stmt.Select query) = true
is_query _ = false

-- ---- what a session has open

-- A cursor that a session has open: its name, its query, the version that it reads, and how many rows it has given.
pub record Cursor : Type 0 where
  pub session : ℕ
  pub name : List ℕ
  pub query : Query
  pub prefix : ℕ
  pub given : ℕ

-- the cursors of a session
abbrev pub cursors_of : ℕ → List Cursor → List Cursor
cursors_of session cursors = filter (λ (c : Cursor). c.session == session) cursors

abbrev pub names_of : List Cursor → List (List ℕ)
names_of cursors = map (λ (c : Cursor). c.name) cursors

-- the cursors that are open after a statement's reply; no statement opens one so far
abbrev pub cursors_after : Replied → List Cursor → List Cursor
cursors_after p cursors = cursors

-- ---- what a reply says

-- The journal has, at this version, a line for the statement of this session and ordinal, which the verdict accepts in
-- the state before it as what it does, with its count of rows. No open cursor has a part in it.
pub record Entered
    (b : State) (h : List Entry) (journal : List JournalLine) (a : Asked) (version : ℕ) (w : What) (rows : ℕ)
    : Type 0 where
  pub line : JournalLine
  pub after_base : b.version < version
  pub listed : slice_get journal (version - b.version - 1) ≡ Some line
  pub version_is : line.version ≡ version
  pub session_is : line.session ≡ a.session
  pub ordinal_is : line.ordinal ≡ a.ordinal
  pub accepted : verdict a.stmt (at b h (version - 1)) [] line.moment ≡ Accept w rows

-- The journal has, at this version, a halt, which came as the entry of this statement was to be written: the verdict
-- accepts it in the state before the halt, at the halt's moment. No open cursor has a part in it.
pub record Halted
    (b : State) (h : List Entry) (journal : List JournalLine) (a : Asked) (version : ℕ)
    : Type 0 where
  pub line : JournalLine
  pub after_base : b.version < version
  pub listed : slice_get journal (version - b.version - 1) ≡ Some line
  pub version_is : line.version ≡ version
  pub mark_is : line.mark ≡ mark.Halt
  pub what : What
  pub rows : ℕ
  pub accepted : verdict a.stmt (at b h (version - 1)) [] line.moment ≡ Accept what rows

-- p is a version that b or an entry has
abbrev pub IsPrefix : State → List JournalLine → ℕ → Type 0
IsPrefix b journal p = (b.version ≤ p) × (p ≤ b.version + length journal)

-- The verdict in the state at a prefix is this one, with cursors of these names open, at some moment that isn't before
-- the state's.
pub record JudgedAt
    (b : State) (h : List Entry) (journal : List JournalLine) (cursors : List (List ℕ)) (q : Stmt) (p : ℕ) (v : Verdict)
    : Type 0 where
  pub is_prefix : IsPrefix b journal p
  pub moment : ℕ
  pub not_before : (at b h p).moment ≤ moment
  pub most : moment ≤ LAST_TIMESTAMP
  pub judged : verdict q (at b h p) cursors moment ≡ v

-- What a reply to a statement says, where its session has these cursors open. An accepted one is of its form and
-- names its own line of the journal; `rows` and `edge` are the verdict's. A refused one has the cause that the
-- verdict gives in the state at its prefix; an answer has the header and the rows of the query in the state at its
-- prefix. A fault of the store that halts is of a write, and names the halt. No other reply comes so far but for want
-- of memory.
abbrev pub Answers : State → List Entry → List JournalLine → List Cursor → Asked → Reply → Type 0
Answers b h journal cursors a (reply.Accepted v) =
    (is_other_write a.stmt ≡ true) × (w : What) × (rows : ℕ) × Entered b h journal a v w rows
Answers b h journal cursors a (reply.AcceptedRows v rows) =
    (is_insert a.stmt ≡ true) × (w : What) × Entered b h journal a v w rows
Answers b h journal cursors a (reply.AcceptedEdge v edge) =
    (is_trim a.stmt ≡ true) × (rows : ℕ) × Entered b h journal a v (what.Edge edge) rows
Answers b h journal cursors a (reply.Answer p names rows) =
    (is_query a.stmt ≡ true) × JudgedAt b h journal (names_of cursors) a.stmt p Pass
    × (names ≡ header a.stmt (at b h p)) × (rows ≡ answer a.stmt (at b h p))
Answers b h journal cursors a (reply.Refused p cause) =
    JudgedAt b h journal (names_of cursors) a.stmt p (Refuse cause)
Answers b h journal cursors a (reply.StoreFaultHalt v) = (is_write a.stmt ≡ true) × Halted b h journal a v
Answers b h journal cursors a reply.NoMemory = Unit {0}
Answers b h journal cursors a r = ⊥

-- each statement's reply, with what its session has open after the replies before it
abbrev pub EachAnswers : State → List Entry → List JournalLine → List Cursor → List Replied → Type 0
EachAnswers b h journal cursors [] = Unit {0}
EachAnswers b h journal cursors (p ∷ ps) =
    Answers b h journal (cursors_of p.asked.session cursors) p.asked p.reply
    × EachAnswers b h journal (cursors_after p cursors) ps

-- a reply with its statement's session and ordinal
abbrev pub reply_line : Replied → (ℕ × ℕ × Reply)
reply_line p = (p.asked.session, p.asked.ordinal, p.reply)

-- These are the replies to these statements, one for each, in their order.
pub record AreReplies (statements : List Asked) (replied : List Replied) (replies : List (ℕ × ℕ × Reply)) : Type 0 where
  pub statements_are : map (λ (p : Replied). p.asked) replied ≡ statements
  pub replies_are : replies ≡ map reply_line replied
