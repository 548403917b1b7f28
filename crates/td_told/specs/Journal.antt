-- The history that a journal stands for.
use Rattle.std.specs.Prelude.{◌≡◌, ℕ, ◌+◌, ◌≤◌, ◌<◌, Bool, true, false, not, ◌==◌, List, [], ◌∷◌, map, filter, Option, Some, None, option_and_then}
use Rattle.std.specs.List.{AllByRecursion, Contains}
use Rattle.td_model.specs.declared.history.What.TheVariants as what
use Rattle.td_model.specs.declared.history.Entry.{Entry}
use Rattle.td_model.specs.declared.history.Verdict.{Verdict}
use Rattle.td_model.specs.declared.history.Verdict.TheVariants.{Accept, Pass, Refuse}
use Rattle.td_model.specs.declared.report.Reply.{Reply}
use Rattle.td_model.specs.declared.report.Reply.TheVariants as reply
use Rattle.td_model.specs.declared.report.Mark.{Mark}
use Rattle.td_model.specs.declared.report.Mark.TheVariants as mark
use Rattle.td_model.specs.declared.report.JournalLine.{JournalLine}
use Rattle.td_model.specs.State.{State, step, newest}
use Rattle.td_told.specs.Asked.{Asked, statement_at}
use Rattle.td_told.specs.Verdict.{verdict}

-- ---- versions

-- versions run on without gaps
abbrev pub RunsOn : ℕ → List JournalLine → Type 0
RunsOn version [] = Unit {0}
RunsOn version (j ∷ js) = (j.version ≡ version + 1) × RunsOn (version + 1) js

-- ---- entries

-- the entry that a line stands for, where its statement is accepted
abbrev pub entry_if : JournalLine → Verdict → Option Entry
entry_if j (Accept what rows) =
    Some (record { session = j.session; ordinal = j.ordinal; moment = j.moment; what = what })
entry_if j Pass = None
entry_if j (Refuse cause) = None

-- the entry of the statement that a line names, which no open cursor has a part in
abbrev pub entry_of : State → List Asked → JournalLine → Option Entry
entry_of s script j =
    option_and_then (λ q. entry_if j (verdict q s [] j.moment)) (statement_at script j.session j.ordinal)

-- the entry of a halt, which is of no session
abbrev pub halt_at : ℕ → Entry
halt_at moment = record { session = 0; ordinal = 0; moment = moment; what = what.Halt }

-- What a line of the journal stands for, in the state before it, with the lines after it. A plain line names a
-- statement of the script, and its entry is what the verdict accepts. A halt is of no session, and the last. No
-- stream takes a step so far.
abbrev pub StandsFor : State → List Asked → JournalLine → Mark → List JournalLine → Entry → Type 0
StandsFor s script j mark.Plain later e = entry_of s script j ≡ Some e
StandsFor s script j mark.Halt later e =
    (j.session ≡ 0) × (j.ordinal ≡ 0) × (e ≡ halt_at j.moment) × (later ≡ [])
StandsFor s script j (mark.Step stream upto moment) later e = ⊥

-- The history that the lines stand for, after the states so far: moments don't fall, and each line stands for its
-- entry.
abbrev pub IsHistory : List State → List Asked → List JournalLine → List Entry → Type 0
IsHistory past script [] [] = Unit {0}
IsHistory past script (j ∷ js) (e ∷ h) =
    ((newest past).moment ≤ j.moment) × StandsFor (newest past) script j j.mark js e
    × IsHistory (step past e ∷ past) script js h
IsHistory past script [] (e ∷ h) = ⊥
IsHistory past script (j ∷ js) [] = ⊥

-- ---- lines and statements

-- the version that a statement got, where it was accepted
abbrev pub version_of : Reply → Option ℕ
version_of (reply.Accepted v) = Some v
version_of (reply.AcceptedRows v rows) = Some v
version_of (reply.AcceptedEdge v edge) = Some v
version_of r = None

-- a line of a session is that of a statement of its session and ordinal which was accepted as its version
abbrev pub IsAccepted : List (ℕ × ℕ × Reply) → JournalLine → Type 0
IsAccepted replies j =
    0 < j.session → (r : Reply) × Contains replies (j.session, j.ordinal, r) × (version_of r ≡ Some j.version)

abbrev pub AreAccepted : List (ℕ × ℕ × Reply) → List JournalLine → Type 0
AreAccepted replies journal = AllByRecursion (IsAccepted replies) journal

-- the lines of a session
abbrev pub lines_of : ℕ → List JournalLine → List JournalLine
lines_of session journal = filter (λ (j : JournalLine). j.session == session) journal

-- the ordinals of the lines rise above n
abbrev pub Rising : ℕ → List JournalLine → Type 0
Rising n [] = Unit {0}
Rising n (j ∷ js) = (n < j.ordinal) × Rising j.ordinal js

-- ---- the order of the lines

abbrev pub is_halt_mark : Mark → Bool
is_halt_mark mark.Halt = true
is_halt_mark m = false

-- the lines that aren't halts, as version, session and ordinal, in their order
abbrev pub listed : List JournalLine → List (ℕ × ℕ × ℕ)
listed journal =
    map (λ (j : JournalLine). (j.version, j.session, j.ordinal))
    (filter (λ (j : JournalLine). not (is_halt_mark j.mark)) journal)

-- the accepted replies, as version, session and ordinal, in their order
abbrev pub with_version : Option ℕ → ℕ → ℕ → List (ℕ × ℕ × ℕ) → List (ℕ × ℕ × ℕ)
with_version (Some v) session ordinal rest = (v, session, ordinal) ∷ rest
with_version None session ordinal rest = rest

abbrev pub accepted : List (ℕ × ℕ × Reply) → List (ℕ × ℕ × ℕ)
accepted [] = []
accepted (r ∷ rs) = with_version (version_of r.2) r.0 r.1 (accepted rs)

-- ---- halts

-- the versions of the halts of a journal
abbrev pub halts_of : List JournalLine → List ℕ
halts_of journal =
    map (λ (j : JournalLine). j.version) (filter (λ (j : JournalLine). is_halt_mark j.mark) journal)

-- the versions of the halts that replies name
abbrev pub with_halt : Reply → List ℕ → List ℕ
with_halt (reply.StoreFaultHalt halt) rest = halt ∷ rest
with_halt r rest = rest

abbrev pub halts_named : List (ℕ × ℕ × Reply) → List ℕ
halts_named [] = []
halts_named (r ∷ rs) = with_halt r.2 (halts_named rs)
