-- Each state of a history of statements with words is sound, has a catalog of words, and numbers below 2^64.
use Rattle.std.proofs.Common.{◌≡◌, ℕ, zero, suc, ◌+◌, ◌-◌, Bool, true, false, cond, ◌&&◌, ◌==◌, List, [], ◌∷◌, take, Option, Some, None, inl, inr, refl, sym, ap, subst}
use Rattle.std.specs.Prelude.{IfSome, option_and_then}
use Rattle.std.specs.List.{AllByRecursion}
use Rattle.std.proofs.lemmas.Option.{same_Some}
use Rattle.td_model.specs.declared.history.Entry.{Entry}
use Rattle.td_model.specs.declared.history.Verdict.{Verdict}
use Rattle.td_model.specs.declared.history.Verdict.TheVariants.{Accept, Pass, Refuse}
use Rattle.td_model.specs.declared.history.What.{What}
use Rattle.td_model.specs.declared.language.Stmt.{Stmt}
use Rattle.td_model.specs.declared.language.Stmt.TheVariants as stmt
use Rattle.td_model.specs.declared.report.Cause.{Cause}
use Rattle.td_model.specs.declared.report.JournalLine.{JournalLine}
use Rattle.td_model.specs.declared.report.Mark.{Mark}
use Rattle.td_model.specs.declared.report.Mark.TheVariants as mark
use Rattle.td_model.specs.Printable.{IsCount}
use Rattle.td_model.specs.State.{State, newest, step, trail, at}
use Rattle.td_model.proofs.Steps.{step_version}
use Rattle.td_verdict.specs.Queries.{passes_or, query_cause}
use Rattle.td_verdict.specs.Sound.{IsSound}
use Rattle.td_verdict.specs.Writes.{refused_or, write_verdict}
use Rattle.td_bind.specs.Legal.{IsAccepted, IsLegal}
use Rattle.td_bind.proofs.Steps.{history_sound}
use Rattle.td_told.specs.Asked.{Asked, statement_at}
use Rattle.td_told.specs.Journal.{RunsOn, IsHistory, StandsFor, entry_if, entry_of}
use Rattle.td_told.specs.Turn.{entry_at}
use Rattle.td_told.specs.Verdict.{verdict, closed_cause}
use Rattle.td_printed.specs.Names.{HasWords, AreWords, IsCounted, IsCountedEntry}
use Rattle.td_printed.proofs.Kept.{entry_keeps}
use Rattle.td_printed.proofs.Counted.{VerdictCounts, verdict_counts, accepted_counted, halted_counted}

abbrev pub HaveWords : List Asked → Type 0
HaveWords script = AllByRecursion (λ (a : Asked). HasWords a.stmt) script

-- the catalog and the numbers of a state
pub record Fit (s : State) : Type 0 where
  pub words : AreWords s.catalog
  pub counted : IsCounted s

-- ---- the statement of a line

chosen_words : (b : Bool) (q : Stmt) (o : Option Stmt) → HasWords q → IfSome o HasWords
    → IfSome (cond b (Some q) o) HasWords
chosen_words true q o h i = h
chosen_words false q o h i = i

statement_words : (script : List Asked) (session ordinal : ℕ) → HaveWords script
    → IfSome (statement_at script session ordinal) HasWords
statement_words [] session ordinal h = tt
statement_words (a ∷ script) session ordinal h = chosen_words ((a.session == session) && (a.ordinal == ordinal))
    a.stmt (statement_at script session ordinal) h.0 (statement_words script session ordinal h.1)

-- what an entry stands for: the statement whose verdict accepts it
record Given (s : State) (j : JournalLine) (e : Entry) : Type 0 where
  stmt : Stmt
  what : What
  rows : ℕ
  words : HasWords stmt
  judged : verdict stmt s [] j.moment ≡ Accept what rows
  entry : entry_at j.session j.ordinal j.moment what ≡ e

given : (s : State) (script : List Asked) (j : JournalLine) (e : Entry) → HaveWords script
    → entry_of s script j ≡ Some e → Given s j e
given s script j e words is = by (statement_at script j.session j.ordinal)
    (statement_words script j.session j.ordinal words) is
  where
    by_verdict : (q : Stmt) (v : Verdict) → HasWords q → verdict q s [] j.moment ≡ v → entry_if j v ≡ Some e
        → Given s j e
    by_verdict q (Accept w rows) h judged same = record {
      stmt = q;
      what = w;
      rows = rows;
      words = h;
      judged = judged;
      entry = same_Some (entry_at j.session j.ordinal j.moment w) e same;
    }
    by_verdict q Pass h judged same = absurd (cc)
    by_verdict q (Refuse cause) h judged same = absurd (cc)

    by : (o : Option Stmt) → IfSome o HasWords → option_and_then (λ q. entry_if j (verdict q s [] j.moment)) o ≡ Some
        e → Given s j e
    by None h same = absurd (cc)
    by (Some q) h same = by_verdict q (verdict q s [] j.moment) h refl same

-- ---- one entry

given_fits : (past : List State) (j : JournalLine) (e : Entry) → Given (newest past) j e → IsCount j.moment
    → Fit (newest past) → Fit (step past e)
given_fits past j e g moment fit =
    let s : State = newest past in
    let begins : State = record s { version = s.version + 1; moment = j.moment } in
    let counts : VerdictCounts (s.version + 1) (Accept g.what g.rows) = subst (VerdictCounts (s.version + 1)) g.judged
    (verdict_counts g.stmt s j.moment fit.counted moment) in
    subst (λ (x : Entry). Fit (step past x)) g.entry (record {
      words = entry_keeps g.stmt s [] j.moment g.what g.rows past begins g.words fit.words refl g.judged;
      counted = accepted_counted past g.what g.rows s j.moment fit.counted counts;
    })

step_fits : (past : List State) (script : List Asked) (j : JournalLine) (m : Mark) (later : List JournalLine)
    (e : Entry) → HaveWords script → IsCount j.moment → IsCount ((newest past).version + 1) → Fit (newest past)
    → StandsFor (newest past) script j m later e → Fit (step past e)
step_fits past script j mark.Plain later e words moment next fit is =
    given_fits past j e (given (newest past) script j e words is) moment fit
step_fits past script j mark.Halt later e words moment next fit is =
    subst (λ (x : Entry). Fit (step past x)) (sym is.2) (record {
      words = fit.words;
      counted = halted_counted past (newest past) j.moment fit.counted next;
    })
step_fits past script j (mark.Step stream upto moment) later e words at_moment next fit is = absurd is

-- ---- a front of a history

front_fits : (n : ℕ) (past : List State) (script : List Asked) (js : List JournalLine) (h : List Entry)
    → HaveWords script → AllByRecursion IsCountedEntry js → RunsOn (newest past).version js → Fit (newest past)
    → IsHistory past script js h → Fit (newest (trail past (take n h)))
front_fits zero past script js h words counts runs fit history = fit
front_fits (suc n) past script js [] words counts runs fit history = fit
front_fits (suc n) past script [] (e ∷ h) words counts runs fit history = absurd history
front_fits (suc n) past script (j ∷ js) (e ∷ h) words counts runs fit history =
    let next : IsCount ((newest past).version + 1) = subst IsCount runs.0 counts.0.version in
    let more : RunsOn (step past e).version js = subst (λ v. RunsOn v js) (sym (step_version past e)) runs.1 in
    front_fits n (step past e ∷ past) script js h words counts.1 more
    (step_fits past script j j.mark js e words counts.0.moment next fit history.1) history.2

-- ---- soundness

written : (why : Option Cause) (v : Verdict) (w : What) (rows : ℕ) → refused_or why v ≡ Accept w rows
    → v ≡ Accept w rows
written None v w rows h = h
written (Some cause) v w rows h = absurd (cc)

none_passes : (why : Option Cause) (w : What) (rows : ℕ) → passes_or why ≡ Accept w rows → ⊥
none_passes None w rows h = cc
none_passes (Some why) w rows h = cc

pub write_of : (q : Stmt) (s : State) (moment : ℕ) (w : What) (rows : ℕ) → verdict q s [] moment ≡ Accept w rows
    → write_verdict q s.catalog s.edge moment ≡ Accept w rows
write_of (stmt.MakeStable name columns tags) s moment w rows h = written (closed_cause s)
    (write_verdict (stmt.MakeStable name columns tags) s.catalog s.edge moment) w rows h
write_of (stmt.MakeTable name columns) s moment w rows h = written (closed_cause s)
    (write_verdict (stmt.MakeTable name columns) s.catalog s.edge moment) w rows h
write_of (stmt.MakeSub name stable tags) s moment w rows h = written (closed_cause s)
    (write_verdict (stmt.MakeSub name stable tags) s.catalog s.edge moment) w rows h
write_of (stmt.Insert table columns groups) s moment w rows h = written (closed_cause s)
    (write_verdict (stmt.Insert table columns groups) s.catalog s.edge moment) w rows h
write_of (stmt.Delete table column lo hi) s moment w rows h = written (closed_cause s)
    (write_verdict (stmt.Delete table column lo hi) s.catalog s.edge moment) w rows h
write_of (stmt.DropStream name) s moment w rows h = written (closed_cause s)
    (write_verdict (stmt.DropStream name) s.catalog s.edge moment) w rows h
write_of stmt.Trim s moment w rows h = written (closed_cause s) (write_verdict stmt.Trim s.catalog s.edge moment) w
    rows h
write_of (stmt.Select query) s moment w rows h =
    absurd (none_passes (query_cause query s.catalog) w rows h)
write_of _ s moment w rows h = absurd (cc)

step_legal : (s : State) (script : List Asked) (j : JournalLine) (m : Mark) (later : List JournalLine) (e : Entry)
    → HaveWords script → StandsFor s script j m later e → IsAccepted s e
step_legal s script j mark.Plain later e words is =
    let g = given s script j e words is in
    subst (IsAccepted s) g.entry (inl (g.stmt, g.rows, write_of g.stmt s j.moment g.what g.rows g.judged))
step_legal s script j mark.Halt later e words is = inr (ap (λ (x : Entry). x.what) is.2)
step_legal s script j (mark.Step stream upto moment) later e words is = absurd is

front_legal : (n : ℕ) (past : List State) (script : List Asked) (js : List JournalLine) (h : List Entry)
    → HaveWords script → IsHistory past script js h → IsLegal past (take n h)
front_legal zero past script js h words history = tt
front_legal (suc n) past script js [] words history = tt
front_legal (suc n) past script [] (e ∷ h) words history = absurd history
front_legal (suc n) past script (j ∷ js) (e ∷ h) words history = (
  step_legal (newest past) script j j.mark js e words history.1,
  front_legal n (step past e ∷ past) script js h
      words history.2,
)

-- ---- the state at a version

pub fit_at : (b : State) (script : List Asked) (js : List JournalLine) (h : List Entry) (p : ℕ) → HaveWords script
    → AllByRecursion IsCountedEntry js → RunsOn b.version js → Fit b → IsHistory (b ∷ []) script js h → Fit (at b h p)
fit_at b script js h p words counts runs fit history = front_fits (p - b.version) (b ∷ []) script js h words counts
    runs fit history

pub sound_at : (b : State) (script : List Asked) (js : List JournalLine) (h : List Entry) (p : ℕ) → HaveWords script
    → IsSound b → IsHistory (b ∷ []) script js h → IsSound (at b h p)
sound_at b script js h p words sound history = history_sound b (take (p - b.version) h) sound
    (front_legal (p - b.version) (b ∷ []) script js h words history)
