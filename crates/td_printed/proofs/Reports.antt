-- A report that tells a run can be printed.
use Rattle.std.proofs.Common.{◌≡◌, ℕ, ◌+◌, ◌-◌, ◌≤◌, List, [], ◌∷◌, length, map, Option, Some, slice_get, sym, subst, arith}
use Rattle.std.specs.Prelude.{IfSome}
use Rattle.std.specs.List.{AllByRecursion}
use Rattle.td_model.specs.declared.history.Entry.{Entry}
use Rattle.td_model.specs.declared.history.Verdict.TheVariants.{Accept}
use Rattle.td_model.specs.declared.history.What.{What}
use Rattle.td_model.specs.declared.history.What.TheVariants as what
use Rattle.td_model.specs.declared.report.JournalLine.{JournalLine}
use Rattle.td_model.specs.declared.report.Mark.{Mark}
use Rattle.td_model.specs.declared.report.Mark.TheVariants as mark
use Rattle.td_model.specs.declared.report.Reply.{Reply}
use Rattle.td_model.specs.declared.report.Reply.TheVariants as reply
use Rattle.td_model.specs.declared.report.Report.{Report}
use Rattle.td_model.specs.Printable.{IsCount, IsItem, IsPrintableRow, IsPrintableReply, IsPrintableLine, IsPrintableStream, IsPrintableMark, IsPrintableEntry, IsPrintable}
use Rattle.td_model.specs.State.{State, newest, step, at}
use Rattle.td_limits.specs.declared.limits.TheConstants.{LAST_TIMESTAMP}
use Rattle.td_verdict.specs.Sound.{IsSound}
use Rattle.td_told.specs.Asked.{Asked}
use Rattle.td_told.specs.Journal.{RunsOn, IsHistory, StandsFor}
use Rattle.td_told.specs.Numbers.{Replied}
use Rattle.td_told.specs.Replies.{Entered, IsPrefix, Answers, EachAnswers, reply_line}
use Rattle.td_told.specs.Told.{Told}
use Rattle.td_printed.specs.Names.{HasWords, AreWords, IsCounted, HasFewRows, IsCountedLine, IsCountedEntry, HasCounts}
use Rattle.td_printed.proofs.Lists.{if_at}
use Rattle.td_printed.proofs.Replies.{VerdictPrints, verdict_prints, items_print, rows_print}
use Rattle.td_printed.proofs.Histories.{HaveWords, Fit, fit_at, sound_at}

runs_count : (version : ℕ) (js : List JournalLine) → IsCount version → RunsOn version js
    → AllByRecursion IsCountedEntry js → IsCount (version + length js)
runs_count version [] count runs counts = omega arith
runs_count version (j ∷ js) count runs counts =
    let next : IsCount (version + 1) = subst IsCount runs.0 counts.0.version in
    let last = runs_count (version + 1) js next runs.1 counts.1 in
    omega arith

moment_counts : (moment : ℕ) → moment ≤ LAST_TIMESTAMP → IsCount moment
moment_counts moment l = omega arith

listed_counts : (journal : List JournalLine) (k : ℕ) (line : JournalLine) → AllByRecursion IsCountedEntry journal
    → slice_get journal k ≡ Some line → IsCountedEntry line
listed_counts journal k line counts is = subst (λ (o : Option JournalLine). IfSome o IsCountedEntry) is
    (if_at IsCountedEntry journal k counts)

module _ (b : State) (h : List Entry) (journal : List JournalLine) (counts : AllByRecursion IsCountedEntry journal)
    (top : IsCount (b.version + length journal)) (fit : (p : ℕ) → Fit (at b h p))
    (sound : (p : ℕ) → IsSound (at b h p)) where
  entered_prints : (a : Asked) (version : ℕ) (w : What) (rows : ℕ) → HasWords a.stmt
      → Entered b h journal a version w rows
      → VerdictPrints ((at b h (version - 1)).version + 1) (Accept w rows) × IsCount version
  entered_prints a version w rows words e =
      let s : State = at b h (version - 1) in
      let line = listed_counts journal (version - b.version - 1) e.line counts e.listed in (
        subst (VerdictPrints (s.version + 1)) e.accepted
            (verdict_prints a.stmt s e.line.moment words (fit (version - 1)).words (fit (version - 1)).counted
            line.moment),
        subst IsCount e.version_is line.version,
      )

  prefix_counts : (p : ℕ) → IsPrefix b journal p → IsCount p
  prefix_counts p within = omega (arith, within.1, top)

  reply_prints : (a : Asked) (r : Reply) → HasWords a.stmt → HasFewRows r → Answers b h journal [] a r
      → IsPrintableReply r
  reply_prints a (reply.Accepted version) words few is = (entered_prints a version is.1 is.2 words is.3).1
  reply_prints a (reply.AcceptedRows version rows) words few is = let e = entered_prints a version is.1 rows words
      is.2 in (e.1, e.0.1)
  reply_prints a (reply.AcceptedEdge version edge) words few is = let e = entered_prints a version (what.Edge edge)
      is.1 words is.2 in (e.1, e.0.2.1)
  reply_prints a (reply.Answer p names rows) words few is =
      let s : State = at b h p in
      record {
        prefix = prefix_counts p is.1.is_prefix;
        header = subst (AllByRecursion IsItem) (sym is.2)
            (items_print a.stmt s words (fit p).words);
        rows = subst (AllByRecursion IsPrintableRow) (sym is.3)
            (rows_print a.stmt s is.1.moment (sound p) (fit p).counted (sym is.1.judged));
        few = few;
      }
  reply_prints a (reply.Refused p cause) words few is =
      let s : State = at b h p in (
        prefix_counts p is.is_prefix,
        subst (VerdictPrints (s.version + 1)) is.judged
            (verdict_prints a.stmt s is.moment words (fit p).words (fit p).counted
            (moment_counts is.moment is.most)),
      )
  reply_prints a (reply.StoreFaultHalt version) words few is =
      subst IsCount is.1.version_is
      (listed_counts journal (version - b.version - 1) is.1.line counts is.1.listed).version
  reply_prints a reply.NoMemory words few is = tt
  reply_prints a (reply.Opened p) words few is = absurd is
  reply_prints a reply.Closed words few is = absurd is
  reply_prints a (reply.Committed version) words few is = absurd is
  reply_prints a reply.Nothing words few is = absurd is
  reply_prints a (reply.Stopped version) words few is = absurd is
  reply_prints a (reply.Merged count) words few is = absurd is
  reply_prints a (reply.Swept count) words few is = absurd is
  reply_prints a reply.Asked words few is = absurd is
  reply_prints a reply.StoreFault words few is = absurd is
  reply_prints a (reply.Damaged file place) words few is = absurd is

  lines_print : (replied : List Replied) → HaveWords (map (λ (p : Replied). p.asked) replied)
      → AllByRecursion IsCountedLine (map reply_line replied) → EachAnswers b h journal [] replied
      → AllByRecursion IsPrintableLine (map reply_line replied)
  lines_print [] words numbers each = tt
  lines_print (p ∷ ps) words numbers each = (
    (numbers.0.0, numbers.0.1, reply_prints p.asked p.reply words.0 numbers.0.2 each.0),
    lines_print ps words.1 numbers.1 each.1,
  )

mark_prints : (s : State) (script : List Asked) (j : JournalLine) (m : Mark) (later : List JournalLine) (e : Entry)
    → StandsFor s script j m later e → IsPrintableMark m
mark_prints s script j mark.Plain later e is = tt
mark_prints s script j mark.Halt later e is = tt
mark_prints s script j (mark.Step stream upto moment) later e is = absurd is

journal_prints : (past : List State) (script : List Asked) (js : List JournalLine) (h : List Entry)
    → AllByRecursion IsCountedEntry js → IsHistory past script js h → AllByRecursion IsPrintableEntry js
journal_prints past script [] h counts history = tt
journal_prints past script (j ∷ js) [] counts history = absurd history
journal_prints past script (j ∷ js) (e ∷ h) counts history = (
  record {
    version = counts.0.version;
    session = counts.0.session;
    ordinal = counts.0.ordinal;
    moment = counts.0.moment;
    mark = mark_prints (newest past) script j j.mark js e history.1;
  },
  journal_prints (step past e ∷ past) script js h counts.1 history.2,
)

pub report_prints : (b : State) (readings : Option (List ℕ)) (script printed : List Asked) (r : Report)
    → Told b readings script printed r → HaveWords script → HaveWords printed → IsSound b → AreWords b.catalog
    → IsCounted b → HasCounts r → IsPrintable r
report_prints b readings script printed r told words shown sound names counted counts =
    let fit : Fit b = record { words = names; counted = counted } in
    let top = runs_count b.version r.journal counted.version told.versions counts.journal in
    let asked : HaveWords (map (λ (p : Replied). p.asked) told.replied) =
    subst HaveWords (sym told.replies.statements_are) shown in
    let numbers : AllByRecursion IsCountedLine (map reply_line told.replied) = subst (AllByRecursion IsCountedLine)
    told.replies.replies_are counts.replies in
    let lines = lines_print b told.entries r.journal counts.journal top
    (λ p. fit_at b script r.journal told.entries p words counts.journal told.versions fit told.history)
    (λ p. sound_at b script r.journal told.entries p words sound told.history) told.replied asked numbers
    told.answers in
    record {
      base = subst IsCount (sym told.base) counted.version;
      replies = subst (AllByRecursion IsPrintableLine) (sym told.replies.replies_are) lines;
      streams = subst (AllByRecursion IsPrintableStream) (sym told.streams) tt;
      journal = journal_prints (b ∷ []) script r.journal told.entries counts.journal told.history;
      few = counts.few;
    }
