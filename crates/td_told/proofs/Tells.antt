-- A run of turns is told by its replies and its journal.
use Rattle.std.proofs.Common.{◌≡◌, ℕ, zero, suc, ◌+◌, ◌-◌, ◌≤◌, true, false, not, cond, List, [], ◌∷◌, ◌++◌, map, filter, length, take, Option, Some, None, slice_get, refl, sym, ap, ◌∙◌, subst, arith}
use Rattle.std.specs.List.{Contains}
use Rattle.std.proofs.lemmas.List.{append_assoc, length-append, take_at}
use Rattle.td_limits.specs.declared.limits.TheConstants.{LAST_TIMESTAMP}
use Rattle.td_model.specs.declared.language.Stmt.{Stmt}
use Rattle.td_model.specs.declared.history.What.{What}
use Rattle.td_model.specs.declared.history.What.TheVariants as what
use Rattle.td_model.specs.declared.history.Entry.{Entry}
use Rattle.td_model.specs.declared.history.Verdict.{Verdict}
use Rattle.td_model.specs.declared.history.Verdict.TheVariants.{Accept, Pass, Refuse}
use Rattle.td_model.specs.declared.report.Mark.TheVariants as mark
use Rattle.td_model.specs.declared.report.Reply.{Reply}
use Rattle.td_model.specs.declared.report.Reply.TheVariants as reply
use Rattle.td_model.specs.declared.report.JournalLine.{JournalLine}
use Rattle.td_model.specs.State.{State, step, newest, trail, after, at}
use Rattle.td_model.proofs.Steps.{step_version}
use Rattle.td_told.specs.Asked.{Asked, count_of, Counted}
use Rattle.td_told.specs.Times.{Timed, without_halts, is_halt}
use Rattle.td_told.specs.Verdict.{verdict, answer, header}
use Rattle.td_told.specs.Numbers.{Replied, Number, of_entry, of_halt, of_state, unnumbered, number, number_of, IsFront, front_after, AreFronts}
use Rattle.td_told.specs.Journal.{RunsOn, IsHistory, StandsFor, halt_at, entry_of, version_of, IsAccepted, AreAccepted, listed, with_version, accepted, is_halt_mark, halts_of, halts_named, with_halt}
use Rattle.td_told.specs.Replies.{Entered, Halted, JudgedAt, IsPrefix, Answers, EachAnswers, reply_line, is_query}
use Rattle.td_told.specs.Told.{ToldInOrder}
use Rattle.td_told.specs.Turn.{by_verdict, starved, halted, clock_reads, reply_of, accepted_reply, state_then, line_then, entry_then, as_list, line_at, halt_line, entry_at, Judged, Accepts}
use Rattle.td_told.proofs.Plays.{Plays, MayBe, asked_of, none_listed}
use Rattle.td_told.proofs.Orders.{session_numbers, phase_numbers}
use Rattle.td_told.proofs.Counts.{Unseen, unseen_more, statement_here, RisesAfter, rises_with, rises_without, rises_beside}
use Rattle.td_told.proofs.Fits.{Suits, Fits, fits, reads_one, accepts_reads, accepts_what, accepted_writes, no_halt, step_alone, answer_numbered}

trail_push : (past : List State) (h : List Entry) (e : Entry) → trail past (h ++ e ∷ []) ≡ step (trail past h) e ∷ trail past h
trail_push past [] e = refl
trail_push past (x ∷ h) e = trail_push (step past x ∷ past) h e

slice_get_at : {A : Type 0} (p : List A) (y : A) (ys : List A) (k : ℕ) → k ≡ length p → slice_get (p ++ y ∷ ys) k ≡ Some y
slice_get_at [] y ys k e = rw e refl
slice_get_at (x ∷ p) y ys zero e = absurd (omega arith)
slice_get_at (x ∷ p) y ys (suc k) e = slice_get_at p y ys k (omega arith)

-- where a turn begins: after h0, whose lines are j0
record Begins (b s : State) (older : List State) (h0 : List Entry) (j0 : List JournalLine) : Type 0 where
  states : s ∷ older ≡ trail (b ∷ []) h0
  version : s.version ≡ b.version + length h0
  lines : length j0 ≡ length h0

module _ (b s : State) (older : List State) (h0 : List Entry) (j0 : List JournalLine) (begins : Begins b s older h0 j0) where
  at_here : (h : List Entry) → at b (h0 ++ h) s.version ≡ s
  at_here h =
      let n : s.version - b.version ≡ length h0 = omega (arith, begins.version) in
      ap (λ k. after b (take k (h0 ++ h))) n ∙ ap (after b) (take_at h0 h (length h0) refl) ∙ ap newest (sym begins.states)

  prefix_here : (js : List JournalLine) → IsPrefix b (j0 ++ js) s.version
  prefix_here js = (omega (arith, begins.version), omega (arith, begins.version, begins.lines, length-append j0 js))

  judged_here : (q : Stmt) (v : Verdict) (m : ℕ) (h : List Entry) (js : List JournalLine) → s.moment ≤ m → m ≤ LAST_TIMESTAMP → verdict q s [] m ≡ v → JudgedAt b (h0 ++ h) (j0 ++ js) [] q s.version v
  judged_here q v m h js early most e = record {
    is_prefix = prefix_here js;
    moment = m;
    not_before = subst (λ (x : State). x.moment ≤ m) (sym (at_here h)) early;
    most = most;
    judged = ap (λ x. verdict q x [] m) (at_here h) ∙ e;
  }

  entered_here : (a : Asked) (w : What) (rows m : ℕ) (h : List Entry) (rest : List JournalLine) → verdict a.stmt s [] m ≡ Accept w rows → Entered b (h0 ++ h) (j0 ++ line_at (s.version + 1) a.session a.ordinal m ∷ rest) a (s.version + 1) w rows
  entered_here a w rows m h rest e =
      let before : s.version + 1 - 1 ≡ s.version = omega arith in
      record {
        line = line_at (s.version + 1) a.session a.ordinal m;
        after_base = omega (arith, begins.version);
        listed = slice_get_at j0 _ rest _ (omega (arith, begins.version, begins.lines));
        version_is = refl;
        session_is = refl;
        ordinal_is = refl;
        accepted = ap (λ p. verdict a.stmt (at b (h0 ++ h) p) [] m) before ∙ ap (λ x. verdict a.stmt x [] m) (at_here h) ∙ e;
      }

  halted_here : (a : Asked) (m : ℕ) (h : List Entry) (rest : List JournalLine) → Accepts (verdict a.stmt s [] m) → Halted b (h0 ++ h) (j0 ++ halt_line (s.version + 1) m ∷ rest) a (s.version + 1)
  halted_here a m h rest accepts =
      let before : s.version + 1 - 1 ≡ s.version = omega arith in
      let found = accepts_what (verdict a.stmt s [] m) accepts in
      record {
        line = halt_line (s.version + 1) m;
        after_base = omega (arith, begins.version);
        listed = slice_get_at j0 _ rest _ (omega (arith, begins.version, begins.lines));
        version_is = refl;
        mark_is = refl;
        what = found.0;
        rows = found.1;
        accepted = ap (λ p. verdict a.stmt (at b (h0 ++ h) p) [] m) before ∙ ap (λ x. verdict a.stmt x [] m) (at_here h) ∙ found.2;
      }

  accepted_here : (a : Asked) (w : What) (rows : ℕ) (h : List Entry) (js : List JournalLine) → Suits a.stmt w → Entered b h js a (s.version + 1) w rows → Answers b h js [] a (accepted_reply w (s.version + 1) rows)
  accepted_here a (what.Put puts) rows h js suits entered = (suits, what.Put puts, entered)
  accepted_here a (what.Edge edge) rows h js suits entered = (suits, rows, entered)
  accepted_here a (what.MakeTable name columns) rows h js suits entered = (suits, what.MakeTable name columns, rows, entered)
  accepted_here a (what.MakeStable name schema) rows h js suits entered = (suits, what.MakeStable name schema, rows, entered)
  accepted_here a (what.MakeSub name stable tags) rows h js suits entered = (suits, what.MakeSub name stable tags, rows, entered)
  accepted_here a (what.Cut table lo hi) rows h js suits entered = (suits, what.Cut table lo hi, rows, entered)
  accepted_here a (what.MakeStream def) rows h js suits entered = (suits, what.MakeStream def, rows, entered)
  accepted_here a (what.DropStream k) rows h js suits entered = (suits, what.DropStream k, rows, entered)
  accepted_here a (what.Step stream upto moment) rows h js suits entered = absurd suits
  accepted_here a what.Halt rows h js suits entered = absurd suits

  begins_next : (q : Stmt) (session n m : ℕ) (w : What) → Suits q w → Begins b (step (s ∷ []) (entry_at session n m w)) (s ∷ older) (h0 ++ entry_at session n m w ∷ []) (j0 ++ line_at (s.version + 1) session n m ∷ [])
  begins_next q session n m w suits = record {
    states = ap (λ x. x ∷ s ∷ older) (step_alone q s older (entry_at session n m w) suits) ∙ ap (λ x. step x (entry_at session n m w) ∷ x) begins.states ∙ sym (trail_push (b ∷ []) h0 _);
    version = step_version (s ∷ []) (entry_at session n m w) ∙ omega (arith, begins.version, length-append h0 (entry_at session n m w ∷ []));
    lines = omega (arith, begins.lines, length-append h0 (entry_at session n m w ∷ []), length-append j0 (line_at (s.version + 1) session n m ∷ []));
  }

  begins_halted : (m : ℕ) → Begins b (step (s ∷ []) (halt_at m)) (s ∷ older) (h0 ++ halt_at m ∷ []) (j0 ++ halt_line (s.version + 1) m ∷ [])
  begins_halted m = record {
    states = ap (λ x. step x (halt_at m) ∷ x) begins.states ∙ sym (trail_push (b ∷ []) h0 (halt_at m));
    version = step_version (s ∷ []) (halt_at m) ∙ omega (arith, begins.version, length-append h0 (halt_at m ∷ []));
    lines = omega (arith, begins.lines, length-append h0 (halt_at m ∷ []), length-append j0 (halt_line (s.version + 1) m ∷ []));
  }

-- each entry's moment has P at a count of readings as far on as the entry
abbrev pub Moments : (ℕ → ℕ → Type 0) → ℕ → List Entry → Type 0
Moments P n h = (k : ℕ) (e : Entry) → slice_get h k ≡ Some e → (i : ℕ) × (n + k ≤ i) × P i e.moment

moments_later : (P : ℕ → ℕ → Type 0) (n i : ℕ) (h : List Entry) → n ≤ i → Moments P i h → Moments P n h
moments_later P n i h l later k e is = let found = later k e is in (found.0, omega (arith, found.1), found.2)

moments_more : (P : ℕ → ℕ → Type 0) (n : ℕ) (x : Entry) (h : List Entry) → P n x.moment → Moments P (n + 1) h → Moments P n (x ∷ h)
moments_more P n x h ok later zero e is = let same : x ≡ e = cc in (n, omega arith, subst (λ (y : Entry). P n y.moment) same ok)
moments_more P n x h ok later (suc k) e is = let found = later k e is in (found.0, omega (arith, found.1), found.2)

-- the entries that aren't halts are the first ones
abbrev pub HaltsLast : List Entry → Type 0
HaltsLast h = (k : ℕ) (e : Entry) → slice_get (without_halts h) k ≡ Some e → slice_get h k ≡ Some e

-- with one entry more before them, that isn't a halt
last_more : (x : Entry) (h : List Entry) → is_halt x.what ≡ false → HaltsLast h → HaltsLast (x ∷ h)
last_more x h none later k e is = last_at k (subst (λ b. slice_get (cond (not b) (x ∷ without_halts h) (without_halts h)) k ≡ Some e) none is) where
  last_at : (k : ℕ) → slice_get (x ∷ without_halts h) k ≡ Some e → slice_get (x ∷ h) k ≡ Some e
  last_at zero is = is
  last_at (suc k) is = later k e is

-- no line stands for no entry
no_entries : (past : List State) (script : List Asked) (h : List Entry) → IsHistory past script [] h → h ≡ []
no_entries past script [] history = refl
no_entries past script (e ∷ h) history = absurd history

-- a history has at most one halt, its last entry
few_halts : (past : List State) (script : List Asked) (js : List JournalLine) (h : List Entry) → IsHistory past script js h → length (halts_of js) ≤ 1
few_halts past script [] h history = omega arith
few_halts past script (j ∷ js) [] history = absurd history
few_halts past script (j ∷ js) (e ∷ h) history = elim j.mark as (λ k. StandsFor (newest past) script j k js e → length (map (λ (x : JournalLine). x.version) (cond (is_halt_mark k) (j ∷ filter (λ (x : JournalLine). is_halt_mark x.mark) js) (filter (λ (x : JournalLine). is_halt_mark x.mark) js))) ≤ 1) [
  | mark.Plain ↦ λ stands. few_halts (step past e ∷ past) script js h history.2
  | mark.Halt ↦ λ stands. subst (λ (x : List JournalLine). length (j.version ∷ halts_of x) ≤ 1) (sym stands.3) (omega arith)
  | mark.Step stream upto moment ↦ λ stands. absurd stands
] history.1

-- The rest of a run, told from where it begins: its entries are these.
record Outcome (P : ℕ → ℕ → Type 0) (b : State) (front : List Asked) (ps : List Replied) (h0 : List Entry) (j0 : List JournalLine) (s : State) (older : List State) (c : ℕ) (js : List JournalLine) (entries : List Entry) : Type 0 where
  history : IsHistory (s ∷ older) (front ++ asked_of ps) js entries
  moments : Moments P (c + 1) entries
  halts_last : HaltsLast entries
  answers : EachAnswers b (h0 ++ entries) (j0 ++ js) [] ps

module _ (P : ℕ → ℕ → Type 0) (b s : State) (older : List State) (front : List Asked) (p : Replied) (ps : List Replied) (h0 : List Entry) (j0 : List JournalLine) (c m : ℕ) (js rest : List JournalLine) (all more : List Entry) (begins : Begins b s older h0 j0) where
  -- a turn without an entry
  kept : js ≡ rest → all ≡ more → ((h : List Entry) → Answers b (h0 ++ h) (j0 ++ rest) [] p.asked p.reply) → Outcome P b (front ++ p.asked ∷ []) ps h0 j0 s older (c + clock_reads p.asked.stmt) rest more → Outcome P b front (p ∷ ps) h0 j0 s older c js all
  kept lines entries answers later =
      let told : Outcome P b front (p ∷ ps) h0 j0 s older c rest more = record {
        history = subst (λ x. IsHistory (s ∷ older) x rest more) (append_assoc front (p.asked ∷ []) (asked_of ps)) later.history;
        moments = moments_later P (c + 1) (c + clock_reads p.asked.stmt + 1) more (omega arith) later.moments;
        halts_last = later.halts_last;
        answers = (answers more, later.answers);
      } in
      subst (λ y. Outcome P b front (p ∷ ps) h0 j0 s older c js y) (sym entries) (subst (λ y. Outcome P b front (p ∷ ps) h0 j0 s older c y more) (sym lines) told)

  -- a turn with an entry
  entered : (w : What) (rows : ℕ) → p.asked.ordinal ≡ count_of p.asked.session front + 1 → Unseen front → verdict p.asked.stmt s [] m ≡ Accept w rows → Fits p.asked.stmt (Accept w rows) → MayBe P s (c + clock_reads p.asked.stmt) m → p.reply ≡ accepted_reply w (s.version + 1) rows → js ≡ line_at (s.version + 1) p.asked.session p.asked.ordinal m ∷ rest → all ≡ entry_at p.asked.session p.asked.ordinal m w ∷ more
      → Outcome P b (front ++ p.asked ∷ []) ps (h0 ++ entry_at p.asked.session p.asked.ordinal m w ∷ []) (j0 ++ line_at (s.version + 1) p.asked.session p.asked.ordinal m ∷ []) (step (s ∷ []) (entry_at p.asked.session p.asked.ordinal m w)) (s ∷ older) (c + clock_reads p.asked.stmt) rest more → Outcome P b front (p ∷ ps) h0 j0 s older c js all
  entered w rows counts unseen e fit ok reply lines entries later =
      let a = p.asked in
      let h = more in
      let entry = entry_at a.session a.ordinal m w in
      let line = line_at (s.version + 1) a.session a.ordinal m in
      let named : entry_of s (front ++ a ∷ asked_of ps) line ≡ Some entry = rw (statement_here front (asked_of ps) a counts unseen, e) refl in
      let next = subst (λ (x : State). IsHistory (x ∷ s ∷ older) ((front ++ a ∷ []) ++ asked_of ps) rest h) (step_alone a.stmt s older entry fit.0) later.history in
      let history = subst (λ x. IsHistory (step (s ∷ older) entry ∷ s ∷ older) x rest h) (append_assoc front (a ∷ []) (asked_of ps)) next in
      let each = subst (λ x. EachAnswers b x ((j0 ++ line ∷ []) ++ rest) [] ps) (append_assoc h0 (entry ∷ []) h) later.answers in
      let each' = subst (λ x. EachAnswers b (h0 ++ entry ∷ h) x [] ps) (append_assoc j0 (line ∷ []) rest) each in
      let one : c + clock_reads a.stmt ≡ c + 1 = omega (arith, reads_one a.stmt w rows fit) in
      let answers = accepted_here b s older h0 j0 begins a w rows (h0 ++ entry ∷ h) (j0 ++ line ∷ rest) fit.0 (entered_here b s older h0 j0 begins a w rows m (entry ∷ h) rest e) in
      let told : Outcome P b front (p ∷ ps) h0 j0 s older c (line ∷ rest) (entry ∷ h) = record {
        history = (ok.0, named, history);
        moments = moments_more P (c + 1) entry h (subst (λ x. P x m) one ok.2) (subst (λ x. Moments P (x + 1) h) one later.moments);
        halts_last = last_more entry h (no_halt a.stmt w fit.0) later.halts_last;
        answers = (subst (Answers b (h0 ++ entry ∷ h) (j0 ++ line ∷ rest) [] a) (sym reply) answers, each');
      } in
      subst (λ y. Outcome P b front (p ∷ ps) h0 j0 s older c js y) (sym entries) (subst (λ y. Outcome P b front (p ∷ ps) h0 j0 s older c y (entry ∷ h)) (sym lines) told)

  -- a turn that halts: nothing is listed after it
  stopped : Accepts (verdict p.asked.stmt s [] m) → Fits p.asked.stmt (verdict p.asked.stmt s [] m) → MayBe P s (c + clock_reads p.asked.stmt) m → p.reply ≡ reply.StoreFaultHalt (s.version + 1) → js ≡ halt_line (s.version + 1) m ∷ rest → all ≡ halt_at m ∷ more → rest ≡ []
      → Outcome P b (front ++ p.asked ∷ []) ps (h0 ++ halt_at m ∷ []) (j0 ++ halt_line (s.version + 1) m ∷ []) (step (s ∷ []) (halt_at m)) (s ∷ older) (c + clock_reads p.asked.stmt) rest more → Outcome P b front (p ∷ ps) h0 j0 s older c js all
  stopped accepts fit ok is_reply lines entries none later =
      let a = p.asked in
      let h = more in
      let line = halt_line (s.version + 1) m in
      let history = subst (λ x. IsHistory (step (s ∷ older) (halt_at m) ∷ s ∷ older) x rest h) (append_assoc front (a ∷ []) (asked_of ps)) later.history in
      let no_more : h ≡ [] = no_entries (step (s ∷ older) (halt_at m) ∷ s ∷ older) (front ++ a ∷ asked_of ps) h (subst (λ x. IsHistory (step (s ∷ older) (halt_at m) ∷ s ∷ older) (front ++ a ∷ asked_of ps) x h) none history) in
      let each = subst (λ x. EachAnswers b x ((j0 ++ line ∷ []) ++ rest) [] ps) (append_assoc h0 (halt_at m ∷ []) h) later.answers in
      let each' = subst (λ x. EachAnswers b (h0 ++ halt_at m ∷ h) x [] ps) (append_assoc j0 (line ∷ []) rest) each in
      let one : c + clock_reads a.stmt ≡ c + 1 = omega (arith, accepts_reads a.stmt (verdict a.stmt s [] m) fit accepts) in
      let told : Outcome P b front (p ∷ ps) h0 j0 s older c (line ∷ rest) (halt_at m ∷ h) = record {
        history = (ok.0, (refl, refl, refl, none), history);
        moments = moments_more P (c + 1) (halt_at m) h (subst (λ x. P x m) one ok.2) (subst (λ x. Moments P (x + 1) h) one later.moments);
        halts_last = subst (λ (x : List Entry). HaltsLast (halt_at m ∷ x)) (sym no_more) (λ k e is. cc);
        answers = (subst (Answers b (h0 ++ halt_at m ∷ h) (j0 ++ line ∷ rest) [] a) (sym is_reply) (accepted_writes a.stmt s [] m accepts, halted_here b s older h0 j0 begins a m (halt_at m ∷ h) rest accepts), each');
      } in
      subst (λ y. Outcome P b front (p ∷ ps) h0 j0 s older c js y) (sym entries) (subst (λ y. Outcome P b front (p ∷ ps) h0 j0 s older c y (halt_at m ∷ h)) (sym lines) told)

-- what the replies and the lines of a rest of a run are to each other, from a version on
record InRun (front : ℕ) (before : List Asked) (ps : List Replied) (js : List JournalLine) : Type 0 where
  order : AreFronts front (map number ps)
  versions : RunsOn front js
  own : AreAccepted (map reply_line ps) js
  listed_are : listed js ≡ accepted (map reply_line ps)
  halts : halts_of js ≡ halts_named (map reply_line ps)
  rising : RisesAfter before js

-- an accepted statement's reply is of the next version
record IsNext (q : Stmt) (version : ℕ) (r : Reply) : Type 0 where
  number_is : number_of q r ≡ of_entry version
  version_is : version_of r ≡ Some version
  no_halt : (rest : List ℕ) → with_halt r rest ≡ rest

next_reply : (q : Stmt) (w : What) (version rows : ℕ) → IsNext q version (accepted_reply w version rows)
next_reply q (what.Put puts) version rows = record { number_is = refl; version_is = refl; no_halt = λ rest. refl }
next_reply q (what.MakeTable name columns) version rows = record { number_is = refl; version_is = refl; no_halt = λ rest. refl }
next_reply q (what.MakeStable name schema) version rows = record { number_is = refl; version_is = refl; no_halt = λ rest. refl }
next_reply q (what.MakeSub name stable tags) version rows = record { number_is = refl; version_is = refl; no_halt = λ rest. refl }
next_reply q (what.Cut table lo hi) version rows = record { number_is = refl; version_is = refl; no_halt = λ rest. refl }
next_reply q (what.MakeStream def) version rows = record { number_is = refl; version_is = refl; no_halt = λ rest. refl }
next_reply q (what.DropStream k) version rows = record { number_is = refl; version_is = refl; no_halt = λ rest. refl }
next_reply q (what.Edge edge) version rows = record { number_is = refl; version_is = refl; no_halt = λ rest. refl }
next_reply q (what.Step stream upto moment) version rows = record { number_is = refl; version_is = refl; no_halt = λ rest. refl }
next_reply q what.Halt version rows = record { number_is = refl; version_is = refl; no_halt = λ rest. refl }

-- what is among replies is among them with one more before them
contains_later : (rs : List (ℕ × ℕ × Reply)) (x r : (ℕ × ℕ × Reply)) → Contains rs r → Contains (x ∷ rs) r
contains_later rs x r has = (suc has.0, omega (arith, has.1), has.2)

own_later : (rs : List (ℕ × ℕ × Reply)) (x : (ℕ × ℕ × Reply)) (js : List JournalLine) → AreAccepted rs js → AreAccepted (x ∷ rs) js
own_later rs x [] own = tt
own_later rs x (j ∷ js) own = ((λ some. let found = own.0 some in (found.0, contains_later rs x (j.session, j.ordinal, found.0) found.1, found.2)), own_later rs x js own.1)

own_first : (rs : List (ℕ × ℕ × Reply)) (j : JournalLine) (r : Reply) → version_of r ≡ Some j.version → IsAccepted ((j.session, j.ordinal, r) ∷ rs) j
own_first rs j r is some = (r, (zero, omega arith, refl), is)

one_more : (w : What) (front : ℕ) (before : List Asked) (p : Replied) (ps : List Replied) (m rows : ℕ) (js : List JournalLine) → p.asked.ordinal ≡ count_of p.asked.session before + 1 → p.reply ≡ accepted_reply w (front + 1) rows → InRun (front + 1) (before ++ p.asked ∷ []) ps js → InRun front before (p ∷ ps) (line_at (front + 1) p.asked.session p.asked.ordinal m ∷ js)
one_more w front before p ps m rows js counts reply later =
    let a = p.asked in
    let is = next_reply a.stmt w (front + 1) rows in
    let number_is : number p ≡ of_entry (front + 1) = ap (number_of a.stmt) reply ∙ is.number_is in
    let version_is : version_of p.reply ≡ Some (front + 1) = ap version_of reply ∙ is.version_is in
    let line = line_at (front + 1) a.session a.ordinal m in
    record {
      order = subst (λ n. AreFronts front (n ∷ map number ps)) (sym number_is) (refl, later.order);
      versions = (refl, later.versions);
      own = (own_first (map reply_line ps) line p.reply version_is, own_later (map reply_line ps) (reply_line p) js later.own);
      halts = later.halts ∙ sym (is.no_halt (halts_named (map reply_line ps))) ∙ ap (λ x. with_halt x (halts_named (map reply_line ps))) (sym reply);
      listed_are = ap (λ x. (front + 1, a.session, a.ordinal) ∷ x) later.listed_are ∙ ap (λ v. with_version v a.session a.ordinal (accepted (map reply_line ps))) (sym version_is);
      rising = rises_with before a line js counts refl refl later.rising;
    }

-- a turn that halts
halt_more : (front : ℕ) (before : List Asked) (p : Replied) (ps : List Replied) (m : ℕ) (js : List JournalLine) → p.reply ≡ reply.StoreFaultHalt (front + 1) → InRun (front + 1) (before ++ p.asked ∷ []) ps js → InRun front before (p ∷ ps) (halt_line (front + 1) m ∷ js)
halt_more front before p ps m js is_reply later =
    let number_is : number p ≡ of_halt (front + 1) = ap (number_of p.asked.stmt) is_reply in
    let version_is : version_of p.reply ≡ None = ap version_of is_reply in
    record {
      order = subst (λ n. AreFronts front (n ∷ map number ps)) (sym number_is) (refl, later.order);
      versions = (refl, later.versions);
      own = ((λ some. absurd (omega (arith, some))), own_later (map reply_line ps) (reply_line p) js later.own);
      halts = ap (λ x. (front + 1) ∷ x) later.halts ∙ ap (λ x. with_halt x (halts_named (map reply_line ps))) (sym is_reply);
      listed_are = later.listed_are ∙ ap (λ v. with_version v p.asked.session p.asked.ordinal (accepted (map reply_line ps))) (sym version_is);
      rising = rises_beside before p.asked (halt_line (front + 1) m) js refl later.rising;
    }

-- a turn without an entry
none_more : (front : ℕ) (before : List Asked) (p : Replied) (ps : List Replied) (js : List JournalLine) (n : Number) → number p ≡ n → IsFront front n → front_after front n ≡ front → version_of p.reply ≡ None → ((rest : List ℕ) → with_halt p.reply rest ≡ rest) → InRun front (before ++ p.asked ∷ []) ps js → InRun front before (p ∷ ps) js
none_more front before p ps js n number_is is stays version_is no_halt later =
    record {
      order = subst (λ x. AreFronts front (x ∷ map number ps)) (sym number_is) (is, subst (λ f. AreFronts f (map number ps)) (sym stays) later.order);
      versions = later.versions;
      own = own_later (map reply_line ps) (reply_line p) js later.own;
      halts = later.halts ∙ sym (no_halt (halts_named (map reply_line ps)));
      listed_are = later.listed_are ∙ ap (λ v. with_version v p.asked.session p.asked.ordinal (accepted (map reply_line ps))) (sym version_is);
      rising = rises_without before p.asked js later.rising;
    }

module _ (P : ℕ → ℕ → Type 0) (b : State) where
  told_from : (front : List Asked) (ps : List Replied) (h0 : List Entry) (j0 : List JournalLine) (s t : State) (older : List State) (c : ℕ) (js : List JournalLine) (h : List Entry) → Begins b s older h0 j0 → Unseen front → Counted front (asked_of ps) → Plays P c s ps js h t → Outcome P b front ps h0 j0 s older c js h
  told_from front [] h0 j0 s t older c js h begins unseen counted play = rw (play.0, play.1) (record { history = tt; moments = λ k e is. cc; halts_last = λ k e is. cc; answers = tt })
  told_from front (p ∷ ps) h0 j0 s t older c js h begins unseen counted play =
      let m = play.0 in
      let a = p.asked in
      let seen = unseen_more front a counted.0 unseen in
      let fit = fits a.stmt s [] m in
      elim play.2 as (λ v. Judged v (verdict a.stmt s [] m) → p.reply ≡ reply_of a.stmt v s → js ≡ as_list (line_then v s a.session a.ordinal m) ++ play.5 → h ≡ entry_then v a.session a.ordinal m ++ play.7 → Plays P (c + clock_reads a.stmt) (state_then v s a.session a.ordinal m) ps play.5 play.7 t → Outcome P b front (p ∷ ps) h0 j0 s older c js h) [
        | by_verdict (Accept w rows) ↦ λ e is_reply lines entries rest.
            let fit' : Fits a.stmt (Accept w rows) = subst (Fits a.stmt) (sym e) fit in
            entered P b s older front p ps h0 j0 c m js play.5 h play.7 begins w rows counted.0 unseen (sym e) fit' play.1 is_reply lines entries
            (told_from (front ++ a ∷ []) ps (h0 ++ entry_at a.session a.ordinal m w ∷ []) (j0 ++ line_at (s.version + 1) a.session a.ordinal m ∷ []) (step (s ∷ []) (entry_at a.session a.ordinal m w)) t (s ∷ older) (c + clock_reads a.stmt) play.5 play.7 (begins_next b s older h0 j0 begins a.stmt a.session a.ordinal m w fit'.0) seen counted.1 rest)
        | by_verdict Pass ↦ λ e is_reply lines entries rest. kept P b s older front p ps h0 j0 c m js play.5 h play.7 begins lines entries
            (λ h. subst (Answers b (h0 ++ h) (j0 ++ play.5) [] a) (sym is_reply) (subst (Fits a.stmt) (sym e) fit, judged_here b s older h0 j0 begins a.stmt Pass m h play.5 play.1.0 play.1.1 (sym e), ap (header a.stmt) (sym (at_here b s older h0 j0 begins h)), ap (answer a.stmt) (sym (at_here b s older h0 j0 begins h))))
            (told_from (front ++ a ∷ []) ps h0 j0 s t older (c + clock_reads a.stmt) play.5 play.7 begins seen counted.1 rest)
        | by_verdict (Refuse cause) ↦ λ e is_reply lines entries rest. kept P b s older front p ps h0 j0 c m js play.5 h play.7 begins lines entries
            (λ h. subst (Answers b (h0 ++ h) (j0 ++ play.5) [] a) (sym is_reply) (judged_here b s older h0 j0 begins a.stmt (Refuse cause) m h play.5 play.1.0 play.1.1 (sym e)))
            (told_from (front ++ a ∷ []) ps h0 j0 s t older (c + clock_reads a.stmt) play.5 play.7 begins seen counted.1 rest)
        | starved ↦ λ e is_reply lines entries rest. kept P b s older front p ps h0 j0 c m js play.5 h play.7 begins lines entries
            (λ h. subst (Answers b (h0 ++ h) (j0 ++ play.5) [] a) (sym is_reply) tt)
            (told_from (front ++ a ∷ []) ps h0 j0 s t older (c + clock_reads a.stmt) play.5 play.7 begins seen counted.1 rest)
        | halted ↦ λ e is_reply lines entries rest. stopped P b s older front p ps h0 j0 c m js play.5 h play.7 begins e fit play.1 is_reply lines entries (none_listed P (c + clock_reads a.stmt) (step (s ∷ []) (halt_at m)) t ps play.5 play.7 (s.version + 1) refl rest)
            (told_from (front ++ a ∷ []) ps (h0 ++ halt_at m ∷ []) (j0 ++ halt_line (s.version + 1) m ∷ []) (step (s ∷ []) (halt_at m)) t (s ∷ older) (c + clock_reads a.stmt) play.5 play.7 (begins_halted b s older h0 j0 begins m) seen counted.1 rest)
      ] play.3 play.4 play.6 play.8 play.9

  -- the numbers of the replies run with the front, and the journal lists the accepted ones, each once
  in_order_from : (before : List Asked) (ps : List Replied) (s t : State) (c : ℕ) (js : List JournalLine) (h : List Entry) → Counted before (asked_of ps) → Plays P c s ps js h t → InRun s.version before ps js
  in_order_from before [] s t c js h counted play = rw play.0 (record { order = tt; versions = tt; own = tt; listed_are = refl; halts = refl; rising = λ session some. tt })
  in_order_from before (p ∷ ps) s t c js h counted play =
      let m = play.0 in
      let a = p.asked in
      elim play.2 as (λ v. Judged v (verdict a.stmt s [] m) → p.reply ≡ reply_of a.stmt v s → js ≡ as_list (line_then v s a.session a.ordinal m) ++ play.5 → Plays P (c + clock_reads a.stmt) (state_then v s a.session a.ordinal m) ps play.5 play.7 t → InRun s.version before (p ∷ ps) js) [
        | by_verdict (Accept w rows) ↦ λ e is_reply lines rest.
            let later = in_order_from (before ++ a ∷ []) ps _ t (c + clock_reads a.stmt) play.5 play.7 counted.1 rest in
            subst (InRun s.version before (p ∷ ps)) (sym lines) (one_more w s.version before p ps m rows play.5 counted.0 is_reply (subst (λ f. InRun f (before ++ a ∷ []) ps play.5) (step_version (s ∷ []) (entry_at a.session a.ordinal m w)) later))
        | by_verdict Pass ↦ λ e is_reply lines rest.
            let later = in_order_from (before ++ a ∷ []) ps s t (c + clock_reads a.stmt) play.5 play.7 counted.1 rest in
            let query : is_query a.stmt ≡ true = subst (Fits a.stmt) (sym e) (fits a.stmt s [] m) in
            subst (InRun s.version before (p ∷ ps)) (sym lines) (none_more s.version before p ps play.5 (of_state s.version) (ap (number_of a.stmt) is_reply ∙ answer_numbered a.stmt s.version query) refl refl (ap version_of is_reply) (λ rest. ap (λ x. with_halt x rest) is_reply) later)
        | by_verdict (Refuse cause) ↦ λ e is_reply lines rest.
            let later = in_order_from (before ++ a ∷ []) ps s t (c + clock_reads a.stmt) play.5 play.7 counted.1 rest in
            subst (InRun s.version before (p ∷ ps)) (sym lines) (none_more s.version before p ps play.5 (of_state s.version) (ap (number_of a.stmt) is_reply) refl refl (ap version_of is_reply) (λ rest. ap (λ x. with_halt x rest) is_reply) later)
        | starved ↦ λ e is_reply lines rest.
            let later = in_order_from (before ++ a ∷ []) ps s t (c + clock_reads a.stmt) play.5 play.7 counted.1 rest in
            subst (InRun s.version before (p ∷ ps)) (sym lines) (none_more s.version before p ps play.5 unnumbered (ap (number_of a.stmt) is_reply) tt refl (ap version_of is_reply) (λ rest. ap (λ x. with_halt x rest) is_reply) later)
        | halted ↦ λ e is_reply lines rest.
            let later = in_order_from (before ++ a ∷ []) ps (step (s ∷ []) (halt_at m)) t (c + clock_reads a.stmt) play.5 play.7 counted.1 rest in
            subst (InRun s.version before (p ∷ ps)) (sym lines) (halt_more s.version before p ps m play.5 is_reply (subst (λ f. InRun f (before ++ a ∷ []) ps play.5) (step_version (s ∷ []) (halt_at m)) later))
      ] play.3 play.4 play.6 play.9

  -- what must be known of the moments for them to be timed
  pub told_of_plays : (readings : Option (List ℕ)) → ((h : List Entry) → HaltsLast h → Moments P 1 h → Timed readings b.moment h) → (ps : List Replied) (rs : List (ℕ × ℕ × Reply)) (js : List JournalLine) (h : List Entry) (t : State) → rs ≡ map reply_line ps → Counted [] (asked_of ps) → Plays P 0 b ps js h t → (r : ToldInOrder b readings (asked_of ps) (record { base = b.version; replies = rs; streams = []; journal = js })) × (r.told.entries ≡ h)
  told_of_plays readings times ps rs js h t replies counted play =
      let none : Unseen [] = λ session ordinal l. refl in
      let all = told_from [] ps [] [] b t [] 0 js h (record { states = refl; version = omega arith; lines = refl }) none counted play in
      let run = in_order_from [] ps b t 0 js h counted play in
      let low : b.version ≤ b.version = omega arith in (
        record {
          told = record {
            base = refl;
            versions = run.versions;
            entries = h;
            history = all.history;
            replied = ps;
            replies = record { statements_are = refl; replies_are = replies };
            answers = all.answers;
            own_lines = subst (λ x. AreAccepted x js) (sym replies) run.own;
            one_each = λ session some. run.rising session some;
            one_halt = subst (λ (x : List ℕ). length x ≤ 1) (run.halts ∙ ap halts_named (sym replies)) (few_halts (b ∷ []) (asked_of ps) js h all.history);
            numbers = λ session. session_numbers session b.version b.version ps low run.order;
            phases = phase_numbers 0 b.version b.version b.version ps low low run.order;
            streams = refl;
            moments = times h all.halts_last all.moments;
          };
          own_entries = run.listed_are ∙ ap accepted (sym replies);
          halts = run.halts ∙ ap halts_named (sym replies);
          in_order = run.order;
        },
        refl,
      )
