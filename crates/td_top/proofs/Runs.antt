-- How far a script has been played on a core.
use Rattle.std.proofs.Common.{◌≡◌, inl, inr, ℕ, zero, suc, ◌+◌, ◌≤◌, ◌<◌, ◌==◌, Bool, true, false, cond, List, [], ◌∷◌, ◌++◌, map, length, get_or, refl, sym, ap, ◌∙◌, subst, arith}
use Rattle.std.specs.Prelude.{Result, Ok, Err, OnErr}
use Rattle.std.specs.List.{count_by, AllByRecursion}
use Rattle.std.proofs.lemmas.List.Recursion.{is_count_by}
use Rattle.td_limits.specs.declared.limits.TheConstants.{LAST_TIMESTAMP, SESSIONS}
use Rattle.td_outside.specs.Causes.{Rose}
use Rattle.td_script.specs.declared.lines.Line.{Line}
use Rattle.td_script.specs.Script.{Numbered}
use Rattle.td_model.specs.declared.history.What.{What}
use Rattle.td_model.specs.declared.history.What.TheVariants as what
use Rattle.td_model.specs.declared.history.Entry.{Entry}
use Rattle.td_model.specs.declared.history.Verdict.{Verdict}
use Rattle.td_model.specs.declared.history.Verdict.TheVariants.{Accept, Pass, Refuse}
use Rattle.td_model.specs.declared.language.Stmt.{Stmt}
use Rattle.td_model.specs.declared.report.Reply.{Reply}
use Rattle.td_model.specs.declared.report.Reply.TheVariants as reply
use Rattle.td_model.specs.State.{State}
use Rattle.td_core.specs.CoreState.{CoreState}
use Rattle.td_core.specs.Covers.{Covers}
use Rattle.td_told.specs.Asked.{Asked, count_of, Counted}
use Rattle.td_told.specs.Journal.{halts_named, with_halt}
use Rattle.td_told.specs.Told.{ToldInOrder}
use Rattle.td_told.specs.Turn.{End, by_verdict, starved, halted, reads, reply_line_at, line_then, entry_then, reply_of, accepted_reply}
use Rattle.td_told.specs.Numbers.{Replied}
use Rattle.td_told.specs.Replies.{reply_line}
use Rattle.td_told.proofs.Plays.{Plays, MayBe, asked_of, replied_with, by_end, nothing_played, reads_more, asked_more}
use Rattle.td_told.proofs.Tells.{told_of_plays}
use Rattle.td_printed.specs.Names.{IsCountedLine}
use Rattle.td_printed.proofs.Says.{all_append}
use Rattle.td_top.specs.Asks.{Asks, AsksAll}
use Rattle.td_top.specs.Turns.{CountIs, LineTurn, HaltsBy, PlayedOn, RepliedOn, HasSome}
use Rattle.td_top.proofs.Clocks.{MomentIs, Taken, turn_taken, left_first, moment_first, times}

asks_more : (ls : List Line) (script : List Asked) (l : Line) (a : Asked) → AsksAll ls script → Asks l a → AsksAll (ls ++ l ∷ []) (script ++ a ∷ [])
asks_more [] [] l a all one = (one, tt)
asks_more [] (b ∷ script) l a all one = absurd all
asks_more (k ∷ ls) [] l a all one = absurd all
asks_more (k ∷ ls) (b ∷ script) l a all one = (all.0, asks_more ls script l a all.1 one)

-- the lines of a session, counted from the front
abbrev count_lines : ℕ → List Line → ℕ
count_lines session [] = 0
count_lines session (l ∷ ls) = cond (l.session == session) (1 + count_lines session ls) (count_lines session ls)

count_lines_is : (session : ℕ) (ls : List Line) → count_lines session ls ≡ count_by (λ (m : Line). m.session == session) ls
count_lines_is session ls = is_count_by (count_lines session) (λ (m : Line). m.session == session) refl (λ l ls. refl) ls

turned : (b : Bool) (n : ℕ) → cond b (n + 1) n ≡ cond b (1 + n) n
turned true n = omega arith
turned false n = refl

lines_count : (session : ℕ) (ls : List Line) (script : List Asked) → AsksAll ls script → count_of session script ≡ count_lines session ls
lines_count session [] [] all = refl
lines_count session [] (b ∷ script) all = absurd all
lines_count session (k ∷ ls) [] all = absurd all
lines_count session (k ∷ ls) (b ∷ script) all =
    ap (λ s. cond (s == session) (count_of session script + 1) (count_of session script)) all.0.session
    ∙ ap (λ n. cond (k.session == session) (n + 1) n) (lines_count session ls script all.1)
    ∙ turned (k.session == session) (count_lines session ls)

same_count : (session : ℕ) (ls : List Line) (script : List Asked) → AsksAll ls script → count_of session script ≡ count_by (λ (m : Line). m.session == session) ls
same_count session ls script all = lines_count session ls script all ∙ count_lines_is session ls

-- the statements of numbered lines are counted
counted_of : (before ls : List Line) (front script : List Asked) → AsksAll before front → AsksAll ls script → Numbered before ls → Counted front script
counted_of before [] front [] done all n = tt
counted_of before [] front (b ∷ script) done all n = absurd all
counted_of before (k ∷ ls) front [] done all n = absurd all
counted_of before (k ∷ ls) front (a ∷ script) done all n =
    let here : a.ordinal ≡ count_of a.session front + 1 =
    all.0.ordinal ∙ n.2 ∙ ap (λ c. c + 1) (sym (same_count k.session before front done) ∙ ap (λ s. count_of s front) (sym all.0.session)) in
    (here, counted_of (before ++ k ∷ []) ls (front ++ a ∷ []) script (asks_more before front k a done all.0) all.1 n.3)

-- ---- halts and their cause

rose_more : (a b c : ℕ) → Rose a b → Rose b c → Rose a c
rose_more a b c p q = omega (arith, p, q)

accepted_no_halt : (w : What) (version rows : ℕ) → with_halt (accepted_reply w version rows) [] ≡ []
accepted_no_halt (what.Put puts) version rows = refl
accepted_no_halt (what.MakeTable name columns) version rows = refl
accepted_no_halt (what.MakeStable name schema) version rows = refl
accepted_no_halt (what.MakeSub name stable tags) version rows = refl
accepted_no_halt (what.Cut table lo hi) version rows = refl
accepted_no_halt (what.MakeStream def) version rows = refl
accepted_no_halt (what.DropStream n) version rows = refl
accepted_no_halt (what.Edge edge) version rows = refl
accepted_no_halt (what.Step stream upto moment) version rows = refl
accepted_no_halt what.Halt version rows = refl

verdict_no_halt : (q : Stmt) (v : Verdict) (s : State) → with_halt (reply_of q (by_verdict v) s) [] ≡ []
verdict_no_halt q (Accept w rows) s = accepted_no_halt w (s.version + 1) rows
verdict_no_halt q Pass s = refl
verdict_no_halt q (Refuse cause) s = refl

halts_more : (rs : List (ℕ × ℕ × Reply)) (session ordinal : ℕ) (r : Reply) → with_halt r [] ≡ [] → halts_named (rs ++ reply_line_at session ordinal r ∷ []) ≡ halts_named rs
halts_more [] session ordinal r e = e
halts_more (x ∷ rs) session ordinal r e = ap (λ l. with_halt x.2 l) (halts_more rs session ordinal r e)

-- where a halt is named, it stays named
some_halt : (r : Reply) (l : List ℕ) → with_halt r l ≡ [] → l ≡ []
some_halt (reply.StoreFaultHalt halt) l e = absurd (cc)
some_halt _ l e = e

halt_last : (rs : List (ℕ × ℕ × Reply)) (session ordinal halt : ℕ) (r : Reply) → r ≡ reply.StoreFaultHalt halt → halts_named (rs ++ reply_line_at session ordinal r ∷ []) ≡ [] → ⊥
halt_last [] session ordinal halt r is none = named (sym (ap (λ x. with_halt x []) is) ∙ none) where
  named : halt ∷ [] ≡ [] → ⊥
  named e = cc
halt_last (x ∷ rs) session ordinal halt r is none = halt_last rs session ordinal halt r is (some_halt x.2 _ none)

-- no halt more, and the count is as it was
same_halts : (rs : List (ℕ × ℕ × Reply)) (session ordinal : ℕ) (r : Reply) (before now now' : ℕ) → HaltsBy rs before now → with_halt r [] ≡ [] → now' ≡ now → HaltsBy (rs ++ reply_line_at session ordinal r ∷ []) before now'
same_halts rs session ordinal r before now now' (inl h) e same = inl (halts_more rs session ordinal r e ∙ h.0, same ∙ h.1)
same_halts rs session ordinal r before now now' (inr h) e same = inr ((λ none. h.0 (sym (halts_more rs session ordinal r e) ∙ none)), subst (λ n. Rose before n) (sym same) h.1)

rose_halts : (rs rs' : List (ℕ × ℕ × Reply)) (before now now' : ℕ) → (halts_named rs' ≡ [] → ⊥) → HaltsBy rs before now → Rose now now' → HaltsBy rs' before now'
rose_halts rs rs' before now now' named (inl h) rose = inr (named, subst (λ n. Rose n now') h.1 rose)
rose_halts rs rs' before now now' named (inr h) rose = inr (named, rose_more before now now' h.1 rose)

halts_then : (q : Stmt) (e : End) (s : State) (session ordinal : ℕ) (r : Reply) (rs : List (ℕ × ℕ × Reply)) (before now now' : ℕ) → r ≡ reply_of q e s → CountIs e now now' → HaltsBy rs before now → HaltsBy (rs ++ reply_line_at session ordinal r ∷ []) before now'
halts_then q (by_verdict v) s session ordinal r rs before now now' is count h = same_halts rs session ordinal r before now now' h (ap (λ x. with_halt x []) is ∙ verdict_no_halt q v s) count
halts_then q starved s session ordinal r rs before now now' is count h = same_halts rs session ordinal r before now now' h (ap (λ x. with_halt x []) is) count
halts_then q halted s session ordinal r rs before now now' is count h = rose_halts rs (rs ++ reply_line_at session ordinal r ∷ []) before now now' (halt_last rs session ordinal (s.version + 1) r is) h count

-- ---- the lines so far

-- What the lines so far have given, on a core that was another before them.
pub record Progress (old now : CoreState) (lines : List Line) (rs : List (ℕ × ℕ × Reply)) : Type 0 where
  pub replied : List Replied
  pub replies : rs ≡ map reply_line replied
  pub asks : AsksAll lines (asked_of replied)
  pub entries : List Entry
  pub played : Plays (MomentIs old.state.moment old.readings) 0 old.state replied now.journal entries now.state
  pub taken : Taken old.state.moment old.readings (reads (asked_of replied)) now.readings now.floor
  pub early : now.state.moment ≤ now.floor
  pub covers : Covers old.readings now old.state entries
  pub cause : HaltsBy rs old.count now.count

pub begun : (c : CoreState) (rs : List (ℕ × ℕ × Reply)) → rs ≡ [] → Covers c.readings c c.state [] → (c.floor ≡ c.state.moment) × (c.floor ≤ LAST_TIMESTAMP) → (c.base ≡ c.state.version) × (c.journal ≡ []) → Progress c c [] rs
begun c rs replies covers floor base = record {
  replied = [];
  replies = replies;
  asks = tt;
  entries = [];
  played = nothing_played (MomentIs c.state.moment c.readings) 0 c.state c.state c.journal base.1 refl;
  taken = record { left = left_first c.readings; moment = moment_first c.state.moment c.readings c.floor floor.0; most = floor.1 };
  early = omega (arith, floor.0);
  covers = covers;
  cause = inl (ap halts_named replies, refl);
}

pub goes_on : (old c c' : CoreState) (lines : List Line) (rs rs' : List (ℕ × ℕ × Reply)) (l : Line) (r : Reply) → Progress old c lines rs → LineTurn l c c' r → rs' ≡ rs ++ reply_line_at l.session l.ordinal r ∷ [] → Progress old c' (lines ++ l ∷ []) rs'
goes_on old c c' lines rs rs' l r p turn replies =
    let a = turn.asked in
    let t = turn.turn in
    let P = MomentIs old.state.moment old.readings in
    let taken = turn_taken a.stmt old.state.moment old.readings (reads (asked_of p.replied)) c.readings c'.readings c.floor c'.floor p.taken t.takes in
    let may : MayBe P c.state _ c'.floor = (omega (arith, p.early, taken.later), taken.taken.most, taken.taken.moment) in
    let own : rs' ≡ rs ++ reply_line_at a.session a.ordinal r ∷ [] = rw (turn.asks.session, turn.asks.ordinal) replies in
    let left = by_end P p.replied c'.floor a old.state c.state c'.state rs rs' c.journal c'.journal p.entries (line_then t.end c.state a.session a.ordinal c'.floor) r p.played p.replies may own t.journal t.end t.judged t.turn in
    let more : asked_of (p.replied ++ replied_with a r ∷ []) ≡ asked_of p.replied ++ a ∷ [] = asked_more p.replied (replied_with a r) in
    record {
      replied = p.replied ++ replied_with a r ∷ [];
      replies = left.replies;
      asks = subst (AsksAll (lines ++ l ∷ [])) (sym more) (asks_more lines (asked_of p.replied) l a p.asks turn.asks);
      entries = p.entries ++ entry_then t.end a.session a.ordinal c'.floor;
      played = left.played;
      taken = subst (λ n. Taken old.state.moment old.readings n c'.readings c'.floor) (sym (reads_more (asked_of p.replied) a) ∙ ap reads (sym more)) taken.taken;
      early = left.floor;
      covers = t.covers old.readings old.state p.entries p.covers;
      cause = subst (λ (x : List (ℕ × ℕ × Reply)). HaltsBy x old.count c'.count) (sym own) (halts_then a.stmt t.end c.state a.session a.ordinal r rs old.count c.count c'.count t.turn.reply t.count p.cause);
    }

-- one more reply, whose numbers are in range
pub counted_more : (rs rs' : List (ℕ × ℕ × Reply)) (l : ℕ × ℕ × Reply) → AllByRecursion IsCountedLine rs → IsCountedLine l → rs' ≡ rs ++ l ∷ [] → AllByRecursion IsCountedLine rs'
counted_more rs rs' l all one is = subst (AllByRecursion IsCountedLine) (sym is) (all_append IsCountedLine rs (l ∷ []) all (one, tt))

pub some_entries : (old now : CoreState) (lines : List Line) (rs : List (ℕ × ℕ × Reply)) → Progress old now lines rs → HasSome old now
some_entries old now lines rs p = (p.entries, p.covers)

pub some_after : (old c c' : CoreState) (lines : List Line) (rs : List (ℕ × ℕ × Reply)) (l : Line) (r : Reply) → Progress old c lines rs → LineTurn l c c' r → HasSome old c'
some_after old c c' lines rs l r p turn = (_, turn.turn.covers old.readings old.state p.entries p.covers)

pub on_err : {T E : Type 0} (r : Result T E) (P : Type 0) → P → OnErr r P
on_err (Ok v) P p = tt
on_err (Err e) P p = p

-- the lines of a script are of sessions
pub of_session : (before ls : List Line) (i : ℕ) (d : Line) → Numbered before ls → i < length ls → (1 ≤ (get_or ls i d).session) × ((get_or ls i d).session ≤ SESSIONS)
of_session before [] i d n less = absurd (omega (arith, less))
of_session before (l ∷ ls) zero d n less = (n.0, n.1)
of_session before (l ∷ ls) (suc i) d n less = of_session (before ++ l ∷ []) ls i d n.3 (omega (arith, less))

pub told : (old now : CoreState) (lines : List Line) (rs : List (ℕ × ℕ × Reply)) → Numbered [] lines → Progress old now lines rs → RepliedOn old now lines rs
told old now lines rs numbered p =
    let b = old.state in
    let t = told_of_plays (MomentIs b.moment old.readings) b old.readings (times b.moment old.readings) p.replied rs now.journal p.entries now.state p.replies (counted_of [] lines [] (asked_of p.replied) tt p.asks numbered) p.played in
    let r : ToldInOrder b old.readings (asked_of p.replied) (record { base = b.version; replies = rs; streams = []; journal = now.journal }) = t.0 in
    let all : PlayedOn old now lines (record { base = b.version; replies = rs; streams = []; journal = now.journal }) = record {
      tells = record { script = asked_of p.replied; asks = p.asks; told = r };
      readings = p.taken.left;
      covers = subst (λ (h : List Entry). Covers old.readings now b h) (sym t.1) p.covers;
      cause = p.cause;
    } in
    subst (λ n. PlayedOn old now lines (record { base = n; replies = rs; streams = []; journal = now.journal })) (sym p.covers.journal.base) all
