-- A statement's turn on a core, from what the core's calls say.
use Rattle.std.proofs.Common.{◌≡◌, inl, inr, ℕ, ◌+◌, ◌≤◌, ◌<◌, ◌^◌, Bool, true, false, cond, List, [], ◌∷◌, ◌++◌, length, take, drop, Option, refl, sym, ap, ◌∙◌, subst, arith, append-nil}
use Rattle.std.specs.Prelude.{◌&&◌, ◌||◌, not}
use Rattle.std.proofs.lemmas.List.{take_all}
use Rattle.td_limits.specs.declared.limits.TheConstants.{LAST_TIMESTAMP}
use Rattle.td_layer.specs.declared.values.Cell.{Cell}
use Rattle.td_model.specs.declared.language.Query.{Query}
use Rattle.td_core.specs.Pins.{PinnedQuery, Sees}
use Rattle.td_model.specs.declared.history.What.{What}
use Rattle.td_model.specs.declared.history.What.TheVariants as what
use Rattle.td_model.specs.declared.history.Entry.{Entry}
use Rattle.td_model.specs.declared.history.Verdict.{Verdict}
use Rattle.td_model.specs.declared.history.Verdict.TheVariants.{Accept, Pass, Refuse}
use Rattle.td_model.specs.declared.language.Stmt.{Stmt}
use Rattle.td_model.specs.declared.language.Stmt.TheVariants as stmt
use Rattle.td_model.specs.declared.report.Reply.{Reply}
use Rattle.td_model.specs.declared.report.Reply.TheVariants as reply
use Rattle.td_model.specs.Built.{is_write}
use Rattle.td_model.specs.State.{State, step}
use Rattle.td_core.specs.declared.submit.Submitted.{Submitted}
use Rattle.td_core.specs.declared.submit.Submitted.TheVariants as submitted
use Rattle.td_core.specs.CoreState.{CoreState}
use Rattle.td_core.specs.Covers.{Covers, FactsAre, RowsAre, JournalIs, ImageIs, FloorIs, ClockIs}
use Rattle.td_core.specs.Submits as core
use Rattle.td_core.specs.Submits.{Submits, added, entry_of}
use Rattle.td_told.specs.Replies.{is_insert, is_trim, is_other_write}
use Rattle.td_told.specs.Verdict.{reads_clock, verdict, header, answer}
use Rattle.td_told.specs.Turn.{End, by_verdict, starved, halted, Accepts, Judged, entry_at, line_at, halt_line, accepted_reply, reply_of}
use Rattle.td_told.proofs.Fits.{Suits, Fits, fits}
use Rattle.td_top.specs.Replies.{accepted_as, submit_reply, IsReadReply}
use Rattle.td_top.specs.Turns.{TakesReading, TakesBy, TakesMoment, TurnOn}

-- ---- the reply to what is accepted

-- what is no TRIM and no INSERT
abbrev neither : Bool → Bool → ℕ → ℕ → ℕ → Reply
neither trim insert version rows edge = cond trim (reply.AcceptedEdge version edge) (cond insert (reply.AcceptedRows version rows) (reply.Accepted version))

insert_no_trim : (q : Stmt) → is_insert q ≡ true → is_trim q ≡ false
insert_no_trim (stmt.Wrong cause) e = refl
insert_no_trim (stmt.MakeStable name columns tags) e = refl
insert_no_trim (stmt.MakeTable name columns) e = refl
insert_no_trim (stmt.MakeSub name stable tags) e = refl
insert_no_trim (stmt.Insert table columns rows) e = refl
insert_no_trim (stmt.Delete table column lo hi) e = refl
insert_no_trim (stmt.MakeStream def) e = refl
insert_no_trim (stmt.DropStream name) e = refl
insert_no_trim stmt.Trim e = sym e
insert_no_trim (stmt.Select query) e = refl
insert_no_trim (stmt.OpenCursor cursor query) e = refl
insert_no_trim (stmt.Fetch cursor rows) e = refl
insert_no_trim (stmt.CloseCursor cursor) e = refl
insert_no_trim stmt.Commit e = refl
insert_no_trim stmt.Merge e = refl
insert_no_trim stmt.Sweep e = refl
insert_no_trim (stmt.Step stream) e = refl

other_is : (w i t : Bool) → (w && not (i || t)) ≡ true → (i ≡ false) × (t ≡ false)
other_is true false false e = (refl, refl)
other_is true false true e = cc
other_is true true t e = cc
other_is false i t e = cc

other_reply : (q : Stmt) (version rows edge : ℕ) → is_other_write q ≡ true → accepted_as q version rows edge ≡ reply.Accepted version
other_reply q version rows edge e =
    let both = other_is (is_write q) (is_insert q) (is_trim q) e in
    ap (λ b. neither b (is_insert q) version rows edge) both.1 ∙ ap (λ b. neither false b version rows edge) both.0

put_reply : (q : Stmt) (version rows edge : ℕ) → is_insert q ≡ true → accepted_as q version rows edge ≡ reply.AcceptedRows version rows
put_reply q version rows edge e = ap (λ b. neither b (is_insert q) version rows edge) (insert_no_trim q e) ∙ ap (λ b. neither false b version rows edge) e

edge_reply : (q : Stmt) (version rows edge : ℕ) → is_trim q ≡ true → accepted_as q version rows edge ≡ reply.AcceptedEdge version edge
edge_reply q version rows edge e = ap (λ b. neither b (is_insert q) version rows edge) e

-- the edge of the state that what is accepted makes
abbrev edge_of : State → Entry → ℕ
edge_of s e = (step (s ∷ []) e).edge

accepted_is : (q : Stmt) (s : State) (session ordinal moment rows : ℕ) (w : What) → Suits q w → accepted_as q (s.version + 1) rows (edge_of s (entry_at session ordinal moment w)) ≡ accepted_reply w (s.version + 1) rows
accepted_is q s session ordinal moment rows (what.Put puts) suits = put_reply q (s.version + 1) rows _ suits
accepted_is q s session ordinal moment rows (what.MakeTable name columns) suits = other_reply q (s.version + 1) rows _ suits
accepted_is q s session ordinal moment rows (what.MakeStable name schema) suits = other_reply q (s.version + 1) rows _ suits
accepted_is q s session ordinal moment rows (what.MakeSub name stable tags) suits = other_reply q (s.version + 1) rows _ suits
accepted_is q s session ordinal moment rows (what.Cut table lo hi) suits = other_reply q (s.version + 1) rows _ suits
accepted_is q s session ordinal moment rows (what.MakeStream def) suits = other_reply q (s.version + 1) rows _ suits
accepted_is q s session ordinal moment rows (what.DropStream n) suits = other_reply q (s.version + 1) rows _ suits
accepted_is q s session ordinal moment rows (what.Edge edge) suits = edge_reply q (s.version + 1) rows edge suits
accepted_is q s session ordinal moment rows (what.Step stream upto m) suits = absurd suits
accepted_is q s session ordinal moment rows what.Halt suits = absurd suits

-- ---- what the core covers

-- the points that a submit keeps, each as its call says it
pub record KeepsPoints (old new : CoreState) (e : List Entry) : Type 0 where
  pub facts : (b : State) (h : List Entry) → FactsAre old b h → RowsAre old b h → FactsAre new b (h ++ e)
  pub rows : (b : State) (h : List Entry) → FactsAre old b h → RowsAre old b h → RowsAre new b (h ++ e)
  pub journal : (b : State) (h : List Entry) → FactsAre old b h → JournalIs old b h → JournalIs new b (h ++ e)
  pub image : (b : State) (h : List Entry) → FactsAre old b h → RowsAre old b h → ImageIs old b h → ImageIs new b (h ++ e)
  pub floor : (b : State) (h : List Entry) → FloorIs old b h → FloorIs new b (h ++ e)
  pub clock : (opened : Option (List ℕ)) (b : State) (h : List Entry) → ClockIs opened old b h → ClockIs opened new b (h ++ e)

covers_then : (old new : CoreState) (e : List Entry) → KeepsPoints old new e → (opened : Option (List ℕ)) (b : State) (h : List Entry) → Covers opened old b h → Covers opened new b (h ++ e)
covers_then old new e k opened b h c = record {
  facts = k.facts b h c.facts c.rows;
  rows = k.rows b h c.facts c.rows;
  journal = k.journal b h c.facts c.journal;
  image = k.image b h c.facts c.rows c.image;
  floor = k.floor b h c.floor;
  clock = k.clock opened b h c.clock;
}

-- ---- a submit

module _ (old new : CoreState) (session ordinal : ℕ) (q : Stmt) (reads : reads_clock q ≡ true) where
  takes_by : core.TakesMoment old new → TakesMoment q old.readings new.readings old.floor new.floor
  takes_by t =
      let most : t.now ≤ LAST_TIMESTAMP = omega (arith, t.floor, t.last) in
      let reading : TakesReading old.readings new.readings old.floor new.floor = (t.now, t.reads, most, t.floor) in
      subst (λ b. TakesBy b old.readings new.readings old.floor new.floor) (sym reads) reading

  accepted_turn : (version rows edge : ℕ) → core.TakesMoment old new → core.Accepts old new session ordinal new.floor q version rows edge → KeepsPoints old new (added old new session ordinal q (submitted.Accepted version rows edge)) → TurnOn q session ordinal old new (submit_reply q (submitted.Accepted version rows edge))
  accepted_turn version rows edge takes a keeps =
      let suits = (subst (Fits q) a.accepted (fits q old.state [] new.floor)).0 in
      let entry : added old new session ordinal q (submitted.Accepted version rows edge) ≡ entry_at session ordinal new.floor a.entered ∷ [] = ap (λ (v : Verdict). entry_of session ordinal new.floor v) a.accepted in
      let edge_is : edge ≡ edge_of old.state (entry_at session ordinal new.floor a.entered) = a.edge_is ∙ ap (λ (s : State). s.edge) a.state in
      record {
        takes = takes_by takes;
        end = by_verdict (Accept a.entered rows);
        judged = sym a.accepted;
        turn = record {
          reply = ap (λ n. accepted_as q n rows edge) a.version_is ∙ ap (λ n. accepted_as q (old.state.version + 1) rows n) edge_is ∙ accepted_is q old.state session ordinal new.floor rows a.entered suits;
          line = refl;
          state = a.state;
        };
        journal = a.journal ∙ ap (λ n. old.journal ++ line_at n session ordinal new.floor ∷ []) a.version_is;
        covers = covers_then old new _ (subst (KeepsPoints old new) entry keeps);
        count = a.count;
      }

  halted_turn : (halt : ℕ) → core.TakesMoment old new → core.Halts old new session ordinal new.floor q halt → KeepsPoints old new (added old new session ordinal q (submitted.StoreFault halt)) → TurnOn q session ordinal old new (submit_reply q (submitted.StoreFault halt))
  halted_turn halt takes a keeps = record {
    takes = takes_by takes;
    end = halted;
    judged = subst Accepts (sym a.accepted) tt;
    turn = record { reply = ap (λ n. reply.StoreFaultHalt n) a.version_is; line = refl; state = a.state };
    journal = a.journal ∙ ap (λ n. old.journal ++ halt_line n new.floor ∷ []) a.version_is;
    covers = covers_then old new _ keeps;
    count = a.cause;
  }

  pub submit_turn : (r : Submitted) → Submits old new session ordinal q r → KeepsPoints old new (added old new session ordinal q r) → TurnOn q session ordinal old new (submit_reply q r)
  submit_turn (submitted.Accepted version rows edge) s keeps = accepted_turn version rows edge s.takes s.answers keeps
  submit_turn (submitted.Refused cause prefix) s keeps = record {
    takes = takes_by s.takes;
    end = by_verdict (Refuse cause);
    judged = sym s.answers.refused;
    turn = record { reply = ap (λ n. reply.Refused n cause) s.answers.prefix_is; line = refl; state = s.answers.keeps.state };
    journal = s.answers.keeps.journal ∙ sym (append-nil old.journal);
    covers = covers_then old new [] keeps;
    count = s.answers.count;
  }
  submit_turn (submitted.Full held) s keeps = absurd s.answers
  submit_turn (submitted.StoreFault halt) s keeps = halted_turn halt s.takes s.answers keeps
  submit_turn submitted.NoMemory s keeps = record {
    takes = takes_by s.takes;
    end = starved;
    judged = tt;
    turn = record { reply = refl; line = refl; state = s.answers.keeps.state };
    journal = s.answers.keeps.journal ∙ sym (append-nil old.journal);
    covers = covers_then old new [] keeps;
    count = s.answers.count;
  }

-- ---- a statement that is no write

-- its verdict takes no moment
no_moment : (q : Stmt) (s : State) (m : ℕ) → reads_clock q ≡ false → verdict q s [] 0 ≡ verdict q s [] m
no_moment (stmt.Wrong cause) s m e = cc
no_moment (stmt.MakeStable name columns tags) s m e = cc
no_moment (stmt.MakeTable name columns) s m e = cc
no_moment (stmt.MakeSub name stable tags) s m e = cc
no_moment (stmt.Insert table columns rows) s m e = cc
no_moment (stmt.Delete table column lo hi) s m e = cc
no_moment (stmt.MakeStream def) s m e = cc
no_moment (stmt.DropStream name) s m e = cc
no_moment stmt.Trim s m e = cc
no_moment (stmt.Select query) s m e = refl
no_moment (stmt.OpenCursor cursor query) s m e = refl
no_moment (stmt.Fetch cursor rows) s m e = refl
no_moment (stmt.CloseCursor cursor) s m e = refl
no_moment stmt.Commit s m e = refl
no_moment stmt.Merge s m e = refl
no_moment stmt.Sweep s m e = refl
no_moment (stmt.Step stream) s m e = refl

-- how a turn ends that has no entry
abbrev IsStill : End → Type 0
IsStill (by_verdict (Accept w rows)) = ⊥
IsStill (by_verdict Pass) = Unit {0}
IsStill (by_verdict (Refuse cause)) = Unit {0}
IsStill starved = Unit {0}
IsStill halted = ⊥

still : (v : Verdict) (q : Stmt) → Fits q v → reads_clock q ≡ false → IsStill (by_verdict v)
still (Accept w rows) q f e = absurd (no (sym f.1 ∙ e)) where
  no : true ≡ false → ⊥
  no e = cc
still Pass q f e = tt
still (Refuse cause) q f e = tt

module _ (c : CoreState) (session ordinal : ℕ) (q : Stmt) (reads : reads_clock q ≡ false) where
  takes_none : TakesMoment q c.readings c.readings c.floor c.floor
  takes_none = subst (λ b. TakesBy b c.readings c.readings c.floor c.floor) (sym reads) (refl, refl)

  covers_same : (opened : Option (List ℕ)) (b : State) (h : List Entry) → Covers opened c b h → Covers opened c b (h ++ [])
  covers_same opened b h covers = subst (λ (x : List Entry). Covers opened c b x) (sym (append-nil h)) covers

  still_turn : (end : End) (r : Reply) → IsStill end → Judged end (verdict q c.state [] c.floor) → r ≡ reply_of q end c.state → TurnOn q session ordinal c c r
  still_turn (by_verdict (Accept w rows)) r is judged e = absurd is
  still_turn (by_verdict Pass) r is judged e = record { takes = takes_none; end = by_verdict Pass; judged = judged; turn = record { reply = e; line = refl; state = refl }; journal = sym (append-nil c.journal); covers = covers_same; count = refl }
  still_turn (by_verdict (Refuse cause)) r is judged e = record { takes = takes_none; end = by_verdict (Refuse cause); judged = judged; turn = record { reply = e; line = refl; state = refl }; journal = sym (append-nil c.journal); covers = covers_same; count = refl }
  still_turn starved r is judged e = record { takes = takes_none; end = starved; judged = tt; turn = record { reply = e; line = refl; state = refl }; journal = sym (append-nil c.journal); covers = covers_same; count = refl }
  still_turn halted r is judged e = absurd is

  pub read_turn : (r : Reply) → IsReadReply q c.state r → TurnOn q session ordinal c c r
  read_turn r (inl e) =
      let same : verdict q c.state [] 0 ≡ verdict q c.state [] c.floor = no_moment q c.state c.floor reads in
      still_turn (by_verdict (verdict q c.state [] 0)) r (still (verdict q c.state [] 0) q (fits q c.state [] 0) reads) same e
  read_turn r (inr e) = still_turn starved r tt tt e

pub read_turn_to : (c c' : CoreState) (session ordinal : ℕ) (q : Stmt) (r : Reply) → reads_clock q ≡ false → IsReadReply q c.state r → c' ≡ c → TurnOn q session ordinal c c' r
read_turn_to c c' session ordinal q r reads reply same = subst (λ (x : CoreState). TurnOn q session ordinal c x r) (sym same) (read_turn c session ordinal q reads r reply)

-- ---- the answer to a query

pub whole_rows : (rows all : List (List Cell)) → rows ≡ take 18446744073709551615 (drop 0 all) → length all < 2 ^ 63 → rows ≡ all
whole_rows rows all is few = is ∙ take_all 18446744073709551615 all (omega (arith, few))

pub answered : (p : PinnedQuery) (q : Query) (s : State) (prefix : ℕ) (names : List (List ℕ)) (rows : List (List Cell)) → Sees p q s 0 → prefix ≡ p.prefix → names ≡ p.header → rows ≡ take 18446744073709551615 (drop 0 (answer (stmt.Select q) s)) → length (answer (stmt.Select q) s) < 2 ^ 63 → reply.Answer prefix names rows ≡ reply.Answer s.version (header (stmt.Select q) s) (answer (stmt.Select q) s)
answered p q s prefix names rows sees prefix_is names_are rows_are few =
    ap (λ n. reply.Answer n names rows) (prefix_is ∙ sees.prefix)
    ∙ ap (λ (x : List (List ℕ)). reply.Answer s.version x rows) (names_are ∙ sees.header)
    ∙ ap (λ (x : List (List Cell)). reply.Answer s.version (header (stmt.Select q) s) x) (whole_rows rows (answer (stmt.Select q) s) rows_are few)
