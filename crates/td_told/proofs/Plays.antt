-- A run of turns, one after another.
use Rattle.std.proofs.Common.{◌≡◌, inl, inr, ℕ, ◌+◌, ◌≤◌, List, [], ◌∷◌, ◌++◌, map, Option, Some, refl, sym, ap, ◌∙◌, subst, arith}
use Rattle.std.proofs.lemmas.List.{append_assoc, append-nil}
use Rattle.td_limits.specs.declared.limits.TheConstants.{LAST_TIMESTAMP}
use Rattle.td_model.specs.declared.report.JournalLine.{JournalLine}
use Rattle.td_model.specs.declared.report.Reply.{Reply}
use Rattle.td_model.specs.declared.history.Entry.{Entry}
use Rattle.td_model.specs.declared.history.Verdict.TheVariants.{Accept, Pass, Refuse}
use Rattle.td_model.specs.State.{State}
use Rattle.td_model.proofs.Steps.{step_moment}
use Rattle.td_told.specs.Asked.{Asked}
use Rattle.td_told.specs.Numbers.{Replied}
use Rattle.td_told.specs.Replies.{reply_line}
use Rattle.td_told.specs.Verdict.{verdict}
use Rattle.td_told.specs.Journal.{halt_at}
use Rattle.td_told.specs.Turn.{End, by_verdict, starved, halted, clock_reads, reads, entry_at, reply_of, state_then, line_then, entry_then, as_list, reply_line_at, Judged, Accepts, TurnIs, TurnAnswers}
use Rattle.td_told.proofs.Fits.{accepts_none}

-- a moment that a turn may have: it isn't before the state's, lies in the range of time, and has P at the count of readings
abbrev pub MayBe : (ℕ → ℕ → Type 0) → State → ℕ → ℕ → Type 0
MayBe P s c m = (s.moment ≤ m) × (m ≤ LAST_TIMESTAMP) × P c m

abbrev pub asked_of : List Replied → List Asked
asked_of ps = map (λ (p : Replied). p.asked) ps

abbrev pub replied_with : Asked → Reply → Replied
replied_with a r = record { asked = a; reply = r }

-- From s and a count of readings, these statements have these replies, lines and entries, and lead to t.
abbrev pub Plays : (ℕ → ℕ → Type 0) → ℕ → State → List Replied → List JournalLine → List Entry → State → Type 0
Plays P c s [] js h t = (js ≡ []) × (h ≡ []) × (t ≡ s)
Plays P c s (p ∷ ps) js h t = (m : ℕ) × MayBe P s (c + clock_reads p.asked.stmt) m × (v : End) × Judged v (verdict p.asked.stmt s [] m) × (p.reply ≡ reply_of p.asked.stmt v s) × (rest : List JournalLine) × (js ≡ as_list (line_then v s p.asked.session p.asked.ordinal m) ++ rest) × (later : List Entry) × (h ≡ entry_then v p.asked.session p.asked.ordinal m ++ later) × Plays P (c + clock_reads p.asked.stmt) (state_then v s p.asked.session p.asked.ordinal m) ps rest later t

-- one turn alone
one_turn : (P : ℕ → ℕ → Type 0) (c m : ℕ) (s : State) (a : Asked) (v : End) → Judged v (verdict a.stmt s [] m) → MayBe P s (c + clock_reads a.stmt) m → Plays P c s (replied_with a (reply_of a.stmt v s) ∷ []) (as_list (line_then v s a.session a.ordinal m)) (entry_then v a.session a.ordinal m) (state_then v s a.session a.ordinal m)
one_turn P c m s a v j ok = (m, ok, v, j, refl, [], sym (append-nil _), [], sym (append-nil _), (refl, refl, refl))

-- one more turn at the end
pub plays_more : (P : ℕ → ℕ → Type 0) (c : ℕ) (s : State) (ps : List Replied) (js : List JournalLine) (h : List Entry) (t : State) (a : Asked) (v : End) (d m : ℕ) → Plays P c s ps js h t → Judged v (verdict a.stmt t [] m) → d ≡ c + reads (asked_of ps) → MayBe P t (d + clock_reads a.stmt) m → Plays P c s (ps ++ replied_with a (reply_of a.stmt v t) ∷ []) (js ++ as_list (line_then v t a.session a.ordinal m)) (h ++ entry_then v a.session a.ordinal m) (state_then v t a.session a.ordinal m)
plays_more P c s [] js h t a v d m play j f ok =
    let count : d ≡ c = omega arith in
    let may : MayBe P s (c + clock_reads a.stmt) m = subst (λ (x : State). MayBe P x (c + clock_reads a.stmt) m) play.2 (subst (λ n. MayBe P t (n + clock_reads a.stmt) m) count ok) in
    let judged : Judged v (verdict a.stmt s [] m) = subst (λ (x : State). Judged v (verdict a.stmt x [] m)) play.2 j in
    rw (play.0, play.1, play.2) (one_turn P c m s a v judged may)
plays_more P c s (p ∷ ps) js h t a v d m play j f ok =
    let line = as_list (line_then v t a.session a.ordinal m) in
    let entry = entry_then v a.session a.ordinal m in
    (play.0, play.1, play.2, play.3, play.4, play.5 ++ line, ap (λ x. x ++ line) play.6 ∙ append_assoc (as_list (line_then play.2 s p.asked.session p.asked.ordinal play.0)) play.5 line, play.7 ++ entry, ap (λ x. x ++ entry) play.8 ∙ append_assoc (entry_then play.2 p.asked.session p.asked.ordinal play.0) play.7 entry, plays_more P (c + clock_reads p.asked.stmt) _ ps play.5 play.7 t a v d m play.9 j (omega arith) ok)

pub reads_more : (qs : List Asked) (a : Asked) → reads (qs ++ a ∷ []) ≡ reads qs + clock_reads a.stmt
reads_more [] a = omega arith
reads_more (p ∷ qs) a = omega (arith, reads_more qs a)

pub asked_more : (ps : List Replied) (p : Replied) → asked_of (ps ++ p ∷ []) ≡ asked_of ps ++ p.asked ∷ []
asked_more [] p = refl
asked_more (x ∷ ps) p = ap (λ qs. x.asked ∷ qs) (asked_more ps p)

lines_more : (ps : List Replied) (p : Replied) → map reply_line (ps ++ p ∷ []) ≡ map reply_line ps ++ reply_line p ∷ []
lines_more [] p = refl
lines_more (x ∷ ps) p = ap (λ rs. reply_line x ∷ rs) (lines_more ps p)

moment_then : (v : End) (s : State) (session n m : ℕ) → s.moment ≤ m → (state_then v s session n m).moment ≤ m
moment_then (by_verdict (Accept w rows)) s session n m l = omega (arith, step_moment (s ∷ []) (entry_at session n m w))
moment_then (by_verdict Pass) s session n m l = l
moment_then (by_verdict (Refuse cause)) s session n m l = l
moment_then starved s session n m l = l
moment_then halted s session n m l = omega (arith, step_moment (s ∷ []) (halt_at m))

-- what a turn of the next statement leaves
pub record TurnLeft (P : ℕ → ℕ → Type 0) (ps : List Replied) (a : Asked) (r : Reply) (m : ℕ) (b t' : State) (rs' : List (ℕ × ℕ × Reply)) (js' : List JournalLine) (h' : List Entry) : Type 0 where
  pub played : Plays P 0 b (ps ++ replied_with a r ∷ []) js' h' t'
  pub replies : rs' ≡ map reply_line (ps ++ replied_with a r ∷ [])
  pub floor : t'.moment ≤ m

-- the next statement after those that were played
module _ (P : ℕ → ℕ → Type 0) (ps : List Replied) (m : ℕ) (a : Asked) (b t t' : State) (rs rs' : List (ℕ × ℕ × Reply)) (js js' : List JournalLine) (h : List Entry) (line : Option JournalLine) (r : Reply) (play : Plays P 0 b ps js h t) (before : rs ≡ map reply_line ps) (ok : MayBe P t (reads (asked_of ps) + clock_reads a.stmt) m) (replies : rs' ≡ rs ++ reply_line_at a.session a.ordinal r ∷ []) (journal : js' ≡ js ++ as_list line) where
  -- the turn ends in this way
  pub by_end : (v : End) → Judged v (verdict a.stmt t [] m) → TurnIs a.stmt v t t' a.session a.ordinal m r line → TurnLeft P ps a r m b t' rs' js' (h ++ entry_then v a.session a.ordinal m)
  by_end v judged turn =
      let more = plays_more P 0 b ps js h t a v (reads (asked_of ps)) m play judged (omega arith) ok in
      record {
        played = rw (turn.reply, journal, turn.line, turn.state) more;
        replies = replies ∙ ap (λ x. x ++ reply_line_at a.session a.ordinal r ∷ []) before ∙ sym (lines_more ps (replied_with a r));
        floor = rw turn.state (moment_then v t a.session a.ordinal m ok.0);
      }

  -- it ends in some way
  pub plays_next : TurnAnswers a.stmt t t' a.session a.ordinal m r line → (h' : List Entry) × TurnLeft P ps a r m b t' rs' js' h'
  plays_next turn = elim turn [
    | inl tells ↦ elim tells [
      | inl told ↦ (_, by_end (by_verdict (verdict a.stmt t [] m)) refl told)
      | inr none ↦ (_, by_end starved tt none)
    ]
    | inr fault ↦ (_, by_end halted fault.0 fault.1)
  ]

-- after a halt nothing is listed
pub none_listed : (P : ℕ → ℕ → Type 0) (c : ℕ) (s t : State) (ps : List Replied) (js : List JournalLine) (h : List Entry) (n : ℕ) → s.halt ≡ Some n → Plays P c s ps js h t → js ≡ []
none_listed P c s t [] js h n e play = play.0
none_listed P c s t (p ∷ ps) js h n e play =
    let q = p.asked.stmt in
    elim play.2 as (λ v. Judged v (verdict q s [] play.0) → js ≡ as_list (line_then v s p.asked.session p.asked.ordinal play.0) ++ play.5 → Plays P (c + clock_reads q) (state_then v s p.asked.session p.asked.ordinal play.0) ps play.5 play.7 t → js ≡ []) [
      | by_verdict (Accept w rows) ↦ λ is lines rest. absurd (accepts_none q s n play.0 e (subst Accepts is tt))
      | by_verdict Pass ↦ λ is lines rest. lines ∙ none_listed P (c + clock_reads q) s t ps play.5 play.7 n e rest
      | by_verdict (Refuse cause) ↦ λ is lines rest. lines ∙ none_listed P (c + clock_reads q) s t ps play.5 play.7 n e rest
      | starved ↦ λ is lines rest. lines ∙ none_listed P (c + clock_reads q) s t ps play.5 play.7 n e rest
      | halted ↦ λ is lines rest. absurd (accepts_none q s n play.0 e is)
    ] play.3 play.6 play.9

pub nothing_played : (P : ℕ → ℕ → Type 0) (c : ℕ) (b t : State) (js : List JournalLine) → js ≡ [] → t ≡ b → Plays P c b [] js [] t
nothing_played P c b t js journal state = (journal, refl, state)
