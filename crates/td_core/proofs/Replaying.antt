-- What items make of a state, one after another.
use Rattle.std.proofs.Common.{◌≡◌, ℕ, ◌+◌, ◌≤◌, false, List, [], ◌∷◌, ◌++◌, length, Some, None, refl, sym, ap, subst, ◌∙◌}
use Rattle.td_model.specs.declared.history.Put.{Put}
use Rattle.td_model.specs.declared.history.What.{What}
use Rattle.td_model.specs.declared.history.What.TheVariants as what
use Rattle.td_model.specs.declared.history.Verdict.TheVariants.{Accept}
use Rattle.td_model.specs.declared.language.Stmt.{Stmt}
use Rattle.td_model.specs.Catalog.{table_at}
use Rattle.td_model.specs.State.{State, row_put, latest_raised, parent_of, put_one, put_all, effect, step}
use Rattle.td_model.proofs.Steps.{step_version, step_moment}
use Rattle.td_parse.specs.Statements.{IsAnswer}
use Rattle.td_parse.proofs.OneAnswer.{one_answer}
use Rattle.td_told.specs.Times.{is_halt}
use Rattle.td_told.specs.Turn.{entry_at}
use Rattle.td_told.specs.Verdict.{verdict}
use Rattle.td_told.proofs.Fits.{Fits, fits, no_halt}
use Rattle.td_wal.specs.declared.item.LogItem.{LogItem}
use Rattle.td_wal.specs.declared.item.LogBody.TheVariants as bodies
use Rattle.td_wal.specs.Log.{last_moment}
use Rattle.td_core.specs.Replay.{IsNext, Replays}
use Rattle.td_core.proofs.Sums.{no_more, one_more, equal_at_most, rises, self_at_most, none_at_most, up_to}

-- ---- the next item

text_is : (a b : List ℕ) → bodies.Text a ≡ bodies.Text b → a ≡ b
text_is a b e = cc

accepted_is : (v w : What) (m n : ℕ) → Accept v m ≡ Accept w n → v ≡ w
accepted_is v w m n e = cc

one_entry : (s : State) (moment : ℕ) (p q : Stmt) (v w : What) (m n : ℕ) → p ≡ q → verdict p s [] moment ≡ Accept v m → verdict q s [] moment ≡ Accept w n → v ≡ w
one_entry s moment p q v w m n same e f = accepted_is v w m n (sym e ∙ ap (λ (x : Stmt). verdict x s [] moment) same ∙ f)

-- an item makes one state of a state
pub one_next : (i : LogItem) (s t u : State) → IsNext i s t → IsNext i s u → t ≡ u
one_next i s t u p q =
    let texts : p.text ≡ q.text = text_is p.text q.text (sym p.body ∙ q.body) in
    let stmts : p.stmt ≡ q.stmt = one_answer p.text p.stmt q.stmt p.parsed (subst (λ (x : List ℕ). IsAnswer x q.stmt) (sym texts) q.parsed) in
    let whats : p.what ≡ q.what = one_entry s i.moment p.stmt q.stmt p.what q.what p.rows q.rows stmts p.accepted q.accepted in
    p.state ∙ ap (λ (w : What). step (s ∷ []) (entry_at i.session i.ordinal i.moment w)) whats ∙ sym q.state

-- the state that an item makes has its moment, and the next version
pub next_version : (i : LogItem) (s t : State) → IsNext i s t → t.version ≡ s.version + 1
next_version i s t n = ap (λ (x : State). x.version) n.state ∙ step_version (s ∷ []) (entry_at i.session i.ordinal i.moment n.what)

pub next_moment : (i : LogItem) (s t : State) → IsNext i s t → t.moment ≡ i.moment
next_moment i s t n = ap (λ (x : State). x.moment) n.state ∙ step_moment (s ∷ []) (entry_at i.session i.ordinal i.moment n.what)

-- ---- no halt

put_halts : (p : Put) (s : State) → (put_one p s).halt ≡ s.halt
put_halts p s = elim (parent_of (table_at p.key.table s.catalog)) as (λ o. (latest_raised o p.key (row_put p s)).halt ≡ s.halt) [
  | None ↦ refl
  | Some n ↦ refl
]

puts_halt : (ps : List Put) (s : State) → (put_all ps s).halt ≡ s.halt
puts_halt [] s = refl
puts_halt (p ∷ ps) s = puts_halt ps (put_one p s) ∙ put_halts p s

halt_stays : (past : List State) (w : What) (s : State) → is_halt w ≡ false → (effect past w s).halt ≡ s.halt
halt_stays past (what.MakeStable name schema) s e = refl
halt_stays past (what.MakeTable name columns) s e = refl
halt_stays past (what.MakeSub name stable tags) s e = refl
halt_stays past (what.Put puts) s e = puts_halt puts s
halt_stays past (what.Cut table lo hi) s e = refl
halt_stays past (what.Edge edge) s e = refl
halt_stays past (what.MakeStream def) s e = refl
halt_stays past (what.DropStream n) s e = refl
halt_stays past (what.Step stream upto moment) s e = refl
halt_stays past what.Halt s e = absurd cc

-- what a statement is accepted as is no halt
pub accepted_halts : (q : Stmt) (s : State) (moment : ℕ) (w : What) (rows : ℕ) → verdict q s [] moment ≡ Accept w rows → is_halt w ≡ false
accepted_halts q s moment w rows e = no_halt q w (subst (Fits q) e (fits q s [] moment)).0

-- an entry of a statement leaves the halt
pub entry_halts : (q : Stmt) (s : State) (session ordinal moment : ℕ) (w : What) (rows : ℕ) → verdict q s [] moment ≡ Accept w rows → (step (s ∷ []) (entry_at session ordinal moment w)).halt ≡ s.halt
entry_halts q s session ordinal moment w rows e = halt_stays (s ∷ []) w (record s { version = s.version + 1; moment = moment }) (accepted_halts q s moment w rows e)

pub next_halt : (i : LogItem) (s t : State) → IsNext i s t → t.halt ≡ s.halt
next_halt i s t n = ap (λ (x : State). x.halt) n.state ∙ entry_halts n.stmt s i.session i.ordinal i.moment n.what n.rows n.accepted

-- ---- items, one after another

-- items make one state of a state
pub one_replay : (items : List LogItem) (s t u : State) → Replays s items t → Replays s items u → t ≡ u
one_replay [] s t u p q = p ∙ sym q
one_replay (i ∷ is) s t u p q =
    let next : p.0 ≡ q.0 = one_next i s p.0 q.0 p.1 q.1 in
    one_replay is p.0 t u p.2 (subst (λ (x : State). Replays x is u) (sym next) q.2)

pub replays_then : (a b : List LogItem) (s t u : State) → Replays s a t → Replays t b u → Replays s (a ++ b) u
replays_then [] b s t u p q = subst (λ (x : State). Replays x b u) p q
replays_then (i ∷ is) b s t u p q = (p.0, p.1, replays_then is b p.0 t u p.2 q)

pub replays_split : (a b : List LogItem) (s u : State) → Replays s (a ++ b) u → (t : State) × Replays s a t × Replays t b u
replays_split [] b s u p = (s, refl, p)
replays_split (i ∷ is) b s u p =
    let r = replays_split is b p.0 u p.2 in
    (r.0, (p.0, p.1, r.1), r.2)

pub replays_more : (items : List LogItem) (i : LogItem) (s t u : State) → Replays s items t → IsNext i t u → Replays s (items ++ i ∷ []) u
replays_more items i s t u p q = replays_then items (i ∷ []) s t u p (u, q, refl)

-- each item makes one version
pub replays_version : (items : List LogItem) (s t : State) → Replays s items t → t.version ≡ s.version + length items
replays_version [] s t p = no_more t.version s.version (ap (λ (x : State). x.version) p)
replays_version (i ∷ is) s t p = one_more t.version p.0.version s.version (length is) (replays_version is p.0 t p.2) (next_version i s p.0 p.1)

-- the moment is that of the last item
pub replays_moment : (items : List LogItem) (s t : State) → Replays s items t → t.moment ≡ last_moment s.moment items
replays_moment [] s t p = ap (λ (x : State). x.moment) p
replays_moment (i ∷ is) s t p = replays_moment is p.0 t p.2 ∙ ap (λ (m : ℕ). last_moment m is) (next_moment i s p.0 p.1)

-- moments don't fall
pub replays_rise : (items : List LogItem) (s t : State) → Replays s items t → s.moment ≤ t.moment
replays_rise [] s t p = equal_at_most t.moment s.moment (ap (λ (x : State). x.moment) p)
replays_rise (i ∷ is) s t p = rises s.moment p.0.moment t.moment i.moment p.1.moment (next_moment i s p.0 p.1) (replays_rise is p.0 t p.2)

pub replays_halt : (items : List LogItem) (s t : State) → Replays s items t → t.halt ≡ s.halt
replays_halt [] s t p = ap (λ (x : State). x.halt) p
replays_halt (i ∷ is) s t p = replays_halt is p.0 t p.2 ∙ next_halt i s p.0 p.1

last_or : (least own : ℕ) (items : List LogItem) → least ≤ own → last_moment least items ≤ last_moment own items
last_or least own [] le = le
last_or least own (i ∷ is) le = self_at_most (last_moment i.moment is)

-- The moment of a state is at least that of the last item of the log that made its last entries.
pub own_moment : (older own : List LogItem) (s t : State) → Replays s (older ++ own) t → last_moment 0 own ≤ t.moment
own_moment older own s t p =
    let r = replays_split older own s t p in
    up_to (last_moment 0 own) (last_moment r.0.moment own) t.moment (last_or 0 r.0.moment own (none_at_most r.0.moment)) (replays_moment own r.0 t r.2)
