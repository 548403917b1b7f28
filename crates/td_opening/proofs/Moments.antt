-- The moment and the halt of what items make of a state.
use Rattle.std.proofs.Common.{◌≡◌, ℕ, ◌+◌, false, List, [], ◌∷◌, Some, None, refl, ap, subst, ◌∙◌}
use Rattle.td_model.specs.declared.history.Put.{Put}
use Rattle.td_model.specs.declared.history.What.{What}
use Rattle.td_model.specs.declared.history.What.TheVariants as what
use Rattle.td_model.specs.declared.history.Verdict.TheVariants.{Accept}
use Rattle.td_model.specs.declared.language.Stmt.{Stmt}
use Rattle.td_model.specs.Catalog.{table_at}
use Rattle.td_model.specs.State.{State, row_put, latest_raised, parent_of, put_one, put_all, effect, step}
use Rattle.td_model.proofs.Steps.{step_moment}
use Rattle.td_told.specs.Times.{is_halt}
use Rattle.td_told.specs.Turn.{entry_at}
use Rattle.td_told.specs.Verdict.{verdict}
use Rattle.td_told.proofs.Fits.{Fits, fits, no_halt}
use Rattle.td_memtable.specs.Contents.{Contents}
use Rattle.td_wal.specs.declared.item.LogItem.{LogItem}
use Rattle.td_wal.specs.Log.{last_moment}
use Rattle.td_levels.specs.Taken.{taken}
use Rattle.td_stands.specs.Replay.{IsNext, Replays}

-- ---- the moment

next_moment : (i : LogItem) (s t : State) → IsNext i s t → t.moment ≡ i.moment
next_moment i s t n = ap (λ (x : State). x.moment) n.state ∙ step_moment (s ∷ []) (entry_at i.session i.ordinal i.moment n.what)

-- the moment is that of the last item
pub replays_moment : (items : List LogItem) (s t : State) (l m : Contents) → Replays s l items t m → t.moment ≡ last_moment s.moment items
replays_moment [] s t l m p = ap (λ (x : State). x.moment) p.0
replays_moment (i ∷ is) s t l m p = replays_moment is p.0 t (taken p.1.what i.moment l) m p.3 ∙ ap (λ (n : ℕ). last_moment n is) (next_moment i s p.0 p.1)

-- ---- no halt

put_halts : (p : Put) (s : State) → (put_one p s).halt ≡ s.halt
put_halts p s = elim (parent_of (table_at p.key.table s.catalog)) as (λ o. (latest_raised o p.key (row_put p s)).halt ≡ s.halt) [
  | None ↦ refl
  | Some n ↦ refl
]

puts_halt : (ps : List Put) (s : State) → (put_all ps s).halt ≡ s.halt
puts_halt [] s = refl
puts_halt (p ∷ ps) s = puts_halt ps (put_one p s) ∙ put_halts p s

halt_stays : (past : List State) (w : What) (s : State) → is_halt w ≡ false → (effect past w s).halt ≡ s.halt
halt_stays past (what.MakeStable name schema) s e = refl
halt_stays past (what.MakeTable name columns) s e = refl
halt_stays past (what.MakeSub name stable tags) s e = refl
halt_stays past (what.Put puts) s e = puts_halt puts s
halt_stays past (what.Cut table lo hi) s e = refl
halt_stays past (what.Edge edge) s e = refl
halt_stays past (what.MakeStream def) s e = refl
halt_stays past (what.DropStream n) s e = refl
halt_stays past (what.Step stream upto moment) s e = refl
halt_stays past what.Halt s e = absurd cc

-- what a statement is accepted as is no halt
accepted_halts : (q : Stmt) (s : State) (moment : ℕ) (w : What) (rows : ℕ) → verdict q s [] moment ≡ Accept w rows → is_halt w ≡ false
accepted_halts q s moment w rows e = no_halt q w (subst (Fits q) e (fits q s [] moment)).0

-- an entry of a statement leaves the halt
entry_halts : (q : Stmt) (s : State) (session ordinal moment : ℕ) (w : What) (rows : ℕ) → verdict q s [] moment ≡ Accept w rows → (step (s ∷ []) (entry_at session ordinal moment w)).halt ≡ s.halt
entry_halts q s session ordinal moment w rows e = halt_stays (s ∷ []) w (record s { version = s.version + 1; moment = moment }) (accepted_halts q s moment w rows e)

pub next_halt : (i : LogItem) (s t : State) → IsNext i s t → t.halt ≡ s.halt
next_halt i s t n = ap (λ (x : State). x.halt) n.state ∙ entry_halts n.stmt s i.session i.ordinal i.moment n.what n.rows n.accepted

pub replays_halt : (items : List LogItem) (s t : State) (l m : Contents) → Replays s l items t m → t.halt ≡ s.halt
replays_halt [] s t l m p = ap (λ (x : State). x.halt) p.0
replays_halt (i ∷ is) s t l m p = replays_halt is p.0 t (taken p.1.what i.moment l) m p.3 ∙ next_halt i s p.0 p.1
