-- What is accepted is no halt, and comes where there is none.
use Rattle.std.proofs.Common.{◌≡◌, ℕ, ◌+◌, false, List, [], ◌∷◌, Option, Some, None, refl, sym, subst, ◌∙◌}
use Rattle.td_model.specs.declared.history.Put.{Put}
use Rattle.td_model.specs.declared.history.What.{What}
use Rattle.td_model.specs.declared.history.What.TheVariants as what
use Rattle.td_model.specs.declared.history.Verdict.TheVariants.{Accept}
use Rattle.td_model.specs.declared.language.Stmt.{Stmt}
use Rattle.td_model.specs.Catalog.{table_at}
use Rattle.td_model.specs.State.{State, row_put, latest_raised, parent_of, put_one, put_all, effect, step}
use Rattle.td_told.specs.Times.{is_halt}
use Rattle.td_told.specs.Turn.{Accepts as Taken, entry_at}
use Rattle.td_told.specs.Verdict.{verdict}
use Rattle.td_told.proofs.Fits.{Fits, fits, no_halt, accepts_none}

put_halts : (p : Put) (s : State) → (put_one p s).halt ≡ s.halt
put_halts p s = elim (parent_of (table_at p.key.table s.catalog)) as (λ o. (latest_raised o p.key (row_put p s)).halt ≡ s.halt) [
  | None ↦ refl
  | Some n ↦ refl
]

puts_halt : (ps : List Put) (s : State) → (put_all ps s).halt ≡ s.halt
puts_halt [] s = refl
puts_halt (p ∷ ps) s = puts_halt ps (put_one p s) ∙ put_halts p s

halt_stays : (past : List State) (w : What) (s : State) → is_halt w ≡ false → (effect past w s).halt ≡ s.halt
halt_stays past (what.MakeStable name schema) s e = refl
halt_stays past (what.MakeTable name columns) s e = refl
halt_stays past (what.MakeSub name stable tags) s e = refl
halt_stays past (what.Put puts) s e = puts_halt puts s
halt_stays past (what.Cut table lo hi) s e = refl
halt_stays past (what.Edge edge) s e = refl
halt_stays past (what.MakeStream def) s e = refl
halt_stays past (what.DropStream n) s e = refl
halt_stays past (what.Step stream upto moment) s e = refl
halt_stays past what.Halt s e = absurd cc

-- what a statement is accepted as is no halt
pub accepted_halts : (q : Stmt) (s : State) (moment : ℕ) (w : What) (rows : ℕ) → verdict q s [] moment ≡ Accept w rows → is_halt w ≡ false
accepted_halts q s moment w rows e = no_halt q w (subst (Fits q) e (fits q s [] moment)).0

-- an entry of a statement leaves the halt
pub entry_halts : (q : Stmt) (s : State) (session ordinal moment : ℕ) (w : What) (rows : ℕ) → verdict q s [] moment ≡ Accept w rows → (step (s ∷ []) (entry_at session ordinal moment w)).halt ≡ s.halt
entry_halts q s session ordinal moment w rows e = halt_stays (s ∷ []) w (record s { version = s.version + 1; moment = moment }) (accepted_halts q s moment w rows e)

-- a verdict accepts only where there is no halt
going_by : (q : Stmt) (s : State) (moment : ℕ) (halt : Option ℕ) → s.halt ≡ halt → Taken (verdict q s [] moment) → s.halt ≡ None
going_by q s moment None is taken = is
going_by q s moment (Some version) is taken = absurd (accepts_none q s version moment is taken)

pub going : (q : Stmt) (s : State) (moment : ℕ) (w : What) (rows : ℕ) → verdict q s [] moment ≡ Accept w rows → s.halt ≡ None
going q s moment w rows accepted = going_by q s moment s.halt refl (subst Taken (sym accepted) tt)
