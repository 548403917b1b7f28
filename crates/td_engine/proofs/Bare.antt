-- The rows of a state have no part in the verdict on a write, nor in what an entry makes of the rest of it.
use Rattle.std.proofs.Common.{◌≡◌, ℕ, ◌+◌, List, [], ◌∷◌, Option, Some, None, refl, sym, ap, ◌∙◌}
use Rattle.td_model.specs.declared.history.Put.{Put}
use Rattle.td_model.specs.declared.history.What.{What}
use Rattle.td_model.specs.declared.history.What.TheVariants as what
use Rattle.td_model.specs.declared.history.Entry.{Entry}
use Rattle.td_model.specs.declared.language.Stmt.{Stmt}
use Rattle.td_model.specs.declared.language.Stmt.TheVariants as stmt
use Rattle.td_model.specs.Catalog.{table_at}
use Rattle.td_model.specs.State.{State, row_put, latest_raised, parent_of, put_one, put_all, effect, step}
use Rattle.td_told.specs.Verdict.{verdict}
use Rattle.td_state.specs.Held.{bare}
use Rattle.td_state.specs.Facts.{Facts, facts}

-- ---- the verdict

same_verdict : (q : Stmt) (s : State) (cursors : List (List ℕ)) (moment : ℕ) → verdict q (bare s) cursors moment ≡ verdict q s cursors moment
same_verdict (stmt.Wrong cause) s cursors moment = refl
same_verdict (stmt.MakeStable name columns tags) s cursors moment = refl
same_verdict (stmt.MakeTable name columns) s cursors moment = refl
same_verdict (stmt.MakeSub name stable tags) s cursors moment = refl
same_verdict (stmt.Insert table columns lines) s cursors moment = refl
same_verdict (stmt.Delete table column lo hi) s cursors moment = refl
same_verdict (stmt.MakeStream def) s cursors moment = refl
same_verdict (stmt.DropStream name) s cursors moment = refl
same_verdict stmt.Trim s cursors moment = refl
same_verdict (stmt.Select query) s cursors moment = refl
same_verdict (stmt.OpenCursor cursor query) s cursors moment = refl
same_verdict (stmt.Fetch cursor count) s cursors moment = refl
same_verdict (stmt.CloseCursor cursor) s cursors moment = refl
same_verdict stmt.Commit s cursors moment = refl
same_verdict stmt.Merge s cursors moment = refl
same_verdict stmt.Sweep s cursors moment = refl
same_verdict (stmt.Step stream) s cursors moment = refl

-- states that are the same but for their rows
pub verdict_alike : (q : Stmt) (s t : State) (cursors : List (List ℕ)) (moment : ℕ) → bare s ≡ bare t → verdict q s cursors moment ≡ verdict q t cursors moment
verdict_alike q s t cursors moment alike = sym (same_verdict q s cursors moment) ∙ ap (λ (x : State). verdict q x cursors moment) alike ∙ same_verdict q t cursors moment

-- ---- an entry

-- what a put raises beside the rows
abbrev put_beside : Put → State → State
put_beside p s = latest_raised (parent_of (table_at p.key.table s.catalog)) p.key s

abbrev all_beside : List Put → State → State
all_beside [] s = s
all_beside (p ∷ ps) s = all_beside ps (put_beside p s)

put_bare : (p : Put) (s : State) → bare (put_one p s) ≡ put_beside p (bare s)
put_bare p s = elim (parent_of (table_at p.key.table s.catalog)) as (λ (o : Option ℕ). bare (latest_raised o p.key (row_put p s)) ≡ latest_raised o p.key (bare s)) [
  | None ↦ refl
  | Some n ↦ refl
]

puts_bare : (ps : List Put) (s : State) → bare (put_all ps s) ≡ all_beside ps (bare s)
puts_bare [] s = refl
puts_bare (p ∷ ps) s = puts_bare ps (put_one p s) ∙ ap (all_beside ps) (put_bare p s)

effect_bare : (past others : List State) (w : What) (s : State) → bare (effect past w s) ≡ bare (effect others w (bare s))
effect_bare past others (what.MakeStable name schema) s = refl
effect_bare past others (what.MakeTable name columns) s = refl
effect_bare past others (what.MakeSub name stable tags) s = refl
effect_bare past others (what.Put puts) s = puts_bare puts s ∙ sym (puts_bare puts (bare s))
effect_bare past others (what.Cut table lo hi) s = refl
effect_bare past others (what.MakeStream def) s = refl
effect_bare past others (what.DropStream n) s = refl
effect_bare past others (what.Edge edge) s = refl
effect_bare past others (what.Step stream upto moment) s = refl
effect_bare past others what.Halt s = refl

pub step_bare : (past others : List State) (s : State) (e : Entry) → bare (step (s ∷ past) e) ≡ bare (step (bare s ∷ others) e)
step_bare past others s e = effect_bare (s ∷ past) (bare s ∷ others) e.what (record s { version = s.version + 1; moment = e.moment })

pub step_alike : (s t : State) (e : Entry) → bare s ≡ bare t → bare (step (s ∷ []) e) ≡ bare (step (t ∷ []) e)
step_alike s t e alike = step_bare [] [] s e ∙ ap (λ (x : State). bare (step (x ∷ []) e)) alike ∙ sym (step_bare [] [] t e)

-- ---- facts

abbrev of_facts : Facts → State
of_facts f = record { version = f.version; moment = f.moment; catalog = f.catalog; stable_latest = f.stable_latest; table_latest = f.table_latest; rows = []; edge = f.edge; halt = f.halt }

-- states of the same facts are the same but for their rows
pub alike : (s t : State) → facts s ≡ facts t → bare s ≡ bare t
alike s t e = ap of_facts e

-- an entry makes the same facts of the same facts
pub facts_after : (s t new : State) (e : Entry) → new ≡ bare (step (s ∷ []) e) → facts s ≡ facts t → facts new ≡ facts (step (t ∷ []) e)
facts_after s t new e is same = ap facts is ∙ ap facts (step_alike s t e (alike s t same))
