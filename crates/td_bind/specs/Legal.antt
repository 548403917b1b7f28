-- Histories whose entries are those that writes are accepted as, each in the state before it, or halts.
use Rattle.std.specs.Prelude.{◌≡◌, ◌⊎◌, ℕ, List, [], ◌∷◌, ⊤}
use Rattle.td_model.specs.declared.history.Entry.{Entry}
use Rattle.td_model.specs.declared.history.What.TheVariants.{Halt}
use Rattle.td_model.specs.declared.history.Verdict.TheVariants.{Accept}
use Rattle.td_model.specs.declared.language.Stmt.{Stmt}
use Rattle.td_model.specs.State.{State, newest, step}
use Rattle.td_verdict.specs.Writes.{write_verdict}

abbrev pub IsAccepted : State → Entry → Type 0
IsAccepted s e =
    ((q : Stmt) × (rows : ℕ) × (write_verdict q s.catalog s.edge e.moment ≡ Accept e.what rows)) ⊎ (e.what ≡ Halt)

-- after the states so far, which stand with the newest first
abbrev pub IsLegal : List State → List Entry → Type 0
IsLegal past [] = ⊤
IsLegal past (e ∷ h) = IsAccepted (newest past) e × IsLegal (step past e ∷ past) h
