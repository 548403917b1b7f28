-- What the items of a log make of a state.
use Rattle.std.specs.Prelude.{◌≡◌, ℕ, ◌+◌, ◌≤◌, List, [], ◌∷◌}
use Rattle.td_model.specs.declared.history.What.{What}
use Rattle.td_model.specs.declared.history.Verdict.TheVariants.{Accept}
use Rattle.td_model.specs.declared.language.Stmt.{Stmt}
use Rattle.td_model.specs.State.{State, step}
use Rattle.td_parse.specs.Statements.{IsAnswer}
use Rattle.td_told.specs.Turn.{entry_at}
use Rattle.td_told.specs.Verdict.{verdict}
use Rattle.td_wal.specs.declared.item.LogItem.{LogItem}
use Rattle.td_wal.specs.declared.item.LogBody.TheVariants as bodies

-- An item is the next entry of a state: its version is the next one, its moment isn't before the state's, and its text
-- is a statement that is accepted there at its moment. No stream takes a step so far.
pub record IsNext (i : LogItem) (s t : State) : Type 0 where
  pub text : List ℕ
  pub stmt : Stmt
  pub what : What
  pub rows : ℕ
  pub body : i.body ≡ bodies.Text text
  pub parsed : IsAnswer text stmt
  pub version : i.version ≡ s.version + 1
  pub moment : s.moment ≤ i.moment
  pub accepted : verdict stmt s [] i.moment ≡ Accept what rows
  pub state : t ≡ step (s ∷ []) (entry_at i.session i.ordinal i.moment what)

-- items, one after another, make a state of a state
abbrev pub Replays : State → List LogItem → State → Type 0
Replays s [] t = t ≡ s
Replays s (i ∷ is) t = (u : State) × IsNext i s u × Replays u is t
