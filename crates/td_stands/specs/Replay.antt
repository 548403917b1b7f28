-- What the items of a log make of a state, and of the memtable that takes their entries.
use Rattle.std.specs.Prelude.{◌≡◌, ℕ, ◌+◌, ◌≤◌, List, [], ◌∷◌}
use Rattle.td_limits.specs.declared.limits.TheConstants.{MEMTABLE_PARTS}
use Rattle.td_model.specs.declared.history.What.{What}
use Rattle.td_model.specs.declared.history.Verdict.TheVariants.{Accept}
use Rattle.td_model.specs.declared.language.Stmt.{Stmt}
use Rattle.td_model.specs.State.{State, step}
use Rattle.td_parse.specs.Statements.{IsAnswer}
use Rattle.td_told.specs.Turn.{entry_at}
use Rattle.td_told.specs.Verdict.{verdict}
use Rattle.td_memtable.specs.Contents.{Contents}
use Rattle.td_wal.specs.declared.item.LogItem.{LogItem}
use Rattle.td_wal.specs.declared.item.LogBody.TheVariants as bodies
use Rattle.td_levels.specs.Taken.{taken, parts_of}

-- An item is the next entry of a state: its version is the next one, its moment isn't before the state's, and its text
-- is a statement that is accepted there at its moment. No stream takes a step so far.
pub record IsNext (i : LogItem) (s t : State) : Type 0 where
  pub text : List ℕ
  pub stmt : Stmt
  pub what : What
  pub rows : ℕ
  pub body : i.body ≡ bodies.Text text
  pub parsed : IsAnswer text stmt
  pub version : i.version ≡ s.version + 1
  pub moment : s.moment ≤ i.moment
  pub accepted : verdict stmt s [] i.moment ≡ Accept what rows
  pub state : t ≡ step (s ∷ []) (entry_at i.session i.ordinal i.moment what)

-- Items, one after another, make a state of a state and a memtable of a memtable, which has room for their parts.
abbrev pub Replays : State → Contents → List LogItem → State → Contents → Type 0
Replays s m [] t n = (t ≡ s) × (n ≡ m)
Replays s m (i ∷ is) t n =
    (u : State) × (next : IsNext i s u) × (m.held + parts_of next.what ≤ MEMTABLE_PARTS)
    × Replays u (taken next.what i.moment m) is t n
