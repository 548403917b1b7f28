-- What becomes of the parts of a core as an entry is written and taken in.
use Rattle.std.specs.Prelude.{◌≡◌, ℕ, ◌+◌, ◌≤◌, true, List, [], ◌∷◌, ◌++◌, Option, IfSome}
use Rattle.td_layer.specs.Listed.{Listed}
use Rattle.td_manifest.specs.declared.head.Head.{Head}
use Rattle.td_model.specs.declared.history.Entry.{Entry}
use Rattle.td_model.specs.declared.report.JournalLine.{JournalLine}
use Rattle.td_model.specs.State.{State, step}
use Rattle.td_outside.specs.Image.{Image, Along}
use Rattle.td_outside.specs.Causes.{Rose}
use Rattle.td_told.specs.Turn.{line_at, halt_line}
use Rattle.td_told.specs.Journal.{halt_at}
use Rattle.td_levels.specs.Levels.{Levels}
use Rattle.td_levels.specs.Laws.{took}
use Rattle.td_state.specs.Held.{bare}
use Rattle.td_active.specs.declared.active_log.ActiveLog.{ActiveLog}
use Rattle.td_engine.specs.declared.submit.Submitted.{Submitted}
use Rattle.td_engine.specs.declared.submit.Submitted.TheVariants as submitted
use Rattle.td_active.specs.Standing.{StandsEither}
use Rattle.td_active.specs.Carried.{carried, Carries, Leaves, Reaches}

-- the parts that a submit changes but for the floor: what the store tells and counts, the log that is written, the
-- state, the levels, and the journal with its room
pub record Parts : Type 0 where
  pub told : Option Image
  pub count : ℕ
  pub place : ActiveLog
  pub state : State
  pub levels : Levels
  pub journal : List JournalLine
  pub spare : ℕ

abbrev pub parts : Option Image → ℕ → ActiveLog → State → Levels → Listed JournalLine → Parts
parts told count log state levels journal =
    record {
      told = told;
      count = count;
      place = log;
      state = state;
      levels = levels;
      journal = journal.items;
      spare = journal.spare;
    }

-- where the store tells its image, it carries the parts, above a head of a version
abbrev pub AreCarried : Parts → ℕ → Option Head → Type 0
AreCarried p committed sealed = IfSome p.told (Carries p.place (carried p.state p.levels committed sealed))

-- the entry was written and taken in
pub record TakesIn
    (old new : Parts) (committed : ℕ) (sealed : Option Head) (e : Entry) (rows version given edge : ℕ)
    : Type 0 where
  pub version_is : version ≡ old.state.version + 1
  pub rows_are : given ≡ rows
  pub edge_is : edge ≡ new.state.edge
  pub state : new.state ≡ bare (step (old.state ∷ []) e)
  pub levels : new.levels ≡ took e old.levels
  pub journal : new.journal ≡ old.journal ++ line_at version e.session e.ordinal e.moment ∷ []
  pub room : 1 ≤ new.spare
  pub number : new.place.number ≡ old.place.number
  pub made : new.place.is_made ≡ true
  pub image : Along (Reaches new.place (carried old.state old.levels committed sealed) e) old.told new.told
  pub count : new.count ≡ old.count

-- the entry couldn't be written, and a halt was taken in
pub record Stops (old new : Parts) (e : Entry) (moment halt : ℕ) : Type 0 where
  pub version_is : halt ≡ old.state.version + 1
  pub state : new.state ≡ bare (step (old.state ∷ []) (halt_at moment))
  pub levels : new.levels ≡ old.levels
  pub journal : new.journal ≡ old.journal ++ halt_line halt moment ∷ []
  pub number : new.place.number ≡ old.place.number
  pub image : Along (StandsEither old.state.version e) old.told new.told
  pub cause : Rose old.count new.count

-- there was no memory: the history is as it was, and the store stands for its state
pub record Stays (old new : Parts) (committed : ℕ) (sealed : Option Head) : Type 0 where
  pub state : new.state ≡ old.state
  pub levels : new.levels ≡ old.levels
  pub journal : new.journal ≡ old.journal
  pub room : old.spare ≤ new.spare
  pub place : new.place ≡ record old.place { is_made = new.place.is_made }
  pub image : Along (Leaves new.place (carried old.state old.levels committed sealed)) old.told new.told
  pub count : new.count ≡ old.count

-- what became of an entry with so many rows, at a moment
abbrev pub CarriesOut : Parts → Parts → ℕ → Option Head → Entry → ℕ → ℕ → Submitted → Type 0
CarriesOut old new committed sealed e moment rows (submitted.Accepted version given edge) =
    TakesIn old new committed sealed e rows version given edge
CarriesOut old new committed sealed e moment rows (submitted.StoreFault halt) = Stops old new e moment halt
CarriesOut old new committed sealed e moment rows (submitted.Refused cause prefix) = ⊥
CarriesOut old new committed sealed e moment rows (submitted.Full held) = ⊥
CarriesOut old new committed sealed e moment rows submitted.NoMemory = ⊥
