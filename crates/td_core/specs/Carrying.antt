-- What becomes of the parts of a core as an entry is written and taken in.
use Rattle.std.specs.Prelude.{◌≡◌, ℕ, ◌+◌, ◌≤◌, Bool, true, List, [], ◌∷◌, ◌++◌, Option}
use Rattle.td_layer.specs.Listed.{Listed}
use Rattle.td_model.specs.declared.history.Entry.{Entry}
use Rattle.td_model.specs.declared.report.JournalLine.{JournalLine}
use Rattle.td_model.specs.State.{State, step}
use Rattle.td_outside.specs.Image.{Image, Along}
use Rattle.td_outside.specs.Causes.{Rose}
use Rattle.td_told.specs.Turn.{line_at, halt_line}
use Rattle.td_told.specs.Journal.{halt_at}
use Rattle.td_core.specs.declared.kept.ActiveLog.{ActiveLog}
use Rattle.td_core.specs.declared.submit.Submitted.{Submitted}
use Rattle.td_core.specs.declared.submit.Submitted.TheVariants as submitted
use Rattle.td_core.specs.CoreState.{LogPlace, log_place}
use Rattle.td_core.specs.Submits.{StandsForEither}
use Rattle.td_core.specs.Writing.{Leaves, Reaches}

-- the parts that a submit changes but for the floor: what the store tells and counts, the log that is written, the
-- state, and the journal with its room
pub record Parts : Type 0 where
  pub told : Option Image
  pub count : ℕ
  pub place : LogPlace
  pub made : Bool
  pub state : State
  pub journal : List JournalLine
  pub spare : ℕ

abbrev pub parts : Option Image → ℕ → ActiveLog → State → Listed JournalLine → Parts
parts told count log state journal =
    record {
      told = told;
      count = count;
      place = log_place log;
      made = log.is_made;
      state = state;
      journal = journal.items;
      spare = journal.spare;
    }

-- the entry was written and taken in
pub record TakesIn (old new : Parts) (e : Entry) (rows version given edge : ℕ) : Type 0 where
  pub version_is : version ≡ old.state.version + 1
  pub rows_are : given ≡ rows
  pub edge_is : edge ≡ new.state.edge
  pub state : new.state ≡ step (old.state ∷ []) e
  pub journal : new.journal ≡ old.journal ++ line_at version e.session e.ordinal e.moment ∷ []
  pub room : 1 ≤ new.spare
  pub made : new.made ≡ true
  pub image : Along (Reaches new.place new.state) old.told new.told
  pub count : new.count ≡ old.count

-- the entry couldn't be written, and a halt was taken in
pub record Stops (old new : Parts) (e : Entry) (moment halt : ℕ) : Type 0 where
  pub version_is : halt ≡ old.state.version + 1
  pub state : new.state ≡ step (old.state ∷ []) (halt_at moment)
  pub journal : new.journal ≡ old.journal ++ halt_line halt moment ∷ []
  pub image : Along (StandsForEither old.state (step (old.state ∷ []) e)) old.told new.told
  pub cause : Rose old.count new.count

-- there was no memory: the history is as it was, and the store stands for its state
pub record Stays (old new : Parts) : Type 0 where
  pub state : new.state ≡ old.state
  pub journal : new.journal ≡ old.journal
  pub room : old.spare ≤ new.spare
  pub place : new.place ≡ old.place
  pub image : Along (Leaves new.place new.made old.state) old.told new.told
  pub count : new.count ≡ old.count

-- what became of an entry with so many rows, at a moment
abbrev pub CarriesOut : Parts → Parts → Entry → ℕ → ℕ → Submitted → Type 0
CarriesOut old new e moment rows (submitted.Accepted version given edge) = TakesIn old new e rows version given edge
CarriesOut old new e moment rows (submitted.StoreFault halt) = Stops old new e moment halt
CarriesOut old new e moment rows (submitted.Refused cause prefix) = ⊥
CarriesOut old new e moment rows (submitted.Full held) = ⊥
CarriesOut old new e moment rows submitted.NoMemory = ⊥
