-- What writing an item to the log of a core leaves of a store.
use Rattle.std.specs.Prelude.{ℕ, Bool, true, List}
use Rattle.td_model.specs.State.{State}
use Rattle.td_outside.specs.Image.{Image}
use Rattle.td_wal.specs.declared.item.LogItem.{LogItem}
use Rattle.td_wal.specs.declared.item.LogBody.TheVariants as bodies
use Rattle.td_core.specs.CoreState.{LogPlace, IsActive, IsMade}
use Rattle.td_core.specs.Submits.{KeepsStanding}

-- the item of a text, of a version, a session, an ordinal and a moment
abbrev pub text_item : ℕ → ℕ → ℕ → ℕ → List ℕ → LogItem
text_item version session ordinal moment text =
    record { version = version; moment = moment; session = session; ordinal = ordinal; body = bodies.Text text }

-- The image stands for a state by the log that is written at a place, which is there or not.
pub record Carries (place : LogPlace) (made : Bool) (s : State) (image : Image) : Type 0 where
  pub active : IsActive image place s
  pub there : IsMade place made image

-- The image now does so, and stands for each state that it stood for.
pub record Leaves (place : LogPlace) (made : Bool) (s : State) (before now : Image) : Type 0 where
  pub carries : Carries place made s now
  pub keeps : KeepsStanding before now

-- the image now does so, whatever it was
abbrev pub Reaches : LogPlace → State → Image → Image → Type 0
Reaches place s before now = Carries place true s now
