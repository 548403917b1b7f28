-- The state that the image of a store stands for.
use Rattle.std.specs.Prelude.{◌≡◌, ◌≢◌, ℕ, ◌+◌, List, [], ◌++◌, length, Option, Some, None}
use Rattle.td_model.specs.State.{State, empty_state}
use Rattle.td_outside.specs.Image.{Log, Image}
use Rattle.td_wal.specs.declared.item.LogItem.{LogItem}
use Rattle.td_wal.specs.Log.{IsLog}
use Rattle.td_core.specs.Replay.{Replays}

-- the number of the first log: no head names another so far
abbrev pub FIRST_LOG : ℕ
FIRST_LOG = 1

-- a log has these items from a version on; one that isn't there has none
abbrev pub HasItems : ℕ → List LogItem → Option Log → Type 0
HasItems first items None = items ≡ []
HasItems first items (Some log) = IsLog first log.bytes items

-- A store without a head stands for the state that the items of its first log, and then those of the log above it, make
-- of the empty state. The second log has items only where the first has.
pub record Stands (image : Image) (b : State) : Type 0 where
  pub head : image.head ≡ None
  pub older : List LogItem
  pub newer : List LogItem
  pub first_log : HasItems 1 older (image.logs FIRST_LOG)
  pub second_log : HasItems (1 + length older) newer (image.logs (FIRST_LOG + 1))
  pub in_order : newer ≢ [] → older ≢ []
  pub replays : Replays empty_state (older ++ newer) b
