-- What the tests' calls ask of the store that they begin with: a log 1 of two bytes, and a finished file 2 that nobody
-- reads.
use Rattle.std.specs.Prelude.{◌<◌, ◌≤◌, length}
use Rattle.td_outside.specs.Image.{Image}
use Rattle.td_outside.specs.Files.{IsFinished, IsUnread}
use Rattle.td_outside.specs.Logs.{HasLog}

pub record IsFilled (image : Image) : Type 0 where
  pub append : HasLog 1 (λ l. 2 ≤ length l.bytes) image
  pub gate : HasLog 1 (λ l. 1 < length l.bytes) image
  pub sync : HasLog 1 (λ l. Unit {0}) image
  pub finished : IsFinished 2 image
  pub unread : IsUnread 2 image
