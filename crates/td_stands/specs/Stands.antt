-- The state that the image of a store stands for.
use Rattle.std.specs.Prelude.{◌≡◌, ◌≢◌, ◌<◌, ℕ, ◌+◌, List, [], length, All, Option, Some, None}
use Rattle.td_model.specs.State.{State, Rows}
use Rattle.td_outside.specs.Image.{Log, Image}
use Rattle.td_outside.specs.Files.{IsFinished}
use Rattle.td_memtable.specs.Contents.{Contents, nothing_held}
use Rattle.td_manifest.specs.declared.head.Head.{Head}
use Rattle.td_manifest.specs.Files.{all_files}
use Rattle.td_wal.specs.declared.item.LogItem.{LogItem}
use Rattle.td_wal.specs.Log.{IsLog}
use Rattle.td_levels.specs.Levels.{rows_over}
use Rattle.td_levels.specs.Fits.{HaveNoFurther}
use Rattle.td_stands.specs.Heads.{catalog_of, state_of_head, levels_of_head, HeadIs}
use Rattle.td_stands.specs.Replay.{Replays}

-- a log has these items from a version on; one that isn't there has none
abbrev pub HasItems : ℕ → List LogItem → Option Log → Type 0
HasItems first items None = items ≡ []
HasItems first items (Some log) = IsLog first log.bytes items

-- The files that a head names are finished, none is damaged, and they make these rows; they have no row of a table that
-- the head doesn't have.
pub record FilesMake (image : Image) (h : Head) (rows : Rows) : Type 0 where
  pub finished : All (λ (n : ℕ). IsFinished n image) (all_files h.sets)
  pub rows_are : rows_over image.files (catalog_of h) h.edge (levels_of_head h) ≡ Some rows
  pub further : HaveNoFurther image.files (catalog_of h) (levels_of_head h).sets

-- What a store's head and its files make, and the items of its first log and of the one above it.
pub record Holds (image : Image) (h : Head) (rows : Rows) (older newer : List LogItem) : Type 0 where
  pub head : HeadIs image.head h
  pub no_streams : h.streams ≡ []
  pub files : FilesMake image h rows
  pub first_log : HasItems (h.version + 1) older (image.logs h.first_log)
  pub second_log : HasItems (h.version + 1 + length older) newer (image.logs (h.first_log + 1))
  pub in_order : newer ≢ [] → older ≢ []
  pub none_above : (n : ℕ) → h.first_log + 1 < n → image.logs n ≡ None

-- A store stands for the state that the items of its first log, and then those of the log above it, make of the state of
-- its head, whose rows its files make. The second log has items only where the first has. The items of each log fit one
-- memtable.
pub record Stands (image : Image) (b : State) : Type 0 where
  pub head : Head
  pub rows : Rows
  pub older : List LogItem
  pub newer : List LogItem
  pub holds : Holds image head rows older newer
  pub between : State
  pub frozen : Contents
  pub active : Contents
  pub first : Replays (state_of_head head rows) nothing_held older between frozen
  pub second : Replays between nothing_held newer b active
