-- How often files are pinned.
use Rattle.std.specs.Prelude.{ℕ, ◌+◌, ◌^◌, ◌<◌, ◌≤◌, nat_eq, unwrap_or, if◌then◌else◌, List}
use Rattle.std.specs.Map.{lookup}

-- the pins of files by number, of which none is missing, and how many more can be made
pub record PinTable : Type 0 where
  pub counts : List (ℕ × ℕ)
  pub room : ℕ

-- how many pins of a file there are
abbrev pub pins_of : PinTable → ℕ → ℕ
pins_of t file = unwrap_or (lookup (nat_eq file) t.counts) 0

-- one for this file, and none for others
abbrev pub one_for : ℕ → ℕ → ℕ
one_for file other = if nat_eq other file then 1 else 0

-- what holds of every table of pins: the room that is left has its memory, and no count can pass its type's end
pub record IsPinTable (t : PinTable) (spare made : ℕ) : Type 0 where
  pub memory : t.room ≤ spare
  pub range : made + t.room < 2 ^ 64
  pub most : (file : ℕ) → pins_of t file ≤ made
