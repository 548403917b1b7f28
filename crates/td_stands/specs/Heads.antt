-- The head of a store, and the levels that its files are.
use Rattle.std.specs.Prelude.{◌≡◌, ℕ, List, map, reverse, Option, Some, None}
use Rattle.td_manifest.specs.declared.head.Head.{Head}
use Rattle.td_manifest.specs.declared.head.HeadSet.{HeadSet}
use Rattle.td_manifest.specs.Heads.{IsHead}
use Rattle.td_memtable.specs.Contents.{nothing_held}
use Rattle.td_levels.specs.Levels.{SetFiles, Levels}
pub use Rattle.td_manifest.specs.States.{catalog_of, state_of_head, empty_head}

-- a file set whose newest stt file stands first
abbrev pub set_files : HeadSet → SetFiles
set_files s = record { range = s.range; stt = reverse s.stt; main = s.main }

-- a head's files, under no memtable
abbrev pub levels_of_head : Head → Levels
levels_of_head h = record { active = nothing_held; frozen = None; sets = map set_files h.sets }

abbrev pub HeadIs : Option (List ℕ) → Head → Type 0
HeadIs None h = h ≡ empty_head
HeadIs (Some bytes) h = IsHead bytes h
