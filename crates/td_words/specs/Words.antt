-- Which words are a command of the program.
use Rattle.std.specs.Prelude.{ℕ, Bool, false, not, ◌&&◌, ◌==◌, if◌then◌else◌, List, [], ◌∷◌, Option, Some, None}
use Rattle.std.specs.Str.{bytes_eq}
use lib.Chars.{codes}
use Rattle.td_words.specs.declared.Command.{Command}
use Rattle.td_words.specs.declared.Command.TheVariants as command

-- whether a word begins with a dash
abbrev pub is_dashed : List ℕ → Bool
is_dashed [] = false
is_dashed (b ∷ bs) = b == 45

-- a directory's name isn't empty and doesn't begin with a dash
abbrev pub is_dir : List ℕ → Bool
is_dir [] = false
is_dir (b ∷ bs) = not (b == 45)

-- a word as the name of a directory, where it is one
abbrev pub as_dir : List ℕ → Option (List ℕ)
as_dir word = if is_dir word then Some word else None

-- the directory that the words name, where they are `play` and one directory
abbrev pub dir_of : List (List ℕ) → Option (List ℕ)
dir_of [] = None
dir_of (word ∷ []) = None
dir_of (word ∷ dir ∷ []) = if bytes_eq word (codes "play") && is_dir dir then Some dir else None
dir_of (word ∷ dir ∷ other ∷ words) = None

-- the directory of a command
abbrev pub dir_named : Command → List ℕ
dir_named (command.Play dir) = dir.now
