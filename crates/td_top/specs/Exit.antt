-- How the program ends with a status: its number, and its line on standard error.
use Rattle.std.specs.Prelude.{ℕ, List, [], ◌++◌}
use Rattle.std.specs.Fmt.{decimal}
use lib.Chars.{codes}
use Rattle.td_core.specs.declared.causes.FileId.{FileId}
use Rattle.td_core.specs.declared.causes.FileId.TheVariants as file
use Rattle.td_top.specs.declared.status.Status.{Status}
use Rattle.td_top.specs.declared.status.Status.TheVariants as status

abbrev pub exit_number : Status → ℕ
exit_number status.Done = 0
exit_number status.NoMemory = 1
exit_number status.Usage = 2
exit_number (status.BadScript line) = 3
exit_number status.TooLarge = 4
exit_number status.InputFault = 5
exit_number status.OutputFault = 6
exit_number status.StoreFault = 7
exit_number (status.NotThisStore file at) = 8

-- the words of its line, before its number or its place
abbrev pub status_words : Status → List ℕ
status_words status.Done = []
status_words status.NoMemory = codes "no memory"
status_words status.Usage = codes "usage: td_vnode play DIR, run DIR, gen N DIR"
status_words (status.BadScript line) = codes "bad script: line "
status_words status.TooLarge = codes "script too large"
status_words status.InputFault = codes "input fault"
status_words status.OutputFault = codes "output fault"
status_words status.StoreFault = codes "store fault"
status_words (status.NotThisStore file at) = codes "not this store: "

-- a file of a store, and a place in it, in bytes from 0
abbrev pub file_text : FileId → List ℕ
file_text file.Head = codes "head"
file_text (file.Log n) = codes "log " ++ decimal n
file_text (file.File n) = codes "file " ++ decimal n

abbrev pub place_text : FileId → ℕ → List ℕ
place_text f at = file_text f ++ (codes " at " ++ decimal at)

-- the rest of its line: a number, a place, or nothing
abbrev pub status_rest : Status → List ℕ
status_rest (status.BadScript line) = decimal line
status_rest (status.NotThisStore file at) = place_text file at
status_rest s = []

-- the text of its line
abbrev pub status_text : Status → List ℕ
status_text s = status_words s ++ status_rest s

-- its line, with the line's end; a run that is done has none
abbrev pub status_line : Status → List ℕ
status_line status.Done = []
status_line s = status_text s ++ codes "\n"
