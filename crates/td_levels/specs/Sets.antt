-- File sets as the program keeps them, as contracts see them.
use Rattle.std.specs.Prelude.{ℕ, List, map, reverse, Option, Some, None}
use Rattle.td_fileset.specs.declared.file_set.FileSet.{FileSet}
use Rattle.td_memtable.specs.Contents.{Contents}
use Rattle.td_levels.specs.Levels.{SetFiles}

-- the files of a set by number, the newest stt file first
abbrev pub set_of : FileSet → SetFiles
set_of s = record { range = s.range; stt = reverse (map (λ (p : ℕ × ℕ). p.0) s.stt); main = s.main }

abbrev pub sets_of : List FileSet → List SetFiles
sets_of sets = map set_of sets

-- a memtable, or else another
abbrev pub or_else : Option Contents → Contents → Contents
or_else None m = m
or_else (Some n) m = n
