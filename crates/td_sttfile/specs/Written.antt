-- The bytes of a file.
use Rattle.std.specs.Prelude.{◌≡◌, ℕ, ◌^◌, ◌<◌, Bool, true, ◌&&◌, List, [], ◌∷◌, ◌++◌, length, map, Option, Some, None}
use Rattle.std.specs.List.{flat_map}
use Rattle.std.specs.Int.{w32, w64, to_le_bytes}
use Rattle.td_block.specs.Blocks.{block_bytes}
use Rattle.td_fileio.specs.declared.lists.TableRows.{TableRows}
use Rattle.td_fileio.specs.Lists.{FileBlock, all_blocks, IsRowList}
use Rattle.td_sttfile.specs.declared.format.FileCut.{FileCut}
use Rattle.td_sttfile.specs.declared.format.TheConstants.{FILE_MAGIC, FILE_END}
use Rattle.td_sttfile.specs.Cuts.{cut_behind}

-- the cuts of a table, and those of all tables
abbrev pub table_cuts : TableRows → List FileCut
table_cuts t = map (λ (c : ℕ × ℕ). record { table = t.table; lo = c.0; hi = c.1 }) t.cuts

abbrev pub all_cuts : List TableRows → List FileCut
all_cuts tables = flat_map table_cuts tables

-- the bytes of a cut: table, lo, hi
abbrev pub cut_bytes : FileCut → List ℕ
cut_bytes c = to_le_bytes w32 c.table ++ (to_le_bytes w64 c.lo ++ to_le_bytes w64 c.hi)

abbrev pub bytes_of_block : FileBlock → List ℕ
bytes_of_block b = block_bytes b.kinds b.table b.rows

-- The bytes of a file of a day range: a magic, the day range, the count of the cuts and the cuts, the count of the
-- blocks and the blocks, and an end mark.
unfoldable pub file_bytes : ℕ → List FileCut → List FileBlock → List ℕ
file_bytes range cuts blocks =
    to_le_bytes w32 FILE_MAGIC
    ++ (to_le_bytes w32 range
    ++ (to_le_bytes w32 (length cuts)
    ++ (flat_map cut_bytes cuts
    ++ (to_le_bytes w32 (length blocks)
    ++ (flat_map bytes_of_block blocks
    ++ to_le_bytes w32 FILE_END)))))

-- the file of a list of tables with their cuts and rows
abbrev pub bytes_of_list : ℕ → List TableRows → List ℕ
bytes_of_list range tables = file_bytes range (all_cuts tables) (all_blocks tables)

-- cuts in order, behind one: each may stand behind the one before it
abbrev pub cuts_fit : ℕ → Option FileCut → List FileCut → Bool
cuts_fit range before [] = true
cuts_fit range before (c ∷ cs) = (cut_behind range before).fits c && cuts_fit range (Some c) cs

-- What can be written: a list of tables with their rows, and cuts in order in the day range.
pub record CanWrite (range : ℕ) (tables : List TableRows) : Type 0 where
  pub rows : IsRowList range tables
  pub cuts : cuts_fit range None (all_cuts tables) ≡ true
  pub few : length (all_cuts tables) < 2 ^ 32
