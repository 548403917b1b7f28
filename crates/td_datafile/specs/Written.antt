-- The bytes of a file.
use Rattle.std.specs.Prelude.{◌≡◌, ℕ, ◌+◌, IsTrue, List, [], ◌++◌, length, Option}
use Rattle.std.specs.List.{flat_map, AllByRecursion}
use Rattle.std.specs.Int.{w32, w64, to_le_bytes}
use Rattle.td_layer.specs.declared.values.Value.{Value}
use Rattle.td_layer.specs.declared.parts.Partial.{Partial}
use Rattle.td_block.specs.Columns.{is_named}
use Rattle.td_fileio.specs.declared.lists.TableRows.{TableRows}
use Rattle.td_fileio.specs.Lists.{FileBlock, all_blocks, IsRowList}
use Rattle.td_datafile.specs.declared.format.TheConstants.{FILE_MAGIC, FILE_END}
use Rattle.td_datafile.specs.Index.{bytes_of_block, index_of, entry_bytes}

-- where the first block begins: behind the magic, the day range and the count of the blocks
abbrev pub blocks_begin : ℕ
blocks_begin = 12

-- The bytes of a file of a day range: a magic, the day range, the count of the blocks and the blocks, the index, the
-- place where it begins, and an end mark.
unfoldable pub file_bytes : ℕ → List FileBlock → List ℕ
file_bytes range blocks =
    to_le_bytes w32 FILE_MAGIC
    ++ (to_le_bytes w32 range
    ++ (to_le_bytes w32 (length blocks)
    ++ (flat_map bytes_of_block blocks
    ++ (flat_map entry_bytes (index_of blocks_begin blocks)
    ++ (to_le_bytes w64 (blocks_begin + length (flat_map bytes_of_block blocks))
    ++ to_le_bytes w32 FILE_END)))))

-- the file of a list of tables with their rows
abbrev pub bytes_of_list : ℕ → List TableRows → List ℕ
bytes_of_list range tables = file_bytes range (all_blocks tables)

-- a row names a value in each of its cells
abbrev pub IsWhole : ℕ × Partial → Type 0
IsWhole row = AllByRecursion (λ (cell : Option Value). IsTrue (is_named cell)) row.1.cells

-- a table has no cuts, and each of its rows names all values
pub record IsMerged (t : TableRows) : Type 0 where
  pub uncut : t.cuts ≡ []
  pub whole : AllByRecursion IsWhole t.rows

-- What can be written: a list of tables with their rows, without cuts, whose rows name all values.
pub record CanWrite (range : ℕ) (tables : List TableRows) : Type 0 where
  pub rows : IsRowList range tables
  pub merged : AllByRecursion IsMerged tables
