-- The index of a file: an entry for each block.
use Rattle.std.specs.Prelude.{ℕ, ◌+◌, ◌-◌, ℤ, List, [], ◌∷◌, ◌++◌, length, slice_index}
use Rattle.std.specs.List.{flat_map}
use Rattle.std.specs.Int.{w16, w32, w64, to_le_bytes}
use Rattle.td_cols.specs.declared.kinds.Kind.TheVariants.{Wide}
use Rattle.td_codec.specs.Fields.{kind_number}
use Rattle.td_block.specs.Rows.{times_of}
use Rattle.td_block.specs.Blocks.{block_bytes}
use Rattle.td_fileio.specs.Lists.{FileBlock}
use Rattle.td_datafile.specs.declared.format.Summary.{Summary}
use Rattle.td_datafile.specs.declared.format.Entry.{Entry}
use Rattle.td_datafile.specs.Sums.{summaries}

abbrev pub bytes_of_block : FileBlock → List ℕ
bytes_of_block b = block_bytes b.kinds b.table b.rows

-- ---- what it says

-- the entry of a block that begins at a place
abbrev pub entry_of : ℕ → FileBlock → Entry
entry_of at b = record {
  offset = at;
  size = length (bytes_of_block b);
  table = b.table;
  rows = length b.rows;
  first = slice_index (times_of b.rows) 0;
  last = slice_index (times_of b.rows) (length b.rows - 1);
  columns = summaries (length b.kinds) b.rows;
}

-- the entries of blocks, the first of which begins at a place and each other one behind the one before it
abbrev pub index_of : ℕ → List FileBlock → List Entry
index_of at [] = []
index_of at (b ∷ bs) = entry_of at b ∷ index_of (at + length (bytes_of_block b)) bs

-- ---- its bytes

-- a number of 128 bits in two's complement
abbrev pub wide_bytes : ℤ → List ℕ
wide_bytes n = (kind_number Wide).spelled n

-- count, sum, least and greatest
abbrev pub summary_bytes : Summary → List ℕ
summary_bytes s = to_le_bytes w32 s.count ++ (wide_bytes s.sum ++ (wide_bytes s.least ++ wide_bytes s.greatest))

-- offset, size, table, rows, first and last timestamp, the count of the columns and their summaries
abbrev pub entry_bytes : Entry → List ℕ
entry_bytes e =
    to_le_bytes w64 e.offset
    ++ (to_le_bytes w32 e.size
    ++ (to_le_bytes w32 e.table
    ++ (to_le_bytes w32 e.rows
    ++ (to_le_bytes w64 e.first
    ++ (to_le_bytes w64 e.last
    ++ (to_le_bytes w16 (length e.columns)
    ++ flat_map summary_bytes e.columns))))))
