-- Summaries and files worked out by hand.
use Rattle.std.proofs.Common.{◌≡◌, pos, negsuc, [], ◌∷◌, Some, None, refl}
use Rattle.td_cols.specs.declared.kinds.Kind.TheVariants.{I32}
use Rattle.td_cols.specs.Kinds.{kind_code, kind_width, kind_is_signed}
use Rattle.td_cols.specs.Spelling.{spelling_in}
use Rattle.td_layer.specs.declared.values.Value.TheVariants as value
use Rattle.td_block.specs.Rows.{times, births}
use Rattle.td_block.specs.Columns.{column}
use Rattle.td_block.specs.Blocks.{head, columns, block_parts, block}
use Rattle.td_fileio.specs.Lists.{FileBlock}
use Rattle.td_datafile.specs.Sums.{numbers_of, summary_of}
use Rattle.td_datafile.specs.Written.{file_bytes}

-- NULL and what isn't named aren't counted
some_numbers : summary_of (numbers_of (Some (value.Num (pos 3)) ∷ Some value.Null ∷ Some (value.Num (negsuc 4)) ∷ None ∷ Some (value.Num (pos 7)) ∷ [])) ≡ record { count = 3; sum = pos 5; least = negsuc 4; greatest = pos 7 }
some_numbers = refl

only_null : summary_of (numbers_of (Some value.Null ∷ [])) ≡ record { count = 0; sum = pos 0; least = pos 0; greatest = pos 0 }
only_null = refl

-- table 1, one row at 5, born 2000000000000, of one INT column with the value 2
abbrev pub one_row : FileBlock
one_row = record { table = 1; kinds = I32 ∷ []; rows = (5, record { birth = record { born = 2000000000000 }; cells = Some (value.Num (pos 2)) ∷ [] }) ∷ [] }

-- the file of the first day range with this block: the block begins at 12 and takes 37 bytes, so the index begins at 49
pub a_file : file_bytes 0 (one_row ∷ [])
    ≡ 84 ∷ 68 ∷ 68 ∷ 49 ∷ 0 ∷ 0 ∷ 0 ∷ 0 ∷ 1 ∷ 0 ∷ 0 ∷ 0
    ∷ 84 ∷ 68 ∷ 66 ∷ 49 ∷ 1 ∷ 0 ∷ 0 ∷ 0 ∷ 1 ∷ 0 ∷ 0 ∷ 0 ∷ 1 ∷ 0 ∷ 5 ∷ 0 ∷ 0 ∷ 0 ∷ 0 ∷ 0 ∷ 0 ∷ 0
    ∷ 0 ∷ 32 ∷ 74 ∷ 169 ∷ 209 ∷ 1 ∷ 0 ∷ 0 ∷ 4 ∷ 1 ∷ 1 ∷ 2 ∷ 0 ∷ 0 ∷ 0
    ∷ 12 ∷ 0 ∷ 0 ∷ 0 ∷ 0 ∷ 0 ∷ 0 ∷ 0 ∷ 37 ∷ 0 ∷ 0 ∷ 0 ∷ 1 ∷ 0 ∷ 0 ∷ 0 ∷ 1 ∷ 0 ∷ 0 ∷ 0 ∷ 5 ∷ 0 ∷ 0 ∷ 0 ∷ 0 ∷ 0 ∷ 0 ∷ 0 ∷ 5 ∷ 0 ∷ 0 ∷ 0 ∷ 0 ∷ 0 ∷ 0 ∷ 0 ∷ 1 ∷ 0
    ∷ 1 ∷ 0 ∷ 0 ∷ 0 ∷ 2 ∷ 0 ∷ 0 ∷ 0 ∷ 0 ∷ 0 ∷ 0 ∷ 0 ∷ 0 ∷ 0 ∷ 0 ∷ 0 ∷ 0 ∷ 0 ∷ 0 ∷ 0 ∷ 2 ∷ 0 ∷ 0 ∷ 0 ∷ 0 ∷ 0 ∷ 0 ∷ 0 ∷ 0 ∷ 0 ∷ 0 ∷ 0 ∷ 0 ∷ 0 ∷ 0 ∷ 0 ∷ 2 ∷ 0 ∷ 0 ∷ 0 ∷ 0 ∷ 0 ∷ 0 ∷ 0 ∷ 0 ∷ 0 ∷ 0 ∷ 0 ∷ 0 ∷ 0 ∷ 0 ∷ 0
    ∷ 49 ∷ 0 ∷ 0 ∷ 0 ∷ 0 ∷ 0 ∷ 0 ∷ 0 ∷ 84 ∷ 68 ∷ 68 ∷ 69 ∷ []
unfolding file_bytes block block_parts head times births columns column kind_code kind_width kind_is_signed spelling_in
a_file = refl
