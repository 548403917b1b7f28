-- The cells of a row as a query sees them, where the names of a query find them, and comparisons of them.
use Rattle.std.specs.Prelude.{ℕ, ◌+◌, ℤ, pos, Bool, List, [], ◌∷◌, ◌++◌, Option, Some, None, position}
use Rattle.std.specs.List.{list_all, filter_map}
use Rattle.std.specs.Option.{option_map}
use lib.Chars.{codes}
use Rattle.td_cols.specs.declared.kinds.Kind.{Kind}
use Rattle.td_cols.specs.declared.kinds.Kind.TheVariants.{Text}
use Rattle.td_layer.specs.declared.values.Value.{Value}
use Rattle.td_layer.specs.declared.values.Value.TheVariants as value
use Rattle.td_layer.specs.declared.values.Cell.{Cell}
use Rattle.td_layer.specs.declared.values.Cell.TheVariants as cell
use Rattle.td_model.specs.declared.catalog.Column.{Column}
use Rattle.td_model.specs.declared.catalog.Schema.{Schema}
use Rattle.td_model.specs.declared.language.Lit.{Lit}
use Rattle.td_model.specs.declared.language.Cond.{Cond}
use Rattle.td_model.specs.declared.language.PartBy.{PartBy}
use Rattle.td_model.specs.declared.language.PartBy.TheVariants as part
use Rattle.td_limits.specs.declared.limits.TheConstants.{NAME_BYTES}
use Rattle.td_model.specs.Tags.{tag_matches}
use Rattle.td_verdict.specs.declared.comparison.Comparison.{Comparison}
use Rattle.td_verdict.specs.Names.{is_named, column_named}
use Rattle.td_verdict.specs.Values.{number_cell, number_at, text_at}

-- the columns and the tags of a schema, which share one space of names
abbrev pub fields : Schema → List Column
fields s = s.columns ++ s.tags

-- ---- a row's cells: its table's name at place 0, then its columns from place 1 on, then its table's tags

-- a value's cell: a truth value at BOOL, else a number or NULL
abbrev pub value_cell : Kind → Value → Cell
value_cell kind value.Null = cell.Null
value_cell kind (value.Num n) = number_cell kind n

-- the cells of the columns after the first; a value that is missing is NULL
abbrev pub value_cells : List Column → List Value → List Cell
value_cells [] values = []
value_cells (c ∷ cs) [] = cell.Null ∷ value_cells cs []
value_cells (c ∷ cs) (v ∷ values) = value_cell c.kind v ∷ value_cells cs values

abbrev pub column_cells : List Column → ℕ → List Value → List Cell
column_cells [] ts values = []
column_cells (c ∷ cs) ts values = cell.Num (pos ts) ∷ value_cells cs values

abbrev pub row_cells : List Column → List ℕ → List Cell → ℕ → List Value → List Cell
row_cells columns name tags ts values = cell.Str name ∷ column_cells columns ts values ++ tags

-- the place of the column or tag of a name
abbrev pub place_in : Schema → List ℕ → Option ℕ
place_in s name = option_map (λ i. i + 1) (position (is_named name) (fields s))

-- ---- comparisons

-- TBNAME is compared as a text, under the name that a cause has for it
abbrev pub tbname_column : Column
tbname_column = record { name = codes "tbname"; kind = Text NAME_BYTES }

-- the column or tag that a condition is of, and its place
abbrev pub part_column : Schema → PartBy → Option Column
part_column s part.TbName = Some tbname_column
part_column s (part.Tag name) = column_named (fields s) name

abbrev pub part_place : Schema → PartBy → Option ℕ
part_place s part.TbName = Some 0
part_place s (part.Tag name) = place_in s name

-- The cell that a literal is compared as: its number, as it is, or its text. NOW stands in no condition.
abbrev pub operand_from : Option ℤ → Option (List ℕ) → Cell
operand_from (Some n) text = cell.Num n
operand_from None (Some text) = cell.Str text
operand_from None None = cell.Null

abbrev pub operand_of : Kind → Lit → Cell
operand_of k l = operand_from (number_at k 0 l) (text_at k l)

abbrev pub comparison_from : Cond → Option Column → Option ℕ → Option Comparison
comparison_from c None place = None
comparison_from c (Some column) None = None
comparison_from c (Some column) (Some place) =
    Some (record { place = place; op = c.op; operand = operand_of column.kind c.lit })

-- a condition of a known name as a comparison of a row's cells
abbrev pub comparison_of : Schema → Cond → Option Comparison
comparison_of s c = comparison_from c (part_column s c.of) (part_place s c.of)

abbrev pub comparisons_of : Schema → List Cond → List Comparison
comparisons_of s conds = filter_map (comparison_of s) conds

-- whether a comparison is true of a row's cells; a comparison with NULL is not
abbrev pub holds : List Cell → Comparison → Bool
holds cells p = tag_matches p.place p.op p.operand cells

abbrev pub all_hold : List Comparison → List Cell → Bool
all_hold ps cells = list_all (holds cells) ps
