-- What a literal says at a column or a tag, and what is read off it.
use Rattle.std.specs.Prelude.{ℕ, ℤ, Bool, true, false, nat_le, if◌then◌else◌, List, length, Option, Some, None}
use Rattle.std.specs.Option.{unwrap_or}
use Rattle.td_cols.specs.declared.kinds.Kind.{Kind}
use Rattle.td_cols.specs.Kinds.{is_in_range}
use Rattle.td_layer.specs.declared.values.Value.{Value}
use Rattle.td_layer.specs.declared.values.Cell.{Cell}
use Rattle.td_layer.specs.declared.values.Cell.TheVariants as cell
use Rattle.td_model.specs.declared.language.Lit.{Lit}
use Rattle.td_model.specs.declared.language.Lit.TheVariants as lit
use Rattle.td_verdict.specs.Values.{width_of, number_at, text_at, is_null, value_or_null, number_cell}
use Rattle.td_fields.specs.declared.literals.Said.{Said}
use Rattle.td_fields.specs.declared.literals.Said.TheVariants as said

abbrev pub said_from : Option ℤ → Option (List ℕ) → Said
said_from (Some n) text = said.Number n
said_from None (Some text) = said.Text (length text)
said_from None None = said.Nothing

abbrev pub said_at : Kind → ℕ → Lit → Said
said_at k moment l = if is_null l then said.Null else said_from (number_at k moment l) (text_at k l)

abbrev pub is_suited : Said → Bool
is_suited said.Null = true
is_suited (said.Number n) = true
is_suited (said.Text bytes) = true
is_suited said.Nothing = false

abbrev pub is_null_said : Said → Bool
is_null_said said.Null = true
is_null_said (said.Number n) = false
is_null_said (said.Text bytes) = false
is_null_said said.Nothing = false

abbrev pub is_fit : Kind → Said → Bool
is_fit k said.Null = true
is_fit k (said.Number n) = is_in_range k n
is_fit k (said.Text bytes) = nat_le bytes (unwrap_or (width_of k) 0)
is_fit k said.Nothing = true

abbrev pub number_said : Said → Option ℤ
number_said said.Null = None
number_said (said.Number n) = Some n
number_said (said.Text bytes) = None
number_said said.Nothing = None

abbrev pub value_said : Said → Value
value_said s = value_or_null (number_said s)

-- the text of a literal, or NULL
abbrev pub text_cell : Lit → Cell
text_cell (lit.Str text) = cell.Str text
text_cell _ = cell.Null

-- the cell of a tag, from what its literal says
abbrev pub cell_from : Kind → Lit → Said → Cell
cell_from k l said.Null = cell.Null
cell_from k l (said.Number n) = number_cell k n
cell_from k l (said.Text bytes) = text_cell l
cell_from k l said.Nothing = cell.Null
