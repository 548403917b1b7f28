-- What a literal says at a column or a tag of a kind, at a moment in milliseconds since 1970.
use Rattle.std.specs.Prelude.{ℕ, ℤ, pos, Bool, true, false, ◌&&◌, ◌||◌, nat_le, if◌then◌else◌, List, length, Option, Some, None, is_some}
use Rattle.std.specs.Option.{option_map_or, unwrap_or}
use Rattle.std.specs.Ordering.{int_eq}
use Rattle.td_cols.specs.declared.kinds.Kind.{Kind}
use Rattle.td_cols.specs.declared.kinds.Kind.TheVariants as kind
use Rattle.td_cols.specs.Kinds.{is_in_range}
use Rattle.td_layer.specs.declared.values.Value.{Value}
use Rattle.td_layer.specs.declared.values.Value.TheVariants as value
use Rattle.td_layer.specs.declared.values.Cell.{Cell}
use Rattle.td_layer.specs.declared.values.Cell.TheVariants as cell
use Rattle.td_model.specs.declared.language.Lit.{Lit}
use Rattle.td_model.specs.declared.language.Lit.TheVariants as lit
use Rattle.td_limits.specs.declared.limits.TheConstants.{TAG_BYTES}
use Rattle.td_times.specs.Stamps.{timestamp_of}
use Rattle.td_verdict.specs.Names.{is_time}

abbrev pub is_truth : Kind → Bool
is_truth kind.Bool = true
is_truth _ = false

-- the bytes that a text of a kind may have, and none of a kind of numbers
abbrev pub width_of : Kind → Option ℕ
width_of (kind.Text n) = Some n
width_of _ = None

abbrev pub is_text : Kind → Bool
is_text k = is_some (width_of k)

-- The number that a literal says. A truth value says 1 or 0 at BOOL alone, NOW the moment at TIMESTAMP alone, a text
-- the milliseconds of a timestamp at TIMESTAMP alone.
abbrev pub number_at : Kind → ℕ → Lit → Option ℤ
number_at k moment lit.Null = None
number_at k moment lit.True = if is_truth k then Some (pos 1) else None
number_at k moment lit.False = if is_truth k then Some (pos 0) else None
number_at k moment lit.Now = if is_time k then Some (pos moment) else None
number_at k moment (lit.Num n) = if is_text k then None else Some n
number_at k moment (lit.Str text) = if is_time k then timestamp_of text else None

-- the text that a literal says, at a kind of texts
abbrev pub text_at : Kind → Lit → Option (List ℕ)
text_at k (lit.Str text) = if is_text k then Some text else None
text_at k _ = None

abbrev pub is_null : Lit → Bool
is_null lit.Null = true
is_null _ = false

-- NULL suits each kind; any other literal suits a kind where it says a number or a text there
abbrev pub suits : Kind → ℕ → Lit → Bool
suits k moment l = is_null l || is_some (number_at k moment l) || is_some (text_at k l)

-- a text has at most the bytes of its kind
abbrev pub text_fits : Kind → Lit → Bool
text_fits k l = option_map_or (λ text. nat_le (length text) (unwrap_or (width_of k) 0)) (text_at k l) true

-- a number is in the range of its kind
abbrev pub number_fits : Kind → ℕ → Lit → Bool
number_fits k moment l = option_map_or (is_in_range k) (number_at k moment l) true

abbrev pub fits : Kind → ℕ → Lit → Bool
fits k moment l = number_fits k moment l && text_fits k l

-- the value of a column
abbrev pub value_or_null : Option ℤ → Value
value_or_null None = value.Null
value_or_null (Some n) = value.Num n

abbrev pub value_of : Kind → ℕ → Lit → Value
value_of k moment l = value_or_null (number_at k moment l)

-- the cell of a tag: a truth value at BOOL, else a number, a text or NULL
abbrev pub number_cell : Kind → ℤ → Cell
number_cell k n = if is_truth k then cell.Truth (int_eq n (pos 1)) else cell.Num n

abbrev pub tag_from : Kind → Option ℤ → Option (List ℕ) → Cell
tag_from k (Some n) text = number_cell k n
tag_from k None (Some text) = cell.Str text
tag_from k None None = cell.Null

abbrev pub tag_of : Kind → ℕ → Lit → Cell
tag_of k moment l = tag_from k (number_at k moment l) (text_at k l)

-- the kinds that columns can have: those with numbers of a fixed width that files can keep
abbrev pub is_column_kind : Kind → Bool
is_column_kind kind.Wide = false
is_column_kind (kind.Text n) = false
is_column_kind _ = true

-- the kinds that tags can have: those of columns, and texts of 1 byte or more and not too many
abbrev pub is_tag_kind : Kind → Bool
is_tag_kind (kind.Text n) = nat_le 1 n && nat_le n TAG_BYTES
is_tag_kind k = is_column_kind k
