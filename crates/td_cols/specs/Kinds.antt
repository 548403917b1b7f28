-- The kinds of a column: code, width, sign and range of each.
use Rattle.std.specs.Prelude.{ℕ, ◌-◌, ◌^◌, Bool, true, false, ◌&&◌, ℤ, pos, neg_ℤ, int_le}
use Rattle.td_limits.specs.declared.limits.TheConstants.{LAST_TIMESTAMP}
use Rattle.td_cols.specs.declared.kinds.Kind.{Kind}
use Rattle.td_cols.specs.declared.kinds.Kind.TheVariants.{Bool as Truth, I8, I16, I32, I64, U8, U16, U32, U64, Time, Wide, Text}

-- What is fixed of a kind: its code in files, the bytes of each of its numbers, whether these are two's
-- complement, and the least and the most of its numbers.
pub record KindForm : Type 0 where
  pub code : ℕ
  pub width : ℕ
  pub signed : Bool
  pub least : ℤ
  pub most : ℤ

abbrev pub form : ℕ → ℕ → Bool → ℤ → ℤ → KindForm
form code width signed least most = record { code = code; width = width; signed = signed; least = least; most = most }

-- The table of the kinds. A time is a count of milliseconds up to the end of the year 9999. A text has no
-- bytes of a fixed width and no numbers, so its most is below its least.
abbrev pub kind_form : Kind → KindForm
kind_form Truth = form 1 1 false (pos 0) (pos 1)
kind_form I8 = form 2 1 true (neg_ℤ (pos (2 ^ 7))) (pos (2 ^ 7 - 1))
kind_form I16 = form 3 2 true (neg_ℤ (pos (2 ^ 15))) (pos (2 ^ 15 - 1))
kind_form I32 = form 4 4 true (neg_ℤ (pos (2 ^ 31))) (pos (2 ^ 31 - 1))
kind_form I64 = form 5 8 true (neg_ℤ (pos (2 ^ 63))) (pos (2 ^ 63 - 1))
kind_form U8 = form 6 1 false (pos 0) (pos (2 ^ 8 - 1))
kind_form U16 = form 7 2 false (pos 0) (pos (2 ^ 16 - 1))
kind_form U32 = form 8 4 false (pos 0) (pos (2 ^ 32 - 1))
kind_form U64 = form 9 8 false (pos 0) (pos (2 ^ 64 - 1))
kind_form Time = form 10 8 false (pos 0) (pos LAST_TIMESTAMP)
kind_form Wide = form 11 16 true (neg_ℤ (pos (2 ^ 127))) (pos (2 ^ 127 - 1))
kind_form (Text n) = form 12 0 false (pos 1) (pos 0)

-- the code of a kind in files
unfoldable pub kind_code : Kind → ℕ
kind_code kind = (kind_form kind).code

-- how many bytes a number of a kind takes, 0 for a text
unfoldable pub kind_width : Kind → ℕ
kind_width kind = (kind_form kind).width

-- the bytes of a kind's numbers are two's complement
unfoldable pub kind_is_signed : Kind → Bool
kind_is_signed kind = (kind_form kind).signed

-- the least number of a kind
unfoldable pub kind_least : Kind → ℤ
kind_least kind = (kind_form kind).least

-- the most number of a kind
unfoldable pub kind_most : Kind → ℤ
kind_most kind = (kind_form kind).most

-- v is a number of a kind
unfoldable pub is_in_range : Kind → ℤ → Bool
is_in_range kind v = int_le (kind_least kind) v && int_le v (kind_most kind)
