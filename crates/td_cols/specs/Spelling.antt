-- How numbers stand as bytes: the lowest byte first, a negative number in two's complement.
use Rattle.std.specs.Prelude.{◌≡◌, ℕ, ◌<◌, Bool, true, false, ℤ, List, length, slice_index, IsTrue}
use Rattle.std.specs.Int.{w128, cast_signed}
use Rattle.byteorder.specs.Endian.{little_bytes, little_number, low_bytes, twos_complement}
use Rattle.td_cols.specs.declared.kinds.Kind.{Kind}
use Rattle.td_cols.specs.Kinds.{kind_width, kind_is_signed, is_in_range}

-- the number v in so many bytes: the lowest of its two's complement
unfoldable pub spelling_in : ℕ → ℤ → List ℕ
spelling_in width v = little_bytes width (low_bytes w128 width v)

-- The number that bytes spell, signed or not. An `i128` holds the unsigned number of 16 bytes only below
-- 2 ^ 127; from there on it is the negative number of the same bits, which fits no unsigned lane.
unfoldable pub number_in : Bool → List ℕ → ℤ
number_in true bytes = twos_complement (length bytes) (little_number (length bytes) bytes)
number_in false bytes = cast_signed w128 (little_number (length bytes) bytes)

-- how a number of a kind stands as bytes
abbrev pub spelling : Kind → ℤ → List ℕ
spelling kind v = spelling_in (kind_width kind) v

-- the number that bytes spell for a kind, which may lie outside its range
abbrev pub number_spelled : Kind → List ℕ → ℤ
number_spelled kind bytes = number_in (kind_is_signed kind) bytes

-- each item is a byte
abbrev pub AreBytes : List ℕ → Type 0
AreBytes bytes = (i : ℕ) → slice_index bytes i < 256

-- Numbers and spellings of a kind belong to each other one to one: a spelling has the kind's width, the
-- spelling of a number in range spells that number, and bytes of the width are the spelling of the number
-- that they spell. So bytes spell a number of the kind exactly where the number that they spell is in range.
pub record HasOneSpelling (kind : Kind) : Type 0 where
  pub as_wide : (v : ℤ) → length (spelling kind v) ≡ kind_width kind
  pub spelled : (v : ℤ) → IsTrue (is_in_range kind v) → number_spelled kind (spelling kind v) ≡ v
  pub respelled : (bytes : List ℕ) → AreBytes bytes → length bytes ≡ kind_width kind
      → spelling kind (number_spelled kind bytes) ≡ bytes
