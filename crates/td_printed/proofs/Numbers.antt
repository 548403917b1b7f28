-- Numbers that a column can hold, and that an answer's cells can have.
use Rattle.std.proofs.Common.{◌≡◌, ℕ, ◌-◌, ◌^◌, ◌≤◌, ℤ, pos, negsuc, true, arith, refl}
use Rattle.std.specs.Prelude.{neg_ℤ, ◌≤ℤ◌, int_le, FitsSigned}
use Rattle.std.specs.Int.{w128}
use Rattle.std.proofs.lemmas.Bool.{and_parts}
use Rattle.std.proofs.lemmas.Bool.Decides.{nat_tests}
use Rattle.std.proofs.lemmas.Int.{ints}
use Rattle.td_cols.specs.declared.kinds.Kind.{Kind}
use Rattle.td_cols.specs.declared.kinds.Kind.TheVariants.{Bool as Truth, I8, I16, I32, I64, U8, U16, U32, U64, Time, Wide, Text}
use Rattle.td_cols.specs.Kinds.{kind_least, kind_most, is_in_range}
use Rattle.td_layer.specs.Columns.{IsColumnNumber}
use Rattle.td_limits.specs.declared.limits.TheConstants.{LAST_TIMESTAMP}

-- ---- what an i128 has

pub between_fits : (n : ℤ) → neg_ℤ (pos (2 ^ 126)) ≤ℤ n → n ≤ℤ pos (2 ^ 126) → FitsSigned w128 n
between_fits (pos n) low high = record { sfits = omega (arith, ints, high) }
between_fits (negsuc n) low high = record { sfits = omega (arith, ints, low) }

pub number_fits : (n : ℤ) → IsColumnNumber n → FitsSigned w128 n
number_fits n h = between_fits n (omega (arith, ints, h.0)) (omega (arith, ints, h.1))

pub time_fits : (ts : ℕ) → ts ≤ LAST_TIMESTAMP → FitsSigned w128 (pos ts)
time_fits ts l = record { sfits = omega arith }

fits_between : (lo n hi : ℤ) → int_le (negsuc (2 ^ 127 - 1)) lo ≡ true → int_le lo n ≡ true → int_le n hi ≡ true
    → int_le hi (pos (2 ^ 127 - 1)) ≡ true → FitsSigned w128 n
fits_between lo (pos n) (pos h) a b c d = record { sfits = grind (arith, nat_tests) }
fits_between lo (pos n) (negsuc h) a b c d = absurd (cc)
fits_between (negsuc l) (negsuc n) hi a b c d = record { sfits = grind (arith, nat_tests) }
fits_between (pos l) (negsuc n) hi a b c d = absurd (cc)

kind_within : (k : Kind) → (int_le (negsuc (2 ^ 127 - 1)) (kind_least k) ≡ true) ×
    (int_le (kind_most k) (pos (2 ^ 127 - 1)) ≡ true)
unfolding kind_least kind_most
kind_within Truth = (refl, refl)
kind_within I8 = (refl, refl)
kind_within I16 = (refl, refl)
kind_within I32 = (refl, refl)
kind_within I64 = (refl, refl)
kind_within U8 = (refl, refl)
kind_within U16 = (refl, refl)
kind_within U32 = (refl, refl)
kind_within U64 = (refl, refl)
kind_within Time = (refl, refl)
kind_within Wide = (refl, refl)
kind_within (Text n) = (refl, refl)

pub in_range_fits : (k : Kind) (n : ℤ) → is_in_range k n ≡ true → FitsSigned w128 n
unfolding is_in_range
in_range_fits k n h =
    let p = and_parts (int_le (kind_least k) n) (int_le n (kind_most k)) h in
    let w = kind_within k in
    fits_between (kind_least k) n (kind_most k) w.0 p.0 p.1 w.1
