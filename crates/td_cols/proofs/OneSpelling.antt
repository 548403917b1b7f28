-- Numbers of a lane or of a kind and their spellings belong to each other one to one.
use Rattle.std.proofs.Common.{◌≡◌, ℕ, suc, ◌+◌, ◌-◌, ◌*◌, ◌%◌, ◌^◌, ◌<◌, ◌≤◌, min, Bool, true, false, ◌&&◌, ◌⊎◌, inl, inr, ℤ, pos, negsuc, neg_ℤ, List, [], ◌∷◌, length, lit<, lit≤, refl, sym, ap, subst, ◌∙◌, arith}
use Rattle.std.specs.Prelude.{int_le, IsTrue}
use Rattle.std.proofs.Math.Nat.{mod-eq_of_lt, mod-lt}
use Rattle.std.proofs.lemmas.Bool.{and_parts}
use Rattle.std.proofs.lemmas.Bool.Decides.{nat_tests}
use Rattle.std.proofs.lemmas.Int.{to_z_pos, of_z-to_z}
use Rattle.std.specs.Int.{w128, cast_unsigned, cast_signed}
use Rattle.byteorder.specs.Endian.{little_bytes, little_number, low_bytes, twos_complement}
use Rattle.byteorder.specs.Numbers.{length-bytes_low_first, little_from-lt}
use Rattle.td_limits.specs.declared.limits.TheConstants.{LAST_TIMESTAMP}
use Rattle.td_cols.specs.declared.kinds.Kind.{Kind}
use Rattle.td_cols.specs.declared.kinds.Kind.TheVariants.{Bool as Truth, I8, I16, I32, I64, U8, U16, U32, U64, Time, Wide, Text}
use Rattle.td_cols.specs.Kinds.{kind_width, kind_is_signed, kind_least, kind_most, is_in_range}
use Rattle.td_cols.specs.Lanes.{is_lane_width, lane_least, lane_most, fits_lane}
use Rattle.td_cols.specs.Spelling.{AreBytes, spelling_in, number_in, HasOneSpelling}
use Rattle.td_cols.proofs.LowBytes.{little_bytes-number, little_number-bytes}
use Rattle.td_cols.proofs.TwosComplement.{signed_of, signed_of-low, low-signed}

-- a lane of `width` bytes has m numbers, half of them below suc h, and 2 ^ 128 is m times q
record HasNumbers (width h m q : ℕ) : Type 0 where
  in_bytes : 256 ^ width ≡ m
  in_bits : 2 ^ (8 * width) ≡ m
  half : 2 ^ (8 * width - 1) ≡ suc h
  whole : m ≡ suc h + suc h
  parts : m * q ≡ 2 ^ 128
  some : 0 < q
  few : m ≤ 2 ^ 128
  most : 2 ^ min (8 * width) 127 ≤ m
  most_held : 2 ^ min (8 * width) 127 ≤ 2 ^ 127
  any : 0 < 2 ^ min (8 * width) 127

-- the numbers of a lane and their spellings, in `width` bytes each, belong to each other one to one
pub record LaneHasOneSpelling (width : ℕ) (signed : Bool) : Type 0 where
  pub as_wide : (v : ℤ) → length (spelling_in width v) ≡ width
  pub spelled : (v : ℤ) → IsTrue (fits_lane width signed v) → number_in signed (spelling_in width v) ≡ v
  pub respelled : (bytes : List ℕ) → AreBytes bytes → length bytes ≡ width → spelling_in width (number_in signed bytes) ≡ bytes

length-spelling_in : (width : ℕ) (v : ℤ) → length (spelling_in width v) ≡ width
unfolding spelling_in
length-spelling_in width v = length-bytes_low_first 0 width (low_bytes w128 width v)

-- the low bytes of a number are read back as the number that they make
low_bytes-read : {width h m q : ℕ} → HasNumbers width h m q → (v : ℤ) → little_number (length (spelling_in width v)) (spelling_in width v) ≡ cast_unsigned w128 v % m
unfolding spelling_in
low_bytes-read {width} {h} {m} {q} n v =
    let below : cast_unsigned w128 v % m < m = mod-lt (cast_unsigned w128 v) (omega arith) in
    let same : low_bytes w128 width v ≡ cast_unsigned w128 v % m = ap (λ (x : ℕ). cast_unsigned w128 v % x) n.in_bits in
    ap (λ (k : ℕ). little_number k (little_bytes width (low_bytes w128 width v))) (length-bytes_low_first 0 width (low_bytes w128 width v))
    ∙ ap (λ (x : ℕ). little_number width (little_bytes width x)) same
    ∙ little_number-bytes width (cast_unsigned w128 v % m) (rw n.in_bytes below)

-- bytes are spelled again from a number whose low part they are
respelled_from : {width h m q : ℕ} → HasNumbers width h m q → (v : ℤ) (bytes : List ℕ) → AreBytes bytes → length bytes ≡ width → cast_unsigned w128 v % m ≡ little_number width bytes → spelling_in width v ≡ bytes
unfolding spelling_in
respelled_from {width} {h} {m} {q} n v bytes are wide same =
    ap (λ (x : ℕ). little_bytes width (cast_unsigned w128 v % x)) n.in_bits
    ∙ ap (little_bytes width) same
    ∙ subst (λ (k : ℕ). little_bytes k (little_number k bytes) ≡ bytes) wide (little_bytes-number bytes are)

number-below : {width h m q : ℕ} → HasNumbers width h m q → (bytes : List ℕ) → AreBytes bytes → length bytes ≡ width → little_number width bytes < m
number-below {width} {h} {m} {q} n bytes are wide =
    subst (λ (x : ℕ). little_number width bytes < x) n.in_bytes
    (subst (λ (k : ℕ). little_number k bytes < 256 ^ k) wide (little_from-lt 0 (length bytes) bytes are))

-- two's complement in `width` bytes
twos_complement-is : {width h m q : ℕ} → HasNumbers width h m q → (x : ℕ) → twos_complement width x ≡ signed_of (suc h) m x
twos_complement-is {width} {h} {m} {q} n x =
    ap (λ (a : ℕ). signed_of a (2 ^ (8 * width)) x) n.half ∙ ap (λ (b : ℕ). signed_of (suc h) b x) n.in_bits

signed_fits : (h half : ℕ) (v : ℤ) → half ≡ suc h → (int_le (neg_ℤ (pos half)) v && int_le v (pos (half - 1))) ≡ true → (int_le (negsuc h) v ≡ true) × (int_le v (pos h) ≡ true)
signed_fits h half v e fits =
    let ends = and_parts (int_le (neg_ℤ (pos half)) v) (int_le v (pos (half - 1))) fits in
    let top : half - 1 ≡ h = omega arith in
    (subst (λ (x : ℕ). int_le (neg_ℤ (pos x)) v ≡ true) e ends.0, subst (λ (x : ℕ). int_le v (pos x) ≡ true) top ends.1)

signed_lane : {width h m q : ℕ} → HasNumbers width h m q → LaneHasOneSpelling width true
unfolding number_in fits_lane lane_least lane_most
signed_lane {width} {h} {m} {q} n = record {
  as_wide = length-spelling_in width;
  spelled = λ v fits.
      let ends = signed_fits h (2 ^ (8 * width - 1)) v n.half fits in
      ap (λ (k : ℕ). twos_complement k (little_number (length (spelling_in width v)) (spelling_in width v))) (length-spelling_in width v)
      ∙ ap (twos_complement width) (low_bytes-read n v)
      ∙ twos_complement-is n (cast_unsigned w128 v % m)
      ∙ signed_of-low h m q v n.whole n.parts n.some ends.0 ends.1;
  respelled = λ bytes are wide.
      respelled_from n (number_in true bytes) bytes are wide
      (ap (λ (k : ℕ). cast_unsigned w128 (twos_complement k (little_number k bytes)) % m) wide
      ∙ ap (λ (z : ℤ). cast_unsigned w128 z % m) (twos_complement-is n (little_number width bytes))
      ∙ low-signed h m q (little_number width bytes) n.whole n.parts n.some (number-below n bytes are wide));
}

-- a number from 0 below t
unsigned_fits : (t : ℕ) (v : ℤ) → 0 < t → (int_le (pos 0) v && int_le v (pos (t - 1))) ≡ true → (n : ℕ) × ((v ≡ pos n) × (n < t))
unsigned_fits t (pos n) any fits = (n, (refl, grind (arith, nat_tests)))
unsigned_fits t (negsuc n) any fits = absurd (cc)

unsigned_lane : {width h m q : ℕ} → HasNumbers width h m q → LaneHasOneSpelling width false
unfolding number_in fits_lane lane_least lane_most
unsigned_lane {width} {h} {m} {q} n = record {
  as_wide = length-spelling_in width;
  spelled = λ v fits.
      let held = unsigned_fits (2 ^ min (8 * width) 127) v n.any fits in
      let small : held.0 < 2 ^ min (8 * width) 127 = held.1.1 in
      let same : cast_unsigned w128 v % m ≡ held.0 =
      ap (λ (z : ℤ). cast_unsigned w128 z % m) held.1.0 ∙ mod-eq_of_lt (omega arith) in
      ap (cast_signed w128) (low_bytes-read n v ∙ same) ∙ to_z_pos w128 held.0 (omega arith) ∙ sym held.1.0;
  respelled = λ bytes are wide.
      let small : little_number width bytes < m = number-below n bytes are wide in
      respelled_from n (number_in false bytes) bytes are wide
      (ap (λ (k : ℕ). cast_unsigned w128 (cast_signed w128 (little_number k bytes)) % m) wide
      ∙ ap (λ (x : ℕ). x % m) (of_z-to_z w128 (little_number width bytes) (omega arith))
      ∙ mod-eq_of_lt small);
}

numbers_of_1 : HasNumbers 1 (2 ^ 7 - 1) (2 ^ 8) (2 ^ 120)
numbers_of_1 = record { in_bytes = refl; in_bits = refl; half = refl; whole = refl; parts = refl; some = lit< tt; few = lit≤ tt; most = lit≤ tt; most_held = lit≤ tt; any = lit< tt }

numbers_of_2 : HasNumbers 2 (2 ^ 15 - 1) (2 ^ 16) (2 ^ 112)
numbers_of_2 = record { in_bytes = refl; in_bits = refl; half = refl; whole = refl; parts = refl; some = lit< tt; few = lit≤ tt; most = lit≤ tt; most_held = lit≤ tt; any = lit< tt }

numbers_of_4 : HasNumbers 4 (2 ^ 31 - 1) (2 ^ 32) (2 ^ 96)
numbers_of_4 = record { in_bytes = refl; in_bits = refl; half = refl; whole = refl; parts = refl; some = lit< tt; few = lit≤ tt; most = lit≤ tt; most_held = lit≤ tt; any = lit< tt }

numbers_of_8 : HasNumbers 8 (2 ^ 63 - 1) (2 ^ 64) (2 ^ 64)
numbers_of_8 = record { in_bytes = refl; in_bits = refl; half = refl; whole = refl; parts = refl; some = lit< tt; few = lit≤ tt; most = lit≤ tt; most_held = lit≤ tt; any = lit< tt }

numbers_of_16 : HasNumbers 16 (2 ^ 127 - 1) (2 ^ 128) (2 ^ 0)
numbers_of_16 = record { in_bytes = refl; in_bits = refl; half = refl; whole = refl; parts = refl; some = lit< tt; few = lit≤ tt; most = lit≤ tt; most_held = lit≤ tt; any = lit< tt }

lane_widths : (width : ℕ) → IsTrue (is_lane_width width) → (width ≡ 1) ⊎ ((width ≡ 2) ⊎ ((width ≡ 4) ⊎ ((width ≡ 8) ⊎ (width ≡ 16))))
lane_widths width is = grind (arith, nat_tests)

abbrev Numbers : ℕ → Type 0
Numbers width = (h : ℕ) × ((m : ℕ) × ((q : ℕ) × HasNumbers width h m q))

of_widths : (width : ℕ) → (width ≡ 1) ⊎ ((width ≡ 2) ⊎ ((width ≡ 4) ⊎ ((width ≡ 8) ⊎ (width ≡ 16)))) → Numbers width
of_widths width (inl e) = subst Numbers (sym e) (2 ^ 7 - 1, (2 ^ 8, (2 ^ 120, numbers_of_1)))
of_widths width (inr (inl e)) = subst Numbers (sym e) (2 ^ 15 - 1, (2 ^ 16, (2 ^ 112, numbers_of_2)))
of_widths width (inr (inr (inl e))) = subst Numbers (sym e) (2 ^ 31 - 1, (2 ^ 32, (2 ^ 96, numbers_of_4)))
of_widths width (inr (inr (inr (inl e)))) = subst Numbers (sym e) (2 ^ 63 - 1, (2 ^ 64, (2 ^ 64, numbers_of_8)))
of_widths width (inr (inr (inr (inr e)))) = subst Numbers (sym e) (2 ^ 127 - 1, (2 ^ 128, (1, numbers_of_16)))

-- a lane has 1, 2, 4, 8 or 16 bytes
lane_numbers : (width : ℕ) → IsTrue (is_lane_width width) → Numbers width
lane_numbers width is = of_widths width (lane_widths width is)

pub lane_spelling : (width : ℕ) (signed : Bool) → IsTrue (is_lane_width width) → LaneHasOneSpelling width signed
lane_spelling width true is = let n = lane_numbers width is in signed_lane n.1.1.1
lane_spelling width false is = let n = lane_numbers width is in unsigned_lane n.1.1.1

-- a kind has the spellings of its lane
of_lane : (kind : Kind) → LaneHasOneSpelling (kind_width kind) (kind_is_signed kind) → ((v : ℤ) → IsTrue (is_in_range kind v) → IsTrue (fits_lane (kind_width kind) (kind_is_signed kind) v)) → HasOneSpelling kind
of_lane kind lane within = record {
  as_wide = lane.as_wide;
  spelled = λ v in_range. lane.spelled v (within v in_range);
  respelled = lane.respelled;
}

-- a smaller range
narrower : (a b : ℕ) (v : ℤ) → a ≤ b → (int_le (pos 0) v && int_le v (pos a)) ≡ true → (int_le (pos 0) v && int_le v (pos b)) ≡ true
narrower a b (pos n) le fits = grind (arith, nat_tests)
narrower a b (negsuc n) le fits = fits

-- a text has no numbers, and one spelling of no bytes
text_fits : (v : ℤ) → (int_le (pos 1) v && int_le v (pos 0)) ≡ true → v ≡ pos 0
text_fits (pos n) fits = absurd (grind (arith, nat_tests))
text_fits (negsuc n) fits = absurd (cc)

no_bytes : (bytes : List ℕ) → length bytes ≡ 0 → [] ≡ bytes
no_bytes [] empty = refl
no_bytes (x ∷ xs) empty = absurd (grind arith)

text_spelling : (n : ℕ) → HasOneSpelling (Text n)
unfolding kind_width kind_is_signed kind_least kind_most is_in_range spelling_in number_in
text_spelling n = record {
  as_wide = λ v. refl;
  spelled = λ v in_range. sym (text_fits v in_range);
  respelled = λ bytes are wide. no_bytes bytes wide;
}

pub kind_spelling : (kind : Kind) → HasOneSpelling kind
unfolding kind_width kind_is_signed kind_least kind_most is_in_range fits_lane lane_least lane_most
kind_spelling Truth = of_lane Truth (lane_spelling 1 false refl) (λ v r. narrower 1 255 v (omega arith) r)
kind_spelling I8 = of_lane I8 (lane_spelling 1 true refl) (λ v r. r)
kind_spelling I16 = of_lane I16 (lane_spelling 2 true refl) (λ v r. r)
kind_spelling I32 = of_lane I32 (lane_spelling 4 true refl) (λ v r. r)
kind_spelling I64 = of_lane I64 (lane_spelling 8 true refl) (λ v r. r)
kind_spelling U8 = of_lane U8 (lane_spelling 1 false refl) (λ v r. r)
kind_spelling U16 = of_lane U16 (lane_spelling 2 false refl) (λ v r. r)
kind_spelling U32 = of_lane U32 (lane_spelling 4 false refl) (λ v r. r)
kind_spelling U64 = of_lane U64 (lane_spelling 8 false refl) (λ v r. r)
kind_spelling Time = of_lane Time (lane_spelling 8 false refl) (λ v r. narrower LAST_TIMESTAMP (2 ^ 64 - 1) v (omega arith) r)
kind_spelling Wide = of_lane Wide (lane_spelling 16 true refl) (λ v r. r)
kind_spelling (Text n) = text_spelling n
