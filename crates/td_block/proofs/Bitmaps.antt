-- Bitmaps and the bits that they hold.
use Rattle.std.proofs.Common.{◌≡◌, ℕ, zero, suc, ◌+◌, ◌-◌, ◌*◌, ◌/◌, ◌%◌, ◌^◌, ◌<◌, ◌≤◌, min, Bool, true, false, cond, eqb, List, [], ◌∷◌, length, get_or, take, drop, inl, inr, refl, sym, ap, subst, ◌∙◌, arith}
use Rattle.std.specs.Prelude.{bit_and}
use Rattle.std.specs.Int.{bit_at}
use Rattle.std.proofs.lemmas.Bool.{cases_lt}
use Rattle.std.proofs.lemmas.List.{length-take, length-drop, get_or-take, get_or-drop, get_or_past}
use Rattle.std.proofs.lemmas.List.FromFn.{length-map-range_with_len, get_or-map-range_with_len, fill_by_all}
use Rattle.std.proofs.lemmas.Nat.Bits.{bit_at_lowest, bit_at-suc, bit_at-zero, bit_at-lt, bit_at_above, bit_at_and, same_from_bits, same_from_bits_below}
use Rattle.td_cols.specs.Spelling.{AreBytes}
use Rattle.td_block.specs.Bits.{bitmap_length, is_set, packed, bitmap}

-- a bit as a number
abbrev pub low : Bool → ℕ
low b = cond b 1 0

low-is : (b : Bool) → eqb (low b) 1 ≡ b
low-is true = refl
low-is false = refl

low-of : (n : ℕ) → n < 2 → low (eqb n 1) ≡ n
low-of zero small = refl
low-of (suc zero) small = refl
low-of (suc (suc n)) small = absurd (omega (arith, small))

-- the bits of packed bits
pub packed-bit : (bits : List Bool) (i : ℕ) → bit_at (packed bits) i ≡ low (get_or bits i false)
packed-bit [] i = bit_at-zero i
packed-bit (true ∷ bits) zero = bit_at_lowest (1 + 2 * packed bits) ∙ (omega arith)
packed-bit (false ∷ bits) zero = bit_at_lowest (0 + 2 * packed bits) ∙ (omega arith)
packed-bit (true ∷ bits) (suc i) =
    let half : (1 + 2 * packed bits) / 2 ≡ packed bits = omega arith in
    bit_at-suc (1 + 2 * packed bits) i ∙ ap (λ (n : ℕ). bit_at n i) half ∙ packed-bit bits i
packed-bit (false ∷ bits) (suc i) =
    let half : (0 + 2 * packed bits) / 2 ≡ packed bits = omega arith in
    bit_at-suc (0 + 2 * packed bits) i ∙ ap (λ (n : ℕ). bit_at n i) half ∙ packed-bit bits i

twice_and : (b n p : ℕ) → b < 2 → p < 2 ^ n → b + 2 * p < 2 ^ suc n
twice_and b n p small below = omega (arith, small, below)

pub packed-below : (bits : List Bool) → packed bits < 2 ^ length bits
packed-below [] = omega arith
packed-below (true ∷ bits) = twice_and 1 (length bits) (packed bits) (omega arith) (packed-below bits)
packed-below (false ∷ bits) = twice_and 0 (length bits) (packed bits) (omega arith) (packed-below bits)

-- more bits have more room
power-le : (m n : ℕ) → m ≤ n → 2 ^ m ≤ 2 ^ n
power-le zero zero le = omega arith
power-le zero (suc n) le = let rest = power-le zero n (omega arith) in omega arith
power-le (suc m) zero le = absurd (omega (arith, le))
power-le (suc m) (suc n) le = let rest = power-le m n (omega (arith, le)) in omega arith

-- eight bits from a place on, or as many as there are
abbrev eight : List Bool → ℕ → List Bool
eight bits k = take 8 (drop (8 * k) bits)

pub length-eight : (bits : List Bool) (k : ℕ) → length (eight bits k) ≡ min 8 (length bits - 8 * k)
length-eight bits k = length-take 8 (drop (8 * k) bits) ∙ ap (λ (n : ℕ). min 8 n) (length-drop (8 * k) bits)

eight-at : (bits : List Bool) (k i : ℕ) → i < 8 → get_or (eight bits k) i false ≡ get_or bits (8 * k + i) false
eight-at bits k i lt = get_or-take 8 (drop (8 * k) bits) i false lt ∙ get_or-drop (8 * k) bits i false

-- the bytes of a bitmap
pub length-bitmap : (bits : List Bool) → length (bitmap bits) ≡ bitmap_length (length bits)
length-bitmap bits = length-map-range_with_len (λ (k : ℕ). packed (eight bits k)) 0 (bitmap_length (length bits))

pub bitmap-byte : (bits : List Bool) (k : ℕ) → k < bitmap_length (length bits) → get_or (bitmap bits) k 0 ≡ packed (eight bits k)
bitmap-byte bits k lt = get_or-map-range_with_len (λ (k : ℕ). packed (eight bits k)) 0 (bitmap_length (length bits)) k k 0 lt (omega arith)

pub bitmap-small : (bits : List Bool) (k : ℕ) → k < bitmap_length (length bits) → get_or (bitmap bits) k 0 < 2 ^ min 8 (length bits - 8 * k)
bitmap-small bits k lt =
    subst (λ (n : ℕ). n < 2 ^ min 8 (length bits - 8 * k)) (sym (bitmap-byte bits k lt))
    (subst (λ (n : ℕ). packed (eight bits k) < 2 ^ n) (length-eight bits k) (packed-below (eight bits k)))

pub byte-below : (m n : ℕ) → n < 2 ^ min 8 m → n < 256
byte-below m n lt = let le = power-le (min 8 m) 8 (omega arith) in omega (arith, lt)

pub bitmap-byte-bit : (bits : List Bool) (k i : ℕ) → k < bitmap_length (length bits) → i < 8 → bit_at (get_or (bitmap bits) k 0) i ≡ low (get_or bits (8 * k + i) false)
bitmap-byte-bit bits k i lt small =
    ap (λ (n : ℕ). bit_at n i) (bitmap-byte bits k lt) ∙ packed-bit (eight bits k) i ∙ ap low (eight-at bits k i small)

-- a bit of a bitmap is the bit that it holds
pub bitmap-is_set : (bits : List Bool) (r : ℕ) → r < length bits → is_set (bitmap bits) r ≡ get_or bits r false
bitmap-is_set bits r lt =
    let k : ℕ = r / 8 in
    let i : ℕ = r % 8 in
    let there : k < bitmap_length (length bits) = omega (arith, lt) in
    let small : i < 8 = omega arith in
    let whole : 8 * k + i ≡ r = omega arith in
    ap (λ (n : ℕ). eqb n 1) (bitmap-byte-bit bits k i there small) ∙ low-is (get_or bits (8 * k + i) false) ∙ ap (λ (n : ℕ). get_or bits n false) whole

-- Bytes whose spare bits are 0 are the bitmap of their bits.
pub is_bitmap : (bytes : List ℕ) (bits : List Bool) (n : ℕ) → length bits ≡ n → length bytes ≡ bitmap_length n → AreBytes bytes
    → ((k i : ℕ) → i < 8 → n ≤ 8 * k + i → bit_at (get_or bytes k 0) i ≡ 0) → ((r : ℕ) → r < n → get_or bits r false ≡ is_set bytes r) → bytes ≡ bitmap bits
is_bitmap bytes bits n wide long are spare same =
    let len : length bytes ≡ bitmap_length (length bits) = long ∙ ap bitmap_length (sym wide) in
    fill_by_all (λ (k : ℕ). packed (eight bits k)) bytes (bitmap_length (length bits)) 0 len (λ k lt.
    let eights = length-eight bits k in
    let below : packed (eight bits k) < 2 ^ 8 = byte-below (length bits - 8 * k) (packed (eight bits k)) (subst (λ (m : ℕ). packed (eight bits k) < 2 ^ m) eights (packed-below (eight bits k))) in
    same_from_bits_below 8 (get_or bytes k 0) (packed (eight bits k)) (are k) below (λ i small.
    let right : bit_at (packed (eight bits k)) i ≡ low (get_or bits (8 * k + i) false) = packed-bit (eight bits k) i ∙ ap low (eight-at bits k i small) in
    elim (cases_lt (8 * k + i) n) [
      | inl in_rows ↦
          let byte : (8 * k + i) / 8 ≡ k = omega (arith, small) in
          let bit : (8 * k + i) % 8 ≡ i = omega (arith, small) in
          let set : is_set bytes (8 * k + i) ≡ eqb (bit_at (get_or bytes k 0) i) 1 = ap (λ (j : ℕ). eqb (bit_at (get_or bytes j 0) ((8 * k + i) % 8)) 1) byte ∙ ap (λ (j : ℕ). eqb (bit_at (get_or bytes k 0) j) 1) bit in
          sym (low-of (bit_at (get_or bytes k 0) i) (bit_at-lt (get_or bytes k 0) i)) ∙ ap low (sym set ∙ sym (same (8 * k + i) in_rows)) ∙ sym right
      | inr beyond ↦ spare k i small beyond ∙ sym (ap low (get_or_past bits (8 * k + i) false (omega (arith, wide, beyond)))) ∙ sym right
    ]))

-- a byte with only so many bits has no others
pub spare_bits : (n k i byte : ℕ) → byte < 2 ^ min 8 (n - 8 * k) → n ≤ 8 * k + i → i < 8 → bit_at byte i ≡ 0
spare_bits n k i byte lt beyond small = bit_at_above byte (min 8 (n - 8 * k)) i lt (omega (arith, beyond, small))

-- a byte whose bits are among those of another
pub bits_within : (byte among i : ℕ) → bit_and byte among ≡ byte → bit_at among i ≡ 0 → bit_at byte i ≡ 0
bits_within byte among i within none =
    sym (ap (λ (n : ℕ). bit_at n i) within) ∙ bit_at_and byte among i ∙ ap (λ (n : ℕ). min (bit_at byte i) n) none ∙ (omega arith)

min-low : (a b : Bool) → (a ≡ true → b ≡ true) → min (low a) (low b) ≡ low a
min-low true b within = ap (λ (c : Bool). min 1 (low c)) (within refl)
min-low false true within = refl
min-low false false within = refl

-- where the bits of one list are among those of another, the bytes are too
pub bitmaps_within : (bits among : List Bool) (k : ℕ) → length bits ≡ length among → k < bitmap_length (length bits) → ((r : ℕ) → get_or bits r false ≡ true → get_or among r false ≡ true)
    → bit_and (get_or (bitmap bits) k 0) (get_or (bitmap among) k 0) ≡ get_or (bitmap bits) k 0
bitmaps_within bits among k same lt within =
    let there : k < bitmap_length (length among) = subst (λ (n : ℕ). k < bitmap_length n) same lt in
    let a : ℕ = get_or (bitmap bits) k 0 in
    let b : ℕ = get_or (bitmap among) k 0 in
    let a_small : a < 2 ^ min 8 (length bits - 8 * k) = bitmap-small bits k lt in
    let b_small : b < 2 ^ min 8 (length among - 8 * k) = bitmap-small among k there in
    same_from_bits (bit_and a b) a (λ i.
    bit_at_and a b i
    ∙ elim (cases_lt i 8) as (λ _. min (bit_at a i) (bit_at b i) ≡ bit_at a i) [
      | inl small ↦
          ap (λ (n : ℕ). min n (bit_at b i)) (bitmap-byte-bit bits k i lt small)
          ∙ ap (λ (n : ℕ). min (low (get_or bits (8 * k + i) false)) n) (bitmap-byte-bit among k i there small)
          ∙ min-low (get_or bits (8 * k + i) false) (get_or among (8 * k + i) false) (within (8 * k + i))
          ∙ sym (bitmap-byte-bit bits k i lt small)
      | inr beyond ↦
          let none : bit_at a i ≡ 0 = bit_at_above a (min 8 (length bits - 8 * k)) i a_small (omega (arith, beyond)) in
          let least : min 0 (bit_at b i) ≡ 0 = omega arith in
          ap (λ (n : ℕ). min n (bit_at b i)) none ∙ least ∙ sym none
    ])
