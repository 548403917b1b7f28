-- Bitmaps: truth values as bytes, eight in each, the first as the lowest bit.
use Rattle.std.specs.Prelude.{ℕ, ◌+◌, ◌*◌, ◌/◌, ◌%◌, ◌==◌, Bool, if◌then◌else◌, List, [], ◌∷◌, map, length, take, drop, slice_index}
use Rattle.std.specs.List.{range_with_len}
use Rattle.std.specs.Int.{bit_at}

-- how many bytes so many bits take
abbrev pub bitmap_length : ℕ → ℕ
bitmap_length bits = (bits + 7) / 8

-- whether bit r is set, which is bit r mod 8 of byte r div 8
abbrev pub is_set : List ℕ → ℕ → Bool
is_set bytes r = bit_at (slice_index bytes (r / 8)) (r % 8) == 1

-- bits as a number, the first as the lowest
abbrev pub packed : List Bool → ℕ
packed [] = 0
packed (bit ∷ bits) = (if bit then 1 else 0) + 2 * packed bits

-- bits as bytes; the spare bits of the last byte are 0
abbrev pub bitmap : List Bool → List ℕ
bitmap bits = map (λ k. packed (take 8 (drop (8 * k) bits))) (range_with_len 0 (bitmap_length (length bits)))
