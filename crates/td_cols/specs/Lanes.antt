-- Lanes of 1, 2, 4, 8 or 16 bytes, signed or not, and which numbers fit them.
use Rattle.std.specs.Prelude.{ℕ, ◌-◌, ◌*◌, ◌^◌, min, Bool, true, false, ◌&&◌, ◌||◌, ◌==◌, ℤ, pos, neg_ℤ, int_le}

-- a lane may have so many bytes
abbrev pub is_lane_width : ℕ → Bool
is_lane_width width = width == 1 || width == 2 || width == 4 || width == 8 || width == 16

-- the least number of a lane
unfoldable pub lane_least : ℕ → Bool → ℤ
lane_least width true = neg_ℤ (pos (2 ^ (8 * width - 1)))
lane_least width false = pos 0

-- The most number of a lane. The numbers are those of an `i128`, so an unsigned lane of 16 bytes ends there.
unfoldable pub lane_most : ℕ → Bool → ℤ
lane_most width true = pos (2 ^ (8 * width - 1) - 1)
lane_most width false = pos (2 ^ min (8 * width) 127 - 1)

-- v is a number of a lane
unfoldable pub fits_lane : ℕ → Bool → ℤ → Bool
fits_lane width signed v = int_le (lane_least width signed) v && int_le v (lane_most width signed)
