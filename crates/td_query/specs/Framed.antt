-- The numbers of a frame.
use Rattle.std.specs.Prelude.{ℕ}
use Rattle.td_query.specs.declared.frames.Frame.{Frame}

abbrev pub frame_numbers : Frame → ℕ × ℕ × ℕ
frame_numbers f = (f.len, f.phase, f.slide)
