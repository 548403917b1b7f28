-- Windows of one length that end at a phase and each slide later, and which of them take a timestamp.
use Rattle.std.specs.Prelude.{◌≡◌, ℕ, ◌+◌, ◌*◌, ◌%◌, Bool, ◌&&◌, nat_lt, nat_le, Option, Some, None}
use Rattle.td_limits.specs.declared.limits.TheConstants.{LAST_TIMESTAMP}
use Rattle.td_model.specs.declared.language.WindowDef.{WindowDef}
use Rattle.td_model.specs.declared.language.WindowDef.TheVariants as window

-- the length, the phase and the slide of the windows of a query: all timestamps lie in one window of no window clause,
-- and sessions and state windows have none
abbrev pub frame_of : WindowDef → Option (ℕ × ℕ × ℕ)
frame_of window.Whole = Some (LAST_TIMESTAMP + 1, 0, LAST_TIMESTAMP + 1)
frame_of (window.Interval len offset slide) = Some (len, (offset + len) % slide, slide)
frame_of (window.Session column tol) = None
frame_of (window.State column) = None

-- a window ends there
abbrev pub IsEnd : ℕ → ℕ → ℕ → Type 0
IsEnd phase slide end = (q : ℕ) × (end ≡ phase + q * slide)

-- whether a timestamp lies in a window of a length that ends there
abbrev pub is_before_end : ℕ → ℕ → ℕ → Bool
is_before_end len end t = nat_lt t end && nat_le end (t + len)

-- whether a timestamp lies in just the windows that end from one end to another
abbrev pub is_in_pane : ℕ → ℕ → ℕ → ℕ → ℕ → Bool
is_in_pane len slide first last t =
    nat_lt t first && (nat_le first (t + slide) && (nat_le last (t + len) && nat_lt (t + len) (last + slide)))
