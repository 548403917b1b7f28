-- When a window is closed, and when it is due. All times are in milliseconds.
use Rattle.std.specs.Prelude.{ℕ, ◌+◌, nat_le, ℤ, pos, ◌+ℤ◌, ◌-ℤ◌, int_le, int_lt, Bool, false, Option, Some, None}
use Rattle.td_model.specs.declared.language.WindowDef.{WindowDef}
use Rattle.td_model.specs.declared.language.WindowDef.TheVariants.{Whole, Interval, Session, State}

-- what the watermark leaves of the latest timestamp: rows from there on may still come; it may lie below 0
abbrev pub horizon : ℕ → ℕ → ℤ
horizon latest watermark = pos latest -ℤ pos watermark

-- a state window: the next one of its group exists, and starts at the horizon or before it
abbrev pub is_followed : Option ℤ → ℤ → Bool
is_followed None t = false
is_followed (Some next) t = int_le next t

-- a window with this end, where this is the start of the next one of its group: an interval [k, e) is closed where e is
-- at most the horizon, a session [a, b] where b and the tolerance are less than it; a partition without windows never
-- is
abbrev pub is_closed : WindowDef → ℤ → Option ℤ → ℕ → ℕ → Bool
is_closed Whole end next latest watermark = false
is_closed (Interval len offset slide) end next latest watermark = int_le end (horizon latest watermark)
is_closed (Session column tol) end next latest watermark = int_lt (end +ℤ pos tol) (horizon latest watermark)
is_closed (State column) end next latest watermark = is_followed next (horizon latest watermark)

-- a window whose first row was born then: it is due once the delay has passed
abbrev pub is_due : ℕ → ℕ → ℕ → Bool
is_due earliest moment delay = nat_le (earliest + delay) moment
