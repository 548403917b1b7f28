-- Day ranges: the timestamps of ten days each, by number.
use Rattle.std.specs.Prelude.{ℕ, ◌+◌, ◌-◌, ◌*◌, ◌&&◌, nat_le, Bool}
use Rattle.td_limits.specs.declared.limits.TheConstants.{DAY_RANGE}

-- the first and the last timestamp of a day range
abbrev pub day_start : ℕ → ℕ
day_start range = range * DAY_RANGE

abbrev pub day_end : ℕ → ℕ
day_end range = range * DAY_RANGE + (DAY_RANGE - 1)

-- whether a timestamp lies in a day range
abbrev pub is_in_day : ℕ → ℕ → Bool
is_in_day range ts = nat_le (day_start range) ts && nat_le ts (day_end range)
