-- The windows of a group whose rows are summed up.
use Rattle.std.specs.Prelude.{◌≡◌, ◌≤◌, ◌+◌, ℕ, true, List, map, filter, Option}
use Rattle.td_limits.specs.declared.limits.TheConstants.{LAST_TIMESTAMP, LONGEST_DURATION}
use Rattle.td_query.specs.Slots.{has_row, window_from}
use Rattle.td_query.specs.Sums.{Sum, sum_of}
use Rattle.td_query.specs.Summed.{takes}
use Rattle.td_query.specs.declared.frames.Frame.{Frame}
use Rattle.td_verdict.specs.Windowed.{Keyed, Windows}

-- an end has the sum of the rows of its window, and holds a row only where it lies in time
pub record IsHeld (f : Frame) (places : List (Option ℕ)) (rows : List Keyed) (e : ℕ × Sum) : Type 0 where
  pub sum : e.1 ≡ sum_of places (filter (takes f.len e.0) rows)
  pub in_time : has_row e.1 ≡ true → e.0 ≤ LAST_TIMESTAMP + LONGEST_DURATION

-- the windows of rows at ends whose sums are of some row
abbrev pub windows_by_end : Frame → List Keyed → List (ℕ × Sum) → Windows
windows_by_end f rows es =
    map (λ (e : ℕ × Sum). window_from f.len e.0 (filter (takes f.len e.0) rows))
    (filter (λ (e : ℕ × Sum). has_row e.1) es)
