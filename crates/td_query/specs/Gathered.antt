-- The groups that are given.
use Rattle.std.specs.Prelude.{[], map}
use Rattle.std.specs.List.{AllByRecursion}
use Rattle.std.specs.List.Sorted.{IsNonDecreasing}
use Rattle.td_limits.specs.declared.limits.TheConstants.{LAST_TIMESTAMP}
use Rattle.td_query.specs.declared.gathering.Group.{Group}
use Rattle.td_verdict.specs.Groups.{Grouped}
use Rattle.td_query.specs.Read.{time_of, IsGood}

abbrev pub without_windows : Grouped → Group
without_windows g = record { part = g.part; rows = g.rows; windows = [] }

abbrev pub grouped_of : Group → Grouped
grouped_of g = record { part = g.part; rows = g.rows }

-- the timestamps of a group's rows don't fall
abbrev pub IsInOrder : Group → Type 0
IsInOrder g = IsNonDecreasing (map time_of g.rows)

-- windows can be cut from a group's rows: they are in order and in the range of time, with values such as columns hold
pub record IsReady (g : Group) : Type 0 where
  pub in_order : IsInOrder g
  pub rows : AllByRecursion (IsGood LAST_TIMESTAMP) g.rows
