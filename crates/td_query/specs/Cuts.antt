-- The rows of a window among those that it spans.
use Rattle.std.specs.Prelude.{ℕ, zero, suc, ◌+◌, ◌^◌, ◌<◌, ◌≤◌, pos, Bool, true, List, map, filter, length, take, drop, slice_get, Option, Some, None}
use Rattle.std.specs.Option.{unwrap_or}
use Rattle.std.specs.List.{AllByRecursion}
use Rattle.td_layer.specs.declared.values.Key.{Key}
use Rattle.td_layer.specs.declared.values.Value.{Value}
use Rattle.td_layer.specs.declared.values.Value.TheVariants as value
use Rattle.td_limits.specs.declared.limits.TheConstants.{LAST_TIMESTAMP}
use Rattle.td_window.specs.Windows.{Window, isnt_null}
use Rattle.td_window.specs.declared.span.Span.{Span}
use Rattle.td_query.specs.declared.columns.Kept.{Kept}
use Rattle.td_query.specs.declared.columns.Kept.TheVariants as kept
use Rattle.td_query.specs.declared.items.Cut.{Cut}
use Rattle.td_query.specs.Read.{IsGood}
use Rattle.td_verdict.specs.Windowed.{Keyed, value_at}

-- what a row of a timestamp and values holds in the column at a place
abbrev pub value_of : Option ℕ → ℕ → List Value → Value
value_of None ts values = value.Null
value_of (Some zero) ts values = value.Num (pos ts)
value_of (Some (suc place)) ts values = unwrap_or (slice_get values place) value.Null

-- whether a row belongs to its window
abbrev pub is_kept : Kept → Keyed → Bool
is_kept kept.All e = true
is_kept (kept.WithState place) e = isnt_null (value_at place e)

abbrev pub kept_rows : Kept → List Keyed → List Keyed
kept_rows k rows = filter (is_kept k) rows

-- what rows hold in the column at a place
abbrev pub values : Option ℕ → List Keyed → List (Key × Value)
values place rows = map (λ (e : Keyed). (e.0, value_at place e)) rows

-- the window of a span
abbrev pub window_of_span : Kept → List Keyed → Span → Window Keyed
window_of_span k rows s =
    record { start = s.start; end = s.end; rows = kept_rows k (take s.rows (drop s.first rows)) }

-- the places of a span lie among so many
abbrev pub IsAmong : ℕ → Span → Type 0
IsAmong n s = s.first + s.rows ≤ n

-- a window that is lent
abbrev pub window_of_cut : Cut → Window Keyed
window_of_cut c = record { start = c.start; end = c.end; rows = kept_rows c.kept c.rows.now }

-- so few rows, with values such as columns hold, that their aggregates can be taken
pub record AreSound (rows : List Keyed) : Type 0 where
  pub few : length rows < 2 ^ 62
  pub good : AllByRecursion (IsGood LAST_TIMESTAMP) rows
