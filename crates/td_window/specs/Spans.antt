-- What a span says of the places in a slice of timestamps. A place stands for the row there.
use Rattle.std.specs.Prelude.{ℕ, ◌+◌, ◌-◌, pos, ◌-ℤ◌, ◌<◌, ◌≤◌, List, filter, take, drop, slice_index, slice_index_or}
use Rattle.std.specs.List.{range_with_len}
use Rattle.td_layer.specs.declared.values.Key.{Key}
use Rattle.td_layer.specs.declared.values.Row.{Row}
use Rattle.td_layer.specs.declared.values.Value.{Value}
use Rattle.td_layer.specs.declared.values.Value.TheVariants.{Null}
use Rattle.td_window.specs.Windows.{Window, isnt_null}
use Rattle.td_window.specs.declared.span.Span.{Span}

-- the places of a slice of so many rows
abbrev pub places : ℕ → List ℕ
places n = range_with_len 0 n

-- the timestamp and the state at a place
abbrev pub time_at : List ℕ → ℕ → ℕ
time_at ts place = slice_index ts place

abbrev pub state_at : List Value → ℕ → Value
state_at values place = slice_index_or values place Null

-- the timestamp of a row that is known with its key
abbrev pub time_of : Key × Row → ℕ
time_of row = row.0.ts

-- the window of a span, whose rows are those at the span's places
abbrev pub window_of : Span → Window ℕ
window_of s = record { start = s.start; end = s.end; rows = range_with_len s.first s.rows }

-- the window of a span, whose rows are those at the span's places that have a state
abbrev pub window_with_states : List Value → Span → Window ℕ
window_with_states values s =
    record {
      start = s.start;
      end = s.end;
      rows = filter (λ place. isnt_null (state_at values place))
          (range_with_len s.first s.rows);
    }

-- the window of a span over a list of rows, and the same over those of them that have a state
abbrev pub window_over : {A : Type 0} → List A → Span → Window A
window_over rows s = record { start = s.start; end = s.end; rows = take s.rows (drop s.first rows) }

abbrev pub window_over_states : {A : Type 0} → (A → Value) → List A → Span → Window A
window_over_states state rows s =
    record {
      start = s.start;
      end = s.end;
      rows = filter (λ row. isnt_null (state row))
          (take s.rows (drop s.first rows));
    }

-- the span of the places from one to another, whose window goes from the timestamp there to that here
abbrev pub span_between : List ℕ → ℕ → ℕ → Span
span_between ts first last =
    record { start = pos (time_at ts first); end = pos (time_at ts last); first = first; rows = last - first + 1 }

-- the span of the places from one on and before another, whose window has this end and length
abbrev pub span_ending : ℕ → ℕ → ℕ → ℕ → Span
span_ending end len first past =
    record { start = pos end -ℤ pos len; end = pos end; first = first; rows = past - first }

-- the span has a place, and its places lie in a slice of so many rows
abbrev pub IsInside : ℕ → Span → Type 0
IsInside n s = (0 < s.rows) × (s.first + s.rows ≤ n)
