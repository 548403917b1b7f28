-- Which ranges of timestamps must be computed anew, where rows in some ranges were touched.
use Rattle.std.specs.Prelude.{◌≡◌, ℕ, ◌+◌, ◌-◌, ◌%◌, ◌<◌, ◌≤◌, ℤ, pos, negsuc, ◌+ℤ◌, ◌<ℤ◌, ◌≤ℤ◌, nat_lt, nat_le, ◌&&◌, List, [], ◌∷◌, ◌++◌, map, filter, take, drop, length}
use Rattle.std.specs.List.{AllByRecursion}
use Rattle.std.specs.List.Sorted.{IsNonDecreasingBy}
use Rattle.td_limits.specs.declared.limits.TheConstants.{LAST_TIMESTAMP, LONGEST_DURATION}
use Rattle.td_model.specs.declared.language.WindowDef.{WindowDef}
use Rattle.td_model.specs.declared.language.WindowDef.TheVariants.{Whole, Interval, Session, State}
use Rattle.td_window.specs.Windows.{IsStart}
use Rattle.td_window.specs.declared.span.Span.{Span}
use Rattle.td_trigger.specs.declared.range.Range.{Range}
use Rattle.td_trigger.specs.Ranges.{taking_in, in_order, joined, IsRange}

-- a window that a stream may have: an interval, a session or a state window whose durations are within their limits
abbrev pub IsGrouped : WindowDef → Type 0
IsGrouped Whole = ⊥
IsGrouped (Interval len offset slide) = (0 < slide) × (slide ≤ len) × (offset < len) × (len ≤ LONGEST_DURATION)
IsGrouped (Session column tol) = tol ≤ LONGEST_DURATION
IsGrouped (State column) = Unit {0}

-- ---- what a window reaches

abbrev pub from_0 : ℤ → ℕ
from_0 (pos n) = n
from_0 (negsuc n) = 0

-- the timestamps from 0 on that a window reaches; the end of an interval is the first that it doesn't reach
abbrev pub reach : WindowDef → ℤ → ℤ → Range
reach (Interval len offset slide) start end = record { lo = from_0 start; hi = from_0 end - 1 }
reach _ start end = record { lo = from_0 start; hi = from_0 end }

-- the same of the window of a span, and that of one which ends at its last row
abbrev pub extent : Span → Range
extent w = record { lo = from_0 w.start; hi = from_0 w.end }

abbrev pub reach_of : WindowDef → Span → Range
reach_of def w = reach def w.start w.end

-- windows in their order: none ends before it starts, and neither their starts nor their ends fall
pub record AreInOrder (old : List Range) : Type 0 where
  pub each : AllByRecursion IsRange old
  pub starts : IsNonDecreasingBy (λ (r : Range). r.lo) old
  pub ends : IsNonDecreasingBy (λ (r : Range). r.hi) old

-- ---- how a touched range is widened

-- how far t lies above the last number at or below it that differs from p by a multiple of s
abbrev pub above_last : ℕ → ℕ → ℕ → ℕ
above_last p s t = (t + s - p % s) % s

-- an interval: from the least start k with k + len > lo, or 0 where that is negative, to k + len - 1 of the greatest
-- start k at most hi; starts are offset + j * slide for whole j, so windows end at offset + len + j * slide
abbrev pub widened_interval : ℕ → ℕ → ℕ → Range → Range
widened_interval len offset slide r = record {
  lo = r.lo + slide - above_last (offset + len) slide r.lo - len;
  hi = r.hi + (len - 1) - above_last offset slide r.hi;
}

-- in the words of windows: the range begins where the first of the windows that end above its lower end starts, or at 0
-- ..
abbrev pub BeginsAtFirstWindow : ℕ → ℕ → ℕ → Range → Type 0
BeginsAtFirstWindow len offset slide r =
    (k : ℤ) × IsStart offset slide k × (pos r.lo <ℤ (k +ℤ pos len))
    × ((j : ℤ) → IsStart offset slide j → pos r.lo <ℤ (j +ℤ pos len) → k ≤ℤ j)
    × ((widened_interval len offset slide r).lo ≡ from_0 k)

-- .. and ends where the last of the windows that start at its upper end or below ends
abbrev pub EndsWithLastWindow : ℕ → ℕ → ℕ → Range → Type 0
EndsWithLastWindow len offset slide r =
    (k : ℤ) × IsStart offset slide k × (k ≤ℤ pos r.hi) × ((j : ℤ) → IsStart offset slide j → j ≤ℤ pos r.hi → j ≤ℤ k)
    × (pos ((widened_interval len offset slide r).hi + 1) ≡ k +ℤ pos len)

-- sessions: with each old window that lies at most the tolerance away from it
abbrev pub widened_session : ℕ → List Range → Range → Range
widened_session tol old r = taking_in r (filter (λ w. nat_le r.lo (w.hi + tol) && nat_le w.lo (r.hi + tol)) old)

abbrev pub first_of : List Range → List Range
first_of ws = take 1 ws

abbrev pub last_of : List Range → List Range
last_of ws = drop (length ws - 1) ws

-- the old state windows that a touched range takes in: the last that ends before it, those that meet it, and the first
-- that starts after it
abbrev pub state_neighbours : List Range → Range → List Range
state_neighbours old r =
    last_of (filter (λ w. nat_lt w.hi r.lo) old) ++ filter (λ w. nat_le r.lo w.hi && nat_le w.lo r.hi) old
    ++ first_of (filter (λ w. nat_lt r.hi w.lo) old)

abbrev pub all_time : Range
all_time = record { lo = 0; hi = LAST_TIMESTAMP }

abbrev pub widened_state : List Range → Range → Range
widened_state [] r = all_time
widened_state (w ∷ old) r = taking_in r (state_neighbours (w ∷ old) r)

abbrev pub widened : WindowDef → List Range → Range → Range
widened Whole old r = r
widened (Interval len offset slide) old r = widened_interval len offset slide r
widened (Session column tol) old r = widened_session tol old r
widened (State column) old r = widened_state old r

-- how far above the end of a range another may begin to be joined with it: ranges of intervals join where they overlap
-- or adjoin, those of sessions up to the tolerance, and those of state windows where they overlap
abbrev pub join_gap : WindowDef → ℕ
join_gap (Interval len offset slide) = 1
join_gap (Session column tol) = tol
join_gap _ = 0

-- the regions: each touched range widened, all in order, and joined
abbrev pub region : List Range → List Range → WindowDef → List Range
region touched old def = joined (join_gap def) (in_order (map (widened def old) touched))
