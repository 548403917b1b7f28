-- How the windows after a change are spliced from those before it and from the windows of the rows in each region.
use Rattle.std.specs.Prelude.{◌≡◌, ℕ, ◌≤◌, int_le, Bool, not, if◌then◌else◌, List, [], ◌∷◌, map, filter, All}
use Rattle.std.specs.List.{AllByRecursion, list_any, flat_map}
use Rattle.std.specs.List.Sorted.{IsNonDecreasingBy, IsStrictlyIncreasing}
use Rattle.td_limits.specs.declared.limits.TheConstants.{LAST_TIMESTAMP}
use Rattle.td_layer.specs.declared.values.Value.{Value}
use Rattle.td_model.specs.declared.language.WindowDef.{WindowDef}
use Rattle.td_model.specs.declared.language.WindowDef.TheVariants.{Interval, Session, State}
use Rattle.td_window.specs.Windows.{Window, AreIntervalWindows, session_windows, state_windows}
use Rattle.td_trigger.specs.declared.range.Range.{Range}
use Rattle.td_trigger.specs.Ranges.{holds, covers, IsRange}
use Rattle.td_trigger.specs.Regions.{reach, region}

-- ---- rows

abbrev pub is_touched : List Range → ℕ → Bool
is_touched touched t = list_any (λ r. holds r t) touched

-- the rows outside ranges
abbrev pub untouched : {A : Type 0} → (A → ℕ) → List Range → List A → List A
untouched time touched rows = filter (λ row. not (is_touched touched (time row))) rows

-- the rows of a range
abbrev pub rows_in : {A : Type 0} → (A → ℕ) → Range → List A → List A
rows_in time r rows = filter (λ row. holds r (time row)) rows

-- ---- windows

abbrev pub window_reach : {A : Type 0} → WindowDef → Window A → Range
window_reach def w = reach def w.start w.end

-- the window lies wholly inside the region; of an interval its part from 0 on
abbrev pub is_inside : {A : Type 0} → WindowDef → Window A → Range → Bool
is_inside def w r = covers r (window_reach def w)

-- the windows that aren't wholly inside a region
abbrev pub kept : {A : Type 0} → (Window A → Range → Bool) → List Range → List (Window A) → List (Window A)
kept inside regions windows = filter (λ w. not (list_any (inside w) regions)) windows

-- the windows of the rows in each region that are wholly inside it
abbrev pub made : {A : Type 0} → (Window A → Range → Bool) → List Range → (Range → List (Window A)) → List (Window A)
made inside regions windows_in = flat_map (λ r. filter (λ w. inside w r) (windows_in r)) regions

-- a window put in before the first that doesn't start before it
abbrev pub put_by_start : {A : Type 0} → Window A → List (Window A) → List (Window A)
put_by_start w [] = w ∷ []
put_by_start w (v ∷ vs) = if int_le w.start v.start then w ∷ v ∷ vs else v ∷ put_by_start w vs

abbrev pub put_all_by_start : {A : Type 0} → List (Window A) → List (Window A) → List (Window A)
put_all_by_start [] vs = vs
put_all_by_start (w ∷ ws) vs = put_by_start w (put_all_by_start ws vs)

-- the windows that are kept, put in by their starts among those that are made
abbrev pub spliced : {A : Type 0} → WindowDef → List Range → List (Window A) → (Range → List (Window A))
    → List (Window A)
spliced def regions old windows_in =
    put_all_by_start (kept (is_inside def) regions old) (made (is_inside def) regions windows_in)

-- the regions of a change, by the windows before it
abbrev pub regions_over : {A : Type 0} → WindowDef → List Range → List (Window A) → List Range
regions_over def touched old = region touched (map (window_reach def) old) def

-- ---- the law

-- rows before and after a change: outside the touched ranges they are the same
pub record IsChange {A : Type 0} (time : A → ℕ) (touched : List Range) (before after : List A) : Type 0 where
  pub ranges : AllByRecursion IsRange touched
  pub others_stay : untouched time touched before ≡ untouched time touched after

-- intervals: the splice of the windows before and of the windows of the rows in each region is the windows after
abbrev pub IntervalsSplice : {A : Type 0} → (A → ℕ) → ℕ → ℕ → ℕ → Type 0
IntervalsSplice {A} time len offset slide =
    (touched : List Range) (before after : List A) (old : List (Window A)) (windows_in : Range → List (Window A))
    → IsChange time touched before after → AreIntervalWindows time len offset slide before old
    → AllByRecursion (λ r. AreIntervalWindows time len offset slide (rows_in time r after) (windows_in r))
    (regions_over (Interval len offset slide) touched old)
    → AreIntervalWindows time len offset slide after
    (spliced (Interval len offset slide) (regions_over (Interval len offset slide) touched old) old windows_in)

-- sessions: the same, of rows whose timestamps don't fall
abbrev pub SessionsSplice : {A : Type 0} → (A → ℕ) → List ℕ → ℕ → Type 0
SessionsSplice {A} time column tol =
    (touched : List Range) (before after : List A) → IsChange time touched before after → IsNonDecreasingBy time before
    → IsNonDecreasingBy time after → session_windows time tol after
    ≡ spliced (Session column tol) (regions_over (Session column tol) touched (session_windows time tol before))
    (session_windows time tol before) (λ r. session_windows time tol (rows_in time r after))

-- state windows: the same, of rows whose timestamps rise and lie in the time range
abbrev pub StatesSplice : {A : Type 0} → (A → ℕ) → (A → Value) → List ℕ → Type 0
StatesSplice {A} time state column =
    (touched : List Range) (before after : List A) → IsChange time touched before after
    → IsStrictlyIncreasing (map time before) → IsStrictlyIncreasing (map time after)
    → All (λ row. time row ≤ LAST_TIMESTAMP) before → All (λ row. time row ≤ LAST_TIMESTAMP) after
    → state_windows time state after ≡ spliced (State column)
    (regions_over (State column) touched (state_windows time state before)) (state_windows time state before)
    (λ r. state_windows time state (rows_in time r after))
