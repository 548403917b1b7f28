use Rattle.std.proofs.Common.{◌≤◌, ℕ, List, All, map, length, sym, ap, ◌∙◌, subst}
use Rattle.std.proofs.lemmas.List.{length-map}
use Rattle.td_limits.specs.declared.limits.TheConstants.{LAST_TIMESTAMP}
use Rattle.td_window.specs.Spans.{places, time_at, time_of, window_of, window_over, IsInside}
use Rattle.td_window.specs.Windows.{AreIntervalWindows}
use Rattle.td_verdict.specs.Windowed.{interval_windows}
use Rattle.td_query.proofs.Cutting.{in_range}
use Rattle.td_query.proofs.Intervals.{are_interval_windows}
use Rattle.td_query.proofs.spans.intervals_of.Goals as goal

pub interval-requires-clause-in_range : goal.interval-requires-clause-in_range
interval-requires-clause-in_range c =
    subst (λ (ts : List ℕ). All (λ t. t ≤ LAST_TIMESTAMP) ts) (sym (c.as_slice.ensures.value ∙ c.in_ok-times.ensures)) (in_range c.args.rows.now c.requires.good)

pub returns-clause-windows : goal.returns-clause-windows
returns-clause-windows c =
    let rows = c.args.rows.now in
    let spans = c.in_ok-spans.spans in
    let len = c.args.len in
    let offset = c.args.offset in
    let slide = c.args.slide in
    let times = c.as_slice.ensures.value ∙ c.in_ok-times.ensures in
    let long = length-map rows time_of in
    let given = subst (λ (ts : List ℕ). AreIntervalWindows (time_at ts) len offset slide (places (length ts)) (map window_of spans)) times c.in_ok-spans.ensures.windows in
    let inside = subst (λ (n : ℕ). All (IsInside n) spans) (ap length times ∙ long) c.in_ok-spans.ensures.inside in
    let placed = subst (λ (n : ℕ). AreIntervalWindows (time_at (map time_of rows)) len offset slide (places n) (map window_of spans)) long given in
    c.interval_windows_are_determined.ensures len offset slide rows (map (window_over rows) spans) (interval_windows len offset slide rows)
    (c.spans_group_rows.ensures.intervals len offset slide rows spans inside placed)
    (are_interval_windows offset len slide c.requires.slide.0 rows)
