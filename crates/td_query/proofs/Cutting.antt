-- What windows are cut from.
use Rattle.std.proofs.Common.{◌≡◌, ◌≤◌, zero, suc, pos, List, [], ◌∷◌, map, take, drop, length, All, refl, sym, ap, ◌∙◌, arith}
use Rattle.std.specs.List.{AllByRecursion}
use Rattle.std.proofs.lemmas.List.{take_all}
use Rattle.td_limits.specs.declared.limits.TheConstants.{LAST_TIMESTAMP}
use Rattle.td_window.specs.Spans.{time_of, window_over}
use Rattle.td_window.specs.Windows.{Window}
use Rattle.td_window.specs.declared.span.Span.{Span}
use Rattle.td_query.specs.declared.columns.Kept.{Kept}
use Rattle.td_query.specs.declared.columns.Kept.TheVariants as kept
use Rattle.td_query.specs.Cuts.{kept_rows, window_of_span}
use Rattle.td_query.specs.Read.{IsGood}
use Rattle.td_verdict.specs.Windowed.{Keyed, whole_window}

-- the timestamps are in range
pub in_range : (rows : List Keyed) → AllByRecursion (IsGood LAST_TIMESTAMP) rows → All (λ t. t ≤ LAST_TIMESTAMP) (map time_of rows)
in_range [] good k d h = absurd (omega arith)
in_range (e ∷ es) good zero d h = good.0.0
in_range (e ∷ es) good (suc k) d h = in_range es good.1 k d (omega arith)

-- where all rows belong to their windows
pub all_kept : (rows : List Keyed) → kept_rows kept.All rows ≡ rows
all_kept [] = refl
all_kept (e ∷ es) = ap (λ l. e ∷ l) (all_kept es)

pub count_all : (k : Kept) (rows : List Keyed) → k ≡ kept.All → length rows ≡ length (kept_rows k rows)
count_all k rows e = ap length (sym (all_kept rows)) ∙ ap (λ (k : Kept). length (kept_rows k rows)) (sym e)

window_from : Span → List Keyed → Window Keyed
window_from s rows = record { start = s.start; end = s.end; rows = rows }

pub windows_kept : (rows : List Keyed) (spans : List Span) → map (window_of_span kept.All rows) spans ≡ map (window_over rows) spans
unfolding window_from
windows_kept rows [] = refl
windows_kept rows (s ∷ ss) =
    ap (λ (l : List Keyed). window_from s l ∷ map (window_of_span kept.All rows) ss) (all_kept (take s.rows (drop s.first rows)))
    ∙ ap (λ (l : List (Window Keyed)). window_over rows s ∷ l) (windows_kept rows ss)

pub whole_kept : (rows : List Keyed) → map (window_of_span kept.All rows) (record { start = pos 0; end = pos 0; first = 0; rows = length rows } ∷ []) ≡ whole_window rows ∷ []
unfolding window_from
whole_kept rows =
    ap (λ (l : List Keyed). window_from (record { start = pos 0; end = pos 0; first = 0; rows = length rows }) l ∷ []) (all_kept (take (length rows) rows) ∙ take_all (length rows) rows (omega arith))
