-- Why one more session is cut rightly.
use Rattle.std.proofs.Common.{◌≡◌, ℕ, zero, suc, ◌+◌, ◌-◌, ◌<◌, ◌≤◌, pos, Bool, true, List, ◌∷◌, ◌++◌, map, length, sym, ap, ◌∙◌, arith, ltb}
use Rattle.std.proofs.lemmas.Bool.Decides.{nat_tests}
use Rattle.std.specs.List.{range_with_len}
use Rattle.td_window.specs.Windows.{Window, cut, last_of, window_of_group, session_windows}
use Rattle.td_window.specs.Spans.{time_at, span_between, window_of}
use Rattle.td_window.proofs.Cuts.{IsRun, cut_run, range_at, range_first, Ends-range, last_place}

module _ (ts : List ℕ) (tol : ℕ) where
  abbrev apart : ℕ → ℕ → Bool
  apart a b = ltb tol (time_at ts b - time_at ts a)

  -- the sessions of the places from one on
  abbrev pub sessions_from : ℕ → List (Window ℕ)
  sessions_from first = session_windows (time_at ts) tol (range_with_len first (length ts - first))

  run_of_places : (a m : ℕ) → ((p : ℕ) → a ≤ p → p < a + m → time_at ts (p + 1) - time_at ts p ≤ tol) → IsRun apart a (range_with_len (a + 1) m)
  run_of_places a zero near = tt
  run_of_places a (suc m) near =
      let here = near a (omega arith) (omega arith) in
      (grind (arith, nat_tests), run_of_places (a + 1) m (λ p u v. near p (omega arith) (omega arith)))

  pub one_more_session : (first past : ℕ) → first < past → past ≤ length ts → ((p : ℕ) → first ≤ p → p + 1 < past → time_at ts (p + 1) - time_at ts p ≤ tol) → (past < length ts → tol < time_at ts past - time_at ts (past - 1)) → sessions_from first ≡ window_of (span_between ts first (past - 1)) ∷ sessions_from past
  one_more_session first past a b together ends = ap (map (window_of_group (time_at ts))) (ap (cut apart) divided ∙ first_group) ∙ ap (λ (w : Window ℕ). w ∷ sessions_from past) same
    where
      others : List ℕ
      others = range_with_len (first + 1) (past - first - 1)

      rest : List ℕ
      rest = range_with_len past (length ts - past)

      whole : range_with_len first (past - first) ≡ first ∷ others
      whole = range_first first (past - first) (omega arith)

      divided : range_with_len first (length ts - first) ≡ first ∷ (others ++ rest)
      divided = range_at first past (length ts) (omega arith) b ∙ ap (λ (l : List ℕ). l ++ rest) whole

      last : last_of first others ≡ past - 1
      last = last_place first (past - first - 1) ∙ omega arith

      after : 0 < length ts - past → apart (last_of first others) past ≡ true
      after h = let gap = ends (omega arith) in rw last (grind (arith, nat_tests))

      first_group : cut apart (first ∷ (others ++ rest)) ≡ (first, others) ∷ cut apart rest
      first_group = cut_run apart first others rest (run_of_places first (past - first - 1) (λ p u v. together p u (omega arith))) (Ends-range apart (last_of first others) past (length ts - past) after)

      same : window_of_group (time_at ts) (first, others) ≡ window_of (span_between ts first (past - 1))
      same = let rows : past - first ≡ past - 1 - first + 1 = omega arith in rw last (ap (λ (l : List ℕ). record { start = pos (time_at ts first); end = pos (time_at ts (past - 1)); rows = l }) (sym whole ∙ ap (range_with_len first) rows))
