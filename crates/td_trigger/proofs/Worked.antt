-- Worked rows, which the checker computes.
use Rattle.std.proofs.Common.{◌≡◌, ℕ, pos, Some, None, true, false, List, [], ◌∷◌, refl}
use Rattle.td_layer.specs.declared.values.Value.{Value}
use Rattle.td_layer.specs.declared.values.Value.TheVariants.{Num}
use Rattle.td_limits.specs.declared.limits.TheConstants.{LAST_TIMESTAMP}
use Rattle.td_model.specs.declared.language.WindowDef.TheVariants.{Interval, Session, State}
use Rattle.td_window.specs.Windows.{Window, session_windows, state_windows}
use Rattle.td_trigger.specs.declared.range.Range.{Range}
use Rattle.td_trigger.specs.Closing.{is_closed}
use Rattle.td_trigger.specs.Regions.{region}
use Rattle.td_trigger.specs.Splices.{spliced, regions_over, rows_in}

abbrev range : ℕ → ℕ → Range
range lo hi = record { lo = lo; hi = hi }

-- ---- regions
an_interval : region (range 15000 15000 ∷ []) [] (Interval 10000 0 10000) ≡ range 10000 19999 ∷ []
an_interval = refl

a_sliding_interval : region (range 15000 15000 ∷ []) [] (Interval 10000 0 5000) ≡ range 10000 24999 ∷ []
a_sliding_interval = refl

adjoining_intervals : region (range 9000 9000 ∷ range 10000 10000 ∷ []) [] (Interval 10000 0 10000) ≡ range 0 19999 ∷ []
adjoining_intervals = refl

a_bridge_of_sessions : region (range 15000 15000 ∷ []) (range 0 10000 ∷ range 20001 20001 ∷ []) (Session [] 10000) ≡ range 0 20001 ∷ []
a_bridge_of_sessions = refl

a_state_with_neighbours : region (range 5 5 ∷ []) (range 1 3 ∷ range 4 6 ∷ range 9 9 ∷ []) (State []) ≡ range 1 9 ∷ []
a_state_with_neighbours = refl

no_old_state_window : region (range 5 5 ∷ []) [] (State []) ≡ range 0 LAST_TIMESTAMP ∷ []
no_old_state_window = refl

-- ---- closed windows
a_closed_interval : is_closed (Interval 10000 0 10000) (pos 10000) None 12000 2000 ≡ true
a_closed_interval = refl

an_open_interval : is_closed (Interval 10000 0 10000) (pos 10000) None 11999 2000 ≡ false
an_open_interval = refl

a_closed_session : is_closed (Session [] 10000) (pos 10000) None 20001 0 ≡ true
a_closed_session = refl

an_open_session : is_closed (Session [] 10000) (pos 10000) None 20000 0 ≡ false
an_open_session = refl

a_followed_state : is_closed (State []) (pos 3) (Some (pos 4)) 4 0 ≡ true
a_followed_state = refl

a_last_state : is_closed (State []) (pos 4) None 1000 0 ≡ false
a_last_state = refl

-- ---- splices: rows are timestamps, or timestamps with a state
abbrev sessions_after : List Range → List ℕ → List ℕ → List (Window ℕ)
sessions_after touched before after = spliced (Session [] 10) (regions_over (Session [] 10) touched (session_windows (λ t. t) 10 before)) (session_windows (λ t. t) 10 before) (λ r. session_windows (λ t. t) 10 (rows_in (λ t. t) r after))

a_row_joins_two_sessions : sessions_after (range 15 15 ∷ []) (0 ∷ 5 ∷ 20 ∷ 90 ∷ []) (0 ∷ 5 ∷ 15 ∷ 20 ∷ 90 ∷ []) ≡ session_windows (λ t. t) 10 (0 ∷ 5 ∷ 15 ∷ 20 ∷ 90 ∷ [])
a_row_joins_two_sessions = refl

a_cut_parts_a_session : sessions_after (range 8 22 ∷ []) (0 ∷ 9 ∷ 18 ∷ 27 ∷ []) (0 ∷ 27 ∷ []) ≡ session_windows (λ t. t) 10 (0 ∷ 27 ∷ [])
a_cut_parts_a_session = refl

abbrev states_after : List Range → List (ℕ × Value) → List (ℕ × Value) → List (Window (ℕ × Value))
states_after touched before after =
    spliced (State []) (regions_over (State []) touched (state_windows (λ p. p.0) (λ p. p.1) before)) (state_windows (λ p. p.0) (λ p. p.1) before) (λ r. state_windows (λ p. p.0) (λ p. p.1) (rows_in (λ p. p.0) r after))

abbrev at : ℕ → ℕ → ℕ × Value
at t v = (t, Num (pos v))

a_row_parts_a_state : states_after (range 5 5 ∷ []) (at 1 7 ∷ at 4 8 ∷ at 6 8 ∷ at 9 7 ∷ at 20 3 ∷ []) (at 1 7 ∷ at 4 8 ∷ at 5 7 ∷ at 6 8 ∷ at 9 7 ∷ at 20 3 ∷ []) ≡ state_windows (λ p. p.0) (λ p. p.1) (at 1 7 ∷ at 4 8 ∷ at 5 7 ∷ at 6 8 ∷ at 9 7 ∷ at 20 3 ∷ [])
a_row_parts_a_state = refl

a_cut_joins_two_states : states_after (range 4 6 ∷ []) (at 1 7 ∷ at 5 8 ∷ at 9 7 ∷ at 20 3 ∷ []) (at 1 7 ∷ at 9 7 ∷ at 20 3 ∷ []) ≡ state_windows (λ p. p.0) (λ p. p.1) (at 1 7 ∷ at 9 7 ∷ at 20 3 ∷ [])
a_cut_joins_two_states = refl
