-- What the windows of a list of rows are. Of a row its timestamp is known, in milliseconds since 1970, and for state
-- windows its state.
use Rattle.std.specs.Prelude.{◌≡◌, ◌≢◌, ℕ, ◌-◌, ℤ, pos, ◌+ℤ◌, ◌*ℤ◌, ◌<ℤ◌, Bool, true, false, not, ◌&&◌, nat_lt, int_le, int_lt, if◌then◌else◌, List, [], ◌∷◌, map, filter, Contains}
use Rattle.std.specs.Ordering.{int_eq}
use Rattle.std.specs.List.{AllByRecursion}
use Rattle.td_layer.specs.declared.values.Value.{Value}
use Rattle.td_layer.specs.declared.values.Value.TheVariants.{Null, Num}

-- a window: where it starts and ends, and its rows
pub record Window (A : Type 0) : Type 0 where
  pub start : ℤ
  pub end : ℤ
  pub rows : List A

-- ---- interval windows

-- whether a timestamp lies from k on, and before k + len
abbrev pub is_within : ℕ → ℤ → ℕ → Bool
is_within len k t = int_le k (pos t) && int_lt (pos t) (k +ℤ pos len)

-- the window that starts at k
abbrev pub interval_window : {A : Type 0} → (A → ℕ) → ℕ → List A → ℤ → Window A
interval_window time len rows k =
    record { start = k; end = k +ℤ pos len; rows = filter (λ row. is_within len k (time row)) rows }

-- windows start at offset + j * slide, for every whole j, also below 0
abbrev pub IsStart : ℕ → ℕ → ℤ → Type 0
IsStart offset slide k = (j : ℤ) × (k ≡ pos offset +ℤ (j *ℤ pos slide))

-- each window of a list starts before those that follow it
abbrev pub StartsRise : {A : Type 0} → List (Window A) → Type 0
StartsRise [] = Unit {0}
StartsRise (w ∷ ws) = AllByRecursion (λ v. w.start <ℤ v.start) ws × StartsRise ws

-- one of the windows that hold a row
pub record IsIntervalWindow {A : Type 0} (time : A → ℕ) (len offset slide : ℕ) (rows : List A) (w : Window A) :
    Type 0 where
  pub starts : IsStart offset slide w.start
  pub is : w ≡ interval_window time len rows w.start
  pub holds : w.rows ≢ []

-- these are the windows that hold a row, all of them, by their starts
pub record AreIntervalWindows {A : Type 0} (time : A → ℕ) (len offset slide : ℕ) (rows : List A) (ws : List (Window A))
    : Type 0 where
  pub each : AllByRecursion (IsIntervalWindow time len offset slide rows) ws
  pub all : (w : Window A) → IsIntervalWindow time len offset slide rows w → Contains ws w
  pub by_start : StartsRise ws

-- ---- sessions and state windows

-- a row that is followed by groups of rows, cut from the first of them where the two are apart
abbrev pub led_by : {A : Type 0} → (A → A → Bool) → A → List (A × List A) → List (A × List A)
led_by apart x [] = (x, []) ∷ []
led_by apart x ((y, ys) ∷ groups) = if apart x y then (x, []) ∷ (y, ys) ∷ groups else (x, y ∷ ys) ∷ groups

-- a list cut between neighbours that are apart, each group as its first row and the others
abbrev pub cut : {A : Type 0} → (A → A → Bool) → List A → List (A × List A)
cut apart [] = []
cut apart (x ∷ rest) = led_by apart x (cut apart rest)

abbrev pub last_of : {A : Type 0} → A → List A → A
last_of x [] = x
last_of x (y ∷ ys) = last_of y ys

-- the window of a group, from its first timestamp to its last
abbrev pub window_of_group : {A : Type 0} → (A → ℕ) → A × List A → Window A
window_of_group time (x, xs) = record { start = pos (time x); end = pos (time (last_of x xs)); rows = x ∷ xs }

-- the sessions: the list, cut between neighbours whose gap is greater than the tolerance
abbrev pub session_windows : {A : Type 0} → (A → ℕ) → ℕ → List A → List (Window A)
session_windows time tolerance rows = map (window_of_group time) (cut (λ a b. nat_lt tolerance (time b - time a)) rows)

abbrev pub isnt_null : Value → Bool
isnt_null Null = false
isnt_null (Num n) = true

-- whether two states, of which none is NULL, are equal
abbrev pub is_same_state : Value → Value → Bool
is_same_state (Num m) (Num n) = int_eq m n
is_same_state a b = false

-- the state windows: the rows whose state isn't NULL, cut between neighbours of unequal state
abbrev pub state_windows : {A : Type 0} → (A → ℕ) → (A → Value) → List A → List (Window A)
state_windows time state rows =
    map (window_of_group time) (cut (λ a b. not (is_same_state (state a) (state b)))
    (filter (λ row. isnt_null (state row)) rows))
