-- Reading a timestamp from left to right: a part's value and what follows it.
use Rattle.std.specs.Prelude.{ℕ, ◌+◌, ◌*◌, ℤ, pos, ◌+ℤ◌, ◌*ℤ◌, Bool, ◌&&◌, ◌==◌, nat_le, nat_lt, if◌then◌else◌, List, [], ◌∷◌, length, take, drop, Option, Some, None}
use Rattle.std.specs.Char.{is_ascii_digit}
use Rattle.std.specs.List.{list_all}
use Rattle.std.specs.Option.{option_map, option_and_then}
use Rattle.jiff_core.specs.Calendar.{days_in_month, days_from_civil}
use Rattle.td_times.specs.Times.{a_day, a_second, value, filled}

infixl 10 ◌>>=◌
abbrev pub ◌>>=◌ : {A B : Type 0} → Option A → (A → Option B) → Option B
o >>= f = option_and_then f o

-- the number of one to four digits
abbrev pub are_digits : List ℕ → Bool
are_digits ds = nat_le 1 (length ds) && (nat_le (length ds) 4 && list_all is_ascii_digit ds)

abbrev pub number_of : List ℕ → Option ℕ
number_of ds = if are_digits ds then Some (value ds) else None

-- that many digits at the front
unfoldable pub digits_at : ℕ → List ℕ → Option (ℕ × List ℕ)
digits_at n text = if nat_le n (length text) then option_map (λ v. (v, drop n text)) (number_of (take n text)) else None

-- what follows this byte, where it stands first
abbrev pub past_byte : ℕ → List ℕ → Option (List ℕ)
past_byte b [] = None
past_byte b (c ∷ cs) = if c == b then Some cs else None

-- the number of a day that the calendar has
abbrev pub is_civil_date : ℕ → ℕ → ℕ → Bool
is_civil_date y m d = (nat_le y 9999 && (nat_le 1 m && nat_le m 12)) &&
    (nat_le 1 d && nat_le d (days_in_month (pos y) m))

unfoldable pub day_number_of : ℕ → ℕ → ℕ → Option ℤ
day_number_of y m d = if is_civil_date y m d then Some (days_from_civil (pos y) m d) else None

-- the day number of a date at the front
unfoldable pub date_of : List ℕ → Option (ℤ × List ℕ)
date_of text = do
  year ← digits_at 4 text
  months ← past_byte 45 year.1
  month ← digits_at 2 months
  days ← past_byte 45 month.1
  day ← digits_at 2 days
  number ← day_number_of year.0 month.0 day.0
  Some (number, day.1)

-- the milliseconds of a whole second of the day
unfoldable pub second_of : ℕ → ℕ → ℕ → Option ℕ
second_of h m s =
    if nat_lt h 24 && (nat_lt m 60 && nat_lt s 60) then Some (((h * 60 + m) * 60 + s) * a_second) else None

unfoldable pub clock_of : List ℕ → Option (ℕ × List ℕ)
clock_of text = do
  hour ← digits_at 2 text
  minutes ← past_byte 58 hour.1
  minute ← digits_at 2 minutes
  seconds ← past_byte 58 minute.1
  second ← digits_at 2 seconds
  number ← second_of hour.0 minute.0 second.0
  Some (number, second.1)

-- the milliseconds of the fraction, to the end of the text
unfoldable pub fraction_of : List ℕ → Option ℕ
fraction_of [] = Some 0
fraction_of (c ∷ ds) = if (c == 46) &&
    (nat_le 1 (length ds) && (nat_le (length ds) 3 && list_all is_ascii_digit ds)) then Some (value (filled ds))
    else None

unfoldable pub timestamp_of : List ℕ → Option ℤ
timestamp_of text = do
  date ← date_of text
  clock_text ← past_byte 32 date.1
  clock ← clock_of clock_text
  fraction ← fraction_of clock.1
  Some (pos a_day *ℤ date.0 +ℤ pos (clock.0 + fraction))
