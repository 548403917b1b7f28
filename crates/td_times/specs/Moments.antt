-- A moment as a date and a time of day, its full text, and the milliseconds since 1970.
use Rattle.std.specs.Prelude.{ℕ, ◌+◌, ◌*◌, ◌/◌, ◌%◌, ◌<◌, ℤ, pos, ◌+ℤ◌, ◌*ℤ◌, List, [], ◌∷◌, ◌++◌}
use Rattle.jiff_core.specs.Calendar.{IsCivilDate, days_from_civil}
use Rattle.td_times.specs.Times.{a_day, a_second, Stamp}

-- the digits of a number, with zeros on the left
abbrev pub two_digits : ℕ → List ℕ
two_digits n = (48 + n / 10) ∷ (48 + n % 10) ∷ []

abbrev pub three_digits : ℕ → List ℕ
three_digits n = (48 + n / 100) ∷ two_digits (n % 100)

abbrev pub four_digits : ℕ → List ℕ
four_digits n = two_digits (n / 100) ++ two_digits (n % 100)

-- a date and a time of day
pub record Moment : Type 0 where
  pub year : ℕ
  pub month : ℕ
  pub day : ℕ
  pub hour : ℕ
  pub minute : ℕ
  pub second : ℕ
  pub millisecond : ℕ

pub record Exists (m : Moment) : Type 0 where
  pub date : IsCivilDate (pos m.year) m.month m.day
  pub hour : m.hour < 24
  pub minute : m.minute < 60
  pub second : m.second < 60
  pub millisecond : m.millisecond < a_second

-- its full form, with three digits of a fraction
abbrev pub full : Moment → Stamp
full m = record {
  year = four_digits m.year;
  month = two_digits m.month;
  day = two_digits m.day;
  hour = two_digits m.hour;
  minute = two_digits m.minute;
  second = two_digits m.second;
  fraction = three_digits m.millisecond;
}

-- the milliseconds since 1970
abbrev pub since_1970 : Moment → ℤ
since_1970 m = pos a_day *ℤ days_from_civil (pos m.year) m.month m.day +ℤ pos
    (((m.hour * 60 + m.minute) * 60 + m.second) * a_second + m.millisecond)
