-- The texts of timestamps, `YYYY-MM-DD HH:MM:SS` with one to three digits of a fraction or none, and the milliseconds
-- since 1970 that they say.
use Rattle.std.specs.Prelude.{◌≡◌, ℕ, ◌+◌, ◌-◌, ◌*◌, ◌<◌, ◌≤◌, ℤ, pos, ◌+ℤ◌, ◌*ℤ◌, List, [], ◌∷◌, ◌++◌, length, replicate, Result, Ok, Err}
use Rattle.std.specs.Str.Parse.{AllDigits, digits_value}
use Rattle.jiff_core.specs.Calendar.{IsCivilDate, days_from_civil}
use Rattle.td_times.specs.declared.fault.TimeFault.{TimeFault}
use Rattle.td_times.specs.declared.fault.TimeFault.TheVariants.{BadTime, NoMemory}

-- the milliseconds of a second and of a day
abbrev pub a_second : ℕ
a_second = 1000

abbrev pub a_day : ℕ
a_day = 86400000

-- the digits of the parts; those of the fraction may be missing
pub record Stamp : Type 0 where
  pub year : List ℕ
  pub month : List ℕ
  pub day : List ℕ
  pub hour : List ℕ
  pub minute : List ℕ
  pub second : List ℕ
  pub fraction : List ℕ

-- a point and the digits, where there are digits
abbrev pub fraction_text : List ℕ → List ℕ
fraction_text [] = []
fraction_text (d ∷ ds) = 46 ∷ d ∷ ds

-- `YYYY-MM-DD`, and `HH:MM:SS` with the fraction
abbrev pub date_text : Stamp → List ℕ
date_text s = s.year ++ 45 ∷ (s.month ++ 45 ∷ s.day)

abbrev pub clock_text : Stamp → List ℕ
clock_text s = s.hour ++ 58 ∷ (s.minute ++ 58 ∷ (s.second ++ fraction_text s.fraction))

abbrev pub stamp_text : Stamp → List ℕ
stamp_text s = date_text s ++ 32 ∷ clock_text s

-- this many digits
abbrev pub AreDigits : ℕ → List ℕ → Type 0
AreDigits n ds = (length ds ≡ n) × AllDigits 10 ds

abbrev pub value : List ℕ → ℕ
value ds = digits_value 10 ds

-- The calendar has the day, the hour is at most 23, minute and second are at most 59.
pub record IsStamp (s : Stamp) : Type 0 where
  pub year : AreDigits 4 s.year
  pub month : AreDigits 2 s.month
  pub day : AreDigits 2 s.day
  pub hour : AreDigits 2 s.hour
  pub minute : AreDigits 2 s.minute
  pub second : AreDigits 2 s.second
  pub fraction : (length s.fraction ≤ 3) × AllDigits 10 s.fraction
  pub date : IsCivilDate (pos (value s.year)) (value s.month) (value s.day)
  pub hours : value s.hour < 24
  pub minutes : value s.minute < 60
  pub seconds : value s.second < 60

-- three digits: those of the fraction, filled with zeros on the right
abbrev pub filled : List ℕ → List ℕ
filled ds = ds ++ replicate (3 - length ds) 48

-- the milliseconds of the day
abbrev pub day_milliseconds : Stamp → ℕ
day_milliseconds s = ((value s.hour * 60 + value s.minute) * 60 + value s.second) * a_second + value (filled s.fraction)

-- the milliseconds since 1970, which are negative before it
abbrev pub milliseconds : Stamp → ℤ
milliseconds s = pos a_day *ℤ days_from_civil (pos (value s.year)) (value s.month) (value s.day) +ℤ pos
    (day_milliseconds s)

-- the text is a timestamp's, which says this number
abbrev pub IsTimestamp : List ℕ → ℤ → Type 0
IsTimestamp text n = (s : Stamp) × IsStamp s × (text ≡ stamp_text s) × (n ≡ milliseconds s)

-- what is answered of a text: the number, or that it is no timestamp; want of memory never
abbrev pub SaysTime : List ℕ → Result ℤ TimeFault → Type 0
SaysTime text (Ok n) = IsTimestamp text n
SaysTime text (Err BadTime) = (n : ℤ) → ¬ (IsTimestamp text n)
SaysTime text (Err NoMemory) = ⊥
