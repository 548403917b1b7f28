-- The full form of a moment is read back.
use Rattle.std.proofs.Common.{◌≡◌, ℕ, ℤ, pos, ◌+◌, ◌*◌, ◌/◌, ◌%◌, ◌<◌, ◌≤◌, ◌+ℤ◌, ◌*ℤ◌, Bool, true, false, ◌==◌, ◌||◌, cond, [], ◌∷◌, length, refl, sym, arith}
use Rattle.std.specs.Char.{digit_value}
use Rattle.std.specs.Str.Parse.{AllDigits}
use Rattle.std.proofs.lemmas.Bool.Decides.{nat_tests}
use Rattle.std.proofs.lemmas.Int.{ints}
use Rattle.jiff_core.specs.Calendar.{IsCivilDate, days_from_civil, days_in_month, is_leap_year}
use Rattle.td_times.specs.Times.{IsStamp, AreDigits, value, filled, stamp_text, milliseconds, IsTimestamp}
use Rattle.td_times.specs.Moments.{two_digits, three_digits, four_digits, Moment, Exists, full, since_1970}

-- digits of small numbers
digit_of : (k : ℕ) → k < 10 → digit_value (48 + k) ≡ k
digit_of k h = grind (arith, nat_tests)

digit_in : (k : ℕ) → k < 10 → digit_value (48 + k) < 10
digit_in k h = rw (digit_of k h) h

pair : (x y a b : ℕ) → digit_value x ≡ a → digit_value y ≡ b → value (x ∷ y ∷ []) ≡ a * 10 + b
pair x y a b h k = omega (arith, h, k)

triple : (x y z a b c : ℕ) → digit_value x ≡ a → digit_value y ≡ b → digit_value z ≡ c → value (x ∷ y ∷ z ∷ []) ≡ (a * 10 + b) * 10 + c
triple x y z a b c h k l = omega (arith, h, k, l)

quadruple : (x y z w a b c d : ℕ) → digit_value x ≡ a → digit_value y ≡ b → digit_value z ≡ c → digit_value w ≡ d → value (x ∷ y ∷ z ∷ w ∷ []) ≡ ((a * 10 + b) * 10 + c) * 10 + d
quadruple x y z w a b c d h k l o = omega (arith, h, k, l, o)

two : (n : ℕ) → n < 100 → AreDigits 2 (two_digits n) × (value (two_digits n) ≡ n)
two n h =
    let tens : n / 10 < 10 = omega arith in
    let ones : n % 10 < 10 = omega arith in
    let sum = pair (48 + n / 10) (48 + n % 10) (n / 10) (n % 10) (digit_of (n / 10) tens) (digit_of (n % 10) ones) in
    ((refl, (digit_in (n / 10) tens, (digit_in (n % 10) ones, tt))), omega (arith, sum))

three : (n : ℕ) → n < 1000 → ((length (three_digits n) ≤ 3) × AllDigits 10 (three_digits n)) × (value (three_digits n) ≡ n)
three n h =
    let high : n / 100 < 10 = omega arith in
    let low : n % 100 < 100 = omega arith in
    let tens : n % 100 / 10 < 10 = omega arith in
    let ones : n % 100 % 10 < 10 = omega arith in
    let sum = triple (48 + n / 100) (48 + n % 100 / 10) (48 + n % 100 % 10) (n / 100) (n % 100 / 10) (n % 100 % 10) (digit_of (n / 100) high) (digit_of (n % 100 / 10) tens) (digit_of (n % 100 % 10) ones) in
    ((omega arith, (digit_in (n / 100) high, (digit_in (n % 100 / 10) tens, (digit_in (n % 100 % 10) ones, tt)))), omega (arith, sum))

four : (n : ℕ) → n < 10000 → AreDigits 4 (four_digits n) × (value (four_digits n) ≡ n)
four n h =
    let high : n / 100 < 100 = omega arith in
    let low : n % 100 < 100 = omega arith in
    let a : n / 100 / 10 < 10 = omega arith in
    let b : n / 100 % 10 < 10 = omega arith in
    let c : n % 100 / 10 < 10 = omega arith in
    let d : n % 100 % 10 < 10 = omega arith in
    let sum = quadruple (48 + n / 100 / 10) (48 + n / 100 % 10) (48 + n % 100 / 10) (48 + n % 100 % 10) (n / 100 / 10) (n / 100 % 10) (n % 100 / 10) (n % 100 % 10) (digit_of (n / 100 / 10) a) (digit_of (n / 100 % 10) b) (digit_of (n % 100 / 10) c) (digit_of (n % 100 % 10) d) in
    ((refl, (digit_in (n / 100 / 10) a, (digit_in (n / 100 % 10) b, (digit_in (n % 100 / 10) c, (digit_in (n % 100 % 10) d, tt))))), omega (arith, sum))

-- no month has more than 31 days
at_most : (t : Bool) (a b n : ℕ) → a ≤ n → b ≤ n → cond t a b ≤ n
at_most true a b n h k = h
at_most false a b n h k = k

short_month : (y : ℤ) (m : ℕ) → days_in_month y m ≤ 31
short_month y m = at_most (m == 2) _ _ 31 (at_most (is_leap_year y) 29 28 31 (omega arith) (omega arith)) (at_most ((m == 4) || (m == 6) || (m == 9) || (m == 11)) 30 31 31 (omega arith) (omega arith))

date_by : (y m d year month day : ℕ) → year ≡ y → month ≡ m → day ≡ d → IsCivilDate (pos y) m d → IsCivilDate (pos year) month day
date_by y m d year month day a b c h = rw (a, b, c) h

sum_by : (y m d h i s f year month day hour minute second fraction : ℕ) → year ≡ y → month ≡ m → day ≡ d → hour ≡ h → minute ≡ i → second ≡ s → fraction ≡ f
    → pos 86400000 *ℤ days_from_civil (pos year) month day +ℤ pos (((hour * 60 + minute) * 60 + second) * 1000 + fraction) ≡ pos 86400000 *ℤ days_from_civil (pos y) m d +ℤ pos (((h * 60 + i) * 60 + s) * 1000 + f)
sum_by y m d h i s f year month day hour minute second fraction a b c e g j k = rw (a, b, c, e, g, j, k) refl

printed : (m : Moment) → Exists m → IsStamp (full m) × (milliseconds (full m) ≡ since_1970 m)
printed m h =
    let years : m.year < 10000 = omega (arith, ints, h.date.0.1) in
    let y = four m.year years in
    let mo = two m.month (omega (arith, h.date.1.1)) in
    let d = two m.day (omega (arith, h.date.2.1, short_month (pos m.year) m.month)) in
    let ho = two m.hour (omega (arith, h.hour)) in
    let mi = two m.minute (omega (arith, h.minute)) in
    let s = two m.second (omega (arith, h.second)) in
    let ms = three m.millisecond h.millisecond in
    let is : IsStamp (full m) = record {
      year = y.0;
      month = mo.0;
      day = d.0;
      hour = ho.0;
      minute = mi.0;
      second = s.0;
      fraction = ms.0;
      date = date_by m.year m.month m.day (value (four_digits m.year)) (value (two_digits m.month)) (value (two_digits m.day)) y.1 mo.1 d.1 h.date;
      hours = rw ho.1 h.hour;
      minutes = rw mi.1 h.minute;
      seconds = rw s.1 h.second;
    } in
    (is, sum_by m.year m.month m.day m.hour m.minute m.second m.millisecond (value (four_digits m.year)) (value (two_digits m.month)) (value (two_digits m.day)) (value (two_digits m.hour)) (value (two_digits m.minute)) (value (two_digits m.second)) (value (filled (three_digits m.millisecond))) y.1 mo.1 d.1 ho.1 mi.1 s.1 ms.1)

pub printed_time : (m : Moment) → Exists m → IsTimestamp (stamp_text (full m)) (since_1970 m)
printed_time m h = let p = printed m h in (full m, p.0, refl, sym p.1)
