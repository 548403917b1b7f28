-- Reading a timestamp from left to right finds what the rule has, and nothing else.
use Rattle.std.proofs.Common.{◌≡◌, ℕ, ℤ, pos, ◌+◌, ◌*◌, ◌≤◌, ◌<◌, ◌^◌, ◌+ℤ◌, ◌*ℤ◌, Bool, true, false, cond, ◌&&◌, ◌==◌, nat_le, nat_lt, List, [], ◌∷◌, ◌++◌, length, take, drop, Option, Some, None, refl, sym, ap, subst, ◌∙◌, arith, append_assoc, length-append}
use Rattle.std.specs.Option.{option_map, ok_or}
use Rattle.std.specs.Result.{result_ok}
use Rattle.std.specs.Char.{is_ascii_digit}
use Rattle.std.specs.List.{list_all}
use Rattle.std.specs.Str.Parse.{AllDigits}
use Rattle.std.proofs.Math.Seq.{take-append_seam, drop-append_seam}
use Rattle.std.proofs.lemmas.List.{take-append-drop, length-take-le}
use Rattle.std.proofs.lemmas.Int.{ints}
use Rattle.jiff_core.specs.Calendar.{IsCivilDate, days_in_month, days_from_civil}
use Rattle.td_times.specs.declared.fault.TimeFault.TheVariants.{BadTime}
use Rattle.td_times.specs.Times.{Stamp, IsStamp, AreDigits, value, filled, fraction_text, clock_text, stamp_text, milliseconds, IsTimestamp, SaysTime}
use Rattle.td_times.specs.Stamps.{◌>>=◌, are_digits, number_of, digits_at, past_byte, is_civil_date, day_number_of, date_of, second_of, clock_of, fraction_of, timestamp_of}
use Rattle.td_times.proofs.Tests.{both, together, equal_bytes, less, lt_yes, leb_yes, leb_says, digits_test}
use Rattle.td_times.proofs.ShortNumbers.{all_are_digits, short_value}
use Rattle.td_times.proofs.DayNumbers.{passes, some_day}

bind_found : {A B : Type 0} (o : Option A) (f : A → Option B) (y : B) → (o >>= f) ≡ Some y → (x : A) × (o ≡ Some x) × (f x ≡ Some y)
bind_found None f y e = cc
bind_found (Some x) f y e = (x, refl, e)

map_found : {A B : Type 0} (o : Option A) (f : A → B) (y : B) → option_map f o ≡ Some y → (x : A) × (o ≡ Some x) × (f x ≡ y)
map_found None f y e = cc
map_found (Some x) f y e = (x, refl, cc)

if_found : {A : Type 0} (t : Bool) (a : Option A) (y : A) → cond t a None ≡ Some y → (t ≡ true) × (a ≡ Some y)
if_found true a y e = (refl, e)
if_found false a y e = cc

-- digits and single bytes
pub digits_found : (n : ℕ) (text : List ℕ) (p : ℕ × List ℕ) → digits_at n text ≡ Some p → (ds : List ℕ) × (text ≡ ds ++ p.1) × AreDigits n ds × (p.0 ≡ value ds)
unfolding digits_at
digits_found n text p h =
    let f = if_found (nat_le n (length text)) _ p h in
    let m = map_found (number_of (take n text)) _ p f.1 in
    let i = if_found (are_digits (take n text)) _ m.0 m.1 in
    let long : n ≤ length text = leb_says n (length text) f.0 in
    let all : list_all is_ascii_digit (take n text) ≡ true = (both (nat_le (length (take n text)) 4) _ (both (nat_le 1 (length (take n text))) _ i.0).1).1 in
    let is : value (take n text) ≡ m.0 = cc in
    let pair : (m.0, drop n text) ≡ p = m.2 in (
      take n text,
      sym (take-append-drop n text) ∙ ap (λ (q : ℕ × List ℕ). take n text ++ q.1) pair,
      (length-take-le n text long, all_are_digits (take n text) all),
      sym (ap (λ (q : ℕ × List ℕ). q.0) pair) ∙ sym is,
    )

four_digits : (ds : List ℕ) → 1 ≤ length ds → length ds ≤ 4 → AllDigits 10 ds → number_of ds ≡ Some (value ds)
four_digits ds some few h =
    let test = together (nat_le 1 (length ds)) (nat_le (length ds) 4 && list_all is_ascii_digit ds) (leb_yes 1 (length ds) some) (together (nat_le (length ds) 4) (list_all is_ascii_digit ds) (leb_yes (length ds) 4 few) (digits_test ds h)) in
    rw test refl

pub digits_again : (n : ℕ) (ds rest : List ℕ) → 1 ≤ n → n ≤ 4 → AreDigits n ds → digits_at n (ds ++ rest) ≡ Some (value ds, rest)
unfolding digits_at
digits_again n ds rest some few h =
    let long : nat_le n (length (ds ++ rest)) ≡ true = leb_yes n (length (ds ++ rest)) (omega (arith, h.0, length-append ds rest)) in
    let front : take n (ds ++ rest) ≡ ds = ap (λ k. take k (ds ++ rest)) (sym h.0) ∙ take-append_seam ds rest in
    let behind : drop n (ds ++ rest) ≡ rest = ap (λ k. drop k (ds ++ rest)) (sym h.0) ∙ drop-append_seam ds rest in
    rw (long, front, behind, four_digits ds (omega (arith, h.0)) (omega (arith, h.0)) h.1) refl

pub byte_found : (b : ℕ) (text rest : List ℕ) → past_byte b text ≡ Some rest → text ≡ b ∷ rest
byte_found b [] rest h = cc
byte_found b (c ∷ cs) rest h = let f = if_found (c == b) _ rest h in let same = equal_bytes c b f.0 in cc

-- the date
record DateAt (text rest : List ℕ) (n : ℤ) : Type 0 where
  year : List ℕ
  month : List ℕ
  day : List ℕ
  years : AreDigits 4 year
  months : AreDigits 2 month
  days : AreDigits 2 day
  exists : IsCivilDate (pos (value year)) (value month) (value day)
  is : text ≡ year ++ 45 ∷ (month ++ 45 ∷ (day ++ rest))
  says : n ≡ days_from_civil (pos (value year)) (value month) (value day)

four_nines : (ds : List ℕ) (v : ℕ) → length ds ≡ 4 → v < 10 ^ length ds → v ≤ 9999
four_nines ds v e h = let l : v < 10 ^ 4 = subst (λ k. v < 10 ^ k) e h in omega arith

year_in_range : (ds : List ℕ) → AreDigits 4 ds → value ds ≤ 9999
year_in_range ds h = let l = short_value ds (digits_test ds h.1) in four_nines ds (value ds) h.0 l

civil : (y m d : ℕ) → is_civil_date y m d ≡ true → IsCivilDate (pos y) m d
civil y m d h =
    let parts = both (nat_le y 9999 && (nat_le 1 m && nat_le m 12)) (nat_le 1 d && nat_le d (days_in_month (pos y) m)) h in
    let first = both (nat_le y 9999) (nat_le 1 m && nat_le m 12) parts.0 in
    let months = both (nat_le 1 m) (nat_le m 12) first.1 in
    let days = both (nat_le 1 d) (nat_le d (days_in_month (pos y) m)) parts.1 in
    let high : y ≤ 9999 = leb_says y 9999 first.0 in
    ((omega (arith, ints), omega (arith, ints)), (leb_says 1 m months.0, leb_says m 12 months.1), (leb_says 1 d days.0, leb_says d (days_in_month (pos y) m) days.1))

day_found : (y m d : ℕ) (n : ℤ) → day_number_of y m d ≡ Some n → IsCivilDate (pos y) m d × (n ≡ days_from_civil (pos y) m d)
unfolding day_number_of
day_found y m d n h =
    let f = if_found (is_civil_date y m d) (Some (days_from_civil (pos y) m d)) n h in
    let number : Some (days_from_civil (pos y) m d) ≡ Some n = f.1 in
    (civil y m d f.0, cc)

date_is : (text a months b days rest : List ℕ) (y m d : ℕ) (n : ℤ) → digits_at 4 text ≡ Some (y, a) → past_byte 45 a ≡ Some months → digits_at 2 months ≡ Some (m, b) → past_byte 45 b ≡ Some days → digits_at 2 days ≡ Some (d, rest) → day_number_of y m d ≡ Some n → DateAt text rest n
date_is text a months b days rest y m d n e f g h i k =
    let ys = digits_found 4 text (y, a) e in
    let ms = digits_found 2 months (m, b) g in
    let ds = digits_found 2 days (d, rest) i in
    let is = day_found y m d n k in
    record {
      year = ys.0;
      month = ms.0;
      day = ds.0;
      years = ys.2;
      months = ms.2;
      days = ds.2;
      exists = rw (ys.3, ms.3, ds.3) at is.0;
      is = ys.1 ∙ ap (λ t. ys.0 ++ t) (byte_found 45 a months f ∙ ap (λ t. 45 ∷ t) (ms.1 ∙ ap (λ t. ms.0 ++ t) (byte_found 45 b days h ∙ ap (λ t. 45 ∷ t) ds.1)));
      says = rw (ys.3, ms.3, ds.3) at is.1;
    }

date_found : (text : List ℕ) (p : ℤ × List ℕ) → date_of text ≡ Some p → DateAt text p.1 p.0
unfolding date_of
date_found text p h =
    let year = bind_found (digits_at 4 text) _ p h in
    let months = bind_found (past_byte 45 year.0.1) _ p year.2 in
    let month = bind_found (digits_at 2 months.0) _ p months.2 in
    let days = bind_found (past_byte 45 month.0.1) _ p month.2 in
    let day = bind_found (digits_at 2 days.0) _ p days.2 in
    let number = bind_found (day_number_of year.0.0 month.0.0 day.0.0) _ p day.2 in
    let pair : (number.0, day.0.1) ≡ p = cc in
    subst (λ (q : ℤ × List ℕ). DateAt text q.1 q.0) pair (date_is text year.0.1 months.0 month.0.1 days.0 day.0.1 year.0.0 month.0.0 day.0.0 number.0 year.1 months.1 month.1 days.1 day.1 number.1)

date_again : (y m d rest : List ℕ) → AreDigits 4 y → AreDigits 2 m → AreDigits 2 d → IsCivilDate (pos (value y)) (value m) (value d) → date_of (y ++ 45 ∷ (m ++ 45 ∷ (d ++ rest))) ≡ Some (days_from_civil (pos (value y)) (value m) (value d), rest)
unfolding date_of
date_again y m d rest a b c e =
    let number : day_number_of (value y) (value m) (value d) ≡ Some (days_from_civil (pos (value y)) (value m) (value d)) = sym (some_day (value y) (value m) (value d) (passes (value y) (value m) (value d) (year_in_range y a) e.1.0 e.1.1 e.2.0 e.2.1)) in
    rw (digits_again 4 y (45 ∷ (m ++ 45 ∷ (d ++ rest))) (omega arith) (omega arith) a, digits_again 2 m (45 ∷ (d ++ rest)) (omega arith) (omega arith) b, digits_again 2 d rest (omega arith) (omega arith) c, number) refl

-- the time of day
record ClockAt (text rest : List ℕ) (n : ℕ) : Type 0 where
  hour : List ℕ
  minute : List ℕ
  second : List ℕ
  hours : AreDigits 2 hour
  minutes : AreDigits 2 minute
  seconds : AreDigits 2 second
  hour_in : value hour < 24
  minute_in : value minute < 60
  second_in : value second < 60
  is : text ≡ hour ++ 58 ∷ (minute ++ 58 ∷ (second ++ rest))
  says : n ≡ ((value hour * 60 + value minute) * 60 + value second) * 1000

second_found : (h m s n : ℕ) → second_of h m s ≡ Some n → (h < 24) × (m < 60) × (s < 60) × (n ≡ ((h * 60 + m) * 60 + s) * 1000)
unfolding second_of
second_found h m s n e =
    let f = if_found (nat_lt h 24 && (nat_lt m 60 && nat_lt s 60)) _ n e in
    let a = both (nat_lt h 24) (nat_lt m 60 && nat_lt s 60) f.0 in
    let b = both (nat_lt m 60) (nat_lt s 60) a.1 in
    let number : Some (((h * 60 + m) * 60 + s) * 1000) ≡ Some n = f.1 in
    (less h 24 a.0, less m 60 b.0, less s 60 b.1, cc)

second_again : (h m s : ℕ) → h < 24 → m < 60 → s < 60 → second_of h m s ≡ Some (((h * 60 + m) * 60 + s) * 1000)
unfolding second_of
second_again h m s a b c = rw (lt_yes h 24 a, lt_yes m 60 b, lt_yes s 60 c) refl

clock_is : (text a minutes b seconds rest : List ℕ) (h m s n : ℕ) → digits_at 2 text ≡ Some (h, a) → past_byte 58 a ≡ Some minutes → digits_at 2 minutes ≡ Some (m, b) → past_byte 58 b ≡ Some seconds → digits_at 2 seconds ≡ Some (s, rest) → second_of h m s ≡ Some n → ClockAt text rest n
clock_is text a minutes b seconds rest h m s n e f g i j k =
    let hs = digits_found 2 text (h, a) e in
    let ms = digits_found 2 minutes (m, b) g in
    let ss = digits_found 2 seconds (s, rest) j in
    let is = second_found h m s n k in
    record {
      hour = hs.0;
      minute = ms.0;
      second = ss.0;
      hours = hs.2;
      minutes = ms.2;
      seconds = ss.2;
      hour_in = rw hs.3 at is.0;
      minute_in = rw ms.3 at is.1;
      second_in = rw ss.3 at is.2;
      is = hs.1 ∙ ap (λ t. hs.0 ++ t) (byte_found 58 a minutes f ∙ ap (λ t. 58 ∷ t) (ms.1 ∙ ap (λ t. ms.0 ++ t) (byte_found 58 b seconds i ∙ ap (λ t. 58 ∷ t) ss.1)));
      says = rw (hs.3, ms.3, ss.3) at is.3;
    }

clock_found : (text : List ℕ) (p : ℕ × List ℕ) → clock_of text ≡ Some p → ClockAt text p.1 p.0
unfolding clock_of
clock_found text p h =
    let hour = bind_found (digits_at 2 text) _ p h in
    let minutes = bind_found (past_byte 58 hour.0.1) _ p hour.2 in
    let minute = bind_found (digits_at 2 minutes.0) _ p minutes.2 in
    let seconds = bind_found (past_byte 58 minute.0.1) _ p minute.2 in
    let second = bind_found (digits_at 2 seconds.0) _ p seconds.2 in
    let number = bind_found (second_of hour.0.0 minute.0.0 second.0.0) _ p second.2 in
    let pair : (number.0, second.0.1) ≡ p = cc in
    subst (λ (q : ℕ × List ℕ). ClockAt text q.1 q.0) pair (clock_is text hour.0.1 minutes.0 minute.0.1 seconds.0 second.0.1 hour.0.0 minute.0.0 second.0.0 number.0 hour.1 minutes.1 minute.1 seconds.1 second.1 number.1)

clock_again : (h m s rest : List ℕ) → AreDigits 2 h → AreDigits 2 m → AreDigits 2 s → value h < 24 → value m < 60 → value s < 60 → clock_of (h ++ 58 ∷ (m ++ 58 ∷ (s ++ rest))) ≡ Some (((value h * 60 + value m) * 60 + value s) * 1000, rest)
unfolding clock_of
clock_again h m s rest a b c i j k =
    rw (digits_again 2 h (58 ∷ (m ++ 58 ∷ (s ++ rest))) (omega arith) (omega arith) a, digits_again 2 m (58 ∷ (s ++ rest)) (omega arith) (omega arith) b, digits_again 2 s rest (omega arith) (omega arith) c, second_again (value h) (value m) (value s) i j k) refl

-- the fraction
pointed : (c : ℕ) (ds : List ℕ) → c ≡ 46 → 1 ≤ length ds → c ∷ ds ≡ fraction_text ds
pointed c [] h some = absurd (omega arith)
pointed c (d ∷ ds) h some = ap (λ b. b ∷ d ∷ ds) h

fraction_found : (text : List ℕ) (n : ℕ) → fraction_of text ≡ Some n → (ds : List ℕ) × (text ≡ fraction_text ds) × (length ds ≤ 3) × AllDigits 10 ds × (n ≡ value (filled ds))
unfolding fraction_of
fraction_found [] n h = let none : n ≡ 0 = cc in ([], refl, omega arith, tt, none)
fraction_found (c ∷ ds) n h =
    let f = if_found ((c == 46) && (nat_le 1 (length ds) && (nat_le (length ds) 3 && list_all is_ascii_digit ds))) _ n h in
    let a = both (c == 46) _ f.0 in
    let b = both (nat_le 1 (length ds)) _ a.1 in
    let g = both (nat_le (length ds) 3) (list_all is_ascii_digit ds) b.1 in
    let number : Some (value (filled ds)) ≡ Some n = f.1 in
    (ds, pointed c ds (equal_bytes c 46 a.0) (leb_says 1 (length ds) b.0), leb_says (length ds) 3 g.0, all_are_digits ds g.1, cc)

fraction_again : (ds : List ℕ) → length ds ≤ 3 → AllDigits 10 ds → fraction_of (fraction_text ds) ≡ Some (value (filled ds))
unfolding fraction_of
fraction_again [] few h = refl
fraction_again (d ∷ ds) few h =
    let some : nat_le 1 (length (d ∷ ds)) ≡ true = leb_yes 1 (length (d ∷ ds)) (omega arith) in
    let short : nat_le (length (d ∷ ds)) 3 ≡ true = leb_yes (length (d ∷ ds)) 3 few in
    rw (some, short, digits_test (d ∷ ds) h) refl

-- the text, one part after the other
abbrev flat : Stamp → List ℕ
flat s = s.year ++ 45 ∷ (s.month ++ 45 ∷ (s.day ++ 32 ∷ clock_text s))

flat_is : (s : Stamp) → stamp_text s ≡ flat s
flat_is s = append_assoc s.year (45 ∷ (s.month ++ 45 ∷ s.day)) (32 ∷ clock_text s) ∙ ap (λ t. s.year ++ 45 ∷ t) (append_assoc s.month (45 ∷ s.day) (32 ∷ clock_text s))

pub timestamp_again : (s : Stamp) → IsStamp s → timestamp_of (stamp_text s) ≡ Some (milliseconds s)
unfolding timestamp_of
timestamp_again s h = ap timestamp_of (flat_is s) ∙ rw (
  date_again s.year s.month s.day (32 ∷ clock_text s) h.year h.month h.day h.date,
  clock_again s.hour s.minute s.second (fraction_text s.fraction) h.hour h.minute h.second h.hours h.minutes h.seconds,
  fraction_again s.fraction h.fraction.0 h.fraction.1,
) refl

sums : {day days : ℤ} {second seconds fraction fractions : ℕ} → day ≡ days → second ≡ seconds → fraction ≡ fractions → pos 86400000 *ℤ day +ℤ pos (second + fraction) ≡ pos 86400000 *ℤ days +ℤ pos (seconds + fractions)
sums a b c = rw (a, b, c) refl

stamp_is : (text a b rest : List ℕ) (day : ℤ) (seconds fraction : ℕ) (n : ℤ) → DateAt text a day → a ≡ 32 ∷ b → ClockAt b rest seconds → fraction_of rest ≡ Some fraction → pos 86400000 *ℤ day +ℤ pos (seconds + fraction) ≡ n → IsTimestamp text n
stamp_is text a b rest day seconds fraction n d e c f g =
    let tail = fraction_found rest fraction f in
    let s : Stamp = record { year = d.year; month = d.month; day = d.day; hour = c.hour; minute = c.minute; second = c.second; fraction = tail.0 } in
    let is : IsStamp s = record { year = d.years; month = d.months; day = d.days; hour = c.hours; minute = c.minutes; second = c.seconds; fraction = (tail.2, tail.3); date = d.exists; hours = c.hour_in; minutes = c.minute_in; seconds = c.second_in } in
    let clock : b ≡ clock_text s = c.is ∙ ap (λ t. c.hour ++ 58 ∷ (c.minute ++ 58 ∷ (c.second ++ t))) tail.1 in
    let whole : text ≡ flat s = d.is ∙ ap (λ t. d.year ++ 45 ∷ (d.month ++ 45 ∷ (d.day ++ t))) (e ∙ ap (λ t. 32 ∷ t) clock) in
    (s, is, whole ∙ sym (flat_is s), sym g ∙ sums d.says c.says tail.4)

pub timestamp_found : (text : List ℕ) (n : ℤ) → timestamp_of text ≡ Some n → IsTimestamp text n
unfolding timestamp_of
timestamp_found text n h =
    let date = bind_found (date_of text) _ n h in
    let rest = bind_found (past_byte 32 date.0.1) _ n date.2 in
    let clock = bind_found (clock_of rest.0) _ n rest.2 in
    let fraction = bind_found (fraction_of clock.0.1) _ n clock.2 in
    let sum : pos 86400000 *ℤ date.0.0 +ℤ pos (clock.0.0 + fraction.0) ≡ n = cc in
    stamp_is text date.0.1 rest.0 clock.0.1 date.0.0 clock.0.0 fraction.0 n (date_found text date.0 date.1) (byte_found 32 date.0.1 rest.0 rest.1) (clock_found rest.0 clock.0 clock.1) fraction.1 sum

-- a timestamp's text is read as its number
pub reads_time : (text : List ℕ) (n : ℤ) → IsTimestamp text n → timestamp_of text ≡ Some n
reads_time text n (s, is, whole, says) = ap timestamp_of whole ∙ timestamp_again s is ∙ ap (λ (z : ℤ). Some z) (sym says)

pub says_time : (text : List ℕ) (o : Option ℤ) → o ≡ timestamp_of text → SaysTime text (ok_or o BadTime)
says_time text None h = λ n is. let read = reads_time text n is in cc
says_time text (Some n) h = timestamp_found text n (sym h)

pub one_time : (text : List ℕ) (m n : ℤ) → IsTimestamp text m → IsTimestamp text n → m ≡ n
one_time text m n h k = let first = reads_time text m h in let second = reads_time text n k in cc

-- the time, where there is one, is the answer's number
pub read_time : (o : Option ℤ) → result_ok (ok_or o BadTime) ≡ o
read_time None = refl
read_time (Some n) = refl
