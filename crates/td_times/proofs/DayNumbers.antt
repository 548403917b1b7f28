-- The number of a day that the calendar has.
use Rattle.std.proofs.Common.{◌≡◌, ℕ, ℤ, pos, ◌≤◌, true, ◌&&◌, nat_le, Some, refl, arith}
use Rattle.std.proofs.lemmas.Int.{ints}
use Rattle.jiff_core.specs.Calendar.{IsDate, days_in_month, days_from_civil}
use Rattle.td_times.specs.Stamps.{is_civil_date, day_number_of}
use Rattle.td_times.proofs.Tests.{together, leb_yes}

pub passes : (y m d : ℕ) → y ≤ 9999 → 1 ≤ m → m ≤ 12 → 1 ≤ d → d ≤ days_in_month (pos y) m → is_civil_date y m d ≡ true
passes y m d a b c e f =
    together (nat_le y 9999 && (nat_le 1 m && nat_le m 12)) (nat_le 1 d && nat_le d (days_in_month (pos y) m))
    (together (nat_le y 9999) (nat_le 1 m && nat_le m 12) (leb_yes y 9999 a) (together (nat_le 1 m) (nat_le m 12) (leb_yes 1 m b) (leb_yes m 12 c)))
    (together (nat_le 1 d) (nat_le d (days_in_month (pos y) m)) (leb_yes 1 d e) (leb_yes d (days_in_month (pos y) m) f))

pub exists : (y m d : ℕ) → IsDate (pos y) (pos m) (pos d) → is_civil_date y m d ≡ true
exists y m d h =
    let a : y ≤ 9999 = omega (arith, ints, h.0.1) in
    let b : 1 ≤ m = omega (arith, ints, h.1.0) in
    let c : m ≤ 12 = omega (arith, ints, h.1.1) in
    let e : 1 ≤ d = omega (arith, ints, h.2.0) in
    let f : d ≤ days_in_month (pos y) m = omega (arith, ints, h.2.1) in
    passes y m d a b c e f

pub some_day : (y m d : ℕ) → is_civil_date y m d ≡ true → Some (days_from_civil (pos y) m d) ≡ day_number_of y m d
unfolding day_number_of
some_day y m d h = rw h refl

pub civil_day : (y m d : ℕ) (year : ℤ) (month day : ℕ) → year ≡ pos y → pos month ≡ pos m → pos day ≡ pos d → IsDate (pos y) (pos m) (pos d) → Some (days_from_civil year month day) ≡ day_number_of y m d
civil_day y m d year month day a b c h =
    let months : month ≡ m = cc in
    let days : day ≡ d = cc in
    rw (a, months, days) (some_day y m d (exists y m d h))
