use Rattle.std.proofs.Common.{◌≡◌, ◌∙◌, ap, arith, refl, ℤ, pos, Some, FitsSigned, to_z, w8, w32, w64}
use Rattle.std.specs.Int.{w16}
use Rattle.std.proofs.lemmas.Int.{to_z-of_z, ints}
use Rattle.jiff_core.specs.Calendar.{IsDate}
use Rattle.td_times.proofs.DayNumbers.{civil_day}
use Rattle.td_times.proofs.timestamps.day_number.Goals as goal

pub returns-in-Ok-clause-value : goal.returns-in-Ok-clause-value
returns-in-Ok-clause-value c =
    let year_is : to_z w16 c.args.year ≡ pos c.args.year = omega (arith, ints) in
    let month_is : to_z w8 c.args.month ≡ pos c.args.month = omega (arith, ints) in
    let day_is : to_z w8 c.args.day ≡ pos c.args.day = omega (arith, ints) in
    let valid : IsDate (to_z w16 c.args.year) (to_z w8 c.args.month) (to_z w8 c.args.day) = c.in-Ok.ensures.succeeds.0 refl in
    let exists : IsDate (pos c.args.year) (pos c.args.month) (pos c.args.day) = rw (year_is, month_is, day_is) at valid in
    let is = c.in-Ok.ensures.value in
    let number = c.to_unix_epoch_day.ensures.value in
    let wide : FitsSigned w64 c.from.result = record { sfits = c.from.type_inv } in
    let narrow : FitsSigned w32 c.to_unix_epoch_day.result = record { sfits = c.to_unix_epoch_day.type_inv } in
    let same = to_z-of_z w64 c.from.result wide ∙ (c.from.ensures ∙ (to_z-of_z w32 c.to_unix_epoch_day.result narrow ∙ number)) in
    ap (λ (z : ℤ). Some z) same ∙ civil_day c.args.year c.args.month c.args.day c.in-Ok.date.year c.in-Ok.date.month c.in-Ok.date.day (is.0 ∙ year_is) (is.1 ∙ month_is) (is.2 ∙ day_is) exists
