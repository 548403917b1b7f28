use Rattle.std.proofs.Common.{◌≡◌, sym, subst, ◌∙◌, arith, true}
use Rattle.std.specs.Char.{is_ascii_digit}
use Rattle.std.specs.List.{list_all}
use Rattle.std.specs.Str.Parse.{ParsesUnsigned}
use Rattle.td_times.proofs.ShortNumbers.{reads_number, small_too, digits_are_utf8}
use Rattle.td_times.proofs.timestamps.number.Goals as goal

pub returns-in_default-clause-value : goal.returns-in_default-clause-value
returns-in_default-clause-value c =
    let all : list_all is_ascii_digit c.args.digits.now ≡ true = sym c.all_digits.ensures ∙ c.if-not-all_digits.false in
    absurd (c.in_default.ensures.cases.0 (digits_are_utf8 c.args.digits.now all))

pub returns-clause-value : goal.returns-clause-value
returns-clause-value c =
    let all : list_all is_ascii_digit c.args.digits.now ≡ true = sym c.all_digits.ensures ∙ c.if-not-all_digits.false in
    c.ok.ensures.value ∙ reads_number c.args.digits.now c.parse.result (omega arith) all (subst (λ bs. ParsesUnsigned 32 10 bs c.parse.result) c.in-Ok.ensures.cases.0 c.parse.ensures.value.0)

pub returns-clause-small : goal.returns-clause-small
returns-clause-small c = small_too c.args.digits.now c.ok.result (returns-clause-value c)
