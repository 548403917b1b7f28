use Rattle.std.proofs.Common.{◌≡◌, ◌-◌, ℕ, List, take, subst, sym, ap, ◌∙◌, arith, drop, length, length-drop}
use Rattle.std.specs.Char.{is_ascii_digit}
use Rattle.std.specs.List.{prefix_len}
use Rattle.std.specs.Str.Parse.{IsNumeral, without_leading_sign}
use Rattle.std.proofs.lemmas.List.{take_all}
use Rattle.td_lex.proofs.Numerals.{signed_number}
use Rattle.td_lex.proofs.scan.signed.Goals as goal

pub whole-requires : goal.whole-requires
whole-requires c =
    let rest : List ℕ = drop 1 c.args.text.now in
    let all : take (length c.args.text.now - 1) rest ≡ rest = take_all (length c.args.text.now - 1) rest (omega (arith, length-drop 1 c.args.text.now)) in
    let value : c.digits_len-digits.result ≡ prefix_len is_ascii_digit rest = c.digits_len-digits.ensures.value ∙ ap (prefix_len is_ascii_digit) all in
    subst (λ ds. IsNumeral 10 (without_leading_sign ds)) (sym c.split_at.ensures.front) (signed_number c.args.text.now c.digits_len-digits.result c.requires value (omega arith))
