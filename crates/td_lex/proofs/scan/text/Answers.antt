use Rattle.std.proofs.Common.{subst, refl}
use Rattle.std.specs.Str.{IsUtf8}
use Rattle.std.proofs.lemmas.Str.{is_utf8-from_IsUtf8}
use Rattle.td_lex.proofs.Numerals.{not_utf8}
use Rattle.td_lex.proofs.scan.text.Goals as goal

pub returns-in-Ok : goal.returns-in-Ok
returns-in-Ok c =
    let valid : IsUtf8 c.args.content.items = subst IsUtf8 c.as_slice.ensures.value c.in-Ok.ensures.cases.1 in
    rw (is_utf8-from_IsUtf8 c.args.content.items valid, c.from_vec.ensures) refl

pub returns : goal.returns
returns c =
    let invalid : ¬ (IsUtf8 c.args.content.items) = subst (λ bs. ¬ (IsUtf8 bs)) c.as_slice.ensures.value c.in-Err.ensures.cases.0 in
    rw (not_utf8 c.args.content.items invalid) refl
