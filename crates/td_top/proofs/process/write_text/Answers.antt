use Rattle.std.proofs.Common.{◌≡◌, ◌∙◌, ◌++◌, codes, ap, sym}
use Rattle.td_top.specs.Exit.{status_words, status_rest, status_text}
use Rattle.td_top.proofs.Streams.{first_fails, second_fails, third}
use Rattle.td_top.proofs.process.write_text.Goals as goal

pub returns-in_err-write_all : goal.returns-in_err-write_all
returns-in_err-write_all g c =
    let words : c.as_bytes.result.now ≡ status_words c.args.status = c.as_bytes.ensures.value ∙ c.words.ensures in
    first_fails _ _ _ _ c.as_bytes.result.now (status_rest c.args.status) (codes "\n") (status_text c.args.status ++ codes "\n") c.write_all.result c.write_all.ensures (ap (λ x. (x ++ status_rest c.args.status) ++ codes "\n") (sym words)) c.in_err-write_all.field-0.0 c.from_residual.result c.in_err-write_all.was c.from_residual.ensures.0

pub returns-in_err-write_rest : goal.returns-in_err-write_rest
returns-in_err-write_rest g c =
    let words : c.as_bytes.result.now ≡ status_words c.args.status = c.as_bytes.ensures.value ∙ c.words.ensures in
    let line : status_text c.args.status ++ codes "\n" ≡ (c.as_bytes.result.now ++ status_rest c.args.status) ++ codes "\n" = ap (λ x. (x ++ status_rest c.args.status) ++ codes "\n") (sym words) in
    second_fails _ _ _ _ c.as_bytes.result.now (status_rest c.args.status) (codes "\n") (status_text c.args.status ++ codes "\n") c.write_all.result c.write_all.ensures line _ _ c.write_rest.result c.write_rest.ensures c.in_ok-write_all.field-0 c.in_ok-write_all.was c.in_err-write_rest.field-0.0 c.from_residual-in_err-write_rest.result c.in_err-write_rest.was c.from_residual-in_err-write_rest.ensures.0

pub returns : goal.returns
returns g c =
    let words : c.as_bytes.result.now ≡ status_words c.args.status = c.as_bytes.ensures.value ∙ c.words.ensures in
    let line : status_text c.args.status ++ codes "\n" ≡ (c.as_bytes.result.now ++ status_rest c.args.status) ++ codes "\n" = ap (λ x. (x ++ status_rest c.args.status) ++ codes "\n") (sym words) in
    third _ _ _ _ c.as_bytes.result.now (status_rest c.args.status) (codes "\n") (status_text c.args.status ++ codes "\n") c.write_all.result c.write_all.ensures line _ _ c.write_rest.result c.write_rest.ensures c.in_ok-write_all.field-0 c.in_ok-write_all.was _ _ c.write_all-2.result c.in_ok-write_rest.field-0 c.in_ok-write_rest.was c.write_all-2.ensures
