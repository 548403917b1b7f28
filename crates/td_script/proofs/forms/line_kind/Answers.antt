use Rattle.std.proofs.Common.{refl, ap, ◌∙◌}
use Rattle.std.proofs.lemmas.Str.{is_utf8-from_IsUtf8}
use Rattle.td_script.specs.Reading.{kind_of, form_of}
use Rattle.td_script.proofs.Readings.{not_utf8}
use Rattle.td_script.proofs.forms.line_kind.Goals as goal

pub returns-in-Ok : goal.returns-in-Ok
unfolding kind_of
returns-in-Ok c = rw (is_utf8-from_IsUtf8 c.args.line.now c.in-Ok.ensures.cases.1) (c.form.ensures ∙ ap form_of c.without_return.ensures)

pub returns-in-Err : goal.returns-in-Err
unfolding kind_of
returns-in-Err c = rw (not_utf8 c.args.line.now c.in-Err.ensures.cases.0) refl
