use Rattle.std.proofs.Common.{sym, ap, ◌∙◌}
use Rattle.std.proofs.lemmas.Bool.{eq-eqb}
use Rattle.td_bind.specs.Literals.{tags_said, cells_said}
use Rattle.td_bind.proofs.MadeSub.{sub_refused, sub_accepted}
use Rattle.td_bind.proofs.subtables.bind_make_sub.Goals as goal

pub returns-in-Some-cause : goal.returns-in-Some-cause
returns-in-Some-cause c =
    let catalog = c.args.catalog.now.catalog in
    let columns = c.as_slice-columns.result.now in
    let lits = c.as_slice-lits.ensures in
    let said = c.as_slice.ensures ∙ c.in_ok-said.ensures in
    sub_refused c.args.name.now c.args.stable.now c.args.tags.now c.args.moment catalog c.in-Some.number c.in-Some.ensures.number
    (sym c.is_taken-2.ensures ∙ c.if-is_taken-2.false) columns
    (c.as_slice-columns.ensures ∙ ap (λ s. s.tags) c.in-Some.ensures.schema) c.as_slice-lits.result.now lits (eq-eqb _ _ c.if-lits-columns.false)
    c.in-Some-cause.cause (sym c.in-Some-cause.is ∙ c.in_ok-cause.ensures ∙ ap (λ s. tags_said columns s catalog) said)

pub returns : goal.returns
returns c =
    let catalog = c.args.catalog.now.catalog in
    let columns = c.as_slice-columns.result.now in
    let lits = c.as_slice-lits.ensures in
    let said = c.as_slice.ensures ∙ c.in_ok-said.ensures in
    let again = c.as_slice-2.ensures ∙ c.in_ok-said.ensures in
    sub_accepted c.args.name.now c.args.stable.now c.args.tags.now c.args.moment catalog c.in-Some.number c.in-Some.ensures.number
    (sym c.is_taken-2.ensures ∙ c.if-is_taken-2.false) columns
    (c.as_slice-columns.ensures ∙ ap (λ s. s.tags) c.in-Some.ensures.schema) c.as_slice-lits.result.now lits (eq-eqb _ _ c.if-lits-columns.false)
    (sym c.in_default-cause.is ∙ c.in_ok-cause.ensures ∙ ap (λ s. tags_said columns s catalog) said)
    c.in_ok-name.name c.in_ok-name.ensures c.in_ok-tags.tags (c.in_ok-tags.ensures ∙ ap (λ s. cells_said columns s c.as_slice-lits.result.now) again)
