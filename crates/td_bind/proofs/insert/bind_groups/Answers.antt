use Rattle.std.proofs.Common.{refl, map, sym, ap, ◌∙◌}
use Rattle.td_bind.specs.Literals.{said_cause}
use Rattle.td_bind.proofs.Read.{refused_cause, accepted_puts}
use Rattle.td_bind.proofs.insert.bind_groups.Goals as goal

pub returns-in-Some : goal.returns-in-Some
returns-in-Some c =
    let columns = c.args.columns.now in
    let places = c.args.places.now in
    let same = sym c.has_other_length.ensures ∙ c.if-has_other_length.false in
    let said = c.as_slice-said.ensures ∙ c.in_ok-said.ensures in
    refused_cause c.args.moment columns places c.requires.time c.requires.kinds c.args.table c.args.edge c.args.groups.now c.in-Some.cause same
    (sym c.in-Some.is ∙ c.in_ok-cause.ensures ∙ ap (λ s. said_cause columns places s c.args.edge) said)

pub returns : goal.returns
returns c =
    let columns = c.args.columns.now in
    let places = c.args.places.now in
    let same = sym c.has_other_length.ensures ∙ c.if-has_other_length.false in
    let said = c.as_slice-said.ensures ∙ c.in_ok-said.ensures in
    accepted_puts c.args.moment columns places c.requires.time c.requires.kinds c.args.table c.args.edge c.args.groups.now c.in_ok-puts.puts _ same
    (sym c.in_default.is ∙ c.in_ok-cause.ensures ∙ ap (λ s. said_cause columns places s c.args.edge) said)
    (c.in_ok-puts.ensures ∙ ap (map _) said)
    refl
