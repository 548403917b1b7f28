use Rattle.std.proofs.Common.{◌∙◌, ap}
use Rattle.td_state.specs.Heads.{with_stable}
use Rattle.td_state.proofs.Made.{right_stables, stable_made}
use Rattle.td_state.proofs.tables.Tables.add_stable.Goals as goal

pub invariant_of-self : goal.invariant_of-self
invariant_of-self c =
    right_stables c.self.inside.version c.self.inside.moment c.self.inside.catalog.catalog c.self.inside.contents.kept c.set_stable_latest.new.self.kept c.args.stable.now.latest
    c.self.invariant c.requires.latest c.set_stable_latest.ensures

pub returns : goal.returns
returns c =
    stable_made c.args.self.now.state c.self.inside.version c.self.inside.moment c.self.inside.catalog.catalog c.self.inside.contents.kept c.set_stable_latest.new.self.kept c.in_ok-name.name c.in_ok-schema.schema c.args.stable.now.latest
    (ap (λ h. h.state) c.self.view_is ∙ c.in_ok-make.ensures) c.set_stable_latest.ensures
    ∙ (λ i. with_stable (record { name = c.in_ok-name.ensures i; schema = c.in_ok-schema.ensures.same i; latest = c.args.stable.now.latest }) c.args.self.now.state)
