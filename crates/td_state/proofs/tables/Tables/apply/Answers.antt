use Rattle.std.proofs.Common.{◌≤◌, [], ◌∷◌, sym, subst, ap, ◌∙◌}
use Rattle.td_limits.specs.declared.limits.TheConstants.{LAST_TIMESTAMP}
use Rattle.td_model.specs.State.{step}
use Rattle.td_catalog.specs.Kept.{change_of}
use Rattle.td_state.specs.Held.{bare, CanTake, PreparedEntry}
use Rattle.td_state.proofs.Right.{right_after}
use Rattle.td_state.proofs.Steps.{stepped}
use Rattle.td_state.proofs.tables.Tables.apply.Goals as goal

pub invariant_of-self : goal.invariant_of-self
invariant_of-self c =
    let changed = c.apply-2.ensures.entry c.prepared.inside.entry.what
    (ap (λ p. p.change) c.prepared.view_is ∙ c.requires.change ∙ ap (λ p. change_of p.entry.what) (sym c.prepared.view_is)) in
    right_after c.prepared.inside.entry c.args.self.now.state c.self.inside.version c.self.inside.moment c.self.inside.catalog.catalog c.apply-2.new.self.catalog c.self.inside.contents.kept c.apply.new.self.kept
    (ap (λ h. h.state) c.self.view_is) c.self.invariant
    (subst (λ (p : PreparedEntry). CanTake p.entry.what c.args.self.now.state) (sym c.prepared.view_is) c.requires.takes)
    (subst (λ (p : PreparedEntry). p.entry.moment ≤ LAST_TIMESTAMP) (sym c.prepared.view_is) c.requires.moment)
    c.apply.ensures changed

pub returns : goal.returns
returns c =
    let changed = c.apply-2.ensures.entry c.prepared.inside.entry.what
    (ap (λ p. p.change) c.prepared.view_is ∙ c.requires.change ∙ ap (λ p. change_of p.entry.what) (sym c.prepared.view_is)) in
    stepped c.args.self.now.state c.prepared.inside.entry c.self.inside.version c.self.inside.moment c.self.inside.catalog.catalog c.apply-2.new.self.catalog c.self.inside.contents.kept c.apply.new.self.kept
    (ap (λ h. h.state) c.self.view_is) c.apply.ensures changed
    ∙ ap (λ p. bare (step (c.args.self.now.state ∷ []) p.entry)) c.prepared.view_is
