use Rattle.std.proofs.Common.{◌+◌, [], ◌∷◌, sym, subst, ap, ◌∙◌}
use Rattle.td_model.specs.State.{step}
use Rattle.td_catalog.specs.Kept.{change_of}
use Rattle.td_verdict.specs.Sound.{IsSound}
use Rattle.td_bind.proofs.Steps.{step_sound}
use Rattle.td_tables.proofs.Subtables.{kept_right}
use Rattle.td_tables.proofs.Steps.{stepped}
use Rattle.td_tables.proofs.tables.Tables.apply.Goals as goal

pub invariant_of-self : goal.invariant_of-self
invariant_of-self c =
    let changed = c.apply-2.ensures.entry c.prepared.inside.entry.what
    (ap (λ p. p.change) c.prepared.view_is ∙ c.requires.change ∙ ap (λ p. change_of p.entry.what) (sym c.prepared.view_is)) in
    let state_is = stepped c.args.self.now.state c.prepared.inside.entry c.self.inside.version c.self.inside.moment c.self.inside.catalog.catalog c.apply-2.new.self.catalog c.self.inside.contents.kept c.apply.new.self.kept
    (ap (λ h. h.state) c.self.view_is) c.apply.ensures changed
    ∙ ap (λ p. step (c.args.self.now.state ∷ []) p.entry) c.prepared.view_is in
    let sound = subst IsSound (ap (λ h. h.state) c.self.view_is) c.self.invariant.sound in
    let after = step_sound (c.args.self.now.state ∷ []) c.args.prepared.entry sound c.requires.takes.follows c.requires.takes.edge in
    record {
      subtables = kept_right c.prepared.inside.entry.what (c.self.inside.version + 1) c.prepared.inside.entry.moment c.self.inside.catalog.catalog c.apply-2.new.self.catalog c.self.inside.contents.kept c.apply.new.self.kept c.self.invariant.subtables c.apply.ensures changed;
      sound = subst IsSound (sym state_is) after;
    }

pub returns : goal.returns
returns c =
    let changed = c.apply-2.ensures.entry c.prepared.inside.entry.what
    (ap (λ p. p.change) c.prepared.view_is ∙ c.requires.change ∙ ap (λ p. change_of p.entry.what) (sym c.prepared.view_is)) in
    stepped c.args.self.now.state c.prepared.inside.entry c.self.inside.version c.self.inside.moment c.self.inside.catalog.catalog c.apply-2.new.self.catalog c.self.inside.contents.kept c.apply.new.self.kept
    (ap (λ h. h.state) c.self.view_is) c.apply.ensures changed
    ∙ ap (λ p. step (c.args.self.now.state ∷ []) p.entry) c.prepared.view_is
