use Rattle.td_manifest.proofs.Loops.{added_new}
use Rattle.td_manifest.proofs.names.Names.add.Goals as goal

pub returns-clause-new : goal.returns-clause-new
returns-clause-new c =
    added_new (λ k. k.items) c.args.name.now c.in_ok-key.key.items c.in_ok-added.added c.self.inside.set.keys c.args.self.now c.in_ok-key.ensures.items c.self.view_is c.in_ok-added.ensures.added
