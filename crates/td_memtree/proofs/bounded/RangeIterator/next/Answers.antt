use Rattle.std.proofs.Common.{sym, ◌∙◌}
use Rattle.td_layer.specs.Keys.{key_cmp}
use Rattle.td_memtree.proofs.Keyed.{keys_total}
use Rattle.td_memtree.proofs.UpTo.{past, here}
use Rattle.td_memtree.proofs.bounded.RangeIterator.next.Goals as goal

pub returns-in-Greater-clause-steps : goal.returns-in-Greater-clause-steps
returns-in-Greater-clause-steps g c =
    let p = past key_cmp c.self.inside.last keys_total _ _ (c.in-Some.key, c.in-Some.item.now) c.self.invariant c.in-Some.ensures.steps (sym c.cmp.ensures ∙ c.in-Greater.is) in
    (sym c.self.view_is ∙ p.0, p.1)

pub returns-in-Less-clause-steps : goal.returns-in-Less-clause-steps
returns-in-Less-clause-steps g c = sym c.self.view_is ∙ here key_cmp c.self.inside.last _ _ (c.in-Some.key, c.in-Some.item.now) _ c.in-Some.ensures.steps (sym c.cmp.ensures) c.in-Less.is
