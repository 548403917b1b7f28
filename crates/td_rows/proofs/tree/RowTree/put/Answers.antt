use Rattle.std.proofs.Common.{sym, subst}
use Rattle.td_layer.specs.Keys.{InKeyOrder, key_cmp}
use Rattle.td_memtree.proofs.Around.{rises_put}
use Rattle.td_rows.proofs.InOrder.{keys_total}
use Rattle.td_rows.proofs.tree.RowTree.put.Goals as goal

pub invariant_of-self-2 : goal.invariant_of-self-2
invariant_of-self-2 c =
    subst InKeyOrder (sym c.in_ok-set.ensures.ok)
    (rises_put key_cmp keys_total c.self.inside.tree c.args.put.now.key c.in_ok-row.row c.self.invariant)
