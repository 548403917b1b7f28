use Rattle.std.proofs.Common.{◌∙◌, nat_le, filter, sym, subst}
use Rattle.td_layer.specs.Keys.{InKeyOrder, key_cmp}
use Rattle.td_layer.specs.declared.values.Key.{Key}
use Rattle.td_layer.specs.declared.values.Row.{Row}
use Rattle.td_memtree.proofs.Taking.{rises_filter}
use Rattle.td_rows.proofs.Walked.{keeping, take_row, kept_all}
use Rattle.td_rows.proofs.tree.RowTree.kept_from.Goals as goal

pub loop-key-init : goal.loop-key-init
loop-key-init c =
    keeping c.args.ts c.self.inside.tree c.args.self.now c.in_ok-tree.tree c.into_iter-key-iterator.result c.self.view_is c.in_ok-tree.ensures (c.into_iter-key-iterator.ensures.into_iter_gives ∙ c.walk-key-items.ensures.pairs)

pub loop-key-preserved-then-key-ts : goal.loop-key-preserved-then-key-ts
loop-key-preserved-then-key-ts c =
    take_row c.args.ts c.args.self.now c.loop-key.tree c.loop-key.key-iterator c.next.new.self c.in_ok-tree-2.tree (c.in-Some.key, c.in-Some.field-0-1.now) c.loop-key.invariant c.in-Some.ensures.steps c.if-key-ts.true c.in_ok-tree-2.ensures

pub returns : goal.returns
returns c = kept_all c.args.ts c.args.self.now c.loop-key.tree c.loop-key.key-iterator c.loop-key.invariant c.in-None.ensures.steps.0

pub invariant_of-result : goal.invariant_of-result
invariant_of-result c =
    let kept = kept_all c.args.ts c.args.self.now c.loop-key.tree c.loop-key.key-iterator c.loop-key.invariant c.in-None.ensures.steps.0 in
    let sorted : InKeyOrder c.args.self.now = subst InKeyOrder c.self.view_is c.self.invariant in
    subst InKeyOrder (sym kept) (rises_filter key_cmp (λ (e : Key × Row). nat_le c.args.ts e.0.ts) c.args.self.now sorted)
