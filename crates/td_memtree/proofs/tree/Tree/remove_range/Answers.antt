use Rattle.std.proofs.Common.{sym, ◌∙◌}
use Rattle.td_layer.specs.Keys.{key_cmp}
use Rattle.td_memtree.proofs.Keyed.{keys_total}
use Rattle.td_memtree.proofs.Taking.{taking, take_next, taken_all, taken_beyond}
use Rattle.td_memtree.proofs.tree.Tree.remove_range.Goals as goal

pub loop-key-init : goal.loop-key-init
loop-key-init g c = taking key_cmp c.args.lo c.args.hi _ _ _ c.in_ok-left.ensures c.walk-rest.ensures.pairs c.walk-rest.ensures.in_order

pub loop-key-preserved : goal.loop-key-preserved
loop-key-preserved g c = take_next key_cmp c.args.lo c.args.hi keys_total _ _ _ _ _ (c.in-Some.key, c.in-Some.field-0-1.now) _ c.loop-key.invariant c.in-Some.ensures.steps (sym c.cmp.ensures) c.in-Equal.is c.in_ok-left-in-Equal.ensures

pub returns-in-Less : goal.returns-in-Less
returns-in-Less g c = taken_beyond key_cmp c.args.lo c.args.hi keys_total _ _ _ _ (c.in-Some.key, c.in-Some.field-0-1.now) c.loop-key.invariant c.in-Some.ensures.steps (sym c.cmp.ensures ∙ c.in-Less.is)

pub returns : goal.returns
returns g c = taken_all key_cmp c.args.lo c.args.hi _ _ _ c.loop-key.invariant c.in_default.ensures.steps.0
