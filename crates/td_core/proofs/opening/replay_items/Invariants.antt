use Rattle.td_core.proofs.Items.{ReplaySoFar}
use Rattle.td_core.proofs.opening.replay_items.Given as goal

abbrev pub invariant-loop-item : goal.invariant-loop-item
invariant-loop-item l = ReplaySoFar l.fn.tables.state l.items l.item-index l.tables.state l.gate
