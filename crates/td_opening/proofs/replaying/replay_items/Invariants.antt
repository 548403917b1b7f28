use Rattle.td_opening.proofs.Items.{ReplaySoFar}
use Rattle.td_opening.proofs.replaying.replay_items.Given as goal

abbrev pub invariant-loop-item : goal.invariant-loop-item
invariant-loop-item l =
    ReplaySoFar l.fn.tables.state l.fn.levels l.items l.item-index l.tables.state l.levels l.gate
