use Rattle.td_rows.proofs.Walked.{Keeping}
use Rattle.td_rows.proofs.tree.RowTree.kept_from.Given as goal

-- the rows to keep are all in the tree, and of the others those that the walk has still to come to
abbrev pub invariant-loop-key : goal.invariant-loop-key
invariant-loop-key l = Keeping l.ts l.self l.tree l.key-iterator
