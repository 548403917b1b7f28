use Rattle.std.proofs.Common.{arith}
use Rattle.std.proofs.lemmas.Int.{ints}
use Rattle.td_aggr.proofs.Sound.{IsColumnValue-lesser, IsColumnValue-greater, IsColumnMark-earlier, IsColumnMark-later}
use Rattle.td_aggr.proofs.tally.TallyAggr.merge.Goals as goal

pub returns-clause-sound : goal.returns-clause-sound
returns-clause-sound c = record {
  low = omega (arith, ints);
  high = omega (arith, ints);
  min = rw c.lesser.ensures (IsColumnValue-lesser c.args.self.now.min c.args.other.now.min c.requires.left.min c.requires.right.min);
  max = rw c.greater.ensures (IsColumnValue-greater c.args.self.now.max c.args.other.now.max c.requires.left.max c.requires.right.max);
  first = rw c.earlier.ensures (IsColumnMark-earlier c.args.self.now.first c.args.other.now.first c.requires.left.first c.requires.right.first);
  last = rw c.later.ensures (IsColumnMark-later c.args.self.now.last c.args.other.now.last c.requires.left.last c.requires.right.last);
}
