use Rattle.std.proofs.Common.{arith}
use Rattle.td_memtree.proofs.Forked.{fork_fit}
use Rattle.td_memtree.proofs.put.recount.Goals as goal

pub returns-clause-fit : goal.returns-clause-fit
returns-clause-fit g c = fork_fit c.args.fork.now.key c.args.fork.now.left c.args.fork.now.right c.forks.ensures.sound c.forks-2.ensures.sound c.requires.parted c.requires.balanced _ _ (omega (arith, c.forks.ensures.count, c.forks-2.ensures.count)) (omega (arith, c.len.ensures, c.len-2.ensures))
