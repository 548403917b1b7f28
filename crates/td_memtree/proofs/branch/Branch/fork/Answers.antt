use Rattle.std.proofs.Common.{sym, subst, arith}
use Rattle.td_memtree.specs.Branches.{ForkIsFit}
use Rattle.td_memtree.proofs.Forked.{fork_fit}
use Rattle.td_memtree.proofs.branch.Branch.fork.Goals as goal

pub invariant_of-result : goal.invariant_of-result
invariant_of-result g c = subst ForkIsFit (sym c.in_ok-fork.ensures.ok) (fork_fit c.args.key c.args.left c.args.right c.forks.ensures.sound c.forks-2.ensures.sound c.requires.parted c.requires.balanced _ _ (omega (arith, c.forks.ensures.count, c.forks-2.ensures.count)) (omega (arith, c.len.ensures, c.len-2.ensures)))
