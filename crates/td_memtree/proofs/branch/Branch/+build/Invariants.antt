use Rattle.td_memtree.proofs.branch.Branch.+build.Given as goal

abbrev pub decreases-build : goal.decreases-build
decreases-build g l = l.forks
