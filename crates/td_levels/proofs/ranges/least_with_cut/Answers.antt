use Rattle.std.proofs.Common.{◌+◌, take, sym, subst}
use Rattle.td_levels.specs.Days.{LeastFrom, is_cut_set, has_cut_files}
use Rattle.td_levels.specs.Sets.{sets_of}
use Rattle.td_levels.proofs.LeastOf.{least_or, cut_more}
use Rattle.td_levels.proofs.ranges.least_with_cut.Goals as goal

pub loop-set-preserved : goal.loop-set-preserved
loop-set-preserved c =
    let m = c.args.memtable.now in
    let sets = c.args.sets.now in
    let i = c.loop-set.set-index in
    subst (LeastFrom (has_cut_files m (sets_of (take (i + 1) sets))) c.args.from) (sym c.earlier-least.ensures)
    (least_or (has_cut_files m (sets_of (take i sets))) (is_cut_set m c.set-item.result.range) (has_cut_files m (sets_of (take (i + 1) sets)))
    (cut_more m sets i c.set-item.result c.loop-set-test.true c.set-item.is) c.args.from c.loop-set.least c.least_of_set.result c.loop-set.invariant c.least_of_set.ensures)
