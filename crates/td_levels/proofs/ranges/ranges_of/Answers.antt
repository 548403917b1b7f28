use Rattle.std.proofs.Common.{◌+◌, Some, refl, sym, subst, ◌∙◌, arith}
use Rattle.td_levels.specs.Days.{LeastFrom, has_cut_files, gets_file}
use Rattle.td_levels.specs.Ranges.{has_put_in}
use Rattle.td_levels.specs.Sets.{sets_of}
use Rattle.td_levels.proofs.LeastOf.{least_or}
use Rattle.td_levels.proofs.RangesOf.{UpTo, gets_fits, upto_more}
use Rattle.td_levels.proofs.ranges.ranges_of.Goals as goal

pub overflow_add-from : goal.overflow_add-from
overflow_add-from c =
    let m = c.args.memtable.now in
    let sets = sets_of c.args.sets.now in
    let least : LeastFrom (gets_file m sets) c.loop-range.from (Some c.in-Some.range) =
    subst (LeastFrom (gets_file m sets) c.loop-range.from) (sym c.earlier.ensures ∙ c.in-Some.is)
    (least_or (λ n. has_put_in n m) (has_cut_files m sets) (gets_file m sets) (λ n. refl) c.loop-range.from c.least_with_put.result c.least_with_cut.result c.least_with_put.ensures c.least_with_cut.ensures) in
    let fits = gets_fits m sets c.requires.times c.requires.ranges c.in-Some.range least.1 in
    omega (arith, fits)

pub loop-range-preserved : goal.loop-range-preserved
loop-range-preserved c =
    let m = c.args.memtable.now in
    let sets = sets_of c.args.sets.now in
    let least : LeastFrom (gets_file m sets) c.loop-range.from (Some c.in-Some.range) =
    subst (LeastFrom (gets_file m sets) c.loop-range.from) (sym c.earlier.ensures ∙ c.in-Some.is)
    (least_or (λ n. has_put_in n m) (has_cut_files m sets) (gets_file m sets) (λ n. refl) c.loop-range.from c.least_with_put.result c.least_with_cut.result c.least_with_put.ensures c.least_with_cut.ensures) in
    subst (UpTo m sets c.args.edge (c.in-Some.range + 1)) (sym c.in_ok-add.ensures.ok)
    (upto_more m sets c.args.edge c.loop-range.from c.in-Some.range c.loop-range.ranges c.loop-range.invariant least)
