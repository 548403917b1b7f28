use Rattle.std.proofs.Common.{◌+◌, length}
use Rattle.td_manifest.specs.Places.{file_offset}
use Rattle.td_manifest.proofs.PlaceLaws.{past_set}
use Rattle.td_manifest.proofs.places.place_among.Goals as goal

pub loop-set-preserved : goal.loop-set-preserved
loop-set-preserved c =
    past_set c.args.sets.now c.loop-set.set-index c.loop-set.left c.count_of_files-count.result (length c.args.before + file_offset c.args.sets.now c.args.index) c.set-item.result c.loop-set.before c.put.new.out
    c.loop-set-test.true c.set-item.is c.count_of_files-count.ensures c.if-left-count.false c.in_ok-put.ensures c.loop-set.invariant
