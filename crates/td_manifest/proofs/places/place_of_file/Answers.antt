use Rattle.td_manifest.specs.Writing.{can_put_set}
use Rattle.td_manifest.proofs.WritingLaws.{head_pass, same_can_put}
use Rattle.td_manifest.proofs.places.place_of_file.Goals as goal

pub place_among-requires : goal.place_among-requires
place_among-requires c = (same_can_put can_put_set c.args.head.now.sets c.as_slice.result.now c.as_slice.ensures (head_pass c.args.head.now c.requires).sets).1
