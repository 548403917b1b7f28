use Rattle.td_manifest.specs.Writing.{can_put_stable, can_put_table}
use Rattle.td_manifest.proofs.WritingLaws.{head_pass, same_can_put}
use Rattle.td_manifest.proofs.places.put_catalog.Goals as goal

pub put_list-requires-clause-few : goal.put_list-requires-clause-few
put_list-requires-clause-few c = (same_can_put can_put_stable c.args.head.now.stables c.as_slice.result.now c.as_slice.ensures (head_pass c.args.head.now c.requires).stables).0

pub put_list-requires-clause-can_put : goal.put_list-requires-clause-can_put
put_list-requires-clause-can_put c = (same_can_put can_put_stable c.args.head.now.stables c.as_slice.result.now c.as_slice.ensures (head_pass c.args.head.now c.requires).stables).1

pub put_list-requires-2-clause-few : goal.put_list-requires-2-clause-few
put_list-requires-2-clause-few c = (same_can_put can_put_table c.args.head.now.tables c.as_slice-2.result.now c.as_slice-2.ensures (head_pass c.args.head.now c.requires).tables).0

pub put_list-requires-2-clause-can_put : goal.put_list-requires-2-clause-can_put
put_list-requires-2-clause-can_put c = (same_can_put can_put_table c.args.head.now.tables c.as_slice-2.result.now c.as_slice-2.ensures (head_pass c.args.head.now c.requires).tables).1
