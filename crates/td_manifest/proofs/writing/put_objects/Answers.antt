use Rattle.td_manifest.specs.Writing.{can_put_stable, can_put_table, can_put_set, can_put_stream}
use Rattle.td_manifest.proofs.WritingLaws.{head_pass, same_can_put}
use Rattle.td_manifest.proofs.writing.put_objects.Goals as goal

pub put_list-requires-clause-few : goal.put_list-requires-clause-few
put_list-requires-clause-few c = (same_can_put can_put_stable c.args.head.now.stables c.as_slice.result.now c.as_slice.ensures (head_pass c.args.head.now c.requires).stables).0

pub put_list-requires-clause-can_put : goal.put_list-requires-clause-can_put
put_list-requires-clause-can_put c = (same_can_put can_put_stable c.args.head.now.stables c.as_slice.result.now c.as_slice.ensures (head_pass c.args.head.now c.requires).stables).1

pub put_list-requires-2-clause-few : goal.put_list-requires-2-clause-few
put_list-requires-2-clause-few c = (same_can_put can_put_table c.args.head.now.tables c.as_slice-2.result.now c.as_slice-2.ensures (head_pass c.args.head.now c.requires).tables).0

pub put_list-requires-2-clause-can_put : goal.put_list-requires-2-clause-can_put
put_list-requires-2-clause-can_put c = (same_can_put can_put_table c.args.head.now.tables c.as_slice-2.result.now c.as_slice-2.ensures (head_pass c.args.head.now c.requires).tables).1

pub put_list-requires-3-clause-few : goal.put_list-requires-3-clause-few
put_list-requires-3-clause-few c = (same_can_put can_put_set c.args.head.now.sets c.as_slice-3.result.now c.as_slice-3.ensures (head_pass c.args.head.now c.requires).sets).0

pub put_list-requires-3-clause-can_put : goal.put_list-requires-3-clause-can_put
put_list-requires-3-clause-can_put c = (same_can_put can_put_set c.args.head.now.sets c.as_slice-3.result.now c.as_slice-3.ensures (head_pass c.args.head.now c.requires).sets).1

pub put_list-requires-4-clause-few : goal.put_list-requires-4-clause-few
put_list-requires-4-clause-few c = (same_can_put can_put_stream c.args.head.now.streams c.as_slice-4.result.now c.as_slice-4.ensures (head_pass c.args.head.now c.requires).streams).0

pub put_list-requires-4-clause-can_put : goal.put_list-requires-4-clause-can_put
put_list-requires-4-clause-can_put c = (same_can_put can_put_stream c.args.head.now.streams c.as_slice-4.result.now c.as_slice-4.ensures (head_pass c.args.head.now c.requires).streams).1
