use Rattle.std.proofs.Common.{rules, ◌≤◌, length}
use Rattle.td_wal.proofs.ItemLaws.{step_fault}
use Rattle.td_wal.proofs.reading.step_in.Goals as goal

pub overflow_add-result-in-Err-Broken : goal.overflow_add-result-in-Err-Broken
overflow_add-result-in-Err-Broken c =
    let read = rw c.in-Err-Broken.field-0-is at c.in-Err-Broken.ensures in
    let within : c.in-Err-Broken.left ≤ length c.split_at.result.0.now = step_fault c.args.version c.args.moment c.args.size c.args.bytes.now c.split_at.result.0.now c.in-Err-Broken.left (λ i. (c.type_inv.bytes i).fits) c.split_at.ensures.front read in
    search rules
