use Rattle.std.proofs.Common.{◌≤◌, length, arith, rules}
use Rattle.td_datafile.proofs.Heads.{head_place}
use Rattle.td_datafile.proofs.blocks.head_in.Goals as goal

pub overflow_add-at : goal.overflow_add-at
overflow_add-at g c =
    let e = rw c.in-Err-Bad.field-0-is at c.in-Err-Bad.ensures in
    let le : c.in-Err-Bad.place ≤ length c.args.part.now = head_place c.args.part.now c.in-Err-Bad.place e in
    search (rules, arith)
