use Rattle.std.proofs.Common.{◌≤◌, length, arith, rules}
use Rattle.td_sttfile.proofs.Heads.{head_place, head_says}
use Rattle.td_sttfile.proofs.blocks.head_in.Goals as goal

pub overflow_add-at : goal.overflow_add-at
overflow_add-at g c =
    let e = rw c.in-Err-Bad.field-0-is at c.in-Err-Bad.ensures in
    let le : c.in-Err-Bad.place ≤ length c.args.part.now = head_place c.args.part.now c.in-Err-Bad.place e in
    search (rules, arith)

pub returns-in-Ok-clause-rows : goal.returns-in-Ok-clause-rows
returns-in-Ok-clause-rows g c = (head_says c.args.part.now c.in-Ok.head (λ i. (c.type_inv.part i).fits) c.in-Ok.ensures).0

pub returns-in-Ok-clause-long : goal.returns-in-Ok-clause-long
returns-in-Ok-clause-long g c = (head_says c.args.part.now c.in-Ok.head (λ i. (c.type_inv.part i).fits) c.in-Ok.ensures).1
