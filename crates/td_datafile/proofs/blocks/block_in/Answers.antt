use Rattle.std.proofs.Common.{◌≤◌, length, arith, rules}
use Rattle.td_datafile.proofs.Heads.{own_used}
use Rattle.td_datafile.proofs.Named.{whole_place}
use Rattle.td_datafile.proofs.blocks.block_in.Goals as goal

pub overflow_add-at : goal.overflow_add-at
overflow_add-at g c =
    let e = rw c.in-Err-Bad.field-0-is at c.in-Err-Bad.ensures.read in
    let le : c.in-Err-Bad.place ≤ length c.args.part.now = whole_place c.args.kinds.now c.args.head.rows c.args.part.now c.in-Err-Bad.place e in
    search (rules, arith)

pub returns-in-Ok-clause-used : goal.returns-in-Ok-clause-used
returns-in-Ok-clause-used g c = own_used c.args.kinds.now c.args.part.now c.in-Ok.block c.in-Ok.ensures.begins c.in-Ok.ensures.holds
