use Rattle.std.proofs.Common.{arith}
use Rattle.td_commit.proofs.Writes.{can_write}
use Rattle.td_commit.proofs.writing.write_range.Goals as goal

pub write_file-requires-clause-rows : goal.write_file-requires-clause-rows
write_file-requires-clause-rows g c κs within =
    let puts = c.held.ensures.puts in
    let cuts = c.held.ensures.cuts in
    let most = c.held.ensures.most in
    can_write c.args.frozen.now c.args.range c.in_ok-list.list.tables c.requires.sound (omega (arith, puts, most)) (omega (arith, cuts, most)) (omega arith) c.in_ok-list.ensures

pub returns-clause-ok : goal.returns-clause-ok
returns-clause-ok g c = record { tables = c.in_ok-list.list.tables; are = c.in_ok-list.ensures; written = c.in_ok-write_file.ensures.ok }
