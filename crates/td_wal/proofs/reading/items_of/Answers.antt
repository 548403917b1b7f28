use Rattle.td_wal.proofs.LogLaws.{reads_on, reads_less}
use Rattle.td_wal.proofs.reading.items_of.Goals as goal

pub loop-gate-smaller : goal.loop-gate-smaller
loop-gate-smaller c =
    reads_less c.loop-gate.version c.loop-gate.least c.in-Some.gate.now c.loop-gate.rest.now c.in-Some.more.now c.in-Ok.item c.in-Ok.next.now c.loop-gate.invariant.rest_are c.in-Some.ensures.cases.0 c.in-Ok.ensures.read

pub loop-gate-preserved : goal.loop-gate-preserved
loop-gate-preserved c =
    reads_on c.args.first c.args.bytes.now c.loop-gate.items c.add.new.self c.loop-gate.rest.now c.loop-gate.version c.loop-gate.least c.in-Some.gate.now c.in-Some.more.now c.in-Ok.item c.in-Ok.next.now
    c.in_ok-add-in-Ok.ensures.ok c.loop-gate.invariant c.in-Some.ensures.cases.0 c.if-gate-ne1.false c.in-Ok.ensures.read
