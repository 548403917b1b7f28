use Rattle.std.proofs.Common.{arith}
use Rattle.td_opening.proofs.BothLogs.{second_made}
use Rattle.td_opening.proofs.StateHeads.{tables_heads}
use Rattle.td_opening.proofs.replaying.replay_second.Goals as goal

pub returns-clause-ok : goal.returns-clause-ok
returns-clause-ok c =
    let s = c.args.tables.now.state in
    let h = c.args.head.now in
    let sealed = c.in_ok-sealed.ensures in
    let below = c.requires.log in
    second_made h c.args.bytes.now s c.args.levels.now c.freeze.new.self c.replay_log.new.tables.state
    c.replay_log.new.levels c.in_ok-gate.gate c.version-first.result c.in_ok-sealed.sealed c.freeze.ensures
    c.in_ok-gate.ensures.ok c.version-first.ensures c.requires.streams c.requires.going sealed.state sealed.sets
    sealed.streams sealed.first_log
    (sealed.fits c.requires.going (tables_heads s.catalog c.requires.heads) (omega arith) (omega (arith, below)) (omega (arith, c.requires.least, below)))
