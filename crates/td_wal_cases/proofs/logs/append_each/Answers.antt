use Rattle.td_wal_cases.proofs.Appended.{writes, has_room, goes_on}
use Rattle.td_wal_cases.proofs.logs.append_each.Goals as goal

pub append-requires-clause-writable : goal.append-requires-clause-writable
append-requires-clause-writable g c κs within = writes c.args.first c.loop-item.item-index c.args.items.now c.item-item.result c.requires.some c.requires.fit c.loop-item-test.true c.item-item.is

pub append-requires-clause-place : goal.append-requires-clause-place
append-requires-clause-place g c κs within =
    has_room c.loop-item.at c.item-item.result c.if-at-ge-MOST.false
    (writes c.args.first c.loop-item.item-index c.args.items.now c.item-item.result c.requires.some c.requires.fit c.loop-item-test.true c.item-item.is)

pub loop-item-preserved : goal.loop-item-preserved
loop-item-preserved g c =
    goes_on c.args.first c.loop-item.item-index c.loop-item.at c.in_ok-next.next c.args.items.now c.item-item.result (g.S.Store.told c.loop-item.store) (g.S.Store.told c.append.new.store)
    c.requires.fit c.loop-item-test.true c.item-item.is c.in_ok-next.ensures.place c.in_ok-next.ensures.ok c.loop-item.invariant
