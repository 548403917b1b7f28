use Rattle.std.proofs.Common.{arith, rules}
use Rattle.td_opening.specs.Opening.{ItemsRefuse}
use Rattle.td_opening.proofs.Items.{turn_in_range, turn_has_room, turn_fits, turn_refuses, replay_turns}
use Rattle.td_opening.proofs.replaying.replay_items.Goals as goal

pub replay_item-requires-clause-version : goal.replay_item-requires-clause-version
replay_item-requires-clause-version c =
    (turn_in_range c.args.tables.now.state c.args.levels.now c.args.items.now c.loop-item.item-index
    c.loop-item.tables.state c.loop-item.levels c.loop-item.gate c.item-item.result (omega arith) c.item-item.is
    c.loop-item.invariant c.requires.fit).version_is

pub replay_item-requires-clause-moment : goal.replay_item-requires-clause-moment
replay_item-requires-clause-moment c =
    (turn_in_range c.args.tables.now.state c.args.levels.now c.args.items.now c.loop-item.item-index
    c.loop-item.tables.state c.loop-item.levels c.loop-item.gate c.item-item.result (omega arith) c.item-item.is
    c.loop-item.invariant c.requires.fit).last_moment

pub replay_item-requires-clause-size : goal.replay_item-requires-clause-size
replay_item-requires-clause-size c =
    turn_has_room c.args.tables.now.state c.args.levels.now c.args.items.now c.loop-item.item-index
    c.loop-item.tables.state c.loop-item.levels c.loop-item.gate c.item-item.result (omega arith) c.item-item.is
    c.loop-item.invariant c.requires.size

pub replay_item-requires-clause-fits : goal.replay_item-requires-clause-fits
replay_item-requires-clause-fits c =
    turn_fits c.args.tables.now.state c.args.levels.now c.args.items.now c.loop-item.item-index
    c.loop-item.tables.state c.loop-item.levels c.loop-item.gate c.requires.empty c.is_sound.ensures.catalog
    c.requires.fit c.loop-item.invariant

pub loop-item-preserved : goal.loop-item-preserved
loop-item-preserved c =
    replay_turns c.args.tables.now.state c.args.levels.now c.args.items.now c.loop-item.item-index
    c.loop-item.tables.state c.replay_item.new.tables.state c.loop-item.levels c.replay_item.new.levels
    c.loop-item.gate c.in_ok-gate.gate c.item-item.result (omega arith) c.item-item.is c.loop-item.invariant
    c.in_ok-gate.ensures.ok c.in_ok-gate.ensures.next

pub returns-in_err-gate-clause-err : goal.returns-in_err-gate-clause-err
returns-in_err-gate-clause-err c =
    let refused : ItemsRefuse c.args.log c.args.items.now c.args.tables.now.state c.in_err-gate.field-0.0 =
    turn_refuses c.args.log c.args.tables.now.state c.args.levels.now c.args.items.now c.loop-item.item-index
    c.loop-item.tables.state c.loop-item.levels c.loop-item.gate c.item-item.result c.in_err-gate.field-0.0
    c.requires.empty (omega arith) c.item-item.is c.loop-item.invariant c.in_err-gate.ensures.err in
    search rules
