use Rattle.std.proofs.Common.{sym, ◌∙◌}
use Rattle.td_bind.specs.Seen.{texts}
use Rattle.td_bind.proofs.Twice.{found_twice, none_more}
use Rattle.td_bind.proofs.seen.stands_twice.Goals as goal

pub returns-then-not-added : goal.returns-then-not-added
returns-then-not-added c =
    sym
    (found_twice c.args.names.now c.loop-name.name-index c.name-item.result (texts c.loop-name.seen.keys) c.loop-name-test.true c.name-item.is c.loop-name.invariant.0
    (sym c.in_ok-added.ensures.added ∙ c.if-not-added.true))

pub loop-name-preserved : goal.loop-name-preserved
loop-name-preserved c =
    let added = c.if-not-added.false in
    none_more c.args.names.now c.loop-name.name-index c.name-item.result (texts c.loop-name.seen.keys) (texts c.add.new.seen.keys) c.loop-name-test.true c.name-item.is c.loop-name.invariant.0 c.loop-name.invariant.1
    (sym c.in_ok-added.ensures.added ∙ added)
    (c.in_ok-added.ensures.keys added)
