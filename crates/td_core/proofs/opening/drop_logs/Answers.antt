use Rattle.td_outside.specs.Logs.{after_log_drop, after_failed_log_drop}
use Rattle.td_core.proofs.Settling.{told_then, told_by, told_by_empty, empty_still, drop_before, drop_fails}
use Rattle.td_core.proofs.opening.drop_logs.Goals as goal

pub returns-in_err-log_drop-clause-tidy : goal.returns-in_err-log_drop-clause-tidy
returns-in_err-log_drop-clause-tidy g c =
    told_by (after_failed_log_drop 0) (g.S.Store.told c.args.store.now) (g.S.Store.told c.log_drop.new.self)
    (drop_fails 0) c.in_err-log_drop.ensures.failed

pub returns-in_err-log_drop-2-clause-tidy : goal.returns-in_err-log_drop-2-clause-tidy
returns-in_err-log_drop-2-clause-tidy g c =
    let old = g.S.Store.told c.args.store.now in
    let one = g.S.Store.told c.log_drop.new.self in
    let two = g.S.Store.told c.log_drop-then-drops.new.self in
    told_then old one two (told_by (after_log_drop 0) old one drop_before c.in_ok-log_drop.ensures.ok)
    (told_by (after_failed_log_drop 2) one two (drop_fails 2) c.in_err-log_drop-2.ensures.failed)

pub returns-in_ok-log_drop-2-clause-tidy : goal.returns-in_ok-log_drop-2-clause-tidy
returns-in_ok-log_drop-2-clause-tidy g c =
    let old = g.S.Store.told c.args.store.now in
    let one = g.S.Store.told c.log_drop.new.self in
    let two = g.S.Store.told c.log_drop-then-drops.new.self in
    told_then old one two (told_by (after_log_drop 0) old one drop_before c.in_ok-log_drop.ensures.ok)
    (told_by_empty one two (empty_still old one (c.requires c.if-drops.true) c.in_ok-log_drop.ensures.ok)
    c.in_ok-log_drop-2.ensures.ok)
