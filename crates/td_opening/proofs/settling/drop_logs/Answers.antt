use Rattle.td_outside.specs.Logs.{after_log_drop}
use Rattle.std.proofs.Common.{◌-◌}
use Rattle.td_opening.proofs.LogsSettled.{told_then, told_by, told_by_empty, empty_still, drop_before}
use Rattle.td_opening.proofs.settling.drop_logs.Goals as goal

pub returns-in_ok-log_drop-2-clause-tidy : goal.returns-in_ok-log_drop-2-clause-tidy
returns-in_ok-log_drop-2-clause-tidy g c =
    let fl = c.args.first_log in
    let old = g.S.Store.told c.args.store.now in
    let one = g.S.Store.told c.log_drop.new.self in
    let two = g.S.Store.told c.log_drop-then-drops.new.self in
    told_then fl old one two (told_by fl (after_log_drop (fl - 1)) old one (λ image. drop_before fl image c.requires.range.0) c.in_ok-log_drop.ensures.ok)
    (told_by_empty fl one two (empty_still fl old one (c.requires.empty c.if-drops.true) c.in_ok-log_drop.ensures.ok)
    c.in_ok-log_drop-2.ensures.ok)
