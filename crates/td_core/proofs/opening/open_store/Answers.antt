use Rattle.std.proofs.Common.{◌≡◌, Bool, Option, refl, sym, subst, ◌∙◌}
use Rattle.std.specs.Prelude.{◌≢◌, IfSome}
use Rattle.td_outside.specs.Image.{Image, Becomes}
use Rattle.td_core.specs.declared.causes.OpenCause.TheVariants as causes
use Rattle.td_core.specs.Opening.{BreaksBy, synced, dropped, drops_second}
use Rattle.td_core.proofs.BothLogs.{failed_breaks, no_memory_breaks, told_stand, logs_halt, handed_on, count_handed_on}
use Rattle.td_core.proofs.Settling.{told_then, synced_tidies, told_empty, opened_kept, opened_settles}
use Rattle.td_core.proofs.opening.open_store.Goals as goal

pub returns-in_err-make_room-clause-strange : goal.returns-in_err-make_room-clause-strange
returns-in_err-make_room-clause-strange g c =
    let told = g.S.Store.told c.args.store.now in
    handed_on c.from_residual-in_err-make_room.result causes.NoMemory (λ cause. IfSome told (BreaksBy cause))
    c.from_residual-in_err-make_room.ensures.1 (no_memory_breaks told)

pub returns-in_err-make_room-clause-count : goal.returns-in_err-make_room-clause-count
returns-in_err-make_room-clause-count g c =
    let old = g.S.Store.count c.args.store.now in
    let read = g.S.Store.count c.read_logs.new.store in
    count_handed_on c.from_residual-in_err-make_room.result causes.NoMemory old read read
    c.from_residual-in_err-make_room.ensures.1 c.in_ok-logs.ensures.count refl

pub returns-in_err-sync_logs-clause-strange : goal.returns-in_err-sync_logs-clause-strange
returns-in_err-sync_logs-clause-strange g c =
    let told = g.S.Store.told c.args.store.now in
    handed_on c.from_residual-in_err-sync_logs.result c.in_err-sync_logs.field-0.0
    (λ cause. IfSome told (BreaksBy cause)) c.from_residual-in_err-sync_logs.ensures.1
    (failed_breaks c.in_err-sync_logs.field-0.0 told c.in_err-sync_logs.ensures.fault)

pub returns-in_err-sync_logs-clause-untouched : goal.returns-in_err-sync_logs-clause-untouched
returns-in_err-sync_logs-clause-untouched g c =
    handed_on c.from_residual-in_err-sync_logs.result c.in_err-sync_logs.field-0.0
    (λ cause. cause ≢ causes.StoreFault → g.S.Store.told c.sync_logs.new.store ≡ g.S.Store.told c.args.store.now)
    c.from_residual-in_err-sync_logs.ensures.1 (λ other. absurd (other c.in_err-sync_logs.ensures.fault))

pub returns-in_err-sync_logs-clause-count : goal.returns-in_err-sync_logs-clause-count
returns-in_err-sync_logs-clause-count g c =
    count_handed_on c.from_residual-in_err-sync_logs.result c.in_err-sync_logs.field-0.0
    (g.S.Store.count c.args.store.now) (g.S.Store.count c.read_logs.new.store)
    (g.S.Store.count c.sync_logs.new.store) c.from_residual-in_err-sync_logs.ensures.1 c.in_ok-logs.ensures.count
    c.in_err-sync_logs.ensures.count

pub drop_logs-requires-after_bounds : goal.drop_logs-requires-after_bounds
drop_logs-requires-after_bounds g c = λ lifetimes bounds goes.
    let old = g.S.Store.told c.args.store.now in
    let logs = c.in_ok-logs.logs in
    let made = c.replay_logs.new.tables.state in
    let read : Becomes synced old (g.S.Store.told c.sync_logs.new.store) = subst
    (λ (x : Option Image). Becomes synced x (g.S.Store.told c.sync_logs.new.store)) c.in_ok-logs.ensures.told
    c.in_ok-sync_logs.ensures.ok in
    told_empty logs made c.in_ok-log.log old (g.S.Store.told c.sync_logs.new.store) c.in_ok-log.ensures.ok
    (sym c.drops_second.ensures ∙ goes) c.in_ok-logs.ensures.logs read

pub returns-in_err-drop_logs-clause-tidy : goal.returns-in_err-drop_logs-clause-tidy
returns-in_err-drop_logs-clause-tidy g c =
    let old = g.S.Store.told c.args.store.now in
    let mid = g.S.Store.told c.sync_logs.new.store in
    let read : Becomes synced old mid = subst (λ (x : Option Image). Becomes synced x mid) c.in_ok-logs.ensures.told
    c.in_ok-sync_logs.ensures.ok in
    told_then old mid (g.S.Store.told c.drop_logs.new.store) (synced_tidies old mid read) c.drop_logs.ensures.tidy

pub returns-in_err-drop_logs-clause-strange : goal.returns-in_err-drop_logs-clause-strange
returns-in_err-drop_logs-clause-strange g c =
    let told = g.S.Store.told c.args.store.now in
    handed_on c.from_residual-in_err-drop_logs.result c.in_err-drop_logs.field-0.0
    (λ cause. IfSome told (BreaksBy cause)) c.from_residual-in_err-drop_logs.ensures.1
    (failed_breaks c.in_err-drop_logs.field-0.0 told c.in_err-drop_logs.ensures.fault)

pub returns-in_err-drop_logs-clause-untouched : goal.returns-in_err-drop_logs-clause-untouched
returns-in_err-drop_logs-clause-untouched g c =
    handed_on c.from_residual-in_err-drop_logs.result c.in_err-drop_logs.field-0.0
    (λ cause. cause ≢ causes.StoreFault → g.S.Store.told c.drop_logs.new.store ≡ g.S.Store.told c.args.store.now)
    c.from_residual-in_err-drop_logs.ensures.1 (λ other. absurd (other c.in_err-drop_logs.ensures.fault))

pub returns-in_err-drop_logs-clause-count : goal.returns-in_err-drop_logs-clause-count
returns-in_err-drop_logs-clause-count g c =
    count_handed_on c.from_residual-in_err-drop_logs.result c.in_err-drop_logs.field-0.0
    (g.S.Store.count c.args.store.now) (g.S.Store.count c.sync_logs.new.store)
    (g.S.Store.count c.drop_logs.new.store) c.from_residual-in_err-drop_logs.ensures.1
    (c.in_ok-sync_logs.ensures.count ∙ c.in_ok-logs.ensures.count) c.in_err-drop_logs.ensures.count

pub returns-clause-stands : goal.returns-clause-stands
returns-clause-stands g c =
    let made = c.replay_logs.new.tables.state in
    told_stand c.in_ok-logs.logs made c.in_ok-log.log (g.S.Store.told c.args.store.now)
    c.in_ok-log.ensures.ok c.in_ok-logs.ensures.logs

pub returns-clause-kept : goal.returns-clause-kept
returns-clause-kept g c =
    let old = g.S.Store.told c.args.store.now in
    let mid = g.S.Store.told c.sync_logs.new.store in
    let new = g.S.Store.told c.drop_logs.new.store in
    let logs = c.in_ok-logs.logs in
    let made = c.replay_logs.new.tables.state in
    let read : Becomes synced old mid = subst (λ (x : Option Image). Becomes synced x mid) c.in_ok-logs.ensures.told
    c.in_ok-sync_logs.ensures.ok in
    let gone : Becomes (dropped (drops_second logs c.in_ok-log.log)) mid new = subst
    (λ (b : Bool). Becomes (dropped b) mid new) c.drops_second.ensures c.in_ok-drop_logs.ensures.ok in
    opened_kept logs made c.in_ok-log.log old mid new c.make_room.new.self.spare c.in_ok-log.ensures.ok
    c.in_ok-logs.ensures.logs read gone c.in_ok-make_room.ensures.ok

pub returns-clause-tidy : goal.returns-clause-tidy
returns-clause-tidy g c =
    let old = g.S.Store.told c.args.store.now in
    let mid = g.S.Store.told c.sync_logs.new.store in
    let read : Becomes synced old mid = subst (λ (x : Option Image). Becomes synced x mid) c.in_ok-logs.ensures.told
    c.in_ok-sync_logs.ensures.ok in
    told_then old mid (g.S.Store.told c.drop_logs.new.store) (synced_tidies old mid read) c.drop_logs.ensures.tidy

pub returns-clause-halt : goal.returns-clause-halt
returns-clause-halt g c =
    let made = c.replay_logs.new.tables.state in
    logs_halt c.in_ok-logs.logs made c.in_ok-log.log c.in_ok-log.ensures.ok

pub returns-clause-image : goal.returns-clause-image
returns-clause-image g c =
    let old = g.S.Store.told c.args.store.now in
    let mid = g.S.Store.told c.sync_logs.new.store in
    let new = g.S.Store.told c.drop_logs.new.store in
    let logs = c.in_ok-logs.logs in
    let made = c.replay_logs.new.tables.state in
    let read : Becomes synced old mid = subst (λ (x : Option Image). Becomes synced x mid) c.in_ok-logs.ensures.told
    c.in_ok-sync_logs.ensures.ok in
    let gone : Becomes (dropped (drops_second logs c.in_ok-log.log)) mid new = subst
    (λ (b : Bool). Becomes (dropped b) mid new) c.drops_second.ensures c.in_ok-drop_logs.ensures.ok in
    opened_settles logs made c.in_ok-log.log old mid new c.in_ok-log.ensures.ok c.in_ok-logs.ensures.logs
    read gone
