use Rattle.std.proofs.Common.{◌∙◌, ap, length, Err}
use Rattle.std.proofs.lemmas.Result.{err_from_is_err_and}
use Rattle.td_outside.specs.declared.faults.IoFault.{IoFault}
use Rattle.td_wal.specs.declared.appending.WalFault.TheVariants as faults
use Rattle.td_wal.proofs.AppendLaws.{written, open_again}
use Rattle.td_wal.proofs.AppendTold.{writes, syncs, opens, gate_is_there, staged_reaches, still_there, fails_first, fails_written, fails_gate_torn, fails_opened, appends, err_value}
use Rattle.td_wal.proofs.appending.append.Goals as goal

pub log_append-requires : goal.log_append-requires
log_append-requires g c = record { within = gate_is_there c.args.log c.args.at c.args.item.now (g.S.Store.told c.args.store.now) c.requires.gate }

pub returns-in_err-log_append-clause-failed : goal.returns-in_err-log_append-clause-failed
returns-in_err-log_append-clause-failed g c h =
    let old = g.S.Store.told c.args.store.now in
    let new = g.S.Store.told c.log_append.new.self in
    let p = err_from_is_err_and c.from_residual-in_err-log_append.result c.from_residual-in_err-log_append.ensures.1 in
    fails_first c.args.log c.args.at (length c.as_slice.result.now) c.args.item.now old new c.in_err-log_append.field-0.0 p.0 p.2 (err_value c.from_residual-in_err-log_append.result p.0 faults.StoreFault p.1 h) c.requires.gate
    (λ e. c.in_err-log_append.ensures.failed (ap (λ (x : IoFault). Err x) e))

pub log_sync-requires : goal.log_sync-requires
log_sync-requires g c =
    let n = c.args.log in
    let at = c.args.at in
    let i = c.args.item.now in
    let old = g.S.Store.told c.args.store.now in
    let one = g.S.Store.told c.log_append.new.self in
    let wrote = writes n at i c.as_slice.result.now old one (c.as_slice.ensures ∙ c.in_ok-record.ensures) c.requires.gate c.in_ok-log_append.ensures.ok in
    record { there = still_there n at i (written at i) old one c.requires.gate wrote }

pub returns-in_err-log_sync-clause-failed : goal.returns-in_err-log_sync-clause-failed
returns-in_err-log_sync-clause-failed g c h =
    let n = c.args.log in
    let at = c.args.at in
    let i = c.args.item.now in
    let old = g.S.Store.told c.args.store.now in
    let one = g.S.Store.told c.log_append.new.self in
    let two = g.S.Store.told c.log_sync.new.self in
    let wrote = writes n at i c.as_slice.result.now old one (c.as_slice.ensures ∙ c.in_ok-record.ensures) c.requires.gate c.in_ok-log_append.ensures.ok in
    fails_written n at i old one two c.in_err-log_sync.ensures.failed wrote

pub log_gate-requires : goal.log_gate-requires
log_gate-requires g c =
    let n = c.args.log in
    let at = c.args.at in
    let i = c.args.item.now in
    let old = g.S.Store.told c.args.store.now in
    let one = g.S.Store.told c.log_append.new.self in
    let two = g.S.Store.told c.log_sync.new.self in
    let wrote = writes n at i c.as_slice.result.now old one (c.as_slice.ensures ∙ c.in_ok-record.ensures) c.requires.gate c.in_ok-log_append.ensures.ok in
    let synced = syncs n at i (written at i) old one two wrote c.in_ok-log_sync.ensures.ok in
    record { within = staged_reaches n at i old two c.requires.gate synced }

pub returns-in_err-log_gate-clause-failed : goal.returns-in_err-log_gate-clause-failed
returns-in_err-log_gate-clause-failed g c h =
    let n = c.args.log in
    let at = c.args.at in
    let i = c.args.item.now in
    let old = g.S.Store.told c.args.store.now in
    let one = g.S.Store.told c.log_append.new.self in
    let two = g.S.Store.told c.log_sync.new.self in
    let three = g.S.Store.told c.log_gate.new.self in
    let wrote = writes n at i c.as_slice.result.now old one (c.as_slice.ensures ∙ c.in_ok-record.ensures) c.requires.gate c.in_ok-log_append.ensures.ok in
    let synced = syncs n at i (written at i) old one two wrote c.in_ok-log_sync.ensures.ok in
    fails_gate_torn n at i old two three synced c.in_err-log_gate.ensures.failed

pub log_sync-requires-2 : goal.log_sync-requires-2
log_sync-requires-2 g c =
    let n = c.args.log in
    let at = c.args.at in
    let i = c.args.item.now in
    let old = g.S.Store.told c.args.store.now in
    let one = g.S.Store.told c.log_append.new.self in
    let two = g.S.Store.told c.log_sync.new.self in
    let three = g.S.Store.told c.log_gate.new.self in
    let wrote = writes n at i c.as_slice.result.now old one (c.as_slice.ensures ∙ c.in_ok-record.ensures) c.requires.gate c.in_ok-log_append.ensures.ok in
    let synced = syncs n at i (written at i) old one two wrote c.in_ok-log_sync.ensures.ok in
    let opened = opens n at i old two three synced c.in_ok-log_gate.ensures.ok in
    record { there = still_there n at i (open_again at i) old three c.requires.gate opened }

pub returns-in_err-log_sync-2-clause-failed : goal.returns-in_err-log_sync-2-clause-failed
returns-in_err-log_sync-2-clause-failed g c h =
    let n = c.args.log in
    let at = c.args.at in
    let i = c.args.item.now in
    let old = g.S.Store.told c.args.store.now in
    let one = g.S.Store.told c.log_append.new.self in
    let two = g.S.Store.told c.log_sync.new.self in
    let three = g.S.Store.told c.log_gate.new.self in
    let four = g.S.Store.told c.log_sync-2.new.self in
    let wrote = writes n at i c.as_slice.result.now old one (c.as_slice.ensures ∙ c.in_ok-record.ensures) c.requires.gate c.in_ok-log_append.ensures.ok in
    let synced = syncs n at i (written at i) old one two wrote c.in_ok-log_sync.ensures.ok in
    let opened = opens n at i old two three synced c.in_ok-log_gate.ensures.ok in
    fails_opened n at i old three four c.in_err-log_sync-2.ensures.failed opened

pub returns-clause-ok : goal.returns-clause-ok
returns-clause-ok g c =
    let n = c.args.log in
    let at = c.args.at in
    let i = c.args.item.now in
    let old = g.S.Store.told c.args.store.now in
    let one = g.S.Store.told c.log_append.new.self in
    let two = g.S.Store.told c.log_sync.new.self in
    let three = g.S.Store.told c.log_gate.new.self in
    let four = g.S.Store.told c.log_sync-2.new.self in
    let wrote = writes n at i c.as_slice.result.now old one (c.as_slice.ensures ∙ c.in_ok-record.ensures) c.requires.gate c.in_ok-log_append.ensures.ok in
    let synced = syncs n at i (written at i) old one two wrote c.in_ok-log_sync.ensures.ok in
    let opened = opens n at i old two three synced c.in_ok-log_gate.ensures.ok in
    let ended = syncs n at i (open_again at i) old three four opened c.in_ok-log_sync-2.ensures.ok in
    appends n at i old four ended
