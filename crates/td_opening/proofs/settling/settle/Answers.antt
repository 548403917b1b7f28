use Rattle.td_opening.proofs.HeadFacts.{log_number}
use Rattle.td_opening.proofs.LogsSettled.{told_then, synced_settles}
use Rattle.td_opening.proofs.Removing.{told_tidies, logs_tidy}
use Rattle.td_opening.proofs.settling.settle.Goals as goal

pub sync_logs-requires-clause-range : goal.sync_logs-requires-clause-range
sync_logs-requires-clause-range g c = λ lifetimes bounds. log_number c.args.said.now.head c.requires.whole.fits

pub drop_logs-requires-clause-range : goal.drop_logs-requires-clause-range
drop_logs-requires-clause-range g c = λ lifetimes bounds. log_number c.args.said.now.head c.requires.whole.fits

pub returns-in_err-sync_logs-clause-tidy : goal.returns-in_err-sync_logs-clause-tidy
returns-in_err-sync_logs-clause-tidy g c =
    logs_tidy c.args.said.now (g.S.Store.told c.args.store.now) (g.S.Store.told c.sync_logs.new.store) c.requires.whole
    c.requires.said c.in_err-sync_logs.ensures.err

pub returns-in_err-drop_logs-clause-tidy : goal.returns-in_err-drop_logs-clause-tidy
returns-in_err-drop_logs-clause-tidy g c =
    let fl = c.args.said.now.head.first_log in
    let old = g.S.Store.told c.args.store.now in
    let mid = g.S.Store.told c.sync_logs.new.store in
    let new = g.S.Store.told c.drop_logs.new.store in
    logs_tidy c.args.said.now old new c.requires.whole c.requires.said
    (told_then fl old mid new (synced_settles fl old mid c.in_ok-sync_logs.ensures.ok) c.in_err-drop_logs.ensures.tidy)

pub returns-in_err-remove_files-clause-tidy : goal.returns-in_err-remove_files-clause-tidy
returns-in_err-remove_files-clause-tidy g c =
    let fl = c.args.said.now.head.first_log in
    let old = g.S.Store.told c.args.store.now in
    let mid = g.S.Store.told c.sync_logs.new.store in
    let gone = g.S.Store.told c.drop_logs.new.store in
    told_tidies c.args.said.now old gone (g.S.Store.told c.remove_files.new.store) c.requires.whole c.requires.said
    (told_then fl old mid gone (synced_settles fl old mid c.in_ok-sync_logs.ensures.ok) c.in_ok-drop_logs.ensures.tidy)
    c.in_err-remove_files.ensures.tidy

pub returns-clause-tidy : goal.returns-clause-tidy
returns-clause-tidy g c =
    let fl = c.args.said.now.head.first_log in
    let old = g.S.Store.told c.args.store.now in
    let mid = g.S.Store.told c.sync_logs.new.store in
    let gone = g.S.Store.told c.drop_logs.new.store in
    told_tidies c.args.said.now old gone (g.S.Store.told c.remove_files.new.store) c.requires.whole c.requires.said
    (told_then fl old mid gone (synced_settles fl old mid c.in_ok-sync_logs.ensures.ok) c.in_ok-drop_logs.ensures.tidy)
    c.in_ok-remove_files.ensures.tidy
