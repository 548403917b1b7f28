use Rattle.std.proofs.Common.{◌≡◌, Option, refl, subst}
use Rattle.std.specs.Prelude.{IfSome}
use Rattle.td_outside.specs.Image.{Image, Along}
use Rattle.td_opening.specs.declared.causes.OpenCause.{OpenCause}
use Rattle.td_opening.specs.Opening.{BreaksBy, SettlesBy, Tidies}
use Rattle.td_opening.proofs.BothLogs.{handed_on}
use Rattle.td_opening.proofs.OpenedAs.{is_opened}
use Rattle.td_opening.proofs.Reading.{count_handed_on, fault_apart, fault_breaks}
use Rattle.td_opening.proofs.opening.open_store.Goals as goal

pub returns-in_err-settle-clause-strange : goal.returns-in_err-settle-clause-strange
returns-in_err-settle-clause-strange g c =
    let old = g.S.Store.told c.args.store.now in
    handed_on c.from_residual-in_err-settle.result c.in_err-settle.field-0.0
    (λ (e : OpenCause). IfSome old (BreaksBy e)) c.from_residual-in_err-settle.ensures.1
    (fault_breaks c.in_err-settle.field-0.0 old c.in_err-settle.ensures.fault)

pub returns-in_err-settle-clause-untouched : goal.returns-in_err-settle-clause-untouched
returns-in_err-settle-clause-untouched g c =
    fault_apart _ c.from_residual-in_err-settle.result c.in_err-settle.field-0.0 c.from_residual-in_err-settle.ensures.1
    c.in_err-settle.ensures.fault

pub returns-in_err-settle-clause-count : goal.returns-in_err-settle-clause-count
returns-in_err-settle-clause-count g c =
    count_handed_on c.from_residual-in_err-settle.result c.in_err-settle.field-0.0
    (g.S.Store.count c.args.store.now) (g.S.Store.count c.read_store.new.store) (g.S.Store.count c.settle.new.store)
    c.from_residual-in_err-settle.ensures.1 c.in_ok-said.ensures.count c.in_err-settle.ensures.count

pub returns-clause-ok : goal.returns-clause-ok
returns-clause-ok g c =
    let said = c.in_ok-said.said in
    let made = c.in_ok-tables.field-0 in
    let old = g.S.Store.told c.args.store.now in
    let new = g.S.Store.told c.settle.new.store in
    is_opened said
    (record {
      tables = made.tables;
      levels = made.levels;
      committed = said.head.version;
      log = made.replayed.log;
      sealed = made.replayed.sealed;
    })
    old new c.in_ok-said.ensures.whole c.in_ok-said.ensures.says c.in_ok-tables.ensures.ok refl
    (subst (λ (told : Option Image). Along (SettlesBy said made.replayed.log) told new) c.in_ok-said.ensures.told
    c.in_ok-settle.ensures.ok)
    (subst (λ (told : Option Image). Along Tidies told new) c.in_ok-said.ensures.told c.in_ok-settle.ensures.tidy)
