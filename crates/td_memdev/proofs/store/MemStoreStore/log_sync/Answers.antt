use Rattle.std.proofs.Common.{slice_set, refl, sym, ap, ◌∙◌, subst}
use Rattle.std.specs.Option.{option_map}
use Rattle.td_outside.specs.Logs.{with_log, after_sync}
use Rattle.td_memdev.specs.Kept.{Kept, image_of}
use Rattle.td_memdev.specs.Tables.{IsAt}
use Rattle.td_memdev.specs.declared.logs.LogEntry.{LogEntry}
use Rattle.td_memdev.specs.contracts.store.MemStore.{the_view}
use Rattle.td_memdev.proofs.Changes.{edited, table_set, with_log_image}
use Rattle.td_memdev.proofs.store.MemStoreStore.log_sync.Goals as goal

pub invariant_of-self-2 : goal.invariant_of-self-2
invariant_of-self-2 c =
    let at = subst (λ (k : Kept). IsAt (λ (e : LogEntry). e.number) c.args.log c.log_place-place.result k.logs) (sym c.self.view_is) c.log_place-place.ensures.there in
    let v = edited (λ (e : LogEntry). e.number) c.args.log c.log_place-place.result c.self.inside.logs.items at c.index_mut.result.now c.sync.new.self c.index_mut.ensures.value (λ e. record e { log = option_map after_sync e.log }) c.sync.ensures in
    (table_set (λ (e : LogEntry). e.number) c.args.log c.log_place-place.result c.self.inside.logs.items at c.sync.new.self (ap (λ (e : LogEntry). e.number) v ∙ at.number_is) c.self.invariant.0, c.self.invariant.1)

pub returns-clause-ok : goal.returns-clause-ok
returns-clause-ok c =
    let old : Kept = the_view c.self.inside in
    let at = subst (λ (k : Kept). IsAt (λ (e : LogEntry). e.number) c.args.log c.log_place-place.result k.logs) (sym c.self.view_is) c.log_place-place.ensures.there in
    let v = edited (λ (e : LogEntry). e.number) c.args.log c.log_place-place.result c.self.inside.logs.items at c.index_mut.result.now c.sync.new.self c.index_mut.ensures.value (λ e. record e { log = option_map after_sync e.log }) c.sync.ensures in
    with_log_image old (record old { logs = slice_set old.logs c.log_place-place.result c.sync.new.self }) c.args.log c.log_place-place.result (after_sync) at c.sync.new.self v (record { head = refl; heads = refl; files = refl; logs_are = refl })
    ∙ ap (λ (k : Kept). with_log c.args.log (after_sync) (image_of k)) c.self.view_is
