use Rattle.std.proofs.Common.{true, false, Some, slice_set, refl, sym, ap, ◌∙◌, subst}
use Rattle.td_outside.specs.Image.{Image}
use Rattle.td_outside.specs.Logs.{new_log, after_log_create, after_failed_log_create}
use Rattle.td_memdev.specs.Kept.{Kept, image_of}
use Rattle.td_memdev.specs.Tables.{IsAt}
use Rattle.td_memdev.specs.declared.logs.LogEntry.{LogEntry}
use Rattle.td_memdev.specs.contracts.store.MemStore.{the_view}
use Rattle.td_memdev.proofs.Changes.{edited, table_set, log_create_image, failed_log_create_image}
use Rattle.td_memdev.proofs.store.MemStoreStore.log_create.Goals as goal

pub invariant_of-self : goal.invariant_of-self
invariant_of-self c =
    let at = subst (λ (k : Kept). IsAt (λ (e : LogEntry). e.number) c.args.log c.in_ok-place.place k.logs) (sym c.self.view_is) c.in_ok-place.ensures.there in
    let v = edited (λ (e : LogEntry). e.number) c.args.log c.in_ok-place.place c.self.inside.logs.items at c.index_mut.result.now (record { number = c.index_mut.result.now.number; log = c.index_mut.result.now.log; fresh = true; gone = c.index_mut.result.now.gone }) c.index_mut.ensures.value (λ e. record e { fresh = true }) refl in
    (table_set (λ (e : LogEntry). e.number) c.args.log c.in_ok-place.place c.self.inside.logs.items at (record { number = c.index_mut.result.now.number; log = c.index_mut.result.now.log; fresh = true; gone = c.index_mut.result.now.gone }) (ap (λ (e : LogEntry). e.number) v ∙ at.number_is) c.self.invariant.0, c.self.invariant.1)

pub returns-then-fails-clause-failed : goal.returns-then-fails-clause-failed
returns-then-fails-clause-failed c _ =
    let old : Kept = the_view c.self.inside in
    let at = subst (λ (k : Kept). IsAt (λ (e : LogEntry). e.number) c.args.log c.in_ok-place.place k.logs) (sym c.self.view_is) c.in_ok-place.ensures.there in
    let v = edited (λ (e : LogEntry). e.number) c.args.log c.in_ok-place.place c.self.inside.logs.items at c.index_mut.result.now (record { number = c.index_mut.result.now.number; log = c.index_mut.result.now.log; fresh = true; gone = c.index_mut.result.now.gone }) c.index_mut.ensures.value (λ e. record e { fresh = true }) refl in
    failed_log_create_image old (record old { logs = slice_set old.logs c.in_ok-place.place (record { number = c.index_mut.result.now.number; log = c.index_mut.result.now.log; fresh = true; gone = c.index_mut.result.now.gone }) }) c.args.log c.in_ok-place.place at (record { number = c.index_mut.result.now.number; log = c.index_mut.result.now.log; fresh = true; gone = c.index_mut.result.now.gone }) v (record { head = refl; heads = refl; files = refl; logs_are = refl })
    ∙ ap (λ (image : Image). after_failed_log_create c.args.log image) (ap image_of c.self.view_is ∙ c.in_ok-place.ensures.image)

pub invariant_of-self-2 : goal.invariant_of-self-2
invariant_of-self-2 c =
    let at = subst (λ (k : Kept). IsAt (λ (e : LogEntry). e.number) c.args.log c.in_ok-place.place k.logs) (sym c.self.view_is) c.in_ok-place.ensures.there in
    let v = edited (λ (e : LogEntry). e.number) c.args.log c.in_ok-place.place c.self.inside.logs.items at c.index_mut-2.result.now c.set_log.new.self c.index_mut-2.ensures.value (λ e. record e { log = Some new_log; fresh = false; gone = false }) (c.set_log.ensures ∙ ap (λ l. record c.index_mut-2.result.now { log = Some l; fresh = false; gone = false }) c.in_ok-fresh.ensures) in
    (table_set (λ (e : LogEntry). e.number) c.args.log c.in_ok-place.place c.self.inside.logs.items at c.set_log.new.self (ap (λ (e : LogEntry). e.number) v ∙ at.number_is) c.self.invariant.0, c.self.invariant.1)

pub returns-clause-ok : goal.returns-clause-ok
returns-clause-ok c =
    let old : Kept = the_view c.self.inside in
    let at = subst (λ (k : Kept). IsAt (λ (e : LogEntry). e.number) c.args.log c.in_ok-place.place k.logs) (sym c.self.view_is) c.in_ok-place.ensures.there in
    let v = edited (λ (e : LogEntry). e.number) c.args.log c.in_ok-place.place c.self.inside.logs.items at c.index_mut-2.result.now c.set_log.new.self c.index_mut-2.ensures.value (λ e. record e { log = Some new_log; fresh = false; gone = false }) (c.set_log.ensures ∙ ap (λ l. record c.index_mut-2.result.now { log = Some l; fresh = false; gone = false }) c.in_ok-fresh.ensures) in
    log_create_image old (record old { logs = slice_set old.logs c.in_ok-place.place c.set_log.new.self }) c.args.log c.in_ok-place.place at c.set_log.new.self v (record { head = refl; heads = refl; files = refl; logs_are = refl })
    ∙ ap (λ (image : Image). after_log_create c.args.log image) (ap image_of c.self.view_is ∙ c.in_ok-place.ensures.image)
