use Rattle.std.proofs.Common.{◌<◌, ◌≤◌, [], ◌∷◌, length, slice_set, arith, refl, sym, ap, ◌∙◌, subst}
use Rattle.std.specs.Option.{option_map}
use Rattle.td_outside.specs.Image.{Log}
use Rattle.td_outside.specs.Logs.{with_log, after_write, after_torn_write, Tears, HasLog}
use Rattle.td_memdev.specs.Kept.{Kept, image_of}
use Rattle.td_memdev.specs.Tables.{IsAt}
use Rattle.td_memdev.specs.declared.logs.LogEntry.{LogEntry}
use Rattle.td_memdev.specs.contracts.store.MemStore.{the_view}
use Rattle.td_memdev.proofs.Changes.{edited, table_set, with_log_image, tears_image, has_log}
use Rattle.td_memdev.proofs.store.MemStoreStore.log_gate.Goals as goal

pub tear-requires-clause-place : goal.tear-requires-clause-place
tear-requires-clause-place c =
    let old : Kept = the_view c.self.inside in
    let at = subst (λ (k : Kept). IsAt (λ (e : LogEntry). e.number) c.args.log c.log_place-place.result k.logs) (sym c.self.view_is) c.log_place-place.ensures.there in
    let has : HasLog c.args.log (λ (l : Log). c.args.at < length l.bytes) (image_of old) = subst (λ (k : Kept). HasLog c.args.log (λ (l : Log). c.args.at < length l.bytes) (image_of k)) (sym c.self.view_is) c.requires.within in
    has_log old.logs c.args.log c.log_place-place.result at c.index_mut.result.now c.index_mut.ensures.value (λ (l : Log). c.args.at < length l.bytes) (λ (l : Log). c.args.at ≤ length l.bytes) (λ l h. omega (arith, h)) has

pub invariant_of-self : goal.invariant_of-self
invariant_of-self c =
    let at = subst (λ (k : Kept). IsAt (λ (e : LogEntry). e.number) c.args.log c.log_place-place.result k.logs) (sym c.self.view_is) c.log_place-place.ensures.there in
    let v = edited (λ (e : LogEntry). e.number) c.args.log c.log_place-place.result c.self.inside.logs.items at c.index_mut.result.now c.tear.new.self c.index_mut.ensures.value (λ e. record e { log = option_map (λ log. after_torn_write c.args.at (1) log.bytes log) e.log }) c.tear.ensures in
    (table_set (λ (e : LogEntry). e.number) c.args.log c.log_place-place.result c.self.inside.logs.items at c.tear.new.self (ap (λ (e : LogEntry). e.number) v ∙ at.number_is) c.self.invariant.0, c.self.invariant.1)

pub returns-then-fails-clause-failed : goal.returns-then-fails-clause-failed
returns-then-fails-clause-failed c =
    let old : Kept = the_view c.self.inside in
    let at = subst (λ (k : Kept). IsAt (λ (e : LogEntry). e.number) c.args.log c.log_place-place.result k.logs) (sym c.self.view_is) c.log_place-place.ensures.there in
    let v = edited (λ (e : LogEntry). e.number) c.args.log c.log_place-place.result c.self.inside.logs.items at c.index_mut.result.now c.tear.new.self c.index_mut.ensures.value (λ e. record e { log = option_map (λ log. after_torn_write c.args.at (1) log.bytes log) e.log }) c.tear.ensures in
    let has : HasLog c.args.log (λ (l : Log). c.args.at < length l.bytes) (image_of old) = subst (λ (k : Kept). HasLog c.args.log (λ (l : Log). c.args.at < length l.bytes) (image_of k)) (sym c.self.view_is) c.requires.within in
    subst (λ (k : Kept). Tears c.args.log c.args.at (1) (image_of k) (image_of (record old { logs = slice_set old.logs c.log_place-place.result c.tear.new.self }))) c.self.view_is
    (tears_image old (record old { logs = slice_set old.logs c.log_place-place.result c.tear.new.self }) c.args.log c.log_place-place.result c.args.at (1) (λ (l : Log). c.args.at < length l.bytes) has at c.tear.new.self v (record { head = refl; heads = refl; files = refl; logs_are = refl }))

pub open_gate-requires : goal.open_gate-requires
open_gate-requires c =
    let old : Kept = the_view c.self.inside in
    let at = subst (λ (k : Kept). IsAt (λ (e : LogEntry). e.number) c.args.log c.log_place-place.result k.logs) (sym c.self.view_is) c.log_place-place.ensures.there in
    let has : HasLog c.args.log (λ (l : Log). c.args.at < length l.bytes) (image_of old) = subst (λ (k : Kept). HasLog c.args.log (λ (l : Log). c.args.at < length l.bytes) (image_of k)) (sym c.self.view_is) c.requires.within in
    has_log old.logs c.args.log c.log_place-place.result at c.index_mut-2.result.now c.index_mut-2.ensures.value (λ (l : Log). c.args.at < length l.bytes) (λ (l : Log). c.args.at < length l.bytes) (λ l h. h) has

pub invariant_of-self-2 : goal.invariant_of-self-2
invariant_of-self-2 c =
    let at = subst (λ (k : Kept). IsAt (λ (e : LogEntry). e.number) c.args.log c.log_place-place.result k.logs) (sym c.self.view_is) c.log_place-place.ensures.there in
    let v = edited (λ (e : LogEntry). e.number) c.args.log c.log_place-place.result c.self.inside.logs.items at c.index_mut-2.result.now c.open_gate.new.self c.index_mut-2.ensures.value (λ e. record e { log = option_map (after_write c.args.at (1 ∷ [])) e.log }) c.open_gate.ensures in
    (table_set (λ (e : LogEntry). e.number) c.args.log c.log_place-place.result c.self.inside.logs.items at c.open_gate.new.self (ap (λ (e : LogEntry). e.number) v ∙ at.number_is) c.self.invariant.0, c.self.invariant.1)

pub returns-clause-ok : goal.returns-clause-ok
returns-clause-ok c =
    let old : Kept = the_view c.self.inside in
    let at = subst (λ (k : Kept). IsAt (λ (e : LogEntry). e.number) c.args.log c.log_place-place.result k.logs) (sym c.self.view_is) c.log_place-place.ensures.there in
    let v = edited (λ (e : LogEntry). e.number) c.args.log c.log_place-place.result c.self.inside.logs.items at c.index_mut-2.result.now c.open_gate.new.self c.index_mut-2.ensures.value (λ e. record e { log = option_map (after_write c.args.at (1 ∷ [])) e.log }) c.open_gate.ensures in
    with_log_image old (record old { logs = slice_set old.logs c.log_place-place.result c.open_gate.new.self }) c.args.log c.log_place-place.result (after_write c.args.at (1 ∷ [])) at c.open_gate.new.self v (record { head = refl; heads = refl; files = refl; logs_are = refl })
    ∙ ap (λ (k : Kept). with_log c.args.log (after_write c.args.at (1 ∷ [])) (image_of k)) c.self.view_is
