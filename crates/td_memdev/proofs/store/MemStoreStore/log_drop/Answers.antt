use Rattle.std.proofs.Common.{◌≡◌, true, false, List, is_some, not, slice_set, refl, sym, ap, ◌∙◌, subst}
use Rattle.td_outside.specs.Logs.{after_log_drop, after_failed_log_drop}
use Rattle.td_memdev.specs.Kept.{Kept, image_of, log_entry, log_of}
use Rattle.td_memdev.specs.Tables.{IsAt, IsTable}
use Rattle.td_memdev.specs.declared.logs.LogEntry.{LogEntry}
use Rattle.td_memdev.specs.contracts.store.MemStore.{the_view}
use Rattle.td_memdev.proofs.Changes.{edited, table_set, table_remove, log_drop_image, failed_log_drop_image, no_drop_image, log_is}
use Rattle.td_memdev.proofs.Changes.{some_none, true_false}
use Rattle.td_memdev.proofs.store.MemStoreStore.log_drop.Goals as goal

pub returns-then-is_none-clause-ok : goal.returns-then-is_none-clause-ok
returns-then-is_none-clause-ok c =
    let at = subst (λ (xs : List LogEntry). IsAt (λ (e : LogEntry). e.number) c.args.log c.in-Some.place xs) c.deref.ensures.value c.in-Some.ensures.found in
    let log_there : log_of (log_entry c.self.inside.logs.items c.args.log) ≡ c.index.result.now.log = log_is c.self.inside.logs.items c.args.log c.in-Some.place at c.index.result.now c.index.ensures in
    let none : is_some (log_of (log_entry c.args.self.now.logs c.args.log)) ≡ false = subst (λ (k : Kept). is_some (log_of (log_entry k.logs c.args.log)) ≡ false) c.self.view_is (ap is_some log_there ∙ c.is_none.ensures ∙ ap not c.if-is_none.true) in
    no_drop_image (image_of c.args.self.now) c.args.log none

pub returns-then-is_none-clause-listed : goal.returns-then-is_none-clause-listed
returns-then-is_none-clause-listed c some =
    let at = subst (λ (xs : List LogEntry). IsAt (λ (e : LogEntry). e.number) c.args.log c.in-Some.place xs) c.deref.ensures.value c.in-Some.ensures.found in
    let log_there : log_of (log_entry c.self.inside.logs.items c.args.log) ≡ c.index.result.now.log = log_is c.self.inside.logs.items c.args.log c.in-Some.place at c.index.result.now c.index.ensures in
    let none : is_some (log_of (log_entry c.args.self.now.logs c.args.log)) ≡ false = subst (λ (k : Kept). is_some (log_of (log_entry k.logs c.args.log)) ≡ false) c.self.view_is (ap is_some log_there ∙ c.is_none.ensures ∙ ap not c.if-is_none.true) in
    absurd (true_false (sym some ∙ none))

pub invariant_of-self : goal.invariant_of-self
invariant_of-self c =
    let at = subst (λ (xs : List LogEntry). IsAt (λ (e : LogEntry). e.number) c.args.log c.in-Some.place xs) c.deref.ensures.value c.in-Some.ensures.found in
    let v = edited (λ (e : LogEntry). e.number) c.args.log c.in-Some.place c.self.inside.logs.items at c.index_mut.result.now (record { number = c.index_mut.result.now.number; log = c.index_mut.result.now.log; fresh = c.index_mut.result.now.fresh; gone = true }) c.index_mut.ensures.value (λ e. record e { gone = true }) refl in
    (table_set (λ (e : LogEntry). e.number) c.args.log c.in-Some.place c.self.inside.logs.items at (record { number = c.index_mut.result.now.number; log = c.index_mut.result.now.log; fresh = c.index_mut.result.now.fresh; gone = true }) (ap (λ (e : LogEntry). e.number) v ∙ at.number_is) c.self.invariant.0, c.self.invariant.1)

pub returns-then-fails-clause-missing : goal.returns-then-fails-clause-missing
returns-then-fails-clause-missing c gone =
    let at = subst (λ (xs : List LogEntry). IsAt (λ (e : LogEntry). e.number) c.args.log c.in-Some.place xs) c.deref.ensures.value c.in-Some.ensures.found in
    let log_there : log_of (log_entry c.self.inside.logs.items c.args.log) ≡ c.index.result.now.log = log_is c.self.inside.logs.items c.args.log c.in-Some.place at c.index.result.now c.index.ensures in
    let some : is_some (log_of (log_entry c.self.inside.logs.items c.args.log)) ≡ true = ap is_some log_there ∙ c.is_none.ensures ∙ ap not c.if-is_none.false in
    absurd (some_none c.args.self.now.logs c.args.log (subst (λ (k : Kept). is_some (log_of (log_entry k.logs c.args.log)) ≡ true) c.self.view_is some) gone)

pub returns-then-fails-clause-failed : goal.returns-then-fails-clause-failed
returns-then-fails-clause-failed c =
    let old : Kept = the_view c.self.inside in
    let at = subst (λ (xs : List LogEntry). IsAt (λ (e : LogEntry). e.number) c.args.log c.in-Some.place xs) c.deref.ensures.value c.in-Some.ensures.found in
    let v = edited (λ (e : LogEntry). e.number) c.args.log c.in-Some.place c.self.inside.logs.items at c.index_mut.result.now (record { number = c.index_mut.result.now.number; log = c.index_mut.result.now.log; fresh = c.index_mut.result.now.fresh; gone = true }) c.index_mut.ensures.value (λ e. record e { gone = true }) refl in
    failed_log_drop_image old (record old { logs = slice_set old.logs c.in-Some.place (record { number = c.index_mut.result.now.number; log = c.index_mut.result.now.log; fresh = c.index_mut.result.now.fresh; gone = true }) }) c.args.log c.in-Some.place at (record { number = c.index_mut.result.now.number; log = c.index_mut.result.now.log; fresh = c.index_mut.result.now.fresh; gone = true }) v (record { head = refl; heads = refl; files = refl; logs_are = refl })
    ∙ ap (λ (k : Kept). after_failed_log_drop c.args.log (image_of k)) c.self.view_is

pub returns-then-fails-clause-untouched : goal.returns-then-fails-clause-untouched
returns-then-fails-clause-untouched c gone =
    let at = subst (λ (xs : List LogEntry). IsAt (λ (e : LogEntry). e.number) c.args.log c.in-Some.place xs) c.deref.ensures.value c.in-Some.ensures.found in
    let log_there : log_of (log_entry c.self.inside.logs.items c.args.log) ≡ c.index.result.now.log = log_is c.self.inside.logs.items c.args.log c.in-Some.place at c.index.result.now c.index.ensures in
    let some : is_some (log_of (log_entry c.self.inside.logs.items c.args.log)) ≡ true = ap is_some log_there ∙ c.is_none.ensures ∙ ap not c.if-is_none.false in
    absurd (some_none c.args.self.now.logs c.args.log (subst (λ (k : Kept). is_some (log_of (log_entry k.logs c.args.log)) ≡ true) c.self.view_is some) gone)

pub invariant_of-self-2 : goal.invariant_of-self-2
invariant_of-self-2 c =
    let at = subst (λ (xs : List LogEntry). IsAt (λ (e : LogEntry). e.number) c.args.log c.in-Some.place xs) c.deref.ensures.value c.in-Some.ensures.found in
    (subst (λ (xs : List LogEntry). IsTable (λ (e : LogEntry). e.number) xs) (sym c.remove.ensures.items) (table_remove (λ (e : LogEntry). e.number) c.args.log c.in-Some.place c.self.inside.logs.items at c.self.invariant.0), c.self.invariant.1)

pub returns-clause-ok : goal.returns-clause-ok
returns-clause-ok c =
    let old : Kept = the_view c.self.inside in
    let at = subst (λ (xs : List LogEntry). IsAt (λ (e : LogEntry). e.number) c.args.log c.in-Some.place xs) c.deref.ensures.value c.in-Some.ensures.found in
    let log_there : log_of (log_entry c.self.inside.logs.items c.args.log) ≡ c.index.result.now.log = log_is c.self.inside.logs.items c.args.log c.in-Some.place at c.index.result.now c.index.ensures in
    let some : is_some (log_of (log_entry c.self.inside.logs.items c.args.log)) ≡ true = ap is_some log_there ∙ c.is_none.ensures ∙ ap not c.if-is_none.false in
    log_drop_image old (record old { logs = c.remove.new.self.items }) c.args.log c.in-Some.place at some c.self.invariant.0 (record { head = refl; heads = refl; files = refl; logs_are = c.remove.ensures.items })
    ∙ ap (λ (k : Kept). after_log_drop c.args.log (image_of k)) c.self.view_is

pub returns-clause-untouched : goal.returns-clause-untouched
returns-clause-untouched c gone =
    let at = subst (λ (xs : List LogEntry). IsAt (λ (e : LogEntry). e.number) c.args.log c.in-Some.place xs) c.deref.ensures.value c.in-Some.ensures.found in
    let log_there : log_of (log_entry c.self.inside.logs.items c.args.log) ≡ c.index.result.now.log = log_is c.self.inside.logs.items c.args.log c.in-Some.place at c.index.result.now c.index.ensures in
    let some : is_some (log_of (log_entry c.self.inside.logs.items c.args.log)) ≡ true = ap is_some log_there ∙ c.is_none.ensures ∙ ap not c.if-is_none.false in
    absurd (some_none c.args.self.now.logs c.args.log (subst (λ (k : Kept). is_some (log_of (log_entry k.logs c.args.log)) ≡ true) c.self.view_is some) gone)
