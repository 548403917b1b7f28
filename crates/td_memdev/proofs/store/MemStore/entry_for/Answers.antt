use Rattle.std.proofs.Common.{◌≡◌, ◌-◌, false, List, [], ◌∷◌, ◌++◌, None, refl, sym, ap, ◌∙◌, subst}
use Rattle.td_memdev.specs.Kept.{Kept, image_of, log_entry}
use Rattle.td_memdev.specs.Tables.{IsTable}
use Rattle.td_memdev.specs.declared.logs.LogEntry.{LogEntry}
use Rattle.td_memdev.specs.contracts.store.MemStore.{the_view}
use Rattle.td_memdev.proofs.Changes.{new_log_entry_image}
use Rattle.td_memdev.proofs.Finding.{IsTable-push, at_end}
use Rattle.td_memdev.proofs.store.MemStore.entry_for.Goals as goal

pub invariant_of-self-in-None : goal.invariant_of-self-in-None
invariant_of-self-in-None c =
    let none : log_entry c.self.inside.logs.items c.args.log ≡ None = subst (λ (xs : List LogEntry). log_entry xs c.args.log ≡ None) c.deref.ensures.value c.in-None.ensures.none in
    let entry : LogEntry = record { number = c.args.log; log = None; fresh = false; gone = false } in
    let items : c.push.new.self.items ≡ c.self.inside.logs.items ++ entry ∷ [] = c.in_ok-push-in-None.ensures.items ∙ ap (λ e. c.self.inside.logs.items ++ e ∷ []) c.new.ensures in
    (subst (λ (xs : List LogEntry). IsTable (λ (e : LogEntry). e.number) xs) (sym items) (IsTable-push (λ (e : LogEntry). e.number) c.args.log c.self.inside.logs.items entry none refl c.self.invariant.0), c.self.invariant.1)

pub returns-in_ok-push-in-None-clause-there : goal.returns-in_ok-push-in-None-clause-there
returns-in_ok-push-in-None-clause-there c =
    let none : log_entry c.self.inside.logs.items c.args.log ≡ None = subst (λ (xs : List LogEntry). log_entry xs c.args.log ≡ None) c.deref.ensures.value c.in-None.ensures.none in
    let entry : LogEntry = record { number = c.args.log; log = None; fresh = false; gone = false } in
    let items : c.push.new.self.items ≡ c.self.inside.logs.items ++ entry ∷ [] = c.in_ok-push-in-None.ensures.items ∙ ap (λ e. c.self.inside.logs.items ++ e ∷ []) c.new.ensures in
    at_end (λ (e : LogEntry). e.number) c.args.log c.self.inside.logs.items entry c.push.new.self.items (c.len.result - 1) items (ap (λ l. l - 1) (c.len.ensures ∙ c.push.new.self.ok.0)) none refl

pub returns-in_ok-push-in-None-clause-image : goal.returns-in_ok-push-in-None-clause-image
returns-in_ok-push-in-None-clause-image c =
    let none : log_entry c.self.inside.logs.items c.args.log ≡ None = subst (λ (xs : List LogEntry). log_entry xs c.args.log ≡ None) c.deref.ensures.value c.in-None.ensures.none in
    let entry : LogEntry = record { number = c.args.log; log = None; fresh = false; gone = false } in
    let items : c.push.new.self.items ≡ c.self.inside.logs.items ++ entry ∷ [] = c.in_ok-push-in-None.ensures.items ∙ ap (λ e. c.self.inside.logs.items ++ e ∷ []) c.new.ensures in
    let old : Kept = the_view c.self.inside in
    new_log_entry_image old (record old { logs = c.push.new.self.items }) c.args.log none (record { head = refl; heads = refl; files = refl; logs_are = items })
    ∙ ap image_of c.self.view_is
