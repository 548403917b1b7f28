use Rattle.std.proofs.Common.{◌≡◌, ℕ, ◌+◌, ◌≤◌, true, [], ◌∷◌, ◌++◌, Option, refl, sym, ap, subst, rules}
use Rattle.td_manifest.specs.declared.head.Head.{Head}
use Rattle.td_model.specs.declared.history.Entry.{Entry}
use Rattle.td_model.specs.State.{step}
use Rattle.td_outside.specs.Image.{Along}
use Rattle.td_outside.specs.Causes.{Rose}
use Rattle.td_told.specs.Journal.{halt_at}
use Rattle.td_told.specs.Turn.{line_at, halt_line}
use Rattle.td_levels.specs.Laws.{took}
use Rattle.td_state.specs.Held.{bare}
use Rattle.td_engine.specs.declared.submit.Submitted.{Submitted}
use Rattle.td_engine.specs.declared.submit.Submitted.TheVariants as submitted
use Rattle.td_active.specs.declared.active_log.ActiveLog.{ActiveLog}
use Rattle.td_active.specs.Standing.{StandsEither}
use Rattle.td_active.specs.Carried.{carried, Reaches}
use Rattle.td_engine.specs.Carrying.{Parts, parts, TakesIn, Stops, CarriesOut}
use Rattle.td_engine.proofs.submit.carry_out.Goals as goal

-- the log is the one that it was, and is made
wrote : (old new : ActiveLog) (gate : ℕ) → new ≡ record old { gate = gate; is_made = true } → (new.number ≡ old.number) × (new.is_made ≡ true)
wrote old new gate is = (ap (λ (l : ActiveLog). l.number) is, ap (λ (l : ActiveLog). l.is_made) is)

stayed : (old new : ActiveLog) → new ≡ record old { is_made = new.is_made } → new.number ≡ old.number
stayed old new is = ap (λ (l : ActiveLog). l.number) is

takes_in : (old new : Parts) (committed : ℕ) (sealed : Option Head) (e : Entry) (moment rows : ℕ) (result : Submitted) → result ≡ submitted.Accepted (old.state.version + 1) rows new.state.edge → new.state ≡ bare (step (old.state ∷ []) e) → new.levels ≡ took e old.levels
    → new.journal ≡ old.journal ++ line_at (old.state.version + 1) e.session e.ordinal e.moment ∷ [] → 1 ≤ new.spare → new.place.number ≡ old.place.number → new.place.is_made ≡ true → Along (Reaches new.place (carried old.state old.levels committed sealed) e) old.told new.told → new.count ≡ old.count
    → CarriesOut old new committed sealed e moment rows result
takes_in old new committed sealed e moment rows result answer state levels journal room number made image count =
    let taken : TakesIn old new committed sealed e rows (old.state.version + 1) rows new.state.edge = record {
      version_is = refl;
      rows_are = refl;
      edge_is = refl;
      state = state;
      levels = levels;
      journal = journal;
      room = room;
      number = number;
      made = made;
      image = image;
      count = count;
    } in
    subst (λ (r : Submitted). CarriesOut old new committed sealed e moment rows r) (sym answer) taken

stops : (old new : Parts) (committed : ℕ) (sealed : Option Head) (e : Entry) (moment rows : ℕ) (result : Submitted) → result ≡ submitted.StoreFault (old.state.version + 1) → new.state ≡ bare (step (old.state ∷ []) (halt_at moment)) → new.levels ≡ old.levels
    → new.journal ≡ old.journal ++ halt_line (old.state.version + 1) moment ∷ [] → new.place.number ≡ old.place.number → Along (StandsEither old.state.version e) old.told new.told → Rose old.count new.count → CarriesOut old new committed sealed e moment rows result
stops old new committed sealed e moment rows result answer state levels journal number image cause =
    let stopped : Stops old new e moment (old.state.version + 1) = record { version_is = refl; state = state; levels = levels; journal = journal; number = number; image = image; cause = cause } in
    subst (λ (r : Submitted). CarriesOut old new committed sealed e moment rows r) (sym answer) stopped

pub returns-in-Ok-clause-ok : goal.returns-in-Ok-clause-ok
returns-in-Ok-clause-ok g c = λ committed sealed carries.
    let e = c.args.ready.taking.prepared.entry in
    let old = parts (g.S.Store.told c.args.store.now) (g.S.Store.count c.args.store.now) c.args.log.now c.args.tables.now.state c.args.levels.now c.args.journal.now in
    let new = parts (g.S.Store.told c.write.new.store) (g.S.Store.count c.write.new.store) c.write.new.log c.accept.new.tables.state c.accept.new.levels c.accept.new.journal in
    takes_in old new committed sealed e c.args.moment c.args.ready.rows c.accept.result c.accept.ensures.answer c.accept.ensures.state c.accept.ensures.levels c.accept.ensures.journal c.accept.ensures.room (wrote c.args.log.now c.write.new.log _ c.in-Ok.ensures.made).0 (wrote c.args.log.now c.write.new.log _ c.in-Ok.ensures.made).1 (c.in-Ok.ensures.ok (carried old.state old.levels committed sealed) e carries c.requires.records) c.in-Ok.ensures.cause.kept

pub returns-in-Err-StoreFault-clause-ok : goal.returns-in-Err-StoreFault-clause-ok
returns-in-Err-StoreFault-clause-ok g c = λ committed sealed carries.
    let e = c.args.ready.taking.prepared.entry in
    let old = parts (g.S.Store.told c.args.store.now) (g.S.Store.count c.args.store.now) c.args.log.now c.args.tables.now.state c.args.levels.now c.args.journal.now in
    let new = parts (g.S.Store.told c.write.new.store) (g.S.Store.count c.write.new.store) c.write.new.log c.halt.new.tables.state c.args.levels.now c.halt.new.journal in
    stops old new committed sealed e c.args.moment c.args.ready.rows c.halt.result c.halt.ensures.answer c.halt.ensures.state refl c.halt.ensures.journal (stayed c.args.log.now c.write.new.log c.in-Err-StoreFault.ensures.place)
    (c.in-Err-StoreFault.ensures.failed (carried old.state old.levels committed sealed) e carries c.requires.records (search (rules, c.in-Err-StoreFault.field-0-is)))
    (c.in-Err-StoreFault.ensures.cause.failed (search (rules, c.in-Err-StoreFault.field-0-is)))
