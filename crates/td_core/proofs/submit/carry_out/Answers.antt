use Rattle.std.proofs.Common.{◌≡◌, ℕ, ◌+◌, ◌≤◌, true, [], ◌∷◌, ◌++◌, refl, sym, subst}
use Rattle.td_model.specs.declared.history.Entry.{Entry}
use Rattle.td_model.specs.State.{State, step}
use Rattle.td_outside.specs.Image.{Along}
use Rattle.td_told.specs.Turn.{line_at}
use Rattle.td_core.specs.declared.submit.Submitted.{Submitted}
use Rattle.td_core.specs.declared.submit.Submitted.TheVariants as submitted
use Rattle.td_core.specs.Writing.{Reaches}
use Rattle.td_core.specs.Carrying.{Parts, parts, TakesIn, CarriesOut}
use Rattle.td_core.proofs.submit.carry_out.Goals as goal

takes_in : (old new : Parts) (e : Entry) (moment rows : ℕ) (t : State) (result : Submitted) → result ≡ submitted.Accepted (old.state.version + 1) rows new.state.edge → new.state ≡ t → t ≡ step (old.state ∷ []) e
    → new.journal ≡ old.journal ++ line_at (old.state.version + 1) e.session e.ordinal e.moment ∷ [] → 1 ≤ new.spare → new.made ≡ true → Along (Reaches new.place t) old.told new.told → new.count ≡ old.count → CarriesOut old new e moment rows result
takes_in old new e moment rows t result answer state step_is journal room made image count =
    let taken : TakesIn old new e rows (old.state.version + 1) rows new.state.edge = record {
      version_is = refl;
      rows_are = refl;
      edge_is = refl;
      state = subst (λ (s : State). new.state ≡ s) step_is state;
      journal = journal;
      room = room;
      made = made;
      image = subst (λ (s : State). Along (Reaches new.place s) old.told new.told) (sym state) image;
      count = count;
    } in
    subst (λ (r : Submitted). CarriesOut old new e moment rows r) (sym answer) taken

pub returns-in-Ok-clause-ok : goal.returns-in-Ok-clause-ok
returns-in-Ok-clause-ok g c =
    let s = c.args.tables.now.state in
    let e = c.args.ready.prepared.entry in
    let t = step (s ∷ []) e in
    let old = parts (g.S.Store.told c.args.store.now) (g.S.Store.count c.args.store.now) c.args.log.now s c.args.journal.now in
    let new = parts (g.S.Store.told c.write.new.store) (g.S.Store.count c.write.new.store) c.write.new.log c.accept.new.tables.state c.accept.new.journal in
    takes_in old new e c.args.moment c.args.ready.rows t c.accept.result c.accept.ensures.answer c.accept.ensures.state refl c.accept.ensures.journal c.accept.ensures.room c.in-Ok.ensures.made (c.in-Ok.ensures.ok s t c.requires.carries c.requires.next) c.in-Ok.ensures.cause.kept
