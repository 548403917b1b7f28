use Rattle.std.proofs.Common.{◌≡◌, ℕ, ◌^◌, ◌<◌, ◌≤◌, None, refl, sym, ap, subst, ◌∙◌, arith, rules}
use Rattle.std.specs.Prelude.{IfSome, IfOk, [], Result, Ok}
use Rattle.td_limits.specs.declared.limits.TheConstants.{LAST_TIMESTAMP}
use Rattle.td_model.specs.declared.history.Entry.{Entry}
use Rattle.td_model.specs.declared.history.What.{What}
use Rattle.td_model.specs.declared.history.Verdict.{Verdict}
use Rattle.td_model.specs.declared.history.Verdict.TheVariants.{Accept}
use Rattle.td_model.specs.declared.report.Cause.{Cause}
use Rattle.td_model.specs.State.{State}
use Rattle.td_bind.specs.Answers.{verdict_of}
use Rattle.td_fileset.specs.Pinned.{pins_of}
use Rattle.td_levels.specs.Sets.{or_else}
use Rattle.td_levels.specs.Taken.{taken}
use Rattle.td_told.specs.Verdict.{verdict}
use Rattle.td_state.specs.Held.{CanTake}
use Rattle.td_active.specs.Carried.{Carries, carried}
use Rattle.td_engine.specs.Carrying.{parts}
use Rattle.td_engine.proofs.Entries.{column_cells}
use Rattle.td_engine.proofs.Halts.{going}
use Rattle.td_engine.proofs.Entering.{Rest, core_of, ran_from, active_fits, ready_records, kept_still, kept_if, answers_if, lacks_if, lacks_still, full_now, on_err}
use Rattle.td_engine.proofs.Written.{ready_writable, ready_place}
use Rattle.td_engine.proofs.kept.Core.enter.Goals as goal

accepted_by : (answer : Result (What × ℕ) Cause) (accepted : What × ℕ) (v : Verdict) → answer ≡ Ok accepted → verdict_of answer ≡ v → Accept accepted.0 accepted.1 ≡ v
accepted_by answer accepted v is judged = ap verdict_of (sym is) ∙ judged

pub judge-requires-clause-moment : goal.judge-requires-clause-moment
judge-requires-clause-moment g c =
    let i = c.self.inside in
    omega (arith, c.requires.moment, ap (λ k. k.floor) c.self.view_is, c.self.invariant.last)

pub make_ready-requires-clause-takes : goal.make_ready-requires-clause-takes
make_ready-requires-clause-takes g c =
    let i = c.self.inside in
    let takes = subst (λ r. IfOk r (λ a. CanTake a.0 i.tables.state)) c.in-Ok.is c.in_ok-accepted.ensures.takes in
    takes

pub make_ready-requires-clause-moment : goal.make_ready-requires-clause-moment
make_ready-requires-clause-moment g c =
    let i = c.self.inside in
    let last : c.args.moment ≤ LAST_TIMESTAMP = omega (arith, c.requires.moment, ap (λ k. k.floor) c.self.view_is, c.self.invariant.last) in
    last

pub make_ready-requires-clause-follows : goal.make_ready-requires-clause-follows
make_ready-requires-clause-follows g c =
    let i = c.self.inside in
    let takes = subst (λ r. IfOk r (λ a. CanTake a.0 i.tables.state)) c.in-Ok.is c.in_ok-accepted.ensures.takes in
    (i.tables.state.catalog, active_fits i.tables.state.catalog i.levels c.self.invariant.stored.fits, takes.follows)

pub make_ready-requires-clause-cells : goal.make_ready-requires-clause-cells
make_ready-requires-clause-cells g c =
    let i = c.self.inside in
    let takes = subst (λ r. IfOk r (λ a. CanTake a.0 i.tables.state)) c.in-Ok.is c.in_ok-accepted.ensures.takes in
    column_cells i.tables.state.catalog c.in-Ok.accepted.0 c.is_sound.ensures.catalog takes.follows

pub make_ready-requires-clause-room : goal.make_ready-requires-clause-room
make_ready-requires-clause-room g c =
    let i = c.self.inside in
    c.in_default.ensures.room

pub invariant_of-self : goal.invariant_of-self
invariant_of-self g c =
    let i = c.self.inside in
    kept_still (g.S.Store.told i.store) i.tables.state c.make_ready.new.tables.state i.levels i.committed i.sealed i.log i.floor i.journal.spare c.make_ready.new.journal.spare c.make_ready.ensures.state c.make_ready.ensures.kept c.self.invariant

pub returns-in_err-ready-clause-lacks : goal.returns-in_err-ready-clause-lacks
returns-in_err-ready-clause-lacks g c =
    let i = c.self.inside in
    let x : Rest = record { committed = i.committed; sealed = i.sealed; flight = i.flight; pins = pins_of i.pins; base = i.base; floor = i.floor; readings = g.C.Clock.readings i.clock } in
    rw (← c.self.view_is) (on_err _ _ (lacks_still (parts (g.S.Store.told i.store) (g.S.Store.count i.store) i.log i.tables.state i.levels i.journal) c.make_ready.new.tables.state c.make_ready.new.journal.items x c.make_ready.ensures.state c.make_ready.ensures.lines))

pub returns-then-not-has_place-clause-lacks : goal.returns-then-not-has_place-clause-lacks
returns-then-not-has_place-clause-lacks g c =
    let i = c.self.inside in
    let x : Rest = record { committed = i.committed; sealed = i.sealed; flight = i.flight; pins = pins_of i.pins; base = i.base; floor = i.floor; readings = g.C.Clock.readings i.clock } in
    rw (← c.self.view_is) (lacks_still (parts (g.S.Store.told i.store) (g.S.Store.count i.store) i.log i.tables.state i.levels i.journal) i.tables.state i.journal.items x refl refl)

pub returns-in-Some-clause-answers : goal.returns-in-Some-clause-answers
returns-in-Some-clause-answers g c =
    let i = c.self.inside in
    let accepted = accepted_by c.in_ok-accepted.field-0 c.in-Ok.accepted (verdict c.args.stmt.now i.tables.state [] c.args.moment) c.in-Ok.is c.in_ok-accepted.ensures.verdict in
    let x : Rest = record { committed = i.committed; sealed = i.sealed; flight = i.flight; pins = pins_of i.pins; base = i.base; floor = i.floor; readings = g.C.Clock.readings i.clock } in
    rw (← c.self.view_is) (full_now (core_of (parts (g.S.Store.told i.store) (g.S.Store.count i.store) i.log i.tables.state i.levels i.journal) x) c.args.moment c.args.stmt.now c.in-Ok.accepted.0 c.in-Ok.accepted.1 c.in-Some.held accepted c.in-Some.ensures.held c.in-Some.ensures.full)

pub carry_out-requires-clause-writable : goal.carry_out-requires-clause-writable
carry_out-requires-clause-writable g c =
    let i = c.self.inside in
    let accepted = accepted_by c.in_ok-accepted.field-0 c.in-Ok.accepted (verdict c.args.stmt.now i.tables.state [] c.args.moment) c.in-Ok.is c.in_ok-accepted.ensures.verdict in
    let takes = subst (λ r. IfOk r (λ a. CanTake a.0 i.tables.state)) c.in-Ok.is c.in_ok-accepted.ensures.takes in
    let last : c.args.moment ≤ LAST_TIMESTAMP = omega (arith, c.requires.moment, ap (λ k. k.floor) c.self.view_is, c.self.invariant.last) in
    let r = c.in_ok-ready.ready in
    let few : c.args.ordinal < 2 ^ 32 = omega (arith, c.ranges.ordinal) in
    λ κs lives. ready_writable r.item c.args.session c.args.ordinal c.args.moment c.args.text.now c.args.stmt.now i.tables.state c.in-Ok.accepted.0 c.in-Ok.accepted.1 c.in_ok-ready.ensures.item takes.version last c.requires.session.1 few c.requires.parsed accepted

pub carry_out-requires-clause-place : goal.carry_out-requires-clause-place
carry_out-requires-clause-place g c =
    let i = c.self.inside in
    let r = c.in_ok-ready.ready in
    λ κs lives. ready_place i.log.gate r.item _ c.args.session c.args.ordinal c.args.moment c.args.text.now c.in_ok-ready.ensures.item (c.has_place.ensures.0 (search (rules, c.if-not-has_place.false)))

pub carry_out-requires-clause-carries : goal.carry_out-requires-clause-carries
carry_out-requires-clause-carries g c =
    let i = c.self.inside in
    let accepted = accepted_by c.in_ok-accepted.field-0 c.in-Ok.accepted (verdict c.args.stmt.now i.tables.state [] c.args.moment) c.in-Ok.is c.in_ok-accepted.ensures.verdict in
    let none : i.tables.state.halt ≡ None = going c.args.stmt.now i.tables.state c.args.moment c.in-Ok.accepted.0 c.in-Ok.accepted.1 (sym accepted) in
    let carries = subst (λ (y : State). IfSome (g.S.Store.told i.store) (Carries i.log (carried y i.levels i.committed i.sealed))) (sym c.in_ok-ready.ensures.state) (c.self.invariant.stored.active none) in
    λ κs lives. (i.committed, i.sealed, carries)

pub carry_out-requires-clause-records : goal.carry_out-requires-clause-records
carry_out-requires-clause-records g c =
    let i = c.self.inside in
    let accepted = accepted_by c.in_ok-accepted.field-0 c.in-Ok.accepted (verdict c.args.stmt.now i.tables.state [] c.args.moment) c.in-Ok.is c.in_ok-accepted.ensures.verdict in
    let r = c.in_ok-ready.ready in
    let since : i.tables.state.moment ≤ c.args.moment = omega (arith, c.requires.moment, ap (λ k. k.floor) c.self.view_is, c.self.invariant.since) in
    λ κs lives. ready_records r.item c.make_ready.new.tables.state i.tables.state i.levels r.taking.prepared.entry c.args.session c.args.ordinal c.args.moment c.args.text.now c.args.stmt.now c.in-Ok.accepted.0 c.in-Ok.accepted.1 c.in_ok-ready.ensures.item c.in_ok-ready.ensures.state c.in_ok-ready.ensures.entry since c.requires.parsed accepted c.in_default.ensures.room

pub carry_out-requires-clause-parts : goal.carry_out-requires-clause-parts
carry_out-requires-clause-parts g c =
    let i = c.self.inside in
    let r = c.in_ok-ready.ready in
    λ κs lives. subst (λ (e : Entry). or_else r.taking.memtable i.levels.active ≡ taken e.what e.moment i.levels.active) (sym c.in_ok-ready.ensures.entry) c.in_ok-ready.ensures.parts

pub carry_out-requires-clause-moment : goal.carry_out-requires-clause-moment
carry_out-requires-clause-moment g c =
    let i = c.self.inside in
    let last : c.args.moment ≤ LAST_TIMESTAMP = omega (arith, c.requires.moment, ap (λ k. k.floor) c.self.view_is, c.self.invariant.last) in
    λ κs lives. last

pub invariant_of-self-2 : goal.invariant_of-self-2
invariant_of-self-2 g c =
    let i = c.self.inside in
    let accepted = accepted_by c.in_ok-accepted.field-0 c.in-Ok.accepted (verdict c.args.stmt.now i.tables.state [] c.args.moment) c.in-Ok.is c.in_ok-accepted.ensures.verdict in
    let takes = subst (λ r. IfOk r (λ a. CanTake a.0 i.tables.state)) c.in-Ok.is c.in_ok-accepted.ensures.takes in
    let last : c.args.moment ≤ LAST_TIMESTAMP = omega (arith, c.requires.moment, ap (λ k. k.floor) c.self.view_is, c.self.invariant.last) in
    let x : Rest = record { committed = i.committed; sealed = i.sealed; flight = i.flight; pins = pins_of i.pins; base = i.base; floor = i.floor; readings = g.C.Clock.readings i.clock } in
    let none : i.tables.state.halt ≡ None = going c.args.stmt.now i.tables.state c.args.moment c.in-Ok.accepted.0 c.in-Ok.accepted.1 (sym accepted) in
    let carries = subst (λ (y : State). IfSome (g.S.Store.told i.store) (Carries i.log (carried y i.levels i.committed i.sealed))) (sym c.in_ok-ready.ensures.state) (c.self.invariant.stored.active none) in
    let r = c.in_ok-ready.ready in
    let old = parts (g.S.Store.told i.store) (g.S.Store.count i.store) i.log c.make_ready.new.tables.state i.levels c.make_ready.new.journal in
    let new = parts (g.S.Store.told c.carry_out.new.store) (g.S.Store.count c.carry_out.new.store) c.carry_out.new.log c.carry_out.new.tables.state c.carry_out.new.levels c.carry_out.new.journal in
    let ran = ran_from old i.tables.state i.journal.items c.args.session c.args.ordinal c.args.moment c.args.text.now c.args.stmt.now c.in-Ok.accepted.0 c.in-Ok.accepted.1 r.rows r.taking.prepared.entry c.in_ok-ready.ensures.state c.in_ok-ready.ensures.lines c.in_ok-ready.ensures.entry c.in_ok-ready.ensures.rows c.is_sound.ensures.catalog c.requires.parsed accepted takes last c.in_default.ensures.room in
    let is : c.args.moment ≡ i.floor = c.requires.moment ∙ ap (λ k. k.floor) (sym c.self.view_is) in
    kept_if c.carry_out.result old new i.tables.state i.journal.items x i.journal.spare c.args.session c.args.ordinal c.args.moment c.args.text.now c.args.stmt.now c.in-Ok.accepted.0 c.in-Ok.accepted.1 r.rows r.taking.prepared.entry ran c.in_ok-ready.ensures.kept is c.self.invariant (c.carry_out.ensures.ok i.committed i.sealed carries) (c.carry_out.ensures.err i.committed i.sealed carries)

pub returns-clause-answers : goal.returns-clause-answers
returns-clause-answers g c =
    let i = c.self.inside in
    let accepted = accepted_by c.in_ok-accepted.field-0 c.in-Ok.accepted (verdict c.args.stmt.now i.tables.state [] c.args.moment) c.in-Ok.is c.in_ok-accepted.ensures.verdict in
    let takes = subst (λ r. IfOk r (λ a. CanTake a.0 i.tables.state)) c.in-Ok.is c.in_ok-accepted.ensures.takes in
    let last : c.args.moment ≤ LAST_TIMESTAMP = omega (arith, c.requires.moment, ap (λ k. k.floor) c.self.view_is, c.self.invariant.last) in
    let x : Rest = record { committed = i.committed; sealed = i.sealed; flight = i.flight; pins = pins_of i.pins; base = i.base; floor = i.floor; readings = g.C.Clock.readings i.clock } in
    let none : i.tables.state.halt ≡ None = going c.args.stmt.now i.tables.state c.args.moment c.in-Ok.accepted.0 c.in-Ok.accepted.1 (sym accepted) in
    let carries = subst (λ (y : State). IfSome (g.S.Store.told i.store) (Carries i.log (carried y i.levels i.committed i.sealed))) (sym c.in_ok-ready.ensures.state) (c.self.invariant.stored.active none) in
    let r = c.in_ok-ready.ready in
    let old = parts (g.S.Store.told i.store) (g.S.Store.count i.store) i.log c.make_ready.new.tables.state i.levels c.make_ready.new.journal in
    let new = parts (g.S.Store.told c.carry_out.new.store) (g.S.Store.count c.carry_out.new.store) c.carry_out.new.log c.carry_out.new.tables.state c.carry_out.new.levels c.carry_out.new.journal in
    let ran = ran_from old i.tables.state i.journal.items c.args.session c.args.ordinal c.args.moment c.args.text.now c.args.stmt.now c.in-Ok.accepted.0 c.in-Ok.accepted.1 r.rows r.taking.prepared.entry c.in_ok-ready.ensures.state c.in_ok-ready.ensures.lines c.in_ok-ready.ensures.entry c.in_ok-ready.ensures.rows c.is_sound.ensures.catalog c.requires.parsed accepted takes last c.in_default.ensures.room in
    rw (← c.self.view_is) (answers_if c.carry_out.result old new i.tables.state i.journal.items x c.args.session c.args.ordinal c.args.moment c.args.text.now c.args.stmt.now c.in-Ok.accepted.0 c.in-Ok.accepted.1 r.rows r.taking.prepared.entry ran (c.carry_out.ensures.ok i.committed i.sealed carries))

pub returns-clause-lacks : goal.returns-clause-lacks
returns-clause-lacks g c =
    let i = c.self.inside in
    let accepted = accepted_by c.in_ok-accepted.field-0 c.in-Ok.accepted (verdict c.args.stmt.now i.tables.state [] c.args.moment) c.in-Ok.is c.in_ok-accepted.ensures.verdict in
    let x : Rest = record { committed = i.committed; sealed = i.sealed; flight = i.flight; pins = pins_of i.pins; base = i.base; floor = i.floor; readings = g.C.Clock.readings i.clock } in
    let none : i.tables.state.halt ≡ None = going c.args.stmt.now i.tables.state c.args.moment c.in-Ok.accepted.0 c.in-Ok.accepted.1 (sym accepted) in
    let carries = subst (λ (y : State). IfSome (g.S.Store.told i.store) (Carries i.log (carried y i.levels i.committed i.sealed))) (sym c.in_ok-ready.ensures.state) (c.self.invariant.stored.active none) in
    let old = parts (g.S.Store.told i.store) (g.S.Store.count i.store) i.log c.make_ready.new.tables.state i.levels c.make_ready.new.journal in
    let new = parts (g.S.Store.told c.carry_out.new.store) (g.S.Store.count c.carry_out.new.store) c.carry_out.new.log c.carry_out.new.tables.state c.carry_out.new.levels c.carry_out.new.journal in
    rw (← c.self.view_is) (lacks_if c.carry_out.result old new i.tables.state i.journal.items x none c.in_ok-ready.ensures.state c.in_ok-ready.ensures.lines (c.carry_out.ensures.err i.committed i.sealed carries))
