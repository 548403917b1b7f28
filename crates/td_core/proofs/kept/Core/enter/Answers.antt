use Rattle.std.proofs.Common.{◌≡◌, ℕ, ◌^◌, ◌<◌, ◌≤◌, None, refl, sym, ap, subst, ◌∙◌, arith, rules}
use Rattle.std.specs.Prelude.{IfSome, IfOk, [], Result, Ok}
use Rattle.td_limits.specs.declared.limits.TheConstants.{LAST_TIMESTAMP}
use Rattle.td_model.specs.declared.history.Entry.{Entry}
use Rattle.td_model.specs.declared.history.What.{What}
use Rattle.td_model.specs.declared.history.Verdict.{Verdict}
use Rattle.td_model.specs.declared.history.Verdict.TheVariants.{Accept}
use Rattle.td_model.specs.declared.report.Cause.{Cause}
use Rattle.td_model.specs.State.{State}
use Rattle.td_bind.specs.Answers.{verdict_of}
use Rattle.td_told.specs.Verdict.{verdict}
use Rattle.td_tables.specs.Held.{CanTake}
use Rattle.td_core.specs.CoreState.{log_place}
use Rattle.td_core.specs.Writing.{Carries}
use Rattle.td_core.specs.Carrying.{parts}
use Rattle.td_core.proofs.Points.{going}
use Rattle.td_core.proofs.Entering.{carried, ready_writable, ready_place, ready_next, kept_still, kept_if, answers_if, lacks_if, lacks_still, on_err}
use Rattle.td_core.proofs.kept.Core.enter.Goals as goal

accepted_by : (answer : Result (What × ℕ) Cause) (accepted : What × ℕ) (v : Verdict) → answer ≡ Ok accepted → verdict_of answer ≡ v → Accept accepted.0 accepted.1 ≡ v
accepted_by answer accepted v is judged = ap verdict_of (sym is) ∙ judged

pub make_ready-requires : goal.make_ready-requires
make_ready-requires g c =
    subst (λ r. IfOk r (λ a. CanTake a.0 c.self.inside.tables.state)) c.in-Ok.is c.in_ok-accepted.ensures.takes

pub invariant_of-self : goal.invariant_of-self
invariant_of-self g c =
    let i = c.self.inside in
    kept_still (g.S.Store.told i.store) i.tables.state c.make_ready.new.tables.state (log_place i.log) i.log.is_made i.floor i.journal.spare c.make_ready.new.journal.spare c.make_ready.ensures.state c.make_ready.ensures.kept c.self.invariant

pub returns-in_err-ready-clause-lacks : goal.returns-in_err-ready-clause-lacks
returns-in_err-ready-clause-lacks g c =
    let i = c.self.inside in
    rw (← c.self.view_is) (on_err _ _ (lacks_still (parts (g.S.Store.told i.store) (g.S.Store.count i.store) i.log i.tables.state i.journal) c.make_ready.new.tables.state c.make_ready.new.journal.items i.base i.floor (g.C.Clock.readings i.clock) c.make_ready.ensures.state c.make_ready.ensures.lines))

pub carry_out-requires-clause-writable : goal.carry_out-requires-clause-writable
carry_out-requires-clause-writable g c =
    let i = c.self.inside in
    let accepted = accepted_by c.in_ok-accepted.field-0 c.in-Ok.accepted (verdict c.args.stmt.now i.tables.state [] c.args.moment) c.in-Ok.is c.in_ok-accepted.ensures.verdict in
    let takes = subst (λ r. IfOk r (λ a. CanTake a.0 i.tables.state)) c.in-Ok.is c.in_ok-accepted.ensures.takes in
    let last : c.args.moment ≤ LAST_TIMESTAMP = omega (arith, c.requires.moment, ap (λ k. k.floor) c.self.view_is, c.self.invariant.last) in
    let few : c.args.ordinal < 2 ^ 32 = omega (arith, c.ranges.ordinal) in
    λ κs lives. ready_writable c.in_ok-ready.ready.item c.args.session c.args.ordinal c.args.moment c.args.text.now c.args.stmt.now i.tables.state c.in-Ok.accepted.0 c.in-Ok.accepted.1 c.in_ok-ready.ensures.item takes.version last c.requires.session.1 few c.requires.parsed accepted

pub carry_out-requires-clause-place : goal.carry_out-requires-clause-place
carry_out-requires-clause-place g c =
    let i = c.self.inside in
    λ κs lives. ready_place i.log.gate c.in_ok-ready.ready.item _ c.args.session c.args.ordinal c.args.moment c.args.text.now c.in_ok-ready.ensures.item (c.has_place.ensures.0 (search (rules, c.if-not-has_place.false)))

pub carry_out-requires-clause-carries : goal.carry_out-requires-clause-carries
carry_out-requires-clause-carries g c =
    let i = c.self.inside in
    let accepted = accepted_by c.in_ok-accepted.field-0 c.in-Ok.accepted (verdict c.args.stmt.now i.tables.state [] c.args.moment) c.in-Ok.is c.in_ok-accepted.ensures.verdict in
    let none : i.tables.state.halt ≡ None = going c.args.stmt.now i.tables.state c.args.moment c.in-Ok.accepted.0 c.in-Ok.accepted.1 (sym accepted) in
    λ κs lives. subst (λ (x : State). IfSome (g.S.Store.told i.store) (Carries (log_place i.log) i.log.is_made x)) (sym c.in_ok-ready.ensures.state)
    (carried (g.S.Store.told i.store) (log_place i.log) i.log.is_made i.tables.state (c.self.invariant.active none) (c.self.invariant.there none))

pub carry_out-requires-clause-next : goal.carry_out-requires-clause-next
carry_out-requires-clause-next g c =
    let i = c.self.inside in
    let accepted = accepted_by c.in_ok-accepted.field-0 c.in-Ok.accepted (verdict c.args.stmt.now i.tables.state [] c.args.moment) c.in-Ok.is c.in_ok-accepted.ensures.verdict in
    let since : i.tables.state.moment ≤ c.args.moment = omega (arith, c.requires.moment, ap (λ k. k.floor) c.self.view_is, c.self.invariant.since) in
    λ κs lives. ready_next c.in_ok-ready.ready.item c.make_ready.new.tables.state i.tables.state c.in_ok-ready.ready.prepared.entry c.args.session c.args.ordinal c.args.moment c.args.text.now c.args.stmt.now c.in-Ok.accepted.0 c.in-Ok.accepted.1 c.in_ok-ready.ensures.item c.in_ok-ready.ensures.state c.in_ok-ready.ensures.entry since c.requires.parsed accepted

pub invariant_of-self-2 : goal.invariant_of-self-2
invariant_of-self-2 g c =
    let i = c.self.inside in
    let r = c.in_ok-ready.ready in
    let old = parts (g.S.Store.told i.store) (g.S.Store.count i.store) i.log c.make_ready.new.tables.state c.make_ready.new.journal in
    let new = parts (g.S.Store.told c.carry_out.new.store) (g.S.Store.count c.carry_out.new.store) c.carry_out.new.log c.carry_out.new.tables.state c.carry_out.new.journal in
    let is : c.args.moment ≡ i.floor = c.requires.moment ∙ ap (λ k. k.floor) (sym c.self.view_is) in
    kept_if c.carry_out.result old new i.tables.state i.floor i.journal.spare c.args.moment r.rows r.prepared.entry c.in_ok-ready.ensures.state c.in_ok-ready.ensures.kept is (ap (λ (x : Entry). x.moment) c.in_ok-ready.ensures.entry) c.self.invariant c.carry_out.ensures.ok c.carry_out.ensures.err

pub returns-clause-answers : goal.returns-clause-answers
returns-clause-answers g c =
    let i = c.self.inside in
    let r = c.in_ok-ready.ready in
    let accepted = accepted_by c.in_ok-accepted.field-0 c.in-Ok.accepted (verdict c.args.stmt.now i.tables.state [] c.args.moment) c.in-Ok.is c.in_ok-accepted.ensures.verdict in
    let old = parts (g.S.Store.told i.store) (g.S.Store.count i.store) i.log c.make_ready.new.tables.state c.make_ready.new.journal in
    let new = parts (g.S.Store.told c.carry_out.new.store) (g.S.Store.count c.carry_out.new.store) c.carry_out.new.log c.carry_out.new.tables.state c.carry_out.new.journal in
    rw (← c.self.view_is) (answers_if c.carry_out.result old new i.tables.state i.journal.items i.base i.floor (g.C.Clock.readings i.clock) c.args.session c.args.ordinal c.args.moment c.args.stmt.now c.in-Ok.accepted.0 c.in-Ok.accepted.1 r.rows r.prepared.entry c.in_ok-ready.ensures.state c.in_ok-ready.ensures.lines c.in_ok-ready.ensures.entry c.in_ok-ready.ensures.rows accepted c.carry_out.ensures.ok)

pub returns-clause-lacks : goal.returns-clause-lacks
returns-clause-lacks g c =
    let i = c.self.inside in
    let old = parts (g.S.Store.told i.store) (g.S.Store.count i.store) i.log c.make_ready.new.tables.state c.make_ready.new.journal in
    let new = parts (g.S.Store.told c.carry_out.new.store) (g.S.Store.count c.carry_out.new.store) c.carry_out.new.log c.carry_out.new.tables.state c.carry_out.new.journal in
    rw (← c.self.view_is) (lacks_if c.carry_out.result old new i.tables.state i.journal.items i.base i.floor (g.C.Clock.readings i.clock) c.in_ok-ready.ensures.state c.in_ok-ready.ensures.lines c.carry_out.ensures.err)

pub returns-then-not-has_place-clause-lacks : goal.returns-then-not-has_place-clause-lacks
returns-then-not-has_place-clause-lacks g c =
    let i = c.self.inside in
    rw (← c.self.view_is) (lacks_still (parts (g.S.Store.told i.store) (g.S.Store.count i.store) i.log i.tables.state i.journal) i.tables.state i.journal.items i.base i.floor (g.C.Clock.readings i.clock) refl refl)
