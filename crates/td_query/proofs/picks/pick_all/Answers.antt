use Rattle.std.proofs.Common.{◌≡◌, ◌≤◌, ◌+◌, ℕ, Option, Some, drop, sym, ap, ◌∙◌, subst, arith}
use Rattle.std.specs.Prelude.{IfSome}
use Rattle.std.specs.List.{slice_get}
use Rattle.td_model.specs.State.{Rows}
use Rattle.td_verdict.specs.Answers.{Found, put_in_time}
use Rattle.td_query.specs.Planned.{found_in}
use Rattle.td_query.specs.Planned.{tables_of}
use Rattle.td_query.specs.Picks.{found_rows}
use Rattle.td_query.specs.Read.{listed}
use Rattle.td_query.proofs.Listing.{no_more}
use Rattle.td_query.proofs.Picking.{Picks, picks_next, picks_past, picks_end}
use Rattle.td_query.proofs.TableByTable.{Takes, takes_next, takes_past, takes_stop}
use Rattle.td_query.proofs.picks.pick_all.Goals.{in-Some+in_ok-read_picked, in_default}
use Rattle.td_query.proofs.picks.pick_all.Goals as goal

pub returns-in_err-read_picked-clause-most_steps : goal.returns-in_err-read_picked-clause-most_steps
returns-in_err-read_picked-clause-most_steps g c =
    let plan = c.args.plan.now in
    let t = listed c.in-Some.table in
    let held = g.Q.Snapshot.held c.args.snap.now in
    let given : IfSome (held t.number plan.lo plan.hi) (λ n. c.read_picked.new.steps ≤ c.tables.steps + n) =
    subst (λ (o : Option ℕ). IfSome o (λ n. c.read_picked.new.steps ≤ c.tables.steps + n)) (c.tables.invariant.2 t.number plan.lo plan.hi) c.in_err-read_picked.ensures.most_steps in
    takes_stop plan c.tables.at t (sym c.in-Some.ensures) held c.args.steps.now c.tables.steps c.read_picked.new.steps given c.tables.invariant.5

pub tables-preserved : goal.tables-preserved
tables-preserved g c =
    let plan = c.args.plan.now in
    let columns = plan.schema.columns in
    let ps = c.args.comparisons.now in
    let held = g.Q.Snapshot.held c.args.snap.now in
    let rows = g.Q.Snapshot.rows c.args.snap.now in
    let now : Found = found_rows columns c.tables.picked.entries in
    let next : Found = found_rows columns c.match-table_at.picked.entries in
    elim c.match-table_at.branch [
      | in-Some+in_ok-read_picked w ↦
          let t = listed w.in-Some.table in
          let here : slice_get (tables_of plan) c.tables.at ≡ Some t = sym w.in-Some.ensures in
          let e : next ≡ found_rows columns w.read_picked.new.picked.entries = ap (λ v. found_rows columns v.entries) w.picked-is in
          let put : IfSome rows (λ all. next ≡ put_in_time now (found_in plan ps all t)) =
          subst (λ (o : Option Rows). IfSome o (λ all. next ≡ put_in_time now (found_in plan ps all t))) c.tables.invariant.1
          (subst (λ (f : Found). IfSome (g.Q.Snapshot.rows c.tables.snap) (λ all. f ≡ put_in_time now (found_in plan ps all t))) (sym e) w.in_ok-read_picked.ensures.found) in
          let given : IfSome (held t.number plan.lo plan.hi) (λ n. c.match-table_at.steps ≤ c.tables.steps + n) =
          subst (λ (o : Option ℕ). IfSome o (λ n. c.match-table_at.steps ≤ c.tables.steps + n)) (c.tables.invariant.2 t.number plan.lo plan.hi)
          (subst (λ (s : ℕ). IfSome (g.Q.Snapshot.held c.tables.snap t.number plan.lo plan.hi) (λ n. s ≤ c.tables.steps + n)) (sym w.steps-is) w.in_ok-read_picked.ensures.most_steps) in (
            picks_next plan ps c.tables.at t rows now next here put c.tables.invariant.0,
            ap g.Q.Snapshot.rows w.snap-is ∙ w.in_ok-read_picked.ensures.rows ∙ c.tables.invariant.1,
            λ n lo hi. ap (λ s. g.Q.Snapshot.held s n lo hi) w.snap-is ∙ w.in_ok-read_picked.ensures.held n lo hi ∙ c.tables.invariant.2 n lo hi,
            ap g.Q.Snapshot.damaged w.snap-is ∙ w.in_ok-read_picked.ensures.damaged ∙ c.tables.invariant.3,
            ap g.Q.Snapshot.count w.snap-is ∙ w.in_ok-read_picked.ensures.fault.kept ∙ c.tables.invariant.4,
            takes_next plan c.tables.at t here held c.args.steps.now c.tables.steps c.match-table_at.steps given c.tables.invariant.5,
          )
      | in_default w ↦
          let none = sym w.in_default.ensures in
          let e : next ≡ now = ap (λ v. found_rows columns v.entries) w.picked-is in (
            subst (λ (f : Found). Picks plan ps (drop (c.tables.at + 1) (tables_of plan)) rows f) (sym e) (picks_past plan ps c.tables.at rows now none c.tables.invariant.0),
            ap g.Q.Snapshot.rows w.snap-is ∙ c.tables.invariant.1,
            λ n lo hi. ap (λ s. g.Q.Snapshot.held s n lo hi) w.snap-is ∙ c.tables.invariant.2 n lo hi,
            ap g.Q.Snapshot.damaged w.snap-is ∙ c.tables.invariant.3,
            ap g.Q.Snapshot.count w.snap-is ∙ c.tables.invariant.4,
            subst (λ (s : ℕ). Takes held plan (drop (c.tables.at + 1) (tables_of plan)) c.args.steps.now s) (sym w.steps-is) (takes_past plan c.tables.at none held c.args.steps.now c.tables.steps c.tables.invariant.5),
          )
    ]

pub returns-clause-found : goal.returns-clause-found
returns-clause-found g c =
    let plan = c.args.plan.now in
    let none = no_more c.tables.at plan.tables plan.parts plan.names plan.tags (omega arith) in
    picks_end plan c.args.comparisons.now (drop c.tables.at (tables_of plan)) (g.Q.Snapshot.rows c.args.snap.now) (found_rows plan.schema.columns c.tables.picked.entries) none c.tables.invariant.0
