use Rattle.std.proofs.Common.{◌≡◌, ◌≤◌, ◌+◌, ℕ, List, Option, Some, drop, sym, ap, ◌∙◌, subst, arith}
use Rattle.std.specs.Prelude.{IfSome}
use Rattle.std.specs.List.{slice_get}
use Rattle.td_model.specs.State.{Rows}
use Rattle.td_verdict.specs.Groups.{Grouped, put_group}
use Rattle.td_query.specs.Planned.{tables_of, picked_in}
use Rattle.td_query.specs.Read.{listed, all_grouped, AreGood}
use Rattle.td_query.proofs.Listing.{no_more}
use Rattle.td_query.proofs.TableByTable.{Finds, Takes, finds_next, finds_past, finds_end, takes_next, takes_past, takes_stop}
use Rattle.td_query.proofs.gathering.read_tables.Goals.{in-Some+in_ok-read_table, in_default}
use Rattle.td_query.proofs.gathering.read_tables.Goals as goal

pub returns-in_err-read_table-clause-most_steps : goal.returns-in_err-read_table-clause-most_steps
returns-in_err-read_table-clause-most_steps g c =
    let plan = c.args.plan.now in
    let t = listed c.in-Some.table in
    let held = g.Q.Snapshot.held c.args.snap.now in
    let given : IfSome (held t.number plan.lo plan.hi) (λ n. c.read_table.new.steps ≤ c.tables.steps + n) =
    subst (λ (o : Option ℕ). IfSome o (λ n. c.read_table.new.steps ≤ c.tables.steps + n)) (c.tables.invariant.3 t.number plan.lo plan.hi) c.in_err-read_table.ensures.most_steps in
    takes_stop plan c.tables.at t (sym c.in-Some.ensures) held c.args.steps.now c.tables.steps c.read_table.new.steps given c.tables.invariant.6

pub tables-preserved : goal.tables-preserved
tables-preserved g c =
    let plan = c.args.plan.now in
    let ps = c.args.comparisons.now in
    let held = g.Q.Snapshot.held c.args.snap.now in
    let rows = g.Q.Snapshot.rows c.args.snap.now in
    let before = all_grouped c.args.groups.now.items in
    let now = all_grouped c.tables.groups.items in
    let next = all_grouped c.match-table_at.groups.items in
    elim c.match-table_at.branch [
      | in-Some+in_ok-read_table w ↦
          let t = listed w.in-Some.table in
          let here : slice_get (tables_of plan) c.tables.at ≡ Some t = sym w.in-Some.ensures in
          let e : next ≡ all_grouped w.read_table.new.groups.items = ap (λ v. all_grouped v.items) w.groups-is in
          let put : IfSome rows (λ all. next ≡ put_group t.part (picked_in plan ps all t) now) =
          subst (λ (o : Option Rows). IfSome o (λ all. next ≡ put_group t.part (picked_in plan ps all t) now)) c.tables.invariant.2
          (subst (λ (gs : List Grouped). IfSome (g.Q.Snapshot.rows c.tables.snap) (λ all. gs ≡ put_group t.part (picked_in plan ps all t) now)) (sym e) w.in_ok-read_table.ensures.found) in
          let given : IfSome (held t.number plan.lo plan.hi) (λ n. c.match-table_at.steps ≤ c.tables.steps + n) =
          subst (λ (o : Option ℕ). IfSome o (λ n. c.match-table_at.steps ≤ c.tables.steps + n)) (c.tables.invariant.3 t.number plan.lo plan.hi)
          (subst (λ (s : ℕ). IfSome (g.Q.Snapshot.held c.tables.snap t.number plan.lo plan.hi) (λ n. s ≤ c.tables.steps + n)) (sym w.steps-is) w.in_ok-read_table.ensures.most_steps) in (
            finds_next plan c.tables.at t here ps rows before now next put c.tables.invariant.0,
            λ good. subst (AreGood plan.hi) (sym e) (w.in_ok-read_table.ensures.good (c.tables.invariant.1 good)),
            ap g.Q.Snapshot.rows w.snap-is ∙ w.in_ok-read_table.ensures.rows ∙ c.tables.invariant.2,
            λ n lo hi. ap (λ s. g.Q.Snapshot.held s n lo hi) w.snap-is ∙ w.in_ok-read_table.ensures.held n lo hi ∙ c.tables.invariant.3 n lo hi,
            ap g.Q.Snapshot.damaged w.snap-is ∙ w.in_ok-read_table.ensures.damaged ∙ c.tables.invariant.4,
            ap g.Q.Snapshot.count w.snap-is ∙ w.in_ok-read_table.ensures.fault.kept ∙ c.tables.invariant.5,
            takes_next plan c.tables.at t here held c.args.steps.now c.tables.steps c.match-table_at.steps given c.tables.invariant.6,
          )
      | in_default w ↦
          let none = sym w.in_default.ensures in
          let e : next ≡ now = ap (λ v. all_grouped v.items) w.groups-is in (
            subst (λ (gs : List Grouped). Finds plan ps (drop (c.tables.at + 1) (tables_of plan)) rows before gs) (sym e) (finds_past plan c.tables.at none ps rows before now c.tables.invariant.0),
            λ good. subst (AreGood plan.hi) (sym e) (c.tables.invariant.1 good),
            ap g.Q.Snapshot.rows w.snap-is ∙ c.tables.invariant.2,
            λ n lo hi. ap (λ s. g.Q.Snapshot.held s n lo hi) w.snap-is ∙ c.tables.invariant.3 n lo hi,
            ap g.Q.Snapshot.damaged w.snap-is ∙ c.tables.invariant.4,
            ap g.Q.Snapshot.count w.snap-is ∙ c.tables.invariant.5,
            subst (λ (s : ℕ). Takes held plan (drop (c.tables.at + 1) (tables_of plan)) c.args.steps.now s) (sym w.steps-is) (takes_past plan c.tables.at none held c.args.steps.now c.tables.steps c.tables.invariant.6),
          )
    ]

pub returns-clause-found : goal.returns-clause-found
returns-clause-found g c =
    let plan = c.args.plan.now in
    let none = no_more c.tables.at plan.tables plan.parts plan.names plan.tags (omega arith) in
    finds_end plan c.args.comparisons.now (drop c.tables.at (tables_of plan)) (g.Q.Snapshot.rows c.args.snap.now) (all_grouped c.args.groups.now.items) (all_grouped c.tables.groups.items) none c.tables.invariant.0
