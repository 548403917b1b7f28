use Rattle.std.proofs.Common.{◌≡◌, ◌≤◌, ◌+◌, ℕ, List, Option, Some, drop, refl, sym, ap, ◌∙◌, subst, arith}
use Rattle.std.specs.Prelude.{IfSome}
use Rattle.std.specs.List.{slice_get}
use Rattle.td_model.specs.State.{Rows}
use Rattle.td_query.specs.Planned.{tables_of}
use Rattle.td_query.specs.Read.{listed}
use Rattle.td_query.specs.Totals.{WithSums}
use Rattle.td_verdict.specs.Groups.{first_groups}
use Rattle.td_query.proofs.Listing.{no_more}
use Rattle.td_query.proofs.Reading.{Sums, Put, sums_first, sums_next, sums_past, sums_end}
use Rattle.td_query.proofs.TableByTable.{Takes, begins, takes_next, takes_past, takes_stop}
use Rattle.td_query.proofs.totals.sum_tables.Goals.{in-Some+in_ok-sum_one, in_default}
use Rattle.td_query.proofs.totals.sum_tables.Goals as goal

pub tables-init : goal.tables-init
tables-init g c =
    let asked = c.args.asked.now in
    let plan = asked.plan.now in (
      sums_first asked.frame asked.places.now plan asked.comparisons.now (first_groups c.args.one) c.args.one (g.Q.Snapshot.rows c.args.snap.now) c.in_ok-groups.groups.items refl (c.in_ok-groups.ensures asked.frame asked.places.now) c.requires.once,
      refl,
      λ t lo hi. refl,
      refl,
      refl,
      begins (g.Q.Snapshot.held c.args.snap.now) plan c.args.steps.now,
    )

pub returns-in_err-sum_one-clause-most_steps : goal.returns-in_err-sum_one-clause-most_steps
returns-in_err-sum_one-clause-most_steps g c =
    let plan = c.args.asked.now.plan.now in
    let t = listed c.in-Some.table in
    let held = g.Q.Snapshot.held c.args.snap.now in
    let given : IfSome (held t.number plan.lo plan.hi) (λ n. c.sum_one.new.steps ≤ c.tables.steps + n) =
    subst (λ (o : Option ℕ). IfSome o (λ n. c.sum_one.new.steps ≤ c.tables.steps + n)) (c.tables.invariant.2 t.number plan.lo plan.hi) c.in_err-sum_one.ensures.most_steps in
    takes_stop plan c.tables.at t (sym c.in-Some.ensures) held c.args.steps.now c.tables.steps c.sum_one.new.steps given c.tables.invariant.5

pub tables-preserved : goal.tables-preserved
tables-preserved g c =
    let asked = c.args.asked.now in
    let f = asked.frame in
    let places = asked.places.now in
    let plan = asked.plan.now in
    let ps = asked.comparisons.now in
    let first = first_groups c.args.one in
    let held = g.Q.Snapshot.held c.args.snap.now in
    let rows = g.Q.Snapshot.rows c.args.snap.now in
    let now : List WithSums = c.tables.groups.items in
    let next : List WithSums = c.match-table_at.groups.items in
    elim c.match-table_at.branch [
      | in-Some+in_ok-sum_one w ↦
          let t = listed w.in-Some.table in
          let here : slice_get (tables_of plan) c.tables.at ≡ Some t = sym w.in-Some.ensures in
          let e : next ≡ w.sum_one.new.groups.items = ap (λ v. v.items) w.groups-is in
          let put : IfSome rows (λ all. Put f places plan ps first t all now next) =
          subst (λ (o : Option Rows). IfSome o (λ all. Put f places plan ps first t all now next)) c.tables.invariant.1
          (subst (λ (gs : List WithSums). IfSome (g.Q.Snapshot.rows c.tables.snap) (λ all. Put f places plan ps first t all now gs)) (sym e) w.in_ok-sum_one.ensures.found) in
          let given : IfSome (held t.number plan.lo plan.hi) (λ n. c.match-table_at.steps ≤ c.tables.steps + n) =
          subst (λ (o : Option ℕ). IfSome o (λ n. c.match-table_at.steps ≤ c.tables.steps + n)) (c.tables.invariant.2 t.number plan.lo plan.hi)
          (subst (λ (s : ℕ). IfSome (g.Q.Snapshot.held c.tables.snap t.number plan.lo plan.hi) (λ n. s ≤ c.tables.steps + n)) (sym w.steps-is) w.in_ok-sum_one.ensures.most_steps) in (
            sums_next f places plan ps first c.tables.at t rows now next here put c.tables.invariant.0,
            ap g.Q.Snapshot.rows w.snap-is ∙ w.in_ok-sum_one.ensures.rows ∙ c.tables.invariant.1,
            λ n lo hi. ap (λ s. g.Q.Snapshot.held s n lo hi) w.snap-is ∙ w.in_ok-sum_one.ensures.held n lo hi ∙ c.tables.invariant.2 n lo hi,
            ap g.Q.Snapshot.damaged w.snap-is ∙ w.in_ok-sum_one.ensures.damaged ∙ c.tables.invariant.3,
            ap g.Q.Snapshot.count w.snap-is ∙ w.in_ok-sum_one.ensures.fault.kept ∙ c.tables.invariant.4,
            takes_next plan c.tables.at t here held c.args.steps.now c.tables.steps c.match-table_at.steps given c.tables.invariant.5,
          )
      | in_default w ↦
          let none = sym w.in_default.ensures in
          let e : next ≡ now = ap (λ v. v.items) w.groups-is in (
            subst (λ (gs : List WithSums). Sums f places plan ps first (drop (c.tables.at + 1) (tables_of plan)) rows gs) (sym e) (sums_past f places plan ps first c.tables.at rows now none c.tables.invariant.0),
            ap g.Q.Snapshot.rows w.snap-is ∙ c.tables.invariant.1,
            λ n lo hi. ap (λ s. g.Q.Snapshot.held s n lo hi) w.snap-is ∙ c.tables.invariant.2 n lo hi,
            ap g.Q.Snapshot.damaged w.snap-is ∙ c.tables.invariant.3,
            ap g.Q.Snapshot.count w.snap-is ∙ c.tables.invariant.4,
            subst (λ (s : ℕ). Takes held plan (drop (c.tables.at + 1) (tables_of plan)) c.args.steps.now s) (sym w.steps-is) (takes_past plan c.tables.at none held c.args.steps.now c.tables.steps c.tables.invariant.5),
          )
    ]

pub returns-clause-found : goal.returns-clause-found
returns-clause-found g c =
    let asked = c.args.asked.now in
    let plan = asked.plan.now in
    let none = no_more c.tables.at plan.tables plan.parts plan.names plan.tags (omega arith) in
    sums_end asked.frame asked.places.now plan asked.comparisons.now (first_groups c.args.one) (drop c.tables.at (tables_of plan)) (g.Q.Snapshot.rows c.args.snap.now) c.tables.groups.items none c.tables.invariant.0
