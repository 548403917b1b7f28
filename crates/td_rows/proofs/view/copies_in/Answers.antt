use Rattle.std.proofs.Common.{◌≡◌, ◌++◌, ℕ, List, map, sym, ap, ◌∙◌, subst}
use Rattle.std.proofs.lemmas.List.{append-nil}
use Rattle.std.specs.List.{AllByRecursion}
use Rattle.td_layer.specs.Columns.{AreColumnValues}
use Rattle.td_layer.specs.declared.values.Key.{Key}
use Rattle.td_layer.specs.declared.values.Row.{Row}
use Rattle.td_rows.proofs.Scanned.{good_in}
use Rattle.td_rows.proofs.view.copies_in.Goals as goal

pub returns-clause-values : goal.returns-clause-values
returns-clause-values g c =
    let left : c.rows.found ++ map (λ (e : Key × Row). (e.0.ts, e.1)) c.rows.key-iterator ≡ c.rows.found = ap (λ (rest : List (Key × Row)). c.rows.found ++ map (λ (e : Key × Row). (e.0.ts, e.1)) rest) c.in-None.ensures.steps.0 ∙ append-nil c.rows.found in
    subst (λ (found : List (ℕ × Row)). AllByRecursion (λ (row : ℕ × Row). AreColumnValues row.1.values) found)
    (sym c.rows.invariant.0 ∙ left)
    (good_in c.args.table c.args.lo c.args.hi c.args.rows.now c.requires.values)
