use Rattle.std.proofs.Common.{ℕ, List, sym, ap, ◌∙◌, subst, arith}
use Rattle.std.proofs.lemmas.List.{take_all}
use Rattle.std.specs.List.{AllByRecursion}
use Rattle.td_layer.specs.Columns.{AreColumnValues}
use Rattle.td_layer.specs.Scans.{rows_in}
use Rattle.td_layer.specs.declared.values.Row.{Row}
use Rattle.td_query_cases.proofs.Scanned.{good_in}
use Rattle.td_query_cases.proofs.stored.copies_in.Goals as goal

pub returns-clause-values : goal.returns-clause-values
returns-clause-values g c =
    let rows = c.args.rows.now in
    let whole = take_all c.rows.entry-index rows (omega arith) in
    subst (λ (found : List (ℕ × Row)). AllByRecursion (λ (row : ℕ × Row). AreColumnValues row.1.values) found)
    (sym (c.rows.invariant.0 ∙ ap (rows_in c.args.table c.args.lo c.args.hi) whole))
    (good_in c.args.table c.args.lo c.args.hi rows c.requires.values)
