use Rattle.std.proofs.Common.{◌≡◌, ◌++◌, drop}
use Rattle.td_verdict.specs.Fields.{comparisons_of}
use Rattle.td_fields.proofs.fields.comparisons.Given as goal

abbrev pub invariant-loop-cond : goal.invariant-loop-cond
invariant-loop-cond l = comparisons_of l.schema l.conds ≡ l.all ++ comparisons_of l.schema (drop l.cond-index l.conds)
