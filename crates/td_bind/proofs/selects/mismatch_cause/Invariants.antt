use Rattle.std.proofs.Common.{◌≡◌, drop}
use Rattle.td_verdict.specs.Queries.{mismatch_cause}
use Rattle.td_bind.proofs.selects.mismatch_cause.Given as goal

abbrev pub invariant-loop-cond : goal.invariant-loop-cond
invariant-loop-cond l = mismatch_cause l.schema l.conds ≡ mismatch_cause l.schema (drop l.cond-index l.conds)
