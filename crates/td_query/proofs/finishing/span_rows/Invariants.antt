use Rattle.std.proofs.Common.{◌≡◌, map, take}
use Rattle.td_verdict.specs.Answered.{window_row}
use Rattle.td_query.specs.Cuts.{window_of_span}
use Rattle.td_query.proofs.finishing.span_rows.Given as goal

-- the rows of the windows of the spans so far
abbrev pub invariant-spans : goal.invariant-spans
invariant-spans l = l.all ≡ map (window_row l.plan.schema.columns l.plan.query l.part) (map (window_of_span l.kept l.rows) (take l.span-index l.spans))
