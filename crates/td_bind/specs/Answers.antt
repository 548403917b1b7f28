-- The verdict that an answer is: of a write, accepted as an entry with so many rows, or refused with a cause; of a
-- query, passed with a plan, or refused.
use Rattle.std.specs.Prelude.{◌≡◌, ℕ, Bool, true, false, Some, None, Result, Ok, Err}
use Rattle.td_model.specs.declared.catalog.Schema.{Schema}
use Rattle.td_model.specs.declared.history.What.{What}
use Rattle.td_model.specs.declared.history.Verdict.{Verdict}
use Rattle.td_model.specs.declared.history.Verdict.TheVariants.{Accept, Pass, Refuse}
use Rattle.td_model.specs.declared.language.Query.{Query}
use Rattle.td_model.specs.declared.report.Cause.{Cause}
use Rattle.td_model.specs.declared.plan.Plan.{Plan}
use Rattle.td_model.specs.Catalog.{Catalog}
use Rattle.td_verdict.specs.declared.source.Source.{Source}
use Rattle.td_verdict.specs.declared.source.Source.TheVariants.{Table, Stable, Other}
use Rattle.td_verdict.specs.Queries.{body_cause}
use Rattle.td_verdict.specs.Plans.{plan_from}

abbrev pub verdict_of : Result (What × ℕ) Cause → Verdict
verdict_of (Ok accepted) = Accept accepted.0 accepted.1
verdict_of (Err cause) = Refuse cause

abbrev pub query_verdict_of : Result Plan Cause → Verdict
query_verdict_of (Ok plan) = Pass
query_verdict_of (Err cause) = Refuse cause

-- whether a source is a table
abbrev pub is_table : Source → Bool
is_table (Table n) = true
is_table (Stable n) = false
is_table Other = false

-- what a query meets over a source that is no cause: the first cause of its body, or its plan
abbrev pub IsAnswerOf : Query → Source → Schema → Catalog → Result Plan Cause → Type 0
IsAnswerOf q source s c (Ok plan) = (body_cause (is_table source) s q ≡ None) × (plan ≡ plan_from q source s c)
IsAnswerOf q source s c (Err why) = body_cause (is_table source) s q ≡ Some why
