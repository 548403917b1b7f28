-- The one order of the causes of refusal. What a statement may be refused for is a list of causes in that order, each
-- with whether it applies; the first that applies is the cause.
use Rattle.std.specs.Prelude.{ℕ, Bool, true, false, List, [], ◌∷◌, Option, Some, None}
use Rattle.td_model.specs.declared.report.Cause.{Cause}
use Rattle.td_model.specs.declared.history.What.{What}
use Rattle.td_model.specs.declared.history.Verdict.{Verdict}
use Rattle.td_model.specs.declared.history.Verdict.TheVariants.{Accept, Refuse}

-- a cause, where it applies
abbrev pub when : Bool → Cause → Option Cause
when true cause = Some cause
when false cause = None

-- the first cause of a list
abbrev pub first_cause : List (Option Cause) → Option Cause
first_cause [] = None
first_cause (None ∷ causes) = first_cause causes
first_cause (Some cause ∷ causes) = Some cause

-- accepted as an entry with so many rows, where no cause applies
abbrev pub accepted_or : Option Cause → What → ℕ → Verdict
accepted_or None what rows = Accept what rows
accepted_or (Some cause) what rows = Refuse cause
