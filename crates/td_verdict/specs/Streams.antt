-- What CREATE STREAM meets, beside the causes of its query.
use Rattle.std.specs.Prelude.{ℕ, ◌||◌, Bool, true, false, not, nat_lt, nat_le, List, [], ◌∷◌, length, Option, is_some}
use Rattle.td_model.specs.declared.language.OrderBy.{OrderBy}
use Rattle.td_model.specs.declared.language.OrderBy.TheVariants.{Plain}
use Rattle.td_model.specs.declared.language.Trigger.{Trigger}
use Rattle.td_model.specs.declared.language.Trigger.TheVariants.{MaxDelay}
use Rattle.td_model.specs.declared.language.Query.{Query}
use Rattle.td_model.specs.declared.language.StreamDef.{StreamDef}
use Rattle.td_model.specs.declared.history.What.TheVariants as what
use Rattle.td_model.specs.declared.history.Verdict.{Verdict}
use Rattle.td_model.specs.declared.report.Many.TheVariants as many
use Rattle.td_model.specs.declared.report.Cause.{Cause}
use Rattle.td_model.specs.declared.report.Cause.TheVariants as cause
use Rattle.td_limits.specs.declared.limits.TheConstants.{LAST_STREAM_NUMBER, LONGEST_DURATION, STREAMS}
use Rattle.td_model.specs.Built.{is_whole}
use Rattle.td_model.specs.Catalog.{Catalog}
use Rattle.td_verdict.specs.Causes.{when, first_cause, accepted_or}
use Rattle.td_verdict.specs.Names.{is_taken, is_target, is_stream}

-- the causes of a query over its source, each where it applies: of its names, its literals, its parts together, its
-- window, and its LIMIT
pub record OfQuery : Type 0 where
  pub unknown : Option Cause
  pub mismatch : Option Cause
  pub selection : Option Cause
  pub window : Option Cause
  pub limit : Option Cause

-- the query names no table or supertable
abbrev pub source_cause : List ℕ → Catalog → Option Cause
source_cause source c = first_cause (
    when (not (is_taken source c)) cause.UnknownTable
    ∷ when (is_target source c) cause.SourceIsTarget
    ∷ [])

-- as many streams live as may, or the number of one more would be above the last
abbrev pub stream_count_cause : Catalog → Option Cause
stream_count_cause c = first_cause (
    when (nat_le STREAMS (length c.streams)) (cause.TooMany many.Streams STREAMS)
    ∷ when (nat_lt LAST_STREAM_NUMBER c.next_stream) (cause.TooMany many.Numbers LAST_STREAM_NUMBER)
    ∷ [])

abbrev pub is_plain : OrderBy → Bool
is_plain Plain = true
is_plain _ = false

-- the query has no window, or has ORDER BY or LIMIT
abbrev pub is_no_stream : Query → Bool
is_no_stream q = is_whole q.window || not (is_plain q.order) || is_some q.limit

-- a duration of more than 10000 years of 365 days
abbrev pub is_long : ℕ → Bool
is_long duration = nat_lt LONGEST_DURATION duration

abbrev pub is_delay_long : Trigger → Bool
is_delay_long (MaxDelay delay) = is_long delay
is_delay_long _ = false

abbrev pub make_stream_cause : StreamDef → OfQuery → Catalog → Option Cause
make_stream_cause def q c = first_cause (
    source_cause def.query.source c
    ∷ when (is_stream def.name c || is_taken def.target c) cause.NameTaken
    ∷ q.unknown
    ∷ q.mismatch
    ∷ stream_count_cause c
    ∷ when (is_no_stream def.query) cause.BadSelect
    ∷ q.selection
    ∷ when (is_long def.watermark || is_delay_long def.trigger) cause.BadWindow
    ∷ q.window
    ∷ q.limit
    ∷ [])

abbrev pub make_stream_verdict : StreamDef → OfQuery → Catalog → Verdict
make_stream_verdict def q c = accepted_or (make_stream_cause def q c) (what.MakeStream def) 0
