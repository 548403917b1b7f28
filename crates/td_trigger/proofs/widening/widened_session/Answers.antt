use Rattle.std.proofs.Common.{map, ◌∙◌}
use Rattle.td_trigger.specs.Regions.{extent}
use Rattle.td_trigger.proofs.Segments.{session_segment}
use Rattle.td_trigger.proofs.widening.widened_session.Goals as goal

pub returns-clause-value : goal.returns-clause-value
returns-clause-value c =
    let first = c.first_ending_from-first.ensures in
    let past = c.first_starting_after-past.ensures in
    c.taking_in.ensures.value ∙ session_segment c.args.range (map extent c.args.old.now) _ _ c.args.tol first.before first.from past.before past.from
