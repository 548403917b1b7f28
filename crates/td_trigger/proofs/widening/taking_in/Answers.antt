use Rattle.std.proofs.Common.{map, ◌∙◌}
use Rattle.td_trigger.specs.Regions.{extent}
use Rattle.td_trigger.proofs.Segments.{none_taken, spans_taken}
use Rattle.td_trigger.proofs.widening.taking_in.Goals as goal

pub returns-clause-value : goal.returns-clause-value
returns-clause-value c =
    c.hull.ensures ∙ spans_taken c.args.range c.args.old.now c.args.first c.args.past _ _ c.extent.result c.extent-2.result c.requires.in_order c.if-past-first.false c.requires.inside c.extent.ensures.value c.extent-2.ensures.value

pub returns-then-past-first-clause-value : goal.returns-then-past-first-clause-value
returns-then-past-first-clause-value c = none_taken c.args.range (map extent c.args.old.now) c.args.first c.args.past c.if-past-first.true
