use Rattle.std.proofs.Common.{◌≤◌, ℕ, List, All, sym, ◌∙◌, subst}
use Rattle.td_limits.specs.declared.limits.TheConstants.{LAST_TIMESTAMP}
use Rattle.td_query.proofs.Cutting.{in_range}
use Rattle.td_query.proofs.spans.sessions_of.Goals as goal

pub session-requires-clause-in_range : goal.session-requires-clause-in_range
session-requires-clause-in_range c =
    subst (λ (ts : List ℕ). All (λ t. t ≤ LAST_TIMESTAMP) ts) (sym (c.as_slice.ensures.value ∙ c.in_ok-times.ensures)) (in_range c.args.rows.now c.requires.good)
