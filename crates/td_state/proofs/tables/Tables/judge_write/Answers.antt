use Rattle.std.proofs.Common.{◌≡◌, ℕ, ◌<◌, ◌≤◌, ◌∙◌, None, ap, sym, subst, rules}
use Rattle.td_limits.specs.declared.limits.TheConstants.{LAST_DAY_RANGE, LAST_VERSION}
use Rattle.td_told.specs.Verdict.{closed_cause}
use Rattle.td_state.proofs.Judged.{not_closed, takes_by}
use Rattle.td_state.proofs.tables.Tables.judge_write.Goals as goal

pub returns-clause-takes : goal.returns-clause-takes
returns-clause-takes c =
    let none : closed_cause c.args.self.now.state ≡ None = search rules in
    let version : c.args.self.now.state.version < LAST_VERSION = not_closed c.args.self.now.state none in
    let at : c.edge-edge.result ≡ c.self.inside.contents.kept.edge = c.edge-edge.ensures in
    takes_by c.args.stmt.now c.args.moment c.in_ok-answer.answer c.self.inside.catalog.catalog c.edge-edge.result c.args.self.now.state
    (ap (λ h. h.state.catalog) c.self.view_is) (at ∙ ap (λ h. h.state.edge) c.self.view_is)
    (subst (λ (e : ℕ). e ≤ LAST_DAY_RANGE) (sym at) c.self.invariant.edge) c.requires.moment c.in_ok-answer.ensures.verdict
    c.in_ok-answer.ensures.follows c.in_ok-answer.ensures.edge version
