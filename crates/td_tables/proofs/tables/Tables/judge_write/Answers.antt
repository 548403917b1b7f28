use Rattle.std.proofs.Common.{◌≡◌, ◌<◌, ◌∙◌, None, ap, rules}
use Rattle.td_limits.specs.declared.limits.TheConstants.{LAST_VERSION}
use Rattle.td_told.specs.Verdict.{closed_cause}
use Rattle.td_tables.proofs.Judged.{not_closed, takes_by}
use Rattle.td_tables.proofs.tables.Tables.judge_write.Goals as goal

pub returns-clause-takes : goal.returns-clause-takes
returns-clause-takes c =
    let none : closed_cause c.args.self.now.state ≡ None = search rules in
    let version : c.args.self.now.state.version < LAST_VERSION = not_closed c.args.self.now.state none in
    takes_by c.in_ok-answer.answer c.self.inside.catalog.catalog c.edge-edge.result c.args.self.now.state
    (ap (λ h. h.state.catalog) c.self.view_is) (c.edge-edge.ensures ∙ ap (λ h. h.state.edge) c.self.view_is)
    c.in_ok-answer.ensures.follows c.in_ok-answer.ensures.edge version
