use Rattle.td_bind.proofs.Follows.{answer_follows, answer_edge}
use Rattle.td_bind.proofs.write.bind_write.Goals as goal

pub returns-clause-follows : goal.returns-clause-follows
returns-clause-follows c = answer_follows c.args.stmt.now c.args.catalog.now.catalog c.args.edge c.args.moment c.in_ok-answer.answer c.is_valid.ensures c.in_ok-answer.ensures

pub returns-clause-edge : goal.returns-clause-edge
returns-clause-edge c = answer_edge c.args.stmt.now c.args.catalog.now.catalog c.args.edge c.args.moment c.in_ok-answer.answer c.is_valid.ensures c.in_ok-answer.ensures
