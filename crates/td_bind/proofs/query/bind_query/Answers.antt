use Rattle.td_bind.proofs.SoundPlans.{answer_sound, answer_bounded}
use Rattle.td_bind.proofs.query.bind_query.Goals as goal

pub returns-clause-sound : goal.returns-clause-sound
returns-clause-sound c = λ no_now. answer_sound c.args.query.now c.args.catalog.now.catalog c.in_ok-answer.answer c.is_valid.ensures c.in_ok-answer.ensures.verdict c.in_ok-answer.ensures.plan no_now

pub returns-clause-bounded : goal.returns-clause-bounded
returns-clause-bounded c = answer_bounded c.args.query.now c.args.catalog.now.catalog c.in_ok-answer.answer c.in_ok-answer.ensures.verdict c.in_ok-answer.ensures.plan
