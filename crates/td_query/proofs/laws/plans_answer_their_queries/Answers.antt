use Rattle.td_query.proofs.SameAnswers.{same_answers}
use Rattle.td_query.proofs.laws.plans_answer_their_queries.Goals as goal

pub returns : goal.returns
returns c = same_answers
