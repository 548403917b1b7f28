use Rattle.td_clauses.proofs.SameTrees.{query_in, query_out}
use Rattle.td_clauses.proofs.laws.query_as_it_is_written.Goals as goal

pub returns : goal.returns
returns c = λ ts tree. (λ d. query_out.into (tt {0}) ts tree d, λ d. query_in.into (tt {0}) ts tree d)
