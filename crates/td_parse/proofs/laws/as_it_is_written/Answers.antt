use Rattle.td_parse.proofs.SameTrees.{text_in, text_out}
use Rattle.td_parse.proofs.laws.as_it_is_written.Goals as goal

pub returns : goal.returns
returns c = λ ts tree. (λ d. text_out.into (tt {0}) ts tree d, λ d. text_in.into (tt {0}) ts tree d)
