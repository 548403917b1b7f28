use Rattle.td_printed.proofs.Texts.{answer_has_words}
use Rattle.td_printed.proofs.laws.names_of_a_text_are_words.Goals as goal

pub returns : goal.returns
returns c = answer_has_words
