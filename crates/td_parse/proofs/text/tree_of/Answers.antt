use Rattle.td_grammar.proofs.Whole.{parses}
use Rattle.td_parse.specs.Productions.{statement_text, statement_good}
use Rattle.td_parse.proofs.text.tree_of.Goals as goal

pub returns : goal.returns
returns c = parses (tt {0}) statement_text c.args.lexemes.now statement_good c.whole.result c.whole.ensures
