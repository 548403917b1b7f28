use Rattle.std.proofs.Common.{◌≡◌, length}
use Rattle.td_grammar.specs.Grammar.{read}
use Rattle.td_grammar.specs.Words.{states_from}
use Rattle.td_parse.specs.Productions.{options, stream_option, is_new, with_option}
use Rattle.td_parse.proofs.streams.options.Given as goal

-- the options so far, and what is left, are the options
abbrev pub invariant-loop-all : goal.invariant-loop-all
invariant-loop-all l = states_from stream_option is_new with_option l.all l.rest ≡ read (tt {0}) options l.fn.tokens

abbrev pub decreases-loop-all : goal.decreases-loop-all
decreases-loop-all l = length l.rest
