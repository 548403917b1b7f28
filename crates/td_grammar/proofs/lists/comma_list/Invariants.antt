use Rattle.std.proofs.Common.{◌≡◌, length}
use Rattle.td_grammar.specs.Grammar.{read}
use Rattle.td_grammar.specs.Words.{list_from, comma, ◌▷◌, comma_list}
use Rattle.td_grammar.proofs.lists.comma_list.Given as goal

-- the list so far, and what is left, are the list
abbrev pub invariant-loop-rest : goal.invariant-loop-rest
invariant-loop-rest g l = list_from (comma ▷ g.L.Listed.production) l.all.items l.rest ≡ read (tt {0}) (comma_list g.L.Listed.production) l.fn.tokens

abbrev pub decreases-loop-rest : goal.decreases-loop-rest
decreases-loop-rest g l = length l.rest
