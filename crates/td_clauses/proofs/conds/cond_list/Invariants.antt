use Rattle.std.proofs.Common.{◌≡◌, length}
use Rattle.td_grammar.specs.Grammar.{read}
use Rattle.td_grammar.specs.Words.{states_from, anything}
use Rattle.td_clauses.specs.Productions.{cond_list, further_clause, with_clause}
use Rattle.td_clauses.proofs.conds.cond_list.Given as goal

-- the conditions so far, and what is left, are the conditions
abbrev pub invariant-loop-rest : goal.invariant-loop-rest
invariant-loop-rest l = states_from further_clause anything with_clause l.all.items l.rest ≡ read (tt {0}) cond_list l.fn.tokens

abbrev pub decreases-loop-rest : goal.decreases-loop-rest
decreases-loop-rest l = length l.rest
