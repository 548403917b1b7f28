use Rattle.std.proofs.Common.{◌≤◌, ◌-◌, ℕ, List, ◌++◌, length}
use Rattle.td_lex.specs.declared.kinds.Spanned.{Spanned}
use Rattle.td_lex.specs.Tokens.{Reads, BeginsNot, is_blank}
use Rattle.td_lex.proofs.lexer.tokens_and_fault.Given as goal

-- whatever the rest is read as, the whole is read as that after the tokens so far
abbrev pub invariant-loop-rest : goal.invariant-loop-rest
invariant-loop-rest l = record {
  apart : BeginsNot is_blank l.rest;
  within : length l.rest ≤ length l.text;
  so_far : (ts : List Spanned) (last : List ℕ) → Reads (length l.text - length l.rest) l.rest ts last → Reads 0 l.text (l.found.items ++ ts) last;
}

abbrev pub decreases-loop-rest : goal.decreases-loop-rest
decreases-loop-rest l = length l.rest
