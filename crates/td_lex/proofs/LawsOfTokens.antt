-- The laws of tokens, for the proofs of the crates above: each is the contract of a function of `laws.rt`.
use Rattle.std.proofs.Common.{◌≡◌, ◌≢◌, ℕ, ◌+◌, List, length, take, Result, Err, ◌⊎◌}
use Rattle.td_lex.specs.declared.kinds.Spanned.{Spanned}
use Rattle.td_lex.specs.declared.kinds.LexFault.{LexFault}
use Rattle.td_lex.specs.declared.kinds.LexFault.TheVariants.{NoMemory}
use Rattle.td_lex.specs.Tokens.{Reads, IsTokens, Answers}
use Rattle.td_lex.specs.Laws.{IsFront, Stops}
use Rattle.td_lex.proofs.OneAnswer as answers
use Rattle.td_lex.proofs.Places as places

pub one_answer : (text : List ℕ) (a b : Result (List Spanned) LexFault) → a ≢ Err NoMemory → b ≢ Err NoMemory → Answers text a → Answers text b → a ≡ b
one_answer = answers.one_answer

pub one_front : (at : ℕ) (text rest last : List ℕ) (ts us : List Spanned) → Reads at text ts rest → Reads at text us last → IsFront ts us ⊎ IsFront us ts
one_front at text rest last ts us h k = answers.one_front ts us at text rest last h k

pub read_to_a_stop : (at : ℕ) (text rest last : List ℕ) (ts us : List Spanned) → Reads at text ts rest → Reads at text us last → Stops last → IsFront ts us
read_to_a_stop = answers.to_a_stop

pub cut_before_the_rest : (text rest : List ℕ) (ts : List Spanned) (at : ℕ) → Reads 0 text ts rest → at + length rest ≡ length text → IsTokens (take at text) ts
cut_before_the_rest = places.cut_before_the_rest
