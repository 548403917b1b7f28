-- What is answered of a text, as its branches have it.
use Rattle.std.proofs.Common.{◌≡◌, ℕ, ◌≤◌, List, length, Some, None, ◌⊎◌, inl, inr, subst}
use Rattle.td_limits.specs.declared.limits.TheConstants.{STATEMENT_BYTES}
use Rattle.td_lex.specs.declared.kinds.Spanned.{Spanned}
use Rattle.td_lex.specs.declared.kinds.LexFault.TheVariants.{BadToken, TooWide}
use Rattle.td_lex.specs.Laws.{Lexes}
use Rattle.td_model.specs.declared.language.Stmt.{Stmt}
use Rattle.td_grammar.specs.declared.lexemes.Lexeme.{Lexeme}
use Rattle.td_parse.specs.Statements.{lexemes, places, OfTokens, OfFront, IsAnswer}
use Rattle.td_parse.proofs.Texts.{of_all, of_part}

pub answer_of_all : (text : List ℕ) (ts : List Spanned) (ls : List Lexeme) (ats : List ℕ) (answer : Stmt) → length text ≤ STATEMENT_BYTES → Lexes text ts None → ls ≡ lexemes ts → ats ≡ places ts → OfTokens ls ats (length text) answer → IsAnswer text answer
answer_of_all text ts ls ats answer few h is at a =
    inr (few, of_all text ts answer h (subst (λ us. OfTokens (lexemes ts) us (length text) answer) at (subst (λ us. OfTokens us ats (length text) answer) is a)))

pub answer_of_front : (text : List ℕ) (ts : List Spanned) (place : ℕ) (ls : List Lexeme) (ats : List ℕ) (answer : Stmt) → length text ≤ STATEMENT_BYTES → Lexes text ts (Some (BadToken place)) ⊎ Lexes text ts (Some (TooWide place)) → ls ≡ lexemes ts → ats ≡ places ts → OfFront ls ats place answer → IsAnswer text answer
answer_of_front text ts place ls ats answer few which is at a = go which
  where
    front : OfFront (lexemes ts) (places ts) place answer
    front = subst (λ us. OfFront (lexemes ts) us place answer) at (subst (λ us. OfFront us ats place answer) is a)

    go : Lexes text ts (Some (BadToken place)) ⊎ Lexes text ts (Some (TooWide place)) → IsAnswer text answer
    go (inl (rest, reads, count, bad)) = inr (few, inr (of_part text rest ts place answer reads count (inl bad) front))
    go (inr (rest, reads, count, bad)) = inr (few, inr (of_part text rest ts place answer reads count (inr bad) front))
