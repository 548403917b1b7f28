-- Laws of statements.
use Rattle.std.proofs.Common.{◌≡◌, ℕ, List, [], ◌∷◌, ◌++◌, map, Result, Ok, Err, inl, inr, refl, sym, ap, subst, ◌∙◌}
use Rattle.std.proofs.lemmas.List.{append-nil}
use Rattle.td_lex.specs.declared.kinds.Token.{Token}
use Rattle.td_lex.specs.declared.kinds.Spanned.{Spanned}
use Rattle.td_lex.specs.Tokens.{IsTokens}
use Rattle.td_model.specs.declared.language.Stmt.{Stmt}
use Rattle.td_grammar.specs.declared.lexemes.Lexeme.{Lexeme}
use Rattle.td_grammar.specs.Kinds.{lexeme_of}
use Rattle.td_grammar.specs.Grammar.{Derives}
use Rattle.td_grammar.proofs.Whole.{whole_of}
use Rattle.td_parse.specs.Productions.{a_statement, statement_text, statement_good}
use Rattle.td_parse.specs.Statements.{lexemes, semicolon, IsStatement, judged, Parsed}
use Rattle.td_parse.proofs.Texts.{one_list}

abbrev tree_in : Stmt → Result Stmt ℕ → Stmt
tree_in other (Ok tree) = tree
tree_in other (Err n) = other

pub one_tree : (ts : List Lexeme) (a b : Stmt) → IsStatement ts a → IsStatement ts b → a ≡ b
one_tree ts a b h i = ap (tree_in a) (sym (whole_of (tt {0}) statement_text ts a statement_good h) ∙ whole_of (tt {0}) statement_text ts b statement_good i)

abbrev tokens_of : List Spanned → List Token
tokens_of ts = map (λ t. t.token) ts

abbrev first_or : Token → List Token → Token
first_or d [] = d
first_or d (t ∷ ts) = t

abbrev tail_of : List Token → List Token
tail_of [] = []
tail_of (t ∷ ts) = ts

lexemes_alike : (ts us : List Spanned) → tokens_of ts ≡ tokens_of us → lexemes ts ≡ lexemes us
lexemes_alike [] [] h = refl
lexemes_alike [] (u ∷ us) h = cc
lexemes_alike (t ∷ ts) [] h = cc
lexemes_alike (t ∷ ts) (u ∷ us) h =
    ap (λ token. lexeme_of token ∷ lexemes ts) (ap (first_or t.token) h) ∙ ap (λ ls. lexeme_of u.token ∷ ls) (lexemes_alike ts us (ap tail_of h))

pub same_tokens : (text other : List ℕ) (ts us : List Spanned) (answer : Stmt) → IsTokens text ts → IsTokens other us → tokens_of ts ≡ tokens_of us → Parsed text answer → Parsed other answer
same_tokens text other ts us answer h i alike (vs, tree, tokens, d, value) =
    let same : vs ≡ ts = one_list text ts vs h tokens in
    let to_us : tokens_of vs ≡ tokens_of us = ap tokens_of same ∙ alike in
    (us, tree, i, subst (λ ls. IsStatement ls tree) (lexemes_alike vs us to_us) d, value ∙ ap (λ ls. judged ls tree) (lexemes_alike vs us to_us))

pub final_semicolon : (ts : List Lexeme) (tree : Stmt) → Derives (tt {0}) a_statement ts tree → IsStatement ts tree × IsStatement (ts ++ semicolon ∷ []) tree
unfolding statement_text
final_semicolon ts tree d = (
  (ts, [], tree, tt, sym (append-nil ts), d, inr (refl, refl), refl),
  (ts, semicolon ∷ [], tree, tt, refl, d, inl (tt, (semicolon, refl, refl, refl), refl), refl),
)
