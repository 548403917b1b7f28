-- The list of conditions.
use Rattle.std.proofs.Common.{◌≡◌, ℕ, zero, suc, Bool, true, false, cond, List, [], ◌∷◌, ◌++◌, length, Ok, Err, refl, ap, sym, ◌∙◌, append_assoc}
use Rattle.std.proofs.lemmas.List.{append-nil}
use Rattle.td_grammar.specs.declared.lexemes.Lexeme.{Lexeme}
use Rattle.td_grammar.specs.Grammar.{Reading, only, starts, begun, looped, first, read, ◌>>=◌, as_value}
use Rattle.td_grammar.specs.declared.kinds.TheConstants.{AND}
use Rattle.td_grammar.specs.Words.{states_from, anything}
use Rattle.td_grammar.proofs.Forms.{States, states_of}
use Rattle.td_model.specs.declared.language.Cond.{Cond}
use Rattle.td_clauses.specs.declared.drafts.Clause.{Clause}
use Rattle.td_clauses.specs.Productions.{a_test, between, clause, compared, compares, cond_list, conds_of, further_clause, null_test, part, truth, with_clause}

pub conds_laws : States further_clause (only AND) anything with_clause
unfolding further_clause clause part a_test between null_test compares compared truth
conds_laws = states_of further_clause anything with_clause refl refl

pub begun_anything : (all : List Cond) (ts : List Lexeme) → starts (only AND) ts ≡ true → begun (anything all) ts ≡ true
begun_anything all [] h = cc
begun_anything all (t ∷ ts) h = refl

-- conditions before, or among those that are read
front_moves : (n : ℕ) (front all : List Cond) (ts : List Lexeme)
    → as_value (λ more. front ++ more) (looped (first {E = Unit {0}} further_clause) anything with_clause (λ now us. read (tt {0}) further_clause us) n all ts) ≡ looped (first {E = Unit {0}} further_clause) anything with_clause (λ now us. read (tt {0}) further_clause us) n (front ++ all) ts
front_moves zero front all ts = refl
front_moves (suc n) front all ts = go (λ x. front_moves n front (with_clause all x.0) x.1 ∙ ap (λ s. looped (first {E = Unit {0}} further_clause) anything with_clause (λ now us. read (tt {0}) further_clause us) n s x.1) (sym (append_assoc front all (conds_of x.0)))) (starts (first {E = Unit {0}} further_clause) ts) (begun (anything all) ts) (read (tt {0}) further_clause ts)
  where
    run : List Cond → List Lexeme → Reading (List Cond)
    run s us = looped (first {E = Unit {0}} further_clause) anything with_clause (λ now vs. read (tt {0}) further_clause vs) n s us

    go : ((x : Clause × List Lexeme) → as_value (λ more. front ++ more) (run (with_clause all x.0) x.1) ≡ run (with_clause (front ++ all) x.0) x.1) → (b d : Bool) (r : Reading Clause) → as_value (λ more. front ++ more) (cond b (cond d (r >>= λ x. run (with_clause all x.0) x.1) (Err (length ts))) (Ok (all, ts)))
        ≡ cond b (cond d (r >>= λ x. run (with_clause (front ++ all) x.0) x.1) (Err (length ts))) (Ok (front ++ all, ts))
    go deeper false d r = refl
    go deeper true false r = refl
    go deeper true true (Err m) = refl
    go deeper true true (Ok x) = deeper x

pub conds_begins : (ts : List Lexeme) (a : Clause) (rest : List Lexeme) → read (tt {0}) clause ts ≡ Ok (a, rest) → states_from further_clause anything with_clause (conds_of a) rest ≡ read (tt {0}) cond_list ts
unfolding cond_list
conds_begins ts a rest h = sym (
    ap (λ r. r >>= λ a. as_value (λ more. conds_of a.0 ++ more) (states_from further_clause anything with_clause [] a.1)) h
    ∙ front_moves (length rest) (conds_of a) [] rest
    ∙ ap (λ s. states_from further_clause anything with_clause s rest) (append-nil (conds_of a)))

pub conds_fail : (ts : List Lexeme) (n : ℕ) → read (tt {0}) clause ts ≡ Err n → read (tt {0}) cond_list ts ≡ Err n
unfolding cond_list
conds_fail ts n h = ap (λ r. r >>= λ a. as_value (λ more. conds_of a.0 ++ more) (states_from further_clause anything with_clause [] a.1)) h
