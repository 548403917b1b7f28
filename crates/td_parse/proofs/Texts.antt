-- What is answered of a text, from what is answered of its tokens.
use Rattle.std.proofs.Common.{◌≡◌, ◌≢◌, ℕ, ◌+◌, ◌-◌, List, [], ◌∷◌, ◌++◌, length, drop, Result, Ok, Err, ◌⊎◌, inl, inr, refl, sym, ap, subst, ◌∙◌, arith, append_assoc}
use Rattle.std.proofs.lemmas.List.{append-nil, length-append, length-map, map-append, drop-map}
use Rattle.std.proofs.Math.Seq.{drop-append_seam}
use Rattle.td_lex.specs.declared.kinds.Spanned.{Spanned}
use Rattle.td_lex.specs.declared.kinds.LexFault.{LexFault}
use Rattle.td_lex.specs.declared.kinds.LexFault.TheVariants.{NoMemory}
use Rattle.td_lex.specs.Tokens.{Reads, IsTokens, NoToken, WideFirst}
use Rattle.td_lex.proofs.LawsOfTokens.{one_answer}
use Rattle.td_model.specs.declared.report.Cause.{Cause}
use Rattle.td_model.specs.declared.report.Cause.TheVariants.{Syntax}
use Rattle.td_model.specs.declared.language.Stmt.{Stmt}
use Rattle.td_grammar.specs.declared.lexemes.Lexeme.{Lexeme}
use Rattle.td_grammar.specs.Kinds.{lexeme_of}
use Rattle.td_grammar.specs.Grammar.{Begins, Ends, FailsAt}
use Rattle.td_parse.specs.Statements.{lexemes, places, IsStatement, BeginsStatement, cause_by, Fails, Parsed, Refused, cause_of_rest, cause_of, OfTokens, OfFront}

abbrev first_or : Lexeme → List Lexeme → Lexeme
first_or d [] = d
first_or d (l ∷ ls) = l

abbrev tail_of : List Lexeme → List Lexeme
tail_of [] = []
tail_of (l ∷ ls) = ls

-- tokens whose lexemes part are parted there
record Parts (ts : List Spanned) (x y : List Lexeme) : Type 0 where
  front : List Spanned
  back : List Spanned
  parts : ts ≡ front ++ back
  is_front : lexemes front ≡ x
  is_back : lexemes back ≡ y

parted : (ts : List Spanned) (x y : List Lexeme) → lexemes ts ≡ x ++ y → Parts ts x y
parted ts [] y h = record { front = []; back = ts; parts = refl; is_front = refl; is_back = h }
parted [] (l ∷ x) y h = cc
parted (t ∷ ts) (l ∷ x) y h =
    let head : lexeme_of t.token ≡ l = ap (first_or l) h in
    let deeper = parted ts x y (ap tail_of h) in
    record {
      front = t ∷ deeper.front;
      back = deeper.back;
      parts = ap (λ r. t ∷ r) deeper.parts;
      is_front = ap (λ u. u ∷ lexemes deeper.front) head ∙ ap (λ r. l ∷ r) deeper.is_front;
      is_back = deeper.is_back;
    }

-- the front of the tokens is read up to some place
reads_front : (at : ℕ) (text : List ℕ) (a b : List Spanned) (rest : List ℕ) → Reads at text (a ++ b) rest → (mid : List ℕ) × Reads at text a mid
reads_front at text [] b rest h = (text, ([], refl, refl))
reads_front at text (t ∷ a) b rest (gap, word, after, blank, parts, stands, place, end, more) =
    let d = reads_front t.end after a b rest more in
    (d.0, (gap, word, after, blank, parts, stands, place, end, d.1))

abbrev tokens_in : List Spanned → Result (List Spanned) LexFault → List Spanned
tokens_in other (Ok ts) = ts
tokens_in other (Err e) = other

no_fault : (ts : List Spanned) → (let r : Result (List Spanned) LexFault = Ok ts in r ≢ Err NoMemory)
no_fault ts h = cc

pub one_list : (text : List ℕ) (ts us : List Spanned) → IsTokens text ts → IsTokens text us → us ≡ ts
one_list text ts us h i = ap (tokens_in us) (one_answer text (Ok us) (Ok ts) (no_fault us) (no_fault ts) i h)

-- the tokens that are left at a failure
drop_front : (a b : List Spanned) (left : ℕ) → left ≡ length b → drop (length (lexemes (a ++ b)) - left) (a ++ b) ≡ b
drop_front a b left h =
    let n : length (lexemes (a ++ b)) - left ≡ length a = omega (arith, length-map (a ++ b) (λ t. lexeme_of t.token), length-append a b) in
    rw n (drop-append_seam a b)

-- the cause of what is left
abbrev cause_left : List Spanned → ℕ → Cause
cause_left ts end = cause_of_rest (lexemes ts) (places ts) end

cause_is : (a b : List Spanned) (left end : ℕ) → left ≡ length b → cause_of (lexemes (a ++ b)) (places (a ++ b)) left end ≡ cause_left b end
cause_is a b left end h =
    let n : ℕ = length (lexemes (a ++ b)) - left in
    ap (λ ls. cause_of_rest ls (drop n (places (a ++ b))) end) (drop-map (λ t. lexeme_of t.token) n (a ++ b))
    ∙ ap (λ ats. cause_of_rest (lexemes (drop n (a ++ b))) ats end) (drop-map (λ t. t.at) n (a ++ b))
    ∙ ap (λ ts. cause_left ts end) (drop_front a b left h)

token_fails : (text rest : List ℕ) (x : List Spanned) (t : Spanned) (y : List Spanned) → Reads 0 text (x ++ t ∷ y) rest → BeginsStatement (lexemes x) → (BeginsStatement (lexemes (x ++ t ∷ [])) → ⊥) → Fails text (cause_by t)
token_fails text rest x t y h begins none =
    let mid = reads_front 0 text x (t ∷ y) rest h in
    let one = reads_front 0 text (x ++ t ∷ []) y rest (subst (λ ts. Reads 0 text ts rest) (sym (append_assoc x (t ∷ []) y)) h) in
    (x, mid.0, mid.1, begins, inr (inl (t, one.0, one.1, none, refl)))

-- a failure, where it is known what stands where all tokens are a front of some statement
failed : (text rest : List ℕ) (ts : List Spanned) (end left : ℕ) → Reads 0 text ts rest → FailsAt IsStatement (lexemes ts) left
    → (((tree : Stmt) → IsStatement (lexemes ts) tree → ⊥) → BeginsStatement (lexemes ts) → Fails text (Syntax end)) → Fails text (cause_of (lexemes ts) (places ts) left end)
failed text rest ts end left h (front, back, parts, count, begins, ends) at_end =
    let p = parted ts front back parts in
    let n : left ≡ length p.back = count ∙ ap length (sym p.is_back) ∙ length-map p.back (λ t. lexeme_of t.token) in
    let same : cause_of (lexemes ts) (places ts) left end ≡ cause_left p.back end = ap (λ us. cause_of (lexemes us) (places us) left end) p.parts ∙ cause_is p.front p.back left end n in
    subst (λ c. Fails text c) (sym same) (go p.front p.back p.parts p.is_front p.is_back)
  where
    go : (x y : List Spanned) → ts ≡ x ++ y → lexemes x ≡ front → lexemes y ≡ back → Fails text (cause_left y end)
    go x [] is isx isy =
        let all : lexemes ts ≡ front = ap lexemes (is ∙ append-nil x) ∙ isx in
        let none : (tree : Stmt) → IsStatement front tree → ⊥ = subst (λ b. Ends IsStatement front b) (sym isy) ends in
        at_end (λ tree d. none tree (subst (λ us. IsStatement us tree) all d)) (subst (λ us. BeginsStatement us) (sym all) begins)
    go x (t ∷ y) is isx isy =
        let none : Begins IsStatement (front ++ lexeme_of t.token ∷ []) → ⊥ = subst (λ b. Ends IsStatement front b) (sym isy) ends in
        let same : lexemes (x ++ t ∷ []) ≡ front ++ lexeme_of t.token ∷ [] = map-append (λ u. lexeme_of u.token) x (t ∷ []) ∙ ap (λ f. f ++ lexeme_of t.token ∷ []) isx in
        token_fails text rest x t y (subst (λ us. Reads 0 text us rest) is h) (subst (λ us. BeginsStatement us) (sym isx) begins) (λ b. none (subst (λ us. BeginsStatement us) same b))

pub of_all : (text : List ℕ) (ts : List Spanned) (answer : Stmt) → IsTokens text ts → OfTokens (lexemes ts) (places ts) (length text) answer → Parsed text answer ⊎ Refused text answer
of_all text ts answer h (inl (tree, d, value)) = inl (ts, tree, h, d, value)
of_all text ts answer h (inr (left, fails, value)) =
    inr (cause_of (lexemes ts) (places ts) left (length text), failed text [] ts (length text) left h fails (λ none begins. (ts, [], h, begins, inl (refl, none, refl))), value)

pub whole_begins : (ts : List Spanned) (tree : Stmt) → IsStatement (lexemes ts) tree → BeginsStatement (lexemes ts)
whole_begins ts tree d = ([], tree, tt, subst (λ us. IsStatement us tree) (sym (append-nil (lexemes ts))) d)

-- no token stands at this place
pub of_part : (text rest : List ℕ) (ts : List Spanned) (at : ℕ) (answer : Stmt) → Reads 0 text ts rest → at + length rest ≡ length text → NoToken rest ⊎ WideFirst rest → OfFront (lexemes ts) (places ts) at answer → Refused text answer
of_part text rest ts at answer h count bad (inl (tree, d, value)) = (Syntax at, (ts, rest, h, whole_begins ts tree d, inr (inr (bad, at, count, refl))), value)
of_part text rest ts at answer h count bad (inr (left, fails, value)) =
    (cause_of (lexemes ts) (places ts) left at, failed text rest ts at left h fails (λ none begins. (ts, rest, h, begins, inr (inr (bad, at, count, refl)))), value)
