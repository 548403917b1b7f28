-- A text has one answer.
use Rattle.std.proofs.Common.{◌≡◌, ◌≢◌, ℕ, ◌+◌, ◌<◌, ◌≤◌, List, [], ◌∷◌, ◌++◌, length, Result, Ok, Err, ◌⊎◌, inl, inr, refl, sym, ap, subst, ◌∙◌, arith, append_assoc}
use Rattle.std.proofs.lemmas.List.{append-nil, map-append}
use Rattle.td_lex.specs.declared.kinds.Spanned.{Spanned}
use Rattle.td_lex.specs.declared.kinds.LexFault.{LexFault}
use Rattle.td_lex.specs.declared.kinds.LexFault.TheVariants.{BadToken, TooWide, NoMemory}
use Rattle.td_lex.specs.Laws.{IsFront, Stops}
use Rattle.td_lex.specs.Tokens.{Reads, IsTokens, NoToken, WideFirst, Answers as LexAnswers}
use Rattle.td_lex.proofs.LawsOfTokens.{one_answer as one_lexing, one_front, read_to_a_stop}
use Rattle.td_limits.specs.declared.limits.TheConstants.{STATEMENT_BYTES}
use Rattle.td_model.specs.declared.report.Cause.{Cause}
use Rattle.td_model.specs.declared.report.Cause.TheVariants.{Syntax}
use Rattle.td_model.specs.declared.language.Stmt.{Stmt}
use Rattle.td_model.specs.declared.language.Stmt.TheVariants as stmt
use Rattle.td_grammar.specs.declared.lexemes.Lexeme.{Lexeme}
use Rattle.td_grammar.specs.Kinds.{lexeme_of}
use Rattle.td_grammar.specs.Grammar.{all_real}
use Rattle.td_parse.specs.Statements.{lexemes, IsStatement, BeginsStatement, cause_by, EndsEarly, TokenFails, NoTokenStands, Fails, judged, Parsed, Refused, IsAnswer}
use Rattle.td_parse.proofs.Texts.{one_list, whole_begins}
use Rattle.td_parse.proofs.Alike.{one_tree}

-- tokens that differ behind the same ones are one where one list is a front of the other
next_in : (ts : List Spanned) (t u : Spanned) (x y : List Spanned) → IsFront (ts ++ t ∷ x) (ts ++ u ∷ y) → t ≡ u
next_in [] t u x y (back, e) = cc
next_in (v ∷ ts) t u x y (back, e) = next_in ts t u x y (back, cc)

same_next : (ts : List Spanned) (t u : Spanned) (x y : List Spanned) (text rest last : List ℕ) → Reads 0 text (ts ++ t ∷ x) rest → Reads 0 text (ts ++ u ∷ y) last → t ≡ u
same_next ts t u x y text rest last h k = elim (one_front 0 text rest last (ts ++ t ∷ x) (ts ++ u ∷ y) h k) [ inl f ↦ next_in ts t u x y f | inr f ↦ sym (next_in ts u t y x f) ]

reads_real : (at : ℕ) (text : List ℕ) (ts : List Spanned) (rest : List ℕ) → Reads at text ts rest → all_real (lexemes ts)
reads_real at text [] rest h = tt
reads_real at text (t ∷ ts) rest (gap, word, after, blank, parts, stands, place, end, more) = ((refl, word, stands.1), reads_real t.end after ts rest more)

real_back : (ts us : List Spanned) → all_real (lexemes (ts ++ us)) → all_real (lexemes us)
real_back [] us h = h
real_back (t ∷ ts) us h = real_back ts us h.1

real_both : (x y : List Lexeme) → all_real x → all_real y → all_real (x ++ y)
real_both [] y h k = k
real_both (l ∷ x) y h k = (h.0, real_both x y h.1 k)

-- what begins a statement still does where its end is left out
begins_front : (ts us : List Spanned) → all_real (lexemes (ts ++ us)) → BeginsStatement (lexemes (ts ++ us)) → BeginsStatement (lexemes ts)
begins_front ts us real (more, a, all, d) = (
  lexemes us ++ more,
  a,
  real_both (lexemes us) more (real_back ts us real) all,
  subst (λ ls. IsStatement ls a) (ap (λ f. f ++ more) (map-append (λ u. lexeme_of u.token) ts us) ∙ append_assoc (lexemes ts) (lexemes us) more) d,
)

-- a token that no statement goes on with stands in no front of one that is read as far as tokens stand
clash : (text last : List ℕ) (ts us : List Spanned) (cause : Cause) → TokenFails text ts cause → Reads 0 text us last → Stops last → BeginsStatement (lexemes us) → ⊥
clash text last ts us cause (t, after, reads, none, value) other stops begins =
    let (back, e) = read_to_a_stop 0 text after last (ts ++ t ∷ []) us reads other stops in
    none (begins_front (ts ++ t ∷ []) back (subst (λ vs. all_real (lexemes vs)) e (reads_real 0 text us last other)) (subst (λ vs. BeginsStatement (lexemes vs)) e begins))

-- two tokens that fail are one
overtaken : (text after last : List ℕ) (ts : List Spanned) (t : Spanned) (us : List Spanned) (b : Spanned) (bs : List Spanned) → Reads 0 text (ts ++ t ∷ []) after → (BeginsStatement (lexemes (ts ++ t ∷ [])) → ⊥) → Reads 0 text us last → BeginsStatement (lexemes us) → us ≡ ts ++ b ∷ bs → ⊥
overtaken text after last ts t us b bs h none other begun e =
    let reads : Reads 0 text (ts ++ b ∷ bs) last = subst (λ vs. Reads 0 text vs last) e other in
    let same : t ≡ b = same_next ts t b [] bs text after last h reads in
    let parts : us ≡ (ts ++ t ∷ []) ++ bs = e ∙ ap (λ v. ts ++ v ∷ bs) (sym same) ∙ sym (append_assoc ts (t ∷ []) bs) in
    none (begins_front (ts ++ t ∷ []) bs (subst (λ vs. all_real (lexemes vs)) parts (reads_real 0 text us last other)) (subst (λ vs. BeginsStatement (lexemes vs)) parts begun))

-- the failures of a text, where the tokens before the first are a front of those before the other
one_failure : (text last : List ℕ) (ts us : List Spanned) (c d : Cause) → Reads 0 text us last → BeginsStatement (lexemes us) → TokenFails text ts c → TokenFails text us d → IsFront ts us → c ≡ d
one_failure text last ts us c d other begun (t, after, h, none, value) (u, behind, k, nothing, same) ([], e) =
    value ∙ ap cause_by (same_next ts t u [] [] text after behind h (subst (λ vs. Reads 0 text (vs ++ u ∷ []) behind) (e ∙ append-nil ts) k)) ∙ sym same
one_failure text last ts us c d other begun (t, after, h, none, value) fails (b ∷ bs, e) = absurd (overtaken text after last ts t us b bs h none other begun e)

both_fail : (text rest last : List ℕ) (ts us : List Spanned) (c d : Cause) → Reads 0 text ts rest → Reads 0 text us last → BeginsStatement (lexemes ts) → BeginsStatement (lexemes us) → TokenFails text ts c → TokenFails text us d → c ≡ d
both_fail text rest last ts us c d reads other begins begun h k = elim (one_front 0 text rest last ts us reads other) [
  | inl f ↦ one_failure text last ts us c d other begun h k f
  | inr f ↦ sym (one_failure text rest us ts d c reads begins k h f)
]

-- where reading tokens stops, there is one place of it
abbrev answer_at : (rest : List ℕ) → NoToken rest ⊎ WideFirst rest → ℕ → Result (List Spanned) LexFault
answer_at rest (inl h) at = Err (BadToken at)
answer_at rest (inr h) at = Err (TooWide at)

abbrev place_in : Result (List Spanned) LexFault → ℕ
place_in (Ok ts) = 0
place_in (Err (BadToken at)) = at
place_in (Err (TooWide at)) = at
place_in (Err NoMemory) = 0

its_place : (rest : List ℕ) (bad : NoToken rest ⊎ WideFirst rest) (at : ℕ) → place_in (answer_at rest bad at) ≡ at
its_place rest (inl h) at = refl
its_place rest (inr h) at = refl

its_cause : (rest : List ℕ) (bad : NoToken rest ⊎ WideFirst rest) (at : ℕ) → answer_at rest bad at ≢ Err NoMemory
its_cause rest (inl h) at e = cc
its_cause rest (inr h) at e = cc

its_answer : (text rest : List ℕ) (ts : List Spanned) (bad : NoToken rest ⊎ WideFirst rest) (at : ℕ) → Reads 0 text ts rest → at + length rest ≡ length text → LexAnswers text (answer_at rest bad at)
its_answer text rest ts (inl h) at reads count = (ts, rest, reads, count, h)
its_answer text rest ts (inr h) at reads count = (ts, rest, reads, count, h)

no_list : (ts : List Spanned) → (let r : Result (List Spanned) LexFault = Ok ts in r ≢ Err NoMemory)
no_list ts h = cc

no_answer : (ts : List Spanned) (rest : List ℕ) (bad : NoToken rest ⊎ WideFirst rest) (at : ℕ) → (let r : Result (List Spanned) LexFault = Ok ts in r ≡ answer_at rest bad at) → ⊥
no_answer ts rest (inl h) at e = cc
no_answer ts rest (inr h) at e = cc

-- a text of tokens has no place at which none stands
all_or_stop : (text rest : List ℕ) (vs ts : List Spanned) (bad : NoToken rest ⊎ WideFirst rest) (at : ℕ) → IsTokens text vs → Reads 0 text ts rest → at + length rest ≡ length text → ⊥
all_or_stop text rest vs ts bad at tokens reads count =
    no_answer vs rest bad at (one_lexing text (Ok vs) (answer_at rest bad at) (no_list vs) (its_cause rest bad at) tokens (its_answer text rest ts bad at reads count))

one_stop : (text rest last : List ℕ) (ts us : List Spanned) (bad : NoToken rest ⊎ WideFirst rest) (worse : NoToken last ⊎ WideFirst last) (at place : ℕ) → Reads 0 text ts rest → Reads 0 text us last → at + length rest ≡ length text → place + length last ≡ length text → at ≡ place
one_stop text rest last ts us bad worse at place reads other count total =
    sym (its_place rest bad at)
    ∙ ap place_in (one_lexing text (answer_at rest bad at) (answer_at last worse place) (its_cause rest bad at) (its_cause last worse place) (its_answer text rest ts bad at reads count) (its_answer text last us worse place other total))
    ∙ its_place last worse place

ended : (text rest : List ℕ) (ts : List Spanned) → Reads 0 text ts rest → rest ≡ [] → IsTokens text ts
ended text rest ts h e = subst (λ r. Reads 0 text ts r) e h

one_cause : (text : List ℕ) (c d : Cause) → Fails text c → Fails text d → c ≡ d
one_cause text c d (ts, rest, reads, begins, x) (us, last, other, begun, y) = go x y
  where
    go : EndsEarly text ts rest c ⊎ (TokenFails text ts c ⊎ NoTokenStands text rest c) → EndsEarly text us last d ⊎ (TokenFails text us d ⊎ NoTokenStands text last d) → c ≡ d
    go (inl (e, none, v)) (inl (f, nothing, w)) = v ∙ sym w
    go (inl (e, none, v)) (inr (inl f)) = absurd (clash text [] us ts d f (ended text rest ts reads e) (inl refl) begins)
    go (inl (e, none, v)) (inr (inr (bad, at, count, w))) = absurd (all_or_stop text last ts us bad at (ended text rest ts reads e) other count)
    go (inr (inl f)) (inl (e, none, w)) = absurd (clash text [] ts us c f (ended text last us other e) (inl refl) begun)
    go (inr (inl f)) (inr (inl g)) = both_fail text rest last ts us c d reads other begins begun f g
    go (inr (inl f)) (inr (inr (bad, at, count, w))) = absurd (clash text last ts us c f other (inr bad) begun)
    go (inr (inr (bad, at, count, v))) (inl (e, none, w)) = absurd (all_or_stop text rest us ts bad at (ended text last us other e) reads count)
    go (inr (inr (bad, at, count, v))) (inr (inl g)) = absurd (clash text rest us ts d g reads (inr bad) begins)
    go (inr (inr (bad, at, count, v))) (inr (inr (worse, place, total, w))) = v ∙ ap Syntax (one_stop text rest last ts us bad worse at place reads other count total) ∙ sym w

-- a text that is a statement has no failure
parsed_or_refused : (text : List ℕ) (a b : Stmt) → Parsed text a → Refused text b → ⊥
parsed_or_refused text a b (vs, tree, tokens, d, value) (cause, (ts, rest, reads, begins, x), w) = go x
  where
    go : EndsEarly text ts rest cause ⊎ (TokenFails text ts cause ⊎ NoTokenStands text rest cause) → ⊥
    go (inl (e, none, v)) = none tree (subst (λ us. IsStatement (lexemes us) tree) (one_list text ts vs (ended text rest ts reads e) tokens) d)
    go (inr (inl f)) = clash text [] ts vs cause f tokens (inl refl) (whole_begins vs tree d)
    go (inr (inr (bad, at, count, v))) = all_or_stop text rest vs ts bad at tokens reads count

one_parsed : (text : List ℕ) (a b : Stmt) → Parsed text a → Parsed text b → a ≡ b
one_parsed text a b (ts, tree, tokens, d, v) (us, other, again, k, w) =
    let same : us ≡ ts = one_list text ts us tokens again in
    let trees : tree ≡ other = one_tree (lexemes ts) tree other d (subst (λ vs. IsStatement (lexemes vs) other) same k) in
    v ∙ ap (λ q. judged (lexemes ts) q) trees ∙ ap (λ vs. judged (lexemes vs) other) (sym same) ∙ sym w

too_long : (text : List ℕ) → STATEMENT_BYTES < length text → length text ≤ STATEMENT_BYTES → ⊥
too_long text long few = omega (arith, long, few)

pub one_answer : (text : List ℕ) (a b : Stmt) → IsAnswer text a → IsAnswer text b → a ≡ b
one_answer text a b (inl (long, v)) (inl (far, w)) = v ∙ sym w
one_answer text a b (inl (long, v)) (inr (few, y)) = absurd (too_long text long few)
one_answer text a b (inr (few, x)) (inl (long, w)) = absurd (too_long text long few)
one_answer text a b (inr (few, inl p)) (inr (short, inl q)) = one_parsed text a b p q
one_answer text a b (inr (few, inl p)) (inr (short, inr q)) = absurd (parsed_or_refused text a b p q)
one_answer text a b (inr (few, inr p)) (inr (short, inl q)) = absurd (parsed_or_refused text b a q p)
one_answer text a b (inr (few, inr (c, f, v))) (inr (short, inr (d, g, w))) = v ∙ ap stmt.Wrong (one_cause text c d f g) ∙ sym w
