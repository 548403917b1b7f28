-- Reading a whole text: exactly the grammar's values, and exactly the first failure.
use Rattle.std.proofs.Common.{◌≡◌, ℕ, true, false, List, [], ◌∷◌, ◌++◌, length, Result, Ok, Err, refl, sym, ap, subst, ◌∙◌, append_assoc}
use Rattle.std.proofs.lemmas.List.{append-nil}
use Rattle.td_grammar.specs.declared.lexemes.Lexeme.{Lexeme}
use Rattle.td_grammar.specs.declared.fault.Fault.{Fault}
use Rattle.td_grammar.specs.declared.fault.Fault.TheVariants.{NoMemory, At}
use Rattle.td_grammar.specs.Gives.{Gives, Parses}
use Rattle.td_grammar.specs.Grammar.{Ends, Reading, starts, G, Derives, after, good, read, whole, Answers}
use Rattle.td_grammar.proofs.Tells.{peek, Took, Told}
use Rattle.td_grammar.proofs.Exact.{told, full}

none_starts : {E A : Type 0} (g : G E A) → starts (after g) [] ≡ false
none_starts g = refl

-- a text is read
pub whole_of : {E A : Type 0} (e : E) (g : G E A) (ts : List Lexeme) (a : A) → good g ≡ true → Derives e g ts a → whole (read e g ts) ≡ Ok a
whole_of e g ts a ok d = ap (λ u. whole (read e g u)) (sym (append-nil ts)) ∙ ap whole (full e g ts [] a ok d refl)

exact_of : {E A : Type 0} (e : E) (g : G E A) (ts : List Lexeme) (a : A) → good g ≡ true → Derives e g ts a → read e g ts ≡ Ok (a, [])
exact_of e g ts a ok d = ap (λ u. read e g u) (sym (append-nil ts)) ∙ full e g ts [] a ok d refl

abbrev rest_in : {A : Type 0} → Reading A → List Lexeme
rest_in (Ok x) = x.1
rest_in (Err n) = []

ok_rest : {A : Type 0} (a b : A) (t : Lexeme) (more : List Lexeme) → (let left : Reading A = Ok (a, t ∷ more) in left ≡ Ok (b, [])) → ⊥
ok_rest a b t more h = let rests : t ∷ more ≡ [] = ap rest_in h in cc

err_ok : {A : Type 0} (n : ℕ) (x : A × List Lexeme) → (let left : Reading A = Err n in left ≡ Ok x) → ⊥
err_ok n x h = cc

-- where it took a value and something follows, nothing goes on so
ends_taken : {E A : Type 0} (e : E) (g : G E A) (ts : List Lexeme) (a : A) (t : Lexeme) (rest : List Lexeme) → good g ≡ true → (h : Took (λ x a. Derives e g x a) (λ us. read e g us) ts a (t ∷ rest)) → Ends (λ x a. Derives e g x a) h.front (t ∷ rest)
ends_taken e g ts a t rest ok h (more, b, _, d) =
    let same : read e g (h.front ++ (t ∷ more)) ≡ Ok (a, t ∷ more) = h.local (t ∷ more) refl in
    let other : read e g (h.front ++ (t ∷ [] ++ more)) ≡ Ok (b, []) = ap (λ u. read e g u) (sym (append_assoc h.front (t ∷ []) more)) ∙ exact_of e g (h.front ++ t ∷ [] ++ more) b ok d in
    ok_rest a b t more (sym same ∙ other)

ends_stopped : {E A : Type 0} (e : E) (g : G E A) (front rest : List Lexeme) → good g ≡ true → ((other : List Lexeme) → peek other ≡ peek rest → read e g (front ++ other) ≡ Err (length other)) → Ends (λ x a. Derives e g x a) front rest
ends_stopped e g front [] ok local = λ a d.
    let same : read e g (front ++ []) ≡ Err 0 = local [] refl in
    let other : read e g (front ++ []) ≡ Ok (a, []) = full e g front [] a ok d refl in
    err_ok 0 (a, []) (sym same ∙ other)
ends_stopped e g front (t ∷ rest) ok local = λ (more, b, _, d).
    let same : read e g (front ++ (t ∷ more)) ≡ Err (length (t ∷ more)) = local (t ∷ more) refl in
    let other : read e g (front ++ (t ∷ more)) ≡ Ok (b, []) = ap (λ u. read e g u) (sym (append_assoc front (t ∷ []) more)) ∙ exact_of e g (front ++ t ∷ [] ++ more) b ok d in
    err_ok (length (t ∷ more)) (b, []) (sym same ∙ other)

pub whole_says : {E A : Type 0} (e : E) (g : G E A) (ts : List Lexeme) → good g ≡ true → Answers (λ x a. Derives e g x a) ts (whole (read e g ts))
whole_says {E} {A} e g ts ok = go (read e g ts) (told e g ok ts)
  where
    go : (r : Reading A) → Told (λ x a. Derives e g x a) (λ us. read e g us) ts r → Answers (λ x a. Derives e g x a) ts (whole r)
    go (Ok (a, [])) h = subst (λ u. Derives e g u a) (sym (h.parts ∙ append-nil h.front)) h.derives
    go (Ok (a, t ∷ rest)) h = (h.front, t ∷ rest, h.parts, refl, ([], a, tt, subst (λ u. Derives e g u a) (sym (append-nil h.front)) h.derives), ends_taken e g ts a t rest ok h)
    go (Err n) h = (h.front, h.rest, h.parts, h.count, h.begins, ends_stopped e g h.front h.rest ok h.local)

-- what a function that gives this reading may return
pub parses : {E A : Type 0} (e : E) (g : G E A) (ts : List Lexeme) → good g ≡ true → (r : Result A Fault) → Gives (λ a. a) r (whole (read e g ts)) → Parses (λ x a. Derives e g x a) ts r
parses e g ts ok (Ok a) h = subst (λ u. Answers (λ x a. Derives e g x a) ts u) h (whole_says e g ts ok)
parses e g ts ok (Err NoMemory) h = tt
parses e g ts ok (Err (At n)) h = subst (λ u. Answers (λ x a. Derives e g x a) ts u) h (whole_says e g ts ok)

pub parsed : {E A : Type 0} (e : E) (g : G E A) (ts : List Lexeme) → good g ≡ true → (r : Result A Fault) → Gives (λ a. a) r (whole (read e g ts)) → (a : A) → Derives e g ts a → Gives (λ a. a) r (let right : Result A ℕ = Ok a in right)
parsed e g ts ok r h a d = subst (λ u. Gives (λ a. a) r u) (whole_of e g ts a ok d) h
