-- Grammars as data: what they derive, what reads them from left to right, and when one token of lookahead decides.
use Rattle.std.specs.Prelude.{◌≡◌, ℕ, zero, suc, Bool, true, false, if◌then◌else◌, ◌&&◌, ◌||◌, not, nat_le, nat_lt, List, [], ◌∷◌, ◌++◌, length, Result, Ok, Err, ◌⊎◌}
use Rattle.td_lex.specs.Tokens.{IsToken}
use Rattle.td_grammar.specs.declared.kinds.KindRange.{KindRange}
use Rattle.td_grammar.specs.declared.lexemes.Lexeme.{Lexeme}
use Rattle.td_grammar.specs.Kinds.{kind_of}

-- A set of kinds: intervals.
abbrev pub Kinds : Type 0
Kinds = List (ℕ × ℕ)

abbrev pub only : ℕ → Kinds
only k = (k, k) ∷ []

abbrev pub within : KindRange → Kinds
within r = (r.low, r.high) ∷ []

abbrev pub has : ℕ → Kinds → Bool
has k [] = false
has k (i ∷ s) = (nat_le i.0 k && nat_le k i.1) || has k s

abbrev pub clear : ℕ × ℕ → Kinds → Bool
clear i [] = true
clear i (j ∷ s) = (nat_lt i.1 j.0 || nat_lt j.1 i.0) && clear i s

-- no kind is in both
abbrev pub apart : Kinds → Kinds → Bool
apart [] u = true
apart (i ∷ s) u = clear i u && apart s u

abbrev pub fits : Kinds → (Lexeme → Bool) → Lexeme → Bool
fits s p t = has t.kind s && p t

-- a token that some text spells, with its kind
abbrev pub real : Lexeme → Type 0
real t = (t.kind ≡ kind_of t.token) × (text : List ℕ) × IsToken text t.token

abbrev pub all_real : List Lexeme → Type 0
all_real [] = Unit {0}
all_real (t ∷ ts) = real t × all_real ts

-- A grammar. Each text of it has a value of A. What is in force, of E, may narrow its tokens.
-- token: one token of these kinds that passes the test; the fourth is a sample that does, and that a text spells
-- valued: its value changed. both: one text after the other. under: the same, with the first one's value in force in
-- the second maybe: a text or none. either: one of two loop: any number of texts, from a state that each of them
-- changes; the test says which token may begin a text in a state
pub data G : Type 0 → Type 0 → Type 1 where
  token : {E A : Type 0} (s : Kinds) (p : E → Lexeme → Bool) → (Lexeme → A) → (w : E → Lexeme) →
      ((e : E) → fits s (p e) (w e) ≡ true) → ((e : E) → real (w e)) → G E A
  valued : {E A B : Type 0} → (A → B) → G E A → G E B
  both : {E A B C : Type 0} → (A → B → C) → G E A → G E B → G E C
  under : {E A B C : Type 0} → (A → B → C) → G E A → G A B → G E C
  maybe : {E A C : Type 0} → C → (A → C) → G E A → G E C
  either : {E A : Type 0} → G E A → G E A → G E A
  loop : {E S A : Type 0} → S → (S → Lexeme → Bool) → (S → A → S) → G E A → G E S

-- the first token, where there is one, passes
abbrev pub begun : (Lexeme → Bool) → List Lexeme → Bool
begun p [] = false
begun p (t ∷ ts) = p t

-- texts of these values, one after the other, from one state to another
abbrev pub Passes : {S A : Type 0} → (S → List Lexeme → A → Type 0) → (S → Lexeme → Bool) → (S → A → S) → List A → S
    → List Lexeme → S → Type 0
Passes D ok next [] s ts end = (ts ≡ []) × (end ≡ s)
Passes D ok next (a ∷ more) s ts end = (x y : List Lexeme) × (ts ≡ x ++ y) × D s x a × (begun (ok s) x ≡ true)
    × Passes D ok next more (next s a) y end

-- The text is one of the grammar, with this value.
abbrev pub Derives : {E A : Type 0} → E → G E A → List Lexeme → A → Type 0
Derives e (token s p v w h r) ts a = (t : Lexeme) × (ts ≡ t ∷ []) × (fits s (p e) t ≡ true) × (a ≡ v t)
Derives e (valued {E} {A} k g) ts c = (a : A) × Derives e g ts a × (c ≡ k a)
Derives e (both {E} {A} {B} k g h) ts c = (x y : List Lexeme) × (a : A) × (b : B) × (ts ≡ x ++ y) × Derives e g x a
    × Derives e h y b × (c ≡ k a b)
Derives e (under {E} {A} {B} k g h) ts c = (x y : List Lexeme) × (a : A) × (b : B) × (ts ≡ x ++ y) × Derives e g x a
    × Derives a h y b × (c ≡ k a b)
Derives e (maybe {E} {A} d k g) ts c = ((a : A) × Derives e g ts a × (c ≡ k a)) ⊎ ((ts ≡ []) × (c ≡ d))
Derives e (either g h) ts a = Derives e g ts a ⊎ Derives e h ts a
Derives e (loop {E} {S} {A} s ok next g) ts end = (each : List A) × Passes
    (λ now x a. Derives e g x a) ok next each s ts end

-- some text begins so
abbrev pub Begins : {A : Type 0} → (List Lexeme → A → Type 0) → List Lexeme → Type 0
Begins {A} D ts = (more : List Lexeme) × (a : A) × all_real more × D (ts ++ more) a

-- Nothing goes on so: no text begins with these tokens and the next one, or, at the end, none is these tokens.
abbrev pub Ends : {A : Type 0} → (List Lexeme → A → Type 0) → List Lexeme → List Lexeme → Type 0
Ends {A} D front [] = (a : A) → D front a → ⊥
Ends D front (t ∷ rest) = Begins D (front ++ t ∷ []) → ⊥

-- The first failure: some text begins with what stands before it, and none with the token too. So many tokens are
-- left there.
abbrev pub FailsAt : {A : Type 0} → (List Lexeme → A → Type 0) → List Lexeme → ℕ → Type 0
FailsAt D ts left = (front rest : List Lexeme) × (ts ≡ front ++ rest) × (left ≡ length rest) × Begins D front
    × Ends D front rest

-- Reading from left to right: the value and what follows it, or how many tokens there are from the failure on.
abbrev pub Reading : Type 0 → Type 0
Reading A = Result (A × List Lexeme) ℕ

infixl 10 ◌>>=◌
abbrev pub ◌>>=◌ : {A B : Type 0} → Result A ℕ → (A → Result B ℕ) → Result B ℕ
(Ok x) >>= f = f x
(Err e) >>= f = Err e

abbrev pub as_value : {A B : Type 0} → (A → B) → Reading A → Reading B
as_value k r = r >>= λ x. Ok (k x.0, x.1)

abbrev pub starts : Kinds → List Lexeme → Bool
starts s ts = begun (λ t. has t.kind s) ts

abbrev pub one : {A : Type 0} → (Lexeme → Bool) → (Lexeme → A) → List Lexeme → Reading A
one p v [] = Err 0
one p v (t ∷ ts) = if p t then Ok (v t, ts) else Err (length (t ∷ ts))

abbrev pub looped : {S A : Type 0} → Kinds → (S → Lexeme → Bool) → (S → A → S) → (S → List Lexeme → Reading A) → ℕ → S
    → List Lexeme → Reading S
looped f ok next p zero s ts = Ok (s, ts)
looped f ok next p (suc n) s ts = if starts f ts then
    (if begun (ok s) ts then (p s ts >>= λ x. looped f ok next p n (next s x.0) x.1) else Err (length ts)) else Ok
    (s, ts)

-- the empty text is one of it
abbrev pub nullable : {E A : Type 0} → G E A → Bool
nullable (token s p v w h r) = false
nullable (valued k g) = nullable g
nullable (both k g h) = nullable g && nullable h
nullable (under k g h) = nullable g && nullable h
nullable (maybe d k g) = true
nullable (either g h) = nullable g || nullable h
nullable (loop s ok next g) = true

-- the kinds that a text of it may begin with
abbrev pub first : {E A : Type 0} → G E A → Kinds
first (token s p v w h r) = s
first (valued k g) = first g
first (both k g h) = first g ++ (if nullable g then first h else [])
first (under k g h) = first g ++ (if nullable g then first h else [])
first (maybe d k g) = first g
first (either g h) = first g ++ first h
first (loop s ok next g) = first g

-- the kinds that may follow a text of it, within a longer one of it
abbrev pub after : {E A : Type 0} → G E A → Kinds
after (token s p v w h r) = []
after (valued k g) = after g
after (both k g h) = after h ++ (if nullable h then after g ++ first h else [])
after (under k g h) = after h ++ (if nullable h then after g ++ first h else [])
after (maybe d k g) = first g ++ after g
after (either g h) = after g ++ after h
after (loop s ok next g) = first g ++ after g

-- One token of lookahead decides.
abbrev pub good : {E A : Type 0} → G E A → Bool
good (token s p v w h r) = true
good (valued k g) = good g
good (both k g h) = good g && good h && apart (after g) (first h)
good (under k g h) = good g && good h && apart (after g) (first h)
good (maybe d k g) = good g && not (nullable g)
good (either g h) = good g && good h && not (nullable g) && not (nullable h) && apart (first g) (first h)
good (loop s ok next g) = good g && not (nullable g) && apart (after g) (first g)

abbrev pub read : {E A : Type 0} → E → G E A → List Lexeme → Reading A
read e (token s p v w h r) ts = one (fits s (p e)) v ts
read e (valued k g) ts = as_value k (read e g ts)
read e (both k g h) ts = read e g ts >>= λ a. as_value (k a.0) (read e h a.1)
read e (under k g h) ts = read e g ts >>= λ a. as_value (k a.0) (read a.0 h a.1)
read e (maybe d k g) ts = if starts (first g) ts then as_value k (read e g ts) else Ok (d, ts)
read e (either g h) ts = if starts (first g) ts then read e g ts else read e h ts
read e (loop s ok next g) ts = looped (first g) ok next (λ now us. read e g us) (length ts) s ts

-- a value that nothing follows
abbrev pub ended : {A : Type 0} → A → List Lexeme → Result A ℕ
ended a [] = Ok a
ended a (t ∷ rest) = Err (length (t ∷ rest))

abbrev pub whole : {A : Type 0} → Reading A → Result A ℕ
whole r = r >>= λ x. ended x.0 x.1

-- What reading a whole text answers: its value, or the first failure, and a value wherever there is one.
abbrev pub Answers : {A : Type 0} → (List Lexeme → A → Type 0) → List Lexeme → Result A ℕ → Type 0
Answers D ts (Ok a) = D ts a
Answers D ts (Err left) = FailsAt D ts left

-- What the grammar says of an answer: a value is that of the text, a failure is the first one.
abbrev pub AnswerOf : {A : Type 0} → (List Lexeme → A → Type 0) → List Lexeme → Result A ℕ → Type 0
AnswerOf {A} D ts r = Answers D ts r × ((a : A) → D ts a → r ≡ Ok a)
