-- Forms that the parser's functions meet.
use Rattle.std.proofs.Common.{◌≡◌, ℕ, zero, suc, ◌<◌, Bool, true, false, cond, ◌&&◌, not, List, [], ◌∷◌, ◌++◌, length, Result, Ok, Err, refl, sym, ap, ◌∙◌}
use Rattle.td_grammar.specs.declared.lexemes.Lexeme.{Lexeme}
use Rattle.td_grammar.specs.declared.fault.Fault.{Fault}
use Rattle.td_grammar.specs.declared.fault.Fault.TheVariants.{NoMemory, At}
use Rattle.td_grammar.specs.Gives.{Fails}
use Rattle.td_grammar.specs.Grammar.{Kinds, only, has, fits, Reading, ◌>>=◌, as_value, one, starts, begun, G, good, nullable, first, read, looped}
use Rattle.td_grammar.specs.declared.kinds.TheConstants.{COMMA}
use Rattle.td_grammar.specs.Words.{anything, push, listed, list_from, states_from, comma, ◌▷◌, comma_list}
use Rattle.td_grammar.proofs.Loops.{turn, loop_turn}
use Rattle.td_grammar.proofs.Exact.{eats_of}

pub one_value : {A : Type 0} (p : Lexeme → Bool) (v : Lexeme → A) (ts : List Lexeme) → one p v ts ≡ as_value v (one p (λ t. t) ts)
one_value p v [] = refl
one_value {A} p v (t ∷ ts) = go (p t)
  where
    go : (b : Bool) → (let left : Reading A = cond b (Ok (v t, ts)) (Err (length (t ∷ ts))) in left ≡ as_value v (cond b (Ok (t, ts)) (Err (length (t ∷ ts)))))
    go true = refl
    go false = refl

pub value_itself : {A : Type 0} (r : Reading A) → as_value (λ a. a) r ≡ r
value_itself (Ok x) = refl
value_itself (Err n) = refl

pub list_stops : {A : Type 0} (item : G (Unit {0}) A) (all : List A) (ts : List Lexeme) → starts (first item) ts ≡ false → list_from item all ts ≡ Ok (all, ts)
list_stops item all [] h = refl
list_stops item all (t ∷ ts) h = rw h refl

-- the rest of a turn
goes : {A : Type 0} (item : G (Unit {0}) A) → good item ≡ true → not (nullable item) ≡ true → (all : List A) (ts : List Lexeme) → starts (first item) ts ≡ true → list_from item all ts ≡ (read (tt {0}) item ts >>= λ x. list_from item (push all x.0) x.1)
goes {A} item ok some all ts h =
    loop_turn (first item) anything push p (λ s. eats_of (tt {0}) item ok some) all ts
    ∙ begin ts h
  where
    p : List A → List Lexeme → Reading A
    p now us = read (tt {0}) item us

    begin : (ts : List Lexeme) → starts (first item) ts ≡ true → turn (first item) anything push p all ts ≡ (read (tt {0}) item ts >>= λ x. list_from item (push all x.0) x.1)
    begin [] h = cc
    begin (t ∷ ts) h = ap (λ b. cond b (read (tt {0}) item (t ∷ ts) >>= λ x. list_from item (push all x.0) x.1) (Ok (all, t ∷ ts))) h

pub list_fails : {A : Type 0} (item : G (Unit {0}) A) → good item ≡ true → not (nullable item) ≡ true → (all : List A) (ts : List Lexeme) (n : ℕ) → starts (first item) ts ≡ true → read (tt {0}) item ts ≡ Err n → list_from item all ts ≡ Err n
list_fails item ok some all ts n h i = goes item ok some all ts h ∙ ap (λ r. r >>= λ x. list_from item (push all x.0) x.1) i

pub list_takes : {A : Type 0} (item : G (Unit {0}) A) → good item ≡ true → not (nullable item) ≡ true → (all : List A) (ts : List Lexeme) (x : A × List Lexeme) → starts (first item) ts ≡ true → read (tt {0}) item ts ≡ Ok x → list_from item all ts ≡ list_from item (all ++ x.0 ∷ []) x.1
list_takes item ok some all ts x h i = goes item ok some all ts h ∙ ap (λ r. r >>= λ x. list_from item (push all x.0) x.1) i

pub eats : {A : Type 0} (item : G (Unit {0}) A) → good item ≡ true → not (nullable item) ≡ true → (ts : List Lexeme) (x : A × List Lexeme) → read (tt {0}) item ts ≡ Ok x → length x.1 < length ts
eats item ok some ts x h = eats_of (tt {0}) item ok some ts x h

-- a head before, or among those that are read
front_same : {A : Type 0} (item : G (Unit {0}) A) (n : ℕ) (a : A) (all : List A) (ts : List Lexeme)
    → as_value (λ more. a ∷ more) (looped (first item) anything push (λ now us. read (tt {0}) item us) n all ts) ≡ looped (first item) anything push (λ now us. read (tt {0}) item us) n (a ∷ all) ts
front_same item zero a all ts = refl
front_same {A} item (suc n) a all ts = go (λ x. front_same item n a (push all x.0) x.1) (starts (first item) ts) (begun (anything all) ts) (read (tt {0}) item ts)
  where
    go : ((x : A × List Lexeme) → as_value (λ more. a ∷ more) (looped (first item) anything push (λ now us. read (tt {0}) item us) n (push all x.0) x.1) ≡ looped (first item) anything push (λ now us. read (tt {0}) item us) n (a ∷ push all x.0) x.1) → (b d : Bool) (r : Reading A) → as_value (λ more. a ∷ more) (cond b (cond d (r >>= λ x. looped (first item) anything push (λ now us. read (tt {0}) item us) n (push all x.0) x.1) (Err (length ts))) (Ok (all, ts)))
        ≡ cond b (cond d (r >>= λ x. looped (first item) anything push (λ now us. read (tt {0}) item us) n (push (a ∷ all) x.0) x.1) (Err (length ts))) (Ok (a ∷ all, ts))
    go deeper false d r = refl
    go deeper true false r = refl
    go deeper true true (Err m) = refl
    go deeper true true (Ok x) = deeper x

pub list_head : {A : Type 0} (item : G (Unit {0}) A) (a : A) (ts : List Lexeme) → as_value (λ more. a ∷ more) (list_from item [] ts) ≡ list_from item (a ∷ []) ts
list_head item a ts = front_same item (length ts) a [] ts

pub list_begins : {A : Type 0} (head item : G (Unit {0}) A) (ts : List Lexeme) (x : A × List Lexeme) → read (tt {0}) head ts ≡ Ok x → list_from item (x.0 ∷ []) x.1 ≡ read (tt {0}) (listed head item) ts
list_begins head item ts x h = sym (ap (λ r. r >>= λ a. as_value (λ more. a.0 ∷ more) (list_from item [] a.1)) h ∙ list_head item x.0 x.1)

-- what a loop over further items goes by
pub record Lists {A : Type 0} (item : G (Unit {0}) A) (f : Kinds) : Type 0 where
  pub stops : (all : List A) (ts : List Lexeme) → starts f ts ≡ false → list_from item all ts ≡ Ok (all, ts)
  pub fails : (all : List A) (ts : List Lexeme) (n : ℕ) → starts f ts ≡ true → read (tt {0}) item ts ≡ Err n → list_from item all ts ≡ Err n
  pub takes : (all : List A) (ts : List Lexeme) (a : A) (rest : List Lexeme) → starts f ts ≡ true → read (tt {0}) item ts ≡ Ok (a, rest) → list_from item all ts ≡ list_from item (all ++ a ∷ []) rest
  pub eats : (ts : List Lexeme) (a : A) (rest : List Lexeme) → read (tt {0}) item ts ≡ Ok (a, rest) → length rest < length ts

pub lists_of : {A : Type 0} (item : G (Unit {0}) A) → good item ≡ true → not (nullable item) ≡ true → Lists item (first item)
lists_of item ok some = record {
  stops = λ all ts h. list_stops item all ts h;
  fails = λ all ts n h i. list_fails item ok some all ts n h i;
  takes = λ all ts a rest h i. list_takes item ok some all ts (a, rest) h i;
  eats = λ ts a rest h. eats item ok some ts (a, rest) h;
}

-- a failure that is passed on
pub fails_on : {A B : Type 0} (e : Fault) (r : Result A ℕ) (s : Result B ℕ) → ((n : ℕ) → r ≡ Err n → s ≡ Err n) → Fails e r → Fails e s
fails_on NoMemory r s h f = tt
fails_on (At n) r s h f = h n f

pub head_fails : {A B : Type 0} (r : Result A ℕ) (f : A → Result B ℕ) (n : ℕ) → r ≡ Err n → (r >>= f) ≡ Err n
head_fails r f n h = ap (λ u. u >>= f) h

-- a token that is tested too
pub one_tested : {A : Type 0} (s : Kinds) (p : Lexeme → Bool) (v : Lexeme → A) (ts : List Lexeme) → one (fits s p) v ts ≡ (one (fits s (λ _. true)) (λ t. t) ts >>= λ x. cond (p x.0) (Ok (v x.0, x.1)) (Err (length ts)))
one_tested s p v [] = refl
one_tested {A} s p v (t ∷ ts) = go (has t.kind s)
  where
    after : Lexeme × List Lexeme → Reading A
    after x = cond (p x.0) (Ok (v x.0, x.1)) (Err (length (t ∷ ts)))

    go : (b : Bool) → (let left : Reading A = cond (b && p t) (Ok (v t, ts)) (Err (length (t ∷ ts))) in left ≡ ◌>>=◌ {A = Lexeme × List Lexeme} (cond (b && true) (Ok (t, ts)) (Err (length (t ∷ ts)))) after)
    go true = refl
    go false = refl

-- what a loop over items from a state goes by
pub record States {S A : Type 0} (item : G (Unit {0}) A) (f : Kinds) (ok : S → Lexeme → Bool) (next : S → A → S) : Type 0 where
  pub stops : (s : S) (ts : List Lexeme) → starts f ts ≡ false → states_from item ok next s ts ≡ Ok (s, ts)
  pub refuses : (s : S) (ts : List Lexeme) → starts f ts ≡ true → begun (ok s) ts ≡ false → states_from item ok next s ts ≡ Err (length ts)
  pub fails : (s : S) (ts : List Lexeme) (n : ℕ) → starts f ts ≡ true → begun (ok s) ts ≡ true → read (tt {0}) item ts ≡ Err n → states_from item ok next s ts ≡ Err n
  pub takes : (s : S) (ts : List Lexeme) (a : A) (rest : List Lexeme) → starts f ts ≡ true → begun (ok s) ts ≡ true → read (tt {0}) item ts ≡ Ok (a, rest) → states_from item ok next s ts ≡ states_from item ok next (next s a) rest
  pub eats : (ts : List Lexeme) (a : A) (rest : List Lexeme) → read (tt {0}) item ts ≡ Ok (a, rest) → length rest < length ts

pub states_of : {S A : Type 0} (item : G (Unit {0}) A) (ok : S → Lexeme → Bool) (next : S → A → S) → good item ≡ true → not (nullable item) ≡ true → States item (first item) ok next
states_of {S} {A} item ok next fine some = record {
  stops = λ s ts h. step s ts ∙ at s ts h;
  refuses = λ s ts h i. step s ts ∙ at_true s ts h ∙ ap (λ b. cond b (read (tt {0}) item ts >>= more s) (Err (length ts))) i;
  fails = λ s ts n h i r. go s ts h i ∙ ap (λ u. u >>= more s) r;
  takes = λ s ts a rest h i r. go s ts h i ∙ ap (λ u. u >>= more s) r;
  eats = λ ts a rest h. eats item fine some ts (a, rest) h;
}
  where
    more : S → A × List Lexeme → Reading S
    more s x = states_from item ok next (next s x.0) x.1

    step : (s : S) (ts : List Lexeme) → states_from item ok next s ts ≡ turn (first item) ok next (λ now us. read (tt {0}) item us) s ts
    step s ts = loop_turn (first item) ok next (λ now us. read (tt {0}) item us) (λ now. eats_of (tt {0}) item fine some) s ts

    at : (s : S) (ts : List Lexeme) → starts (first item) ts ≡ false → turn (first item) ok next (λ now us. read (tt {0}) item us) s ts ≡ Ok (s, ts)
    at s ts h = ap (λ b. cond b (cond (begun (ok s) ts) (read (tt {0}) item ts >>= more s) (Err (length ts))) (Ok (s, ts))) h

    at_true : (s : S) (ts : List Lexeme) → starts (first item) ts ≡ true → turn (first item) ok next (λ now us. read (tt {0}) item us) s ts ≡ cond (begun (ok s) ts) (read (tt {0}) item ts >>= more s) (Err (length ts))
    at_true s ts h = ap (λ b. cond b (cond (begun (ok s) ts) (read (tt {0}) item ts >>= more s) (Err (length ts))) (Ok (s, ts))) h

    go : (s : S) (ts : List Lexeme) → starts (first item) ts ≡ true → begun (ok s) ts ≡ true → states_from item ok next s ts ≡ (read (tt {0}) item ts >>= more s)
    go s ts h i = step s ts ∙ at_true s ts h ∙ ap (λ b. cond b (read (tt {0}) item ts >>= more s) (Err (length ts))) i

-- what a loop over items behind commas goes by
pub comma_laws : {A : Type 0} (item : G (Unit {0}) A) → good item ≡ true → Lists (comma ▷ item) (only COMMA)
comma_laws item ok = lists_of (comma ▷ item) (ap (λ b. b && true) ok) refl

pub comma_begins : {A : Type 0} (item : G (Unit {0}) A) (ts : List Lexeme) (a : A) (rest : List Lexeme) → read (tt {0}) item ts ≡ Ok (a, rest) → list_from (comma ▷ item) (a ∷ []) rest ≡ read (tt {0}) (comma_list item) ts
comma_begins item ts a rest h = list_begins item (comma ▷ item) ts (a, rest) h

pub comma_fails : {A : Type 0} (item : G (Unit {0}) A) (ts : List Lexeme) (n : ℕ) → read (tt {0}) item ts ≡ Err n → read (tt {0}) (comma_list item) ts ≡ Err n
comma_fails item ts n h = ap (λ r. r >>= λ a. as_value (λ more. a.0 ∷ more) (list_from (comma ▷ item) [] a.1)) h
