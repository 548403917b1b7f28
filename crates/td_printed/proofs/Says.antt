-- What a grammar says of the values of its texts, rule by rule, where each token is one that a text spells, or has some
-- other property.
use Rattle.std.proofs.Common.{◌≡◌, ℕ, Bool, true, List, [], ◌∷◌, ◌++◌, Some, None, inl, inr, refl, sym, subst}
use Rattle.std.specs.Prelude.{IfSome}
use Rattle.std.specs.List.{AllByRecursion}
use Rattle.td_grammar.specs.declared.lexemes.Lexeme.{Lexeme}
use Rattle.td_grammar.specs.Grammar.{Kinds, has, within, fits, real, Passes, G, Derives, token, valued, both, under, maybe, either, loop}
use Rattle.td_grammar.specs.declared.kinds.TheConstants as kinds
use Rattle.td_grammar.specs.Words.{word_of, word_in, is_word_kind, name, ◌▷◌, ◌◁◌, listed, comma_list}
use Rattle.td_clauses.specs.Productions.{inside}
use Rattle.td_printed.specs.Names.{IsName}
use Rattle.td_printed.proofs.Bytes.{are_words, token_name}

-- where T is so of each token, P is so of the value
pub record SaysOf (T : Lexeme → Type 0) {E A : Type 0} (g : G E A) (P : A → Type 0) : Type 0 where
  pub says : (e : E) (ts : List Lexeme) (a : A) → AllByRecursion T ts → Derives e g ts a → P a

-- where each token is one that a text spells
abbrev pub Says : {E A : Type 0} → G E A → (A → Type 0) → Type 0
Says g P = SaysOf real g P

pub unsaid : {T : Lexeme → Type 0} {E A : Type 0} (g : G E A) → SaysOf T g (λ _. Unit {0})
unsaid g = record { says = λ e ts a all d. tt }

parted : (T : Lexeme → Type 0) (x y : List Lexeme) → AllByRecursion T (x ++ y)
    → AllByRecursion T x × AllByRecursion T y
parted T [] y h = (tt, h)
parted T (t ∷ x) y h = let p = parted T x y h.1 in ((h.0, p.0), p.1)

parts_have : (T : Lexeme → Type 0) (ts x y : List Lexeme) → ts ≡ x ++ y → AllByRecursion T ts
    → AllByRecursion T x × AllByRecursion T y
parts_have T ts x y parts all = parted T x y (subst (AllByRecursion T) parts all)

pub of_token : {T : Lexeme → Type 0} {E A : Type 0} {s : Kinds} {p : E → Lexeme → Bool} {value : Lexeme → A}
    {w : E → Lexeme} {h : (e : E) → fits s (p e) (w e) ≡ true} {r : (e : E) → real (w e)} {P : A → Type 0}
    → ((e : E) (t : Lexeme) → T t → fits s (p e) t ≡ true → P (value t)) → SaysOf T (token s p value w h r) P
of_token {T} {E} {A} {s} {p} {value} {w} {h} {r} {P} f =
    record {
      says = λ e ts a all (t, one, fit, v). subst P (sym v) (f e t (subst (AllByRecursion T) one all).0 fit);
    }

pub of_word : {E A : Type 0} (s : Kinds) (value : Lexeme → A) (k : ℕ) (is : is_word_kind k ≡ true)
    (member : has k s ≡ true) (P : A → Type 0) → are_words s ≡ true
    → ((t : Lexeme) → IsName (word_of t.token) → P (value t)) → Says (word_in {E = E} s value k is member) P
of_word s value k is member P words f = of_token (λ e t spelled fit. f t (token_name s t words spelled fit))

pub of_valued : {T : Lexeme → Type 0} {E A B : Type 0} {k : A → B} {g : G E A} {P : A → Type 0} {Q : B → Type 0}
    → SaysOf T g P → ((a : A) → P a → Q (k a)) → SaysOf T (valued k g) Q
of_valued {T} {E} {A} {B} {k} {g} {P} {Q} p f =
    record { says = λ e ts c all (a, d, v). subst Q (sym v) (f a (p.says e ts a all d)) }

pub of_both : {T : Lexeme → Type 0} {E A B C : Type 0} {k : A → B → C} {g : G E A} {h : G E B} {P : A → Type 0}
    {Q : B → Type 0} {R : C → Type 0} → SaysOf T g P → SaysOf T h Q → ((a : A) (b : B) → P a → Q b → R (k a b))
    → SaysOf T (both k g h) R
of_both {T} {E} {A} {B} {C} {k} {g} {h} {P} {Q} {R} p q f =
    record {
      says = λ e ts c all (x, y, a, b, parts, d, m, v).
          let r = parts_have T ts x y parts all in
          subst R (sym v) (f a b (p.says e x a r.0 d) (q.says e y b r.1 m));
    }

pub of_pair : {T : Lexeme → Type 0} {E A B : Type 0} {g : G E A} {h : G E B} {P : A → Type 0} {Q : B → Type 0}
    → SaysOf T g P → SaysOf T h Q → SaysOf T (both (λ a b. (a, b)) g h) (λ (r : A × B). P r.0 × Q r.1)
of_pair p q = of_both p q (λ a b m n. (m, n))

pub of_under : {T : Lexeme → Type 0} {E A B C : Type 0} {k : A → B → C} {g : G E A} {h : G A B} {P : A → Type 0}
    {R : C → Type 0} → SaysOf T g P → ((a : A) (b : B) → P a → R (k a b)) → SaysOf T (under k g h) R
of_under {T} {E} {A} {B} {C} {k} {g} {h} {P} {R} p f =
    record {
      says = λ e ts c all (x, y, a, b, parts, d, m, v). subst R (sym v)
          (f a b (p.says e x a (parts_have T ts x y parts all).0 d));
    }

pub of_second : {T : Lexeme → Type 0} {E A B : Type 0} {g : G E A} {h : G E B} {Q : B → Type 0} → SaysOf T h Q
    → SaysOf T (g ▷ h) Q
of_second {T} {E} {A} {B} {g} {h} {Q} q = of_both (unsaid g) q (λ a b u m. m)

pub of_first : {T : Lexeme → Type 0} {E A B : Type 0} {g : G E A} {h : G E B} {P : A → Type 0} → SaysOf T g P
    → SaysOf T (g ◁ h) P
of_first {T} {E} {A} {B} {g} {h} {P} p = of_both p (unsaid h) (λ a b m u. m)

pub of_maybe : {T : Lexeme → Type 0} {E A C : Type 0} {n : C} {k : A → C} {g : G E A} {P : A → Type 0}
    {R : C → Type 0} → SaysOf T g P → R n → ((a : A) → P a → R (k a)) → SaysOf T (maybe n k g) R
of_maybe {T} {E} {A} {C} {n} {k} {g} {P} {R} p none f = record { says = go }
  where
    go : (e : E) (ts : List Lexeme) (c : C) → AllByRecursion T ts → Derives e (maybe n k g) ts c → R c
    go e ts c all (inl (a, d, v)) = subst R (sym v) (f a (p.says e ts a all d))
    go e ts c all (inr (is, v)) = subst R (sym v) none

pub of_option : {T : Lexeme → Type 0} {E A : Type 0} {g : G E A} {P : A → Type 0} → SaysOf T g P
    → SaysOf T (maybe None Some g) (λ o. IfSome o P)
of_option p = of_maybe p tt (λ a m. m)

pub of_either : {T : Lexeme → Type 0} {E A : Type 0} {g h : G E A} {P : A → Type 0} → SaysOf T g P → SaysOf T h P
    → SaysOf T (either g h) P
of_either {T} {E} {A} {g} {h} {P} p q = record { says = go }
  where
    go : (e : E) (ts : List Lexeme) (a : A) → AllByRecursion T ts → Derives e (either g h) ts a → P a
    go e ts a all (inl d) = p.says e ts a all d
    go e ts a all (inr d) = q.says e ts a all d

passes_say : {T : Lexeme → Type 0} {E S A : Type 0} {g : G E A} {P : A → Type 0} (I : S → Type 0) → SaysOf T g P
    → (e : E) (ok : S → Lexeme → Bool) (next : S → A → S) → ((s : S) (a : A) → I s → P a → I (next s a))
    → (each : List A) (s : S) (ts : List Lexeme) (end : S)
    → I s → AllByRecursion T ts → Passes (λ now x a. Derives e g x a) ok next each s ts end → I end
passes_say I p e ok next f [] s ts end i all d = subst I (sym d.1) i
passes_say {T} I p e ok next f (a ∷ more) s ts end i all (x, y, parts, d, begins, rest) =
    let r = parts_have T ts x y parts all in
    passes_say I p e ok next f more (next s a) y end (f s a i (p.says e x a r.0 d)) r.1 rest

pub of_loop : {T : Lexeme → Type 0} {E S A : Type 0} {s : S} {ok : S → Lexeme → Bool} {next : S → A → S} {g : G E A}
    {P : A → Type 0} {I : S → Type 0} → SaysOf T g P → I s → ((s : S) (a : A) → I s → P a → I (next s a))
    → SaysOf T (loop s ok next g) I
of_loop {T} {E} {S} {A} {s} {ok} {next} {g} {P} {I} p i f =
    record { says = λ e ts end all (each, d). passes_say I p e ok next f each s ts end i all d }

pub all_append : {X : Type 0} (P : X → Type 0) (xs ys : List X) → AllByRecursion P xs → AllByRecursion P ys
    → AllByRecursion P (xs ++ ys)
all_append P [] ys h i = i
all_append P (x ∷ xs) ys h i = (h.0, all_append P xs ys h.1 i)

pub of_listed : {T : Lexeme → Type 0} {E A : Type 0} {g h : G E A} {P : A → Type 0} → SaysOf T g P → SaysOf T h P
    → SaysOf T (listed g h) (AllByRecursion P)
of_listed {T} {E} {A} {g} {h} {P} p q = of_both {Q = AllByRecursion P} p
    (of_loop {I = AllByRecursion P} q tt (λ all a m one. all_append P all (a ∷ []) m (one, tt)))
    (λ a rest m all. (m, all))

pub of_comma_list : {T : Lexeme → Type 0} {E A : Type 0} {g : G E A} {P : A → Type 0} → SaysOf T g P
    → SaysOf T (comma_list g) (AllByRecursion P)
of_comma_list p = of_listed p (of_second p)

pub of_inside : {T : Lexeme → Type 0} {E A : Type 0} {g : G E A} {P : A → Type 0} → SaysOf T g P → SaysOf T (inside g) P
of_inside p = of_second (of_first p)

pub name_says : {E : Type 0} → Says (name {E = E}) IsName
name_says = of_word (within kinds.NAMES) (λ t. word_of t.token) kinds.PLAIN_WORD refl refl IsName refl (λ t m. m)
