-- A text that stands in front of another ends at one place only.
use Rattle.std.proofs.Common.{◌≡◌, ℕ, ◌<◌, ◌≤◌, ◌^◌, Bool, true, false, not, ◌&&◌, ◌||◌, ◌==◌, nat_le, List, [], ◌∷◌, ◌++◌, length, decimal, refl, sym, ap, ap₂, ◌∙◌, subst, append_assoc, arith}
use Rattle.std.specs.List.{list_all}
use Rattle.std.specs.Str.Parse.{AllDigits, digits_value}
use Rattle.std.proofs.lemmas.List.{append_cancel_left}
use Rattle.std.proofs.lemmas.Fmt.{decimal_is_IsNumeral_wide}
use Rattle.std.proofs.lemmas.Str.Parse.{digit_from_value}
use Rattle.std.proofs.lemmas.Bool.Decides.{nat_tests}
use borrow.Author.Tests.{eq-eqb}
use Rattle.td_model.specs.Printable.{IsWord, is_word_byte}

-- it begins with a byte that fails the test
abbrev pub EndsAt : (ℕ → Bool) → List ℕ → Type 0
EndsAt test [] = ⊥
EndsAt test (c ∷ cs) = test c ≡ false

first : (a b : Bool) → (a && b) ≡ true → a ≡ true
first true b e = refl
first false b e = e

second : (a b : Bool) → (a && b) ≡ true → b ≡ true
second true b e = e
second false b e = absurd cc

pub clash : (test : ℕ → Bool) (c : ℕ) (cs : List ℕ) → list_all test (c ∷ cs) ≡ true → test c ≡ false → ⊥
clash test c cs all fails = let yes = first (test c) _ all in cc

pub heads : (c d : ℕ) (x y : List ℕ) → c ∷ x ≡ d ∷ y → c ≡ d
heads c d x y e = cc

pub tails : (c d : ℕ) (x y : List ℕ) → c ∷ x ≡ d ∷ y → x ≡ y
tails c d x y e = cc

-- two texts whose bytes pass, each before one that fails
pub span : (test : ℕ → Bool) (a b x y : List ℕ) → list_all test a ≡ true → list_all test b ≡ true → EndsAt test x → EndsAt test y → a ++ x ≡ b ++ y → (a ≡ b) × (x ≡ y)
span test [] [] x y p q ex ey e = (refl, e)
span test [] (d ∷ b) x y p q ex ey e = absurd (clash test d b q (subst (EndsAt test) e ex))
span test (c ∷ a) [] x y p q ex ey e = absurd (clash test c a p (subst (EndsAt test) (sym e) ey))
span test (c ∷ a) (d ∷ b) x y p q ex ey e =
    let r = span test a b x y (second (test c) _ p) (second (test d) _ q) ex ey (tails c d _ _ e) in
    (ap₂ (λ (h : ℕ) (t : List ℕ). h ∷ t) (heads c d _ _ e) r.0, r.1)

-- ---- texts of several pieces, each behind the one before

pub regroup : {a b c d : List ℕ} → a ≡ c → b ≡ d → a ≡ b → c ≡ d
regroup p q e = sym p ∙ e ∙ q

pub in_3 : (a b c : List ℕ) → (a ++ b) ++ c ≡ a ++ (b ++ c)
in_3 a b c = append_assoc a b c

pub in_4 : (a b c d : List ℕ) → ((a ++ b) ++ c) ++ d ≡ a ++ (b ++ (c ++ d))
in_4 a b c d = simp append_assoc refl

pub in_5 : (a b c d e : List ℕ) → (((a ++ b) ++ c) ++ d) ++ e ≡ a ++ (b ++ (c ++ (d ++ e)))
in_5 a b c d e = simp append_assoc refl

pub in_6 : (a b c d e f : List ℕ) → ((((a ++ b) ++ c) ++ d) ++ e) ++ f ≡ a ++ (b ++ (c ++ (d ++ (e ++ f))))
in_6 a b c d e f = simp append_assoc refl

pub in_8 : (a b c d e f g h : List ℕ) → ((((((a ++ b) ++ c) ++ d) ++ e) ++ f) ++ g) ++ h ≡ a ++ (b ++ (c ++ (d ++ (e ++ (f ++ (g ++ h))))))
in_8 a b c d e f g h = simp append_assoc refl

-- ---- texts that differ within what both begin with

abbrev pub apart : List ℕ → List ℕ → Bool
apart [] v = false
apart (c ∷ u) [] = false
apart (c ∷ u) (d ∷ v) = not (c == d) || apart u v

not_both : (c d : ℕ) (t : Bool) → c ≡ d → (not (c == d) || t) ≡ true → t ≡ true
not_both c d t e h = let same : (c == d) ≡ true = eq-eqb c d e in subst (λ b. (not b || t) ≡ true) same h

pub distinct : (u v : List ℕ) → u ≡ v → apart u v ≡ true → ⊥
distinct [] v e h = absurd cc
distinct (c ∷ u) [] e h = absurd cc
distinct (c ∷ u) (d ∷ v) e h = distinct u v (tails c d u v e) (not_both c d (apart u v) (heads c d u v e) h)

-- ---- numbers

abbrev pub is_digit_byte : ℕ → Bool
is_digit_byte b = nat_le 48 b && nat_le b 57

digit_passes : (c : ℕ) → 48 ≤ c → c ≤ 57 → is_digit_byte c ≡ true
digit_passes c low high = grind (arith, nat_tests)

both : (a b : Bool) → a ≡ true → b ≡ true → (a && b) ≡ true
both a b p q = cc

digits_pass : (ds : List ℕ) → AllDigits 10 ds → list_all is_digit_byte ds ≡ true
digits_pass [] d = refl
digits_pass (c ∷ ds) d = let r = digit_from_value c d.0 in both (is_digit_byte c) _ (digit_passes c r.0 r.1) (digits_pass ds d.1)

abbrev pub IsShort : ℕ → Type 0
IsShort n = n < 10 ^ 64

pub all_digits : (n : ℕ) → IsShort n → list_all is_digit_byte (decimal n) ≡ true
all_digits n h = digits_pass (decimal n) (decimal_is_IsNumeral_wide n h).0.1

pub decimal_tells : (m n : ℕ) → IsShort m → IsShort n → decimal m ≡ decimal n → m ≡ n
decimal_tells m n p q e = sym (decimal_is_IsNumeral_wide m p).1 ∙ ap (digits_value 10) e ∙ (decimal_is_IsNumeral_wide n q).1

pub short : (n : ℕ) → n < 2 ^ 64 → IsShort n
short n h = omega (arith, h)

-- a number before a byte that is no digit
pub number_front : (m n : ℕ) (x y : List ℕ) → IsShort m → IsShort n → EndsAt is_digit_byte x → EndsAt is_digit_byte y → decimal m ++ x ≡ decimal n ++ y → (m ≡ n) × (x ≡ y)
number_front m n x y p q ex ey e =
    let r = span is_digit_byte (decimal m) (decimal n) x y (all_digits m p) (all_digits n q) ex ey e in
    (decimal_tells m n p q r.0, r.1)

not_front : (ds : List ℕ) (c : ℕ) (x y : List ℕ) → 0 < length ds → list_all is_digit_byte ds ≡ true → is_digit_byte c ≡ false → ds ++ x ≡ c ∷ y → ⊥
not_front [] c x y some all fails e = omega arith
not_front (d ∷ ds) c x y some all fails e = clash is_digit_byte d ds all (ap is_digit_byte (heads d c _ _ e) ∙ fails)

-- a number begins with a digit
pub not_number : (n c : ℕ) (x y : List ℕ) → IsShort n → is_digit_byte c ≡ false → decimal n ++ x ≡ c ∷ y → ⊥
not_number n c x y p fails e = not_front (decimal n) c x y (decimal_is_IsNumeral_wide n p).0.0 (all_digits n p) fails e

-- ---- words

-- a name before a byte that is of no word
pub word_front : (a b x y : List ℕ) → IsWord a → IsWord b → EndsAt is_word_byte x → EndsAt is_word_byte y → a ++ x ≡ b ++ y → (a ≡ b) × (x ≡ y)
word_front a b x y p q ex ey e = span is_word_byte a b x y p q ex ey e

-- ---- lines of numbers

-- words, a number and the end of the line
pub one_number : (w : List ℕ) (m n : ℕ) (x y : List ℕ) → m < 2 ^ 64 → n < 2 ^ 64 → w ++ ((decimal m ++ 10 ∷ []) ++ x) ≡ w ++ ((decimal n ++ 10 ∷ []) ++ y) → (m ≡ n) × (x ≡ y)
one_number w m n x y p q e =
    let f = regroup (in_3 (decimal m) (10 ∷ []) x) (in_3 (decimal n) (10 ∷ []) y) (append_cancel_left w _ _ e) in
    let r = number_front m n (10 ∷ x) (10 ∷ y) (short m p) (short n q) refl refl f in
    (r.0, tails 10 10 x y r.1)

-- words, a number, words that begin with a space, a number and the end of the line
pub two_numbers : (w u : List ℕ) (k l m n : ℕ) (x y : List ℕ) → k < 2 ^ 64 → l < 2 ^ 64 → m < 2 ^ 64 → n < 2 ^ 64
    → w ++ ((((decimal k ++ 32 ∷ u) ++ decimal m) ++ 10 ∷ []) ++ x) ≡ w ++ ((((decimal l ++ 32 ∷ u) ++ decimal n) ++ 10 ∷ []) ++ y) → (k ≡ l) × (m ≡ n) × (x ≡ y)
two_numbers w u k l m n x y pk pl pm pn e =
    let f = regroup (in_5 (decimal k) (32 ∷ u) (decimal m) (10 ∷ []) x) (in_5 (decimal l) (32 ∷ u) (decimal n) (10 ∷ []) y) (append_cancel_left w _ _ e) in
    let r = number_front k l (32 ∷ (u ++ (decimal m ++ 10 ∷ x))) (32 ∷ (u ++ (decimal n ++ 10 ∷ y))) (short k pk) (short l pl) refl refl f in
    let s = number_front m n (10 ∷ x) (10 ∷ y) (short m pm) (short n pn) refl refl (append_cancel_left u _ _ (tails 32 32 _ _ r.1)) in
    (r.0, s.0, tails 10 10 x y s.1)
