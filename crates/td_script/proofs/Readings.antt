-- What a line is, read from left to right, is what the definition has, and nothing else.
use Rattle.std.proofs.Common.{◌≡◌, ◌≢◌, ℕ, ◌+◌, ◌-◌, ◌*◌, ◌/◌, ◌%◌, ◌≤◌, Bool, true, false, cond, ◌&&◌, ◌==◌, nat_le, nat_lt, ◌⊎◌, inl, inr, List, [], ◌∷◌, ◌++◌, Option, Some, None, refl, sym, ap, subst, ◌∙◌, arith}
use Rattle.std.specs.Option.{option_map}
use Rattle.std.specs.List.{list_all, AllByRecursion}
use Rattle.std.specs.Str.{IsUtf8, is_utf8, bytes_eq}
use Rattle.std.proofs.lemmas.Str.{IsUtf8-from_is_utf8, is_utf8-from_IsUtf8}
use Rattle.std.proofs.lemmas.Slice.Eq.{bytes_eq-Decides}
use Rattle.std.proofs.lemmas.Bool.Decides.{nat_tests}
use lib.Chars.{codes}
use Rattle.td_script.specs.Script.{is_blank, AreBlanks, BeginsWithNoBlank, digits, without_return, LineKind, Empty, Comment, Phase, Statement, IsForm, empty_line, comment_line, phase_line, statement_line, IsLine, IsSomeLine}
use Rattle.td_script.specs.Reading.{◌>>=◌, after_first, parted_at, without_blanks, is_digit, session_of, statement_of, is_comment, form_of, kind_of, HasCount}

bind_found : {A B : Type 0} (o : Option A) (f : A → Option B) (y : B) → (o >>= f) ≡ Some y → (x : A) × (o ≡ Some x) × (f x ≡ Some y)
bind_found None f y e = cc
bind_found (Some x) f y e = (x, refl, e)

both : (a b : Bool) → (a && b) ≡ true → (a ≡ true) × (b ≡ true)
both true b e = (refl, e)
both false b e = cc

-- a part at a byte, and back
pub parted_found : (b : ℕ) (xs : List ℕ) (p : List ℕ × List ℕ) → parted_at b xs ≡ Some p → (xs ≡ p.0 ++ b ∷ p.1) × AllByRecursion (λ x. x ≢ b) p.0
parted_found b [] p e = cc
parted_found b (x ∷ xs) p e = elim (x == b) as (λ t. (x == b) ≡ t → cond t (Some ([], xs)) (after_first x (parted_at b xs)) ≡ Some p → (x ∷ xs ≡ p.0 ++ b ∷ p.1) × AllByRecursion (λ y. y ≢ b) p.0) [
  | true ↦ λ same e. let is : p ≡ ([], xs) = cc in rw is (grind (arith, nat_tests), tt)
  | false ↦ λ other e. elim (parted_at b xs) as (λ o. parted_at b xs ≡ o → after_first x o ≡ Some p → (x ∷ xs ≡ p.0 ++ b ∷ p.1) × AllByRecursion (λ y. y ≢ b) p.0) [
    | None ↦ λ is e. cc
    | Some q ↦ λ is e.
        let at : (x ∷ q.0, q.1) ≡ p = cc in
        let apart : x ≢ b = λ same. grind (arith, nat_tests) in
        subst (λ (r : List ℕ × List ℕ). (x ∷ xs ≡ r.0 ++ b ∷ r.1) × AllByRecursion (λ y. y ≢ b) r.0) at (ap (λ ys. x ∷ ys) (parted_found b xs q is).0, (apart, (parted_found b xs q is).1))
  ] refl e
] refl e

pub parted_here : (b : ℕ) (a r : List ℕ) → AllByRecursion (λ x. x ≢ b) a → parted_at b (a ++ b ∷ r) ≡ Some (a, r)
parted_here b [] r h = grind (arith, nat_tests)
parted_here b (x ∷ a) r h = grind (arith, nat_tests, parted_here b a r h.1, h.0)

pub parted_nowhere : (b : ℕ) (a : List ℕ) → AllByRecursion (λ x. x ≢ b) a → parted_at b a ≡ None
parted_nowhere b [] h = refl
parted_nowhere b (x ∷ a) h = grind (arith, nat_tests, parted_nowhere b a h.1, h.0)

pub parted_lacks : (b : ℕ) (xs : List ℕ) → parted_at b xs ≡ None → AllByRecursion (λ x. x ≢ b) xs
parted_lacks b [] e = tt
parted_lacks b (x ∷ xs) e = elim (x == b) as (λ t. (x == b) ≡ t → cond t (Some ([], xs)) (after_first x (parted_at b xs)) ≡ None → AllByRecursion (λ y. y ≢ b) (x ∷ xs)) [
  | true ↦ λ same e. cc
  | false ↦ λ other e. elim (parted_at b xs) as (λ o. parted_at b xs ≡ o → after_first x o ≡ None → AllByRecursion (λ y. y ≢ b) (x ∷ xs)) [
    | None ↦ λ is e. ((λ same. grind (arith, nat_tests)), parted_lacks b xs is)
    | Some q ↦ λ is e. cc
  ] refl e
] refl e

-- blanks and what follows them
pub blanks_found : (xs : List ℕ) → (blanks : List ℕ) × (xs ≡ blanks ++ without_blanks xs) × AreBlanks blanks × BeginsWithNoBlank (without_blanks xs)
blanks_found [] = ([], refl, refl, tt)
blanks_found (x ∷ xs) = elim (is_blank x) as (λ t. is_blank x ≡ t → (blanks : List ℕ) × (x ∷ xs ≡ blanks ++ cond t (without_blanks xs) (x ∷ xs)) × AreBlanks blanks × BeginsWithNoBlank (cond t (without_blanks xs) (x ∷ xs))) [
  | true ↦ λ e. let rest = blanks_found xs in (x ∷ rest.0, ap (λ ys. x ∷ ys) rest.1, ap (λ t. t && list_all is_blank rest.0) e ∙ rest.2, rest.3)
  | false ↦ λ e. ([], refl, refl, e)
] refl

no_blanks : (text : List ℕ) → BeginsWithNoBlank text → without_blanks text ≡ text
no_blanks [] h = refl
no_blanks (b ∷ bs) h = rw h refl

pub blanks_again : (blanks text : List ℕ) → AreBlanks blanks → BeginsWithNoBlank text → without_blanks (blanks ++ text) ≡ text
blanks_again [] text e h = no_blanks text h
blanks_again (b ∷ blanks) text e h =
    let f = both (is_blank b) (list_all is_blank blanks) e in
    ap (λ t. cond t (without_blanks (blanks ++ text)) (b ∷ (blanks ++ text))) f.0 ∙ blanks_again blanks text f.1 h

-- bytes that are no UTF-8
pub not_utf8 : (bs : List ℕ) → ¬ (IsUtf8 bs) → is_utf8 bs ≡ false
not_utf8 bs h = elim (is_utf8 bs) as (λ t. is_utf8 bs ≡ t → t ≡ false) [ true ↦ λ e. absurd (h (IsUtf8-from_is_utf8 bs e)) | false ↦ λ e. refl ] refl

-- a session and its digits
two_digits : (a b n : ℕ) → 1 ≤ a → b ≤ 9 → n ≡ a * 10 + b → (n / 10 ≡ a) × (n % 10 ≡ b)
two_digits a b n some small is = (omega (arith), omega (arith))

session_found : (ds : List ℕ) (n : ℕ) → session_of ds ≡ Some n → (1 ≤ n) × (n ≤ 64) × (ds ≡ digits n)
session_found [] n e = cc
session_found (a ∷ []) n e = elim (is_digit a && nat_le 49 a) as (λ t. (is_digit a && nat_le 49 a) ≡ t → cond t (Some (a - 48)) None ≡ Some n → (1 ≤ n) × (n ≤ 64) × (a ∷ [] ≡ digits n)) [
  | true ↦ λ same e.
      let is : a - 48 ≡ n = cc in
      let low : 49 ≤ a = grind (arith, nat_tests) in
      let high : a ≤ 57 = grind (arith, nat_tests) in
      let small : nat_lt n 10 ≡ true = grind (arith, nat_tests) in
      (omega arith, omega arith, rw small (ap (λ x. x ∷ []) (omega arith)))
  | false ↦ λ other e. cc
] refl e
session_found (a ∷ b ∷ []) n e = elim (is_digit a && nat_le 49 a && is_digit b && nat_le ((a - 48) * 10 + (b - 48)) 64) as (λ t. (is_digit a && nat_le 49 a && is_digit b && nat_le ((a - 48) * 10 + (b - 48)) 64) ≡ t → cond t (Some ((a - 48) * 10 + (b - 48))) None ≡ Some n → (1 ≤ n) × (n ≤ 64) × (a ∷ b ∷ [] ≡ digits n)) [
  | true ↦ λ same e.
      let is : (a - 48) * 10 + (b - 48) ≡ n = cc in
      let low : 49 ≤ a = grind (arith, nat_tests) in
      let low_b : 48 ≤ b = grind (arith, nat_tests) in
      let high_b : b ≤ 57 = grind (arith, nat_tests) in
      let few : (a - 48) * 10 + (b - 48) ≤ 64 = grind (arith, nat_tests) in
      let big : nat_lt n 10 ≡ false = grind (arith, nat_tests) in
      let parts = two_digits (a - 48) (b - 48) n (omega arith) (omega arith) (sym is) in
      let first : a ≡ 48 + (a - 48) = omega arith in
      let second : b ≡ 48 + (b - 48) = omega arith in
      (omega arith, omega arith, rw (big, parts.0, parts.1) (ap (λ x. x ∷ b ∷ []) first ∙ ap (λ y. (48 + (a - 48)) ∷ y ∷ []) second))
  | false ↦ λ other e. cc
] refl e
session_found (a ∷ b ∷ c ∷ rest) n e = cc

-- the digits of a session: one from 1 to 9, or two of which the first isn't 0
data AreSessionDigits (n : ℕ) : List ℕ → Type 0 where
  one : n ≤ 9 → AreSessionDigits n ((48 + n) ∷ [])
  two : (a b : ℕ) → 1 ≤ a → a ≤ 6 → b ≤ 9 → n ≡ a * 10 + b → AreSessionDigits n ((48 + a) ∷ (48 + b) ∷ [])

session_digits : (n : ℕ) → n ≤ 64 → AreSessionDigits n (digits n)
session_digits n few = elim (nat_lt n 10) as (λ t. nat_lt n 10 ≡ t → AreSessionDigits n (cond t ((48 + n) ∷ []) ((48 + n / 10) ∷ (48 + n % 10) ∷ []))) [
  | true ↦ λ e. one (grind (arith, nat_tests))
  | false ↦ λ e. let big : 10 ≤ n = grind (arith, nat_tests) in two (n / 10) (n % 10) (omega arith) (omega arith) (omega arith) (omega arith)
] refl

session_again : (n : ℕ) (ds : List ℕ) → 1 ≤ n → n ≤ 64 → AreSessionDigits n ds → session_of ds ≡ Some n
session_again n _ some few (one small) =
    let test : (is_digit (48 + n) && nat_le 49 (48 + n)) ≡ true = grind (arith, nat_tests) in
    let is : 48 + n - 48 ≡ n = omega arith in
    rw (test, is) refl
session_again n _ some few (two a b low high small is) =
    let value : (48 + a - 48) * 10 + (48 + b - 48) ≡ n = omega arith in
    let test_a : (is_digit (48 + a) && nat_le 49 (48 + a)) ≡ true = grind (arith, nat_tests) in
    let test_b : is_digit (48 + b) ≡ true = grind (arith, nat_tests) in
    let test_n : nat_le n 64 ≡ true = grind (arith, nat_tests) in
    rw (value, test_a, test_b, test_n) refl

map_found : {A B : Type 0} (o : Option A) (f : A → B) (y : B) → option_map f o ≡ Some y → (x : A) × (o ≡ Some x) × (f x ≡ y)
map_found None f y e = cc
map_found (Some x) f y e = (x, refl, cc)

digits_lack : (n : ℕ) (ds : List ℕ) (b : ℕ) → AreSessionDigits n ds → b ≤ 47 ⊎ 58 ≤ b → AllByRecursion (λ x. x ≢ b) ds
digits_lack n _ b (one small) (inl low) = ((λ e. omega arith), tt)
digits_lack n _ b (one small) (inr high) = ((λ e. omega arith), tt)
digits_lack n _ b (two a d low few small is) (inl l) = ((λ e. omega arith), ((λ e. omega arith), tt))
digits_lack n _ b (two a d low few small is) (inr h) = ((λ e. omega arith), ((λ e. omega arith), tt))

-- a statement, and back
form_at : (line line' : List ℕ) (k k' : LineKind) → line ≡ line' → k ≡ k' → IsForm line' k → IsForm line k'
form_at line line' k k' is same h = subst (λ x. IsForm x k') (sym is) (subst (λ x. IsForm line' x) same h)

statement_found : (line : List ℕ) (k : LineKind) → statement_of line ≡ Some k → IsForm line k
unfolding statement_of
statement_found line k e =
    let parts = bind_found (parted_at 58 line) _ k e in
    let session = bind_found (session_of parts.0.0) _ k parts.2 in
    let n = session_found parts.0.0 session.0 session.1 in
    let blanks = blanks_found parts.0.1 in
    let is : Statement session.0 (without_blanks parts.0.1) ≡ k = cc in
    let whole : line ≡ digits session.0 ++ 58 ∷ (blanks.0 ++ without_blanks parts.0.1) =
    (parted_found 58 line parts.0 parts.1).0 ∙ ap (λ xs. xs ++ 58 ∷ parts.0.1) n.2 ∙ ap (λ xs. digits session.0 ++ 58 ∷ xs) blanks.1 in
    form_at line _ _ k whole is (statement_line session.0 blanks.0 (without_blanks parts.0.1) n.0 n.1 blanks.2 blanks.3)

statement_again : (session : ℕ) (ds blanks text : List ℕ) → 1 ≤ session → session ≤ 64 → AreSessionDigits session ds → AreBlanks blanks → BeginsWithNoBlank text → statement_of (ds ++ 58 ∷ (blanks ++ text)) ≡ Some (Statement session text)
unfolding statement_of
statement_again session ds blanks text some few h b t =
    rw (parted_here 58 ds (blanks ++ text) (digits_lack session ds 58 h (inr (omega arith))), session_again session ds some few h, blanks_again blanks text b t) refl

comment_found : (line : List ℕ) (k : LineKind) → is_comment line ≡ true → Comment ≡ k → IsForm line k
comment_found [] k e is = cc
comment_found (b ∷ bs) k e is = form_at (b ∷ bs) (35 ∷ bs) Comment k (ap (λ x. x ∷ bs) (grind (arith, nat_tests))) is (comment_line bs)

-- a form, and back
form_found : (line : List ℕ) (k : LineKind) → form_of line ≡ Some k → IsForm line k
unfolding form_of
form_found line k e = elim (list_all is_blank line) as (λ t. list_all is_blank line ≡ t → cond t (Some Empty) (cond (is_comment line) (Some Comment) (cond (bytes_eq line (codes "----")) (Some Phase) (statement_of line))) ≡ Some k → IsForm line k) [
  | true ↦ λ blank e. form_at line line Empty k refl (let is : Empty ≡ k = cc in is) (empty_line line blank)
  | false ↦ λ other e. elim (is_comment line) as (λ t. is_comment line ≡ t → cond t (Some Comment) (cond (bytes_eq line (codes "----")) (Some Phase) (statement_of line)) ≡ Some k → IsForm line k) [
    | true ↦ λ mark e. comment_found line k mark (let is : Comment ≡ k = cc in is)
    | false ↦ λ other e. elim (bytes_eq line (codes "----")) as (λ t. bytes_eq line (codes "----") ≡ t → cond t (Some Phase) (statement_of line) ≡ Some k → IsForm line k) [
      | true ↦ λ same e. form_at line _ Phase k ((bytes_eq-Decides line _).0 same) (let is : Phase ≡ k = cc in is) phase_line
      | false ↦ λ other e. statement_found line k e
    ] refl e
  ] refl e
] refl e

-- a line that begins with a digit is a statement or nothing
digit_first : (b : ℕ) (bs : List ℕ) → 49 ≤ b → form_of (b ∷ bs) ≡ statement_of (b ∷ bs)
unfolding form_of
digit_first b bs low =
    let one : (b == 32) ≡ false = grind (arith, nat_tests) in
    let two : (b == 9) ≡ false = grind (arith, nat_tests) in
    let three : (b == 35) ≡ false = grind (arith, nat_tests) in
    let four : (b == 45) ≡ false = grind (arith, nat_tests) in
    rw (one, two, three, four) refl

statement_first : (session : ℕ) (ds rest : List ℕ) → 1 ≤ session → AreSessionDigits session ds → form_of (ds ++ rest) ≡ statement_of (ds ++ rest)
statement_first session _ rest some (one small) = digit_first (48 + session) rest (omega arith)
statement_first session _ rest some (two a d low few small is) = digit_first (48 + a) ((48 + d) ∷ rest) (omega arith)

form_again : (line : List ℕ) (k : LineKind) → IsForm line k → form_of line ≡ Some k
unfolding form_of
form_again line k (empty_line _ blank) = rw blank refl
form_again line k (comment_line rest) = refl
form_again line k phase_line = refl
form_again line k (statement_line session blanks text some few b t) =
    statement_first session (digits session) (58 ∷ (blanks ++ text)) some (session_digits session few)
    ∙ statement_again session (digits session) blanks text some few (session_digits session few) b t

pub kind_found : (line : List ℕ) (k : LineKind) → kind_of line ≡ Some k → IsLine line k
unfolding kind_of
kind_found line k e = elim (is_utf8 line) as (λ t. is_utf8 line ≡ t → cond t (form_of (without_return line)) None ≡ Some k → IsLine line k) [
  | true ↦ λ valid e. record { utf8 = IsUtf8-from_is_utf8 line valid; form = form_found (without_return line) k e }
  | false ↦ λ other e. cc
] refl e

pub kind_again : (line : List ℕ) (k : LineKind) → IsLine line k → kind_of line ≡ Some k
unfolding kind_of
kind_again line k h = rw (is_utf8-from_IsUtf8 line h.utf8) (form_again (without_return line) k h.form)

pub no_kind : (line : List ℕ) → kind_of line ≡ None → ¬ (IsSomeLine line)
no_kind line e h = let again = kind_again line h.0 h.1 in cc

-- a line is of one kind
pub one_kind : (line : List ℕ) (j k : LineKind) → IsLine line j → IsLine line k → j ≡ k
one_kind line j k h i = let a = kind_again line j h in let b = kind_again line k i in cc

-- a statement's session
pub session_of_form : (line : List ℕ) (k : LineKind) → IsForm line k → HasCount k
session_of_form line k (empty_line _ blank) = tt
session_of_form line k (comment_line rest) = tt
session_of_form line k phase_line = tt
session_of_form line k (statement_line session blanks text some few b t) = (some, few)
