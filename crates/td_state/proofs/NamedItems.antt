-- Items of a list that have names: no name stands twice or is taken, and each item is good behind those before it.
use Rattle.std.proofs.Common.{◌≡◌, ℕ, zero, suc, ◌+◌, ◌≤◌, ◌^◌, Bool, true, false, not, ◌&&◌, ◌||◌, cond, nat_lt, List, [], ◌∷◌, ◌++◌, map, take, length, Some, None, position, refl, sym, ap, ◌∙◌, append_assoc, arith}
use Rattle.std.specs.Prelude.{slice_get}
use Rattle.std.specs.List.{AllByRecursion, list_all, list_any, position_or_len}
use Rattle.std.specs.Option.{option_map}
use Rattle.std.specs.Str.{bytes_eq}
use Rattle.std.specs.Cmp.Lexicographic.{nat_list_eq_equiv}
use Rattle.std.proofs.lemmas.Bool.{and_from, and_parts, and_right, le-ltb, leb-true, le-leb, lt-ltb, not-true, not_from_false, or_from, or_parts}
use Rattle.std.proofs.lemmas.List.{append-nil, map_push, map-append}
use Rattle.std.proofs.lemmas.Option.{same_Some}
use Rattle.td_limits.specs.declared.limits.TheConstants.{NAME_BYTES}
use Rattle.td_codec.specs.Lists.{Items, all_fit}
use Rattle.td_codec.specs.Values.{text}
use Rattle.td_manifest.specs.Names.{is_short_name, new_name}
use Rattle.td_verdict.specs.Names.{stands_twice}
use Rattle.td_grammar.specs.Names.{is_name}
use Rattle.td_catalog.proofs.Apart.{apart_first}
use Rattle.td_bind.proofs.Twice.{twice_push}
use Rattle.td_state.specs.Heads.{IsShortName}

-- a test that another implies
pub redundant : (a b : Bool) → (b ≡ true → a ≡ true) → (a && b) ≡ b
redundant a false h = and_right a false refl
redundant a true h = ap (λ x. x && true) (h refl)

-- ---- names

pub short_from : (name : List ℕ) → is_short_name name ≡ true → IsShortName name
short_from name h =
    let parts = and_parts _ (is_name name) h in
    record { few = leb-true (length name) NAME_BYTES parts.0; named = parts.1 }

pub short_test : (name : List ℕ) → IsShortName name → is_short_name name ≡ true
short_test name h = and_from _ (is_name name) (le-leb (length name) NAME_BYTES h.few) h.named

pub name_is : (taken : List ℕ → Bool) (name : List ℕ) → (new_name taken).fits name ≡ (is_short_name name && not (taken name))
unfolding new_name text
name_is taken name = ap (λ b. b && not (taken name)) (redundant (nat_lt (length name) (2 ^ 16)) (is_short_name name) few)
  where
    few : is_short_name name ≡ true → nat_lt (length name) (2 ^ 16) ≡ true
    few h =
        let le : length name ≤ NAME_BYTES = (short_from name h).few in
        lt-ltb (length name) (2 ^ 16) (omega arith)

pub any_named : {X : Type 0} (f : X → List ℕ) (name : List ℕ) (xs : List X) → list_any (λ x. bytes_eq (f x) name) xs ≡ list_any (bytes_eq name) (map f xs)
any_named f name [] = refl
any_named f name (x ∷ xs) = λ i. nat_list_eq_equiv.symm (f x) name i || any_named f name xs i

past_all : {X : Type 0} (p : X → Bool) (xs : List X) → list_any p xs ≡ false → position_or_len p xs ≡ length xs
past_all p [] h = refl
past_all p (x ∷ xs) h =
    let parts = or_parts (p x) (list_any p xs) h in
    let more : 1 + length xs ≡ suc (length xs) = omega arith in
    (λ i. cond (not (parts.0 i)) (1 + past_all p xs parts.1 i) 0) ∙ more

pub not_found : {X : Type 0} (p : X → Bool) (xs : List X) → list_any p xs ≡ false → option_map (λ i. i + 1) (position p xs) ≡ None
not_found p xs h =
    let at : position_or_len p xs ≡ length xs = past_all p xs h in
    let past : nat_lt (position_or_len p xs) (length xs) ≡ false = le-ltb (position_or_len p xs) (length xs) (omega arith) in
    ap (λ b. option_map (λ i. i + 1) (cond b (Some (position_or_len p xs)) None)) past

-- ---- items

-- each is good behind those before it
abbrev pub all_good : {X : Type 0} → (List X → X → Bool) → List X → List X → Bool
all_good good before [] = true
all_good good before (x ∷ xs) = good before x && all_good good (before ++ x ∷ []) xs

-- whatever stands before it
pub plain_good : {X : Type 0} (q : X → Bool) (before xs : List X) → all_good (λ _ x. q x) before xs ≡ list_all q xs
plain_good q before [] = refl
plain_good q before (x ∷ xs) = ap (λ b. q x && b) (plain_good q (before ++ x ∷ []) xs)

-- a name is short and stands for none of these
abbrev pub is_new : List ℕ → List (List ℕ) → Bool
is_new name names = is_short_name name && not (list_any (bytes_eq name) names)

-- an item fits where its name is new and it is good
abbrev pub FitBy : {X : Type 0} → Items X → (X → List ℕ) → List (List ℕ) → (List X → X → Bool) → Type 0
FitBy {X} items name taken good = (before : List X) (x : X) → items.fits before x ≡ (is_new (name x) (taken ++ map name before) && good before x)

-- names that are apart, each of them short, of good items
pub record AreNamed {X : Type 0} (name : X → List ℕ) (taken : List (List ℕ)) (good : List X → X → Bool) (before xs : List X) : Type 0 where
  pub apart : stands_twice (taken ++ map name (before ++ xs)) ≡ false
  pub short : AllByRecursion (λ x. IsShortName (name x)) xs
  pub are_good : all_good good before xs ≡ true

pub record IsNamed {X : Type 0} (name : X → List ℕ) (taken : List (List ℕ)) (good : List X → X → Bool) (before : List X) (x : X) : Type 0 where
  pub new : list_any (bytes_eq (name x)) (taken ++ map name before) ≡ false
  pub short : IsShortName (name x)
  pub is_good : good before x ≡ true

pub named_by : {X : Type 0} (items : Items X) (name : X → List ℕ) (taken : List (List ℕ)) (good : List X → X → Bool) → FitBy items name taken good → (before : List X) (x : X) → items.fits before x ≡ true → IsNamed name taken good before x
named_by items name taken good is before x fit =
    let any : Bool = list_any (bytes_eq (name x)) (taken ++ map name before) in
    let parts = and_parts (is_short_name (name x) && not any) (good before x) (sym (is before x) ∙ fit) in
    let names = and_parts (is_short_name (name x)) (not any) parts.0 in
    record { new = not-true any names.1; short = short_from (name x) names.0; is_good = parts.1 }

-- the names of a list with one more
more_names : {X : Type 0} (name : X → List ℕ) (taken : List (List ℕ)) (before : List X) (x : X) → taken ++ map name (before ++ x ∷ []) ≡ (taken ++ map name before) ++ name x ∷ []
more_names name taken before x = ap (λ l. taken ++ l) (map_push name before x) ∙ sym (append_assoc taken (map name before) (name x ∷ []))

pub named_all : {X : Type 0} (items : Items X) (name : X → List ℕ) (taken : List (List ℕ)) (good : List X → X → Bool) → FitBy items name taken good → (before xs : List X) → stands_twice (taken ++ map name before) ≡ false → all_fit items before xs ≡ true → AreNamed name taken good before xs
named_all items name taken good is before [] apart fit = record {
  apart = ap (λ l. stands_twice (taken ++ map name l)) (append-nil before) ∙ apart;
  short = tt;
  are_good = refl;
}
named_all items name taken good is before (x ∷ xs) apart fit =
    let parts = and_parts (items.fits before x) (all_fit items (before ++ x ∷ []) xs) fit in
    let here = named_by items name taken good is before x parts.0 in
    let more = ap stands_twice (more_names name taken before x) ∙ twice_push (taken ++ map name before) (name x)
    ∙ or_from (stands_twice (taken ++ map name before)) (list_any (bytes_eq (name x)) (taken ++ map name before)) apart here.new in
    let rest = named_all items name taken good is (before ++ x ∷ []) xs more parts.1 in
    record {
      apart = ap (λ l. stands_twice (taken ++ map name l)) (sym (append_assoc before (x ∷ []) xs)) ∙ rest.apart;
      short = (here.short, rest.short);
      are_good = and_from (good before x) (all_good good (before ++ x ∷ []) xs) here.is_good rest.are_good;
    }

pub fit_all : {X : Type 0} (items : Items X) (name : X → List ℕ) (taken : List (List ℕ)) (good : List X → X → Bool) → FitBy items name taken good → (before xs : List X) → AreNamed name taken good before xs → all_fit items before xs ≡ true
fit_all items name taken good is before [] h = refl
fit_all items name taken good is before (x ∷ xs) h =
    let whole : stands_twice (taken ++ map name ((before ++ x ∷ []) ++ xs)) ≡ false = ap (λ l. stands_twice (taken ++ map name l)) (append_assoc before (x ∷ []) xs) ∙ h.apart in
    let names = taken ++ map name before in
    let split : taken ++ map name ((before ++ x ∷ []) ++ xs) ≡ (names ++ name x ∷ []) ++ map name xs =
    ap (λ l. taken ++ l) (map-append name (before ++ x ∷ []) xs)
    ∙ sym (append_assoc taken (map name (before ++ x ∷ [])) (map name xs))
    ∙ ap (λ l. l ++ map name xs) (more_names name taken before x) in
    let front : stands_twice (names ++ name x ∷ []) ≡ false = apart_first (names ++ name x ∷ []) (map name xs) (ap stands_twice (sym split) ∙ whole) in
    let any : Bool = list_any (bytes_eq (name x)) names in
    let parts = or_parts (stands_twice names) any (sym (twice_push names (name x)) ∙ front) in
    let goods = and_parts (good before x) (all_good good (before ++ x ∷ []) xs) h.are_good in
    let here = is before x ∙ and_from (is_short_name (name x) && not any) (good before x)
    (and_from (is_short_name (name x)) (not any) (short_test (name x) h.short.0) (not_from_false any parts.1)) goods.0 in
    let rest = fit_all items name taken good is (before ++ x ∷ []) xs (record { apart = whole; short = h.short.1; are_good = goods.1 }) in
    and_from (items.fits before x) (all_fit items (before ++ x ∷ []) xs) here rest

-- the one at a place
pub fit_at : {X : Type 0} (items : Items X) (before xs : List X) (i : ℕ) (x : X) → slice_get xs i ≡ Some x → all_fit items before xs ≡ true → items.fits (before ++ take i xs) x ≡ true
fit_at items before [] i x at fit = absurd cc
fit_at items before (y ∷ ys) zero x at fit =
    let parts = and_parts (items.fits before y) (all_fit items (before ++ y ∷ []) ys) fit in
    ap (λ l. items.fits l x) (append-nil before) ∙ ap (items.fits before) (sym (same_Some y x at)) ∙ parts.0
fit_at items before (y ∷ ys) (suc i) x at fit =
    let parts = and_parts (items.fits before y) (all_fit items (before ++ y ∷ []) ys) fit in
    ap (λ l. items.fits l x) (sym (append_assoc before (y ∷ []) (take i ys))) ∙ fit_at items (before ++ y ∷ []) ys i x at parts.1
