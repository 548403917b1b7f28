-- Tests of keys and what they leave of pairs.
use Rattle.std.proofs.Common.{◌≡◌, ℕ, ◌+◌, ◌≤◌, Bool, true, false, cond, ◌&&◌, ◌||◌, eqb, leb, List, [], ◌∷◌, ◌++◌, length, map, refl, sym, ap, ◌∙◌, arith}
use Rattle.std.specs.List.{filter, AllByRecursion, list_any}
use Rattle.std.proofs.lemmas.Bool.Decides.{nat_tests}
use Rattle.std.specs.declared.cmp.Ordering.TheVariants.{Less}
use Rattle.td_layer.specs.declared.values.Key.{Key}
use Rattle.td_layer.specs.Keys.{key_cmp, AllAfter, InKeyOrder}
use Rattle.td_layer.specs.Scans.{Cut, is_cut}
use Rattle.td_memtree.specs.Within.{is_within}
use Rattle.td_memtable.specs.Contents.{key_at}
use Rattle.td_fileio.specs.Days.{day_start, day_end, is_in_day}
use Rattle.td_fileset.specs.Ranges.{only}
use Rattle.td_fileset.specs.Layered.{cut_in_day}

-- whether a key is of a table and its timestamp from one to another
abbrev pub in_span : ℕ → ℕ → ℕ → Key → Bool
in_span table lo hi key = eqb key.table table && (leb lo key.ts && leb key.ts hi)

-- ---- any tests

module _ {X : Type 0} where
  pub filter_same : (p q : X → Bool) (xs : List X) → AllByRecursion (λ x. p x ≡ q x) xs → filter p xs ≡ filter q xs
  filter_same p q [] h = refl
  filter_same p q (x ∷ xs) h = λ i. cond (h.0 i) (x ∷ filter_same p q xs h.1 i) (filter_same p q xs h.1 i)

  pub for_all : (P : X → Type 0) (xs : List X) → ((x : X) → P x) → AllByRecursion P xs
  for_all P [] h = tt
  for_all P (x ∷ xs) h = (h x, for_all P xs h)

  pub all_through : (P Q : X → Type 0) (xs : List X) → ((x : X) → P x → Q x) → AllByRecursion P xs → AllByRecursion Q xs
  all_through P Q [] f h = tt
  all_through P Q (x ∷ xs) f h = (f x h.0, all_through P Q xs f h.1)

  pub all_append : (P : X → Type 0) (xs ys : List X) → AllByRecursion P xs → AllByRecursion P ys → AllByRecursion P (xs ++ ys)
  all_append P [] ys h k = k
  all_append P (x ∷ xs) ys h k = (h.0, all_append P xs ys h.1 k)

  pub filter_both : (p q : X → Bool) (xs : List X) → filter p (filter q xs) ≡ filter (λ x. q x && p x) xs
  filter_both p q [] = refl
  filter_both p q (x ∷ xs) = by (q x) (filter_both p q xs)
    where
      by : (b : Bool) → filter p (filter q xs) ≡ filter (λ y. q y && p y) xs → filter p (cond b (x ∷ filter q xs) (filter q xs)) ≡ cond (b && p x) (x ∷ filter (λ y. q y && p y) xs) (filter (λ y. q y && p y) xs)
      by true rest = ap (λ l. cond (p x) (x ∷ l) l) rest
      by false rest = rest

  pub filter_none : (p : X → Bool) (xs : List X) → AllByRecursion (λ x. p x ≡ false) xs → filter p xs ≡ []
  filter_none p [] h = refl
  filter_none p (x ∷ xs) h = ap (λ b. cond b (x ∷ filter p xs) (filter p xs)) h.0 ∙ filter_none p xs h.1

  pub filter_append : (p : X → Bool) (xs ys : List X) → filter p (xs ++ ys) ≡ filter p xs ++ filter p ys
  filter_append p [] ys = refl
  filter_append p (x ∷ xs) ys = by (p x) (filter_append p xs ys)
    where
      by : (b : Bool) → filter p (xs ++ ys) ≡ filter p xs ++ filter p ys → cond b (x ∷ filter p (xs ++ ys)) (filter p (xs ++ ys)) ≡ cond b (x ∷ filter p xs) (filter p xs) ++ filter p ys
      by true rest = ap (λ l. x ∷ l) rest
      by false rest = rest

  -- tests of which at most one holds count what one of them holds of
  pub count_apart : (p q r : X → Bool) (xs : List X) → ((x : X) → r x ≡ (p x || q x)) → ((x : X) → (p x && q x) ≡ false) → length (filter r xs) ≡ length (filter p xs) + length (filter q xs)
  count_apart p q r [] same apart = refl
  count_apart p q r (x ∷ xs) same apart = ap (λ b. length (cond b (x ∷ filter r xs) (filter r xs))) (same x) ∙ by (p x) (q x) (apart x) (count_apart p q r xs same apart)
    where
      by : (a b : Bool) → (a && b) ≡ false → length (filter r xs) ≡ length (filter p xs) + length (filter q xs)
          → length (cond (a || b) (x ∷ filter r xs) (filter r xs)) ≡ length (cond a (x ∷ filter p xs) (filter p xs)) + length (cond b (x ∷ filter q xs) (filter q xs))
      by true true h rest = absurd (cc)
      by true false h rest = omega (arith, rest)
      by false true h rest = omega (arith, rest)
      by false false h rest = rest

-- ---- tests of keys

module _ {X : Type 0} where
  abbrev by_key : (Key → Bool) → Key × X → Bool
  by_key test e = test e.0

  pub only_same : (p q : Key → Bool) (es : List (Key × X)) → ((k : Key) → p k ≡ q k) → only p es ≡ only q es
  only_same p q es h = filter_same (by_key p) (by_key q) es (for_all (λ (e : Key × X). p e.0 ≡ q e.0) es (λ e. h e.0))

  pub only_both : (p q r : Key → Bool) (es : List (Key × X)) → ((k : Key) → (q k && p k) ≡ r k) → only p (only q es) ≡ only r es
  only_both p q r es h = filter_both (by_key p) (by_key q) es ∙ only_same (λ k. q k && p k) r es h

  pub only_none : (p q : Key → Bool) (es : List (Key × X)) → ((k : Key) → (q k && p k) ≡ false) → only p (only q es) ≡ []
  only_none p q es h = filter_both (by_key p) (by_key q) es ∙ filter_none (λ (e : Key × X). q e.0 && p e.0) es (for_all (λ (e : Key × X). (q e.0 && p e.0) ≡ false) es (λ e. h e.0))

pub span_of_keys : (table lo hi : ℕ) (key : Key) → is_within (key_at table lo) (key_at table hi) key ≡ in_span table lo hi key
span_of_keys table lo hi key = grind (arith, nat_tests)

pub span_near : (table from lo hi to : ℕ) (key : Key) → from ≤ lo → hi ≤ to → (in_span table from to key && in_span table lo hi key) ≡ in_span table lo hi key
span_near table from lo hi to key h g = by (eqb key.table table) (near from lo hi to key.ts h g)
  where
    near : (from lo hi to ts : ℕ) → from ≤ lo → hi ≤ to → ((leb from ts && leb ts to) && (leb lo ts && leb ts hi)) ≡ (leb lo ts && leb ts hi)
    near from lo hi to ts h g = grind (arith, nat_tests)

    by : (t : Bool) → ((leb from key.ts && leb key.ts to) && (leb lo key.ts && leb key.ts hi)) ≡ (leb lo key.ts && leb key.ts hi)
        → ((t && (leb from key.ts && leb key.ts to)) && (t && (leb lo key.ts && leb key.ts hi))) ≡ (t && (leb lo key.ts && leb key.ts hi))
    by true e = e
    by false e = refl

pub in_span_parts : (table lo hi : ℕ) (key : Key) → in_span table lo hi key ≡ true → (lo ≤ key.ts) × (key.ts ≤ hi)
in_span_parts table lo hi key h = (grind (arith, nat_tests), grind (arith, nat_tests))

-- ---- cuts

pub cut_day : (range : ℕ) (key : Key) (cuts : List Cut) → is_cut key (map (cut_in_day range) cuts) ≡ (is_in_day range key.ts && is_cut key cuts)
cut_day range key [] = by (is_in_day range key.ts)
  where
    by : (b : Bool) → false ≡ (b && false)
    by true = refl
    by false = refl
cut_day range key (c ∷ cuts) =
    ap (λ b. b || is_cut key (map (cut_in_day range) cuts)) (one (eqb c.table key.table) c.lo c.hi (day_start range) (day_end range) key.ts)
    ∙ ap (λ b. (is_in_day range key.ts && (eqb c.table key.table && (leb c.lo key.ts && leb key.ts c.hi))) || b) (cut_day range key cuts)
    ∙ by (is_in_day range key.ts) (eqb c.table key.table && (leb c.lo key.ts && leb key.ts c.hi)) (is_cut key cuts)
  where
    ends : (lo hi start end ts : ℕ) → (leb (Rattle.std.specs.Prelude.max lo start) ts && leb ts (Rattle.std.specs.Prelude.min hi end)) ≡ ((leb start ts && leb ts end) && (leb lo ts && leb ts hi))
    ends lo hi start end ts = grind (arith, nat_tests)

    one : (t : Bool) (lo hi start end ts : ℕ) → (t && (leb (Rattle.std.specs.Prelude.max lo start) ts && leb ts (Rattle.std.specs.Prelude.min hi end))) ≡ ((leb start ts && leb ts end) && (t && (leb lo ts && leb ts hi)))
    one true lo hi start end ts = ends lo hi start end ts
    one false lo hi start end ts = none (leb start ts && leb ts end)
      where
        none : (b : Bool) → false ≡ (b && false)
        none true = refl
        none false = refl

    by : (d a b : Bool) → ((d && a) || (d && b)) ≡ (d && (a || b))
    by true a b = refl
    by false a b = refl

-- ---- rows that rise

module _ {X : Type 0} where
  -- of pairs behind a key none is found that none behind that key may be
  none_later : (p : Key → Bool) (k : Key) (es : List (Key × X)) → ((q : Key) → key_cmp k q ≡ Less → p q ≡ false) → AllAfter key_cmp k es → only p es ≡ []
  none_later p k [] h a = refl
  none_later p k (e ∷ es) h a = ap (λ b. cond b (e ∷ only p es) (only p es)) (h e.0 a.0) ∙ none_later p k es h a.1

  -- pairs of a range that rise are those of its front, and then the others
  pub rise_apart : (p q r : Key → Bool) (es : List (Key × X)) → ((k : Key) → r k ≡ (p k || q k)) → ((k : Key) → (p k && q k) ≡ false)
      → ((k j : Key) → q k ≡ true → key_cmp k j ≡ Less → p j ≡ false) → InKeyOrder es → only r es ≡ only p es ++ only q es
  rise_apart p q r [] same apart later o = refl
  rise_apart p q r (e ∷ es) same apart later o =
      ap (λ b. cond b (e ∷ only r es) (only r es)) (same e.0)
      ∙ by (p e.0) (q e.0) refl (apart e.0) (λ is. none_later p e.0 es (λ k. later e.0 k is) o.0) (rise_apart p q r es same apart later o.1)
    where
      by : (a b : Bool) → q e.0 ≡ b → (a && b) ≡ false → (q e.0 ≡ true → only p es ≡ []) → only r es ≡ only p es ++ only q es
          → cond (a || b) (e ∷ only r es) (only r es) ≡ cond a (e ∷ only p es) (only p es) ++ cond b (e ∷ only q es) (only q es)
      by true true is h none rest = absurd (cc)
      by true false is h none rest = ap (λ l. e ∷ l) rest
      by false true is h none rest = ap (λ l. e ∷ l) (rest ∙ ap (λ l. l ++ only q es) (none is)) ∙ sym (ap (λ l. l ++ (e ∷ only q es)) (none is))
      by false false is h none rest = rest
