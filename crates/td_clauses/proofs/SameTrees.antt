-- The grammar of queries as it is written and the one by which they are read derive the same trees.
use Rattle.std.proofs.Common.{◌≡◌, ℕ, ◌≤◌, ◌<◌, Bool, true, false, ◌&&◌, ◌||◌, ◌==◌, nat_le, if◌then◌else◌, List, [], ◌∷◌, ◌++◌, None, Some, ◌⊎◌, inl, inr, refl, sym, ap, subst, ◌∙◌, arith}
use Rattle.std.proofs.lemmas.Bool.{le-leb, leb-true}
use Rattle.std.proofs.lemmas.List.{append-nil}
use Rattle.std.proofs.lemmas.Bool.Decides.{nat_tests, leb_tells}
use Rattle.td_layer.specs.declared.values.Func.{Func}
use Rattle.td_layer.specs.declared.values.Func.TheVariants as func
use Rattle.td_model.specs.declared.language.Lit.{Lit}
use Rattle.td_model.specs.declared.language.ItemKind.{ItemKind}
use Rattle.td_model.specs.declared.language.ItemKind.TheVariants as item_kind
use Rattle.td_grammar.specs.declared.lexemes.Lexeme.{Lexeme}
use Rattle.td_grammar.specs.Grammar.{has, only, within, Passes, G, Derives, valued, both, under, maybe, either, loop}
use Rattle.td_grammar.specs.declared.kinds.TheConstants as kinds
use Rattle.td_grammar.specs.Words.{word_of, name, listed, comma_list}
use Rattle.td_clauses.specs.declared.drafts.Clause.{Clause}
use Rattle.td_clauses.specs.Productions.{inside, truth, word_lit, a_lit, lits, count_argument, count_or_name, count_item, func_of, applied, function_item, named_item, selected, select_item, select_items, items, part, part_list, compares, between, null_test, a_test, clause, further_clause, cond_list, where_part, partition_part, clauses, query}
use Rattle.td_clauses.specs.Written.{written_lit, written_lits, written_selected, written_item, written_items, written_part, written_cond, written_conds, written_clauses, written_query}

-- what the one derives, the other does
pub record Into {E A : Type 0} (g h : G E A) : Type 0 where
  pub into : (e : E) (ts : List Lexeme) (a : A) → Derives e g ts a → Derives e h ts a

pub kept : {E A : Type 0} (g : G E A) → Into g g
kept g = record { into = λ e ts a d. d }

pub chain : {E A : Type 0} {g h i : G E A} → Into g h → Into h i → Into g i
chain p q = record { into = λ e ts a d. q.into e ts a (p.into e ts a d) }

pub first_of : {E A : Type 0} (g h : G E A) → Into g (either g h)
first_of g h = record { into = λ e ts a d. inl d }

pub second_of : {E A : Type 0} (g h : G E A) → Into h (either g h)
second_of g h = record { into = λ e ts a d. inr d }

pub in_cases : {E A : Type 0} {g h f : G E A} → Into g f → Into h f → Into (either g h) f
in_cases {E} {A} {g} {h} {f} p q = record { into = go }
  where
    go : (e : E) (ts : List Lexeme) (a : A) → Derives e g ts a ⊎ Derives e h ts a → Derives e f ts a
    go e ts a (inl d) = p.into e ts a d
    go e ts a (inr d) = q.into e ts a d

pub in_either : {E A : Type 0} {g h i j : G E A} → Into g i → Into h j → Into (either g h) (either i j)
in_either {E} {A} {g} {h} {i} {j} p q = in_cases (chain p (first_of i j)) (chain q (second_of i j))

pub in_valued : {E A B : Type 0} {k : A → B} {g h : G E A} → Into g h → Into (valued k g) (valued k h)
in_valued p = record { into = λ e ts c (a, d, v). (a, p.into e ts a d, v) }

pub in_both : {E A B C : Type 0} {k : A → B → C} {g i : G E A} {h j : G E B} → Into g i → Into h j → Into (both k g h) (both k i j)
in_both p q = record { into = λ e ts c (x, y, a, b, parts, d, f, v). (x, y, a, b, parts, p.into e x a d, q.into e y b f, v) }

pub in_second : {E A B C : Type 0} {k : A → B → C} {g : G E A} {h j : G E B} → Into h j → Into (both k g h) (both k g j)
in_second {E} {A} {B} {C} {k} {g} q = in_both (kept g) q

pub in_under : {E A B C : Type 0} {k : A → B → C} {g : G E A} {h j : G A B} → Into h j → Into (under k g h) (under k g j)
in_under q = record { into = λ e ts c (x, y, a, b, parts, d, f, v). (x, y, a, b, parts, d, q.into a y b f, v) }

pub in_maybe : {E A C : Type 0} {n : C} {k : A → C} {g h : G E A} → Into g h → Into (maybe n k g) (maybe n k h)
in_maybe {E} {A} {C} {n} {k} {g} {h} p = record { into = go }
  where
    go : (e : E) (ts : List Lexeme) (c : C) → Derives e (maybe n k g) ts c → Derives e (maybe n k h) ts c
    go e ts c (inl (a, d, v)) = inl (a, p.into e ts a d, v)
    go e ts c (inr d) = inr d

passes_in : {E S A : Type 0} {g h : G E A} → Into g h → (e : E) (ok : S → Lexeme → Bool) (next : S → A → S) (each : List A) (s : S) (ts : List Lexeme) (end : S)
    → Passes (λ now x a. Derives e g x a) ok next each s ts end → Passes (λ now x a. Derives e h x a) ok next each s ts end
passes_in p e ok next [] s ts end d = d
passes_in p e ok next (a ∷ more) s ts end (x, y, parts, d, begins, rest) = (x, y, parts, p.into e x a d, begins, passes_in p e ok next more (next s a) y end rest)

pub in_loop : {E S A : Type 0} {s : S} {ok : S → Lexeme → Bool} {next : S → A → S} {g h : G E A} → Into g h → Into (loop s ok next g) (loop s ok next h)
in_loop {E} {S} {A} {s} {ok} {next} p = record { into = λ e ts end (each, d). (each, passes_in p e ok next each s ts end d) }

pub in_listed : {E A : Type 0} {g h i j : G E A} → Into g i → Into h j → Into (listed g h) (listed i j)
in_listed p q = in_both p (in_loop q)

pub in_comma_list : {E A : Type 0} {g h : G E A} → Into g h → Into (comma_list g) (comma_list h)
in_comma_list p = in_listed p (in_second p)

pub in_inside : {E A : Type 0} {g h : G E A} → Into g h → Into (inside g) (inside h)
in_inside p = in_second (in_both p (kept _))

-- a choice behind a beginning is a choice of two with that beginning
pub apart : {E A B C : Type 0} (k : A → B → C) (g : G E A) (h i : G E B) → Into (both k g (either h i)) (either (both k g h) (both k g i))
apart {E} {A} {B} {C} k g h i = record { into = go }
  where
    go : (e : E) (ts : List Lexeme) (c : C) → Derives e (both k g (either h i)) ts c → Derives e (both k g h) ts c ⊎ Derives e (both k g i) ts c
    go e ts c (x, y, a, b, parts, d, inl f, v) = inl (x, y, a, b, parts, d, f, v)
    go e ts c (x, y, a, b, parts, d, inr f, v) = inr (x, y, a, b, parts, d, f, v)

pub together : {E A B C : Type 0} (k : A → B → C) (g : G E A) (h i : G E B) → Into (either (both k g h) (both k g i)) (both k g (either h i))
together k g h i = in_cases (in_second (first_of h i)) (in_second (second_of h i))

-- literals
lit_in : {E : Type 0} → Into (a_lit {E = E}) written_lit
unfolding a_lit word_lit truth written_lit
lit_in {E} = record { into = go }
  where
    go : (e : E) (ts : List Lexeme) (a : Lit) → Derives e (a_lit {E = E}) ts a → Derives e (written_lit {E = E}) ts a
    go e ts a (inl d) = inl d
    go e ts a (inr (inl d)) = inr (inl d)
    go e ts a (inr (inr (inl d))) = inr (inr (inl d))
    go e ts a (inr (inr (inr (inl d)))) = inr (inr (inr (inr (inr d))))
    go e ts a (inr (inr (inr (inr (inl d))))) = inr (inr (inr (inl d)))
    go e ts a (inr (inr (inr (inr (inr d))))) = inr (inr (inr (inr (inl d))))

lit_out : {E : Type 0} → Into (written_lit {E = E}) a_lit
unfolding a_lit word_lit truth written_lit
lit_out {E} = record { into = go }
  where
    go : (e : E) (ts : List Lexeme) (a : Lit) → Derives e (written_lit {E = E}) ts a → Derives e (a_lit {E = E}) ts a
    go e ts a (inl d) = inl d
    go e ts a (inr (inl d)) = inr (inl d)
    go e ts a (inr (inr (inl d))) = inr (inr (inl d))
    go e ts a (inr (inr (inr (inl d)))) = inr (inr (inr (inr (inl d))))
    go e ts a (inr (inr (inr (inr (inl d))))) = inr (inr (inr (inr (inr d))))
    go e ts a (inr (inr (inr (inr (inr d))))) = inr (inr (inr (inl d)))

pub lits_in : {E : Type 0} → Into (lits {E = E}) written_lits
unfolding lits written_lits
lits_in = in_comma_list lit_in

pub lits_out : {E : Type 0} → Into (written_lits {E = E}) lits
unfolding lits written_lits
lits_out = in_comma_list lit_out

-- parts and conditions
part_in : {E : Type 0} → Into (part {E = E}) written_part
unfolding part written_part
part_in = in_cases (second_of _ _) (first_of _ _)

part_out : {E : Type 0} → Into (written_part {E = E}) part
unfolding part written_part
part_out = in_cases (second_of _ _) (first_of _ _)

cond_in : {E : Type 0} → Into (clause {E = E}) written_cond
unfolding clause a_test compares between null_test written_cond
cond_in {E} = record { into = go }
  where
    go : (e : E) (ts : List Lexeme) (a : Clause) → Derives e (clause {E = E}) ts a → Derives e (written_cond {E = E}) ts a
    go e ts a (x, y, p, t, parts, d, inl f, v) = inr (inl (x, y, p, t, parts, part_in.into e x p d, f, v))
    go e ts a (x, y, p, t, parts, d, inr (inl f), v) = inr (inr (x, y, p, t, parts, part_in.into e x p d, f, v))
    go e ts a (x, y, p, t, parts, d, inr (inr f), v) = inl (x, y, p, t, parts, part_in.into e x p d, f, v)

cond_out : {E : Type 0} → Into (written_cond {E = E}) clause
unfolding clause a_test compares between null_test written_cond
cond_out {E} = record { into = go }
  where
    go : (e : E) (ts : List Lexeme) (a : Clause) → Derives e (written_cond {E = E}) ts a → Derives e (clause {E = E}) ts a
    go e ts a (inl (x, y, p, t, parts, d, f, v)) = (x, y, p, t, parts, part_out.into e x p d, inr (inr f), v)
    go e ts a (inr (inl (x, y, p, t, parts, d, f, v))) = (x, y, p, t, parts, part_out.into e x p d, inl f, v)
    go e ts a (inr (inr (x, y, p, t, parts, d, f, v))) = (x, y, p, t, parts, part_out.into e x p d, inr (inl f), v)

conds_in : {E : Type 0} → Into (cond_list {E = E}) written_conds
unfolding cond_list further_clause written_conds
conds_in = in_both cond_in (in_loop (in_second cond_in))

conds_out : {E : Type 0} → Into (written_conds {E = E}) cond_list
unfolding cond_list further_clause written_conds
conds_out = in_both cond_out (in_loop (in_second cond_out))

-- the kinds of one token
in_range : (low high k : ℕ) → low ≤ k → k ≤ high → (has k ((low, high) ∷ []) && true) ≡ true
in_range low high k a b = rw (le-leb low k a, le-leb k high b) refl

from_range : (low high k : ℕ) → (has k ((low, high) ∷ []) && true) ≡ true → (low ≤ k) × (k ≤ high)
from_range low high k h = elim (nat_le low k) as (λ m. nat_le low k ≡ m → (low ≤ k) × (k ≤ high)) [
  | true ↦ λ e. elim (nat_le k high) as (λ n. nat_le k high ≡ n → (low ≤ k) × (k ≤ high)) [
    | true ↦ λ f. (leb-true low k e, leb-true k high f)
    | false ↦ λ f. let no : false ≡ true = sym (ap (λ m. ((m && nat_le k high) || false) && true) e ∙ ap (λ n. ((true && n) || false) && true) f) ∙ h in cc
  ] refl
  | false ↦ λ e. let no : false ≡ true = sym (ap (λ m. ((m && nat_le k high) || false) && true) e) ∙ h in cc
] refl

above : (a b : ℕ) → nat_le a b ≡ false → b < a
above a b h = go (leb_tells a b)
  where
    go : ((nat_le a b ≡ true) × (a ≤ b)) ⊎ ((nat_le a b ≡ false) × (b < a)) → b < a
    go (inl (e, f)) = let no : true ≡ false = sym e ∙ h in cc
    go (inr (e, f)) = f

-- a name is a function's word or another one
abbrev IsCount : ℕ → Type 0
IsCount k = (has k (only kinds.COUNT) && true) ≡ true

abbrev IsFunction : ℕ → Type 0
IsFunction k = (has k (within kinds.COLUMN_FUNCTIONS) && true) ≡ true

abbrev IsPlain : ℕ → Type 0
IsPlain k = (has k (within kinds.NAMES_BELOW_FUNCTIONS ++ within kinds.NAMES_ABOVE_FUNCTIONS) && true) ≡ true

abbrev IsName : ℕ → Type 0
IsName k = (has k (within kinds.NAMES) && true) ≡ true

plain_low : (k : ℕ) → 20 ≤ k → k ≤ 34 → IsPlain k
plain_low k a b = rw (le-leb 20 k a, le-leb k 34 b) refl

plain_high : (k : ℕ) → 43 ≤ k → k ≤ 79 → IsPlain k
plain_high k a b = elim (nat_le 20 k && nat_le k 34) as (λ m. ((m || ((nat_le 43 k && nat_le k 79) || false)) && true) ≡ true) [
  | true ↦ refl
  | false ↦ rw (le-leb 43 k a, le-leb k 79 b) refl
]

split_name : (k : ℕ) → IsName k → IsCount k ⊎ (IsFunction k ⊎ IsPlain k)
split_name k h = go (nat_le k 34) refl (nat_le k 35) refl (nat_le k 42) refl
  where
    bounds : (20 ≤ k) × (k ≤ 79)
    bounds = from_range 20 79 k h

    go : (a : Bool) → nat_le k 34 ≡ a → (b : Bool) → nat_le k 35 ≡ b → (c : Bool) → nat_le k 42 ≡ c → IsCount k ⊎ (IsFunction k ⊎ IsPlain k)
    go true e b f c g = inr (inr (plain_low k bounds.0 (leb-true k 34 e)))
    go false e true f c g = inl (in_range 35 35 k (above k 34 e) (leb-true k 35 f))
    go false e false f true g = inr (inl (in_range 36 42 k (above k 35 f) (leb-true k 42 g)))
    go false e false f false g = inr (inr (plain_high k (above k 42 g) bounds.1))

count_name : (k : ℕ) → IsCount k → IsName k
count_name k h = let b = from_range 35 35 k h in in_range 20 79 k (omega (arith, b.0)) (omega (arith, b.1))

function_name : (k : ℕ) → IsFunction k → IsName k
function_name k h = let b = from_range 36 42 k h in in_range 20 79 k (omega (arith, b.0)) (omega (arith, b.1))

plain_name_name : (k : ℕ) → IsPlain k → IsName k
plain_name_name k h = go (nat_le 20 k && nat_le k 34) refl
  where
    go : (m : Bool) → (nat_le 20 k && nat_le k 34) ≡ m → IsName k
    go true e = let b = from_range 20 34 k (ap (λ n. (n || false) && true) e) in in_range 20 79 k b.0 (omega (arith, b.1))
    go false e = let b = from_range 43 79 k (sym (ap (λ n. (n || ((nat_le 43 k && nat_le k 79) || false)) && true) e) ∙ h) in in_range 20 79 k (omega (arith, b.0)) b.1

abbrev func_named : ℕ → Func
func_named k = if k == 35 then func.Count else func_of k

count_is : (k : ℕ) → IsCount k → k ≡ 35
count_is k h = let b = from_range 35 35 k h in omega (arith, b.0, b.1)

count_func : (k : ℕ) → IsCount k → func.Count ≡ func_named k
count_func k h = ap func_named (sym (count_is k h))

function_func : (k : ℕ) → IsFunction k → func_of k ≡ func_named k
function_func k h = go (k == 35) refl
  where
    go : (m : Bool) → (k == 35) ≡ m → func_of k ≡ func_named k
    go true e = let b = from_range 36 42 k h in absurd (grind (arith, nat_tests, e, b.0))
    go false e = ap (λ m. if m then func.Count else func_of k) (sym e)

split_func : (k : ℕ) → (has k (within kinds.FUNCTIONS) && true) ≡ true → IsCount k ⊎ IsFunction k
split_func k h = go (nat_le k 35) refl
  where
    bounds : (35 ≤ k) × (k ≤ 42)
    bounds = from_range 35 42 k h

    go : (m : Bool) → nat_le k 35 ≡ m → IsCount k ⊎ IsFunction k
    go true e = inl (in_range 35 35 k bounds.0 (leb-true k 35 e))
    go false e = inr (in_range 36 42 k (above k 35 e) bounds.1)

either_func : (k : ℕ) → IsCount k ⊎ IsFunction k → (has k (within kinds.FUNCTIONS) && true) ≡ true
either_func k (inl h) = let b = from_range 35 35 k h in in_range 35 42 k b.0 (omega (arith, b.1))
either_func k (inr h) = let b = from_range 36 42 k h in in_range 35 42 k (omega (arith, b.0)) b.1

-- things of a select list
selected_in : {E : Type 0} → Into (selected {E = E}) written_selected
unfolding selected count_item count_argument function_item named_item written_selected
selected_in {E} = record { into = go }
  where
    of_count : (e : E) (ts : List Lexeme) (a : ItemKind) → Derives e (count_item {E = E}) ts a → Derives e (written_selected {E = E}) ts a
    of_count e ts a (x, y, w, m, parts, (t, is, fit, named), inr (none, given), v) =
        inl (w, (t, parts ∙ ap (λ u. u ++ y) is ∙ ap (λ u. t ∷ u) none, count_name t.kind fit, named), v ∙ ap (count_or_name w) given)
    of_count e ts a (x, y, w, m, parts, d, inl (what, (p, q, u, other, cut, opens, (r, s, last, o, more, inl (star, f, one), closes, three), two), given), v) =
        inr (inr (inr (inr (inl (x, y, w, what, parts, d, (p, q, u, other, cut, opens, (r, s, last, o, more, (star, f, one), closes, three), two), v ∙ ap (count_or_name w) given)))))
    of_count e ts a (x, y, w, m, parts, (t, is, fit, named), inl (what, (p, q, u, other, cut, opens, (r, s, last, o, more, inr (n, f, one), closes, three), two), given), v) =
        inr (inr (inr (inr (inr (x, y, func.Count, n, parts, (t, is, either_func t.kind (inl fit), count_func t.kind fit), (p, q, u, n, cut, opens, (r, s, n, o, more, f, closes, refl), refl), v ∙ ap (count_or_name w) given ∙ two ∙ three ∙ one)))))

    of_function : (e : E) (ts : List Lexeme) (a : ItemKind) → Derives e (function_item {E = E}) ts a → Derives e (written_selected {E = E}) ts a
    of_function e ts a (x, y, f, m, parts, (t, is, fit, named), inr (none, given), v) =
        inl (word_of t.token, (t, parts ∙ ap (λ u. u ++ y) is ∙ ap (λ u. t ∷ u) none, function_name t.kind fit, refl), v ∙ ap (applied f) given ∙ ap (λ (g : Func × List ℕ). item_kind.Col g.1) named)
    of_function e ts a (x, y, f, m, parts, (t, is, fit, named), inl (n, d, given), v) =
        inr (inr (inr (inr (inr (x, y, func_of t.kind, n, parts, (t, is, either_func t.kind (inr fit), function_func t.kind fit), d, v ∙ ap (applied f) given ∙ ap (λ (g : Func × List ℕ). item_kind.Fun g.0 n) named)))))

    of_named : (e : E) (ts : List Lexeme) (a : ItemKind) → Derives e (named_item {E = E}) ts a → Derives e (written_selected {E = E}) ts a
    of_named e ts a (inl d) = inr (inl d)
    of_named e ts a (inr (inl d)) = inr (inr (inl d))
    of_named e ts a (inr (inr (inl d))) = inr (inr (inr (inl d)))
    of_named e ts a (inr (inr (inr (n, (t, is, fit, named), v)))) = inl (n, (t, is, plain_name_name t.kind fit, named), v)

    go : (e : E) (ts : List Lexeme) (a : ItemKind) → Derives e (selected {E = E}) ts a → Derives e (written_selected {E = E}) ts a
    go e ts a (inl d) = of_count e ts a d
    go e ts a (inr (inl d)) = of_function e ts a d
    go e ts a (inr (inr d)) = of_named e ts a d

selected_out : {E : Type 0} → Into (written_selected {E = E}) selected
unfolding selected count_item count_argument function_item named_item written_selected
selected_out {E} = record { into = go }
  where
    of_name : (e : E) (ts : List Lexeme) (a : ItemKind) (n : List ℕ) (t : Lexeme) → ts ≡ t ∷ [] → n ≡ word_of t.token → a ≡ item_kind.Col n → IsCount t.kind ⊎ (IsFunction t.kind ⊎ IsPlain t.kind) → Derives e (selected {E = E}) ts a
    of_name e ts a n t is named v (inl fit) = inl (ts, [], n, None, sym (append-nil ts), (t, is, fit, named), inr (refl, refl), v)
    of_name e ts a n t is named v (inr (inl fit)) = inr (inl (ts, [], (func_of t.kind, word_of t.token), None, sym (append-nil ts), (t, is, fit, refl), inr (refl, refl), v ∙ ap item_kind.Col named))
    of_name e ts a n t is named v (inr (inr fit)) = inr (inr (inr (inr (inr (n, (t, is, fit, named), v)))))

    of_func : (e : E) (ts x y : List Lexeme) (a : ItemKind) (f : Func) (n : List ℕ) (t : Lexeme) → ts ≡ x ++ y → x ≡ t ∷ [] → f ≡ func_named t.kind → Derives e (inside {E = E} name) y n → a ≡ item_kind.Fun f n → IsCount t.kind ⊎ IsFunction t.kind → Derives e (selected {E = E}) ts a
    of_func e ts x y a f n t parts is named (p, q, u, m, cut, opens, (r, s, k, o, more, d, closes, three), two) v (inl fit) =
        inl (x, y, word_of t.token, Some a, parts, (t, is, fit, refl), inl (a, (p, q, u, a, cut, opens, (r, s, a, o, more, inr (n, subst (λ w. Derives e (name {E = E}) r w) (sym (two ∙ three)) d, v ∙ ap (λ g. item_kind.Fun g n) (named ∙ sym (count_func t.kind fit))), closes, refl), refl), refl), refl)
    of_func e ts x y a f n t parts is named d v (inr fit) =
        inr (inl (x, y, (func_of t.kind, word_of t.token), Some n, parts, (t, is, fit, refl), inl (n, d, refl), v ∙ ap (λ g. item_kind.Fun g n) (named ∙ sym (function_func t.kind fit))))

    go : (e : E) (ts : List Lexeme) (a : ItemKind) → Derives e (written_selected {E = E}) ts a → Derives e (selected {E = E}) ts a
    go e ts a (inl (n, (t, is, fit, named), v)) = of_name e ts a n t is named v (split_name t.kind fit)
    go e ts a (inr (inl d)) = inr (inr (inl d))
    go e ts a (inr (inr (inl d))) = inr (inr (inr (inl d)))
    go e ts a (inr (inr (inr (inl d)))) = inr (inr (inr (inr (inl d))))
    go e ts a (inr (inr (inr (inr (inl (x, y, w, what, parts, d, (p, q, u, other, cut, opens, (r, s, last, o, more, star, closes, three), two), v)))))) =
        inl (x, y, w, Some what, parts, d, inl (what, (p, q, u, other, cut, opens, (r, s, last, o, more, inl star, closes, three), two), refl), v)
    go e ts a (inr (inr (inr (inr (inr (x, y, f, n, parts, (t, is, fit, named), d, v)))))) = of_func e ts x y a f n t parts is named d v (split_func t.kind fit)

-- select lists
items_in : {E : Type 0} → Into (items {E = E}) written_items
unfolding items select_items select_item written_items written_item
items_in = in_either (kept _) (in_valued (in_comma_list (in_both selected_in (kept _))))

items_out : {E : Type 0} → Into (written_items {E = E}) items
unfolding items select_items select_item written_items written_item
items_out = in_either (kept _) (in_valued (in_comma_list (in_both selected_out (kept _))))

-- queries
clauses_in : {E : Type 0} → Into (clauses {E = E}) written_clauses
unfolding clauses where_part partition_part part_list written_clauses
clauses_in = in_both (in_maybe (in_second conds_in)) (in_both (in_maybe (in_second (in_second (in_comma_list part_in)))) (kept _))

clauses_out : {E : Type 0} → Into (written_clauses {E = E}) clauses
unfolding clauses where_part partition_part part_list written_clauses
clauses_out = in_both (in_maybe (in_second conds_out)) (in_both (in_maybe (in_second (in_second (in_comma_list part_out)))) (kept _))

pub query_in : {E : Type 0} → Into (query {E = E}) written_query
unfolding query written_query
query_in = in_second (in_both items_in (in_second (in_second clauses_in)))

pub query_out : {E : Type 0} → Into (written_query {E = E}) query
unfolding query written_query
query_out = in_second (in_both items_out (in_second (in_second clauses_out)))
