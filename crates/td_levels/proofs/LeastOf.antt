-- The least day range of several tables, and of file sets.
use Rattle.std.proofs.Common.{◌≡◌, ◌⊎◌, inl, inr, ℕ, ◌+◌, ◌^◌, ◌<◌, ◌≤◌, min, Bool, true, false, List, [], ◌∷◌, ◌++◌, take, take-suc, add-one, length, get_or, Option, Some, None, All, refl, sym, ap, subst, ◌∙◌, arith}
use Rattle.std.specs.Prelude.{◌&&◌, ◌||◌, ◌==◌, nat_lt, nat_le}
use Rattle.std.specs.List.{list_any}
use Rattle.std.proofs.lemmas.Bool.{eqb-true, eq-eqb, ne_eqb}
use Rattle.std.proofs.lemmas.Bool.Decides.{nat_tests}
use Rattle.std.proofs.lemmas.List.{map-append}
use Rattle.std.proofs.lemmas.List.Elements.{All-head, All-tail}
use Rattle.td_layer.specs.declared.values.Key.{Key}
use Rattle.td_layer.specs.declared.parts.Partial.{Partial}
use Rattle.td_memtable.specs.Contents.{Contents}
use Rattle.td_memtable.specs.Tables.{NoneFrom, NoneBetween}
use Rattle.td_fileset.specs.declared.file_set.FileSet.{FileSet}
use Rattle.td_fileio.specs.Days.{is_in_day}
use Rattle.td_levels.specs.Levels.{SetFiles}
use Rattle.td_levels.specs.Ranges.{has_files, meets_cut}
use Rattle.td_levels.specs.Sets.{set_of, sets_of}
use Rattle.td_levels.specs.Days.{LeastFrom, IsTimely, is_cut_set, has_cut_files, earlier}
use Rattle.td_levels.proofs.Least.{of_day}

-- ---- the least of which one of two tests is true

or_left : (a b : Bool) → a ≡ true → (a || b) ≡ true
or_left a b h = rw h refl

or_right : (a b : Bool) → b ≡ true → (a || b) ≡ true
or_right true b h = refl
or_right false b h = h

or_none : (a b : Bool) → a ≡ false → b ≡ false → (a || b) ≡ false
or_none a b g h = rw (g, h) refl

module _ (p q r : ℕ → Bool) (is : (n : ℕ) → r n ≡ (p n || q n)) (from : ℕ) where
  pub least_or : (a b : Option ℕ) → LeastFrom p from a → LeastFrom q from b → LeastFrom r from (earlier a b)
  least_or None None f g = λ n le. is n ∙ or_none (p n) (q n) (f n le) (g n le)
  least_or (Some a) None f g = (f.0, is a ∙ or_left (p a) (q a) f.1, λ n le lt. is n ∙ or_none (p n) (q n) (f.2 n le lt) (g n le))
  least_or None (Some b) f g = (g.0, is b ∙ or_right (p b) (q b) g.1, λ n le lt. is n ∙ or_none (p n) (q n) (f n le) (g.2 n le lt))
  least_or (Some a) (Some b) f g = (omega (arith, f.0, g.0), here (nat_le a b) refl, λ n le lt. is n ∙ or_none (p n) (q n) (f.2 n le (omega (arith, lt))) (g.2 n le (omega (arith, lt))))
    where
      here : (c : Bool) → nat_le a b ≡ c → r (min a b) ≡ true
      here true h = let m : min a b ≡ a = grind (arith, nat_tests, h) in subst (λ (n : ℕ). r n ≡ true) (sym m) (is a ∙ or_left (p a) (q a) f.1)
      here false h = let m : min a b ≡ b = grind (arith, nat_tests, h) in subst (λ (n : ℕ). r n ≡ true) (sym m) (is b ∙ or_right (p b) (q b) g.1)

pub least_as : (p q : ℕ → Bool) (from : ℕ) (o : Option ℕ) → ((n : ℕ) → q n ≡ p n) → LeastFrom p from o → LeastFrom q from o
least_as p q from None is l = λ n le. is n ∙ l n le
least_as p q from (Some a) is l = (l.0, is a ∙ l.1, λ n le lt. is n ∙ l.2 n le lt)

-- ---- tables

-- a put of a table below a number, in a day range
abbrev pub below : ℕ → ℕ → Key × Partial → Bool
below table n e = nat_lt e.0.table table && is_in_day n e.0.ts

abbrev in_day : ℕ → Key × Partial → Bool
in_day n e = is_in_day n e.0.ts

swap_or : (a b c d : Bool) → ((a || b) || (c || d)) ≡ ((a || c) || (b || d))
swap_or true b c d = refl
swap_or false true true d = refl
swap_or false true false d = refl
swap_or false false c d = refl

pub below_none : (n : ℕ) (puts : List (Key × Partial)) → list_any (below 0 n) puts ≡ false
below_none n [] = refl
below_none n (e ∷ es) = let out : nat_lt e.0.table 0 ≡ false = grind (arith, nat_tests) in rw out (below_none n es)

one_more : (t next n : ℕ) (e : Key × Partial) → t ≤ next → (e.0.table < t) ⊎ (next ≤ e.0.table) → below (next + 1) n e ≡ (below t n e || of_day next 0 n e)
one_more t next n e le (inl lt) = grind (arith, nat_tests, lt, le)
one_more t next n e le (inr ge) = grind (arith, nat_tests, ge, le)

pub below_next : (t next n : ℕ) (puts : List (Key × Partial)) → t ≤ next → NoneBetween t next puts → list_any (below (next + 1) n) puts ≡ (list_any (below t n) puts || list_any (of_day next 0 n) puts)
below_next t next n [] le none = refl
below_next t next n (e ∷ es) le none =
    rw (one_more t next n e le none.0, below_next t next n es le none.1)
    (swap_or (below t n e) (of_day next 0 n e) (list_any (below t n) es) (list_any (of_day next 0 n) es))

pub below_rest : (t n : ℕ) (puts : List (Key × Partial)) → NoneFrom t puts → list_any (in_day n) puts ≡ list_any (below t n) puts
below_rest t n [] none = refl
below_rest t n (e ∷ es) none = let lt : nat_lt e.0.table t ≡ true = grind (arith, nat_tests, none.0) in rw (lt, below_rest t n es none.1) refl

pub below_all : (n : ℕ) (puts : List (Key × Partial)) → All IsTimely puts → list_any (in_day n) puts ≡ list_any (below (2 ^ 32) n) puts
below_all n [] all = refl
below_all n (e ∷ es) all =
    let t = All-head IsTimely e es all in
    let lt : nat_lt e.0.table (2 ^ 32) ≡ true = grind (arith, nat_tests, t.1) in
    rw (lt, below_all n es (All-tail IsTimely e es all)) refl

-- ---- file sets

any_append : {X : Type 0} (q : X → Bool) (xs ys : List X) → list_any q (xs ++ ys) ≡ (list_any q xs || list_any q ys)
any_append q [] ys = refl
any_append q (x ∷ xs) ys = rw (any_append q xs ys) (or_assoc (q x) (list_any q xs) (list_any q ys))
  where
    or_assoc : (a b c : Bool) → (a || (b || c)) ≡ ((a || b) || c)
    or_assoc true b c = refl
    or_assoc false b c = refl

module _ (m : Contents) (sets : List FileSet) (i : ℕ) (s : FileSet) (l : i < length sets) (is : s ≡ get_or sets i s) where
  one_set : (n : ℕ) → has_files n (sets_of (take (i + 1) sets)) ≡ (has_files n (sets_of (take i sets)) || (s.range == n))
  one_set n = rw add-one (
      ap (λ (ss : List FileSet). has_files n (sets_of ss)) (take-suc sets i s l ∙ ap (λ (x : FileSet). take i sets ++ x ∷ []) (sym is))
      ∙ ap (list_any (λ (x : SetFiles). x.range == n)) (map-append set_of (take i sets) (s ∷ []))
      ∙ any_append (λ (x : SetFiles). x.range == n) (sets_of (take i sets)) (set_of s ∷ [])
      ∙ ap (λ b. has_files n (sets_of (take i sets)) || b) (or_false (s.range == n)))
    where
      or_false : (b : Bool) → (b || false) ≡ b
      or_false true = refl
      or_false false = refl

  pub cut_more : (n : ℕ) → has_cut_files m (sets_of (take (i + 1) sets)) n ≡ (has_cut_files m (sets_of (take i sets)) n || is_cut_set m s.range n)
  cut_more n = rw (one_set n) (dist (has_files n (sets_of (take i sets))) (s.range == n) (meets_cut n m))
    where
      dist : (a b c : Bool) → ((a || b) && c) ≡ ((a && c) || (b && c))
      dist true b true = refl
      dist true true false = refl
      dist true false false = refl
      dist false b c = refl

pub cut_here : (m : Contents) (range from : ℕ) → from ≤ range → meets_cut range m ≡ true → LeastFrom (is_cut_set m range) from (Some range)
cut_here m range from le meets = (le, rw (eq-eqb range range refl, meets) refl, λ n f lt. rw (ne_eqb range n (λ e. omega (arith, e, lt))) refl)

pub cut_not : (m : Contents) (range from : ℕ) → (from ≤ range → meets_cut range m ≡ false) → LeastFrom (is_cut_set m range) from None
cut_not m range from out n le = by (range == n) refl
  where
    by : (b : Bool) → (range == n) ≡ b → (b && meets_cut n m) ≡ false
    by false e = refl
    by true e = let same = eqb-true range n e in subst (λ (r : ℕ). meets_cut r m ≡ false) same (out (omega (arith, same, le)))
