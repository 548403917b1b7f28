-- Why the order in which rows are listed doesn't matter, and what is first and last in a list that stands in row order.
use Rattle.std.proofs.Common.{◌≡◌, ℕ, zero, suc, ◌<◌, ℤ, pos, Bool, true, false, cond, List, [], ◌∷◌, ◌++◌, length, Some, refl, sym, ap, ◌∙◌, arith, subst, ◌≢◌, ◌⊎◌, inl, inr, get_or, set}
use Rattle.std.specs.List.{AllByRecursion, swap}
use Rattle.std.specs.List.Sorted.{IsPermutation}
use Rattle.std.proofs.lemmas.List.Sorted.{IsPermutation-keeps}
use Rattle.std.proofs.lemmas.Int.{ints, clamps}
use Rattle.std.proofs.lemmas.Bool.Decides.{nat_tests}
use Rattle.td_layer.specs.declared.values.Key.{Key}
use Rattle.td_layer.specs.declared.values.Value.{Value}
use Rattle.td_layer.specs.declared.values.Value.TheVariants as value
use Rattle.td_layer.specs.declared.values.Func.{Func}
use Rattle.td_layer.specs.declared.values.Func.TheVariants.{First, Last}
use Rattle.td_aggr.specs.Aggregates.{is_before, HaveOwnKeys, IsInRowOrder, not_null, earliest, latest, aggregate_of_noted, aggregate}
use Rattle.td_aggr.specs.declared.tally.Tally.{Tally}
use Rattle.td_aggr.specs.Tallies.{Mark, key_of, lesser, greater, tally_of_row, tally_of, merged, shown}
use Rattle.td_aggr.specs.Laws.{associative, shows_aggregates, lesser-null, same_tally, greater-null}
use Rattle.td_layer.specs.declared.values.Cell.TheVariants as cell

-- A relation holds along each permutation if it is reflexive and transitive, and goes under a head and over an exchange of two heads.
module _ {X : Type 0} (R : List X → List X → Type 0) (same : (xs : List X) → R xs xs)
    (skip : (x : X) (xs ys : List X) → R xs ys → R (x ∷ xs) (x ∷ ys))
    (turn : (x y : X) (xs : List X) → R (x ∷ y ∷ xs) (y ∷ x ∷ xs))
    (chain : (xs ys zs : List X) → R xs ys → R ys zs → R xs zs) where
  to_head : (l : List X) (j : ℕ) (x d : X) → j < length l → R (x ∷ l) (get_or l j d ∷ set l j x)
  to_head [] j x d h = absurd (omega arith)
  to_head (y ∷ l) zero x d h = turn x y l
  to_head (y ∷ l) (suc j) x d h =
      chain _ _ _ (turn x y l) (chain _ _ _ (skip y _ _ (to_head l j x d (omega arith))) (turn y (get_or l j d) (set l j x)))

  exchanged : (l : List X) (i j : ℕ) (d : X) → i < length l → j < length l → R l (set (set l i (get_or l j d)) j (get_or l i d))
  exchanged [] i j d p q = absurd (omega arith)
  exchanged (x ∷ l) zero zero d p q = same (x ∷ l)
  exchanged (x ∷ l) zero (suc j) d p q = to_head l j x d (omega arith)
  exchanged (x ∷ l) (suc i) zero d p q = to_head l i x d (omega arith)
  exchanged (x ∷ l) (suc i) (suc j) d p q = skip x _ _ (exchanged l i j d (omega arith) (omega arith))

  swapped : (l : List X) (i j : ℕ) → i < length l → j < length l → R l (swap l i j)
  swapped [] i j p q = same []
  swapped (x ∷ l) i j p q = exchanged (x ∷ l) i j x p q

  along_permutation : (xs ys : List X) → IsPermutation xs ys → R xs ys
  along_permutation xs = IsPermutation-keeps xs (R xs) (same xs) (λ l i j p q h. chain xs l _ h (swapped l i j p q))

same_key : (a b : Key) → a.ts ≡ b.ts → a.table ≡ b.table → a ≡ b
same_key a b p q =
    let e : key_of (a.ts, a.table, pos 0) ≡ key_of (b.ts, b.table, pos 0) = cc in e

-- two rows of different keys, in either order
before_or_after : (a b : Key) → a ≢ b → ((is_before a b ≡ true) × (is_before b a ≡ false)) ⊎ ((is_before a b ≡ false) × (is_before b a ≡ true))
before_or_after a b ne = grind (arith, nat_tests, λ (p : a.ts ≡ b.ts) (q : a.table ≡ b.table). ne (same_key a b p q))

lesser-comm : (a b : Value) → lesser a b ≡ lesser b a
lesser-comm value.Null b = sym (lesser-null b)
lesser-comm (value.Num m) value.Null = refl
lesser-comm (value.Num m) (value.Num n) = ap value.Num (omega (arith, ints, clamps))

greater-comm : (a b : Value) → greater a b ≡ greater b a
greater-comm value.Null b = sym (greater-null b)
greater-comm (value.Num m) value.Null = refl
greater-comm (value.Num m) (value.Num n) = ap value.Num (omega (arith, ints, clamps))

-- where one of two stands before the other, it is chosen whichever is asked first
picked : (t u : Bool) (p q : Mark) → ((t ≡ true) × (u ≡ false)) ⊎ ((t ≡ false) × (u ≡ true)) → cond u q p ≡ cond t p q
picked t u p q (inl h) = rw (h.0, h.1)
picked t u p q (inr h) = rw (h.0, h.1)

pub rows_turned : (r s : Key × Value) → s.0 ≢ r.0 → merged (tally_of_row r.1 r.0) (tally_of_row s.1 s.0) ≡ merged (tally_of_row s.1 s.0) (tally_of_row r.1 r.0)
rows_turned (a, value.Null) (b, value.Null) ne = refl
rows_turned (a, value.Null) (b, value.Num n) ne = same_tally (merged (tally_of_row value.Null a) (tally_of_row (value.Num n) b)) (merged (tally_of_row (value.Num n) b) (tally_of_row value.Null a)) refl refl (omega (arith, ints)) refl refl refl refl
rows_turned (a, value.Num m) (b, value.Null) ne = same_tally (merged (tally_of_row (value.Num m) a) (tally_of_row value.Null b)) (merged (tally_of_row value.Null b) (tally_of_row (value.Num m) a)) refl refl (omega (arith, ints)) refl refl refl refl
rows_turned (a, value.Num m) (b, value.Num n) ne =
    same_tally (merged (tally_of_row (value.Num m) a) (tally_of_row (value.Num n) b)) (merged (tally_of_row (value.Num n) b) (tally_of_row (value.Num m) a)) refl refl (omega (arith, ints))
    (lesser-comm (value.Num m) (value.Num n))
    (greater-comm (value.Num m) (value.Num n))
    (ap Some (picked (is_before a b) (is_before b a) (a.ts, a.table, m) (b.ts, b.table, n) (before_or_after a b (λ e. ne (sym e)))))
    (ap Some (sym (picked (is_before b a) (is_before a b) (a.ts, a.table, m) (b.ts, b.table, n) (before_or_after b a ne))))

-- what stays the same where rows are listed in another order
record SameTally (xs ys : List (Key × Value)) : Type 0 where
  own : HaveOwnKeys xs → HaveOwnKeys ys
  absent : (k : Key) → AllByRecursion (λ s. s.0 ≢ k) xs → AllByRecursion (λ s. s.0 ≢ k) ys
  tally : HaveOwnKeys xs → tally_of xs ≡ tally_of ys

pub same_in_any_order : (xs ys : List (Key × Value)) → HaveOwnKeys xs → IsPermutation xs ys → tally_of xs ≡ tally_of ys
same_in_any_order xs ys h p = (along_permutation SameTally same skip turn chain xs ys p).tally h
  where
    same : (xs : List (Key × Value)) → SameTally xs xs
    same xs = record { own = λ h. h; absent = λ k h. h; tally = λ h. refl }

    skip : (x : Key × Value) (xs ys : List (Key × Value)) → SameTally xs ys → SameTally (x ∷ xs) (x ∷ ys)
    skip x xs ys s = record {
      own = λ h. (s.absent x.0 h.0, s.own h.1);
      absent = λ k h. (h.0, s.absent k h.1);
      tally = λ h. ap (merged (tally_of_row x.1 x.0)) (s.tally h.1);
    }

    turn : (x y : Key × Value) (xs : List (Key × Value)) → SameTally (x ∷ y ∷ xs) (y ∷ x ∷ xs)
    turn x y xs = record {
      own = λ h. ((λ e. h.0.0 (sym e), h.1.0), (h.0.1, h.1.1));
      absent = λ k h. (h.1.0, (h.0, h.1.1));
      tally = λ h. sym (associative (tally_of_row x.1 x.0) (tally_of_row y.1 y.0) (tally_of xs)) ∙ ap (λ (t : Tally). merged t (tally_of xs)) (rows_turned x y h.0.0) ∙ associative (tally_of_row y.1 y.0) (tally_of_row x.1 x.0) (tally_of xs);
    }

    chain : (xs ys zs : List (Key × Value)) → SameTally xs ys → SameTally ys zs → SameTally xs zs
    chain xs ys zs s t = record {
      own = λ h. t.own (s.own h);
      absent = λ k h. t.absent k (s.absent k h);
      tally = λ h. s.tally h ∙ t.tally (s.own h);
    }

pub aggregate-permutation : (f : Func) (xs ys : List (Key × Value)) → HaveOwnKeys xs → IsPermutation xs ys → aggregate f ys ≡ aggregate f xs
aggregate-permutation f xs ys h p = sym (shows_aggregates f ys) ∙ ap (λ (t : Tally). shown t f) (sym (same_in_any_order xs ys h p)) ∙ shows_aggregates f xs

-- ---- rows in row order
before-one_way : (a b : Key) → is_before a b ≡ true → is_before b a ≡ false
before-one_way a b h = grind (arith, nat_tests)

pub HaveOwnKeys-in_row_order : {A : Type 0} (rows : List (Key × A)) → IsInRowOrder rows → HaveOwnKeys rows
HaveOwnKeys-in_row_order [] h = tt
HaveOwnKeys-in_row_order {A} (r ∷ rows) h = (go rows h.0, HaveOwnKeys-in_row_order rows h.1)
  where
    apart : (s : Key × A) → is_before r.0 s.0 ≡ true → s.0 ≢ r.0
    apart s b e = let both : is_before s.0 r.0 ≡ false = before-one_way r.0 s.0 b in let kept : is_before s.0 r.0 ≡ is_before r.0 s.0 = ap (λ (k : Key). is_before k r.0) e ∙ sym (ap (λ (k : Key). is_before r.0 k) e) in cc

    go : (ss : List (Key × A)) → AllByRecursion (λ s. is_before r.0 s.0 ≡ true) ss → AllByRecursion (λ s. s.0 ≢ r.0) ss
    go [] b = tt
    go (s ∷ ss) b = (apart s b.0, go ss b.1)

after_row : (k : Key) (rows : List (Key × Value)) → AllByRecursion (λ s. is_before k s.0 ≡ true) rows → AllByRecursion (λ s. is_before k s.0 ≡ true) (not_null rows)
after_row k [] h = tt
after_row k ((at, value.Null) ∷ rows) h = after_row k rows h.1
after_row k ((at, value.Num n) ∷ rows) h = (h.0, after_row k rows h.1)

IsInRowOrder-not_null : (rows : List (Key × Value)) → IsInRowOrder rows → IsInRowOrder (not_null rows)
IsInRowOrder-not_null [] h = tt
IsInRowOrder-not_null ((at, value.Null) ∷ rows) h = IsInRowOrder-not_null rows h.1
IsInRowOrder-not_null ((at, value.Num n) ∷ rows) h = (after_row at rows h.0, IsInRowOrder-not_null rows h.1)

earliest-in_row_order : (p : Key × ℤ) (ps : List (Key × ℤ)) → IsInRowOrder (p ∷ ps) → earliest p ps ≡ p
earliest-in_row_order p [] h = refl
earliest-in_row_order p (q ∷ ps) h =
    let e = earliest-in_row_order q ps h.1 in
    let b : is_before q.0 p.0 ≡ false = before-one_way p.0 q.0 h.0.0 in
    rw (e, b)

latest-in_row_order : (q : Key × ℤ) (ps : List (Key × ℤ)) (p : Key × ℤ) → IsInRowOrder (q ∷ (ps ++ p ∷ [])) → latest q (ps ++ p ∷ []) ≡ p
latest-in_row_order q [] p h = let b : is_before p.0 q.0 ≡ false = before-one_way q.0 p.0 h.0.0 in rw b
latest-in_row_order q (r ∷ ps) p h =
    let e = latest-in_row_order r ps p h.1 in
    let b : is_before p.0 q.0 ≡ false = before-one_way q.0 p.0 (at_end (r ∷ ps) h.0) in
    rw (e, b)
  where
    at_end : (rest : List (Key × ℤ)) → AllByRecursion (λ s. is_before q.0 s.0 ≡ true) (rest ++ p ∷ []) → is_before q.0 p.0 ≡ true
    at_end [] a = a.0
    at_end (s ∷ rest) a = at_end rest a.1

first_of_noted : (all : List (Key × ℤ)) (p : Key × ℤ) (ps : List (Key × ℤ)) → all ≡ p ∷ ps → IsInRowOrder all → aggregate_of_noted First all ≡ cell.Num p.1
first_of_noted all p ps e h = rw e (ap (λ (x : Key × ℤ). cell.Num x.1) (earliest-in_row_order p ps (subst (IsInRowOrder {A = ℤ}) e h)))

last_of_noted : (ps : List (Key × ℤ)) (p : Key × ℤ) → IsInRowOrder (ps ++ p ∷ []) → aggregate_of_noted Last (ps ++ p ∷ []) ≡ cell.Num p.1
last_of_noted [] p h = refl
last_of_noted (q ∷ ps) p h = ap (λ (x : Key × ℤ). cell.Num x.1) (latest-in_row_order q ps p h)

pub first-in_row_order : (rows : List (Key × Value)) (p : Key × ℤ) (ps : List (Key × ℤ)) → IsInRowOrder rows → not_null rows ≡ p ∷ ps → aggregate First rows ≡ cell.Num p.1
first-in_row_order rows p ps h e = first_of_noted (not_null rows) p ps e (IsInRowOrder-not_null rows h)

pub last-in_row_order : (rows : List (Key × Value)) (ps : List (Key × ℤ)) (p : Key × ℤ) → IsInRowOrder rows → not_null rows ≡ ps ++ p ∷ [] → aggregate Last rows ≡ cell.Num p.1
last-in_row_order rows ps p h e = rw e (last_of_noted ps p (subst (IsInRowOrder {A = ℤ}) e (IsInRowOrder-not_null rows h)))
