-- Sums of rows: tally by tally, and row by row.
use Rattle.std.proofs.Common.{◌≡◌, ◌≤◌, ◌<◌, ◌+◌, min, ℕ, zero, suc, List, [], ◌∷◌, ◌++◌, map, take, length, get_or, slice_set, Option, refl, sym, ap, ◌∙◌, arith, add-one}
use Rattle.td_aggr.proofs.Sound.{IsSound-merged, IsSound-empty_tally, IsSound-tally_of_row, rows-tally_of_row, count-tally_of_row}
use Rattle.td_aggr.specs.Laws.{of_joined_rows, of_one_row}
use Rattle.td_aggr.specs.Tallies.{empty_tally, merged, tally_of, tally_of_row}
use Rattle.td_aggr.specs.declared.tally.Tally.{Tally}
use Rattle.std.proofs.lemmas.List.{length-append, map-append}
use Rattle.td_limits.specs.declared.limits.TheConstants.{LAST_TIMESTAMP}
use Rattle.td_query.specs.Cuts.{values}
use Rattle.td_query.specs.Read.{IsGood}
use Rattle.td_query.specs.Sums.{Sum, sum_of, by_each, with_value, with_row, joined, IsCounted, AreCounted}
use Rattle.td_query.proofs.Tallied.{column_value}
use Rattle.td_verdict.specs.Windowed.{Keyed, value_at}

-- ---- the first ones of a list, each with what goes into it
module _ {A B : Type 0} (f : A → B → B) where
  abbrev pub partly : ℕ → List A → List B → List B
  partly zero xs ys = ys
  partly (suc i) xs [] = []
  partly (suc i) [] (y ∷ ys) = y ∷ ys
  partly (suc i) (x ∷ xs) (y ∷ ys) = f x y ∷ partly i xs ys

  pub length-partly : (i : ℕ) (xs : List A) (ys : List B) → length (partly i xs ys) ≡ length ys
  length-partly zero xs ys = refl
  length-partly (suc i) xs [] = refl
  length-partly (suc i) [] (y ∷ ys) = refl
  length-partly (suc i) (x ∷ xs) (y ∷ ys) = let rest = length-partly i xs ys in omega (arith, rest)

  pub get-partly : (i : ℕ) (xs : List A) (ys : List B) (d : B) → i < length xs → i < length ys → get_or (partly i xs ys) i d ≡ get_or ys i d
  get-partly zero xs ys d p q = refl
  get-partly (suc i) xs [] d p q = absurd (omega arith)
  get-partly (suc i) [] (y ∷ ys) d p q = absurd (omega arith)
  get-partly (suc i) (x ∷ xs) (y ∷ ys) d p q = get-partly i xs ys d (omega arith) (omega arith)

  pub set-partly : (i : ℕ) (xs : List A) (ys : List B) (d : A) (e : B) → i < length xs → i < length ys → slice_set (partly i xs ys) i (f (get_or xs i d) (get_or ys i e)) ≡ partly (suc i) xs ys
  set-partly i [] ys d e p q = absurd (omega arith)
  set-partly i (x ∷ xs) [] d e p q = absurd (omega arith)
  set-partly zero (x ∷ xs) (y ∷ ys) d e p q = refl
  set-partly (suc i) (x ∷ xs) (y ∷ ys) d e p q = ap (λ l. f x y ∷ l) (set-partly i xs ys d e (omega arith) (omega arith))

  pub all-partly : (i : ℕ) (xs : List A) (ys : List B) → min (length ys) (length xs) ≤ i → partly i xs ys ≡ by_each f xs ys
  all-partly zero xs [] h = refl
  all-partly zero [] (y ∷ ys) h = refl
  all-partly zero (x ∷ xs) (y ∷ ys) h = absurd (omega arith)
  all-partly (suc i) xs [] h = refl
  all-partly (suc i) [] (y ∷ ys) h = refl
  all-partly (suc i) (x ∷ xs) (y ∷ ys) h = ap (λ l. f x y ∷ l) (all-partly i xs ys (omega arith))

-- ---- the sums of rows
by_each-map : {A B C : Type 0} (f : A → B → B) (g : C → A) (h : C → B) (cs : List C) → by_each f (map g cs) (map h cs) ≡ map (λ c. f (g c) (h c)) cs
by_each-map f g h [] = refl
by_each-map f g h (c ∷ cs) = ap (λ l. f (g c) (h c) ∷ l) (by_each-map f g h cs)

by_each-own : {A B : Type 0} (f : A → B → B) (h : A → B) (cs : List A) → by_each f cs (map h cs) ≡ map (λ c. f c (h c)) cs
by_each-own f h [] = refl
by_each-own f h (c ∷ cs) = ap (λ l. f c (h c) ∷ l) (by_each-own f h cs)

pub same_map : {A B : Type 0} (f g : A → B) (cs : List A) → ((c : A) → f c ≡ g c) → map f cs ≡ map g cs
same_map f g [] e = refl
same_map f g (c ∷ cs) e = ap (λ x. x ∷ map f cs) (e c) ∙ ap (λ l. g c ∷ l) (same_map f g cs e)

abbrev sum_from : ℕ → List Tally → Sum
sum_from n ts = record { rows = n; tallies = ts }

pub same_sum : (m n : ℕ) (ts us : List Tally) → m ≡ n → ts ≡ us → sum_from m ts ≡ sum_from n us
same_sum m n ts us p q = ap (λ k. sum_from k ts) p ∙ ap (sum_from n) q

module _ (places : List (Option ℕ)) where
  abbrev tally : List Keyed → Option ℕ → Tally
  tally rows place = tally_of (values place rows)

  tally-append : (xs ys : List Keyed) (place : Option ℕ) → merged (tally xs place) (tally ys place) ≡ tally (xs ++ ys) place
  tally-append xs ys place =
      sym (of_joined_rows (values place xs) (values place ys))
      ∙ ap tally_of (sym (map-append (λ (e : Keyed). (e.0, value_at place e)) xs ys))

  pub sum-append : (xs ys : List Keyed) → joined (sum_of places xs) (sum_of places ys) ≡ sum_of places (xs ++ ys)
  sum-append xs ys =
      same_sum (length xs + length ys) (length (xs ++ ys)) (by_each merged (map (tally xs) places) (map (tally ys) places)) (map (tally (xs ++ ys)) places)
      (sym (length-append xs ys))
      (by_each-map merged (tally xs) (tally ys) places ∙ same_map (λ place. merged (tally xs place) (tally ys place)) (tally (xs ++ ys)) places (tally-append xs ys))

  tally-row : (xs : List Keyed) (e : Keyed) (place : Option ℕ) → with_value e place (tally xs place) ≡ tally (xs ++ e ∷ []) place
  tally-row xs e place = ap (merged (tally xs place)) (sym (of_one_row (value_at place e) e.0)) ∙ tally-append xs (e ∷ []) place

  pub sum-row : (xs : List Keyed) (e : Keyed) → with_row places (sum_of places xs) e ≡ sum_of places (xs ++ e ∷ [])
  sum-row xs e =
      same_sum (length xs + 1) (length (xs ++ e ∷ [])) (by_each (with_value e) places (map (tally xs) places)) (map (tally (xs ++ e ∷ [])) places)
      (sym (length-append xs (e ∷ [])))
      (by_each-own (with_value e) (tally xs) places ∙ same_map (λ place. with_value e place (tally xs place)) (tally (xs ++ e ∷ [])) places (tally-row xs e))

-- ---- sums that are kept
pub counted_one : (n : ℕ) (ts : List Tally) (i : ℕ) (d : Tally) → AreCounted n ts → i < length ts → IsCounted n (get_or ts i d)
counted_one n [] i d all h = absurd (omega arith)
counted_one n (t ∷ ts) zero d all h = all.0
counted_one n (t ∷ ts) (suc i) d all h = counted_one n ts i d all.1 (omega arith)

pub counted_more : (n m : ℕ) → n ≤ m → (ts : List Tally) → AreCounted n ts → AreCounted m ts
counted_more n m le [] all = tt
counted_more n m le (t ∷ ts) all =
    let rows = all.0.rows in
    let count = all.0.count in
    (record { sound = all.0.sound; rows = omega arith; count = omega arith }, counted_more n m le ts all.1)

counted_both : (m n : ℕ) (a b : Tally) → IsCounted m a → IsCounted n b → IsCounted (m + n) (merged a b)
counted_both m n a b p q =
    let pr = p.rows in let pc = p.count in let qr = q.rows in let qc = q.count in
    record { sound = IsSound-merged a b p.sound q.sound; rows = omega arith; count = omega arith }

counted_row : (e : Keyed) (place : Option ℕ) → IsGood LAST_TIMESTAMP e → IsCounted 1 (tally_of_row (value_at place e) e.0)
counted_row e place good =
    let r = rows-tally_of_row (value_at place e) e.0 in
    record { sound = IsSound-tally_of_row (value_at place e) e.0 (column_value place e good); rows = omega (arith, r); count = count-tally_of_row (value_at place e) e.0 }

pub counted_row_more : (n : ℕ) (e : Keyed) (places : List (Option ℕ)) (ts : List Tally) → IsGood LAST_TIMESTAMP e → AreCounted n ts → AreCounted (n + 1) (by_each (with_value e) places ts)
counted_row_more n e places [] good all = tt
counted_row_more n e [] (t ∷ ts) good all = counted_more n (n + 1) (omega arith) (t ∷ ts) all
counted_row_more n e (p ∷ ps) (t ∷ ts) good all =
    (counted_both n 1 t (tally_of_row (value_at p e) e.0) all.0 (counted_row e p good), counted_row_more n e ps ts good all.1)

pub counted_joined : (m n : ℕ) (fs ts : List Tally) → AreCounted m fs → AreCounted n ts → AreCounted (m + n) (by_each merged fs ts)
counted_joined m n fs [] p q = tt
counted_joined m n [] (t ∷ ts) p q = counted_more n (m + n) (omega arith) (t ∷ ts) q
counted_joined m n (f ∷ fs) (t ∷ ts) p q = (counted_both m n f t p.0 q.0, counted_joined m n fs ts p.1 q.1)

pub counted_none : (places : List (Option ℕ)) → AreCounted 0 (map (λ _. empty_tally) places)
counted_none [] = tt
counted_none (p ∷ ps) = (record { sound = IsSound-empty_tally; rows = omega arith; count = omega arith }, counted_none ps)

none_from : (i : ℕ) (places : List (Option ℕ)) → i < length places → map (λ _. empty_tally) (take i places) ++ empty_tally ∷ [] ≡ map (λ _. empty_tally) (take (suc i) places)
none_from i [] h = absurd (omega arith)
none_from zero (p ∷ ps) h = refl
none_from (suc i) (p ∷ ps) h = ap (λ l. empty_tally ∷ l) (none_from i ps (omega arith))

pub none_more : (i : ℕ) (places : List (Option ℕ)) → i < length places → map (λ _. empty_tally) (take i places) ++ empty_tally ∷ [] ≡ map (λ _. empty_tally) (take (i + 1) places)
none_more i places h = none_from i places h ∙ ap (λ n. map (λ _. empty_tally) (take n places)) (sym (add-one i))
