-- The kinds of the columns of tables, by number.
use Rattle.std.proofs.Common.{◌≡◌, ℕ, zero, suc, ◌+◌, ◌<◌, ◌≤◌, List, [], ◌∷◌, ◌++◌, map, take, get_or, length, Some, refl, sym, ap, ◌∙◌, arith}
use Rattle.std.specs.Prelude.{slice_get}
use Rattle.std.specs.List.{AllByRecursion}
use Rattle.std.specs.List.Sorted.{IsStrictlySortedBy}
use Rattle.std.specs.BTreeMap.{insert_entry}
use Rattle.std.specs.Ordering.{nat_cmp}
use Rattle.std.specs.declared.cmp.Ordering.TheVariants.{Less, Greater}
use Rattle.std.proofs.lemmas.Bool.Decides.{nat_tests}
use Rattle.std.proofs.lemmas.List.{length-map}
use Rattle.std.proofs.lemmas.Option.{same_Some, slice_get-get_or}
use Rattle.td_cols.specs.declared.kinds.Kind.{Kind}
use Rattle.td_model.specs.declared.catalog.TableDef.{TableDef}
use Rattle.td_model.specs.Catalog.{Catalog}
use Rattle.td_verdict.specs.Plans.{Numbered, all_tables, numbered}
use Rattle.td_state.specs.Kinds.{all_kinds, table_kinds, with_kinds}
use Rattle.td_state.proofs.ToHead.{take_there, take_whole}

-- ---- of each table

number_at : {X : Type 0} (f : ℕ → X) (n : ℕ) (ts : List TableDef) (i : ℕ) → i < length ts → slice_get (map (λ (e : Numbered). f e.0) (numbered n ts)) i ≡ Some (f (n + i))
number_at f n [] i h = absurd (omega arith)
number_at f n (t ∷ ts) zero h =
    let same : n ≡ n + 0 = omega arith in
    ap (λ m. Some (f m)) same
number_at f n (t ∷ ts) (suc i) h =
    let same : (n + 1) + i ≡ n + suc i = omega arith in
    number_at f (n + 1) ts i (omega arith) ∙ ap (λ m. Some (f m)) same

length_numbered : (n : ℕ) (ts : List TableDef) → length (numbered n ts) ≡ length ts
length_numbered n [] = refl
length_numbered n (t ∷ ts) = ap suc (length_numbered (n + 1) ts)

pub kinds_more : (c : Catalog) (i n : ℕ) (own : List Kind) (old new : List (List Kind)) → i < n → n ≡ length c.tables → own ≡ table_kinds c (i + 1) → old ≡ take i (all_kinds c) → new ≡ old ++ own ∷ [] → new ≡ take (i + 1) (all_kinds c)
kinds_more c i n own old new h count is kept put =
    let turned : 1 + i ≡ i + 1 = omega arith in
    let at : slice_get (all_kinds c) i ≡ Some own = number_at (table_kinds c) 1 c.tables i (omega arith) ∙ ap (λ m. Some (table_kinds c m)) turned ∙ ap Some (sym is) in
    put ∙ ap (λ l. l ++ own ∷ []) kept ∙ sym (take_there (all_kinds c) i own at)

pub kinds_done : (c : Catalog) (i n : ℕ) (all : List (List Kind)) → n ≤ i → n ≡ length c.tables → all ≡ take i (all_kinds c) → all ≡ all_kinds c
kinds_done c i n all h count is =
    is ∙ take_whole (all_kinds c) i (omega (arith, count, h, length-map (all_tables c) (λ (e : Numbered). table_kinds c e.0), length_numbered 1 c.tables))

-- ---- of tables whose numbers rise

above : (a b : ℕ) → nat_cmp a b ≡ Less → nat_cmp b a ≡ Greater
above a b h = grind (arith, nat_tests)

less_at : (x : ℕ) (ts : List ℕ) (i t : ℕ) → AllByRecursion (λ m. nat_cmp x m ≡ Less) ts → slice_get ts i ≡ Some t → nat_cmp x t ≡ Less
less_at x [] i t h at = absurd cc
less_at x (y ∷ ts) zero t h at = ap (nat_cmp x) (sym (same_Some y t at)) ∙ h.0
less_at x (y ∷ ts) (suc i) t h at = less_at x ts i t h.1 at

put_last : {X : Type 0} (f : ℕ → X) (ts : List ℕ) (i t : ℕ) → IsStrictlySortedBy nat_cmp ts → slice_get ts i ≡ Some t → insert_entry nat_cmp (map (λ k. (k, f k)) (take i ts)) t (f t) ≡ map (λ k. (k, f k)) (take i ts ++ t ∷ [])
unfolding IsStrictlySortedBy
put_last f [] i t h at = absurd cc
put_last f (x ∷ ts) zero t h at = refl
put_last f (x ∷ ts) (suc i) t h at =
    let after : nat_cmp t x ≡ Greater = above x t (less_at x ts i t h.0 at) in
    rw after (ap (λ es. (x, f x) ∷ es) (put_last f ts i t h.1 at))

pub put_more : (c : Catalog) (ts : List ℕ) (i t : ℕ) (own : List Kind) (old new : List (ℕ × List Kind)) → IsStrictlySortedBy nat_cmp ts → i < length ts → t ≡ get_or ts i 0 → own ≡ table_kinds c t → old ≡ with_kinds c (take i ts) → new ≡ insert_entry nat_cmp old t own → new ≡ with_kinds c (take (i + 1) ts)
put_more c ts i t own old new sorted h e is kept put =
    let at : slice_get ts i ≡ Some t = slice_get-get_or ts i 0 h ∙ ap Some (sym e) in
    put ∙ (λ j. insert_entry nat_cmp (kept j) t (is j)) ∙ put_last (table_kinds c) ts i t sorted at
    ∙ ap (λ l. with_kinds c l) (sym (take_there ts i t at))
