-- Subtables lie by number, and stay so as one is put in its place.
use Rattle.std.proofs.Common.{◌≡◌, ℕ, zero, suc, ◌+◌, ◌-◌, ◌<◌, ◌≤◌, Bool, true, false, cond, List, [], ◌∷◌, map, length, get_or, ltb, Option, Some, None, refl, sym, ap, ◌∙◌, arith, inl, inr, is_lt}
use Rattle.std.specs.Ordering.{nat_cmp, is_eq, match_ordering}
use Rattle.std.specs.List.{insert}
use Rattle.std.specs.List.Sorted.{IsSortedBy}
use Rattle.std.specs.Map.{lookup}
use Rattle.std.specs.BTreeMap.{insert_entry, is_at}
use Rattle.std.specs.declared.cmp.Ordering.TheVariants.{Less, Greater}
use Rattle.std.proofs.lemmas.Bool.{cases_order}
use Rattle.std.proofs.lemmas.Bool.Decides.{nat_tests}
use Rattle.td_tagidx.specs.declared.index.Subtable.{Subtable}
use Rattle.td_tagidx.specs.Subtables.{subtable_of}

-- k + 1 is below i, or is i, or k is i, or k is above i
pub data Where (k i : ℕ) : Type 0 where
  below : k + 1 < i → Where k i
  before : k + 1 ≡ i → Where k i
  here : k ≡ i → Where k i
  above : i < k → Where k i

pub where_of : (k i : ℕ) → Where k i
where_of k i =
    elim (cases_order k i) [
      | inl e ↦ here e
      | inr r ↦ elim r [
        | inl lt ↦ elim (cases_order (k + 1) i) [ inl e ↦ before e | inr q ↦ elim q [ inl w ↦ below w | inr w ↦ absurd (omega arith) ] ]
        | inr w ↦ above w
      ]
    ]

-- a list in order stays so, as an element is put behind those that it isn't less than and before those that aren't less than it
module _ {X : Type 0} (lt : X → X → Bool) (xs ys : List X) (i : ℕ) (x : X) (sorted : IsSortedBy lt xs) (within : i ≤ length xs) (long : length ys ≡ length xs + 1)
    (front : (k : ℕ) (d : X) → k < i → lt x (get_or xs k d) ≡ false) (back : (k : ℕ) (d : X) → i ≤ k → k < length xs → lt (get_or xs k d) x ≡ false)
    (at : (d : X) → get_or ys i d ≡ x) (under : (k : ℕ) (d : X) → k < i → get_or ys k d ≡ get_or xs k d) (over : (k : ℕ) (d : X) → i < k → get_or ys k d ≡ get_or xs (k - 1) d) where
  by : (k : ℕ) (d : X) → k + 1 < length ys → Where k i → lt (get_or ys (k + 1) d) (get_or ys k d) ≡ false
  by k d h (below w) = (λ j. lt (under (k + 1) d w j) (under k d (omega arith) j)) ∙ sorted k d (omega arith) (omega arith)
  by k d h (before w) = (λ j. lt ((ap (λ n. get_or ys n d) w ∙ at d) j) (under k d (omega arith) j)) ∙ front k d (omega arith)
  by k d h (here w) =
      let same : (k + 1) - 1 ≡ k = omega arith in
      let up : get_or ys (k + 1) d ≡ get_or xs k d = over (k + 1) d (omega arith) ∙ ap (λ n. get_or xs n d) same in
      (λ j. lt (up j) ((ap (λ n. get_or ys n d) w ∙ at d) j)) ∙ back k d (omega arith) (omega arith)
  by k d h (above w) =
      let same_up : (k + 1) - 1 ≡ k = omega arith in
      let up : get_or ys (k + 1) d ≡ get_or xs k d = over (k + 1) d (omega arith) ∙ ap (λ n. get_or xs n d) same_up in
      let down : get_or ys k d ≡ get_or xs (k - 1) d = over k d w in
      let step : lt (get_or xs ((k - 1) + 1) d) (get_or xs (k - 1) d) ≡ false = sorted (k - 1) d (omega arith) (omega arith) in
      let same : k ≡ (k - 1) + 1 = omega arith in
      (λ j. lt (up j) (down j)) ∙ ap (λ n. lt (get_or xs n d) (get_or xs (k - 1) d)) same ∙ step

  pub sorted-inserted : IsSortedBy lt ys
  sorted-inserted = λ k d z h. by k d h (where_of k i)

pub cmp_above : (a b : ℕ) → ltb a b ≡ true → nat_cmp b a ≡ Greater
cmp_above a b h = grind (arith, nat_tests)

pub not_less : (a b : ℕ) → ltb a b ≡ false → is_lt (nat_cmp a b) ≡ false
not_less a b h = grind (arith, nat_tests)

cmp_less : (a b : ℕ) → ltb b a ≡ false → is_eq (nat_cmp a b) ≡ false → nat_cmp a b ≡ Less
cmp_less a b h e = grind (arith, nat_tests)

fails_test : {V : Type 0} (b : Bool) (v : V) (r : Option V) → cond b (Some v) r ≡ None → b ≡ false
fails_test true v r h = absurd (cc)
fails_test false v r h = refl

-- a subtable that is put before those of larger numbers stands where a map keeps its entry
pub inserted-entry : (xs : List Subtable) (i : ℕ) (s : Subtable) → i ≤ length xs → ((k : ℕ) (d : Subtable) → k < i → ltb (get_or xs k d).table s.table ≡ true) → ((k : ℕ) (d : Subtable) → i ≤ k → k < length xs → ltb (get_or xs k d).table s.table ≡ false) → lookup (is_at (nat_cmp s.table)) (map subtable_of xs) ≡ None → map subtable_of (insert xs i s) ≡ insert_entry nat_cmp (map subtable_of xs) s.table s.tags
inserted-entry [] zero s within front back absent = refl
inserted-entry [] (suc i) s within front back absent = absurd (omega arith)
inserted-entry (e ∷ es) zero s within front back absent =
    let rest = map subtable_of es in
    let less : nat_cmp s.table e.table ≡ Less = cmp_less s.table e.table (back 0 e (omega arith) (omega arith)) (fails_test (is_at (nat_cmp s.table) e.table) e.tags (lookup (is_at (nat_cmp s.table)) rest) absent) in
    sym (ap (λ o. match_ordering o ((s.table, s.tags) ∷ subtable_of e ∷ rest) ((e.table, s.tags) ∷ rest) (subtable_of e ∷ insert_entry nat_cmp rest s.table s.tags)) less)
inserted-entry (e ∷ es) (suc i) s within front back absent =
    let rest = map subtable_of es in
    let greater : nat_cmp s.table e.table ≡ Greater = cmp_above e.table s.table (front 0 e (omega arith)) in
    let absent_rest : lookup (is_at (nat_cmp s.table)) rest ≡ None = sym (ap (λ o. cond (is_eq o) (Some e.tags) (lookup (is_at (nat_cmp s.table)) rest)) greater) ∙ absent in
    let tail = inserted-entry es i s (omega arith) (λ k d h. front (suc k) d (omega arith)) (λ k d low h. back (suc k) d (omega arith) (omega arith)) absent_rest in
    ap (λ r. subtable_of e ∷ r) tail
    ∙ sym (ap (λ o. match_ordering o ((s.table, s.tags) ∷ subtable_of e ∷ rest) ((e.table, s.tags) ∷ rest) (subtable_of e ∷ insert_entry nat_cmp rest s.table s.tags)) greater)
