-- The slots of a subtable are put among those of others, each once.
use Rattle.std.proofs.Common.{◌≡◌, ℕ, ◌+◌, ◌<◌, ◌≤◌, Bool, true, false, not, ◌||◌, cond, List, [], ◌∷◌, map, filter, sum_by, ◌==◌, Option, Some, None, refl, sym, ap, ◌∙◌, arith, inl, inr}
use Rattle.std.specs.List.{list_any}
use Rattle.std.specs.Ordering.{nat_cmp, is_eq, ordering_then, match_ordering}
use Rattle.std.specs.declared.cmp.Ordering.{Ordering}
use Rattle.std.specs.declared.cmp.Ordering.TheVariants.{Less, Equal, Greater}
use Rattle.std.specs.Map.{lookup}
use Rattle.std.specs.BTreeMap.{is_at}
use Rattle.std.specs.BTreeSet.{insert_key}
use Rattle.std.proofs.lemmas.Bool.{cases_order}
use Rattle.std.proofs.lemmas.Bool.Decides.{nat_tests}
use Rattle.std.proofs.lemmas.Cmp.{tied_itself}
use Rattle.std.proofs.lemmas.List.Sums.{sum_by-cons}
use Rattle.td_layer.specs.declared.values.Cell.{Cell}
use Rattle.td_tagidx.specs.declared.index.Subtable.{Subtable}
use Rattle.td_tagidx.specs.declared.order.Slot.{Slot}
use Rattle.td_tagidx.specs.declared.order.Mark.TheVariants as mark
use Rattle.td_tagidx.specs.Subtables.{subtable_of}
use Rattle.td_tagidx.specs.Indexed.{IsAbsent}
use Rattle.td_tagidx.specs.Order.{cell_side, table_of, group_order, cell_order, slot_cmp, slots_total}
use Rattle.td_tagidx.specs.Slots.{slots_from, slots_of, of_others}
use Rattle.td_tagidx.specs.Inside.{IsFiled}
use Rattle.td_tagidx.proofs.Bags.{sum-filter}

-- ---- a key that isn't there is put once
module _ (k : Slot) where
  -- how often an element is the key
  abbrev pub hits : Slot → ℕ
  hits s = cond (is_eq (slot_cmp k s)) 1 0

  not_hit : (b : Bool) (n : ℕ) → cond b 1 0 + n ≡ 0 → (b ≡ false) × (n ≡ 0)
  not_hit true n h = absurd (omega arith)
  not_hit false n h = (refl, omega arith)

  pub none_hit : (ks : List Slot) → sum_by hits ks ≡ 0 → list_any (is_at (slot_cmp k)) ks ≡ false
  none_hit [] h = refl
  none_hit (s ∷ ks) h =
      let parts = not_hit (is_eq (slot_cmp k s)) (sum_by hits ks) (sym (sum_by-cons hits s ks) ∙ h) in
      (λ j. parts.0 j || none_hit ks parts.1 j)

  sum_at : (f : Slot → ℕ) (s : Slot) (ks put : List Slot) (o : Ordering) → (is_eq o || list_any (is_at (slot_cmp k)) ks) ≡ false → (list_any (is_at (slot_cmp k)) ks ≡ false → sum_by f put ≡ f k + sum_by f ks) → sum_by f (match_ordering o (k ∷ s ∷ ks) (s ∷ ks) (s ∷ put)) ≡ f k + sum_by f (s ∷ ks)
  sum_at f s ks put Less h r = sum_by-cons f k (s ∷ ks)
  sum_at f s ks put Equal h r = absurd (cc)
  sum_at f s ks put Greater h r =
      let rest = r h in
      let all = sum_by-cons f s put in
      let old = sum_by-cons f s ks in
      omega arith

  pub sum_insert : (f : Slot → ℕ) (ks : List Slot) → list_any (is_at (slot_cmp k)) ks ≡ false → sum_by f (insert_key slot_cmp ks k) ≡ f k + sum_by f ks
  sum_insert f [] h = sum_by-cons f k []
  sum_insert f (s ∷ ks) h = sum_at f s ks (insert_key slot_cmp ks k) (slot_cmp k s) h (sum_insert f ks)

  -- and leaves those that a filter drops it from
  module _ (p : Slot → Bool) (out : p k ≡ false) where
    kept_at : (s : Slot) (ks put : List Slot) (o : Ordering) → filter p put ≡ filter p ks → filter p (match_ordering o (k ∷ s ∷ ks) (s ∷ ks) (s ∷ put)) ≡ filter p (s ∷ ks)
    kept_at s ks put Less r = ap (λ b. cond b (k ∷ filter p (s ∷ ks)) (filter p (s ∷ ks))) out
    kept_at s ks put Equal r = refl
    kept_at s ks put Greater r = ap (λ q. cond (p s) (s ∷ q) q) r

    pub kept_insert : (ks : List Slot) → filter p (insert_key slot_cmp ks k) ≡ filter p ks
    kept_insert [] = ap (λ b. cond b (k ∷ []) []) out
    kept_insert (s ∷ ks) = kept_at s ks (insert_key slot_cmp ks k) (slot_cmp k s) (kept_insert ks)

-- ---- slots of different places, or of different subtables, are different
first_equal : (o p : Ordering) → is_eq o ≡ false → is_eq (ordering_then o p) ≡ false
first_equal Less p h = refl
first_equal Equal p h = absurd (cc)
first_equal Greater p h = refl

last_equal : (o p : Ordering) → is_eq p ≡ false → is_eq (ordering_then o p) ≡ false
last_equal Less p h = refl
last_equal Equal p h = h
last_equal Greater p h = refl

numbers_apart : (x y : ℕ) → (x == y) ≡ false → is_eq (nat_cmp y x) ≡ false
numbers_apart x y h = grind (arith, nat_tests)

places_apart : (k s : Slot) → (s.place == k.place) ≡ false → is_eq (slot_cmp k s) ≡ false
unfolding slot_cmp
places_apart k s h = first_equal _ _ (first_equal _ _ (numbers_apart s.place k.place h))

tables_apart : (k s : Slot) → (table_of s.mark == table_of k.mark) ≡ false → is_eq (slot_cmp k s) ≡ false
unfolding slot_cmp
tables_apart k s h =
    let tables : Ordering = nat_cmp (table_of k.mark) (table_of s.mark) in
    let sides : Ordering = nat_cmp (cell_side k.mark) (cell_side s.mark) in
    let cells : Ordering = cell_order k.cell s.cell in
    last_equal (group_order k s) (ordering_then cells (ordering_then sides tables)) (last_equal cells (ordering_then sides tables) (last_equal sides tables (numbers_apart (table_of s.mark) (table_of k.mark) h)))

-- ---- none of others is a slot of a subtable
weighs_none : {X : Type 0} (g : X → ℕ) → ((x : X) → g x ≡ 0) → (xs : List X) → sum_by g xs ≡ 0
weighs_none g h [] = refl
weighs_none g h (x ∷ xs) =
    let first = h x in
    let rest = weighs_none g h xs in
    let all = sum_by-cons g x xs in
    omega arith

other_hit : (k s : Slot) (b : Bool) → b ≡ (table_of s.mark == table_of k.mark) → cond (not b) (hits k s) 0 ≡ 0
other_hit k s true h = refl
other_hit k s false h = ap (λ e. cond e 1 0) (tables_apart k s (sym h))

others_hit : (k : Slot) (ks : List Slot) → of_others (table_of k.mark) ks ≡ ks → sum_by (hits k) ks ≡ 0
others_hit k ks h =
    ap (λ xs. sum_by (hits k) xs) (sym h)
    ∙ sum-filter (hits k) (λ s. not (table_of s.mark == table_of k.mark)) ks
    ∙ weighs_none (λ s. cond (not (table_of s.mark == table_of k.mark)) (hits k s) 0) (λ s. other_hit k s (table_of s.mark == table_of k.mark) refl) ks

-- ---- a slot of a subtable stands once among its slots
at_most_one : (b : Bool) → cond b 1 0 ≤ 1
at_most_one true = omega arith
at_most_one false = omega arith

module _ (table : ℕ) (k : Slot) where
  beyond : (place : ℕ) (cells : List Cell) → k.place < place → sum_by (hits k) (slots_from table place cells) ≡ 0
  beyond place [] h = refl
  beyond place (a ∷ cells) h =
      let s : Slot = record { place = place; cell = a; mark = mark.Table table } in
      let apart : (place == k.place) ≡ false = grind (arith, nat_tests) in
      let first : hits k s ≡ 0 = ap (λ e. cond e 1 0) (places_apart k s apart) in
      let rest = beyond (place + 1) cells (omega arith) in
      let all = sum_by-cons (hits k) s (slots_from table (place + 1) cells) in
      omega arith

  once : (place : ℕ) (cells : List Cell) → sum_by (hits k) (slots_from table place cells) ≤ 1
  once place [] = omega arith
  once place (a ∷ cells) =
      let s : Slot = record { place = place; cell = a; mark = mark.Table table } in
      let all = sum_by-cons (hits k) s (slots_from table (place + 1) cells) in
      elim (cases_order k.place place) [
        | inl e ↦
            let rest = beyond (place + 1) cells (omega arith) in
            let one = at_most_one (is_eq (slot_cmp k s)) in
            omega arith
        | inr r ↦ elim r [
          | inl lt ↦
              let none = beyond place (a ∷ cells) lt in
              omega arith
          | inr gt ↦
              let apart : (place == k.place) ≡ false = grind (arith, nat_tests) in
              let first : hits k s ≡ 0 = ap (λ e. cond e 1 0) (places_apart k s apart) in
              let rest = once (place + 1) cells in
              omega arith
        ]
      ]

-- while the slots of a subtable are put one by one, the next isn't there
pub next_absent : (table place : ℕ) (a : Cell) (cells rest : List Cell) (begun now : List Slot) → of_others table begun ≡ begun
    → ((f : Slot → ℕ) → sum_by f now + sum_by f (slots_from table place (a ∷ rest)) ≡ sum_by f (slots_from table 0 cells) + sum_by f begun)
    → list_any (is_at (slot_cmp (record { place = place; cell = a; mark = mark.Table table }))) now ≡ false
next_absent table place a cells rest begun now others same =
    let k : Slot = record { place = place; cell = a; mark = mark.Table table } in
    let both = same (hits k) in
    let none = others_hit k begun others in
    let most = once table k 0 cells in
    let one : hits k k ≡ 1 = ap (λ o. cond (is_eq o) 1 0) (tied_itself slots_total k) in
    let first = sum_by-cons (hits k) k (slots_from table (place + 1) rest) in
    none_hit k now (omega arith)

pub put_next : (table place : ℕ) (a : Cell) (cells rest : List Cell) (begun now : List Slot) → of_others table begun ≡ begun
    → ((f : Slot → ℕ) → sum_by f now + sum_by f (slots_from table place (a ∷ rest)) ≡ sum_by f (slots_from table 0 cells) + sum_by f begun)
    → (f : Slot → ℕ) → sum_by f (insert_key slot_cmp now (record { place = place; cell = a; mark = mark.Table table })) + sum_by f (slots_from table (place + 1) rest) ≡ sum_by f (slots_from table 0 cells) + sum_by f begun
put_next table place a cells rest begun now others same f =
    let k : Slot = record { place = place; cell = a; mark = mark.Table table } in
    let put = sum_insert k f now (next_absent table place a cells rest begun now others same) in
    let first = sum_by-cons f k (slots_from table (place + 1) rest) in
    let both = same f in
    omega arith

of_itself : (table : ℕ) → not (table == table) ≡ false
of_itself table = grind (arith, nat_tests)

pub others_next : (table place : ℕ) (a : Cell) (ks : List Slot) → of_others table (insert_key slot_cmp ks (record { place = place; cell = a; mark = mark.Table table })) ≡ of_others table ks
others_next table place a ks = kept_insert (record { place = place; cell = a; mark = mark.Table table }) (λ s. not (table_of s.mark == table)) (of_itself table) ks

-- ---- the slots of filed subtables are of others than one that isn't among them
fails_test : {V : Type 0} (b : Bool) (v : V) (r : Option V) → cond b (Some v) r ≡ None → (b ≡ false) × (r ≡ None)
fails_test true v r h = absurd (cc)
fails_test false v r h = (refl, h)

told_apart : (x y : ℕ) → is_eq (nat_cmp x y) ≡ false → (y == x) ≡ false
told_apart x y h = grind (arith, nat_tests)

module _ (table : ℕ) where
  -- how often a slot is the subtable's
  abbrev own : Slot → ℕ
  own s = cond (table_of s.mark == table) 1 0

  of_other : (t place : ℕ) (cells : List Cell) → (t == table) ≡ false → sum_by own (slots_from t place cells) ≡ 0
  of_other t place [] h = refl
  of_other t place (a ∷ cells) h =
      let s : Slot = record { place = place; cell = a; mark = mark.Table t } in
      let first : own s ≡ 0 = ap (λ b. cond b 1 0) h in
      let rest = of_other t (place + 1) cells h in
      let all = sum_by-cons own s (slots_from t (place + 1) cells) in
      omega arith

  of_filed : (subtables : List Subtable) → IsAbsent table (map subtable_of subtables) → sum_by (λ s. sum_by own (slots_of s)) subtables ≡ 0
  of_filed [] h = refl
  of_filed (s ∷ subtables) h =
      let parts = fails_test (is_eq (nat_cmp table s.table)) s.tags (lookup (is_at (nat_cmp table)) (map subtable_of subtables)) h in
      let first = of_other s.table 0 s.tags (told_apart table s.table parts.0) in
      let rest = of_filed subtables parts.1 in
      let all = sum_by-cons (λ (e : Subtable). sum_by own (slots_of e)) s subtables in
      omega arith

  none_own : (b : Bool) (n : ℕ) → cond b 1 0 + n ≡ 0 → (b ≡ false) × (n ≡ 0)
  none_own true n h = absurd (omega arith)
  none_own false n h = (refl, omega arith)

  stay : (slots : List Slot) → sum_by own slots ≡ 0 → of_others table slots ≡ slots
  stay [] h = refl
  stay (s ∷ slots) h =
      let parts = none_own (table_of s.mark == table) (sum_by own slots) (sym (sum_by-cons own s slots) ∙ h) in
      λ j. cond (not (parts.0 j)) (s ∷ stay slots parts.1 j) (stay slots parts.1 j)

  pub others_filed : (subtables : List Subtable) (slots : List Slot) → IsFiled subtables slots → IsAbsent table (map subtable_of subtables) → of_others table slots ≡ slots
  others_filed subtables slots filed h = stay slots (filed.same own ∙ of_filed subtables h)
