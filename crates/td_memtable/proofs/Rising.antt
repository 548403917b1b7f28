-- The ranges of a table's cuts are in the order of their first timestamps.
use Rattle.std.proofs.Common.{◌≡◌, ℕ, ◌+◌, ◌-◌, ◌^◌, ◌<◌, ◌≤◌, max, Bool, true, false, cond, ◌&&◌, List, [], ◌∷◌, ◌++◌, map, filter, refl, sym, ap, ◌∙◌, subst, arith}
use Rattle.std.specs.List.{AllByRecursion}
use Rattle.std.specs.Ordering.{nat_cmp, ordering_then, is_le}
use Rattle.std.specs.Cmp.{ranked, nat_cmp_is}
use Rattle.std.specs.declared.cmp.Ordering.{Ordering}
use Rattle.std.specs.declared.cmp.Ordering.TheVariants.{Less, Equal, Greater}
use Rattle.td_layer.specs.declared.values.Key.{Key}
use Rattle.td_layer.specs.Keys.{key_cmp, AllAfter, InKeyOrder}
use Rattle.td_memtree.specs.Within.{is_within, pairs_within}
use Rattle.td_memtable.specs.Contents.{key_at, ranges_of}
use Rattle.td_memtable.specs.Joined.{IsJoinOf}
use Rattle.td_memtable.proofs.Joining.{RiseFrom, Joins, joined, joins_first, joins_in, joins_out, all_joined, all_in_joined}

-- the first and the last key of a table
abbrev pub first_of : ℕ → Key
first_of table = key_at table 0

abbrev pub last_of : ℕ → Key
last_of table = key_at table (2 ^ 64 - 1)

abbrev pub ranges_at : List (Key × ℕ) → List (ℕ × ℕ)
ranges_at cuts = map (λ (c : Key × ℕ). (c.0.ts, c.1)) cuts

later : (a b : Key) → a.table ≡ b.table → key_cmp a b ≡ Less → a.ts ≤ b.ts
later a b t less =
    let same : Equal ≡ nat_cmp a.table b.table = nat_cmp_is a.table b.table Equal t in
    let ts : nat_cmp a.ts b.ts ≡ Less = subst (λ (o : Ordering). ordering_then o (nat_cmp a.ts b.ts) ≡ Less) (sym same) less in
    let lt : a.ts < b.ts = ranked a.ts b.ts Less (sym ts) in
    omega (arith, lt)

table_le : (a b : Key) → is_le (key_cmp a b) ≡ true → a.table ≤ b.table
table_le a b h = by (nat_cmp a.table b.table) refl h
  where
    by : (o : Ordering) → o ≡ nat_cmp a.table b.table → is_le (ordering_then o (nat_cmp a.ts b.ts)) ≡ true → a.table ≤ b.table
    by Less is h = let lt : a.table < b.table = ranked a.table b.table Less is in omega (arith, lt)
    by Equal is h = let eq : a.table ≡ b.table = ranked a.table b.table Equal is in omega (arith, eq)
    by Greater is h = grind (arith, h)

and_left : (a b : Bool) → (a && b) ≡ true → a ≡ true
and_left true b h = refl
and_left false b h = h

and_right : (a b : Bool) → (a && b) ≡ true → b ≡ true
and_right true b h = h
and_right false b h = grind (arith, h)

table_is : (table : ℕ) (key : Key) → is_within (first_of table) (last_of table) key ≡ true → key.table ≡ table
table_is table key h =
    let from = table_le (first_of table) key (and_left (is_le (key_cmp (first_of table) key)) (is_le (key_cmp key (last_of table))) h) in
    let to = table_le key (last_of table) (and_right (is_le (key_cmp (first_of table) key)) (is_le (key_cmp key (last_of table))) h) in
    omega (arith, from, to)

-- a cut of the table, whose first timestamp is at most its last
abbrev pub IsCutOf : ℕ → Key × ℕ → Type 0
IsCutOf table e = (is_within (first_of table) (last_of table) e.0 ≡ true) × (e.0.ts ≤ e.1)

rise_after : (table : ℕ) (from : Key) (cuts : List (Key × ℕ)) → from.table ≡ table → AllByRecursion (IsCutOf table) cuts → AllAfter key_cmp from cuts → InKeyOrder cuts → RiseFrom from.ts (ranges_at cuts)
rise_after table from [] t all after order = tt
rise_after table from (e ∷ cuts) t all after order =
    let of_table = table_is table e.0 all.0.0 in
    (later from e.0 (t ∙ sym of_table) after.0, (all.0.1, rise_after table e.0 cuts of_table all.1 order.0 order.1))

rise_all : (table : ℕ) (cuts : List (Key × ℕ)) → AllByRecursion (IsCutOf table) cuts → InKeyOrder cuts → RiseFrom 0 (ranges_at cuts)
rise_all table [] all order = tt
rise_all table (e ∷ cuts) all order = (omega arith, (all.0.1, rise_after table e.0 cuts (table_is table e.0 all.0.0) all.1 order.0 order.1))

module _ {X : Type 0} (P : X → Type 0) (p : X → Bool) where
  all-where : (l : List X) → AllByRecursion P l → AllByRecursion (λ x. (p x ≡ true) × P x) (filter p l)
  all-where [] a = tt
  all-where (x ∷ l) a = by (p x) refl (all-where l a.1)
    where
      by : (b : Bool) → p x ≡ b → AllByRecursion (λ x. (p x ≡ true) × P x) (filter p l) → AllByRecursion (λ x. (p x ≡ true) × P x) (cond b (x ∷ filter p l) (filter p l))
      by true is i = ((is, a.0), i)
      by false is i = i

pub cuts_rise : (table : ℕ) (cuts within : List (Key × ℕ)) → AllByRecursion (λ (e : Key × ℕ). e.0.ts ≤ e.1) cuts → within ≡ pairs_within (first_of table) (last_of table) cuts → InKeyOrder within → RiseFrom 0 (ranges_at within)
cuts_rise table cuts within ends is order =
    let all = all-where (λ (e : Key × ℕ). e.0.ts ≤ e.1) (λ (e : Key × ℕ). is_within (first_of table) (last_of table) e.0) cuts ends in
    rise_all table within (subst (λ (w : List (Key × ℕ)). AllByRecursion (IsCutOf table) w) (sym is) all) order

-- ---- the cuts of a table, joined one after another

-- the cuts of a table among all cuts, in order
pub record TableCuts (table : ℕ) (cuts within : List (Key × ℕ)) : Type 0 where
  pub is : ranges_at within ≡ ranges_of table cuts
  pub rise : RiseFrom 0 (ranges_at within)

pub table_cuts_are : (table : ℕ) (cuts told within : List (Key × ℕ)) → AllByRecursion (λ (e : Key × ℕ). e.0.ts ≤ e.1) cuts → cuts ≡ told → within ≡ pairs_within (first_of table) (last_of table) cuts → InKeyOrder within → TableCuts table told within
table_cuts_are table cuts told within ends same is order = record {
  is = ap ranges_at (is ∙ ap (pairs_within (first_of table) (last_of table)) same);
  rise = cuts_rise table cuts within ends is order;
}

pub join_begins : (table : ℕ) (cuts within rest : List (Key × ℕ)) (done : List (ℕ × ℕ)) (from : Key) (end : ℕ) → TableCuts table cuts within → within ≡ (from, end) ∷ rest → done ≡ [] → Joins done from.ts end (ranges_at rest) (ranges_of table cuts)
join_begins table cuts within rest done from end t first none =
    let split : ranges_at within ≡ (from.ts, end) ∷ ranges_at rest = ap ranges_at first in
    let begun : Joins [] from.ts end (ranges_at rest) ((from.ts, end) ∷ ranges_at rest) = joins_first (from.ts, end) (ranges_at rest) (subst (RiseFrom 0) split t.rise) in
    rw none (subst (λ all. Joins [] from.ts end (ranges_at rest) all) (sym split ∙ t.is) begun)

pub join_in : (done all : List (ℕ × ℕ)) (lo hi new : ℕ) (rest after : List (Key × ℕ)) (from : Key) (end : ℕ) → Joins done lo hi (ranges_at rest) all → rest ≡ (from, end) ∷ after → from.ts ≤ hi + 1 → new ≡ max hi end → Joins done lo new (ranges_at after) all
join_in done all lo hi new rest after from end j first le is =
    rw is (joins_in done lo hi (from.ts, end) (ranges_at after) all (subst (λ l. Joins done lo hi l all) (ap ranges_at first) j) le)

pub join_out : (done all new : List (ℕ × ℕ)) (lo hi : ℕ) (rest after : List (Key × ℕ)) (from : Key) (end : ℕ) → Joins done lo hi (ranges_at rest) all → rest ≡ (from, end) ∷ after → hi + 1 < from.ts → new ≡ done ++ (lo, hi) ∷ [] → Joins new from.ts end (ranges_at after) all
join_out done all new lo hi rest after from end j first past is =
    rw is (joins_out done lo hi (from.ts, end) (ranges_at after) all (subst (λ l. Joins done lo hi l all) (ap ranges_at first) j) past)

-- what is joined of the ranges of a table's cuts is their join
is_join : (table : ℕ) (cuts within : List (Key × ℕ)) (ranges : List (ℕ × ℕ)) → TableCuts table cuts within → ranges ≡ joined (ranges_of table cuts) → IsJoinOf ranges (ranges_of table cuts)
is_join table cuts within ranges t is =
    let rise : RiseFrom 0 (ranges_of table cuts) = subst (RiseFrom 0) t.is t.rise in
    rw is (record { joined = all_joined (ranges_of table cuts) rise; same = λ ts. all_in_joined ts (ranges_of table cuts) rise })

pub join_ends : (table : ℕ) (cuts within rest : List (Key × ℕ)) (done ranges : List (ℕ × ℕ)) (lo hi : ℕ) → TableCuts table cuts within → Joins done lo hi (ranges_at rest) (ranges_of table cuts) → rest ≡ [] → ranges ≡ done ++ (lo, hi) ∷ [] → IsJoinOf ranges (ranges_of table cuts)
join_ends table cuts within rest done ranges lo hi t j none is =
    let last : Joins done lo hi [] (ranges_of table cuts) = subst (λ l. Joins done lo hi l (ranges_of table cuts)) (ap ranges_at none) j in
    is_join table cuts within ranges t (is ∙ last.whole)

pub join_of_none : (table : ℕ) (cuts within : List (Key × ℕ)) (ranges : List (ℕ × ℕ)) → TableCuts table cuts within → within ≡ [] → ranges ≡ [] → IsJoinOf ranges (ranges_of table cuts)
join_of_none table cuts within ranges t none is =
    is_join table cuts within ranges t (is ∙ ap joined (sym (ap ranges_at none) ∙ t.is))
