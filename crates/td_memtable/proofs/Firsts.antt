-- The first table of pairs in the order of their keys.
use Rattle.std.proofs.Common.{◌≡◌, ℕ, ◌==◌, ◌<◌, ◌≤◌, min, nat_le, ◌⊎◌, inl, inr, Bool, true, false, cond, ◌||◌, List, [], ◌∷◌, Option, Some, None, refl, sym, ap, subst, ◌∙◌, arith}
use Rattle.std.specs.Prelude.{MatchOption}
use Rattle.std.specs.List.{AllByRecursion}
use Rattle.std.specs.Ordering.{nat_cmp, ordering_then, is_le}
use Rattle.std.specs.Cmp.{ranked}
use Rattle.std.specs.declared.cmp.Ordering.{Ordering}
use Rattle.std.specs.declared.cmp.Ordering.TheVariants.{Less, Equal, Greater}
use Rattle.std.proofs.lemmas.Bool.{eq-eqb, leb-true, leb-false}
use Rattle.td_layer.specs.declared.values.Key.{Key}
use Rattle.td_layer.specs.Keys.{key_cmp, AllAfter, InKeyOrder}
use Rattle.td_memtree.specs.Keys.{pairs_from}
use Rattle.td_memtree.proofs.UpTo.{order_from}
use Rattle.td_memtable.specs.Contents.{Contents, key_at}
use Rattle.td_memtable.specs.Tables.{has_table, NoneFrom, NoneBetween, FirstOf, earlier, IsFirstTable}

-- ---- keys

table_le : (a b : Key) → is_le (key_cmp a b) ≡ true → a.table ≤ b.table
table_le a b h = by (nat_cmp a.table b.table) refl h
  where
    by : (o : Ordering) → o ≡ nat_cmp a.table b.table → is_le (ordering_then o (nat_cmp a.ts b.ts)) ≡ true → a.table ≤ b.table
    by Less is h = let lt : a.table < b.table = ranked a.table b.table Less is in omega (arith, lt)
    by Equal is h = let eq : a.table ≡ b.table = ranked a.table b.table Equal is in omega (arith, eq)
    by Greater is h = absurd (let clash : false ≡ true = h in cc)

from_zero : (n : ℕ) (o : Ordering) → o ≡ nat_cmp 0 n → is_le o ≡ true
from_zero n Less is = refl
from_zero n Equal is = refl
from_zero n Greater is = let lt : n < 0 = ranked 0 n Greater is in absurd (omega (arith, lt))

-- a key that doesn't come from the first of a table on is of a table before it
before : (from : ℕ) (key : Key) → is_le (key_cmp (key_at from 0) key) ≡ false → key.table < from
before from key h = by (nat_cmp from key.table) refl h
  where
    by : (o : Ordering) → o ≡ nat_cmp from key.table → is_le (ordering_then o (nat_cmp 0 key.ts)) ≡ false → key.table < from
    by Less is h = absurd (let clash : true ≡ false = h in cc)
    by Equal is h = absurd (let clash : true ≡ false = sym (from_zero key.ts (nat_cmp 0 key.ts) refl) ∙ h in cc)
    by Greater is h = ranked from key.table Greater is

less_le : (a b : Key) → key_cmp a b ≡ Less → a.table ≤ b.table
less_le a b less = table_le a b (ap is_le less)

-- ---- tests

or_left : (a b : Bool) → a ≡ true → (a || b) ≡ true
or_left true b is = refl
or_left false b is = absurd (let clash : false ≡ true = is in cc)

or_right : (a b : Bool) → b ≡ true → (a || b) ≡ true
or_right true b is = refl
or_right false b is = is

-- ---- pairs

module _ {T : Type 0} where
  all_before : (from : ℕ) (pairs : List (Key × T)) → pairs_from (key_at from 0) pairs ≡ [] → NoneFrom from pairs
  all_before from [] none = tt
  all_before from (e ∷ es) none = by (is_le (key_cmp (key_at from 0) e.0)) refl (all_before from es) none
    where
      by : (b : Bool) → is_le (key_cmp (key_at from 0) e.0) ≡ b → (pairs_from (key_at from 0) es ≡ [] → NoneFrom from es) → cond b (e ∷ pairs_from (key_at from 0) es) (pairs_from (key_at from 0) es) ≡ [] → NoneFrom from (e ∷ es)
      by true is rest none = absurd (let clash : e ∷ pairs_from (key_at from 0) es ≡ [] = none in cc)
      by false is rest none = (before from e.0 is, rest none)

  from_table : (table : ℕ) (key : Key) (es : List (Key × T)) → key.table ≡ table → AllAfter key_cmp key es → AllByRecursion (λ (e : Key × T). table ≤ e.0.table) es
  from_table table key [] is after = tt
  from_table table key (e ∷ es) is after =
      let le = less_le key e.0 after.0 in
      (omega (arith, le, is), from_table table key es is after.1)

  all_between : (from to : ℕ) (pairs : List (Key × T)) → AllByRecursion (λ (e : Key × T). to ≤ e.0.table) (pairs_from (key_at from 0) pairs) → NoneBetween from to pairs
  all_between from to [] all = tt
  all_between from to (e ∷ es) all = by (is_le (key_cmp (key_at from 0) e.0)) refl (all_between from to es) all
    where
      by : (b : Bool) → is_le (key_cmp (key_at from 0) e.0) ≡ b → (AllByRecursion (λ (p : Key × T). to ≤ p.0.table) (pairs_from (key_at from 0) es) → NoneBetween from to es) → AllByRecursion (λ (p : Key × T). to ≤ p.0.table) (cond b (e ∷ pairs_from (key_at from 0) es) (pairs_from (key_at from 0) es)) → NoneBetween from to (e ∷ es)
      by true is rest all = (inr all.0, rest all.1)
      by false is rest all = (inl (before from e.0 is), rest all)

  some_of : (table from : ℕ) (pairs : List (Key × T)) → has_table table (pairs_from (key_at from 0) pairs) ≡ true → has_table table pairs ≡ true
  some_of table from [] has = has
  some_of table from (e ∷ es) has = by (is_le (key_cmp (key_at from 0) e.0)) (some_of table from es) has
    where
      both : (a b c : Bool) → (b ≡ true → c ≡ true) → (a || b) ≡ true → (a || c) ≡ true
      both true b c f h = refl
      both false b c f h = f h

      by : (b : Bool) → (has_table table (pairs_from (key_at from 0) es) ≡ true → has_table table es ≡ true) → has_table table (cond b (e ∷ pairs_from (key_at from 0) es) (pairs_from (key_at from 0) es)) ≡ true → has_table table (e ∷ es) ≡ true
      by true rest has = both (e.0.table == table) (has_table table (pairs_from (key_at from 0) es)) (has_table table es) rest has
      by false rest has = or_right (e.0.table == table) (has_table table es) (rest has)

  -- a key that comes from the first of a table on is of this table or of one behind it
  first_le : (from : ℕ) (pairs : List (Key × T)) → AllByRecursion (λ (e : Key × T). from ≤ e.0.table) (pairs_from (key_at from 0) pairs)
  first_le from [] = tt
  first_le from (e ∷ es) = by (is_le (key_cmp (key_at from 0) e.0)) refl (first_le from es)
    where
      by : (b : Bool) → is_le (key_cmp (key_at from 0) e.0) ≡ b → AllByRecursion (λ (p : Key × T). from ≤ p.0.table) (pairs_from (key_at from 0) es) → AllByRecursion (λ (p : Key × T). from ≤ p.0.table) (cond b (e ∷ pairs_from (key_at from 0) es) (pairs_from (key_at from 0) es))
      by true is i = (table_le (key_at from 0) e.0 is, i)
      by false is i = i

  pub none_first : (from : ℕ) (pairs rest : List (Key × T)) → rest ≡ pairs_from (key_at from 0) pairs → rest ≡ [] → FirstOf from pairs None
  none_first from pairs rest all none = all_before from pairs (sym all ∙ none)

  pub some_first : (from : ℕ) (pairs rest es : List (Key × T)) (e : Key × T) → rest ≡ pairs_from (key_at from 0) pairs → rest ≡ e ∷ es → InKeyOrder pairs → FirstOf from pairs (Some e.0.table)
  some_first from pairs rest es e all first order =
      let is : pairs_from (key_at from 0) pairs ≡ e ∷ es = sym all ∙ first in
      let sorted : InKeyOrder (e ∷ es) = subst (λ (l : List (Key × T)). InKeyOrder l) is (order_from (key_at from 0) pairs order) in
      let least : AllByRecursion (λ (p : Key × T). from ≤ p.0.table) (e ∷ es) = subst (λ (l : List (Key × T)). AllByRecursion (λ (p : Key × T). from ≤ p.0.table) l) is (first_le from pairs) in
      let behind : AllByRecursion (λ (p : Key × T). e.0.table ≤ p.0.table) (e ∷ es) = (omega arith, from_table e.0.table e.0 es refl sorted.0) in
      let own : has_table e.0.table (e ∷ es) ≡ true = ap (λ (b : Bool). b || has_table e.0.table es) (eq-eqb e.0.table e.0.table refl) in (
        least.0,
        (
          some_of e.0.table from pairs (ap (has_table e.0.table) is ∙ own),
          all_between from e.0.table pairs (subst (λ (l : List (Key × T)). AllByRecursion (λ (p : Key × T). e.0.table ≤ p.0.table) l) (sym is) behind),
        ),
      )

-- ---- the earlier of two

module _ {T : Type 0} where
  pub weaker : (from to : ℕ) (pairs : List (Key × T)) → NoneFrom from pairs → NoneBetween from to pairs
  weaker from to [] all = tt
  weaker from to (e ∷ es) all = (inl all.0, weaker from to es all.1)

  pub narrower : (from to less : ℕ) (pairs : List (Key × T)) → less ≤ to → NoneBetween from to pairs → NoneBetween from less pairs
  narrower from to less [] le all = tt
  narrower from to less (e ∷ es) le all = (one all.0, narrower from to less es le all.1)
    where
      one : (e.0.table < from) ⊎ (to ≤ e.0.table) → (e.0.table < from) ⊎ (less ≤ e.0.table)
      one (inl lt) = inl lt
      one (inr ge) = inr (omega (arith, ge, le))

both : (from : ℕ) (m : Contents) (one other : Option ℕ) → FirstOf from m.puts one → FirstOf from m.cuts other → MatchOption (earlier one other) (NoneFrom from m.puts × NoneFrom from m.cuts) (IsFirstTable from m)
both from m None None a b = (a, b)
both from m None (Some t) a b = record {
  from_is = b.0;
  some = or_right (has_table t m.puts) (has_table t m.cuts) b.1.0;
  no_put = weaker from t m.puts a;
  no_cut = b.1.1;
}
both from m (Some t) None a b = record {
  from_is = a.0;
  some = or_left (has_table t m.puts) (has_table t m.cuts) a.1.0;
  no_put = a.1.1;
  no_cut = weaker from t m.cuts b;
}
both from m (Some s) (Some t) a b = by (nat_le s t) refl
  where
    by : (q : Bool) → nat_le s t ≡ q → IsFirstTable from m (min s t)
    by true is =
        let le = leb-true s t is in
        let same : s ≡ min s t = omega (arith, le) in
        subst (λ (n : ℕ). IsFirstTable from m n) same (record {
          from_is = a.0;
          some = or_left (has_table s m.puts) (has_table s m.cuts) a.1.0;
          no_put = a.1.1;
          no_cut = narrower from t s m.cuts le b.1.1;
        })
    by false is =
        let lt = leb-false s t is in
        let same : t ≡ min s t = omega (arith, lt) in
        subst (λ (n : ℕ). IsFirstTable from m n) same (record {
          from_is = b.0;
          some = or_right (has_table t m.puts) (has_table t m.cuts) b.1.0;
          no_put = narrower from s t m.puts (omega (arith, lt)) a.1.1;
          no_cut = b.1.1;
        })

pub first_of_both : (from : ℕ) (seen m : Contents) (one other result : Option ℕ) → seen ≡ m → FirstOf from seen.puts one → FirstOf from seen.cuts other → result ≡ earlier one other → MatchOption result (NoneFrom from m.puts × NoneFrom from m.cuts) (IsFirstTable from m)
first_of_both from seen m one other result same a b is =
    subst (λ (o : Option ℕ). MatchOption o (NoneFrom from m.puts × NoneFrom from m.cuts) (IsFirstTable from m)) (sym is)
    (subst (λ (k : Contents). MatchOption (earlier one other) (NoneFrom from k.puts × NoneFrom from k.cuts) (IsFirstTable from k)) same (both from seen one other a b))
