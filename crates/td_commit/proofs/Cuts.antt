-- The cuts of the tables of a day range stand in order.
use Rattle.std.proofs.Common.{◌≡◌, ℕ, ◌+◌, ◌^◌, ◌<◌, ◌≤◌, ◌==◌, max, min, nat_le, Bool, true, false, ◌&&◌, if◌then◌else◌, List, [], ◌∷◌, ◌++◌, map, Option, Some, None, ◌⊎◌, inl, inr, refl, sym, ap, subst, arith}
use Rattle.std.specs.Prelude.{nat_lt}
use Rattle.std.specs.List.{AllByRecursion, cons_option}
use Rattle.std.proofs.lemmas.Bool.{ne_eqb, leb-true, le-leb, lt-ltb}
use Rattle.td_memtable.specs.Joined.{EndsBefore, AreJoined}
use Rattle.td_fileio.specs.declared.lists.TableRows.{TableRows}
use Rattle.td_fileio.specs.Days.{day_start, day_end, is_in_day}
use Rattle.td_sttfile.specs.declared.format.FileCut.{FileCut}
use Rattle.td_sttfile.specs.Cuts.{follows, begins_apart, cut_behind}
use Rattle.td_sttfile.specs.Written.{all_cuts, cuts_fit}
use Rattle.td_commit.specs.declared.frozen.Frozen.{Frozen}
use Rattle.td_commit.specs.Clipped.{clipped, AreTablesFrom}

-- ---- clipped ranges

all_less : (n m : ℕ) (ranges : List (ℕ × ℕ)) → m ≤ n → AllByRecursion (λ (r : ℕ × ℕ). n < r.0) ranges → AllByRecursion (λ (r : ℕ × ℕ). m < r.0) ranges
all_less n m [] le all = tt
all_less n m (r ∷ rs) le all = (omega (arith, le, all.0), all_less n m rs le all.1)

all_beyond : (range : ℕ × ℕ) (ranges : List (ℕ × ℕ)) → EndsBefore range ranges → AreJoined ranges → AllByRecursion (λ (r : ℕ × ℕ). range.1 + 1 < r.0) ranges
all_beyond range [] ends are = tt
all_beyond range (r ∷ rs) ends are = (ends, all_less (r.1 + 1) (range.1 + 1) rs (omega (arith, ends, are.0)) (all_beyond r rs are.1.0 are.1.1))

ends_before : (range : ℕ × ℕ) (ranges : List (ℕ × ℕ)) → AllByRecursion (λ (r : ℕ × ℕ). range.1 + 1 < r.0) ranges → EndsBefore range ranges
ends_before range [] all = tt
ends_before range (r ∷ rs) all = all.0

clipped_beyond : (range n : ℕ) (ranges : List (ℕ × ℕ)) → AllByRecursion (λ (r : ℕ × ℕ). n < r.0) ranges → AllByRecursion (λ (r : ℕ × ℕ). n < r.0) (clipped range ranges)
clipped_beyond range n [] all = tt
clipped_beyond range n (r ∷ rs) all = by (nat_le (max r.0 (day_start range)) (min r.1 (day_end range))) (clipped_beyond range n rs all.1)
  where
    by : (b : Bool) → AllByRecursion (λ (s : ℕ × ℕ). n < s.0) (clipped range rs) → AllByRecursion (λ (s : ℕ × ℕ). n < s.0) (cons_option (if b then Some (max r.0 (day_start range), min r.1 (day_end range)) else None) (clipped range rs))
    by true i = (omega (arith, all.0), i)
    by false i = i

pub clipped_joined : (range : ℕ) (ranges : List (ℕ × ℕ)) → AreJoined ranges → AreJoined (clipped range ranges)
clipped_joined range [] are = tt
clipped_joined range (r ∷ rs) are = by (nat_le (max r.0 (day_start range)) (min r.1 (day_end range))) refl (clipped_joined range rs are.1.1)
  where
    by : (b : Bool) → nat_le (max r.0 (day_start range)) (min r.1 (day_end range)) ≡ b → AreJoined (clipped range rs) → AreJoined (cons_option (if b then Some (max r.0 (day_start range), min r.1 (day_end range)) else None) (clipped range rs))
    by true is i =
        let beyond = clipped_beyond range (r.1 + 1) rs (all_beyond r rs are.1.0 are.1.1) in
        let less = all_less (r.1 + 1) (min r.1 (day_end range) + 1) (clipped range rs) (omega arith) beyond in
        (leb-true (max r.0 (day_start range)) (min r.1 (day_end range)) is, (ends_before (max r.0 (day_start range), min r.1 (day_end range)) (clipped range rs) less, i))
    by false is i = i

-- a range of timestamps in a day range
abbrev pub IsInDay : ℕ → ℕ × ℕ → Type 0
IsInDay range cut = (day_start range ≤ cut.0) × ((cut.0 ≤ cut.1) × (cut.1 ≤ day_end range))

pub clipped_in_day : (range : ℕ) (ranges : List (ℕ × ℕ)) → AllByRecursion (IsInDay range) (clipped range ranges)
clipped_in_day range [] = tt
clipped_in_day range (r ∷ rs) = by (nat_le (max r.0 (day_start range)) (min r.1 (day_end range))) refl (clipped_in_day range rs)
  where
    by : (b : Bool) → nat_le (max r.0 (day_start range)) (min r.1 (day_end range)) ≡ b → AllByRecursion (IsInDay range) (clipped range rs) → AllByRecursion (IsInDay range) (cons_option (if b then Some (max r.0 (day_start range), min r.1 (day_end range)) else None) (clipped range rs))
    by true is i = ((omega arith, (leb-true (max r.0 (day_start range)) (min r.1 (day_end range)) is, omega arith)), i)
    by false is i = i

-- ---- cuts in a file

and_from : (a b : Bool) → a ≡ true → b ≡ true → (a && b) ≡ true
and_from true b e f = f
and_from false b e f = e

-- nothing, or a cut of a table before this one
abbrev pub IsBefore : ℕ → Option FileCut → Type 0
IsBefore table None = Unit {0}
IsBefore table (Some c) = c.table < table

-- nothing, a cut of a table before this one, or one of this table that ends before these
abbrev IsBehind : ℕ → Option FileCut → List (ℕ × ℕ) → Type 0
IsBehind table None cuts = Unit {0}
IsBehind table (Some c) cuts = (c.table < table) ⊎ ((c.table ≡ table) × EndsBefore (c.lo, c.hi) cuts)

follows_fits : (table : ℕ) (before : Option FileCut) (cuts : List (ℕ × ℕ)) → IsBehind table before cuts → follows before table ≡ true
follows_fits table None cuts h = refl
follows_fits table (Some c) cuts (inl lt) = le-leb c.table table (omega (arith, lt))
follows_fits table (Some c) cuts (inr s) = le-leb c.table table (omega (arith, s.0))

apart_fits : (table : ℕ) (before : Option FileCut) (cut : ℕ × ℕ) (cuts : List (ℕ × ℕ)) → IsBehind table before (cut ∷ cuts) → begins_apart before table cut.0 ≡ true
apart_fits table None cut cuts h = refl
apart_fits table (Some c) cut cuts (inl lt) =
    let other : (c.table == table) ≡ false = ne_eqb c.table table (λ e. omega (arith, lt, e)) in
    ap (λ (b : Bool). (if b then nat_lt (c.hi + 1) cut.0 else true)) other
apart_fits table (Some c) cut cuts (inr s) = by (c.table == table)
  where
    by : (b : Bool) → (if b then nat_lt (c.hi + 1) cut.0 else true) ≡ true
    by true = lt-ltb (c.hi + 1) cut.0 s.1
    by false = refl

day_fits : (range ts : ℕ) → day_start range ≤ ts → ts ≤ day_end range → is_in_day range ts ≡ true
day_fits range ts from to = and_from (nat_le (day_start range) ts) (nat_le ts (day_end range)) (le-leb (day_start range) ts from) (le-leb ts (day_end range) to)

cut_fits : (range table : ℕ) (before : Option FileCut) (cut : ℕ × ℕ) (cuts : List (ℕ × ℕ)) → range < 2 ^ 32 → table < 2 ^ 32 → IsInDay range cut → IsBehind table before (cut ∷ cuts) → (cut_behind range before).fits (record { table = table; lo = cut.0; hi = cut.1 }) ≡ true
unfolding cut_behind
cut_fits range table before cut cuts small few day behind =
    let hi : cut.1 < 2 ^ 64 = omega (arith, small, day.1.1) in
    let lo : cut.0 < 2 ^ 64 = omega (arith, hi, day.1.0) in
    let first = and_from (nat_lt table (2 ^ 32)) (follows before table) (lt-ltb table (2 ^ 32) few) (follows_fits table before (cut ∷ cuts) behind) in
    let lo_day = day_fits range cut.0 day.0 (omega (arith, day.1.0, day.1.1)) in
    let hi_day = day_fits range cut.1 (omega (arith, day.0, day.1.0)) day.1.1 in
    let second = and_from (nat_lt cut.0 (2 ^ 64)) (is_in_day range cut.0 && begins_apart before table cut.0) (lt-ltb cut.0 (2 ^ 64) lo) (and_from (is_in_day range cut.0) (begins_apart before table cut.0) lo_day (apart_fits table before cut cuts behind)) in
    let third = and_from (nat_lt cut.1 (2 ^ 64)) (nat_le cut.0 cut.1 && is_in_day range cut.1) (lt-ltb cut.1 (2 ^ 64) hi) (and_from (nat_le cut.0 cut.1) (is_in_day range cut.1) (le-leb cut.0 cut.1 day.1.0) hi_day) in
    and_from _ _ first (and_from _ _ second third)

table_fits : (range table : ℕ) (cuts : List (ℕ × ℕ)) (before : Option FileCut) (rest : List FileCut) → range < 2 ^ 32 → table < 2 ^ 32 → AreJoined cuts → AllByRecursion (IsInDay range) cuts → IsBehind table before cuts
    → ((last : Option FileCut) → IsBefore (table + 1) last → cuts_fit range last rest ≡ true) → IsBefore (table + 1) before
    → cuts_fit range before (map (λ (c : ℕ × ℕ). record { table = table; lo = c.0; hi = c.1 }) cuts ++ rest) ≡ true
table_fits range table [] before rest small few are days behind others last = others before last
table_fits range table (c ∷ cs) before rest small few are days behind others last =
    let this : FileCut = record { table = table; lo = c.0; hi = c.1 } in
    and_from _ _ (cut_fits range table before c cs small few days.0 behind)
    (table_fits range table cs (Some this) rest small few are.1.1 days.1 (inr (refl, are.1.0)) others (omega arith))

behind_all : (from table : ℕ) (before : Option FileCut) (cuts : List (ℕ × ℕ)) → from ≤ table → IsBefore from before → IsBehind table before cuts
behind_all from table None cuts le h = tt
behind_all from table (Some c) cuts le h = inl (omega (arith, le, h))

before_more : (from table : ℕ) (before : Option FileCut) → from ≤ table → IsBefore from before → IsBefore table before
before_more from table None le h = tt
before_more from table (Some c) le h = omega (arith, le, h)

pub tables_fit : (f : Frozen) (range from : ℕ) (ts : List TableRows) (before : Option FileCut) → range < 2 ^ 32 → AreTablesFrom f range from ts → IsBefore from before → cuts_fit range before (all_cuts ts) ≡ true
tables_fit f range from [] before small are h = refl
tables_fit f range from (t ∷ ts) before small are h =
    let own = are.1.1.0 in
    let joined : AreJoined t.cuts = subst (λ (l : List (ℕ × ℕ)). AreJoined l) (sym own.cuts.cuts_are) (clipped_joined range own.cuts.joined own.cuts.join.joined) in
    let days : AllByRecursion (IsInDay range) t.cuts = subst (λ (l : List (ℕ × ℕ)). AllByRecursion (IsInDay range) l) (sym own.cuts.cuts_are) (clipped_in_day range own.cuts.joined) in
    table_fits range t.table t.cuts before (all_cuts ts) small own.fits joined days (behind_all from t.table before t.cuts are.0 h)
    (λ last l. tables_fit f range (t.table + 1) ts last small are.1.1.1 l)
    (before_more from (t.table + 1) before (omega (arith, are.0)) h)
