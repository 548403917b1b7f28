-- The file of a day range gives the parts of a memtable there.
use Rattle.std.proofs.Common.{◌≡◌, ◌≢◌, ℕ, ◌+◌, ◌-◌, ◌^◌, ◌<◌, ◌≤◌, ◌==◌, max, min, nat_le, Bool, true, false, cond, ◌&&◌, ◌||◌, if◌then◌else◌, List, [], ◌∷◌, ◌++◌, map, append-nil, slice_get, Some, None, refl, sym, ap, subst, ◌∙◌, arith}
use Rattle.std.specs.List.{AllByRecursion, cons_option}
use Rattle.std.proofs.lemmas.Bool.{ne_eqb, eqb-true, eqb-false, eq-eqb, leb-true, leb-false}
use Rattle.std.proofs.lemmas.Bool.Decides.{nat_tests}
use Rattle.td_cols.specs.declared.kinds.Kind.{Kind}
use Rattle.td_layer.specs.declared.values.Key.{Key}
use Rattle.td_layer.specs.declared.parts.Partial.{Partial}
use Rattle.td_layer.specs.Scans.{is_cut}
use Rattle.td_memtree.specs.Within.{is_within, pairs_within}
use Rattle.td_memtable.specs.Contents.{key_at, ranges_of, IsSound as IsMemtable}
use Rattle.td_memtable.specs.Joined.{lies_in_any}
use Rattle.td_block.specs.Rows.{Rows}
use Rattle.td_fileio.specs.declared.lists.TableRows.{TableRows}
use Rattle.td_fileio.specs.Days.{day_start, day_end, is_in_day}
use Rattle.td_sttfile.specs.declared.format.FileCut.{FileCut}
use Rattle.td_sttfile.specs.Opening.{as_cut}
use Rattle.td_sttfile.specs.Written.{all_cuts, bytes_of_list}
use Rattle.td_sttfile.specs.Scanned.{Want, Walked, wanted_of, keyed}
use Rattle.td_sttfile.specs.Contents.{partials_of, IsWantedTable}
use Rattle.td_sttfile.proofs.Tables.{scanned_back, cuts_back}
use Rattle.td_commit.specs.declared.frozen.Frozen.{Frozen}
use Rattle.td_commit.specs.Clipped.{rows_of, rows_in_day, clipped, AreCutsIn, IsTableIn, IsEmptyIn, AreTablesFrom}
use Rattle.td_commit.specs.Sound.{IsSound}
use Rattle.td_commit.specs.Given.{puts_wanted, IsWanted, GivesPartsOf, HasBirths}
use Rattle.td_commit.proofs.Rows.{key_in}
use Rattle.td_commit.proofs.Writes.{can_write}

-- ---- the rows of one table

-- whether a key is of a table, from one timestamp to another
abbrev pub is_of : ℕ → ℕ → ℕ → Key → Bool
is_of table lo hi key = (key.table == table) && (nat_le lo key.ts && nat_le key.ts hi)

pub within_is : (table lo hi : ℕ) (k : Key) → is_within (record { table = table; ts = lo }) (record { table = table; ts = hi }) k ≡ is_of table lo hi k
within_is table lo hi k = grind (arith, nat_tests)

pub both_of : (lo hi from to ts : ℕ) → (nat_le (max lo from) ts && nat_le ts (min hi to)) ≡ ((nat_le from ts && nat_le ts to) && (nat_le lo ts && nat_le ts hi))
both_of lo hi from to ts = grind (arith, nat_tests)

and_assoc : (a b c : Bool) → (a && (b && c)) ≡ ((a && b) && c)
and_assoc true b c = refl
and_assoc false b c = refl

narrow : (table lo hi from to : ℕ) (k : Key) → is_within (key_at table (max lo from)) (key_at table (min hi to)) k ≡ (is_within (key_at table from) (key_at table to) k && (nat_le lo k.ts && nat_le k.ts hi))
narrow table lo hi from to k =
    within_is table (max lo from) (min hi to) k
    ∙ ap (λ (b : Bool). (k.table == table) && b) (both_of lo hi from to k.ts)
    ∙ and_assoc (k.table == table) (nat_le from k.ts && nat_le k.ts to) (nat_le lo k.ts && nat_le k.ts hi)
    ∙ ap (λ (b : Bool). b && (nat_le lo k.ts && nat_le k.ts hi)) (sym (within_is table from to k))

one_keyed : (table : ℕ) (e : Key × Partial) (rows : Rows) (es : List (Key × Partial)) (b : Bool) → e.0.table ≡ table → keyed table rows ≡ es → keyed table (cond b ((e.0.ts, e.1) ∷ rows) rows) ≡ cond b (e ∷ es) es
one_keyed table e rows es true same is =
    ap (λ (l : List (Key × Partial)). (record { table = table; ts = e.0.ts }, e.1) ∷ l) is
    ∙ ap (λ (n : ℕ). (record { table = n; ts = e.0.ts }, e.1) ∷ es) (sym same)
one_keyed table e rows es false same is = is

own_rows : (table lo hi from to : ℕ) (puts : List (Key × Partial)) → keyed table (wanted_of lo hi (rows_of (pairs_within (key_at table from) (key_at table to) puts))) ≡ pairs_within (key_at table (max lo from)) (key_at table (min hi to)) puts
own_rows table lo hi from to [] = refl
own_rows table lo hi from to (e ∷ es) = by (is_within (key_at table from) (key_at table to) e.0) refl (narrow table lo hi from to e.0) (own_rows table lo hi from to es)
  where
    by : (a : Bool) → is_within (key_at table from) (key_at table to) e.0 ≡ a → is_within (key_at table (max lo from)) (key_at table (min hi to)) e.0 ≡ (a && (nat_le lo e.0.ts && nat_le e.0.ts hi)) → keyed table (wanted_of lo hi (rows_of (pairs_within (key_at table from) (key_at table to) es))) ≡ pairs_within (key_at table (max lo from)) (key_at table (min hi to)) es
        → keyed table (wanted_of lo hi (rows_of (cond a (e ∷ pairs_within (key_at table from) (key_at table to) es) (pairs_within (key_at table from) (key_at table to) es)))) ≡ cond (is_within (key_at table (max lo from)) (key_at table (min hi to)) e.0) (e ∷ pairs_within (key_at table (max lo from)) (key_at table (min hi to)) es) (pairs_within (key_at table (max lo from)) (key_at table (min hi to)) es)
    by true is n i =
        one_keyed table e (wanted_of lo hi (rows_of (pairs_within (key_at table from) (key_at table to) es))) (pairs_within (key_at table (max lo from)) (key_at table (min hi to)) es) (nat_le lo e.0.ts && nat_le e.0.ts hi) (key_in table from to e.0 is).table_is i
        ∙ ap (λ (b : Bool). cond b (e ∷ pairs_within (key_at table (max lo from)) (key_at table (min hi to)) es) (pairs_within (key_at table (max lo from)) (key_at table (min hi to)) es)) (sym n)
    by false is n i = i ∙ ap (λ (b : Bool). cond b (e ∷ pairs_within (key_at table (max lo from)) (key_at table (min hi to)) es) (pairs_within (key_at table (max lo from)) (key_at table (min hi to)) es)) (sym n)

-- ---- the rows of all tables

own_table : (f : Frozen) (range : ℕ) (want : Want) (t : TableRows) → IsTableIn f range t → t.table ≡ want.table → keyed want.table (wanted_of want.lo want.hi t.rows) ≡ puts_wanted f range want
own_table f range want t own same =
    let rows : t.rows ≡ rows_in_day range want.table f.memtable.puts = own.rows ∙ ap (λ (n : ℕ). rows_in_day range n f.memtable.puts) same in
    ap (λ (l : Rows). keyed want.table (wanted_of want.lo want.hi l)) rows
    ∙ own_rows want.table want.lo want.hi (day_start range) (day_end range) f.memtable.puts

none_wanted : (f : Frozen) (range : ℕ) (want : Want) → IsEmptyIn f range want.table → puts_wanted f range want ≡ []
none_wanted f range want empty =
    sym (own_rows want.table want.lo want.hi (day_start range) (day_end range) f.memtable.puts)
    ∙ ap (λ (l : List (Key × Partial)). keyed want.table (wanted_of want.lo want.hi (rows_of l))) empty.rows

other_first : (want : Want) (t : TableRows) (ts : List TableRows) → (t.table == want.table) ≡ false → partials_of want (t ∷ ts) ≡ partials_of want ts
other_first want t ts other = ap (λ (b : Bool). (if b then keyed want.table (wanted_of want.lo want.hi t.rows) else []) ++ partials_of want ts) other

own_first : (want : Want) (t : TableRows) (ts : List TableRows) → (t.table == want.table) ≡ true → partials_of want (t ∷ ts) ≡ keyed want.table (wanted_of want.lo want.hi t.rows) ++ partials_of want ts
own_first want t ts own = ap (λ (b : Bool). (if b then keyed want.table (wanted_of want.lo want.hi t.rows) else []) ++ partials_of want ts) own

partials_past : (f : Frozen) (range from : ℕ) (ts : List TableRows) (want : Want) → want.table < from → AreTablesFrom f range from ts → partials_of want ts ≡ []
partials_past f range from [] want past are = refl
partials_past f range from (t ∷ ts) want past are =
    let from_is = are.0 in
    let other : (t.table == want.table) ≡ false = ne_eqb t.table want.table (λ e. omega (arith, e, past, from_is)) in
    other_first want t ts other ∙ partials_past f range (t.table + 1) ts want (omega (arith, past, from_is)) are.1.1.1

partials_are : (f : Frozen) (range from : ℕ) (ts : List TableRows) (want : Want) → from ≤ want.table → want.table < 2 ^ 32 → AreTablesFrom f range from ts → partials_of want ts ≡ puts_wanted f range want
partials_are f range from [] want le lt are = sym (none_wanted f range want (are want.table le lt))
partials_are f range from (t ∷ ts) want le lt are =
    by (t.table == want.table) (nat_le t.table want.table) refl refl (λ next. partials_are f range (t.table + 1) ts want next lt are.1.1.1)
  where
    by : (a b : Bool) → (t.table == want.table) ≡ a → nat_le t.table want.table ≡ b → (t.table + 1 ≤ want.table → partials_of want ts ≡ puts_wanted f range want) → partials_of want (t ∷ ts) ≡ puts_wanted f range want
    by true b same is rest =
        let own = eqb-true t.table want.table same in
        own_first want t ts same
        ∙ ap (λ (l : List (Key × Partial)). l ++ partials_of want ts) (own_table f range want t are.1.1.0 own)
        ∙ ap (λ (l : List (Key × Partial)). puts_wanted f range want ++ l) (partials_past f range (t.table + 1) ts want (omega (arith, own)) are.1.1.1)
        ∙ append-nil (puts_wanted f range want)
    by false true other is rest =
        let not_same : t.table ≢ want.table = eqb-false t.table want.table other in
        let at_most = leb-true t.table want.table is in
        other_first want t ts other ∙ rest (omega (arith, not_same, at_most))
    by false false other is rest =
        let before = leb-false t.table want.table is in
        other_first want t ts other
        ∙ partials_past f range (t.table + 1) ts want (omega (arith, before)) are.1.1.1
        ∙ sym (none_wanted f range want (are.1.0 want.table le before))

-- ---- cuts

and_false : (b : Bool) → false ≡ (b && false)
and_false true = refl
and_false false = refl

one_cut : (q i l r x : Bool) → x ≡ ((q && l) || r) → ((q && i) || x) ≡ ((q && (i || l)) || r)
one_cut true true l r x is = refl
one_cut true false l r x is = is
one_cut false i l r x is = is

none_cut : (q r : Bool) → r ≡ ((q && false) || r)
none_cut true r = refl
none_cut false r = refl

cuts_of_one : (key : Key) (table : ℕ) (cuts : List (ℕ × ℕ)) (rest : List FileCut) → is_cut key (map as_cut (map (λ (c : ℕ × ℕ). record { table = table; lo = c.0; hi = c.1 }) cuts ++ rest)) ≡ (((table == key.table) && lies_in_any key.ts cuts) || is_cut key (map as_cut rest))
cuts_of_one key table [] rest = none_cut (table == key.table) (is_cut key (map as_cut rest))
cuts_of_one key table (c ∷ cs) rest =
    one_cut (table == key.table) (nat_le c.0 key.ts && nat_le key.ts c.1) (lies_in_any key.ts cs) (is_cut key (map as_cut rest))
    (is_cut key (map as_cut (map (λ (c : ℕ × ℕ). record { table = table; lo = c.0; hi = c.1 }) cs ++ rest))) (cuts_of_one key table cs rest)

in_clip : (d i l t x : Bool) → t ≡ (d && i) → x ≡ (d && l) → (t || x) ≡ (d && (i || l))
in_clip true true l t x is same = ap (λ (b : Bool). b || x) is
in_clip true false l t x is same = ap (λ (b : Bool). b || x) is ∙ same
in_clip false i l t x is same = ap (λ (b : Bool). b || x) is ∙ same

out_of_clip : (d i l x : Bool) → (d && i) ≡ false → x ≡ (d && l) → x ≡ (d && (i || l))
out_of_clip true true l x none same = absurd (let clash : true ≡ false = none in cc)
out_of_clip true false l x none same = same
out_of_clip false i l x none same = same

both_in : (from to start end ts : ℕ) → (nat_le (max from start) ts && nat_le ts (min to end)) ≡ ((nat_le start ts && nat_le ts end) && (nat_le from ts && nat_le ts to))
both_in from to start end ts = both_of from to start end ts

no_both : (from to start end ts : ℕ) → min to end < max from start → ((nat_le start ts && nat_le ts end) && (nat_le from ts && nat_le ts to)) ≡ false
no_both from to start end ts less = grind (arith, nat_tests)

clipped_lies : (range ts : ℕ) (ranges : List (ℕ × ℕ)) → lies_in_any ts (clipped range ranges) ≡ (is_in_day range ts && lies_in_any ts ranges)
clipped_lies range ts [] = and_false (is_in_day range ts)
clipped_lies range ts (r ∷ rs) = by (nat_le (max r.0 (day_start range)) (min r.1 (day_end range))) refl (clipped_lies range ts rs)
  where
    by : (b : Bool) → nat_le (max r.0 (day_start range)) (min r.1 (day_end range)) ≡ b → lies_in_any ts (clipped range rs) ≡ (is_in_day range ts && lies_in_any ts rs) → lies_in_any ts (cons_option (if b then Some (max r.0 (day_start range), min r.1 (day_end range)) else None) (clipped range rs)) ≡ (is_in_day range ts && lies_in_any ts (r ∷ rs))
    by true is i =
        in_clip (is_in_day range ts) (nat_le r.0 ts && nat_le ts r.1) (lies_in_any ts rs) (nat_le (max r.0 (day_start range)) ts && nat_le ts (min r.1 (day_end range))) (lies_in_any ts (clipped range rs))
        (both_in r.0 r.1 (day_start range) (day_end range) ts) i
    by false is i =
        out_of_clip (is_in_day range ts) (nat_le r.0 ts && nat_le ts r.1) (lies_in_any ts rs) (lies_in_any ts (clipped range rs))
        (no_both r.0 r.1 (day_start range) (day_end range) ts (leb-false (max r.0 (day_start range)) (min r.1 (day_end range)) is)) i

cuts_lie : (range ts : ℕ) (ranges cuts : List (ℕ × ℕ)) → AreCutsIn range ranges cuts → lies_in_any ts cuts ≡ (is_in_day range ts && lies_in_any ts ranges)
cuts_lie range ts ranges cuts own =
    ap (lies_in_any ts) own.cuts_are
    ∙ clipped_lies range ts own.joined
    ∙ ap (λ (b : Bool). is_in_day range ts && b) (own.join.same ts)

-- whether a memtable cuts a key
as_ranges : (key : Key) (ranges : List (ℕ × ℕ)) → is_cut key (map (λ (r : ℕ × ℕ). record { table = key.table; lo = r.0; hi = r.1 }) ranges) ≡ lies_in_any key.ts ranges
as_ranges key [] = refl
as_ranges key (r ∷ rs) =
    ap (λ (b : Bool). (b && (nat_le r.0 key.ts && nat_le key.ts r.1)) || is_cut key (map (λ (r : ℕ × ℕ). record { table = key.table; lo = r.0; hi = r.1 }) rs)) (eq-eqb key.table key.table refl)
    ∙ ap (λ (b : Bool). (nat_le r.0 key.ts && nat_le key.ts r.1) || b) (as_ranges key rs)

cuts_past : (f : Frozen) (range from : ℕ) (ts : List TableRows) (key : Key) → key.table < from → AreTablesFrom f range from ts → is_cut key (map as_cut (all_cuts ts)) ≡ false
cuts_past f range from [] key past are = refl
cuts_past f range from (t ∷ ts) key past are =
    let from_is = are.0 in
    let other : (t.table == key.table) ≡ false = ne_eqb t.table key.table (λ e. omega (arith, e, past, from_is)) in
    cuts_of_one key t.table t.cuts (all_cuts ts)
    ∙ ap (λ (b : Bool). (b && lies_in_any key.ts t.cuts) || is_cut key (map as_cut (all_cuts ts))) other
    ∙ cuts_past f range (t.table + 1) ts key (omega (arith, past, from_is)) are.1.1.1

or_false : (b : Bool) → (b || false) ≡ b
or_false true = refl
or_false false = refl

cuts_are : (f : Frozen) (range from : ℕ) (ts : List TableRows) (key : Key) → from ≤ key.table → key.table < 2 ^ 32 → AreTablesFrom f range from ts → is_cut key (map as_cut (all_cuts ts)) ≡ (is_in_day range key.ts && lies_in_any key.ts (ranges_of key.table f.memtable.cuts))
cuts_are f range from [] key le lt are =
    let empty = are key.table le lt in
    cuts_lie range key.ts (ranges_of key.table f.memtable.cuts) [] empty.cuts
cuts_are f range from (t ∷ ts) key le lt are =
    by (t.table == key.table) (nat_le t.table key.table) refl refl (λ next. cuts_are f range (t.table + 1) ts key next lt are.1.1.1)
  where
    first : (b : Bool) → (t.table == key.table) ≡ b → is_cut key (map as_cut (all_cuts (t ∷ ts))) ≡ ((b && lies_in_any key.ts t.cuts) || is_cut key (map as_cut (all_cuts ts)))
    first b is = cuts_of_one key t.table t.cuts (all_cuts ts) ∙ ap (λ (q : Bool). (q && lies_in_any key.ts t.cuts) || is_cut key (map as_cut (all_cuts ts))) is

    by : (a b : Bool) → (t.table == key.table) ≡ a → nat_le t.table key.table ≡ b → (t.table + 1 ≤ key.table → is_cut key (map as_cut (all_cuts ts)) ≡ (is_in_day range key.ts && lies_in_any key.ts (ranges_of key.table f.memtable.cuts))) → is_cut key (map as_cut (all_cuts (t ∷ ts))) ≡ (is_in_day range key.ts && lies_in_any key.ts (ranges_of key.table f.memtable.cuts))
    by true b same is rest =
        let own = eqb-true t.table key.table same in
        let cuts : AreCutsIn range (ranges_of key.table f.memtable.cuts) t.cuts = subst (λ (n : ℕ). AreCutsIn range (ranges_of n f.memtable.cuts) t.cuts) own are.1.1.0.cuts in
        first true same
        ∙ ap (λ (q : Bool). lies_in_any key.ts t.cuts || q) (cuts_past f range (t.table + 1) ts key (omega (arith, own)) are.1.1.1)
        ∙ or_false (lies_in_any key.ts t.cuts)
        ∙ cuts_lie range key.ts (ranges_of key.table f.memtable.cuts) t.cuts cuts
    by false true other is rest =
        let not_same : t.table ≢ key.table = eqb-false t.table key.table other in
        let at_most = leb-true t.table key.table is in
        first false other ∙ rest (omega (arith, not_same, at_most))
    by false false other is rest =
        let before = leb-false t.table key.table is in
        let empty = are.1.0 key.table le before in
        first false other
        ∙ cuts_past f range (t.table + 1) ts key (omega (arith, before)) are.1.1.1
        ∙ cuts_lie range key.ts (ranges_of key.table f.memtable.cuts) [] empty.cuts

-- ---- numbers and kinds

births_in : (table from to : ℕ) (puts : List (Key × Partial)) → AllByRecursion (λ (e : Key × Partial). e.1.birth.born < 2 ^ 64) puts → AllByRecursion (λ (row : ℕ × Partial). row.1.birth.born < 2 ^ 64) (rows_of (pairs_within (key_at table from) (key_at table to) puts))
births_in table from to [] all = tt
births_in table from to (e ∷ es) all = by (is_within (key_at table from) (key_at table to) e.0) (births_in table from to es all.1)
  where
    by : (b : Bool) → AllByRecursion (λ (row : ℕ × Partial). row.1.birth.born < 2 ^ 64) (rows_of (pairs_within (key_at table from) (key_at table to) es)) → AllByRecursion (λ (row : ℕ × Partial). row.1.birth.born < 2 ^ 64) (rows_of (cond b (e ∷ pairs_within (key_at table from) (key_at table to) es) (pairs_within (key_at table from) (key_at table to) es)))
    by true i = (all.0, i)
    by false i = i

pub same_kinds : (kinds : List (List Kind)) (table other : ℕ) (own wanted : List Kind) → slice_get kinds (table - 1) ≡ Some own → slice_get kinds (other - 1) ≡ Some wanted → table ≡ other → own ≡ wanted
same_kinds kinds table other own wanted a b same =
    let both : Some own ≡ Some wanted = sym a ∙ ap (λ (n : ℕ). slice_get kinds (n - 1)) same ∙ b in
    cc

wanted_tables : (f : Frozen) (range from : ℕ) (ts : List TableRows) (want : Want) → HasBirths f → IsWanted f want → AreTablesFrom f range from ts → AllByRecursion (IsWantedTable want) ts
wanted_tables f range from [] want births is are = tt
wanted_tables f range from (t ∷ ts) want births is are =
    let own = are.1.1.0 in (
      record {
        numbers = record {
          table_is = own.fits;
          births_are = subst (λ (l : Rows). AllByRecursion (λ (row : ℕ × Partial). row.1.birth.born < 2 ^ 64) l) (sym own.rows) (births_in t.table (day_start range) (day_end range) f.memtable.puts births);
        };
        kinds = λ same. same_kinds f.kinds t.table want.table t.kinds want.kinds own.kinds is.kinds same;
      },
      wanted_tables f range (t.table + 1) ts want births is are.1.1.1,
    )

-- ---- a file

-- a scan that finds no fault
abbrev all_of : List (Key × Partial) → Walked
all_of partials = record { partials = partials; fault = None }

pub gives_parts : (f : Frozen) (range : ℕ) (tables : List TableRows) → IsSound f → IsMemtable f.memtable → HasBirths f → range < 2 ^ 32 → AreTablesFrom f range 1 tables → GivesPartsOf f range (bytes_of_list range tables)
gives_parts f range tables sound m births small are =
    let few = m.few in
    let puts = m.puts in
    let cuts = m.cuts in
    let can = can_write f range tables sound (omega (arith, few, puts)) (omega (arith, few, cuts)) small are in
    record {
      puts = λ want is. scanned_back want range tables small can (wanted_tables f range 1 tables want births is are) ∙ ap all_of (partials_are f range 1 tables want is.number is.fits are);
      cuts = λ key some fits. ap (is_cut key) (cuts_back range tables small can) ∙ cuts_are f range 1 tables key some fits are ∙ ap (λ (b : Bool). is_in_day range key.ts && b) (sym (as_ranges key (ranges_of key.table f.memtable.cuts)));
    }
