-- The tables of a day range, one after another.
use Rattle.std.proofs.Common.{◌≡◌, ◌≢◌, ℕ, ◌+◌, ◌-◌, ◌^◌, ◌<◌, ◌≤◌, ◌==◌, nat_le, ◌⊎◌, inl, inr, Bool, true, false, cond, ◌||◌, List, [], ◌∷◌, ◌++◌, length, map, append-nil, slice_get, Option, Some, None, refl, sym, ap, subst, ◌∙◌, arith}
use Rattle.std.specs.Prelude.{MatchOption}
use Rattle.std.specs.List.{AllByRecursion, cons_option}
use Rattle.std.specs.Ordering.{nat_cmp}
use Rattle.std.proofs.lemmas.Bool.{eqb-true, eqb-false, leb-true, leb-false}
use Rattle.std.proofs.lemmas.Option.{slice_get_past}
use Rattle.td_cols.specs.declared.kinds.Kind.{Kind}
use Rattle.td_layer.specs.declared.values.Key.{Key}
use Rattle.td_layer.specs.declared.parts.Partial.{Partial}
use Rattle.td_layer.specs.Keys.{RisesBy}
use Rattle.td_memtree.specs.Within.{is_within, pairs_within}
use Rattle.td_memtable.specs.Contents.{key_at, ranges_of}
use Rattle.td_memtable.specs.Tables.{has_table, NoneFrom, NoneBetween, IsFirstTable}
use Rattle.td_memtable.proofs.Firsts.{weaker}
use Rattle.td_block.specs.Rows.{Rows, IsRowOf}
use Rattle.td_fileio.specs.declared.lists.TableRows.{TableRows}
use Rattle.td_fileio.specs.Days.{day_start, day_end}
use Rattle.td_commit.specs.declared.frozen.Frozen.{Frozen}
use Rattle.td_commit.specs.Clipped.{rows_of, puts_in_day, rows_in_day, AreCutsIn, IsTableIn, IsEmptyIn, AreEmptyFrom, AreTablesFrom}
use Rattle.td_commit.specs.Sound.{AreFileKinds, HasKinds, IsSound}
use Rattle.td_commit.proofs.Rows.{add_between, key_in}

-- ---- one table

no_rows : (puts : List (Key × Partial)) → length (rows_of puts) ≡ 0 → puts ≡ []
no_rows [] e = refl
no_rows (p ∷ ps) e = absurd (omega (arith, e))

none_of : (cuts : List (ℕ × ℕ)) → length cuts ≡ 0 → cuts ≡ []
none_of [] e = refl
none_of (c ∷ cs) e = absurd (omega (arith, e))

pub empty_in : (f : Frozen) (range table : ℕ) (rows : Rows) (cuts : List (ℕ × ℕ)) → rows ≡ rows_in_day range table f.memtable.puts → AreCutsIn range (ranges_of table f.memtable.cuts) cuts → (length rows + length cuts == 0) ≡ true → IsEmptyIn f range table
empty_in f range table rows cuts are own none =
    let both : length rows + length cuts ≡ 0 = eqb-true (length rows + length cuts) 0 none in
    let long : length rows ≡ length (rows_in_day range table f.memtable.puts) = ap length are in
    record {
      rows = no_rows (puts_in_day range table f.memtable.puts) (omega (arith, both, long));
      cuts = subst (λ (l : List (ℕ × ℕ)). AreCutsIn range (ranges_of table f.memtable.cuts) l) (none_of cuts (omega (arith, both))) own;
    }

pub table_in : (f : Frozen) (range : ℕ) (t : TableRows) → 1 ≤ t.table → t.table < 2 ^ 32 → slice_get f.kinds (t.table - 1) ≡ Some t.kinds → t.rows ≡ rows_in_day range t.table f.memtable.puts → RisesBy nat_cmp t.rows → AreCutsIn range (ranges_of t.table f.memtable.cuts) t.cuts → (length t.rows + length t.cuts == 0) ≡ false → IsTableIn f range t
table_in f range t number fits kinds rows rising cuts none =
    let not_none : length t.rows + length t.cuts ≢ 0 = eqb-false (length t.rows + length t.cuts) 0 none in
    let some : 0 < length t.rows + length t.cuts = omega (arith, not_none) in
    record { number = number; fits = fits; kinds = kinds; rows = rows; rising = rising; cuts = cuts; some = some }

-- ---- tables that have no part

module _ {T : Type 0} where
  no_pairs : (table from to lo hi : ℕ) (pairs : List (Key × T)) → from ≤ table → table < to → NoneBetween from to pairs → pairs_within (key_at table lo) (key_at table hi) pairs ≡ []
  no_pairs table from to lo hi [] le lt none = refl
  no_pairs table from to lo hi (e ∷ es) le lt none = by (is_within (key_at table lo) (key_at table hi) e.0) refl (no_pairs table from to lo hi es le lt none.1)
    where
      other : e.0.table ≡ table → (e.0.table < from) ⊎ (to ≤ e.0.table) → ⊥
      other same (inl before) = omega (arith, same, before, le)
      other same (inr behind) = omega (arith, same, behind, lt)

      by : (b : Bool) → is_within (key_at table lo) (key_at table hi) e.0 ≡ b → pairs_within (key_at table lo) (key_at table hi) es ≡ [] → cond b (e ∷ pairs_within (key_at table lo) (key_at table hi) es) (pairs_within (key_at table lo) (key_at table hi) es) ≡ []
      by false is i = i
      by true is i = absurd (other (key_in table lo hi e.0 is).table_is none.0)

no_cuts_in : (range : ℕ) (ranges : List (ℕ × ℕ)) → ranges ≡ [] → AreCutsIn range ranges []
no_cuts_in range ranges none =
    subst (λ (l : List (ℕ × ℕ)). AreCutsIn range l []) (sym none) (record { joined = []; join = record { joined = tt; same = λ ts. refl }; cuts_are = refl })

empty_between : (f : Frozen) (range from to : ℕ) → NoneBetween from to f.memtable.puts → NoneBetween from to f.memtable.cuts → AreEmptyFrom f range from to
empty_between f range from to no_put no_cut = λ table le lt. record {
  rows = no_pairs table from to (day_start range) (day_end range) f.memtable.puts le lt no_put;
  cuts = no_cuts_in range (ranges_of table f.memtable.cuts) (ap (map (λ (c : Key × ℕ). (c.0.ts, c.1))) (no_pairs table from to 0 (2 ^ 64 - 1) f.memtable.cuts le lt no_cut));
}

-- ---- tables that have a part have kinds

module _ {T : Type 0} (kinds : List (List Kind)) (P : Key × T → List Kind → Type 0) where
  kinds_of_one : (table number : ℕ) (own : List Kind → Type 0) → HasKinds kinds number own → number ≡ table → table ≤ length kinds
  kinds_of_one table number own has same = by (nat_le table (length kinds)) refl
    where
      by : (b : Bool) → nat_le table (length kinds) ≡ b → table ≤ length kinds
      by true is = leb-true table (length kinds) is
      by false is =
          let beyond = leb-false table (length kinds) is in
          let past : slice_get kinds (number - 1) ≡ None = slice_get_past kinds (number - 1) (omega (arith, beyond, same)) in
          absurd (subst (λ (o : Option (List Kind)). MatchOption o ⊥ own) past has.1)

  some_kinds : (table : ℕ) (pairs : List (Key × T)) → AllByRecursion (λ (e : Key × T). HasKinds kinds e.0.table (P e)) pairs → has_table table pairs ≡ true → table ≤ length kinds
  some_kinds table [] all has = absurd (let clash : false ≡ true = has in cc)
  some_kinds table (e ∷ es) all has = by (e.0.table == table) refl (some_kinds table es all.1) has
    where
      by : (b : Bool) → (e.0.table == table) ≡ b → (has_table table es ≡ true → table ≤ length kinds) → (b || has_table table es) ≡ true → table ≤ length kinds
      by true is rest h = kinds_of_one table e.0.table (P e) all.0 (eqb-true e.0.table table is)
      by false is rest h = rest h

pub table_has_kinds : (f : Frozen) (from table : ℕ) → IsSound f → IsFirstTable from f.memtable table → table ≤ length f.kinds
table_has_kinds f from table sound first = by (has_table table f.memtable.puts) refl first.some
  where
    by : (b : Bool) → has_table table f.memtable.puts ≡ b → (b || has_table table f.memtable.cuts) ≡ true → table ≤ length f.kinds
    by true is h = some_kinds f.kinds (λ (e : Key × Partial) (own : List Kind). AreFileKinds own × IsRowOf own (e.0.ts, e.1)) table f.memtable.puts sound.puts is
    by false is h = some_kinds f.kinds (λ (c : Key × ℕ) (own : List Kind). AreFileKinds own) table f.memtable.cuts sound.cuts h

-- ---- one table after another

-- The tables so far, and those from a number on, whichever these are, are those from 1 on.
pub record AreSoFar (f : Frozen) (range from : ℕ) (so_far : List TableRows) : Type 0 where
  pub whole : (ts : List TableRows) → AreTablesFrom f range from ts → AreTablesFrom f range 1 (so_far ++ ts)

pub none_so_far : (f : Frozen) (range from : ℕ) (so_far : List TableRows) → from ≡ 1 → so_far ≡ [] → AreSoFar f range from so_far
none_so_far f range from so_far first none = record {
  whole = λ ts are. subst (λ (l : List TableRows). AreTablesFrom f range 1 (l ++ ts)) (sym none) (subst (λ (n : ℕ). AreTablesFrom f range n ts) first are);
}

-- tables with nothing, this one too, and those behind it
empty_around : (f : Frozen) (range from table to : ℕ) → AreEmptyFrom f range from table → IsEmptyIn f range table → AreEmptyFrom f range (table + 1) to → AreEmptyFrom f range from to
empty_around f range from table to before one behind = λ other le lt. by other le lt (nat_le table other) (table == other) refl refl
  where
    by : (other : ℕ) → from ≤ other → other < to → (a b : Bool) → nat_le table other ≡ a → (table == other) ≡ b → IsEmptyIn f range other
    by other le lt false b is same = before other le (leb-false table other is)
    by other le lt true true is same = subst (λ (n : ℕ). IsEmptyIn f range n) (eqb-true table other same) one
    by other le lt true false is same =
        let not_same : table ≢ other = eqb-false table other same in
        let from_is = leb-true table other is in
        behind other (omega (arith, not_same, from_is)) lt

skip : (f : Frozen) (range from table : ℕ) (ts : List TableRows) → from ≤ table → AreEmptyFrom f range from table → IsEmptyIn f range table → AreTablesFrom f range (table + 1) ts → AreTablesFrom f range from ts
skip f range from table [] le before one are = empty_around f range from table (2 ^ 32) before one are
skip f range from table (t ∷ ts) le before one are = (omega (arith, le, are.0), (empty_around f range from table t.table before one are.1.0, are.1.1))

put_first : (f : Frozen) (range from table : ℕ) (t : TableRows) (ts : List TableRows) → from ≤ table → AreEmptyFrom f range from table → t.table ≡ table → IsTableIn f range t → AreTablesFrom f range (table + 1) ts → AreTablesFrom f range from (t ∷ ts)
put_first f range from table t ts le before same own are =
    (omega (arith, same, le), (subst (λ (n : ℕ). AreEmptyFrom f range from n) (sym same) before, (own, subst (λ (n : ℕ). AreTablesFrom f range (n + 1) ts) (sym same) are)))

-- what one table that was looked at adds
first_is : (f : Frozen) (range from table : ℕ) (o : Option TableRows) (ts : List TableRows) → from ≤ table → AreEmptyFrom f range from table → MatchOption o (IsEmptyIn f range table) (λ (t : TableRows). (t.table ≡ table) × IsTableIn f range t) → AreTablesFrom f range (table + 1) ts → AreTablesFrom f range from (cons_option o ts)
first_is f range from table None ts le before found are = skip f range from table ts le before found are
first_is f range from table (Some t) ts le before found are = put_first f range from table t ts le before found.0 found.1 are

pub one_more : (f : Frozen) (range from table next : ℕ) (so_far new : List TableRows) (o : Option TableRows) → IsFirstTable from f.memtable table → next ≡ table + 1 → new ≡ so_far ++ cons_option o [] → MatchOption o (IsEmptyIn f range table) (λ (t : TableRows). (t.table ≡ table) × IsTableIn f range t) → AreSoFar f range from so_far → AreSoFar f range next new
one_more f range from table next so_far new o first is added found a = record {
  whole = λ ts are.
      let behind : AreTablesFrom f range (table + 1) ts = subst (λ (n : ℕ). AreTablesFrom f range n ts) is are in
      let before = empty_between f range from table first.no_put first.no_cut in
      let whole : AreTablesFrom f range 1 (so_far ++ cons_option o ts) = a.whole (cons_option o ts) (first_is f range from table o ts first.from_is before found behind) in
      subst (λ (l : List TableRows). AreTablesFrom f range 1 l) (sym (ap (λ (l : List TableRows). l ++ ts) added ∙ add_between so_far ts o)) whole;
}

-- no table from a number on has a part
pub all_so_far : (f : Frozen) (range from : ℕ) (so_far : List TableRows) → NoneFrom from f.memtable.puts × NoneFrom from f.memtable.cuts → AreSoFar f range from so_far → AreTablesFrom f range 1 so_far
all_so_far f range from so_far none a =
    let empty : AreTablesFrom f range from [] = empty_between f range from (2 ^ 32) (weaker from (2 ^ 32) f.memtable.puts none.0) (weaker from (2 ^ 32) f.memtable.cuts none.1) in
    subst (λ (l : List TableRows). AreTablesFrom f range 1 l) (append-nil so_far) (a.whole [] empty)

-- the last table of all was looked at
pub last_so_far : (f : Frozen) (range next : ℕ) (so_far : List TableRows) → next ≡ 2 ^ 32 → AreSoFar f range next so_far → AreTablesFrom f range 1 so_far
last_so_far f range next so_far last a =
    let none : AreTablesFrom f range next [] = λ table le lt. absurd (omega (arith, last, le, lt)) in
    subst (λ (l : List TableRows). AreTablesFrom f range 1 l) (append-nil so_far) (a.whole [] none)
