-- The tables of a day range of a sound memtable can be written.
use Rattle.std.proofs.Common.{◌≡◌, ℕ, zero, suc, ◌+◌, ◌-◌, ◌^◌, ◌<◌, ◌≤◌, nat_le, Bool, true, false, cond, ◌&&◌, List, [], ◌∷◌, length, filter, drop, slice_get, Option, Some, None, refl, sym, ap, subst, ◌∙◌, arith}
use Rattle.std.specs.Prelude.{IsTrue, MatchOption}
use Rattle.std.specs.List.{AllByRecursion}
use Rattle.std.proofs.lemmas.Bool.{leb-true, leb-false, le-leb, lt-leb}
use Rattle.std.proofs.lemmas.List.{length-append, length-map}
use Rattle.td_limits.specs.declared.limits.TheConstants.{BLOCK_ROWS, MEMTABLE_PARTS}
use Rattle.td_cols.specs.declared.kinds.Kind.{Kind}
use Rattle.td_layer.specs.declared.values.Key.{Key}
use Rattle.td_layer.specs.declared.parts.Partial.{Partial}
use Rattle.td_memtree.specs.Within.{is_within, pairs_within}
use Rattle.td_memtable.specs.Contents.{key_at, ranges_of}
use Rattle.td_block.specs.Rows.{Rows, IsRowOf}
use Rattle.td_fileio.specs.declared.lists.TableRows.{TableRows}
use Rattle.td_fileio.specs.Days.{day_start, day_end, is_in_day}
use Rattle.td_fileio.specs.Lists.{pieces_of, in_blocks, all_blocks, AreTableRows, RiseBehind}
use Rattle.td_fileio.proofs.ListLaws.{blocks_of_first}
use Rattle.td_sttfile.specs.Written.{table_cuts, all_cuts, CanWrite}
use Rattle.td_commit.specs.declared.frozen.Frozen.{Frozen}
use Rattle.td_commit.specs.Clipped.{rows_of, puts_in_day, rows_in_day, clip, AreCutsIn, IsTableIn, AreTablesFrom}
use Rattle.td_commit.specs.Sound.{AreFileKinds, HasKinds, IsPutOf, IsSound}
use Rattle.td_commit.proofs.Rows.{key_in}
use Rattle.td_commit.proofs.Counts.{length-filter_le, length-filter_map_le, two_apart, joined_few}
use Rattle.td_commit.proofs.Cuts.{tables_fit}

-- ---- kinds

own_of : (kinds : List (List Kind)) (table number : ℕ) (own : List Kind) (P : List Kind → Type 0) → HasKinds kinds number P → number ≡ table → slice_get kinds (table - 1) ≡ Some own → P own
own_of kinds table number own P has same is = subst (λ (o : Option (List Kind)). MatchOption o ⊥ P) (ap (λ (n : ℕ). slice_get kinds (n - 1)) same ∙ is) has.1

module _ {T : Type 0} (kinds : List (List Kind)) (P : Key × T → List Kind → Type 0) (table from to : ℕ) (own : List Kind) where
  one_among : (pairs : List (Key × T)) → AllByRecursion (λ (e : Key × T). HasKinds kinds e.0.table (P e)) pairs → slice_get kinds (table - 1) ≡ Some own → 0 < length (pairs_within (key_at table from) (key_at table to) pairs) → (e : Key × T) × P e own
  one_among [] all is some = absurd (omega (arith, some))
  one_among (e ∷ es) all is some = by (is_within (key_at table from) (key_at table to) e.0) refl (one_among es all.1 is) some
    where
      by : (b : Bool) → is_within (key_at table from) (key_at table to) e.0 ≡ b → (0 < length (pairs_within (key_at table from) (key_at table to) es) → (p : Key × T) × P p own) → 0 < length (cond b (e ∷ pairs_within (key_at table from) (key_at table to) es) (pairs_within (key_at table from) (key_at table to) es)) → (p : Key × T) × P p own
      by true is_in rest s = (e, own_of kinds table e.0.table own (P e) all.0 (key_in table from to e.0 is_in).table_is is)
      by false is_in rest s = rest s

-- ---- rows

rows_are : (kinds : List (List Kind)) (own : List Kind) (table from to : ℕ) (puts : List (Key × Partial)) → AllByRecursion (IsPutOf kinds) puts → slice_get kinds (table - 1) ≡ Some own → AllByRecursion (IsRowOf own) (rows_of (pairs_within (key_at table from) (key_at table to) puts))
rows_are kinds own table from to [] all is = tt
rows_are kinds own table from to (e ∷ es) all is = by (is_within (key_at table from) (key_at table to) e.0) refl (rows_are kinds own table from to es all.1 is)
  where
    by : (b : Bool) → is_within (key_at table from) (key_at table to) e.0 ≡ b → AllByRecursion (IsRowOf own) (rows_of (pairs_within (key_at table from) (key_at table to) es)) → AllByRecursion (IsRowOf own) (rows_of (cond b (e ∷ pairs_within (key_at table from) (key_at table to) es) (pairs_within (key_at table from) (key_at table to) es)))
    by true is_in i = ((own_of kinds table e.0.table own (λ (k : List Kind). AreFileKinds k × IsRowOf k (e.0.ts, e.1)) all.0 (key_in table from to e.0 is_in).table_is is).1, i)
    by false is_in i = i

both : (a b : Bool) → a ≡ true → b ≡ true → (a && b) ≡ true
both true b e f = f
both false b e f = e

rows_in_range : (range table : ℕ) (puts : List (Key × Partial)) → AllByRecursion (λ (row : ℕ × Partial). IsTrue (is_in_day range row.0)) (rows_in_day range table puts)
rows_in_range range table [] = tt
rows_in_range range table (e ∷ es) = by (is_within (key_at table (day_start range)) (key_at table (day_end range)) e.0) refl (rows_in_range range table es)
  where
    by : (b : Bool) → is_within (key_at table (day_start range)) (key_at table (day_end range)) e.0 ≡ b → AllByRecursion (λ (row : ℕ × Partial). IsTrue (is_in_day range row.0)) (rows_in_day range table es) → AllByRecursion (λ (row : ℕ × Partial). IsTrue (is_in_day range row.0)) (rows_of (cond b (e ∷ puts_in_day range table es) (puts_in_day range table es)))
    by true is_in i =
        let own = key_in table (day_start range) (day_end range) e.0 is_in in
        (both (nat_le (day_start range) e.0.ts) (nat_le e.0.ts (day_end range)) (le-leb (day_start range) e.0.ts own.from_is) (le-leb e.0.ts (day_end range) own.to_is), i)
    by false is_in i = i

rows_long : (puts : List (Key × Partial)) → length (rows_of puts) ≡ length puts
rows_long puts = length-map puts (λ (e : Key × Partial). (e.0.ts, e.1))

-- ---- cuts

ranges_long : (table : ℕ) (cuts : List (Key × ℕ)) → length (ranges_of table cuts) ≡ length (pairs_within (key_at table 0) (key_at table (2 ^ 64 - 1)) cuts)
ranges_long table cuts = length-map (pairs_within (key_at table 0) (key_at table (2 ^ 64 - 1)) cuts) (λ (c : Key × ℕ). (c.0.ts, c.1))

cuts_few : (range table : ℕ) (all : List (Key × ℕ)) (cuts : List (ℕ × ℕ)) → AreCutsIn range (ranges_of table all) cuts → length cuts ≤ length (pairs_within (key_at table 0) (key_at table (2 ^ 64 - 1)) all)
cuts_few range table all cuts own =
    let is = ap length own.cuts_are in
    let fewer = length-filter_map_le (clip range) own.joined in
    let few = joined_few own.joined (ranges_of table all) own.join in
    let long = ranges_long table all in
    omega (arith, is, fewer, few, long)

-- ---- one table

kinds_are : (f : Frozen) (range : ℕ) (t : TableRows) → IsSound f → IsTableIn f range t → AreFileKinds t.kinds
kinds_are f range t sound own = by (nat_le 1 (length t.rows)) refl
  where
    by : (b : Bool) → nat_le 1 (length t.rows) ≡ b → AreFileKinds t.kinds
    by true is =
        let some = leb-true 1 (length t.rows) is in
        let long = ap length own.rows ∙ rows_long (puts_in_day range t.table f.memtable.puts) in
        let found = one_among f.kinds (λ (e : Key × Partial) (k : List Kind). AreFileKinds k × IsRowOf k (e.0.ts, e.1)) t.table (day_start range) (day_end range) t.kinds f.memtable.puts sound.puts own.kinds (omega (arith, some, long)) in
        found.1.0
    by false is =
        let none = leb-false 1 (length t.rows) is in
        let few = cuts_few range t.table f.memtable.cuts t.cuts own.cuts in
        let found = one_among f.kinds (λ (c : Key × ℕ) (k : List Kind). AreFileKinds k) t.table 0 (2 ^ 64 - 1) t.kinds f.memtable.cuts sound.cuts own.kinds (omega (arith, none, few, own.some)) in
        found.1

table_rows : (f : Frozen) (range : ℕ) (t : TableRows) → IsSound f → IsTableIn f range t → AreTableRows range t
table_rows f range t sound own =
    let kinds = kinds_are f range t sound own in
    record {
      table_is = own.number;
      columns = kinds.few;
      fixed = kinds.fixed;
      rising = own.rising;
      rows_are = subst (λ (l : Rows). AllByRecursion (IsRowOf t.kinds) l) (sym own.rows) (rows_are f.kinds t.kinds t.table (day_start range) (day_end range) f.memtable.puts sound.puts own.kinds);
      in_day = subst (λ (l : Rows). AllByRecursion (λ (row : ℕ × Partial). IsTrue (is_in_day range row.0)) l) (sym own.rows) (rows_in_range range t.table f.memtable.puts);
    }

-- ---- all tables

pub tables_rise : (f : Frozen) (range last from : ℕ) (ts : List TableRows) → last < from → AreTablesFrom f range from ts → RiseBehind last ts
tables_rise f range last from [] lt are = tt
tables_rise f range last from (t ∷ ts) lt are = (omega (arith, lt, are.0), tables_rise f range t.table (t.table + 1) ts (omega arith) are.1.1.1)

each_table : (f : Frozen) (range from : ℕ) (ts : List TableRows) → IsSound f → AreTablesFrom f range from ts → AllByRecursion (AreTableRows range) ts
each_table f range from [] sound are = tt
each_table f range from (t ∷ ts) sound are = (table_rows f range t sound are.1.1.0, each_table f range (t.table + 1) ts sound are.1.1.1)

-- the pairs of tables from this one on
abbrev from_table : {T : Type 0} → ℕ → List (Key × T) → List (Key × T)
from_table {T} from pairs = filter (λ (e : Key × T). nat_le from e.0.table) pairs

pairs_apart : {T : Type 0} (from table lo hi : ℕ) (pairs : List (Key × T)) → from ≤ table → length (pairs_within (key_at table lo) (key_at table hi) pairs) + length (from_table (table + 1) pairs) ≤ length (from_table from pairs)
pairs_apart {T} from table lo hi pairs le =
    two_apart (λ (e : Key × T). is_within (key_at table lo) (key_at table hi) e.0) (λ (e : Key × T). nat_le (table + 1) e.0.table) (λ (e : Key × T). nat_le from e.0.table)
    (λ e is. let own = (key_in table lo hi e.0 is).table_is in (lt-leb (table + 1) e.0.table (omega (arith, own)), le-leb from e.0.table (omega (arith, own, le))))
    (λ e is. let past = leb-true (table + 1) e.0.table is in le-leb from e.0.table (omega (arith, past, le)))
    pairs

pieces_few : {A : Type 0} (size n : ℕ) (xs : List A) → length (pieces_of size n xs) ≤ n
pieces_few size zero xs = omega arith
pieces_few size (suc n) [] = omega arith
pieces_few size (suc n) (x ∷ xs) = omega (arith, pieces_few size n (drop size (x ∷ xs)))

in_blocks_few : (rows : Rows) → length (in_blocks rows) ≤ length rows
unfolding in_blocks
in_blocks_few rows = pieces_few BLOCK_ROWS (length rows) rows

blocks_few : (f : Frozen) (range from : ℕ) (ts : List TableRows) → AreTablesFrom f range from ts → length (all_blocks ts) ≤ length (from_table from f.memtable.puts)
blocks_few f range from [] are = omega arith
blocks_few f range from (t ∷ ts) are =
    let split : length (all_blocks (t ∷ ts)) ≡ length (in_blocks t.rows) + length (all_blocks ts) = blocks_of_first t ts (t ∷ ts) refl in
    let few = in_blocks_few t.rows in
    let long = ap length are.1.1.0.rows ∙ rows_long (puts_in_day range t.table f.memtable.puts) in
    let apart = pairs_apart from t.table (day_start range) (day_end range) f.memtable.puts are.0 in
    let rest = blocks_few f range (t.table + 1) ts are.1.1.1 in
    omega (arith, split, few, long, apart, rest)

all_cuts_few : (f : Frozen) (range from : ℕ) (ts : List TableRows) → AreTablesFrom f range from ts → length (all_cuts ts) ≤ length (from_table from f.memtable.cuts)
all_cuts_few f range from [] are = omega arith
all_cuts_few f range from (t ∷ ts) are =
    let split : length (all_cuts (t ∷ ts)) ≡ length (table_cuts t) + length (all_cuts ts) = length-append (table_cuts t) (all_cuts ts) in
    let own : length (table_cuts t) ≡ length t.cuts = length-map t.cuts (λ (c : ℕ × ℕ). record { table = t.table; lo = c.0; hi = c.1 }) in
    let few = cuts_few range t.table f.memtable.cuts t.cuts are.1.1.0.cuts in
    let apart = pairs_apart from t.table 0 (2 ^ 64 - 1) f.memtable.cuts are.0 in
    let rest = all_cuts_few f range (t.table + 1) ts are.1.1.1 in
    omega (arith, split, own, few, apart, rest)

pub can_write : (f : Frozen) (range : ℕ) (ts : List TableRows) → IsSound f → length f.memtable.puts ≤ MEMTABLE_PARTS → length f.memtable.cuts ≤ MEMTABLE_PARTS → range < 2 ^ 32 → AreTablesFrom f range 1 ts → CanWrite range ts
can_write f range ts sound puts cuts small are =
    let blocks = blocks_few f range 1 ts are in
    let some_puts = length-filter_le (λ (e : Key × Partial). nat_le 1 e.0.table) f.memtable.puts in
    let own_cuts = all_cuts_few f range 1 ts are in
    let some_cuts = length-filter_le (λ (c : Key × ℕ). nat_le 1 c.0.table) f.memtable.cuts in
    record {
      rows = record {
        rise = tables_rise f range 0 1 ts (omega arith) are;
        each = each_table f range 1 ts sound are;
        few = omega (arith, blocks, some_puts, puts);
      };
      cuts = tables_fit f range 1 ts None small are tt;
      few = omega (arith, own_cuts, some_cuts, cuts);
    }
