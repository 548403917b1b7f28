-- The blocks of a list of tables.
use Rattle.std.proofs.Common.{◌≡◌, ℕ, zero, suc, ◌^◌, ◌<◌, ◌≤◌, Bool, true, false, cond, eqb, List, [], ◌∷◌, ◌++◌, length, take, drop, map, Ok, refl, sym, ap, subst, ◌∙◌, arith}
use Rattle.std.specs.Prelude.{IsTrue}
use Rattle.std.specs.List.{AllByRecursion}
use Rattle.std.specs.Ordering.{nat_cmp}
use Rattle.std.specs.Int.{w32, to_le_bytes}
use Rattle.std.proofs.lemmas.Bool.{and_from}
use Rattle.std.proofs.lemmas.Bool.Decides.{nat_tests}
use Rattle.std.proofs.lemmas.List.{drop_at, length-take, length-drop, take-append-drop}
use Rattle.std.proofs.lemmas.List.Elements.{filter-append}
use Rattle.std.proofs.lemmas.List.Concat.{flat_map-cons, flat_map-append}
use Rattle.td_limits.specs.declared.limits.TheConstants.{BLOCK_ROWS}
use Rattle.td_cols.specs.declared.kinds.Kind.{Kind}
use Rattle.td_layer.specs.declared.values.Key.{Key}
use Rattle.td_layer.specs.declared.parts.Partial.{Partial}
use Rattle.td_layer.specs.Keys.{AllAfter, RisesBy}
use Rattle.td_codec.proofs.FieldLaws.{AreBytes-drop}
use Rattle.td_block.specs.Columns.{is_fixed}
use Rattle.td_block.specs.Rows.{Rows, IsRowOf}
use Rattle.td_fileio.specs.declared.lists.TableRows.{TableRows}
use Rattle.td_fileio.specs.Days.{is_in_day}
use Rattle.td_fileio.specs.Lists.{FileBlock, blocks_of_rows, table_blocks, all_blocks, AreTableRows, RiseBehind}
use Rattle.td_fileio.proofs.ListLaws.{blocks_begin, blocks_end, rises_take, rises_drop, all_take, all_drop}
use Rattle.td_sttfile.specs.Written.{all_cuts, bytes_of_list, CanWrite}
use Rattle.td_sttfile.specs.Blocks.{is_behind, key_of}
use Rattle.td_sttfile.specs.Opening.{opening_length, opening_at, as_cut}
use Rattle.td_sttfile.specs.Scanned.{Want, is_wanted, wanted_of, keyed, before_all, behind_opening, cuts_opened, scanned, cuts_of_file}
use Rattle.td_sttfile.specs.Contents.{wanted_in, partials_of, IsWantedTable}
use Rattle.td_sttfile.proofs.Bytes.{file_small}
use Rattle.td_sttfile.proofs.Openings.{opening_bytes, blocks_bytes, file_parts, opening_size, opening_read}
use Rattle.td_sttfile.proofs.Contents.{last_key, Follow, Stands, Chain, wanted_block, all_wanted, gives, walk_blocks}

-- ---- rows of a table follow each other

follow_from : (range table : ℕ) (before : ℕ × Partial) (rows : Rows) → AllAfter nat_cmp before.0 rows → RisesBy nat_cmp rows → AllByRecursion (λ (row : ℕ × Partial). IsTrue (is_in_day range row.0)) rows → Follow range table (key_of table before) rows
follow_from range table before [] after rises days = tt
follow_from range table before (row ∷ rows) after rises days =
    let behind : is_behind (key_of table before) (key_of table row) ≡ true = grind (arith, nat_tests, after.0) in
    let day : is_in_day range row.0 ≡ true = days.0 in
    (and_from (is_behind (key_of table before) (key_of table row)) (is_in_day range row.0) behind day, follow_from range table row rows rises.0 rises.1 days.1)

follow_table : (range table : ℕ) (last : Key) (rows : Rows) → last.table < table → RisesBy nat_cmp rows → AllByRecursion (λ (row : ℕ × Partial). IsTrue (is_in_day range row.0)) rows → Follow range table last rows
follow_table range table last [] lt rises days = tt
follow_table range table last (row ∷ rows) lt rises days =
    let behind : is_behind last (key_of table row) ≡ true = grind (arith, nat_tests) in
    let day : is_in_day range row.0 ≡ true = days.0 in
    (and_from (is_behind last (key_of table row)) (is_in_day range row.0) behind day, follow_from range table row rows rises.0 rises.1 days.1)

follow_take : (range table n : ℕ) (last : Key) (rows : Rows) → Follow range table last rows → Follow range table last (take n rows)
follow_take range table zero last rows f = tt
follow_take range table (suc n) last [] f = tt
follow_take range table (suc n) last (row ∷ rows) f = (f.0, follow_take range table n (key_of table row) rows f.1)

follow_drop : (range table n : ℕ) (last : Key) (rows : Rows) → Follow range table last rows → Follow range table (last_key table last (take n rows)) (drop n rows)
follow_drop range table zero last rows f = f
follow_drop range table (suc n) last [] f = tt
follow_drop range table (suc n) last (row ∷ rows) f = follow_drop range table n (key_of table row) rows f.1

last_split : (table n : ℕ) (last : Key) (rows : Rows) → last_key table (last_key table last (take n rows)) (drop n rows) ≡ last_key table last rows
last_split table zero last rows = refl
last_split table (suc n) last [] = refl
last_split table (suc n) last (row ∷ rows) = last_split table n (key_of table row) rows

last_table : (table : ℕ) (last : Key) (rows : Rows) → last.table ≤ table → (last_key table last rows).table ≤ table
last_table table last [] le = le
last_table table last (row ∷ rows) le = last_table table (key_of table row) rows (omega arith)

-- ---- the blocks of a table

-- what is known of rows of a table, whose keys come behind a key
record RowsStand (want : Want) (range table : ℕ) (kinds : List Kind) (last : Key) (rows : Rows) : Type 0 where
  table_is : 1 ≤ table
  small : table < 2 ^ 32
  columns : length kinds < 2 ^ 16
  fixed : AllByRecursion (λ (kind : Kind). IsTrue (is_fixed kind)) kinds
  rising : RisesBy nat_cmp rows
  rows_are : AllByRecursion (IsRowOf kinds) rows
  births : AllByRecursion (λ (row : ℕ × Partial). row.1.birth.born < 2 ^ 64) rows
  kinds_are : table ≡ want.table → kinds ≡ want.kinds
  follow : Follow range table last rows

abbrev block_of : ℕ → List Kind → Rows → FileBlock
block_of table kinds rows = record { table = table; kinds = kinds; rows = rows }

first_stands : (want : Want) (range table : ℕ) (kinds : List Kind) (last : Key) (rows : Rows) → 1 ≤ length rows → RowsStand want range table kinds last rows → Stands want range last (block_of table kinds (take BLOCK_ROWS rows))
first_stands want range table kinds last rows some s = record {
  holds = record {
    table_is = s.table_is;
    columns = s.columns;
    fixed = s.fixed;
    some = omega (arith, length-take BLOCK_ROWS rows);
    few = omega (arith, length-take BLOCK_ROWS rows);
    rising = rises_take BLOCK_ROWS rows s.rising;
    rows_are = all_take (IsRowOf kinds) BLOCK_ROWS rows s.rows_are;
  };
  numbers = record { table_is = s.small; births_are = all_take (λ (row : ℕ × Partial). row.1.birth.born < 2 ^ 64) BLOCK_ROWS rows s.births };
  kinds = s.kinds_are;
  follow = follow_take range table BLOCK_ROWS last rows s.follow;
}

others_stand : (want : Want) (range table : ℕ) (kinds : List Kind) (last : Key) (rows : Rows) → RowsStand want range table kinds last rows → RowsStand want range table kinds (last_key table last (take BLOCK_ROWS rows)) (drop BLOCK_ROWS rows)
others_stand want range table kinds last rows s = record {
  table_is = s.table_is;
  small = s.small;
  columns = s.columns;
  fixed = s.fixed;
  rising = rises_drop BLOCK_ROWS rows s.rising;
  rows_are = all_drop (IsRowOf kinds) BLOCK_ROWS rows s.rows_are;
  births = all_drop (λ (row : ℕ × Partial). row.1.birth.born < 2 ^ 64) BLOCK_ROWS rows s.births;
  kinds_are = s.kinds_are;
  follow = follow_drop range table BLOCK_ROWS last rows s.follow;
}

blocks_more : (table : ℕ) (kinds : List Kind) (rows : Rows) → 1 ≤ length rows → blocks_of_rows table kinds rows ≡ block_of table kinds (take BLOCK_ROWS rows) ∷ blocks_of_rows table kinds (drop BLOCK_ROWS rows)
blocks_more table kinds rows some = ap (map (block_of table kinds)) (blocks_begin rows some)

blocks_none : (table : ℕ) (kinds : List Kind) (rows : Rows) → length rows ≡ 0 → blocks_of_rows table kinds rows ≡ []
blocks_none table kinds rows none = ap (map (block_of table kinds)) (blocks_end rows none)

table_chain : (want : Want) (range table : ℕ) (kinds : List Kind) (n : ℕ) (last : Key) (rows : Rows) (more : List FileBlock) → length rows ≤ n → RowsStand want range table kinds last rows → Chain want range (last_key table last rows) more
    → Chain want range last (blocks_of_rows table kinds rows ++ more)
table_chain want range table kinds n last [] more le s chain = subst (λ (l : List FileBlock). Chain want range last (l ++ more)) (sym (blocks_none table kinds [] refl)) chain
table_chain want range table kinds zero last (row ∷ rows) more le s chain = absurd (omega arith)
table_chain want range table kinds (suc n) last (row ∷ rows) more le s chain =
    let whole : Rows = row ∷ rows in
    let some : 1 ≤ length whole = omega arith in
    let less : length (drop BLOCK_ROWS whole) ≤ n = omega (arith, length-drop BLOCK_ROWS whole) in
    let behind = subst (λ (k : Key). Chain want range k more) (sym (last_split table BLOCK_ROWS last whole)) chain in
    let others = table_chain want range table kinds n (last_key table last (take BLOCK_ROWS whole)) (drop BLOCK_ROWS whole) more less (others_stand want range table kinds last whole s) behind in
    let both : Chain want range last (block_of table kinds (take BLOCK_ROWS whole) ∷ (blocks_of_rows table kinds (drop BLOCK_ROWS whole) ++ more)) = (first_stands want range table kinds last whole some s, others) in
    subst (λ (l : List FileBlock). Chain want range last (l ++ more)) (sym (blocks_more table kinds whole some)) both

-- ---- all tables

rise_below : (a b : ℕ) (tables : List TableRows) → a ≤ b → RiseBehind b tables → RiseBehind a tables
rise_below a b [] le r = tt
rise_below a b (t ∷ ts) le r = (omega (arith, r.0), r.1)

table_stands : (want : Want) (range : ℕ) (last : Key) (t : TableRows) → last.table < t.table → AreTableRows range t → IsWantedTable want t → RowsStand want range t.table t.kinds last t.rows
table_stands want range last t lt are wanted = record {
  table_is = are.table_is;
  small = wanted.numbers.table_is;
  columns = are.columns;
  fixed = are.fixed;
  rising = are.rising;
  rows_are = are.rows_are;
  births = wanted.numbers.births_are;
  kinds_are = wanted.kinds;
  follow = follow_table range t.table last t.rows lt are.rising are.in_day;
}

tables_chain : (want : Want) (range : ℕ) (tables : List TableRows) (last : Key) → RiseBehind last.table tables → AllByRecursion (AreTableRows range) tables → AllByRecursion (IsWantedTable want) tables → Chain want range last (all_blocks tables)
tables_chain want range [] last rise are wanted = tt
tables_chain want range (t ∷ ts) last rise are wanted =
    let end = last_key t.table last t.rows in
    let le : end.table ≤ t.table = last_table t.table last t.rows (omega (arith, rise.0)) in
    let others = tables_chain want range ts end (rise_below end.table t.table ts le rise.1) are.1 wanted.1 in
    let own = table_chain want range t.table t.kinds (length t.rows) last t.rows (all_blocks ts) (omega arith) (table_stands want range last t rise.0 are.0 wanted.0) others in
    subst (λ (l : List FileBlock). Chain want range last l) (sym (flat_map-cons table_blocks t ts)) own

-- ---- what is wanted of them

wanted_append : (want : Want) (table : ℕ) (xs ys : Rows) → wanted_in want table (xs ++ ys) ≡ wanted_in want table xs ++ wanted_in want table ys
wanted_append want table xs ys = by_test (eqb table want.table) where
  of_rows : Rows → List (Key × Partial)
  of_rows rows = keyed want.table (wanted_of want.lo want.hi rows)

  by_test : (t : Bool) → cond t (keyed want.table (wanted_of want.lo want.hi (xs ++ ys))) [] ≡ cond t (keyed want.table (wanted_of want.lo want.hi xs)) [] ++ cond t (keyed want.table (wanted_of want.lo want.hi ys)) []
  by_test true = ap (keyed want.table) (filter-append (is_wanted want.lo want.hi) xs ys) ∙ Rattle.std.proofs.lemmas.List.map-append (λ (row : ℕ × Partial). (key_of want.table row, row.1)) (wanted_of want.lo want.hi xs) (wanted_of want.lo want.hi ys)
  by_test false = refl

wanted_none : (want : Want) (table : ℕ) → wanted_in want table [] ≡ []
wanted_none want table = by_test (eqb table want.table) where
  by_test : (t : Bool) → cond t (keyed want.table (wanted_of want.lo want.hi [])) [] ≡ []
  by_test true = refl
  by_test false = refl

table_wanted : (want : Want) (table : ℕ) (kinds : List Kind) (n : ℕ) (rows : Rows) → length rows ≤ n → all_wanted want (blocks_of_rows table kinds rows) ≡ wanted_in want table rows
table_wanted want table kinds n [] le = ap (all_wanted want) (blocks_none table kinds [] refl) ∙ sym (wanted_none want table)
table_wanted want table kinds zero (row ∷ rows) le = absurd (omega arith)
table_wanted want table kinds (suc n) (row ∷ rows) le =
    let whole : Rows = row ∷ rows in
    let some : 1 ≤ length whole = omega arith in
    let less : length (drop BLOCK_ROWS whole) ≤ n = omega (arith, length-drop BLOCK_ROWS whole) in
    let others = table_wanted want table kinds n (drop BLOCK_ROWS whole) less in
    ap (all_wanted want) (blocks_more table kinds whole some)
    ∙ flat_map-cons (wanted_block want) (block_of table kinds (take BLOCK_ROWS whole)) (blocks_of_rows table kinds (drop BLOCK_ROWS whole))
    ∙ ap (λ (l : List (Key × Partial)). wanted_in want table (take BLOCK_ROWS whole) ++ l) others
    ∙ sym (wanted_append want table (take BLOCK_ROWS whole) (drop BLOCK_ROWS whole))
    ∙ ap (wanted_in want table) (take-append-drop BLOCK_ROWS whole)

abbrev of_table : Want → TableRows → List (Key × Partial)
of_table want t = wanted_in want t.table t.rows

tables_wanted : (want : Want) (tables : List TableRows) → all_wanted want (all_blocks tables) ≡ partials_of want tables
tables_wanted want [] = refl
tables_wanted want (t ∷ ts) =
    ap (all_wanted want) (flat_map-cons table_blocks t ts)
    ∙ flat_map-append (wanted_block want) (table_blocks t) (all_blocks ts)
    ∙ ap (λ (l : List (Key × Partial)). l ++ all_wanted want (all_blocks ts)) (table_wanted want t.table t.kinds (length t.rows) t.rows (omega arith))
    ∙ ap (λ (l : List (Key × Partial)). of_table want t ++ l) (tables_wanted want ts)
    ∙ sym (flat_map-cons (of_table want) t ts)

-- ---- the file

opened : (range : ℕ) (tables : List TableRows) → range < 2 ^ 32 → CanWrite range tables → opening_at (bytes_of_list range tables) ≡ Ok ((Rattle.td_sttfile.specs.declared.format.TheConstants.FILE_MAGIC, (range, (all_cuts tables, length (all_blocks tables)))), opening_length (length (all_cuts tables)))
opened range tables r can = opening_read range (all_cuts tables) (all_blocks tables) r can.few can.rows.few can.cuts

pub scanned_back : (want : Want) (range : ℕ) (tables : List TableRows) → range < 2 ^ 32 → CanWrite range tables → AllByRecursion (IsWantedTable want) tables → scanned want (bytes_of_list range tables) ≡ gives (partials_of want tables)
unfolding scanned
scanned_back want range tables r can wanted =
    let all = bytes_of_list range tables in
    let cuts = all_cuts tables in
    let blocks = all_blocks tables in
    let at = opening_length (length cuts) in
    let behind : drop at all ≡ blocks_bytes blocks = ap (drop at) (file_parts range cuts blocks) ∙ drop_at (opening_bytes range cuts (length blocks)) (blocks_bytes blocks) at (opening_size range (length blocks) cuts) in
    let chain = tables_chain want range tables before_all can.rows.rise can.rows.each wanted in
    ap (behind_opening want all) (opened range tables r can)
    ∙ walk_blocks want range blocks all at before_all (to_le_bytes w32 Rattle.td_sttfile.specs.declared.format.TheConstants.FILE_END) behind (AreBytes-drop at all (file_small want range before_all cuts blocks chain)) chain
    ∙ ap gives (tables_wanted want tables)

pub cuts_back : (range : ℕ) (tables : List TableRows) → range < 2 ^ 32 → CanWrite range tables → cuts_of_file (bytes_of_list range tables) ≡ map as_cut (all_cuts tables)
unfolding cuts_of_file
cuts_back range tables r can = ap cuts_opened (opened range tables r can)
