-- A fold of a file that was written gives the tally of its rows.
use Rattle.std.proofs.Common.{◌≡◌, ℕ, zero, suc, ◌+◌, ◌^◌, ◌<◌, ◌≤◌, ℤ, Bool, true, false, cond, eqb, leb, List, [], ◌∷◌, ◌++◌, length, drop, Option, Some, None, Result, Ok, Err, ◌⊎◌, inl, inr, refl, sym, ap, subst, ◌∙◌, append_assoc, arith}
use Rattle.std.specs.Prelude.{◌&&◌, ◌+ℤ◌, IfSome, slice_get, slice_index_or}
use Rattle.std.specs.List.{AllByRecursion, flat_map}
use Rattle.std.specs.Int.{int_min, int_max}
use Rattle.std.proofs.lemmas.Bool.{and_parts, eqb-true, eq-eqb, cases_lt}
use Rattle.std.proofs.lemmas.Bool.Decides.{nat_tests}
use Rattle.std.proofs.lemmas.List.{map-append, get_or-map, drop_at}
use Rattle.td_block.proofs.RowLaws.{length-columns_of, columns_of-column}
use Rattle.std.proofs.lemmas.List.Concat.{flat_map-cons}
use Rattle.td_cols.specs.declared.kinds.Kind.{Kind}
use Rattle.td_layer.specs.declared.values.Key.{Key}
use Rattle.td_layer.specs.declared.values.Value.{Value}
use Rattle.td_layer.specs.declared.values.Value.TheVariants as value
use Rattle.td_layer.specs.declared.parts.Partial.{Partial}
use Rattle.td_codec.specs.Fields.{◌>>=◌}
use Rattle.td_aggr.specs.declared.tally.Tally.{Tally}
use Rattle.td_aggr.specs.Aggregates.{is_before}
use Rattle.td_aggr.specs.Tallies.{Mark, key_of as mark_key, lesser, greater, earlier, later, empty_tally, tally_of_row, tally_of, merged}
use Rattle.td_aggr.specs.Laws.{same_tally, of_joined_rows}
use Rattle.td_block.specs.Rows.{Rows, column_at, columns_of}
use Rattle.td_fileio.specs.Days.{is_in_day}
use Rattle.td_codec.proofs.FieldLaws.{ok_is}
use Rattle.td_fileio.specs.declared.lists.TableRows.{TableRows}
use Rattle.td_fileio.specs.Lists.{FileBlock, all_blocks}
use Rattle.td_datafile.specs.declared.format.Summary.{Summary}
use Rattle.td_datafile.specs.declared.format.Entry.{Entry}
use Rattle.td_datafile.specs.Sums.{numbers_of, summary_of, no_numbers, with_cell, summaries}
use Rattle.td_datafile.specs.declared.opening.Opening.{Opening}
use Rattle.td_datafile.specs.declared.blocks.Spot.{Spot}
use Rattle.td_datafile.specs.declared.folding.BlockPart.{BlockPart}
use Rattle.td_datafile.specs.declared.folding.Gathering.{Gathering}
use Rattle.td_datafile.specs.Index.{bytes_of_block, entry_of, index_of, entry_bytes}
use Rattle.td_datafile.specs.Written.{blocks_begin, bytes_of_list, CanWrite}
use Rattle.td_datafile.specs.Blocks.{is_behind, key_of, own_block}
use Rattle.td_datafile.specs.Scanned.{Want, is_wanted, wanted_of, keyed, is_needed, last_key, wanted_block, before_all}
use Rattle.td_datafile.specs.Contents.{partials_of, IsWantedTable}
use Rattle.td_datafile.specs.Folding.{value_of, column_of, tally_of_rows, is_covered, bound_of, tally_of_summary, summed_part, read_part, part_of, nothing_gathered, counted, one_gathered, either, both, gathered_of, spot_behind, gathered, block_marks, marks_of, with_marks, folded_behind, folded}
use Rattle.td_datafile.proofs.EntryLaws.{count_is}
use Rattle.td_datafile.proofs.SumLaws.{with_cells, all_cells}
use Rattle.td_datafile.proofs.Folds.{more, gathered_next, gathered_ends}
use Rattle.td_datafile.proofs.Openings.{front_bytes, tail_bytes, file_parts}
use Rattle.td_datafile.proofs.Tables.{opened, chain_of, tables_wanted}
use Rattle.td_datafile.proofs.Contents.{entry_end, keyed_wanted, end_key, Follow, Stands, Chain, between, rows_wanted, block_read, own_read, wanted_of_block, all_wanted, next_block}

-- ---- first and last values have keys of rows

abbrev Pairs : Type 0
Pairs = List (Key × Value)

-- the key of a mark, where there is one
abbrev Marked : (Key → Type 0) → Option Mark → Type 0
Marked P m = IfSome m (λ (x : Mark). P (mark_key x))

earlier_marked : (P : Key → Type 0) (a b : Option Mark) → Marked P a → Marked P b → Marked P (earlier a b)
earlier_marked P None b p q = q
earlier_marked P (Some m) None p q = p
earlier_marked P (Some m) (Some n) p q = elim (is_before (mark_key n) (mark_key m)) as (λ t. P (mark_key (cond t n m))) [ true ↦ q | false ↦ p ]

later_marked : (P : Key → Type 0) (a b : Option Mark) → Marked P a → Marked P b → Marked P (later a b)
later_marked P None b p q = q
later_marked P (Some m) None p q = p
later_marked P (Some m) (Some n) p q = elim (is_before (mark_key n) (mark_key m)) as (λ t. P (mark_key (cond t m n))) [ true ↦ p | false ↦ q ]

row_marked : (P : Key → Type 0) (v : Value) (k : Key) → P k → Marked P (tally_of_row v k).first × Marked P (tally_of_row v k).last
row_marked P value.Null k p = (tt, tt)
row_marked P (value.Num n) k p = (p, p)

list_marked : (P : Key → Type 0) (pairs : Pairs) → AllByRecursion (λ (p : Key × Value). P p.0) pairs → Marked P (tally_of pairs).first × Marked P (tally_of pairs).last
list_marked P [] all = (tt, tt)
list_marked P (x ∷ xs) all =
    let own = row_marked P x.1 x.0 all.0 in
    let others = list_marked P xs all.1 in
    (earlier_marked P (tally_of_row x.1 x.0).first (tally_of xs).first own.0 others.0, later_marked P (tally_of_row x.1 x.0).last (tally_of xs).last own.1 others.1)

-- there is a first and a last value just where there is any
record HasMark (n : ℕ) (m : Option Mark) : Type 0 where
  none : n ≡ 0 → m ≡ None
  some : 1 ≤ n → (x : Mark) × (m ≡ Some x)

some_earlier : (x : Mark) (n : Option Mark) → (y : Mark) × (earlier (Some x) n ≡ Some y)
some_earlier x None = (x, refl)
some_earlier x (Some z) = (cond (is_before (mark_key z) (mark_key x)) z x, refl)

some_later : (m : Option Mark) (z : Mark) → (y : Mark) × (later m (Some z) ≡ Some y)
some_later None z = (z, refl)
some_later (Some x) z = (cond (is_before (mark_key z) (mark_key x)) x z, refl)

later_none : (m : Option Mark) → later m None ≡ m
later_none None = refl
later_none (Some m) = refl

first_joined : (a b : ℕ) (m n : Option Mark) → HasMark a m → HasMark b n → HasMark (a + b) (earlier m n)
first_joined a b m n p q = record {
  none = λ e. ap (λ (x : Option Mark). earlier x n) (p.none (omega (arith, e))) ∙ q.none (omega (arith, e));
  some = λ le. elim (cases_lt a 1) [
    | inl lt ↦
        let y = q.some (omega (arith, lt, le)) in
        (y.0, ap (λ (x : Option Mark). earlier x n) (p.none (omega (arith, lt))) ∙ y.1)
    | inr past ↦
        let x = p.some past in
        let y = some_earlier x.0 n in
        (y.0, ap (λ (k : Option Mark). earlier k n) x.1 ∙ y.1)
  ];
}

last_joined : (a b : ℕ) (m n : Option Mark) → HasMark a m → HasMark b n → HasMark (a + b) (later m n)
last_joined a b m n p q = record {
  none = λ e. ap (later m) (q.none (omega (arith, e))) ∙ later_none m ∙ p.none (omega (arith, e));
  some = λ le. elim (cases_lt b 1) [
    | inl lt ↦
        let y = p.some (omega (arith, lt, le)) in
        (y.0, ap (later m) (q.none (omega (arith, lt))) ∙ later_none m ∙ y.1)
    | inr past ↦
        let z = q.some past in
        let y = some_later m z.0 in
        (y.0, ap (later m) z.1 ∙ y.1)
  ];
}

no_mark : HasMark 0 None
no_mark = record { none = λ _. refl; some = λ le. absurd (omega (arith, le)) }

one_mark : (x : Mark) → HasMark 1 (Some x)
one_mark x = record { none = λ e. absurd (omega (arith, e)); some = λ _. (x, refl) }

row_mark : (v : Value) (k : Key) → HasMark (tally_of_row v k).count (tally_of_row v k).first × HasMark (tally_of_row v k).count (tally_of_row v k).last
row_mark value.Null k = (no_mark, no_mark)
row_mark (value.Num n) k = (one_mark (k.ts, k.table, n), one_mark (k.ts, k.table, n))

list_mark : (pairs : Pairs) → HasMark (tally_of pairs).count (tally_of pairs).first × HasMark (tally_of pairs).count (tally_of pairs).last
list_mark [] = (no_mark, no_mark)
list_mark (x ∷ xs) =
    let own = row_mark x.1 x.0 in
    let others = list_mark xs in
    let a = tally_of_row x.1 x.0 in
    let b = tally_of xs in
    (first_joined a.count b.count a.first b.first own.0 others.0, last_joined a.count b.count a.last b.last own.1 others.1)

-- ---- a summary says what the tally of its rows is, but for the first and the last value

pub record Agrees (s t : Tally) : Type 0 where
  pub rows : s.rows ≡ t.rows
  pub count : s.count ≡ t.count
  pub sum : s.sum ≡ t.sum
  pub min : s.min ≡ t.min
  pub max : s.max ≡ t.max

agrees_same : (t : Tally) → Agrees t t
agrees_same t = record { rows = refl; count = refl; sum = refl; min = refl; max = refl }

agrees_merged : (s s' t t' : Tally) → Agrees s t → Agrees s' t' → Agrees (merged s s') (merged t t')
agrees_merged s s' t t' p q = record {
  rows = ap (λ (n : ℕ). n + s'.rows) p.rows ∙ ap (λ (n : ℕ). t.rows + n) q.rows;
  count = ap (λ (n : ℕ). n + s'.count) p.count ∙ ap (λ (n : ℕ). t.count + n) q.count;
  sum = ap (λ (n : ℤ). n +ℤ s'.sum) p.sum ∙ ap (λ (n : ℤ). t.sum +ℤ n) q.sum;
  min = ap (λ (v : Value). lesser v s'.min) p.min ∙ ap (λ (v : Value). lesser t.min v) q.min;
  max = ap (λ (v : Value). greater v s'.max) p.max ∙ ap (λ (v : Value). greater t.max v) q.max;
}

agrees_then : (s t u : Tally) → Agrees s t → Agrees t u → Agrees s u
agrees_then s t u p q = record { rows = p.rows ∙ q.rows; count = p.count ∙ q.count; sum = p.sum ∙ q.sum; min = p.min ∙ q.min; max = p.max ∙ q.max }

-- one cell more
not_none : (count : ℕ) → eqb (count + 1) 0 ≡ false
not_none count = grind (arith, nat_tests)

low_more : (n : ℤ) (count : ℕ) (low : ℤ) → bound_of (count + 1) (cond (eqb count 0) n (int_min n low)) ≡ lesser (value.Num n) (bound_of count low)
low_more n count low = ap (λ (t : Bool). cond t value.Null (value.Num (cond (eqb count 0) n (int_min n low)))) (not_none count) ∙ by_test (eqb count 0) where
  by_test : (t : Bool) → value.Num (cond t n (int_min n low)) ≡ lesser (value.Num n) (cond t value.Null (value.Num low))
  by_test true = refl
  by_test false = refl

high_more : (n : ℤ) (count : ℕ) (high : ℤ) → bound_of (count + 1) (cond (eqb count 0) n (int_max n high)) ≡ greater (value.Num n) (bound_of count high)
high_more n count high = ap (λ (t : Bool). cond t value.Null (value.Num (cond (eqb count 0) n (int_max n high)))) (not_none count) ∙ by_test (eqb count 0) where
  by_test : (t : Bool) → value.Num (cond t n (int_max n high)) ≡ greater (value.Num n) (cond t value.Null (value.Num high))
  by_test true = refl
  by_test false = refl

cell_more : (rows : ℕ) (c : Option Value) (k : Key) (s : Summary) → Agrees (tally_of_summary (suc rows) (with_cell c s)) (merged (tally_of_row (value_of c) k) (tally_of_summary rows s))
cell_more rows None k s = record { rows = omega arith; count = omega arith; sum = omega (arith, Rattle.std.proofs.lemmas.Int.ints); min = refl; max = refl }
cell_more rows (Some value.Null) k s = record { rows = omega arith; count = omega arith; sum = omega (arith, Rattle.std.proofs.lemmas.Int.ints); min = refl; max = refl }
cell_more rows (Some (value.Num n)) k s = record { rows = omega arith; count = omega arith; sum = refl; min = low_more n s.count s.least; max = high_more n s.count s.greatest }

column_agrees : (table column : ℕ) (rows : Rows) → Agrees (tally_of_summary (length rows) (with_cells (column_at rows column) no_numbers)) (tally_of (column_of column (keyed table rows)))
column_agrees table column [] = agrees_same empty_tally
column_agrees table column (row ∷ rows) =
    let c = slice_index_or row.1.cells column None in
    let k = key_of table row in
    let s = with_cells (column_at rows column) no_numbers in
    let others = column_agrees table column rows in
    agrees_then (tally_of_summary (suc (length rows)) (with_cell c s)) (merged (tally_of_row (value_of c) k) (tally_of_summary (length rows) s)) (merged (tally_of_row (value_of c) k) (tally_of (column_of column (keyed table rows))))
    (cell_more (length rows) c k s)
    (agrees_merged (tally_of_row (value_of c) k) (tally_of_summary (length rows) s) (tally_of_row (value_of c) k) (tally_of (column_of column (keyed table rows))) (agrees_same (tally_of_row (value_of c) k)) others)

pub summary_agrees : (table column : ℕ) (rows : Rows) → Agrees (tally_of_summary (length rows) (summary_of (numbers_of (column_at rows column)))) (tally_of (column_of column (keyed table rows)))
summary_agrees table column rows =
    subst (λ (s : Summary). Agrees (tally_of_summary (length rows) s) (tally_of (column_of column (keyed table rows)))) (all_cells (column_at rows column)) (column_agrees table column rows)

-- the summary of a column among those of all
column_summary : (columns column : ℕ) (rows : Rows) → column < columns → slice_index_or (summaries columns rows) column no_numbers ≡ summary_of (numbers_of (column_at rows column))
column_summary columns column rows lt =
    let of = λ (cells : List (Option Value)). summary_of (numbers_of cells) in
    get_or-map of (columns_of columns rows) column [] no_numbers (omega (arith, lt, length-columns_of columns rows)) ∙ ap of (columns_of-column columns rows column lt)

-- ---- keys of what is wanted

behind_trans : (a b c : Key) → is_behind a b ≡ true → is_behind b c ≡ true → is_behind a c ≡ true
behind_trans a b c p q = grind (arith, nat_tests)

-- a key of the wanted table behind another key, or one that isn't
record IsBehind (want : Want) (last key : Key) : Type 0 where
  table : key.table ≡ want.table
  behind : is_behind last key ≡ true

record IsUpTo (want : Want) (end key : Key) : Type 0 where
  table : key.table ≡ want.table
  up_to : is_behind end key ≡ false

abbrev AllKeys : {A : Type 0} → (Key → Type 0) → List (Key × A) → Type 0
AllKeys P pairs = AllByRecursion (λ p. P p.0) pairs

keys_joined : {A : Type 0} (P : Key → Type 0) (xs ys : List (Key × A)) → AllKeys P xs → AllKeys P ys → AllKeys P (xs ++ ys)
keys_joined P [] ys h k = k
keys_joined P (x ∷ xs) ys h k = (h.0, keys_joined P xs ys h.1 k)

keys_of_column : (P : Key → Type 0) (column : ℕ) (xs : List (Key × Partial)) → AllKeys P xs → AllKeys P (column_of column xs)
keys_of_column P column [] h = tt
keys_of_column P column (x ∷ xs) h = (h.0, keys_of_column P column xs h.1)

-- keys of rows, of which some are wanted
wanted_keys : (P : Key → Type 0) (table lo hi : ℕ) (rows : Rows) → AllByRecursion (λ (row : ℕ × Partial). P (key_of table row)) rows → AllKeys P (keyed table (wanted_of lo hi rows))
wanted_keys P table lo hi [] h = tt
wanted_keys P table lo hi (row ∷ rows) h = picked (is_wanted lo hi row) (wanted_keys P table lo hi rows h.1) where
  picked : (t : Bool) → AllKeys P (keyed table (wanted_of lo hi rows)) → AllKeys P (keyed table (cond t (row ∷ wanted_of lo hi rows) (wanted_of lo hi rows)))
  picked true others = (h.0, others)
  picked false others = others

rows_behind : (range table : ℕ) (last from : Key) (rows : Rows) → (from ≡ last) ⊎ (is_behind last from ≡ true) → Follow range table from rows → AllByRecursion (λ (row : ℕ × Partial). is_behind last (key_of table row) ≡ true) rows
rows_behind range table last from [] s f = tt
rows_behind range table last from (row ∷ rows) s f =
    let own = (and_parts (is_behind from (key_of table row)) (is_in_day range row.0) f.0).0 in
    let behind : is_behind last (key_of table row) ≡ true = elim s [
      | inl same ↦ subst (λ (k : Key). is_behind k (key_of table row) ≡ true) same own
      | inr later ↦ behind_trans last from (key_of table row) later own
    ] in
    (behind, rows_behind range table last (key_of table row) rows (inr behind) f.1)

-- the last key of rows isn't before any of them
end_from : (range table : ℕ) (from : Key) (rows : Rows) → Follow range table from rows → (end_key table from rows ≡ from) ⊎ (is_behind from (end_key table from rows) ≡ true)
end_from range table from [] f = inl refl
end_from range table from (row ∷ rows) f =
    let own = (and_parts (is_behind from (key_of table row)) (is_in_day range row.0) f.0).0 in
    inr (elim (end_from range table (key_of table row) rows f.1) [
      | inl same ↦ subst (λ (k : Key). is_behind from k ≡ true) (sym same) own
      | inr later ↦ behind_trans from (key_of table row) (end_key table (key_of table row) rows) own later
    ])

not_behind : (a b : Key) → (b ≡ a) ⊎ (is_behind a b ≡ true) → is_behind b a ≡ false
not_behind a b (inl same) = subst (λ (k : Key). is_behind k a ≡ false) (sym same) (never a) where
  never : (k : Key) → is_behind k k ≡ false
  never k = grind (arith, nat_tests)
not_behind a b (inr later) = grind (arith, nat_tests)

rows_up_to : (range table : ℕ) (from : Key) (rows : Rows) → Follow range table from rows → AllByRecursion (λ (row : ℕ × Partial). is_behind (end_key table from rows) (key_of table row) ≡ false) rows
rows_up_to range table from [] f = tt
rows_up_to range table from (row ∷ rows) f =
    (not_behind (key_of table row) (end_key table (key_of table row) rows) (end_from range table (key_of table row) rows f.1), rows_up_to range table (key_of table row) rows f.1)

all_with : {A : Type 0} (P Q : A → Type 0) (xs : List A) → ((x : A) → P x → Q x) → AllByRecursion P xs → AllByRecursion Q xs
all_with P Q [] f h = tt
all_with P Q (x ∷ xs) f h = (f x h.0, all_with P Q xs f h.1)

block_behind : (want : Want) (range : ℕ) (last : Key) (b : FileBlock) → Stands want range last b → AllKeys (IsBehind want last) (wanted_of_block want b)
block_behind want range last b s = by_test (eqb b.table want.table) refl where
  by_test : (t : Bool) → eqb b.table want.table ≡ t → AllKeys (IsBehind want last) (cond t (keyed want.table (wanted_of want.lo want.hi b.rows)) [])
  by_test false e = tt
  by_test true e =
      let all = subst (λ (n : ℕ). AllByRecursion (λ (row : ℕ × Partial). is_behind last (key_of n row) ≡ true) b.rows) (eqb-true b.table want.table e) (rows_behind range b.table last last b.rows (inl refl) s.follow) in
      wanted_keys (IsBehind want last) want.table want.lo want.hi b.rows (all_with (λ (row : ℕ × Partial). is_behind last (key_of want.table row) ≡ true) (λ (row : ℕ × Partial). IsBehind want last (key_of want.table row)) b.rows (λ row h. record { table = refl; behind = h }) all)

block_up_to : (want : Want) (range : ℕ) (last : Key) (b : FileBlock) → Stands want range last b → AllKeys (IsUpTo want (end_key b.table last b.rows)) (wanted_of_block want b)
block_up_to want range last b s = by_test (eqb b.table want.table) refl where
  end : Key
  end = end_key b.table last b.rows

  by_test : (t : Bool) → eqb b.table want.table ≡ t → AllKeys (IsUpTo want end) (cond t (keyed want.table (wanted_of want.lo want.hi b.rows)) [])
  by_test false e = tt
  by_test true e =
      let all = subst (λ (n : ℕ). AllByRecursion (λ (row : ℕ × Partial). is_behind end (key_of n row) ≡ false) b.rows) (eqb-true b.table want.table e) (rows_up_to range b.table last b.rows s.follow) in
      wanted_keys (IsUpTo want end) want.table want.lo want.hi b.rows (all_with (λ (row : ℕ × Partial). is_behind end (key_of want.table row) ≡ false) (λ (row : ℕ × Partial). IsUpTo want end (key_of want.table row)) b.rows (λ row h. record { table = refl; up_to = h }) all)

chain_behind : (want : Want) (range : ℕ) (last : Key) (bs : List FileBlock) → Chain want range last bs → AllKeys (IsBehind want last) (all_wanted want bs)
chain_behind want range last [] chain = tt
chain_behind want range last (b ∷ bs) chain =
    let end = end_key b.table last b.rows in
    let others = chain_behind want range end bs chain.1 in
    let later : AllKeys (IsBehind want last) (all_wanted want bs) = elim (end_from range b.table last b.rows chain.0.follow) [
      | inl same ↦ subst (λ (k : Key). AllKeys (IsBehind want k) (all_wanted want bs)) same others
      | inr behind ↦ all_with (λ (p : Key × Partial). IsBehind want end p.0) (λ (p : Key × Partial). IsBehind want last p.0) (all_wanted want bs) (λ p h. record { table = h.table; behind = behind_trans last end p.0 behind h.behind }) others
    ] in
    subst (λ (l : List (Key × Partial)). AllKeys (IsBehind want last) l) (sym (flat_map-cons (wanted_of_block want) b bs)) (keys_joined (IsBehind want last) (wanted_of_block want b) (all_wanted want bs) (block_behind want range last b chain.0) later)

-- ---- which of two marks is first and last

later_not_before : (want : Want) (end a b : Key) → IsUpTo want end a → IsBehind want end b → is_before b a ≡ false
later_not_before want end a b p q = ordered want.table end a b p.table p.up_to q.table q.behind where
  ordered : (t : ℕ) (end a b : Key) → a.table ≡ t → is_behind end a ≡ false → b.table ≡ t → is_behind end b ≡ true → is_before b a ≡ false
  ordered t end a b p q r s = grind (arith, nat_tests)

first_stays : (want : Want) (end : Key) (m : Mark) (n : Option Mark) → IsUpTo want end (mark_key m) → Marked (IsBehind want end) n → earlier (Some m) n ≡ Some m
first_stays want end m None p q = refl
first_stays want end m (Some n) p q = ap (λ (t : Bool). Some (cond t n m)) (later_not_before want end (mark_key m) (mark_key n) p q)

last_comes : (want : Want) (end : Key) (m : Option Mark) (n : Mark) → Marked (IsUpTo want end) m → IsBehind want end (mark_key n) → later m (Some n) ≡ Some n
last_comes want end None n p q = refl
last_comes want end (Some m) n p q = ap (λ (t : Bool). Some (cond t m n)) (later_not_before want end (mark_key m) (mark_key n) p q)

-- ---- what was gathered is that of rows

-- The rows of a block say of the first or the last value what is given, and there is one; or there is neither block nor
-- value.
abbrev Tells : Want → ℕ → List Entry → List ℕ → (Tally → Option Mark) → Option BlockPart → Option Mark → Type 0
Tells want column entries all of None m = m ≡ None
Tells want column entries all of (Some b) m = (t : Tally) × (x : Mark) × (marks_of want column entries all (Some b) ≡ Ok t) × (of t ≡ m) × (m ≡ Some x)

abbrev front : Tally → Option Mark
front t = t.first

abbrev back : Tally → Option Mark
back t = t.last

-- what was gathered is the tally of some rows, of which the blocks tell the first and the last value
pub record Sums (want : Want) (column : ℕ) (entries : List Entry) (all : List ℕ) (g : Gathering) (t : Tally) : Type 0 where
  pub agrees : Agrees g.tally t
  pub first : Tells want column entries all front g.first t.first
  pub last : Tells want column entries all back g.last t.last

first_both : (want : Want) (column : ℕ) (entries : List Entry) (all : List ℕ) (end : Key) (a b : Option BlockPart) (m n : Option Mark) → Tells want column entries all front a m → Tells want column entries all front b n → Marked (IsUpTo want end) m → Marked (IsBehind want end) n → Tells want column entries all front (either a b) (earlier m n)
first_both want column entries all end None b m n p q up behind = subst (λ (y : Option Mark). Tells want column entries all front b (earlier y n)) (sym p) q
first_both want column entries all end (Some c) b m n p q up behind =
    let x = p.1 in
    let some : m ≡ Some x = p.4 in
    let mark : IsUpTo want end (mark_key x) = subst (λ (y : Option Mark). Marked (IsUpTo want end) y) some up in
    let same : earlier m n ≡ m = ap (λ (y : Option Mark). earlier y n) some ∙ first_stays want end x n mark behind ∙ sym some in
    subst (λ (y : Option Mark). Tells want column entries all front (Some c) y) (sym same) p

last_both : (want : Want) (column : ℕ) (entries : List Entry) (all : List ℕ) (end : Key) (a b : Option BlockPart) (m n : Option Mark) → Tells want column entries all back a m → Tells want column entries all back b n → Marked (IsUpTo want end) m → Marked (IsBehind want end) n → Tells want column entries all back (either b a) (later m n)
last_both want column entries all end a None m n p q up behind =
    let same : later m n ≡ m = ap (later m) q ∙ later_none m in
    subst (λ (y : Option Mark). Tells want column entries all back a y) (sym same) p
last_both want column entries all end a (Some c) m n p q up behind =
    let x = q.1 in
    let some : n ≡ Some x = q.4 in
    let mark : IsBehind want end (mark_key x) = subst (λ (y : Option Mark). Marked (IsBehind want end) y) some behind in
    let same : later m n ≡ n = ap (later m) some ∙ last_comes want end m x up mark ∙ sym some in
    subst (λ (y : Option Mark). Tells want column entries all back (Some c) y) (sym same) q

none_sums : (want : Want) (column : ℕ) (entries : List Entry) (all : List ℕ) → Sums want column entries all nothing_gathered empty_tally
none_sums want column entries all = record { agrees = agrees_same empty_tally; first = refl; last = refl }

-- a block whose part agrees with the tally of its rows, and which tells the first and the last
tells_counted : (want : Want) (column : ℕ) (entries : List Entry) (all : List ℕ) (of : Tally → Option Mark) (spot : Spot) (part t : Tally) → part.count ≡ t.count → HasMark t.count (of t) → marks_of want column entries all (Some (record { spot = spot; part = part })) ≡ Ok t → Tells want column entries all of (counted spot part) (of t)
tells_counted want column entries all of spot part t same has is = by_test (eqb part.count 0) refl where
  by_test : (u : Bool) → eqb part.count 0 ≡ u → Tells want column entries all of (cond u None (Some (record { spot = spot; part = part }))) (of t)
  by_test true e = let zero_is : part.count ≡ 0 = eqb-true part.count 0 e in has.none (sym same ∙ zero_is)
  by_test false e =
      let some : 1 ≤ part.count = grind (arith, nat_tests) in
      let x = has.some (omega (arith, some, same)) in
      (t, x.0, is, refl, x.1)

one_sums : (want : Want) (column : ℕ) (entries : List Entry) (all : List ℕ) (spot : Spot) (part : Tally) (pairs : Pairs) → Agrees part (tally_of pairs) → marks_of want column entries all (Some (record { spot = spot; part = part })) ≡ Ok (tally_of pairs) → Sums want column entries all (one_gathered spot part) (tally_of pairs)
one_sums want column entries all spot part pairs agrees is = record {
  agrees = agrees;
  first = tells_counted want column entries all front spot part (tally_of pairs) agrees.count (list_mark pairs).0 is;
  last = tells_counted want column entries all back spot part (tally_of pairs) agrees.count (list_mark pairs).1 is;
}

-- ---- one block

-- all rows are wanted where the first and the last are
all_in : (lo hi first last : ℕ) (rows : Rows) → (leb lo first && leb last hi) ≡ true → AllByRecursion (λ (row : ℕ × Partial). (first ≤ row.0) × (row.0 ≤ last)) rows → wanted_of lo hi rows ≡ rows
all_in lo hi first last [] within all = refl
all_in lo hi first last (row ∷ rows) within all =
    let one : is_wanted lo hi row ≡ true = inside lo hi first last row.0 within all.0.0 all.0.1 in
    ap (λ (t : Bool). cond t (row ∷ wanted_of lo hi rows) (wanted_of lo hi rows)) one ∙ ap (λ (l : Rows). row ∷ l) (all_in lo hi first last rows within all.1) where
      inside : (lo hi first last ts : ℕ) → (leb lo first && leb last hi) ≡ true → first ≤ ts → ts ≤ last → (leb lo ts && leb ts hi) ≡ true
      inside lo hi first last ts e p q = grind (arith, nat_tests)

-- what reading gave is gathered, and is the tally of what is wanted
pub record Gives (want : Want) (column : ℕ) (entries : List Entry) (all : List ℕ) (r : Result Gathering ℕ) (pairs : List (Key × Partial)) : Type 0 where
  pub found : Gathering
  pub is : r ≡ Ok found
  pub sums : Sums want column entries all found (tally_of (column_of column pairs))

abbrev part_found : Spot → Result Tally ℕ → Result Gathering ℕ
part_found spot r = r >>= λ (part : Tally). Ok (one_gathered spot part)

abbrev gathered_in : Gathering → Result Gathering ℕ
gathered_in g = Ok g

abbrev tally_in : Tally → Result Tally ℕ
tally_in t = Ok t

block_gives : (want : Want) (column : ℕ) (entries : List Entry) (spot : Spot) (at : ℕ) (all : List ℕ) (b : FileBlock) (rest : List ℕ) → column < length want.kinds → slice_get entries spot.next ≡ Some (entry_of at b) → Stands want spot.range spot.last b → drop at all ≡ bytes_of_block b ++ rest
    → Gives want column entries all (gathered_of want column spot (entry_of at b) all) (wanted_of_block want b)
block_gives want column entries spot at all b rest lt here s is = by_tests (is_needed want e) (is_covered want e) refl refl where
  e : Entry
  e = entry_of at b

  own : Result Rows ℕ
  own = own_block want.kinds spot.range spot.last spot.place e all

  read : wanted_block want spot.range spot.last spot.place e all ≡ Ok (rows_wanted want b)
  read = block_read want spot.range spot.last spot.place at all b rest s is

  rows_in : Rows → Result Rows ℕ
  rows_in rows = Ok rows

  gathers : Result Gathering ℕ → Type 0
  gathers r = Gives want column entries all r (wanted_of_block want b)

  wanted : keyed want.table (rows_wanted want b) ≡ wanted_of_block want b
  wanted = keyed_wanted want b (eqb b.table want.table)

  none_read : is_needed want e ≡ false → rows_wanted want b ≡ []
  none_read n = sym (ok_is [] (rows_wanted want b) (sym (ap (λ (t : Bool). cond t (own >>= λ (rows : Rows). rows_in (wanted_of want.lo want.hi rows)) (rows_in [])) n) ∙ read))

  is_table : is_needed want e ≡ true → eqb b.table want.table ≡ true
  is_table n = (and_parts (eqb b.table want.table) (leb want.lo e.last && leb e.first want.hi) n).0

  kinds : is_needed want e ≡ true → b.kinds ≡ want.kinds
  kinds n = s.kinds (eqb-true b.table want.table (is_table n))

  of_rows : Tally
  of_rows = tally_of_rows want column b.rows

  part_read : is_needed want e ≡ true → read_part want column spot e all ≡ Ok of_rows
  part_read n =
      let found : own ≡ Ok b.rows = ap (λ (k : List Kind). own_block k spot.range spot.last spot.place e all) (sym (kinds n)) ∙ own_read want spot.range spot.last spot.place at all b rest s is in
      ap (λ (r : Result Rows ℕ). r >>= λ (rows : Rows). tally_in (tally_of_rows want column rows)) found

  rows_are : is_needed want e ≡ true → wanted_of want.lo want.hi b.rows ≡ rows_wanted want b
  rows_are n = sym (ap (λ (t : Bool). cond t (wanted_of want.lo want.hi b.rows) []) (is_table n))

  pairs_are : is_needed want e ≡ true → keyed want.table (wanted_of want.lo want.hi b.rows) ≡ wanted_of_block want b
  pairs_are n = ap (keyed want.table) (rows_are n) ∙ wanted

  one_gives : (part : Tally) → is_needed want e ≡ true → part_of want column spot e all ≡ Ok part → Agrees part of_rows → marks_of want column entries all (Some (record { spot = spot; part = part })) ≡ Ok of_rows → gathers (gathered_of want column spot e all)
  one_gives part n found agrees marks = record {
    found = one_gathered spot part;
    is = ap (λ (t : Bool). cond t (part_found spot (part_of want column spot e all)) (gathered_in nothing_gathered)) n ∙ ap (part_found spot) found;
    sums = subst (λ (p : List (Key × Partial)). Sums want column entries all (one_gathered spot part) (tally_of (column_of column p))) (pairs_are n) (one_sums want column entries all spot part (column_of column (keyed want.table (wanted_of want.lo want.hi b.rows))) agrees marks);
  }

  summed : Tally
  summed = tally_of_summary (length b.rows) (slice_index_or e.columns column no_numbers)

  part_summed : is_needed want e ≡ true → summed_part want column spot e ≡ Ok summed
  part_summed n =
      let long : length e.columns ≡ length want.kinds = count_is (length b.kinds) b.rows ∙ ap (λ (k : List Kind). length k) (kinds n) in
      ap (λ (t : Bool). cond t (tally_in summed) (Err (spot.place + 36))) (eq-eqb (length e.columns) (length want.kinds) long)

  summed_agrees : is_needed want e ≡ true → is_covered want e ≡ true → Agrees summed of_rows
  summed_agrees n c =
      let few : column < length b.kinds = subst (λ (k : List Kind). column < length k) (sym (kinds n)) lt in
      let all_rows : wanted_of want.lo want.hi b.rows ≡ b.rows = all_in want.lo want.hi e.first e.last b.rows c (between b.rows s.holds.rising) in
      subst (λ (rows : Rows). Agrees summed (tally_of (column_of column (keyed want.table rows)))) (sym all_rows)
      (subst (λ (x : Summary). Agrees (tally_of_summary (length b.rows) x) (tally_of (column_of column (keyed want.table b.rows)))) (sym (column_summary (length b.kinds) column b.rows few)) (summary_agrees want.table column b.rows))

  -- what the block says of its marks, by its entry
  marks_here : (part : Tally) (r : Result Tally ℕ) → block_marks want column all (record { spot = spot; part = part }) (Some e) ≡ r → marks_of want column entries all (Some (record { spot = spot; part = part })) ≡ r
  marks_here part r q = ap (block_marks want column all (record { spot = spot; part = part })) here ∙ q

  by_tests : (n c : Bool) → is_needed want e ≡ n → is_covered want e ≡ c → gathers (gathered_of want column spot e all)
  by_tests false c n k = record {
    found = nothing_gathered;
    is = ap (λ (t : Bool). cond t (part_found spot (part_of want column spot e all)) (gathered_in nothing_gathered)) n;
    sums = subst (λ (p : List (Key × Partial)). Sums want column entries all nothing_gathered (tally_of (column_of column p))) (ap (keyed want.table) (sym (none_read n)) ∙ wanted) (none_sums want column entries all);
  }
  by_tests true false n k =
      one_gives of_rows n (ap (λ (t : Bool). cond t (summed_part want column spot e) (read_part want column spot e all)) k ∙ part_read n) (agrees_same of_rows)
      (marks_here of_rows (tally_in of_rows) (ap (λ (t : Bool). cond t (read_part want column spot e all) (tally_in of_rows)) k))
  by_tests true true n k =
      one_gives summed n (ap (λ (t : Bool). cond t (summed_part want column spot e) (read_part want column spot e all)) k ∙ part_summed n) (summed_agrees n k)
      (marks_here summed (tally_in of_rows) (ap (λ (t : Bool). cond t (read_part want column spot e all) (tally_in summed)) k ∙ part_read n))

-- ---- all blocks

tally_joined : (want : Want) (column : ℕ) (b : FileBlock) (bs : List FileBlock) → tally_of (column_of column (all_wanted want (b ∷ bs))) ≡ merged (tally_of (column_of column (wanted_of_block want b))) (tally_of (column_of column (all_wanted want bs)))
tally_joined want column b bs =
    ap (λ (l : List (Key × Partial)). tally_of (column_of column l)) (flat_map-cons (wanted_of_block want) b bs)
    ∙ ap tally_of (map-append (λ (p : Key × Partial). (p.0, value_of (slice_index_or p.1.cells column None))) (wanted_of_block want b) (all_wanted want bs))
    ∙ of_joined_rows (column_of column (wanted_of_block want b)) (column_of column (all_wanted want bs))

both_sums : (want : Want) (column : ℕ) (entries : List Entry) (all : List ℕ) (end : Key) (g h : Gathering) (xs ys : List (Key × Partial)) → Sums want column entries all g (tally_of (column_of column xs)) → Sums want column entries all h (tally_of (column_of column ys)) → AllKeys (IsUpTo want end) xs → AllKeys (IsBehind want end) ys
    → Sums want column entries all (both g h) (merged (tally_of (column_of column xs)) (tally_of (column_of column ys)))
both_sums want column entries all end g h xs ys p q up behind =
    let s = tally_of (column_of column xs) in
    let t = tally_of (column_of column ys) in
    let front_keys = list_marked (IsUpTo want end) (column_of column xs) (keys_of_column (IsUpTo want end) column xs up) in
    let back_keys = list_marked (IsBehind want end) (column_of column ys) (keys_of_column (IsBehind want end) column ys behind) in
    record {
      agrees = agrees_merged g.tally h.tally s t p.agrees q.agrees;
      first = first_both want column entries all end g.first h.first s.first t.first p.first q.first front_keys.0 back_keys.0;
      last = last_both want column entries all end g.last h.last s.last t.last p.last q.last front_keys.1 back_keys.1;
    }

-- what stands at a place of a list, and behind it
here_of : (xs rest : List Entry) (n : ℕ) (x : Entry) → drop n xs ≡ x ∷ rest → (slice_get xs n ≡ Some x) × (drop (n + 1) xs ≡ rest)
here_of [] rest zero x e = absurd cc
here_of [] rest (suc n) x e = absurd cc
here_of (y ∷ ys) rest zero x e = (ap (λ (l : List Entry). slice_get l 0) e, ap (drop 1) e)
here_of (y ∷ ys) rest (suc n) x e =
    let t = here_of ys rest n x e in
    let step : suc n + 1 ≡ suc (n + 1) = omega arith in
    (t.0, ap (λ (k : ℕ). drop k (y ∷ ys)) step ∙ t.1)

pub blocks_give : (want : Want) (column : ℕ) (entries : List Entry) (bs : List FileBlock) (all : List ℕ) (at : ℕ) (spot : Spot) (rest : List ℕ) → column < length want.kinds → drop spot.next entries ≡ index_of at bs → drop at all ≡ flat_map bytes_of_block bs ++ rest → Chain want spot.range spot.last bs
    → Gives want column entries all (gathered want column all spot (index_of at bs)) (all_wanted want bs)
blocks_give want column entries [] all at spot rest lt listed e chain = record { found = nothing_gathered; is = gathered_ends want column all spot; sums = none_sums want column entries all }
blocks_give want column entries (b ∷ bs) all at spot rest lt listed e chain =
    let more_bytes : List ℕ = flat_map bytes_of_block bs ++ rest in
    let is : drop at all ≡ bytes_of_block b ++ more_bytes = e ∙ ap (λ (l : List ℕ). l ++ rest) (flat_map-cons bytes_of_block b bs) ∙ append_assoc (bytes_of_block b) (flat_map bytes_of_block bs) rest in
    let entry = entry_of at b in
    let end = end_key b.table spot.last b.rows in
    let es = index_of (at + length (bytes_of_block b)) bs in
    let here = here_of entries es spot.next entry listed in
    let one = block_gives want column entries spot at all b more_bytes lt here.0 chain.0 is in
    let later : Chain want spot.range (last_key entry) bs = subst (λ (k : Key). Chain want spot.range k bs) (sym (entry_end want spot.range spot.last at b chain.0)) chain.1 in
    let others = blocks_give want column entries bs all (at + length (bytes_of_block b)) (spot_behind spot entry) rest lt here.1 (next_block want spot.range spot.last all at b more_bytes is) later in
    record {
      found = both one.found others.found;
      is = gathered_next want column all spot entry es
          ∙ ap (λ (r : Result Gathering ℕ). r >>= λ (g : Gathering). more g (gathered want column all (spot_behind spot entry) es)) one.is
          ∙ ap (more one.found) others.is;
      sums = subst (λ (t : Tally). Sums want column entries all (both one.found others.found) t) (sym (tally_joined want column b bs))
          (both_sums want column entries all end one.found others.found (wanted_of_block want b) (all_wanted want bs) one.sums others.sums (block_up_to want spot.range spot.last b chain.0) (chain_behind want spot.range end bs chain.1));
    }

-- ---- the first and the last value

told : (want : Want) (column : ℕ) (entries : List Entry) (all : List ℕ) (of : Tally → Option Mark) (o : Option BlockPart) (m : Option Mark) → of empty_tally ≡ None → Tells want column entries all of o m → (t : Tally) × (marks_of want column entries all o ≡ Ok t) × (of t ≡ m)
told want column entries all of None m none p = (empty_tally, refl, none ∙ sym p)
told want column entries all of (Some b) m none p = (p.0, p.2, p.3)

pub marks_found : (want : Want) (column : ℕ) (entries : List Entry) (all : List ℕ) (g : Gathering) (t : Tally) → Sums want column entries all g t → with_marks want column entries all g ≡ Ok t
marks_found want column entries all g t s =
    let a = told want column entries all front g.first t.first refl s.first in
    let b = told want column entries all back g.last t.last refl s.last in
    let joined : Tally → Tally → Result Tally ℕ = λ x y. Ok (record g.tally { first = x.first; last = y.last }) in
    ap (λ (r : Result Tally ℕ). r >>= λ (x : Tally). marks_of want column entries all g.last >>= λ (y : Tally). joined x y) a.1
    ∙ ap (λ (r : Result Tally ℕ). r >>= λ (y : Tally). joined a.0 y) b.1
    ∙ ap tally_in (same_tally (record g.tally { first = a.0.first; last = b.0.last }) t s.agrees.rows s.agrees.count s.agrees.sum s.agrees.min s.agrees.max a.2 b.2)

-- ---- the file

pub folded_back : (want : Want) (column range : ℕ) (tables : List TableRows) → range < 2 ^ 32 → column < length want.kinds → CanWrite range tables → AllByRecursion (IsWantedTable want) tables → folded want column (bytes_of_list range tables) ≡ Ok (tally_of (column_of column (partials_of want tables)))
unfolding folded
folded_back want column range tables r lt can wanted =
    let all = bytes_of_list range tables in
    let blocks = all_blocks tables in
    let f = front_bytes range (length blocks) in
    let more_bytes = flat_map entry_bytes (index_of blocks_begin blocks) ++ tail_bytes (blocks_begin + length (flat_map bytes_of_block blocks)) in
    let behind : drop blocks_begin all ≡ flat_map bytes_of_block blocks ++ more_bytes = ap (drop blocks_begin) (file_parts range blocks) ∙ drop_at f (flat_map bytes_of_block blocks ++ more_bytes) blocks_begin refl in
    let entries = index_of blocks_begin blocks in
    let start : Spot = record { range = range; next = 0; place = blocks_begin + length (flat_map bytes_of_block blocks); last = before_all } in
    let gives = blocks_give want column entries blocks all blocks_begin start more_bytes lt refl behind (chain_of want range tables can wanted) in
    ap (λ (o : Result Opening ℕ). o >>= λ (x : Opening). folded_behind want column x all) (opened want range tables r can wanted)
    ∙ ap (λ (g : Result Gathering ℕ). g >>= λ (x : Gathering). with_marks want column entries all x) gives.is
    ∙ marks_found want column entries all gives.found (tally_of (column_of column (all_wanted want blocks))) gives.sums
    ∙ ap (λ (l : List (Key × Partial)). tally_in (tally_of (column_of column l))) (tables_wanted want tables)
