-- The blocks of a file that was written, one by one.
use Rattle.std.proofs.Common.{◌≡◌, ℕ, zero, suc, ◌+◌, ◌-◌, ◌*◌, ◌^◌, ◌<◌, ◌≤◌, Bool, true, false, cond, ltb, leb, eqb, not, List, [], ◌∷◌, ◌++◌, length, map, get_or, take, drop, Option, Some, None, Result, Ok, Err, inl, inr, refl, sym, ap, subst, ◌∙◌, append_assoc, arith}
use Rattle.std.specs.Prelude.{◌&&◌, IsTrue, replicate}
use Rattle.std.specs.List.{flat_map, AllByRecursion}
use Rattle.std.specs.Ordering.{nat_cmp}
use Rattle.std.specs.Int.{w8, w64, to_le_bytes}
use Rattle.std.proofs.lemmas.Bool.{and_parts, and_from, lt-ltb, eq-eqb, eqb-true, cases_lt}
use Rattle.std.proofs.lemmas.Bool.Decides.{nat_tests}
use Rattle.std.proofs.Math.Nat.{mod-eq_of_lt}
use Rattle.std.proofs.lemmas.List.{append-nil, length-append, length-map, take_at, drop_at, drop-drop, get_or_past}
use Rattle.std.proofs.lemmas.List.Concat.{flat_map-cons}
use Rattle.td_limits.specs.declared.limits.TheConstants.{BLOCK_ROWS}
use Rattle.td_cols.specs.declared.kinds.Kind.{Kind}
use Rattle.td_layer.specs.declared.values.Value.{Value}
use Rattle.td_layer.specs.declared.values.Key.{Key}
use Rattle.td_layer.specs.declared.parts.Partial.{Partial}
use Rattle.td_layer.specs.Keys.{AllAfter, RisesBy}
use Rattle.td_codec.specs.Fields.{◌>>=◌}
use Rattle.td_cols.specs.Spelling.{spelling}
use Rattle.td_block.specs.declared.block.Block.{Block}
use Rattle.td_block.specs.declared.header.Head.{Head}
use Rattle.td_block.specs.Bits.{bitmap_length, bitmap}
use Rattle.td_block.specs.Columns.{is_named, is_valued, lane, column}
use Rattle.td_block.specs.Rows.{Rows, IsCellOf, IsRowOf, CanHold, HasNumbers, times_of, births_of, column_at, columns_of}
use Rattle.td_block.specs.Blocks.{head, columns, block_bytes, placed, decoded}
use Rattle.td_block.specs.Headers.{column_length, block_length, head_parts, head_found}
use Rattle.td_block.proofs.Bitmaps.{length-bitmap, bitmap-small, byte-below}
use Rattle.td_block.proofs.RowLaws.{zip_length, length-column_at, length-columns_of, columns_of-column}
use Rattle.td_block.proofs.ColumnLaws.{length-column}
use Rattle.td_block.proofs.BlockLaws.{Cells, head_spells}
use Rattle.td_block.proofs.HeaderLaws.{head_bytes, block_size, bytes_are}
use Rattle.td_block.proofs.HoldLaws.{less_from, by_recursion, at_place}
use Rattle.td_block.proofs.ReadLaws.{decoded_again}
use Rattle.td_fileio.specs.Days.{is_in_day}
use Rattle.td_fileio.specs.Lists.{FileBlock}
use Rattle.td_datafile.specs.declared.format.Entry.{Entry}
use Rattle.td_datafile.specs.Sums.{summaries}
use Rattle.td_datafile.specs.Index.{bytes_of_block, entry_of, index_of}
use Rattle.td_datafile.specs.Written.{IsWhole}
use Rattle.td_datafile.specs.Blocks.{is_behind, key_of, rows_checked, full_bitmap, first_other, or_else, first_unnamed, unless_before, whole_decoded, moved, own_length, entry_length, agreeing, own_block}
use Rattle.td_datafile.specs.Scanned.{Want, is_wanted, wanted_of, keyed, Walked, wanted_block, then_walk, last_key, walk}
use Rattle.td_datafile.specs.Contents.{wanted_in}
use Rattle.td_datafile.proofs.EntryLaws.{count_is}
use Rattle.td_datafile.proofs.Walks.{walk_ends, walk_next}

-- ---- keys of blocks

-- the last key of rows of a table behind a key
abbrev pub end_key : ℕ → Key → Rows → Key
end_key table last [] = last
end_key table last (row ∷ rows) = end_key table (key_of table row) rows

-- rows whose keys rise behind a key, in a day range
abbrev pub Follow : ℕ → ℕ → Key → Rows → Type 0
Follow range table last [] = Unit {0}
Follow range table last (row ∷ rows) = ((is_behind last (key_of table row) && is_in_day range row.0) ≡ true) × Follow range table (key_of table row) rows

checks : (range table place : ℕ) (last : Key) (rows : Rows) → Follow range table last rows → rows_checked range table last place rows ≡ Ok (end_key table last rows)
checks range table place last [] f = refl
checks range table place last (row ∷ rows) f =
    ap (λ (b : Bool). cond b (rows_checked range table (key_of table row) (place + 8) rows) (Err place)) f.0 ∙ checks range table (place + 8) (key_of table row) rows f.1

-- what is known of a block that stands behind a key
pub record Stands (want : Want) (range : ℕ) (last : Key) (b : FileBlock) : Type 0 where
  pub holds : CanHold b.kinds b.table b.rows
  pub numbers : HasNumbers b.table b.rows
  pub whole : AllByRecursion IsWhole b.rows
  pub kinds : b.table ≡ want.table → b.kinds ≡ want.kinds
  pub follow : Follow range b.table last b.rows

-- blocks that stand one behind the other
abbrev pub Chain : Want → ℕ → Key → List FileBlock → Type 0
Chain want range last [] = Unit {0}
Chain want range last (b ∷ bs) = Stands want range last b × Chain want range (end_key b.table last b.rows) bs

-- the first key of a block comes behind the last one before it
pub first_behind : (range table : ℕ) (last : Key) (rows : Rows) → 1 ≤ length rows → Follow range table last rows → is_behind last (record { table = table; ts = get_or (times_of rows) 0 0 }) ≡ true
first_behind range table last [] le f = absurd (omega (arith, le))
first_behind range table last (row ∷ rows) le f = (and_parts (is_behind last (key_of table row)) (is_in_day range row.0) f.0).0

-- the last key of a block is that of its last row
last_is : (table : ℕ) (last : Key) (row : ℕ × Partial) (rows : Rows) → end_key table last (row ∷ rows) ≡ record { table = table; ts = get_or (times_of (row ∷ rows)) (length rows) 0 }
last_is table last row [] = refl
last_is table last row (x ∷ xs) = last_is table (key_of table row) x xs

pub end_is : (table : ℕ) (last : Key) (rows : Rows) → 1 ≤ length rows → end_key table last rows ≡ record { table = table; ts = get_or (times_of rows) (length rows - 1) 0 }
end_is table last [] le = absurd (omega (arith, le))
end_is table last (row ∷ rows) le =
    let e : length rows ≡ suc (length rows) - 1 = omega arith in
    last_is table last row rows ∙ ap (λ (i : ℕ). record { table = table; ts = get_or (times_of (row ∷ rows)) i 0 }) e

-- ---- all cells are named

named_cells : (cells : Cells) → AllByRecursion (λ (cell : Option Value). IsTrue (is_named cell)) cells → map is_named cells ≡ replicate (length cells) true
named_cells [] all = refl
named_cells (cell ∷ cells) all = ap (λ (b : Bool). b ∷ map is_named cells) all.0 ∙ ap (λ (l : List Bool). true ∷ l) (named_cells cells all.1)

-- the bytes of a bitmap, and of what is behind it
abbrev bitmap_bytes : List Bool → List ℕ
bitmap_bytes bits = flat_map (to_le_bytes w8) (bitmap bits)

same_byte : (at n : ℕ) (o : Option ℕ) → cond (eqb n n) o (Some at) ≡ o
same_byte at n o = ap (λ (b : Bool). cond b o (Some at)) (eq-eqb n n refl)

none_other : (at : ℕ) (ws rest : List ℕ) → first_other at ws (ws ++ rest) ≡ None
none_other at [] rest = refl
none_other at (w ∷ ws) rest = same_byte at w (first_other (at + 1) ws (ws ++ rest)) ∙ none_other (at + 1) ws rest

bytes_again : (bytes : List ℕ) → ((k : ℕ) → get_or bytes k 0 < 256) → flat_map (to_le_bytes w8) bytes ≡ bytes
bytes_again [] are = refl
bytes_again (b ∷ bytes) are = ap (λ (n : ℕ). n ∷ flat_map (to_le_bytes w8) bytes) (mod-eq_of_lt (are 0)) ∙ ap (λ (l : List ℕ). b ∷ l) (bytes_again bytes (λ k. are (suc k)))

full_bytes : (n : ℕ) → bitmap_bytes (replicate n true) ≡ full_bitmap n
full_bytes n = bytes_again (bitmap bits) (λ k. elim (cases_lt k (bitmap_length (length bits))) [
  | inl lt ↦ byte-below (length bits - 8 * k) (get_or (bitmap bits) k 0) (bitmap-small bits k lt)
  | inr past ↦ subst (λ (n : ℕ). n < 256) (sym (get_or_past (bitmap bits) k 0 (omega (arith, past, length-bitmap bits)))) (omega arith)
]) where
  bits : List Bool
  bits = replicate n true

-- so many cells, all of them named
record AreNamed (n : ℕ) (cells : Cells) : Type 0 where
  wide : length cells ≡ n
  named : AllByRecursion (λ (cell : Option Value). IsTrue (is_named cell)) cells

names_are : (n : ℕ) (cells : Cells) → AreNamed n cells → bitmap_bytes (map is_named cells) ≡ full_bitmap n
names_are n cells a = ap bitmap_bytes (named_cells cells a.named ∙ ap (λ (k : ℕ). replicate k true) a.wide) ∙ full_bytes n

-- a column behind its code
column_behind : (n : ℕ) (kind : Kind) (cells : Cells) (rest : List ℕ) → AreNamed n cells → drop 1 ((column n kind).spelled cells ++ rest) ≡ full_bitmap n ++ ((bitmap_bytes (map is_valued cells) ++ flat_map (λ (cell : Option Value). spelling kind (lane cell)) cells) ++ rest)
unfolding column
column_behind n kind cells rest a =
    let more = bitmap_bytes (map is_valued cells) ++ flat_map (λ (cell : Option Value). spelling kind (lane cell)) cells in
    append_assoc (bitmap_bytes (map is_named cells)) more rest ∙ ap (λ (l : List ℕ). l ++ (more ++ rest)) (names_are n cells a)

none_unnamed : (n : ℕ) (kinds : List Kind) (all : List Cells) (at : ℕ) (bytes rest : List ℕ) → drop at bytes ≡ (columns n kinds).spelled all ++ rest → length all ≡ length kinds → AllByRecursion (AreNamed n) all → first_unnamed at n kinds bytes ≡ None
unfolding columns
none_unnamed n [] all at bytes rest e long named = refl
none_unnamed n (kind ∷ kinds) [] at bytes rest e long named = absurd (omega (arith, long))
none_unnamed n (kind ∷ kinds) (cells ∷ all) at bytes rest e long named =
    let own = (column n kind).spelled cells in
    let others = (columns n kinds).spelled all in
    let size = column_length n kind in
    let split : drop at bytes ≡ own ++ (others ++ rest) = e ∙ append_assoc own others rest in
    let names : drop (at + 1) bytes ≡ full_bitmap n ++ ((bitmap_bytes (map is_valued cells) ++ flat_map (λ (cell : Option Value). spelling kind (lane cell)) cells) ++ (others ++ rest)) = sym (drop-drop 1 at bytes) ∙ ap (drop 1) split ∙ column_behind n kind cells (others ++ rest) named.0 in
    let first : first_other (at + 1) (full_bitmap n) (drop (at + 1) bytes) ≡ None = ap (first_other (at + 1) (full_bitmap n)) names ∙ none_other (at + 1) (full_bitmap n) _ in
    let next : drop (at + size) bytes ≡ others ++ rest = sym (drop-drop size at bytes) ∙ ap (drop size) split ∙ drop_at own (others ++ rest) size (length-column n kind cells named.0.wide) in
    let fewer : length all ≡ length kinds = omega (arith, long) in
    ap (λ (o : Option ℕ). or_else o (first_unnamed (at + size) n kinds bytes)) first ∙ none_unnamed n kinds all (at + size) bytes rest next fewer named.1

column_named : (kinds : List Kind) (rows : Rows) (c : ℕ) → c < length kinds → AllByRecursion (IsRowOf kinds) rows → AllByRecursion IsWhole rows → AllByRecursion (λ (cell : Option Value). IsTrue (is_named cell)) (column_at rows c)
column_named kinds [] c lt are whole = tt
column_named kinds (row ∷ rows) c lt are whole =
    let wide = zip_length IsCellOf kinds row.1.cells are.0.cells in
    (at_place (λ (cell : Option Value). IsTrue (is_named cell)) row.1.cells c None whole.0 (omega (arith, wide, lt)), column_named kinds rows c lt are.1 whole.1)

columns_named : (kinds : List Kind) (rows : Rows) → AllByRecursion (IsRowOf kinds) rows → AllByRecursion IsWhole rows → AllByRecursion (AreNamed (length rows)) (columns_of (length kinds) rows)
columns_named kinds rows are whole =
    let n = length kinds in
    by_recursion (AreNamed (length rows)) (columns_of n rows) [] (λ c lt.
    let within : c < n = omega (arith, lt, length-columns_of n rows) in
    subst (AreNamed (length rows)) (sym (columns_of-column n rows c within)) (record { wide = length-column_at rows c; named = column_named kinds rows c within are whole }))

numbers_length : (ns : List ℕ) → length (flat_map (to_le_bytes w64) ns) ≡ 8 * length ns
numbers_length [] = refl
numbers_length (n ∷ ns) =
    let others = numbers_length ns in
    let one : length (to_le_bytes w64 n) ≡ 8 = refl in
    length-append (to_le_bytes w64 n) (flat_map (to_le_bytes w64) ns) ∙ omega (arith, others, one)

block_named : (kinds : List Kind) (table : ℕ) (rows : Rows) → AllByRecursion (IsRowOf kinds) rows → AllByRecursion IsWhole rows → first_unnamed (14 + 16 * length rows) (length rows) kinds (block_bytes kinds table rows) ≡ None
block_named kinds table rows are whole =
    let n = length rows in
    let h = head_bytes table n (length kinds) in
    let t = flat_map (to_le_bytes w64) (times_of rows) in
    let b = flat_map (to_le_bytes w64) (births_of rows) in
    let c = (columns n kinds).spelled (columns_of (length kinds) rows) in
    let hl : length h ≡ 14 = refl in
    let tl = numbers_length (times_of rows) in
    let tn = length-map rows (λ (row : ℕ × Partial). row.0) in
    let bl = numbers_length (births_of rows) in
    let bn = length-map rows (λ (row : ℕ × Partial). row.1.birth.born) in
    let front : length (h ++ (t ++ b)) ≡ 14 + 16 * n = omega (arith, hl, tl, tn, bl, bn, length-append h (t ++ b), length-append t b) in
    let whole_is : block_bytes kinds table rows ≡ (h ++ (t ++ b)) ++ c = bytes_are kinds table rows are ∙ ap (λ (l : List ℕ). h ++ l) (sym (append_assoc t b c)) ∙ sym (append_assoc h (t ++ b) c) in
    let behind : drop (14 + 16 * n) (block_bytes kinds table rows) ≡ c ++ [] = ap (drop (14 + 16 * n)) whole_is ∙ drop_at (h ++ (t ++ b)) c (14 + 16 * n) front ∙ sym (append-nil c) in
    none_unnamed n kinds (columns_of (length kinds) rows) (14 + 16 * n) (block_bytes kinds table rows) [] behind (length-columns_of (length kinds) rows) (columns_named kinds rows are whole)

-- ---- one block

abbrev head_view : ℕ × (ℕ × (ℕ × ℕ)) → Head
head_view x = record { table = x.1.0; rows = x.1.1.0; columns = x.1.1.1 }

abbrev head_of_rows : FileBlock → Head
head_of_rows b = record { table = b.table; rows = length b.rows; columns = length b.kinds }

abbrev pub size_of : FileBlock → ℕ
size_of b = block_length (length b.rows) b.kinds

pub size_is : (want : Want) (range : ℕ) (last : Key) (b : FileBlock) → Stands want range last b → length (bytes_of_block b) ≡ size_of b
size_is want range last b s = block_size b.kinds b.table b.rows s.holds

head_fits : (want : Want) (range : ℕ) (last : Key) (b : FileBlock) → Stands want range last b → (head None).fits (head_parts (head_of_rows b)) ≡ true
unfolding head
head_fits want range last b s =
    let t = lt-ltb b.table (2 ^ 32) s.numbers.table_is in
    let one : leb 1 b.table ≡ true = grind (arith, nat_tests, s.holds.table_is) in
    let small : ltb (length b.rows) (2 ^ 32) ≡ true = lt-ltb (length b.rows) (2 ^ 32) (omega (arith, s.holds.few)) in
    let some : leb 1 (length b.rows) ≡ true = grind (arith, nat_tests, s.holds.some) in
    let few : leb (length b.rows) BLOCK_ROWS ≡ true = grind (arith, nat_tests, s.holds.few) in
    let columns = lt-ltb (length b.kinds) (2 ^ 16) s.holds.columns in
    and_from _ _ refl (and_from _ _ (and_from _ _ t one) (and_from _ _ (and_from _ _ small (and_from _ _ some few)) (and_from _ _ columns refl)))

head_spelled : (b : FileBlock) → (head None).spelled (head_parts (head_of_rows b)) ≡ head_bytes b.table (length b.rows) (length b.kinds)
unfolding head
head_spelled b = refl

head_read : (want : Want) (range : ℕ) (last : Key) (b : FileBlock) (bytes rest : List ℕ) → Stands want range last b → bytes ≡ bytes_of_block b ++ rest → head_found (take 14 bytes) ≡ Ok (head_of_rows b)
unfolding head_found
head_read want range last b bytes rest s is =
    let h = head_bytes b.table (length b.rows) (length b.kinds) in
    let n = length b.rows in
    let others = flat_map (to_le_bytes w64) (times_of b.rows) ++ (flat_map (to_le_bytes w64) (births_of b.rows) ++ (columns n b.kinds).spelled (columns_of (length b.kinds) b.rows)) in
    let parts = bytes_are b.kinds b.table b.rows s.holds.rows_are in
    let front : take 14 bytes ≡ h = ap (take 14) (is ∙ ap (λ (l : List ℕ). l ++ rest) parts ∙ append_assoc h others rest) ∙ take_at h (others ++ rest) 14 refl in
    let read : (head None).read h ≡ Ok (head_parts (head_of_rows b), []) = ap (head None).read (sym (append-nil h) ∙ ap (λ (l : List ℕ). l ++ []) (sym (head_spelled b))) ∙ (head_spells None).again (head_parts (head_of_rows b)) [] (head_fits want range last b s) in
    ap (λ (l : List ℕ). placed l (λ (x : ℕ × (ℕ × (ℕ × ℕ))) _. head_view x) ((head None).read l)) front ∙ ap (placed h (λ (x : ℕ × (ℕ × (ℕ × ℕ))) _. head_view x)) read

whole_read : (want : Want) (range : ℕ) (last : Key) (b : FileBlock) → Stands want range last b → whole_decoded b.kinds (length b.rows) (bytes_of_block b) ≡ Ok (record { table = b.table; rows = b.rows; used = length (bytes_of_block b) })
unfolding whole_decoded
whole_read want range last b s =
    let found : Block = record { table = b.table; rows = b.rows; used = length (bytes_of_block b) } in
    let again : decoded b.kinds (bytes_of_block b) ≡ Ok found = ap (decoded b.kinds) (sym (append-nil (bytes_of_block b))) ∙ decoded_again b.kinds b.table b.rows [] s.holds s.numbers in
    ap (λ (o : Option ℕ). unless_before o (decoded b.kinds (bytes_of_block b))) (block_named b.kinds b.table b.rows s.holds.rows_are s.whole) ∙ ap (unless_before None) again

pub same : (n : ℕ) → eqb n n ≡ true
same n = eq-eqb n n refl

pub unless_differs : {A : Type 0} (t : Bool) (x y : A) → t ≡ true → cond (not t) x y ≡ y
unless_differs t x y e = ap (λ (b : Bool). cond (not b) x y) e

-- the entry of a block agrees with it
agree : (place at : ℕ) (b : FileBlock) → agreeing place (length b.kinds) (entry_of at b) (record { table = b.table; rows = b.rows; used = length (bytes_of_block b) }) (get_or (times_of b.rows) (length b.rows - 1) 0) ≡ Ok b.rows
agree place at b =
    let n = length (bytes_of_block b) in
    let last = get_or (times_of b.rows) (length b.rows - 1) 0 in
    let columns : eqb (length (summaries (length b.kinds) b.rows)) (length b.kinds) ≡ true = eq-eqb (length (summaries (length b.kinds) b.rows)) (length b.kinds) (count_is (length b.kinds) b.rows) in
    unless_differs (eqb n n) (Err (place + 8)) _ (same n)
    ∙ unless_differs (eqb (length b.rows) (length b.rows)) (Err (place + 16)) _ (same (length b.rows))
    ∙ unless_differs (eqb (get_or (times_of b.rows) 0 0) (get_or (times_of b.rows) 0 0)) (Err (place + 20)) _ (same (get_or (times_of b.rows) 0 0))
    ∙ unless_differs (eqb last last) (Err (place + 28)) _ (same last)
    ∙ unless_differs (eqb (length (summaries (length b.kinds) b.rows)) (length b.kinds)) (Err (place + 36)) (Ok b.rows) columns

abbrev behind_head : List Kind → ℕ → Key → ℕ → Entry → List ℕ → Head → Result Rows ℕ
behind_head kinds range last place e all h =
    cond (eqb h.table e.table) (moved e.offset (whole_decoded kinds h.rows (take (own_length kinds h) (drop e.offset all)))) (Err (place + 12))
    >>= λ (b : Block). rows_checked range e.table last (e.offset + 14) b.rows
    >>= λ (key : Key). agreeing place (length kinds) e b key.ts

pub own_read : (want : Want) (range : ℕ) (last : Key) (place at : ℕ) (all : List ℕ) (b : FileBlock) (rest : List ℕ) → Stands want range last b → drop at all ≡ bytes_of_block b ++ rest → own_block b.kinds range last place (entry_of at b) all ≡ Ok b.rows
unfolding own_block
own_read want range last place at all b rest s is =
    let e = entry_of at b in
    let kinds = b.kinds in
    let size = size_is want range last b s in
    let found : Block = record { table = b.table; rows = b.rows; used = length (bytes_of_block b) } in
    let behind_block : Block → Result Rows ℕ = λ x. rows_checked range b.table last (at + 14) x.rows >>= λ (key : Key). agreeing place (length kinds) e x key.ts in
    let long : own_length kinds (head_of_rows b) ≡ size_of b = ap (λ (t : Bool). cond t (block_length (length b.rows) kinds) 14) (same (length kinds)) in
    let part : take (own_length kinds (head_of_rows b)) (drop at all) ≡ bytes_of_block b = ap (λ (n : ℕ). take n (drop at all)) long ∙ ap (take (size_of b)) is ∙ take_at (bytes_of_block b) rest (size_of b) size in
    let read : whole_decoded kinds (length b.rows) (take (own_length kinds (head_of_rows b)) (drop at all)) ≡ Ok found = ap (whole_decoded kinds (length b.rows)) part ∙ whole_read want range last b s in
    let own_table = same b.table in
    let end = end_is b.table last b.rows s.holds.some in
    ap (λ (r : Result Head ℕ). moved at r >>= behind_head kinds range last place e all) (head_read want range last b (drop at all) rest s is)
    ∙ ap (λ (t : Bool). cond t (moved at (whole_decoded kinds (length b.rows) (take (own_length kinds (head_of_rows b)) (drop at all)))) (Err (place + 12)) >>= behind_block) own_table
    ∙ ap (λ (r : Result Block ℕ). moved at r >>= behind_block) read
    ∙ ap (λ (r : Result Key ℕ). r >>= λ (key : Key). agreeing place (length kinds) e found key.ts) (checks range b.table (at + 14) last b.rows s.follow)
    ∙ ap (λ (key : Key). agreeing place (length kinds) e found key.ts) end
    ∙ agree place at b

-- ---- what is wanted of a block

-- the timestamps of rising rows lie between the first and the last
after_first : (first : ℕ) (rows : Rows) (i : ℕ) → AllAfter nat_cmp first rows → i < length rows → first < get_or (times_of rows) i 0
after_first first [] i after lt = absurd (omega (arith, lt))
after_first first (row ∷ rows) zero after lt = less_from first row.0 after.0
after_first first (row ∷ rows) (suc i) after lt = after_first first rows i after.1 (omega (arith, lt))

abbrev Between : ℕ → ℕ → ℕ × Partial → Type 0
Between lo hi row = (lo ≤ row.0) × (row.0 ≤ hi)

widen : (lo lo' hi : ℕ) (rows : Rows) → lo' ≤ lo → AllByRecursion (Between lo hi) rows → AllByRecursion (Between lo' hi) rows
widen lo lo' hi [] le all = tt
widen lo lo' hi (row ∷ rows) le all = ((omega (arith, le, all.0.0), all.0.1), widen lo lo' hi rows le all.1)

all_between : (row : ℕ × Partial) (rows : Rows) → RisesBy nat_cmp (row ∷ rows) → AllByRecursion (Between row.0 (get_or (times_of (row ∷ rows)) (length rows) 0)) (row ∷ rows)
all_between row [] rises = ((omega arith, omega arith), tt)
all_between row (x ∷ xs) rises =
    let others = all_between x xs rises.1 in
    let le : row.0 < x.0 = less_from row.0 x.0 rises.0.0 in
    let last : get_or (times_of (row ∷ x ∷ xs)) (length (x ∷ xs)) 0 ≡ get_or (times_of (x ∷ xs)) (length xs) 0 = refl in
    ((omega arith, omega (arith, le, others.0.0, others.0.1)), widen x.0 row.0 _ (x ∷ xs) (omega (arith, le)) others)

pub between : (rows : Rows) → RisesBy nat_cmp rows → AllByRecursion (Between (get_or (times_of rows) 0 0) (get_or (times_of rows) (length rows - 1) 0)) rows
between [] rises = tt
between (row ∷ rows) rises =
    let e : length rows ≡ suc (length rows) - 1 = omega arith in
    subst (λ (i : ℕ). AllByRecursion (Between row.0 (get_or (times_of (row ∷ rows)) i 0)) (row ∷ rows)) e (all_between row rows rises)

none_wanted : (lo hi first last : ℕ) (rows : Rows) → (leb lo last && leb first hi) ≡ false → AllByRecursion (Between first last) rows → wanted_of lo hi rows ≡ []
none_wanted lo hi first last [] apart all = refl
none_wanted lo hi first last (row ∷ rows) apart all =
    let out : is_wanted lo hi row ≡ false = outside lo hi first last row.0 apart all.0.0 all.0.1 in
    ap (λ (t : Bool). cond t (row ∷ wanted_of lo hi rows) (wanted_of lo hi rows)) out ∙ none_wanted lo hi first last rows apart all.1 where
      outside : (lo hi first last ts : ℕ) → (leb lo last && leb first hi) ≡ false → first ≤ ts → ts ≤ last → (leb lo ts && leb ts hi) ≡ false
      outside lo hi first last ts apart p q = grind (arith, nat_tests)

-- the rows of a block that are wanted
abbrev pub rows_wanted : Want → FileBlock → Rows
rows_wanted want b = cond (eqb b.table want.table) (wanted_of want.lo want.hi b.rows) []

abbrev rows_found : Rows → Result Rows ℕ
rows_found rows = Ok rows

pub block_read : (want : Want) (range : ℕ) (last : Key) (place at : ℕ) (all : List ℕ) (b : FileBlock) (rest : List ℕ) → Stands want range last b → drop at all ≡ bytes_of_block b ++ rest → wanted_block want range last place (entry_of at b) all ≡ Ok (rows_wanted want b)
block_read want range last place at all b rest s is = by_tests (eqb b.table want.table) (leb want.lo last_ts && leb first_ts want.hi) refl refl where
  first_ts : ℕ
  first_ts = get_or (times_of b.rows) 0 0

  last_ts : ℕ
  last_ts = get_or (times_of b.rows) (length b.rows - 1) 0

  own : Result Rows ℕ
  own = own_block want.kinds range last place (entry_of at b) all >>= λ (rows : Rows). rows_found (wanted_of want.lo want.hi rows)

  by_tests : (t u : Bool) → eqb b.table want.table ≡ t → (leb want.lo last_ts && leb first_ts want.hi) ≡ u → cond (eqb b.table want.table && (leb want.lo last_ts && leb first_ts want.hi)) own (rows_found []) ≡ Ok (rows_wanted want b)
  by_tests false u p q =
      ap (λ (t : Bool). cond (t && (leb want.lo last_ts && leb first_ts want.hi)) own (rows_found [])) p ∙ ap (λ (t : Bool). rows_found (cond t (wanted_of want.lo want.hi b.rows) [])) (sym p)
  by_tests true false p q =
      ap (λ (t : Bool). cond (t && (leb want.lo last_ts && leb first_ts want.hi)) own (rows_found [])) p
      ∙ ap (λ (u : Bool). cond (true && u) own (rows_found [])) q
      ∙ ap rows_found (sym (none_wanted want.lo want.hi first_ts last_ts b.rows q (between b.rows s.holds.rising)))
      ∙ ap (λ (t : Bool). rows_found (cond t (wanted_of want.lo want.hi b.rows) [])) (sym p)
  by_tests true true p q =
      let kinds : b.kinds ≡ want.kinds = s.kinds (eqb-true b.table want.table p) in
      let read : own_block want.kinds range last place (entry_of at b) all ≡ Ok b.rows = ap (λ (k : List Kind). own_block k range last place (entry_of at b) all) (sym kinds) ∙ own_read want range last place at all b rest s is in
      ap (λ (t : Bool). cond (t && (leb want.lo last_ts && leb first_ts want.hi)) own (rows_found [])) p
      ∙ ap (λ (u : Bool). cond (true && u) own (rows_found [])) q
      ∙ ap (λ (r : Result Rows ℕ). r >>= λ (rows : Rows). rows_found (wanted_of want.lo want.hi rows)) read
      ∙ ap (λ (t : Bool). rows_found (cond t (wanted_of want.lo want.hi b.rows) [])) (sym p)

-- ---- all blocks

abbrev pub wanted_of_block : Want → FileBlock → List (Key × Partial)
wanted_of_block want b = wanted_in want b.table b.rows

abbrev pub all_wanted : Want → List FileBlock → List (Key × Partial)
all_wanted want bs = flat_map (wanted_of_block want) bs

abbrev pub gives : List (Key × Partial) → Walked
gives pairs = record { partials = pairs; fault = None }

pub keyed_wanted : (want : Want) (b : FileBlock) (t : Bool) → keyed want.table (cond t (wanted_of want.lo want.hi b.rows) []) ≡ cond t (keyed want.table (wanted_of want.lo want.hi b.rows)) []
keyed_wanted want b true = refl
keyed_wanted want b false = refl

-- behind a block the others stand
pub next_block : (want : Want) (range : ℕ) (last : Key) (all : List ℕ) (at : ℕ) (b : FileBlock) (rest : List ℕ) → drop at all ≡ bytes_of_block b ++ rest → drop (at + length (bytes_of_block b)) all ≡ rest
next_block want range last all at b rest is = sym (drop-drop (length (bytes_of_block b)) at all) ∙ ap (drop (length (bytes_of_block b))) is ∙ drop_at (bytes_of_block b) rest (length (bytes_of_block b)) refl

-- the last key of a block's entry
pub entry_end : (want : Want) (range : ℕ) (last : Key) (at : ℕ) (b : FileBlock) → Stands want range last b → last_key (entry_of at b) ≡ end_key b.table last b.rows
entry_end want range last at b s = sym (end_is b.table last b.rows s.holds.some)

pub walk_blocks : (want : Want) (range : ℕ) (bs : List FileBlock) (all : List ℕ) (at place : ℕ) (last : Key) (rest : List ℕ) → drop at all ≡ flat_map bytes_of_block bs ++ rest → Chain want range last bs
    → walk want range all last place (index_of at bs) ≡ gives (all_wanted want bs)
walk_blocks want range [] all at place last rest e chain = walk_ends want range all last place
walk_blocks want range (b ∷ bs) all at place last rest e chain =
    let more : List ℕ = flat_map bytes_of_block bs ++ rest in
    let is : drop at all ≡ bytes_of_block b ++ more = e ∙ ap (λ (l : List ℕ). l ++ rest) (flat_map-cons bytes_of_block b bs) ∙ append_assoc (bytes_of_block b) (flat_map bytes_of_block bs) rest in
    let s = chain.0 in
    let entry = entry_of at b in
    let others = walk_blocks want range bs all (at + length (bytes_of_block b)) (place + entry_length entry) (end_key b.table last b.rows) rest (next_block want range last all at b more is) chain.1 in
    let next = ap (λ (k : Key). walk want range all k (place + entry_length entry) (index_of (at + length (bytes_of_block b)) bs)) (entry_end want range last at b s) ∙ others in
    walk_next want range all last place entry (index_of (at + length (bytes_of_block b)) bs)
    ∙ ap (λ (w : Walked). then_walk want w (wanted_block want range last place entry all)) next
    ∙ ap (then_walk want (gives (all_wanted want bs))) (block_read want range last place at all b more s is)
    ∙ ap (λ (l : List (Key × Partial)). gives (l ++ all_wanted want bs)) (keyed_wanted want b (eqb b.table want.table))
    ∙ ap gives (sym (flat_map-cons (wanted_of_block want) b bs))
