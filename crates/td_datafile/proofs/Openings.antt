-- The opening of a file that was written.
use Rattle.std.proofs.Common.{◌≡◌, ℕ, zero, suc, ◌+◌, ◌-◌, ◌^◌, ◌<◌, ◌≤◌, Bool, true, cond, ltb, leb, eqb, List, [], ◌∷◌, ◌++◌, length, map, get_or, take, drop, Option, Ok, Err, refl, sym, ap, subst, ◌∙◌, append_assoc, arith}
use Rattle.std.specs.Prelude.{◌&&◌, IsTrue}
use Rattle.std.specs.List.{flat_map, AllByRecursion, range_with_len}
use Rattle.std.specs.Ordering.{nat_cmp}
use Rattle.std.specs.Int.{w32, w64, to_le_bytes}
use Rattle.std.proofs.lemmas.Bool.{and_parts, and_from, lt-ltb, le-leb, eq-eqb}
use Rattle.std.proofs.lemmas.Bool.Decides.{nat_tests}
use Rattle.std.proofs.lemmas.List.{append-nil, length-append, take_at, take_all, drop_at}
use Rattle.std.proofs.lemmas.List.Concat.{flat_map-cons}
use Rattle.td_limits.specs.declared.limits.TheConstants.{BLOCK_ROWS, LAST_TIMESTAMP}
use Rattle.td_cols.specs.declared.kinds.Kind.{Kind}
use Rattle.td_layer.specs.declared.values.Value.{Value}
use Rattle.td_layer.specs.declared.values.Key.{Key}
use Rattle.td_layer.specs.declared.parts.Partial.{Partial}
use Rattle.td_layer.specs.Columns.{AreColumnCells}
use Rattle.td_layer.specs.Keys.{RisesBy}
use Rattle.td_codec.specs.Fields.{◌>>=◌, Read, SpellsOnce, number, checked, pair}
use Rattle.td_codec.specs.Lists.{each, items_read, all_fit}
use Rattle.td_codec.proofs.FieldLaws.{wide32, wide64, number_spells, checked_spells, pair_spells}
use Rattle.td_codec.proofs.ListLaws.{items_again}
use Rattle.td_block.specs.Rows.{Rows, IsRowOf, times_of, column_at}
use Rattle.td_block.proofs.HoldLaws.{less_from}
use Rattle.td_block.proofs.ReadLaws.{row_values}
use Rattle.td_fileio.specs.Days.{is_in_day}
use Rattle.td_fileio.specs.Lists.{FileBlock}
use Rattle.td_fileio.specs.Places.{placed, field_at}
use Rattle.td_fileio.proofs.PlaceLaws.{ok_then}
use Rattle.td_datafile.specs.declared.format.Summary.{Summary}
use Rattle.td_datafile.specs.declared.format.Entry.{Entry}
use Rattle.td_datafile.specs.declared.format.TheConstants.{FILE_MAGIC, FILE_END}
use Rattle.td_datafile.specs.declared.entries.Behind.{Behind}
use Rattle.td_datafile.specs.Sums.{numbers_of, summary_of, summaries}
use Rattle.td_datafile.specs.Index.{bytes_of_block, entry_of, index_of, entry_bytes}
use Rattle.td_datafile.specs.Written.{blocks_begin, file_bytes}
use Rattle.td_datafile.specs.Entries.{summary_in, summaries_in, behind, behind_entry, comes_later, can_end, entry_behind, entry_items}
use Rattle.td_datafile.specs.Opening.{front, end_place, tail, all_of, index_in, checked_end, opening_of, opening_at}
use Rattle.td_datafile.specs.Blocks.{is_behind, key_of}
use Rattle.td_datafile.specs.Scanned.{Want, before_all}
use Rattle.td_datafile.proofs.EntryLaws.{behind_more, count_is}
use Rattle.td_datafile.proofs.IndexLaws.{block_few}
use Rattle.td_datafile.proofs.Spelling.{entries_spell}
use Rattle.td_datafile.proofs.Fits.{column_fits}
use Rattle.td_datafile.proofs.Contents.{end_key, Follow, Stands, Chain, first_behind, end_is}

-- ---- entries of blocks fit

-- what comes behind a key comes behind what stands before it
abbrev Bound : Key → Behind → Type 0
Bound last b = (table first : ℕ) → is_behind last (record { table = table; ts = first }) ≡ true → 1 ≤ table → (leb b.table table ≡ true) × (comes_later b table first ≡ true)

bound_first : Bound before_all (behind [])
bound_first table first p le = (le-leb 1 table le, grind (arith, nat_tests))

bound_next : (e : Entry) → Bound (record { table = e.table; ts = e.last }) (behind_entry e)
bound_next e table first p le = (grind (arith, nat_tests), grind (arith, nat_tests))

follow_day : (range table : ℕ) (last : Key) (rows : Rows) → Follow range table last rows → AllByRecursion (λ (row : ℕ × Partial). IsTrue (is_in_day range row.0)) rows
follow_day range table last [] f = tt
follow_day range table last (row ∷ rows) f = ((and_parts (is_behind last (key_of table row)) (is_in_day range row.0) f.0).1, follow_day range table (key_of table row) rows f.1)

day_at : (range : ℕ) (rows : Rows) (i : ℕ) → AllByRecursion (λ (row : ℕ × Partial). IsTrue (is_in_day range row.0)) rows → i < length rows → is_in_day range (get_or (times_of rows) i 0) ≡ true
day_at range [] i all lt = absurd (omega (arith, lt))
day_at range (row ∷ rows) zero all lt = all.0
day_at range (row ∷ rows) (suc i) all lt = day_at range rows i all.1 (omega (arith, lt))

time_at : (kinds : List Kind) (rows : Rows) (i : ℕ) → AllByRecursion (IsRowOf kinds) rows → i < length rows → get_or (times_of rows) i 0 ≤ LAST_TIMESTAMP
time_at kinds [] i all lt = absurd (omega (arith, lt))
time_at kinds (row ∷ rows) zero all lt = all.0.in_time
time_at kinds (row ∷ rows) (suc i) all lt = time_at kinds rows i all.1 (omega (arith, lt))

-- rising rows have at least as many timestamps between their ends
spread : (row : ℕ × Partial) (rows : Rows) → RisesBy nat_cmp (row ∷ rows) → row.0 + length rows ≤ get_or (times_of (row ∷ rows)) (length rows) 0
spread row [] rises = omega arith
spread row (x ∷ xs) rises =
    let others = spread x xs rises.1 in
    let le : row.0 < x.0 = less_from row.0 x.0 rises.0.0 in
    omega (arith, others, le)

ends_so : (rows : Rows) → 1 ≤ length rows → RisesBy nat_cmp rows → can_end (length rows) (get_or (times_of rows) 0 0) (get_or (times_of rows) (length rows - 1) 0) ≡ true
ends_so [] some rises = absurd (omega (arith, some))
ends_so (row ∷ []) some rises = eq-eqb row.0 row.0 refl
ends_so (row ∷ x ∷ xs) some rises =
    let e : suc (length xs) ≡ length (row ∷ x ∷ xs) - 1 = omega arith in
    subst (λ (i : ℕ). can_end (length (row ∷ x ∷ xs)) row.0 (get_or (times_of (row ∷ x ∷ xs)) i 0) ≡ true) e (many (length xs) row.0 (get_or (times_of (row ∷ x ∷ xs)) (suc (length xs)) 0) (spread row (x ∷ xs) rises)) where
      many : (k first last : ℕ) → first + suc k ≤ last → can_end (suc (suc k)) first last ≡ true
      many k first last le = grind (arith, nat_tests)

all_summaries_fit : (rows count from : ℕ) (cells : ℕ → List (Option Value)) (before : List Summary) → ((c : ℕ) → (summary_in rows).fits (summary_of (numbers_of (cells c))) ≡ true)
    → all_fit (each (summary_in rows)) before (map (λ (l : List (Option Value)). summary_of (numbers_of l)) (map cells (range_with_len from count))) ≡ true
all_summaries_fit rows zero from cells before fits = refl
all_summaries_fit rows (suc count) from cells before fits = and_from _ _ (fits from) (all_summaries_fit rows count (from + 1) cells (before ++ summary_of (numbers_of (cells from)) ∷ []) fits)

summaries_fit : (kinds : List Kind) (rows : Rows) → length kinds < 2 ^ 16 → length rows ≤ 1024 → AllByRecursion (λ (row : ℕ × Partial). AreColumnCells row.1.cells) rows → (summaries_in (length rows)).fits (summaries (length kinds) rows) ≡ true
summaries_fit kinds rows columns few values =
    and_from _ _ (lt-ltb (length (summaries (length kinds) rows)) (2 ^ 16) (subst (λ (n : ℕ). n < 2 ^ 16) (sym (count_is (length kinds) rows)) columns))
    (all_summaries_fit (length rows) (length kinds) 0 (column_at rows) [] (λ c. column_fits rows c few values))

entry_fits : (want : Want) (range index at : ℕ) (last : Key) (before : Behind) (b : FileBlock) → Stands want range last b → before.place ≡ at → Bound last before → at + length (bytes_of_block b) ≤ index → index < 2 ^ 64 → (entry_behind range index before).fits (entry_of at b) ≡ true
unfolding entry_behind
entry_fits want range index at last before b s place bound le room =
    let size = length (bytes_of_block b) in
    let n = length b.rows in
    let first = get_or (times_of b.rows) 0 0 in
    let end = get_or (times_of b.rows) (n - 1) 0 in
    let some : 0 < n = omega (arith, s.holds.some) in
    let last_row : n - 1 < n = omega (arith, some) in
    let small : size < 2 ^ 30 = block_few b.kinds b.table b.rows s.holds in
    let days = follow_day range b.table last b.rows s.follow in
    let bounds = bound b.table first (first_behind range b.table last b.rows s.holds.some s.follow) s.holds.table_is in
    let in_first = time_at b.kinds b.rows 0 s.holds.rows_are some in
    let in_last = time_at b.kinds b.rows (n - 1) s.holds.rows_are last_row in
    let f_at : (ltb at (2 ^ 64) && eqb at before.place) ≡ true = and_from _ _ (lt-ltb at (2 ^ 64) (omega (arith, le, room))) (eq-eqb at before.place (sym place)) in
    let f_size : (ltb size (2 ^ 32) && leb (at + size) index) ≡ true = and_from _ _ (lt-ltb size (2 ^ 32) (omega (arith, small))) (le-leb (at + size) index le) in
    let f_table : (ltb b.table (2 ^ 32) && leb before.table b.table) ≡ true = and_from _ _ (lt-ltb b.table (2 ^ 32) s.numbers.table_is) bounds.0 in
    let f_rows : (ltb n (2 ^ 32) && (leb 1 n && leb n BLOCK_ROWS)) ≡ true = and_from _ _ (lt-ltb n (2 ^ 32) (omega (arith, s.holds.few))) (and_from _ _ (le-leb 1 n s.holds.some) (le-leb n BLOCK_ROWS s.holds.few)) in
    let f_first : (ltb first (2 ^ 64) && (is_in_day range first && comes_later before b.table first)) ≡ true = and_from _ _ (lt-ltb first (2 ^ 64) (omega (arith, in_first))) (and_from _ _ (day_at range b.rows 0 days some) bounds.1) in
    let f_last : (ltb end (2 ^ 64) && (is_in_day range end && can_end n first end)) ≡ true = and_from _ _ (lt-ltb end (2 ^ 64) (omega (arith, in_last))) (and_from _ _ (day_at range b.rows (n - 1) days last_row) (ends_so b.rows s.holds.some s.holds.rising)) in
    let f_columns = summaries_fit b.kinds b.rows s.holds.columns s.holds.few (row_values b.kinds b.rows s.holds.fixed s.holds.rows_are) in
    and_from _ _ f_at (and_from _ _ f_size (and_from _ _ f_table (and_from _ _ f_rows (and_from _ _ f_first (and_from _ _ f_last f_columns)))))

index_fits : (want : Want) (range index : ℕ) (bs : List FileBlock) (at : ℕ) (last : Key) (before : List Entry) → Chain want range last bs → (behind before).place ≡ at → Bound last (behind before) → at + length (flat_map bytes_of_block bs) ≡ index → index < 2 ^ 64
    → all_fit (entry_items range index) before (index_of at bs) ≡ true
unfolding entry_behind
index_fits want range index [] at last before chain place bound end room = refl
index_fits want range index (b ∷ bs) at last before chain place bound end room =
    let e = entry_of at b in
    let size = length (bytes_of_block b) in
    let long = ap length (flat_map-cons bytes_of_block b bs) ∙ length-append (bytes_of_block b) (flat_map bytes_of_block bs) in
    let own = entry_fits want range index at last (behind before) b chain.0 place bound (omega (arith, end, long)) room in
    let more = behind_more before e in
    let next : (behind (before ++ e ∷ [])).place ≡ at + size = ap (λ (x : Behind). x.place) more in
    let key : record { table = b.table; ts = e.last } ≡ end_key b.table last b.rows = sym (end_is b.table last b.rows chain.0.holds.some) in
    let bounds : Bound (end_key b.table last b.rows) (behind (before ++ e ∷ [])) = subst (λ (x : Behind). Bound (end_key b.table last b.rows) x) (sym more) (subst (λ (k : Key). Bound k (behind_entry e)) key (bound_next e)) in
    let others = index_fits want range index bs (at + size) (end_key b.table last b.rows) (before ++ e ∷ []) chain.1 next bounds (omega (arith, end, long)) room in
    and_from ((entry_items range index).fits before e) (all_fit (entry_items range index) (before ++ e ∷ []) (index_of (at + size) bs)) own others

index_length : (at : ℕ) (bs : List FileBlock) → length (index_of at bs) ≡ length bs
index_length at [] = refl
index_length at (b ∷ bs) = ap suc (index_length (at + length (bytes_of_block b)) bs)

-- behind the entries of blocks stands the place behind the blocks
place_behind : (bs : List FileBlock) (at : ℕ) (before : List Entry) → (behind before).place ≡ at → (behind (before ++ index_of at bs)).place ≡ at + length (flat_map bytes_of_block bs)
place_behind [] at before place = ap (λ (l : List Entry). (behind l).place) (append-nil before) ∙ place ∙ omega arith
place_behind (b ∷ bs) at before place =
    let e = entry_of at b in
    let size = length (bytes_of_block b) in
    let long = ap length (flat_map-cons bytes_of_block b bs) ∙ length-append (bytes_of_block b) (flat_map bytes_of_block bs) in
    let next : (behind (before ++ e ∷ [])).place ≡ at + size = ap (λ (x : Behind). x.place) (behind_more before e) in
    ap (λ (l : List Entry). (behind l).place) (sym (append_assoc before (e ∷ []) (index_of (at + size) bs))) ∙ place_behind bs (at + size) (before ++ e ∷ []) next ∙ omega (arith, long)

-- ---- its parts have one spelling

front_spells : SpellsOnce front
unfolding front
front_spells = pair_spells (checked (number w32) (λ n. eqb n FILE_MAGIC)) (pair (number w32) (number w32)) (checked_spells (number w32) (λ n. eqb n FILE_MAGIC) (number_spells w32 wide32)) (pair_spells (number w32) (number w32) (number_spells w32 wide32) (number_spells w32 wide32))

tail_spells : (size : ℕ) → SpellsOnce (tail size)
unfolding tail
tail_spells size =
    pair_spells (checked (number w64) (λ at. leb blocks_begin at && leb at (end_place size))) (checked (number w32) (λ n. eqb n FILE_END))
    (checked_spells (number w64) (λ at. leb blocks_begin at && leb at (end_place size)) (number_spells w64 wide64)) (checked_spells (number w32) (λ n. eqb n FILE_END) (number_spells w32 wide32))

abbrev pub front_bytes : ℕ → ℕ → List ℕ
front_bytes range count = to_le_bytes w32 FILE_MAGIC ++ (to_le_bytes w32 range ++ to_le_bytes w32 count)

abbrev pub tail_bytes : ℕ → List ℕ
tail_bytes at = to_le_bytes w64 at ++ to_le_bytes w32 FILE_END

front_spelled : (range count : ℕ) → front.spelled (FILE_MAGIC, (range, count)) ≡ front_bytes range count
unfolding front
front_spelled range count = refl

tail_spelled : (size at : ℕ) → (tail size).spelled (at, FILE_END) ≡ tail_bytes at
unfolding tail
tail_spelled size at = refl

front_fits : (range count : ℕ) → range < 2 ^ 32 → count < 2 ^ 32 → front.fits (FILE_MAGIC, (range, count)) ≡ true
unfolding front
front_fits range count r n = and_from _ _ refl (and_from (ltb range (2 ^ 32)) (ltb count (2 ^ 32)) (lt-ltb range (2 ^ 32) r) (lt-ltb count (2 ^ 32) n))

tail_fits : (size at : ℕ) → blocks_begin ≤ at → at ≤ end_place size → at < 2 ^ 64 → (tail size).fits (at, FILE_END) ≡ true
unfolding tail
tail_fits size at low high room = and_from _ _ (and_from _ _ (lt-ltb at (2 ^ 64) room) (and_from _ _ (le-leb blocks_begin at low) (le-leb at (end_place size) high))) refl

-- ---- what is read

-- a field that stands alone in a part of a file
alone : {A : Type 0} (field : Rattle.td_codec.specs.Fields.Field A) (size at : ℕ) (all part : List ℕ) (x : A) → take size (drop at all) ≡ part → field.read part ≡ Ok (x, []) → field_at field size at all ≡ Ok (x, at + size)
alone field size at all part x is read = ap (λ (l : List ℕ). placed at size (length l) (field.read l)) is ∙ ap (placed at size (length part)) read

regroup : (a b c d e f g : List ℕ) → a ++ (b ++ (c ++ (d ++ (e ++ (f ++ g))))) ≡ (a ++ (b ++ c)) ++ (d ++ (e ++ (f ++ g)))
regroup a b c d e f g = sym (simp append_assoc)

regroup_index : (a b c d : List ℕ) → a ++ (b ++ (c ++ d)) ≡ (a ++ b) ++ (c ++ d)
regroup_index a b c d = sym (simp append_assoc)

regroup_end : (a b c d : List ℕ) → a ++ (b ++ (c ++ d)) ≡ ((a ++ b) ++ c) ++ d
regroup_end a b c d = sym (simp append_assoc)

pub file_parts : (range : ℕ) (blocks : List FileBlock) → file_bytes range blocks ≡ front_bytes range (length blocks) ++ (flat_map bytes_of_block blocks ++ (flat_map entry_bytes (index_of blocks_begin blocks) ++ tail_bytes (blocks_begin + length (flat_map bytes_of_block blocks))))
unfolding file_bytes
file_parts range blocks =
    regroup (to_le_bytes w32 FILE_MAGIC) (to_le_bytes w32 range) (to_le_bytes w32 (length blocks)) (flat_map bytes_of_block blocks) (flat_map entry_bytes (index_of blocks_begin blocks)) (to_le_bytes w64 (blocks_begin + length (flat_map bytes_of_block blocks))) (to_le_bytes w32 FILE_END)

all_read : {A : Type 0} (x : A) → all_of (x, []) ≡ Ok (x, [])
all_read x = refl

index_read : (range place count : ℕ) (es : List Entry) → length es ≡ count → all_fit (entry_items range place) [] es ≡ true → (index_in range place count).read (flat_map entry_bytes es) ≡ Ok (es, [])
unfolding index_in entry_behind
index_read range place count es long fits =
    let items = entry_items range place in
    let bytes = flat_map entry_bytes es in
    let read : items_read items [] count bytes ≡ Ok (es, []) = ap (λ (n : ℕ). items_read items [] n bytes) (sym long) ∙ ap (items_read items [] (length es)) (sym (append-nil bytes)) ∙ items_again items (entries_spell range place) es [] [] fits in
    ap (λ (r : Read (List Entry)). r >>= all_of) read

pub opening_read : (want : Want) (range : ℕ) (blocks : List FileBlock) → range < 2 ^ 32 → length blocks < 2 ^ 32 → Chain want range before_all blocks → blocks_begin + length (flat_map bytes_of_block blocks) < 2 ^ 64
    → opening_at (file_bytes range blocks) ≡ Ok (record { range = range; index = blocks_begin + length (flat_map bytes_of_block blocks); entries = index_of blocks_begin blocks })
unfolding opening_of
opening_read want range blocks r n chain room =
    let all = file_bytes range blocks in
    let size = length all in
    let count = length blocks in
    let f = front_bytes range count in
    let b = flat_map bytes_of_block blocks in
    let es = index_of blocks_begin blocks in
    let i = flat_map entry_bytes es in
    let at = blocks_begin + length b in
    let t = tail_bytes at in
    let fl : length f ≡ 12 = refl in
    let tl : length t ≡ 12 = refl in
    let parts = file_parts range blocks in
    let long : size ≡ 12 + (length b + (length i + 12)) = ap length parts ∙ omega (arith, fl, tl, length-append f (b ++ (i ++ t)), length-append b (i ++ t), length-append i t) in
    let end : end_place size ≡ 12 + (length b + length i) = omega (arith, long) in
    let end_is : end_place size ≡ length ((f ++ b) ++ i) = omega (arith, end, fl, length-append (f ++ b) i, length-append f b) in
    let at_is : at ≡ length (f ++ b) = omega (arith, fl, length-append f b) in
    let first_part : take 12 (drop 0 all) ≡ f = ap (take 12) parts ∙ take_at f (b ++ (i ++ t)) 12 refl in
    let first_read : front.read f ≡ Ok ((FILE_MAGIC, (range, count)), []) = ap front.read (sym (append-nil f) ∙ ap (λ (l : List ℕ). l ++ []) (sym (front_spelled range count))) ∙ front_spells.again (FILE_MAGIC, (range, count)) [] (front_fits range count r n) in
    let first = alone front 12 0 all f (FILE_MAGIC, (range, count)) first_part first_read in
    let behind_end : drop (end_place size) all ≡ t = ap (drop (end_place size)) (parts ∙ regroup_end f b i t) ∙ drop_at ((f ++ b) ++ i) t (end_place size) (sym end_is) in
    let tail_part : take 12 (drop (end_place size) all) ≡ t = ap (take 12) behind_end ∙ take_all 12 t (omega (arith, tl)) in
    let tail_read : (tail size).read t ≡ Ok ((at, FILE_END), []) = ap (tail size).read (sym (append-nil t) ∙ ap (λ (l : List ℕ). l ++ []) (sym (tail_spelled size at))) ∙ (tail_spells size).again (at, FILE_END) [] (tail_fits size at (omega arith) (omega (arith, end)) room) in
    let second = alone (tail size) 12 (end_place size) all t (at, FILE_END) tail_part tail_read in
    let left : end_place size - at ≡ length i = omega (arith, end) in
    let behind_at : drop at all ≡ i ++ t = ap (drop at) (parts ∙ regroup_index f b i t) ∙ drop_at (f ++ b) (i ++ t) at (sym at_is) in
    let index_part : take (end_place size - at) (drop at all) ≡ i = ap (take (end_place size - at)) behind_at ∙ take_at i t (end_place size - at) (sym left) in
    let fits = index_fits want range at blocks blocks_begin before_all [] chain refl bound_first refl room in
    let third = alone (index_in range at count) (end_place size - at) at all i es index_part (index_read range at count es (index_length blocks_begin blocks) fits) in
    let last : eqb (behind es).place at ≡ true = eq-eqb (behind es).place at (place_behind blocks blocks_begin [] refl) in
    ok_then (field_at front 12 0 all) (λ (x : (ℕ × (ℕ × ℕ)) × ℕ). field_at (tail size) 12 (end_place size) all >>= λ (y : (ℕ × ℕ) × ℕ). field_at (index_in x.0.1.0 y.0.0 x.0.1.1) (end_place size - y.0.0) y.0.0 all >>= λ (z : List Entry × ℕ). checked_end size x.0.1.0 y.0.0 z.0) ((FILE_MAGIC, (range, count)), 0 + 12) first
    ∙ ok_then (field_at (tail size) 12 (end_place size) all) (λ (y : (ℕ × ℕ) × ℕ). field_at (index_in range y.0.0 count) (end_place size - y.0.0) y.0.0 all >>= λ (z : List Entry × ℕ). checked_end size range y.0.0 z.0) ((at, FILE_END), end_place size + 12) second
    ∙ ok_then (field_at (index_in range at count) (end_place size - at) at all) (λ (z : List Entry × ℕ). checked_end size range at z.0) (es, at + (end_place size - at)) third
    ∙ ap (λ (t : Bool). cond t (Ok (record { range = range; index = at; entries = es })) (Err (end_place size))) last
