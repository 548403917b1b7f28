-- Rows as lists of timestamps, births and columns, and back.
use Rattle.std.proofs.Common.{◌≡◌, ℕ, zero, suc, ◌<◌, Bool, true, List, [], ◌∷◌, length, get_or, Option, None, refl, sym, ap, ◌∙◌, arith}
use Rattle.std.specs.List.{list_all, AllZip}
use Rattle.std.proofs.lemmas.Bool.{and_parts, and_from}
use Rattle.std.proofs.lemmas.List.{length-map, get_or-map, get_or_default, same_lists}
use Rattle.std.proofs.lemmas.List.FromFn.{length-map-range_with_len, get_or-map-range_with_len, fill_by_all}
use Rattle.td_layer.specs.declared.values.Value.{Value}
use Rattle.td_layer.specs.declared.parts.Partial.{Partial}
use Rattle.td_block.specs.Rows.{Rows, row_cells, row_at, rows_from, times_of, births_of, column_at, columns_of}

-- some row, for places beyond the end
pub no_row : ℕ × Partial
no_row = (0, record { birth = record { born = 0 }; cells = [] })

-- a test that passes at each place
pub list_all_from : {A : Type 0} (test : A → Bool) (xs : List A) (d : A) → ((i : ℕ) → i < length xs → test (get_or xs i d) ≡ true) → list_all test xs ≡ true
list_all_from test [] d each = refl
list_all_from {A} test (x ∷ xs) d each = and_from (test x) (list_all test xs) (each 0 (omega arith)) (list_all_from test xs d (λ i lt. each (suc i) (omega (arith, lt))))

pub list_all_at : {A : Type 0} (test : A → Bool) (xs : List A) (i : ℕ) (d : A) → list_all test xs ≡ true → i < length xs → test (get_or xs i d) ≡ true
list_all_at test [] i d all lt = absurd (omega (arith, lt))
list_all_at test (x ∷ xs) zero d all lt = (and_parts (test x) (list_all test xs) all).0
list_all_at test (x ∷ xs) (suc i) d all lt = list_all_at test xs i d (and_parts (test x) (list_all test xs) all).1 (omega (arith, lt))

pub zip_length : {A B : Type 0} (R : A → B → Type 0) (xs : List A) (ys : List B) → AllZip R xs ys → length xs ≡ length ys
zip_length R [] [] all = refl
zip_length R [] (y ∷ ys) all = absurd all
zip_length R (x ∷ xs) [] all = absurd all
zip_length R (x ∷ xs) (y ∷ ys) all = ap suc (zip_length R xs ys all.1)

-- ---- rows of lists, and the lists of these rows

pub length-rows_from : (ts births : List ℕ) (columns : List (List (Option Value))) → length (rows_from ts births columns) ≡ length ts
length-rows_from ts births columns = length-map-range_with_len (row_at ts births columns) 0 (length ts)

row_is : (ts births : List ℕ) (columns : List (List (Option Value))) (r : ℕ) (d : ℕ × Partial) → r < length ts → get_or (rows_from ts births columns) r d ≡ row_at ts births columns r
row_is ts births columns r d lt = get_or-map-range_with_len (row_at ts births columns) 0 (length ts) r r d lt (omega arith)

pub times_of-rows_from : (ts births : List ℕ) (columns : List (List (Option Value))) → times_of (rows_from ts births columns) ≡ ts
times_of-rows_from ts births columns =
    let rows : Rows = rows_from ts births columns in
    let len : length (times_of rows) ≡ length ts = length-map rows (λ (row : ℕ × Partial). row.0) ∙ length-rows_from ts births columns in
    same_lists (times_of rows) ts len (λ r d lt.
    let in_ts : r < length ts = omega (arith, lt, len) in
    get_or-map (λ (row : ℕ × Partial). row.0) rows r no_row d (omega (arith, lt, length-map rows (λ (row : ℕ × Partial). row.0)))
    ∙ ap (λ (row : ℕ × Partial). row.0) (row_is ts births columns r no_row in_ts) ∙ get_or_default ts r 0 d in_ts)

pub births_of-rows_from : (ts births : List ℕ) (columns : List (List (Option Value))) → length births ≡ length ts → births_of (rows_from ts births columns) ≡ births
births_of-rows_from ts births columns same =
    let rows : Rows = rows_from ts births columns in
    let len : length (births_of rows) ≡ length births = length-map rows (λ (row : ℕ × Partial). row.1.birth.born) ∙ length-rows_from ts births columns ∙ sym same in
    same_lists (births_of rows) births len (λ r d lt.
    let in_births : r < length births = omega (arith, lt, len) in
    get_or-map (λ (row : ℕ × Partial). row.1.birth.born) rows r no_row d (omega (arith, lt, length-map rows (λ (row : ℕ × Partial). row.1.birth.born)))
    ∙ ap (λ (row : ℕ × Partial). row.1.birth.born) (row_is ts births columns r no_row (omega (arith, in_births, same))) ∙ get_or_default births r 0 d in_births)

column_is : (ts births : List ℕ) (columns : List (List (Option Value))) (c : ℕ) → c < length columns → length (get_or columns c []) ≡ length ts → get_or columns c [] ≡ column_at (rows_from ts births columns) c
column_is ts births columns c in_columns wide =
    let rows : Rows = rows_from ts births columns in
    let column : List (Option Value) = get_or columns c [] in
    let cell : ℕ × Partial → Option Value = λ row. get_or row.1.cells c None in
    let len : length column ≡ length (column_at rows c) = wide ∙ sym (length-map rows cell ∙ length-rows_from ts births columns) in
    same_lists column (column_at rows c) len (λ r d lt.
    let in_ts : r < length ts = omega (arith, lt, wide) in
    let in_rows : r < length rows = omega (arith, in_ts, length-rows_from ts births columns) in
    sym (get_or-map cell rows r no_row d in_rows
    ∙ ap cell (row_is ts births columns r no_row in_ts)
    ∙ get_or-map (λ (column : List (Option Value)). get_or column r None) columns c [] None in_columns
    ∙ get_or_default column r None d lt))

pub columns_of-rows_from : (ts births : List ℕ) (columns : List (List (Option Value))) → ((c : ℕ) → c < length columns → length (get_or columns c []) ≡ length ts) → columns_of (length columns) (rows_from ts births columns) ≡ columns
columns_of-rows_from ts births columns wide =
    sym (fill_by_all (column_at (rows_from ts births columns)) columns (length columns) [] refl (λ c lt. column_is ts births columns c lt (wide c lt)))

pub width-rows_from : (ts births : List ℕ) (columns : List (List (Option Value))) (r : ℕ) → r < length ts → length (get_or (rows_from ts births columns) r no_row).1.cells ≡ length columns
width-rows_from ts births columns r lt =
    ap (λ (row : ℕ × Partial). length row.1.cells) (row_is ts births columns r no_row lt) ∙ length-map columns (λ (column : List (Option Value)). get_or column r None)

-- ---- lists of rows, and the rows of these lists

pub length-column_at : (rows : Rows) (c : ℕ) → length (column_at rows c) ≡ length rows
length-column_at rows c = length-map rows (λ (row : ℕ × Partial). get_or row.1.cells c None)

pub column_at-cell : (rows : Rows) (c r : ℕ) → r < length rows → get_or (column_at rows c) r None ≡ get_or (get_or rows r no_row).1.cells c None
column_at-cell rows c r lt = get_or-map (λ (row : ℕ × Partial). get_or row.1.cells c None) rows r no_row None lt

pub length-columns_of : (count : ℕ) (rows : Rows) → length (columns_of count rows) ≡ count
length-columns_of count rows = length-map-range_with_len (column_at rows) 0 count

pub columns_of-column : (count : ℕ) (rows : Rows) (c : ℕ) → c < count → get_or (columns_of count rows) c [] ≡ column_at rows c
columns_of-column count rows c lt = get_or-map-range_with_len (column_at rows) 0 count c c [] lt (omega arith)

cells_are : (count : ℕ) (rows : Rows) (r : ℕ) → r < length rows → length (get_or rows r no_row).1.cells ≡ count → row_cells (columns_of count rows) r ≡ (get_or rows r no_row).1.cells
cells_are count rows r lt wide =
    let row : ℕ × Partial = get_or rows r no_row in
    let cell : List (Option Value) → Option Value = λ column. get_or column r None in
    let len : length (row_cells (columns_of count rows) r) ≡ length row.1.cells = length-map (columns_of count rows) cell ∙ length-columns_of count rows ∙ sym wide in
    same_lists (row_cells (columns_of count rows) r) row.1.cells len (λ c d lt_c.
    let in_cells : c < length row.1.cells = omega (arith, lt_c, len) in
    let in_count : c < count = omega (arith, in_cells, wide) in
    get_or-map cell (columns_of count rows) c [] d (omega (arith, in_count, length-columns_of count rows))
    ∙ ap cell (columns_of-column count rows c in_count) ∙ column_at-cell rows c r lt ∙ get_or_default row.1.cells c None d in_cells)

pub rows_from-lists : (count : ℕ) (rows : Rows) → ((r : ℕ) → r < length rows → length (get_or rows r no_row).1.cells ≡ count) → rows_from (times_of rows) (births_of rows) (columns_of count rows) ≡ rows
rows_from-lists count rows wide =
    let ts : List ℕ = times_of rows in
    let births : List ℕ = births_of rows in
    let columns : List (List (Option Value)) = columns_of count rows in
    let len : length rows ≡ length ts = sym (length-map rows (λ (row : ℕ × Partial). row.0)) in
    sym (fill_by_all (row_at ts births columns) rows (length ts) no_row len (λ r lt.
    let in_rows : r < length rows = omega (arith, lt, len) in
    let row : ℕ × Partial = get_or rows r no_row in
    let time : get_or ts r 0 ≡ row.0 = get_or-map (λ (row : ℕ × Partial). row.0) rows r no_row 0 in_rows in
    let born : get_or births r 0 ≡ row.1.birth.born = get_or-map (λ (row : ℕ × Partial). row.1.birth.born) rows r no_row 0 in_rows in
    let cells : row_cells columns r ≡ row.1.cells = cells_are count rows r in_rows (wide r in_rows) in
    let at_time : row_at ts births columns r ≡ (row.0, record { birth = record { born = get_or births r 0 }; cells = row_cells columns r }) =
    ap (λ (t : ℕ). (t, record { birth = record { born = get_or births r 0 }; cells = row_cells columns r })) time in
    let at_birth : (row.0, record { birth = record { born = get_or births r 0 }; cells = row_cells columns r }) ≡ (row.0, record { birth = record { born = row.1.birth.born }; cells = row_cells columns r }) =
    ap (λ (b : ℕ). (row.0, record { birth = record { born = b }; cells = row_cells columns r })) born in
    let at_cells : (row.0, record { birth = record { born = row.1.birth.born }; cells = row_cells columns r }) ≡ row =
    ap (λ (cs : List (Option Value)). (row.0, record { birth = record { born = row.1.birth.born }; cells = cs })) cells in
    sym (at_time ∙ at_birth ∙ at_cells)))
