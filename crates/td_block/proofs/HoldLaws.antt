-- What a block can hold is what has a spelling.
use Rattle.std.proofs.Common.{◌≡◌, ℕ, zero, suc, ◌-◌, ◌^◌, ◌<◌, ◌≤◌, Bool, true, false, cond, ltb, leb, List, [], ◌∷◌, ◌++◌, length, get_or, Option, Some, None, refl, sym, ap, subst, ◌∙◌, arith}
use Rattle.std.specs.Prelude.{◌&&◌, slice_get, IsTrue}
use Rattle.std.specs.List.{AllZip, AllByRecursion, list_all}
use Rattle.std.specs.Option.{option_map_or}
use Rattle.std.specs.Ordering.{nat_cmp}
use Rattle.std.specs.declared.cmp.Ordering.TheVariants.{Less}
use Rattle.std.specs.Int.{w64}
use Rattle.std.proofs.lemmas.Bool.{and_parts, and_from, eqb-true, eq-eqb, ltb-true, leb-true, lt-ltb, le-leb, cond-true}
use Rattle.std.proofs.lemmas.Bool.Decides.{nat_tests}
use Rattle.std.proofs.lemmas.List.{length-map}
use Rattle.td_limits.specs.declared.limits.TheConstants.{LAST_TIMESTAMP}
use Rattle.td_cols.specs.declared.kinds.Kind.{Kind}
use Rattle.td_cols.specs.declared.kinds.Kind.TheVariants as kinds_of
use Rattle.td_layer.specs.declared.values.Value.{Value}
use Rattle.td_layer.specs.declared.parts.Partial.{Partial}
use Rattle.td_layer.specs.Keys.{AllAfter, RisesBy}
use Rattle.td_codec.specs.Fields.{number, part_fits}
use Rattle.td_codec.specs.Lists.{each, all_fit}
use Rattle.td_block.specs.declared.header.TheConstants.{BLOCK_MAGIC}
use Rattle.td_block.specs.Columns.{is_fixed}
use Rattle.td_block.specs.Rows.{Rows, is_later, time_behind, time_items, times_of, births_of, column_at, columns_of, IsCellOf, IsRowOf, CanHold, HasNumbers}
use Rattle.td_block.specs.Blocks.{Parts, block_parts, has_width, parts_of, block}
use Rattle.td_block.proofs.ColumnLaws.{FitsColumn}
use Rattle.td_block.proofs.RowLaws.{no_row, zip_length, list_all_from, list_all_at, length-column_at, column_at-cell, length-columns_of, columns_of-column}
use Rattle.td_block.proofs.BlockLaws.{Cells, PartsFit, parts_fit, parts_fit_from}

-- ---- timestamps that rise

last_of : (before : List ℕ) (last : ℕ) → slice_get (before ++ last ∷ []) (length (before ++ last ∷ []) - 1) ≡ Some last
last_of [] last = refl
last_of (b ∷ []) last = refl
last_of (b ∷ c ∷ before) last =
    let at : suc (length (c ∷ before ++ last ∷ [])) - 1 ≡ suc (length (c ∷ before ++ last ∷ []) - 1) = omega arith in
    ap (λ (n : ℕ). slice_get (b ∷ c ∷ before ++ last ∷ []) n) at ∙ last_of (c ∷ before) last

later_is : (before : List ℕ) (last ts : ℕ) → is_later (before ++ last ∷ []) ts ≡ ltb last ts
later_is before last ts = ap (λ (o : Option ℕ). option_map_or (λ l. ltb l ts) o true) (last_of before last)

less_is : (a b : ℕ) → a < b → nat_cmp a b ≡ Less
less_is a b lt = cond-true (ltb a b) _ _ (lt-ltb a b lt)

pub less_from : (a b : ℕ) → nat_cmp a b ≡ Less → a < b
less_from a b e = grind (arith, nat_tests)

-- the fact of one timestamp behind others
time_fact : (before : List ℕ) (ts : ℕ) → (time_behind before).fits ts ≡ true → (ts ≤ LAST_TIMESTAMP) × (is_later before ts ≡ true)
time_fact before ts e =
    let a = and_parts (ltb ts (2 ^ 64)) (leb ts LAST_TIMESTAMP && is_later before ts) e in
    let b = and_parts (leb ts LAST_TIMESTAMP) (is_later before ts) a.1 in
    (leb-true ts LAST_TIMESTAMP b.0, b.1)

time_from : (before : List ℕ) (ts : ℕ) → ts ≤ LAST_TIMESTAMP → is_later before ts ≡ true → (time_behind before).fits ts ≡ true
time_from before ts le later =
    and_from (ltb ts (2 ^ 64)) (leb ts LAST_TIMESTAMP && is_later before ts) (lt-ltb ts (2 ^ 64) (omega (arith, le))) (and_from (leb ts LAST_TIMESTAMP) (is_later before ts) (le-leb ts LAST_TIMESTAMP le) later)

abbrev pub InTime : ℕ × Partial → Type 0
InTime row = row.0 ≤ LAST_TIMESTAMP

-- rows whose timestamps fit behind a last one rise, and come after all up to it
record RisesAfter (last : ℕ) (rows : Rows) : Type 0 where
  rising : RisesBy nat_cmp rows
  after : (k : ℕ) → k ≤ last → AllAfter nat_cmp k rows
  in_time : AllByRecursion InTime rows

rises_after : (before : List ℕ) (last : ℕ) (rows : Rows) → all_fit time_items (before ++ last ∷ []) (times_of rows) ≡ true → RisesAfter last rows
rises_after before last [] e = record { rising = tt; after = λ k le. tt; in_time = tt }
rises_after before last (row ∷ rows) e =
    let f = and_parts ((time_behind (before ++ last ∷ [])).fits row.0) (all_fit time_items ((before ++ last ∷ []) ++ row.0 ∷ []) (times_of rows)) e in
    let t = time_fact (before ++ last ∷ []) row.0 f.0 in
    let later : last < row.0 = ltb-true last row.0 (sym (later_is before last row.0) ∙ t.1) in
    let rest = rises_after (before ++ last ∷ []) row.0 rows f.1 in
    record {
      rising = (rest.after row.0 (omega arith), rest.rising);
      after = λ k le. (less_is k row.0 (omega (arith, le, later)), rest.after k (omega (arith, le, later)));
      in_time = (t.0, rest.in_time);
    }

rise : (rows : Rows) → all_fit time_items [] (times_of rows) ≡ true → RisesBy nat_cmp rows × AllByRecursion InTime rows
rise [] e = (tt, tt)
rise (row ∷ rows) e =
    let f = and_parts ((time_behind []).fits row.0) (all_fit time_items ([] ++ row.0 ∷ []) (times_of rows)) e in
    let t = time_fact [] row.0 f.0 in
    let rest = rises_after [] row.0 rows f.1 in
    ((rest.after row.0 (omega arith), rest.rising), (t.0, rest.in_time))

fit_after : (before : List ℕ) (last : ℕ) (rows : Rows) → RisesBy nat_cmp rows → AllAfter nat_cmp last rows → AllByRecursion InTime rows → all_fit time_items (before ++ last ∷ []) (times_of rows) ≡ true
fit_after before last [] rising after in_time = refl
fit_after before last (row ∷ rows) rising after in_time =
    let later : is_later (before ++ last ∷ []) row.0 ≡ true = later_is before last row.0 ∙ lt-ltb last row.0 (less_from last row.0 after.0) in
    and_from ((time_behind (before ++ last ∷ [])).fits row.0) (all_fit time_items ((before ++ last ∷ []) ++ row.0 ∷ []) (times_of rows))
    (time_from (before ++ last ∷ []) row.0 in_time.0 later) (fit_after (before ++ last ∷ []) row.0 rows rising.1 rising.0 in_time.1)

times_fit_from : (rows : Rows) → RisesBy nat_cmp rows → AllByRecursion InTime rows → all_fit time_items [] (times_of rows) ≡ true
times_fit_from [] rising in_time = refl
times_fit_from (row ∷ rows) rising in_time =
    and_from ((time_behind []).fits row.0) (all_fit time_items ([] ++ row.0 ∷ []) (times_of rows))
    (time_from [] row.0 in_time.0 refl) (fit_after [] row.0 rows rising.1 rising.0 in_time.1)

-- ---- births

abbrev HasBirth : ℕ × Partial → Type 0
HasBirth row = row.1.birth.born < 2 ^ 64

births_hold : (before : List ℕ) (rows : Rows) → all_fit (each (number w64)) before (births_of rows) ≡ true → AllByRecursion HasBirth rows
births_hold before [] e = tt
births_hold before (row ∷ rows) e =
    let f = and_parts (ltb row.1.birth.born (2 ^ 64)) (all_fit (each (number w64)) (before ++ row.1.birth.born ∷ []) (births_of rows)) e in
    (ltb-true row.1.birth.born (2 ^ 64) f.0, births_hold (before ++ row.1.birth.born ∷ []) rows f.1)

births_fit_from : (before : List ℕ) (rows : Rows) → AllByRecursion HasBirth rows → all_fit (each (number w64)) before (births_of rows) ≡ true
births_fit_from before [] all = refl
births_fit_from before (row ∷ rows) all =
    and_from (ltb row.1.birth.born (2 ^ 64)) (all_fit (each (number w64)) (before ++ row.1.birth.born ∷ []) (births_of rows)) (lt-ltb row.1.birth.born (2 ^ 64) all.0)
    (births_fit_from (before ++ row.1.birth.born ∷ []) rows all.1)

-- ---- facts at places, and by recursion

pub by_recursion : {A : Type 0} (P : A → Type 0) (xs : List A) (d : A) → ((i : ℕ) → i < length xs → P (get_or xs i d)) → AllByRecursion P xs
by_recursion P [] d each = tt
by_recursion P (x ∷ xs) d each = (each 0 (omega arith), by_recursion P xs d (λ i lt. each (suc i) (omega (arith, lt))))

pub at_place : {A : Type 0} (P : A → Type 0) (xs : List A) (i : ℕ) (d : A) → AllByRecursion P xs → i < length xs → P (get_or xs i d)
at_place P [] i d all lt = absurd (omega (arith, lt))
at_place P (x ∷ xs) zero d all lt = all.0
at_place P (x ∷ xs) (suc i) d all lt = at_place P xs i d all.1 (omega (arith, lt))

zip_from : {A B : Type 0} (R : A → B → Type 0) (xs : List A) (ys : List B) (d : A) (e : B) → length xs ≡ length ys → ((i : ℕ) → i < length xs → R (get_or xs i d) (get_or ys i e)) → AllZip R xs ys
zip_from R [] [] d e same each = tt
zip_from R [] (y ∷ ys) d e same each = absurd (omega (arith, same))
zip_from R (x ∷ xs) [] d e same each = absurd (omega (arith, same))
zip_from R (x ∷ xs) (y ∷ ys) d e same each = (each 0 (omega arith), zip_from R xs ys d e (omega (arith, same)) (λ i lt. each (suc i) (omega (arith, lt))))

pub zip_at : {A B : Type 0} (R : A → B → Type 0) (xs : List A) (ys : List B) (i : ℕ) (d : A) (e : B) → AllZip R xs ys → i < length xs → R (get_or xs i d) (get_or ys i e)
zip_at R [] [] i d e all lt = absurd (omega (arith, lt))
zip_at R [] (y ∷ ys) i d e all lt = absurd all
zip_at R (x ∷ xs) [] i d e all lt = absurd all
zip_at R (x ∷ xs) (y ∷ ys) zero d e all lt = all.0
zip_at R (x ∷ xs) (y ∷ ys) (suc i) d e all lt = zip_at R xs ys i d e all.1 (omega (arith, lt))

some_kind : Kind
some_kind = kinds_of.Bool

-- ---- columns and rows

-- a row of columns that fit
row_from_columns : (kinds : List Kind) (rows : Rows) (r : ℕ) → AllZip (FitsColumn (length rows)) kinds (columns_of (length kinds) rows) → r < length rows → length (get_or rows r no_row).1.cells ≡ length kinds → InTime (get_or rows r no_row) → IsRowOf kinds (get_or rows r no_row)
row_from_columns kinds rows r all lt wide in_time =
    let n : ℕ = length kinds in
    record {
      in_time = in_time;
      cells = zip_from IsCellOf kinds (get_or rows r no_row).1.cells some_kind None (sym wide) (λ c in_kinds.
          let f = zip_at (FitsColumn (length rows)) kinds (columns_of n rows) c some_kind [] all in_kinds in
          let here : get_or (get_or (columns_of n rows) c []) r None ≡ get_or (get_or rows r no_row).1.cells c None = ap (λ (column : Cells). get_or column r None) (columns_of-column n rows c in_kinds) ∙ column_at-cell rows c r lt in
          subst (λ (cell : Option Value). IsCellOf (get_or kinds c some_kind) cell) here (f.each r lt));
    }

fixed_from_columns : (rows : ℕ) (kinds : List Kind) (all : List Cells) → AllZip (FitsColumn rows) kinds all → AllByRecursion (λ (kind : Kind). IsTrue (is_fixed kind)) kinds
fixed_from_columns rows [] all f = tt
fixed_from_columns rows (kind ∷ kinds) [] f = absurd f
fixed_from_columns rows (kind ∷ kinds) (cells ∷ all) f = (f.0.fixed, fixed_from_columns rows kinds all f.1)

-- the columns of rows that are of these kinds
pub columns_from_rows : (kinds : List Kind) (rows : Rows) → AllByRecursion (λ (kind : Kind). IsTrue (is_fixed kind)) kinds → AllByRecursion (IsRowOf kinds) rows → AllZip (FitsColumn (length rows)) kinds (columns_of (length kinds) rows)
columns_from_rows kinds rows fixed all =
    let n : ℕ = length kinds in
    zip_from (FitsColumn (length rows)) kinds (columns_of n rows) some_kind [] (sym (length-columns_of n rows)) (λ c in_kinds.
    let column : get_or (columns_of n rows) c [] ≡ column_at rows c = columns_of-column n rows c in_kinds in
    subst (λ (cells : Cells). FitsColumn (length rows) (get_or kinds c some_kind) cells) (sym column) (record {
      fixed = at_place (λ (kind : Kind). IsTrue (is_fixed kind)) kinds c some_kind fixed in_kinds;
      wide = length-column_at rows c;
      each = λ r lt.
          let row = at_place (IsRowOf kinds) rows r no_row all lt in
          subst (λ (cell : Option Value). IsCellOf (get_or kinds c some_kind) cell) (sym (column_at-cell rows c r lt)) (zip_at IsCellOf kinds (get_or rows r no_row).1.cells c some_kind None row.cells in_kinds);
    }))

pub row_wide : (kinds : List Kind) (rows : Rows) (r : ℕ) → AllByRecursion (IsRowOf kinds) rows → r < length rows → length (get_or rows r no_row).1.cells ≡ length kinds
row_wide kinds rows r all lt = let row = at_place (IsRowOf kinds) rows r no_row all lt in sym (zip_length IsCellOf kinds (get_or rows r no_row).1.cells row.cells)

-- ---- what fits

abbrev pub parts_are : List Kind → ℕ → Rows → Parts
parts_are kinds table rows = ((BLOCK_MAGIC, (table, (length rows, length kinds))), (times_of rows, (births_of rows, columns_of (length kinds) rows)))

abbrev pub TheyFit : List Kind → ℕ → Rows → Type 0
TheyFit kinds table rows = PartsFit kinds BLOCK_MAGIC table (length rows) (length kinds) (times_of rows) (births_of rows) (columns_of (length kinds) rows)

fits_by : (kinds : List Kind) (table : ℕ) (rows : Rows) (wide : Bool) → list_all (has_width (length kinds)) rows ≡ wide → part_fits (block_parts kinds) (cond wide (Some (parts_are kinds table rows)) None) ≡ true → (list_all (has_width (length kinds)) rows ≡ true) × TheyFit kinds table rows
fits_by kinds table rows false is e = absurd cc
fits_by kinds table rows true is e = (is, parts_fit kinds BLOCK_MAGIC table (length rows) (length kinds) (times_of rows) (births_of rows) (columns_of (length kinds) rows) e)

pub holds : (kinds : List Kind) (table : ℕ) (rows : Rows) → (block kinds).fits (table, rows) ≡ true → CanHold kinds table rows × HasNumbers table rows
unfolding block
holds kinds table rows e =
    let f = fits_by kinds table rows (list_all (has_width (length kinds)) rows) refl e in
    let p = f.1 in
    let r = rise rows p.times_fit in (
      record {
        table_is = p.table_some;
        columns = p.count_fits;
        fixed = fixed_from_columns (length rows) kinds (columns_of (length kinds) rows) p.columns_fit;
        some = p.rows_some;
        few = p.rows_few;
        rising = r.0;
        rows_are = by_recursion (IsRowOf kinds) rows no_row (λ i lt.
            let wide : length (get_or rows i no_row).1.cells ≡ length kinds = eqb-true (length (get_or rows i no_row).1.cells) (length kinds) (list_all_at (has_width (length kinds)) rows i no_row f.0 lt) in
            row_from_columns kinds rows i p.columns_fit lt wide (at_place InTime rows i no_row r.1 lt));
      },
      record { table_is = p.table_fits; births_are = births_hold [] rows p.births_fit },
    )

pub widths : (kinds : List Kind) (rows : Rows) → AllByRecursion (IsRowOf kinds) rows → list_all (has_width (length kinds)) rows ≡ true
widths kinds rows all = list_all_from (has_width (length kinds)) rows no_row (λ r lt. eq-eqb (length (get_or rows r no_row).1.cells) (length kinds) (row_wide kinds rows r all lt))

pub parts_are_of : (kinds : List Kind) (table : ℕ) (rows : Rows) → AllByRecursion (IsRowOf kinds) rows → parts_of kinds (table, rows) ≡ Some (parts_are kinds table rows)
parts_are_of kinds table rows all = cond-true (list_all (has_width (length kinds)) rows) (Some (parts_are kinds table rows)) None (widths kinds rows all)

pub they_fit : (kinds : List Kind) (table : ℕ) (rows : Rows) → CanHold kinds table rows → HasNumbers table rows → TheyFit kinds table rows
they_fit kinds table rows can has =
    let in_time : AllByRecursion InTime rows = by_recursion InTime rows no_row (λ r lt. (let row = at_place (IsRowOf kinds) rows r no_row can.rows_are lt in row.in_time)) in
    record {
      magic_is = refl;
      table_some = can.table_is;
      table_fits = has.table_is;
      rows_some = can.some;
      rows_few = can.few;
      count_is = refl;
      count_fits = can.columns;
      times_wide = length-map rows (λ (row : ℕ × Partial). row.0);
      times_fit = times_fit_from rows can.rising in_time;
      births_wide = length-map rows (λ (row : ℕ × Partial). row.1.birth.born);
      births_fit = births_fit_from [] rows has.births_are;
      columns_fit = columns_from_rows kinds rows can.fixed can.rows_are;
    }

pub fits : (kinds : List Kind) (table : ℕ) (rows : Rows) → CanHold kinds table rows → HasNumbers table rows → (block kinds).fits (table, rows) ≡ true
unfolding block
fits kinds table rows can has =
    ap (λ (o : Option Parts). part_fits (block_parts kinds) o) (parts_are_of kinds table rows can.rows_are)
    ∙ parts_fit_from kinds BLOCK_MAGIC table (length rows) (length kinds) (times_of rows) (births_of rows) (columns_of (length kinds) rows) (they_fit kinds table rows can has)
