-- Blocks have one spelling.
use Rattle.std.proofs.Common.{◌≡◌, ℕ, zero, suc, ◌^◌, ◌<◌, ◌≤◌, Bool, true, false, cond, eqb, ltb, leb, List, [], ◌∷◌, ◌++◌, length, get_or, Option, Some, None, refl, sym, ap, ◌∙◌, arith}
use Rattle.std.specs.Prelude.{◌&&◌}
use Rattle.std.specs.List.{AllZip, list_all}
use Rattle.std.specs.Int.{w16, w32, w64}
use Rattle.std.proofs.lemmas.Bool.{and_parts, and_from, eqb-true, eq-eqb, ltb-true, leb-true, lt-ltb, le-leb, cond-true}
use Rattle.td_limits.specs.declared.limits.TheConstants.{BLOCK_ROWS, LAST_TIMESTAMP}
use Rattle.td_cols.specs.declared.kinds.Kind.{Kind}
use Rattle.td_layer.specs.declared.values.Value.{Value}
use Rattle.td_codec.specs.Fields.{SpellsOnce, number, nothing, checked, pair}
use Rattle.td_codec.specs.Lists.{each, all_fit}
use Rattle.td_codec.proofs.FieldLaws.{wide16, wide32, wide64, number_spells, nothing_spells, checked_spells, followed_spells, pair_spells, made_spells, ok_is}
use Rattle.td_codec.proofs.ValueLaws.{some_is}
use Rattle.td_block.specs.declared.header.TheConstants.{BLOCK_MAGIC}
use Rattle.td_block.specs.Columns.{column}
use Rattle.td_block.specs.Rows.{Rows, is_later, time_items, times, births, rows_from, times_of, births_of, columns_of}
use Rattle.td_block.specs.Blocks.{is_count, head, first_and_others, no_items, columns, Held, Parts, block_parts, held_by, has_width, parts_of, block}
use Rattle.td_block.proofs.Many.{so_many_spells}
use Rattle.td_block.proofs.ColumnLaws.{FitsColumn, column_spells, column_holds, column_fits}
use Rattle.td_block.proofs.RowLaws.{no_row, zip_length, list_all_from, list_all_at, length-rows_from, times_of-rows_from, births_of-rows_from, columns_of-rows_from, width-rows_from, rows_from-lists}

abbrev pub Cells : Type 0
Cells = List (Option Value)

-- ---- the parts of a block have one spelling

pub head_spells : (count : Option ℕ) → SpellsOnce (head count)
unfolding head
head_spells count =
    pair_spells (checked (number w32) (λ n. eqb n BLOCK_MAGIC)) (pair (checked (number w32) (λ table. leb 1 table)) (pair (checked (number w32) (λ rows. leb 1 rows && leb rows BLOCK_ROWS)) (checked (number w16) (is_count count))))
    (checked_spells (number w32) (λ n. eqb n BLOCK_MAGIC) (number_spells w32 wide32))
    (pair_spells (checked (number w32) (λ table. leb 1 table)) (pair (checked (number w32) (λ rows. leb 1 rows && leb rows BLOCK_ROWS)) (checked (number w16) (is_count count)))
    (checked_spells (number w32) (λ table. leb 1 table) (number_spells w32 wide32))
    (pair_spells (checked (number w32) (λ rows. leb 1 rows && leb rows BLOCK_ROWS)) (checked (number w16) (is_count count))
    (checked_spells (number w32) (λ rows. leb 1 rows && leb rows BLOCK_ROWS) (number_spells w32 wide32))
    (checked_spells (number w16) (is_count count) (number_spells w16 wide16))))

pub times_spell : (rows : ℕ) → SpellsOnce (times rows)
unfolding times
times_spell rows = so_many_spells rows time_items (λ before. checked_spells (number w64) (λ ts. leb ts LAST_TIMESTAMP && is_later before ts) (number_spells w64 wide64))

pub births_spell : (rows : ℕ) → SpellsOnce (births rows)
unfolding births
births_spell rows = so_many_spells rows (each (number w64)) (λ before. number_spells w64 wide64)

no_columns : (a : Unit {0}) (all : List Cells) → no_items all ≡ Some a → [] ≡ all
no_columns a [] e = refl
no_columns a (column ∷ all) e = absurd cc

first_is : {A : Type 0} (a : A × List A) (all : List A) → first_and_others all ≡ Some a → a.0 ∷ a.1 ≡ all
first_is a [] e = absurd cc
first_is {A} a (x ∷ xs) e = ap (λ (p : A × List A). p.0 ∷ p.1) (sym (some_is (x, xs) a e))

pub columns_spell : (rows : ℕ) (kinds : List Kind) → SpellsOnce (columns rows kinds)
unfolding columns
columns_spell rows [] = made_spells nothing (λ _. []) no_items (λ a _. refl) no_columns nothing_spells
columns_spell rows (kind ∷ kinds) =
    made_spells (pair (column rows kind) (columns rows kinds)) (λ x. x.0 ∷ x.1) first_and_others (λ a _. refl) (λ a all e. first_is a all e)
    (pair_spells (column rows kind) (columns rows kinds) (column_spells rows kind) (columns_spell rows kinds))

-- ---- what columns hold

pub columns_hold : (rows : ℕ) (kinds : List Kind) (all : List Cells) → (columns rows kinds).fits all ≡ true → AllZip (FitsColumn rows) kinds all
unfolding columns
columns_hold rows [] [] e = tt
columns_hold rows [] (cells ∷ all) e = absurd cc
columns_hold rows (kind ∷ kinds) [] e = absurd cc
columns_hold rows (kind ∷ kinds) (cells ∷ all) e =
    let f = and_parts ((column rows kind).fits cells) ((columns rows kinds).fits all) e in
    (column_holds rows kind cells f.0, columns_hold rows kinds all f.1)

pub columns_fit : (rows : ℕ) (kinds : List Kind) (all : List Cells) → AllZip (FitsColumn rows) kinds all → (columns rows kinds).fits all ≡ true
unfolding columns
columns_fit rows [] [] f = refl
columns_fit rows [] (cells ∷ all) f = absurd f
columns_fit rows (kind ∷ kinds) [] f = absurd f
columns_fit rows (kind ∷ kinds) (cells ∷ all) f =
    and_from ((column rows kind).fits cells) ((columns rows kinds).fits all) (column_fits rows kind cells f.0) (columns_fit rows kinds all f.1)

pub columns_wide : (rows : ℕ) (kinds : List Kind) (all : List Cells) (c : ℕ) → AllZip (FitsColumn rows) kinds all → c < length all → length (get_or all c []) ≡ rows
columns_wide rows [] [] c f lt = absurd (omega (arith, lt))
columns_wide rows [] (cells ∷ all) c f lt = absurd f
columns_wide rows (kind ∷ kinds) [] c f lt = absurd f
columns_wide rows (kind ∷ kinds) (cells ∷ all) zero f lt = f.0.wide
columns_wide rows (kind ∷ kinds) (cells ∷ all) (suc c) f lt = columns_wide rows kinds all c f.1 (omega (arith, lt))

-- ---- blocks

-- what fits of the parts of a block
pub record PartsFit (kinds : List Kind) (m table rows count : ℕ) (ts born : List ℕ) (all : List Cells) : Type 0 where
  pub magic_is : m ≡ BLOCK_MAGIC
  pub table_some : 1 ≤ table
  pub table_fits : table < 2 ^ 32
  pub rows_some : 1 ≤ rows
  pub rows_few : rows ≤ BLOCK_ROWS
  pub count_is : count ≡ length kinds
  pub count_fits : count < 2 ^ 16
  pub times_wide : length ts ≡ rows
  pub times_fit : all_fit time_items [] ts ≡ true
  pub births_wide : length born ≡ rows
  pub births_fit : all_fit (each (number w64)) [] born ≡ true
  pub columns_fit : AllZip (FitsColumn rows) kinds all

pub parts_fit : (kinds : List Kind) (m table rows count : ℕ) (ts born : List ℕ) (all : List Cells) → (block_parts kinds).fits ((m, (table, (rows, count))), (ts, (born, all))) ≡ true → PartsFit kinds m table rows count ts born all
unfolding block_parts head times births
parts_fit kinds m table rows count ts born all e =
    let a = and_parts ((head (Some (length kinds))).fits (m, (table, (rows, count)))) ((times rows).fits ts && ((births rows).fits born && (columns rows kinds).fits all)) e in
    let m_fits : Bool = ltb m (2 ^ 32) && eqb m BLOCK_MAGIC in
    let table_fits : Bool = ltb table (2 ^ 32) && leb 1 table in
    let rows_fits : Bool = ltb rows (2 ^ 32) && (leb 1 rows && leb rows BLOCK_ROWS) in
    let count_fits : Bool = ltb count (2 ^ 16) && eqb count (length kinds) in
    let h1 = and_parts m_fits (table_fits && (rows_fits && count_fits)) a.0 in
    let h2 = and_parts table_fits (rows_fits && count_fits) h1.1 in
    let h3 = and_parts rows_fits count_fits h2.1 in
    let m1 = and_parts (ltb m (2 ^ 32)) (eqb m BLOCK_MAGIC) h1.0 in
    let t1 = and_parts (ltb table (2 ^ 32)) (leb 1 table) h2.0 in
    let r1 = and_parts (ltb rows (2 ^ 32)) (leb 1 rows && leb rows BLOCK_ROWS) h3.0 in
    let r2 = and_parts (leb 1 rows) (leb rows BLOCK_ROWS) r1.1 in
    let c1 = and_parts (ltb count (2 ^ 16)) (eqb count (length kinds)) h3.1 in
    let b = and_parts ((times rows).fits ts) ((births rows).fits born && (columns rows kinds).fits all) a.1 in
    let c = and_parts ((births rows).fits born) ((columns rows kinds).fits all) b.1 in
    let ts1 = and_parts (eqb (length ts) rows) (all_fit time_items [] ts) b.0 in
    let born1 = and_parts (eqb (length born) rows) (all_fit (each (number w64)) [] born) c.0 in
    record {
      magic_is = eqb-true m BLOCK_MAGIC m1.1;
      table_some = leb-true 1 table t1.1;
      table_fits = ltb-true table (2 ^ 32) t1.0;
      rows_some = leb-true 1 rows r2.0;
      rows_few = leb-true rows BLOCK_ROWS r2.1;
      count_is = eqb-true count (length kinds) c1.1;
      count_fits = ltb-true count (2 ^ 16) c1.0;
      times_wide = eqb-true (length ts) rows ts1.0;
      times_fit = ts1.1;
      births_wide = eqb-true (length born) rows born1.0;
      births_fit = born1.1;
      columns_fit = columns_hold rows kinds all c.1;
    }

pub parts_fit_from : (kinds : List Kind) (m table rows count : ℕ) (ts born : List ℕ) (all : List Cells) → PartsFit kinds m table rows count ts born all → (block_parts kinds).fits ((m, (table, (rows, count))), (ts, (born, all))) ≡ true
unfolding block_parts head times births
parts_fit_from kinds m table rows count ts born all p =
    let m_fits : Bool = ltb m (2 ^ 32) && eqb m BLOCK_MAGIC in
    let table_fits : Bool = ltb table (2 ^ 32) && leb 1 table in
    let rows_fits : Bool = ltb rows (2 ^ 32) && (leb 1 rows && leb rows BLOCK_ROWS) in
    let count_fits : Bool = ltb count (2 ^ 16) && eqb count (length kinds) in
    let m1 : m_fits ≡ true = and_from (ltb m (2 ^ 32)) (eqb m BLOCK_MAGIC) (lt-ltb m (2 ^ 32) (omega (arith, p.magic_is))) (eq-eqb m BLOCK_MAGIC p.magic_is) in
    let t1 : table_fits ≡ true = and_from (ltb table (2 ^ 32)) (leb 1 table) (lt-ltb table (2 ^ 32) p.table_fits) (le-leb 1 table p.table_some) in
    let r1 : rows_fits ≡ true = and_from (ltb rows (2 ^ 32)) (leb 1 rows && leb rows BLOCK_ROWS) (lt-ltb rows (2 ^ 32) (omega (arith, p.rows_few))) (and_from (leb 1 rows) (leb rows BLOCK_ROWS) (le-leb 1 rows p.rows_some) (le-leb rows BLOCK_ROWS p.rows_few)) in
    let c1 : count_fits ≡ true = and_from (ltb count (2 ^ 16)) (eqb count (length kinds)) (lt-ltb count (2 ^ 16) p.count_fits) (eq-eqb count (length kinds) p.count_is) in
    let ts1 : (times rows).fits ts ≡ true = and_from (eqb (length ts) rows) (all_fit time_items [] ts) (eq-eqb (length ts) rows p.times_wide) p.times_fit in
    let born1 : (births rows).fits born ≡ true = and_from (eqb (length born) rows) (all_fit (each (number w64)) [] born) (eq-eqb (length born) rows p.births_wide) p.births_fit in
    and_from ((head (Some (length kinds))).fits (m, (table, (rows, count)))) ((times rows).fits ts && ((births rows).fits born && (columns rows kinds).fits all))
    (and_from m_fits (table_fits && (rows_fits && count_fits)) m1 (and_from table_fits (rows_fits && count_fits) t1 (and_from rows_fits count_fits r1 c1)))
    (and_from ((times rows).fits ts) ((births rows).fits born && (columns rows kinds).fits all) ts1
    (and_from ((births rows).fits born) ((columns rows kinds).fits all) born1 (columns_fit rows kinds all p.columns_fit)))

block_parts_spell : (kinds : List Kind) → SpellsOnce (block_parts kinds)
unfolding block_parts
block_parts_spell kinds =
    followed_spells (head (Some (length kinds))) (λ h. pair (times h.1.1.0) (pair (births h.1.1.0) (columns h.1.1.0 kinds))) (head_spells (Some (length kinds))) (λ h.
    pair_spells (times h.1.1.0) (pair (births h.1.1.0) (columns h.1.1.0 kinds)) (times_spell h.1.1.0)
    (pair_spells (births h.1.1.0) (columns h.1.1.0 kinds) (births_spell h.1.1.0) (columns_spell h.1.1.0 kinds)))

-- the parts of what parts hold are these parts
block_back : (kinds : List Kind) (m table rows count : ℕ) (ts born : List ℕ) (all : List Cells) → PartsFit kinds m table rows count ts born all
    → parts_of kinds (table, rows_from ts born all) ≡ Some ((m, (table, (rows, count))), (ts, (born, all)))
block_back kinds m table rows count ts born all p =
    let held : Rows = rows_from ts born all in
    let n : ℕ = length kinds in
    let many : n ≡ length all = zip_length (FitsColumn rows) kinds all p.columns_fit in
    let len : length held ≡ length ts = length-rows_from ts born all in
    let wide : list_all (has_width n) held ≡ true = list_all_from (has_width n) held no_row (λ r lt.
    eq-eqb (length (get_or held r no_row).1.cells) n (width-rows_from ts born all r (omega (arith, lt, len)) ∙ sym many)) in
    let columns_wide : (c : ℕ) → c < length all → length (get_or all c []) ≡ length ts = λ c lt. columns_wide rows kinds all c p.columns_fit lt ∙ sym p.times_wide in
    cond-true (list_all (has_width n) held) (Some ((BLOCK_MAGIC, (table, (length held, n))), (times_of held, (births_of held, columns_of n held)))) None wide
    ∙ ap (λ (k : ℕ). Some ((k, (table, (length held, n))), (times_of held, (births_of held, columns_of n held)))) (sym p.magic_is)
    ∙ ap (λ (k : ℕ). Some ((m, (table, (k, n))), (times_of held, (births_of held, columns_of n held)))) (len ∙ p.times_wide)
    ∙ ap (λ (l : List ℕ). Some ((m, (table, (rows, n))), (l, (births_of held, columns_of n held)))) (times_of-rows_from ts born all)
    ∙ ap (λ (l : List ℕ). Some ((m, (table, (rows, n))), (ts, (l, columns_of n held)))) (births_of-rows_from ts born all (p.births_wide ∙ sym p.times_wide))
    ∙ ap (λ (l : List Cells). Some ((m, (table, (rows, n))), (ts, (born, l)))) (ap (λ (k : ℕ). columns_of k held) many ∙ columns_of-rows_from ts born all columns_wide)
    ∙ ap (λ (k : ℕ). Some ((m, (table, (rows, k))), (ts, (born, all)))) (sym p.count_is)

block_only_by : (kinds : List Kind) (a : Parts) (b : Held) (wide : Bool) → list_all (has_width (length kinds)) b.1 ≡ wide
    → cond wide (Some ((BLOCK_MAGIC, (b.0, (length b.1, length kinds))), (times_of b.1, (births_of b.1, columns_of (length kinds) b.1)))) None ≡ Some a → held_by a ≡ b
block_only_by kinds a b false is e = absurd cc
block_only_by kinds a b true is e =
    let parts : Parts = ((BLOCK_MAGIC, (b.0, (length b.1, length kinds))), (times_of b.1, (births_of b.1, columns_of (length kinds) b.1))) in
    ap held_by (sym (some_is parts a e))
    ∙ ap (λ (rows : Rows). (b.0, rows)) (rows_from-lists (length kinds) b.1 (λ r lt. eqb-true (length (get_or b.1 r no_row).1.cells) (length kinds) (list_all_at (has_width (length kinds)) b.1 r no_row is lt)))

pub block_spells : (kinds : List Kind) → SpellsOnce (block kinds)
unfolding block
block_spells kinds =
    made_spells (block_parts kinds) held_by (parts_of kinds)
    (λ a fits. block_back kinds a.0.0 a.0.1.0 a.0.1.1.0 a.0.1.1.1 a.1.0 a.1.1.0 a.1.1.1 (parts_fit kinds a.0.0 a.0.1.0 a.0.1.1.0 a.0.1.1.1 a.1.0 a.1.1.0 a.1.1.1 fits))
    (λ a b e. block_only_by kinds a b (list_all (has_width (length kinds)) b.1) refl e)
    (block_parts_spell kinds)

-- bytes begin with one block of the same kinds at most
pub one_block : (kinds : List Kind) (a b : Held) (x y : List ℕ) → (block kinds).fits a ≡ true → (block kinds).fits b ≡ true → (block kinds).spelled a ++ x ≡ (block kinds).spelled b ++ y → (a ≡ b) × (x ≡ y)
one_block kinds a b x y fa fb same =
    let one = block_spells kinds in
    let both : (a, x) ≡ (b, y) = ok_is (a, x) (b, y) (sym (one.again a x fa) ∙ ap (block kinds).read same ∙ one.again b y fb) in
    (ap (λ (p : Held × List ℕ). p.0) both, ap (λ (p : Held × List ℕ). p.1) both)
