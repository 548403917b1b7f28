-- A block has its header, and the length that this says.
use Rattle.std.proofs.Common.{◌≡◌, ℕ, zero, suc, ◌+◌, ◌-◌, ◌*◌, ◌%◌, ◌^◌, ◌<◌, ◌≤◌, Bool, true, false, eqb, ltb, leb, List, [], ◌∷◌, ◌++◌, map, length, get_or, take, drop, Option, Some, None, Ok, Err, refl, sym, ap, ◌∙◌, append_assoc, arith}
use Rattle.std.specs.Prelude.{◌&&◌}
use Rattle.std.specs.List.{AllZip, AllByRecursion, flat_map, sum_by}
use Rattle.std.specs.Ordering.{nat_cmp}
use Rattle.std.specs.Int.{w8, w16, w32, w64, to_le_bytes}
use Rattle.std.proofs.lemmas.Bool.{and_from, ltb-true, lt-ltb, le-ltb, le-leb, ne_eqb, cond-false}
use Rattle.std.proofs.lemmas.List.{length-append, length-map, length-take-le, drop_at, take_all, take_more, append-nil}
use Rattle.std.proofs.lemmas.List.Concat.{flat_map-append}
use Rattle.std.proofs.lemmas.List.Sums.{sum_by-cons}
use Rattle.td_limits.specs.declared.limits.TheConstants.{BLOCK_ROWS, LAST_TIMESTAMP}
use Rattle.td_cols.specs.declared.kinds.Kind.{Kind}
use Rattle.td_cols.specs.declared.kinds.Kind.TheVariants.{Bool as Truth, I8, I16, I32, I64, U8, U16, U32, U64, Time, Wide, Text}
use Rattle.td_cols.specs.Kinds.{kind_code, kind_width}
use Rattle.td_cols.specs.Spelling.{AreBytes, spelling}
use Rattle.td_layer.specs.declared.parts.Partial.{Partial}
use Rattle.td_layer.specs.Keys.{AllAfter}
use Rattle.td_codec.specs.Fields.{◌>>=◌, Read, number, checked, spelled_part}
use Rattle.td_codec.specs.Lists.{items_read}
use Rattle.td_codec.proofs.FieldLaws.{bind_is, wide8, wide64, number_spells, checked_spells}
use Rattle.td_block.specs.declared.header.TheConstants.{BLOCK_MAGIC}
use Rattle.td_block.specs.declared.header.Header.{Header}
use Rattle.td_block.specs.Bits.{bitmap_length, bitmap}
use Rattle.td_block.specs.Columns.{is_fixed, is_named, is_valued, lane, column}
use Rattle.td_block.specs.Rows.{Rows, times, births, times_of, births_of, columns_of, IsRowOf, CanHold, HasNumbers}
use Rattle.td_block.specs.Blocks.{head, columns, Held, Parts, block_parts, block, block_bytes}
use Rattle.td_block.specs.Headers.{column_length, block_length, kind_of_code, passed, first_time, last_time, kind_or_fault, kind_read, kinds_of, header_read, header_of_block}
use Rattle.td_block.proofs.Bitmaps.{length-bitmap}
use Rattle.td_block.proofs.ColumnLaws.{FitsColumn, length_of_bytes, length_of_lanes, length-column}
use Rattle.td_block.proofs.BlockLaws.{Cells, head_spells, block_spells}
use Rattle.td_block.proofs.HoldLaws.{InTime, holds, they_fit, less_from, parts_are_of, columns_from_rows}

-- ---- what is passed over

passed_front : (width count : ℕ) (front rest : List ℕ) → length front ≡ width * count → passed width count (front ++ rest) ≡ Ok rest
passed_front width count front rest len =
    let long : width * count ≤ length (front ++ rest) = omega (arith, len, length-append front rest) in
    cond-false (ltb (length (front ++ rest)) (width * count)) (Err (length (front ++ rest) % width)) (Ok (drop (width * count) (front ++ rest))) (le-ltb (length (front ++ rest)) (width * count) long)
    ∙ ap (λ (l : List ℕ). Ok l) (drop_at front rest (width * count) len)

-- ---- kinds

code_of_kind : (kind : Kind) → is_fixed kind ≡ true → kind_of_code (kind_code kind) ≡ Some kind
unfolding kind_code
code_of_kind Truth fixed = refl
code_of_kind I8 fixed = refl
code_of_kind I16 fixed = refl
code_of_kind I32 fixed = refl
code_of_kind I64 fixed = refl
code_of_kind U8 fixed = refl
code_of_kind U16 fixed = refl
code_of_kind U32 fixed = refl
code_of_kind U64 fixed = refl
code_of_kind Time fixed = refl
code_of_kind Wide fixed = absurd cc
code_of_kind (Text n) fixed = absurd cc

-- the bytes of a column behind its code
abbrev body_of : Kind → Cells → List ℕ
body_of kind all = flat_map (number w8).spelled (bitmap (map is_named all)) ++ (flat_map (number w8).spelled (bitmap (map is_valued all)) ++ flat_map (λ cell. spelling kind (lane cell)) all)

column_bytes : (rows : ℕ) (kind : Kind) (all : Cells) → (column rows kind).spelled all ≡ (number w8).spelled (kind_code kind) ++ body_of kind all
unfolding column
column_bytes rows kind all = refl

kind_passes : (rows : ℕ) (kind : Kind) (all : Cells) (rest : List ℕ) → FitsColumn rows kind all → kind_read rows ((column rows kind).spelled all ++ rest) ≡ Ok (kind, rest)
unfolding kind_read
kind_passes rows kind all rest f =
    let names : List ℕ = flat_map (number w8).spelled (bitmap (map is_named all)) in
    let values : List ℕ = flat_map (number w8).spelled (bitmap (map is_valued all)) in
    let lanes : List ℕ = flat_map (λ cell. spelling kind (lane cell)) all in
    let own : List ℕ = (number w8).spelled (kind_code kind) in
    let whole : List ℕ = (column rows kind).spelled all ++ rest in
    let bytes : List ℕ = own ++ ((names ++ values) ++ (lanes ++ rest)) in
    let small : ltb (kind_code kind) (2 ^ 8) ≡ true = (let lt : kind_code kind < 11 = ltb-true (kind_code kind) 11 f.fixed in lt-ltb (kind_code kind) (2 ^ 8) (omega (arith, lt))) in
    let apart : whole ≡ bytes = ap (λ (l : List ℕ). l ++ rest) (column_bytes rows kind all) ∙ append_assoc own (names ++ (values ++ lanes)) rest
    ∙ ap (λ (l : List ℕ). own ++ l) (ap (λ (l : List ℕ). l ++ rest) (sym (append_assoc names values lanes)) ∙ append_assoc (names ++ values) lanes rest) in
    let n : length names ≡ bitmap_length rows = length_of_bytes (bitmap (map is_named all)) ∙ length-bitmap (map is_named all) ∙ ap bitmap_length (length-map all is_named ∙ f.wide) in
    let v : length values ≡ bitmap_length rows = length_of_bytes (bitmap (map is_valued all)) ∙ length-bitmap (map is_valued all) ∙ ap bitmap_length (length-map all is_valued ∙ f.wide) in
    let l : length lanes ≡ kind_width kind * rows = length_of_lanes kind all ∙ (omega (arith, ap (λ (m : ℕ). m * kind_width kind) f.wide)) in
    let maps : length (names ++ values) ≡ 1 * (2 * bitmap_length rows) = omega (arith, n, v, length-append names values) in
    let after_code : ℕ × List ℕ → Read Kind = λ code. kind_or_fault (length whole) (kind_of_code code.0) >>= λ kind. passed 1 (2 * bitmap_length rows) code.1 >>= λ lanes. passed (kind_width kind) rows lanes >>= λ rest. Ok (kind, rest) in
    let after_kind : Kind → Read Kind = λ kind. passed 1 (2 * bitmap_length rows) ((names ++ values) ++ (lanes ++ rest)) >>= λ lanes. passed (kind_width kind) rows lanes >>= λ rest. Ok (kind, rest) in
    ap (λ (l : List ℕ). (number w8).read l >>= after_code) apart
    ∙ bind_is after_code ((number_spells w8 wide8).again (kind_code kind) ((names ++ values) ++ (lanes ++ rest)) small)
    ∙ bind_is after_kind (ap (λ (o : Option Kind). kind_or_fault (length whole) o) (code_of_kind kind f.fixed))
    ∙ bind_is (λ (lanes : List ℕ). passed (kind_width kind) rows lanes >>= λ rest. Ok (kind, rest)) (passed_front 1 (2 * bitmap_length rows) (names ++ values) (lanes ++ rest) maps)
    ∙ bind_is (λ (rest : List ℕ). Ok (kind, rest)) (passed_front (kind_width kind) rows lanes rest l)

kinds_pass : (rows : ℕ) (before kinds : List Kind) (all : List Cells) (rest : List ℕ) → AllZip (FitsColumn rows) kinds all → items_read (kinds_of rows) before (length kinds) ((columns rows kinds).spelled all ++ rest) ≡ Ok (kinds, rest)
unfolding columns items_read
kinds_pass rows before [] [] rest f = refl
kinds_pass rows before [] (cells ∷ all) rest f = absurd f
kinds_pass rows before (kind ∷ kinds) [] rest f = absurd f
kinds_pass rows before (kind ∷ kinds) (cells ∷ all) rest f =
    let front : List ℕ = (column rows kind).spelled cells in
    let others : List ℕ = (columns rows kinds).spelled all in
    let k : Kind × List ℕ → Read (List Kind) = λ first. items_read (kinds_of rows) (before ++ first.0 ∷ []) (length kinds) first.1 >>= λ others. Ok (first.0 ∷ others.0, others.1) in
    ap (λ (l : List ℕ). kind_read rows l >>= k) (append_assoc front others rest)
    ∙ bind_is k (kind_passes rows kind cells (others ++ rest) f.0)
    ∙ bind_is (λ (others : List Kind × List ℕ). Ok (kind ∷ others.0, others.1)) (kinds_pass rows (before ++ kind ∷ []) kinds all rest f.1)

-- ---- numbers of 64 bits

length_of_numbers : (ns : List ℕ) → length (flat_map (to_le_bytes w64) ns) ≡ 8 * length ns
length_of_numbers [] = refl
length_of_numbers (n ∷ ns) =
    let others = length_of_numbers ns in
    let one : length (to_le_bytes w64 n) ≡ 8 = wide64.len n in
    length-append (to_le_bytes w64 n) (flat_map (to_le_bytes w64) ns) ∙ (omega (arith, others, one))

-- the last of some numbers
split_last : (ns : List ℕ) (m : ℕ) → length ns ≡ suc m → ns ≡ take m ns ++ get_or ns m 0 ∷ []
split_last ns m len =
    let lt : m < length ns = omega (arith, len) in
    sym (take_all (m + 1) ns (omega (arith, len))) ∙ take_more ns m 0 lt

last_passes : (first last m : ℕ) (more : List ℕ) (rest : List ℕ) → length more ≡ suc m → get_or more m 0 ≡ last → ltb last (2 ^ 64) ≡ true → last ≤ LAST_TIMESTAMP → first < last
    → last_time (suc m) first (flat_map (to_le_bytes w64) more ++ rest) ≡ Ok (last, rest)
last_passes first last m more rest len last_is fits in_time later =
    let front : List ℕ = flat_map (to_le_bytes w64) (take m more) in
    let own : List ℕ = to_le_bytes w64 last in
    let test : ℕ → Bool = λ ts. leb ts LAST_TIMESTAMP && ltb first ts in
    let k : List ℕ → Read ℕ = λ after. (checked (number w64) test).read after in
    let less : suc m - 1 ≡ m = omega arith in
    let apart : flat_map (to_le_bytes w64) more ++ rest ≡ front ++ (own ++ rest) =
    ap (λ (l : List ℕ). flat_map (to_le_bytes w64) l ++ rest) (split_last more m len ∙ ap (λ (n : ℕ). take m more ++ n ∷ []) last_is)
    ∙ ap (λ (l : List ℕ). l ++ rest) (flat_map-append (to_le_bytes w64) (take m more) (last ∷ []) ∙ ap (λ (l : List ℕ). front ++ l) (append-nil own))
    ∙ append_assoc front own rest in
    let long : length front ≡ 8 * m = length_of_numbers (take m more) ∙ ap (λ (n : ℕ). 8 * n) (length-take-le m more (omega (arith, len))) in
    let passes : (ltb last (2 ^ 64) && test last) ≡ true = and_from (ltb last (2 ^ 64)) (test last) fits (and_from (leb last LAST_TIMESTAMP) (ltb first last) (le-leb last LAST_TIMESTAMP in_time) (lt-ltb first last later)) in
    let whole : List ℕ = flat_map (to_le_bytes w64) more ++ rest in
    let some : eqb (suc m) 0 ≡ false = ne_eqb (suc m) 0 (λ e. omega (arith, e)) in
    cond-false (eqb (suc m) 0) (Ok (first, whole)) (passed 8 (suc m - 1) whole >>= k) some
    ∙ ap (λ (n : ℕ). passed 8 n whole >>= k) less
    ∙ ap (λ (l : List ℕ). passed 8 m l >>= k) apart
    ∙ bind_is k (passed_front 8 m front (own ++ rest) long)
    ∙ (checked_spells (number w64) test (number_spells w64 wide64)).again last rest passes

-- the last of rows that come after a timestamp
last_after : (k : ℕ) (rows : Rows) (i : ℕ) → AllAfter nat_cmp k rows → i < length rows → k < get_or (times_of rows) i 0
last_after k [] i after lt = absurd (omega (arith, lt))
last_after k (row ∷ rows) zero after lt = less_from k row.0 after.0
last_after k (row ∷ rows) (suc i) after lt = last_after k rows i after.1 (omega (arith, lt))

time_at : (rows : Rows) (i : ℕ) → AllByRecursion InTime rows → i < length rows → get_or (times_of rows) i 0 ≤ LAST_TIMESTAMP
time_at [] i all lt = absurd (omega (arith, lt))
time_at (row ∷ rows) zero all lt = all.0
time_at (row ∷ rows) (suc i) all lt = time_at rows i all.1 (omega (arith, lt))

last_is_read : (row : ℕ × Partial) (others : Rows) (rest : List ℕ) → AllAfter nat_cmp row.0 others → AllByRecursion InTime others
    → last_time (suc (length others) - 1) row.0 (flat_map (to_le_bytes w64) (times_of others) ++ rest) ≡ Ok (get_or (row.0 ∷ times_of others) (suc (length others) - 1) 0, rest)
last_is_read row [] rest after in_time = refl
last_is_read row (x ∷ xs) rest after in_time =
    let more : Rows = x ∷ xs in
    let m : ℕ = length xs in
    let last : ℕ = get_or (times_of more) m 0 in
    let less : suc (suc m) - 1 ≡ suc m = omega arith in
    let within : m < length more = omega arith in
    let le : last ≤ LAST_TIMESTAMP = time_at more m in_time within in
    let later : row.0 < last = last_after row.0 more m after within in
    let len : length (times_of more) ≡ suc m = length-map more (λ (row : ℕ × Partial). row.0) in
    ap (λ (n : ℕ). last_time n row.0 (flat_map (to_le_bytes w64) (times_of more) ++ rest)) less
    ∙ last_passes row.0 last m (times_of more) rest len refl (lt-ltb last (2 ^ 64) (omega (arith, le))) le later
    ∙ ap (λ (n : ℕ). Ok (get_or (row.0 ∷ times_of more) n 0, rest)) (sym less)

-- ---- blocks

columns_size : (rows : ℕ) (kinds : List Kind) (all : List Cells) → AllZip (FitsColumn rows) kinds all → length ((columns rows kinds).spelled all) ≡ sum_by (column_length rows) kinds
unfolding columns
columns_size rows [] [] f = refl
columns_size rows [] (cells ∷ all) f = absurd f
columns_size rows (kind ∷ kinds) [] f = absurd f
columns_size rows (kind ∷ kinds) (cells ∷ all) f =
    let own = length-column rows kind cells f.0.wide in
    let others = columns_size rows kinds all f.1 in
    length-append ((column rows kind).spelled cells) ((columns rows kinds).spelled all) ∙ (omega (arith, own, others)) ∙ sym (sum_by-cons (column_length rows) kind kinds)

all_in_time : (kinds : List Kind) (rows : Rows) → AllByRecursion (IsRowOf kinds) rows → AllByRecursion InTime rows
all_in_time kinds [] all = tt
all_in_time kinds (row ∷ rows) all = (all.0.in_time, all_in_time kinds rows all.1)

-- the bytes of a block, part by part
abbrev pub head_bytes : ℕ → ℕ → ℕ → List ℕ
head_bytes table rows count = to_le_bytes w32 BLOCK_MAGIC ++ (to_le_bytes w32 table ++ (to_le_bytes w32 rows ++ to_le_bytes w16 count))

pub bytes_are : (kinds : List Kind) (table : ℕ) (rows : Rows) → AllByRecursion (IsRowOf kinds) rows
    → block_bytes kinds table rows ≡ head_bytes table (length rows) (length kinds) ++ (flat_map (to_le_bytes w64) (times_of rows) ++ (flat_map (to_le_bytes w64) (births_of rows) ++ (columns (length rows) kinds).spelled (columns_of (length kinds) rows)))
unfolding block block_parts head times births
bytes_are kinds table rows all = ap (λ (o : Option Parts). spelled_part (block_parts kinds) o) (parts_are_of kinds table rows all)

pub block_size : (kinds : List Kind) (table : ℕ) (rows : Rows) → CanHold kinds table rows → length (block_bytes kinds table rows) ≡ block_length (length rows) kinds
block_size kinds table rows can =
    let n : ℕ = length rows in
    let t : List ℕ = flat_map (to_le_bytes w64) (times_of rows) in
    let b : List ℕ = flat_map (to_le_bytes w64) (births_of rows) in
    let c : List ℕ = (columns n kinds).spelled (columns_of (length kinds) rows) in
    let h : List ℕ = head_bytes table n (length kinds) in
    let head_len : length h ≡ 14 = refl in
    let t_len : length t ≡ 8 * n = length_of_numbers (times_of rows) ∙ ap (λ (m : ℕ). 8 * m) (length-map rows (λ (row : ℕ × Partial). row.0)) in
    let b_len : length b ≡ 8 * n = length_of_numbers (births_of rows) ∙ ap (λ (m : ℕ). 8 * m) (length-map rows (λ (row : ℕ × Partial). row.1.birth.born)) in
    let c_len : length c ≡ sum_by (column_length n) kinds = columns_size n kinds (columns_of (length kinds) rows) (columns_from_rows kinds rows can.fixed can.rows_are) in
    ap length (bytes_are kinds table rows can.rows_are) ∙ (omega (arith, head_len, t_len, b_len, c_len, length-append h (t ++ (b ++ c)), length-append t (b ++ c), length-append b c))

head_again : (table rows count : ℕ) (rest : List ℕ) → 1 ≤ table → table < 2 ^ 32 → 1 ≤ rows → rows ≤ BLOCK_ROWS → count < 2 ^ 16 → (head None).read (head_bytes table rows count ++ rest) ≡ Ok ((BLOCK_MAGIC, (table, (rows, count))), rest)
unfolding head
head_again table rows count rest some fits rows_some rows_few count_fits =
    let m1 : (ltb BLOCK_MAGIC (2 ^ 32) && eqb BLOCK_MAGIC BLOCK_MAGIC) ≡ true = refl in
    let t1 : (ltb table (2 ^ 32) && leb 1 table) ≡ true = and_from (ltb table (2 ^ 32)) (leb 1 table) (lt-ltb table (2 ^ 32) fits) (le-leb 1 table some) in
    let r1 : (ltb rows (2 ^ 32) && (leb 1 rows && leb rows BLOCK_ROWS)) ≡ true = and_from (ltb rows (2 ^ 32)) (leb 1 rows && leb rows BLOCK_ROWS) (lt-ltb rows (2 ^ 32) (omega (arith, rows_few))) (and_from (leb 1 rows) (leb rows BLOCK_ROWS) (le-leb 1 rows rows_some) (le-leb rows BLOCK_ROWS rows_few)) in
    let c1 : (ltb count (2 ^ 16) && true) ≡ true = and_from (ltb count (2 ^ 16)) true (lt-ltb count (2 ^ 16) count_fits) refl in
    (head_spells None).again (BLOCK_MAGIC, (table, (rows, count))) rest
    (and_from (ltb BLOCK_MAGIC (2 ^ 32) && eqb BLOCK_MAGIC BLOCK_MAGIC) ((ltb table (2 ^ 32) && leb 1 table) && ((ltb rows (2 ^ 32) && (leb 1 rows && leb rows BLOCK_ROWS)) && (ltb count (2 ^ 16) && true))) m1
    (and_from (ltb table (2 ^ 32) && leb 1 table) ((ltb rows (2 ^ 32) && (leb 1 rows && leb rows BLOCK_ROWS)) && (ltb count (2 ^ 16) && true)) t1
    (and_from (ltb rows (2 ^ 32) && (leb 1 rows && leb rows BLOCK_ROWS)) (ltb count (2 ^ 16) && true) r1 c1)))

-- the header of the bytes of a block, whatever stands behind it
header_again : (kinds : List Kind) (table : ℕ) (rows : Rows) (rest : List ℕ) → CanHold kinds table rows → HasNumbers table rows → header_read (block_bytes kinds table rows ++ rest) ≡ Ok (header_of_block kinds table rows, rest)
unfolding header_read
header_again kinds table [] rest can has = absurd (omega (arith, can.some))
header_again kinds table (row ∷ others) rest can has =
    let rows : Rows = row ∷ others in
    let n : ℕ = length rows in
    let w : ℕ = length kinds in
    let first : ℕ = row.0 in
    let last : ℕ = get_or (times_of rows) (n - 1) 0 in
    let own : List ℕ = to_le_bytes w64 first in
    let more : List ℕ = flat_map (to_le_bytes w64) (times_of others) in
    let b : List ℕ = flat_map (to_le_bytes w64) (births_of rows) in
    let c : List ℕ = (columns n kinds).spelled (columns_of w rows) in
    let h : List ℕ = head_bytes table n w in
    let p = they_fit kinds table rows can has in
    let in_time : AllByRecursion InTime rows = all_in_time kinds rows can.rows_are in
    let apart : block_bytes kinds table rows ++ rest ≡ h ++ (own ++ (more ++ (b ++ (c ++ rest)))) =
    ap (λ (l : List ℕ). l ++ rest) (bytes_are kinds table rows can.rows_are)
    ∙ append_assoc h ((own ++ more) ++ (b ++ c)) rest
    ∙ ap (λ (l : List ℕ). h ++ l) (append_assoc (own ++ more) (b ++ c) rest
    ∙ append_assoc own more ((b ++ c) ++ rest)
    ∙ ap (λ (l : List ℕ). own ++ (more ++ l)) (append_assoc b c rest)) in
    let after_kinds : List Kind × List ℕ → Read Header = λ ks. Ok (record { table = table; rows = n; kinds = ks.0; first = first; last = last; size = block_length n ks.0 }, ks.1) in
    let after_births : List ℕ → Read Header = λ l. items_read (kinds_of n) [] w l >>= after_kinds in
    let after_last : ℕ × List ℕ → Read Header = λ x. passed 8 n x.1 >>= λ l. items_read (kinds_of n) [] w l >>= λ ks. Ok (record { table = table; rows = n; kinds = ks.0; first = first; last = x.0; size = block_length n ks.0 }, ks.1) in
    let after_first : ℕ × List ℕ → Read Header = λ f. last_time (n - 1) f.0 f.1 >>= λ x. passed 8 n x.1 >>= λ l. items_read (kinds_of n) [] w l >>= λ ks. Ok (record { table = table; rows = n; kinds = ks.0; first = f.0; last = x.0; size = block_length n ks.0 }, ks.1) in
    let after_head : (ℕ × (ℕ × (ℕ × ℕ))) × List ℕ → Read Header = λ h. first_time h.1 >>= λ f. last_time (h.0.1.1.0 - 1) f.0 f.1 >>= λ x. passed 8 h.0.1.1.0 x.1 >>= λ l. items_read (kinds_of h.0.1.1.0) [] h.0.1.1.1 l >>= λ ks.
    Ok (record { table = h.0.1.0; rows = h.0.1.1.0; kinds = ks.0; first = f.0; last = x.0; size = block_length h.0.1.1.0 ks.0 }, ks.1) in
    let first_fits : (ltb first (2 ^ 64) && leb first LAST_TIMESTAMP) ≡ true = and_from (ltb first (2 ^ 64)) (leb first LAST_TIMESTAMP) (lt-ltb first (2 ^ 64) (omega (arith, in_time.0))) (le-leb first LAST_TIMESTAMP in_time.0) in
    let b_len : length b ≡ 8 * n = length_of_numbers (births_of rows) ∙ ap (λ (m : ℕ). 8 * m) (length-map rows (λ (row : ℕ × Partial). row.1.birth.born)) in
    ap (λ (l : List ℕ). (head None).read l >>= after_head) apart
    ∙ bind_is after_head (head_again table n w (own ++ (more ++ (b ++ (c ++ rest)))) p.table_some p.table_fits p.rows_some p.rows_few p.count_fits)
    ∙ bind_is after_first ((checked_spells (number w64) (λ ts. leb ts LAST_TIMESTAMP) (number_spells w64 wide64)).again first (more ++ (b ++ (c ++ rest))) first_fits)
    ∙ bind_is after_last (last_is_read row others (b ++ (c ++ rest)) can.rising.0 in_time.1)
    ∙ bind_is after_births (passed_front 8 n b (c ++ rest) b_len)
    ∙ bind_is after_kinds (kinds_pass n [] kinds (columns_of w rows) rest p.columns_fit)

pub block_has_header : (kinds : List Kind) (bytes : List ℕ) (held : Held) (rest : List ℕ) → AreBytes bytes → (block kinds).read bytes ≡ Ok (held, rest) → header_read bytes ≡ Ok (header_of_block kinds held.0 held.1, rest)
block_has_header kinds bytes held rest are e =
    let t = (block_spells kinds).takes bytes (held, rest) are e in
    let h = holds kinds held.0 held.1 t.1 in
    ap header_read t.0.parts ∙ header_again kinds held.0 held.1 rest h.0 h.1
