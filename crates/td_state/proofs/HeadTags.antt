-- The cells of a subtable's tags in a head, and those of a catalog.
use Rattle.std.proofs.Common.{◌≡◌, ℕ, suc, ◌<◌, ◌≤◌, ◌^◌, Bool, true, false, not, ◌&&◌, nat_eq, nat_lt, nat_le, List, [], ◌∷◌, ◌++◌, length, Some, refl, sym, ap, ◌∙◌, append_assoc, arith, length-append}
use Rattle.std.specs.Prelude.{ℤ, pos, negsuc, int_le, slice_get}
use Rattle.std.specs.List.{AllByRecursion, AllZip, list_all}
use Rattle.std.proofs.lemmas.Bool.{and_from, and_parts, eq-eqb, eqb-true, false≢true, leb-true, le-leb, lt-ltb}
use Rattle.td_limits.specs.declared.limits.TheConstants.{TAGS, TAG_BYTES}
use Rattle.td_cols.specs.declared.kinds.Kind.{Kind}
use Rattle.td_cols.specs.declared.kinds.Kind.TheVariants.{Bool as Truth, I8, I16, I32, I64, U8, U16, U32, U64, Time, Wide, Text}
use Rattle.td_cols.specs.Kinds.{is_in_range, kind_least, kind_most}
use Rattle.td_layer.specs.declared.values.Cell.{Cell}
use Rattle.td_layer.specs.declared.values.Cell.TheVariants as cells
use Rattle.td_model.specs.declared.catalog.Column.{Column}
use Rattle.td_codec.specs.Lists.{all_fit}
use Rattle.td_codec.specs.Values.{is_printable, text, truth}
use Rattle.td_manifest.specs.Columns.{text_size}
use Rattle.td_manifest.specs.Tables.{is_tag_text, suits, tag_cell, tag_cell_of, tag_cell_items, tag_cells, tag_form}
use Rattle.td_verdict.specs.Values.{is_tag_kind, is_text, is_truth}
use Rattle.td_verdict.specs.Valid.{AreTags, suits_kind}
use Rattle.td_state.specs.Heads.{IsPrintableTag}

-- ---- numbers

le_trans : (a b c : ℤ) → int_le a b ≡ true → int_le b c ≡ true → int_le a c ≡ true
le_trans (pos a) (pos b) (pos c) h k = le-leb a c (let x = leb-true a b h in let y = leb-true b c k in omega arith)
le_trans (pos a) (pos b) (negsuc c) h k = absurd cc
le_trans (pos a) (negsuc b) c h k = absurd cc
le_trans (negsuc a) b (pos c) h k = refl
le_trans (negsuc a) (pos b) (negsuc c) h k = absurd cc
le_trans (negsuc a) (negsuc b) (negsuc c) h k = le-leb c a (let x = leb-true b a h in let y = leb-true c b k in omega arith)

wide_by : (k : Kind) (n : ℤ) → int_le (kind_least Wide) (kind_least k) ≡ true → int_le (kind_most k) (kind_most Wide) ≡ true → is_in_range k n ≡ true → is_in_range Wide n ≡ true
unfolding is_in_range
wide_by k n low high h =
    let parts = and_parts (int_le (kind_least k) n) (int_le n (kind_most k)) h in
    and_from (int_le (kind_least Wide) n) (int_le n (kind_most Wide)) (le_trans (kind_least Wide) (kind_least k) n low parts.0) (le_trans n (kind_most k) (kind_most Wide) parts.1 high)

-- a number of a kind is one of the widest
wide : (k : Kind) (n : ℤ) → is_tag_kind k ≡ true → is_in_range k n ≡ true → is_in_range Wide n ≡ true
unfolding kind_least kind_most
wide Truth n t h = wide_by Truth n refl refl h
wide I8 n t h = wide_by I8 n refl refl h
wide I16 n t h = wide_by I16 n refl refl h
wide I32 n t h = wide_by I32 n refl refl h
wide I64 n t h = wide_by I64 n refl refl h
wide U8 n t h = wide_by U8 n refl refl h
wide U16 n t h = wide_by U16 n refl refl h
wide U32 n t h = wide_by U32 n refl refl h
wide U64 n t h = wide_by U64 n refl refl h
wide Time n t h = wide_by Time n refl refl h
wide Wide n t h = h
wide (Text m) n t h = wide_by (Text m) n refl refl h

-- ---- one cell

truth_only : (k : Kind) → suits k 1 ≡ true → is_truth k ≡ true
truth_only Truth h = refl
truth_only _ h = absurd cc

number_only : (k : Kind) → suits k 2 ≡ true → (not (is_truth k) && not (is_text k)) ≡ true
number_only Truth h = absurd cc
number_only (Text n) h = absurd cc
number_only _ h = refl

text_only : (k : Kind) (t : List ℕ) → suits k 4 ≡ true → nat_le (length t) (text_size k) ≡ true → suits_kind k (cells.Str t) ≡ true
text_only (Text n) t h le = le
text_only Truth t h le = absurd cc
text_only I8 t h le = absurd cc
text_only I16 t h le = absurd cc
text_only I32 t h le = absurd cc
text_only I64 t h le = absurd cc
text_only U8 t h le = absurd cc
text_only U16 t h le = absurd cc
text_only U32 t h le = absurd cc
text_only U64 t h le = absurd cc
text_only Time t h le = absurd cc
text_only Wide t h le = absurd cc

cell_from : (k : Kind) (x : Cell) → (tag_cell k).fits x ≡ true → suits_kind k x ≡ true
unfolding tag_cell tag_form text
cell_from k cells.Null fit = refl
cell_from k (cells.Truth b) fit = truth_only k (and_parts (suits k 1) (truth.fits b) fit).0
cell_from k (cells.Num n) fit =
    let parts = and_parts (suits k 2) (is_in_range Wide n && is_in_range k n) fit in
    and_from (not (is_truth k) && not (is_text k)) (is_in_range k n) (number_only k parts.0) (and_parts (is_in_range Wide n) (is_in_range k n) parts.1).1
cell_from k (cells.Frac sum count) fit = absurd (false≢true (and_parts (suits k 3) false fit).1)
cell_from k (cells.Str t) fit =
    let parts = and_parts (suits k 4) (nat_lt (length t) (2 ^ 16) && is_tag_text k t) fit in
    let good = and_parts (nat_lt (length t) (2 ^ 16)) (is_tag_text k t) parts.1 in
    text_only k t parts.0 (and_parts (is_printable t) (nat_le (length t) (text_size k)) good.1).1

truth_fits : (b : Bool) → truth.fits b ≡ true
unfolding truth
truth_fits true = refl
truth_fits false = refl

suits_truth : (k : Kind) → is_truth k ≡ true → suits k 1 ≡ true
suits_truth Truth h = refl
suits_truth _ h = absurd cc

suits_number : (k : Kind) → (not (is_truth k) && not (is_text k)) ≡ true → suits k 2 ≡ true
suits_number Truth h = absurd cc
suits_number (Text n) h = absurd cc
suits_number _ h = refl

-- a text within the bytes of its kind
text_fits : (k : Kind) (t : List ℕ) → is_tag_kind k ≡ true → suits_kind k (cells.Str t) ≡ true → (suits k 4 ≡ true) × (length t < 2 ^ 16) × (nat_le (length t) (text_size k) ≡ true)
text_fits (Text n) t kind h =
    let few : n ≤ TAG_BYTES = leb-true n TAG_BYTES (and_parts (nat_le 1 n) (nat_le n TAG_BYTES) kind).1 in
    let le : length t ≤ n = leb-true (length t) n h in
    (refl, omega arith, h)
text_fits Truth t kind h = absurd cc
text_fits I8 t kind h = absurd cc
text_fits I16 t kind h = absurd cc
text_fits I32 t kind h = absurd cc
text_fits I64 t kind h = absurd cc
text_fits U8 t kind h = absurd cc
text_fits U16 t kind h = absurd cc
text_fits U32 t kind h = absurd cc
text_fits U64 t kind h = absurd cc
text_fits Time t kind h = absurd cc
text_fits Wide t kind h = absurd cc

cell_fit : (k : Kind) (x : Cell) → is_tag_kind k ≡ true → suits_kind k x ≡ true → IsPrintableTag x → (tag_cell k).fits x ≡ true
unfolding tag_cell tag_form text
cell_fit k cells.Null kind h print = refl
cell_fit k (cells.Truth b) kind h print = and_from (suits k 1) (truth.fits b) (suits_truth k h) (truth_fits b)
cell_fit k (cells.Num n) kind h print =
    let parts = and_parts (not (is_truth k) && not (is_text k)) (is_in_range k n) h in
    and_from (suits k 2) (is_in_range Wide n && is_in_range k n) (suits_number k parts.0) (and_from (is_in_range Wide n) (is_in_range k n) (wide k n kind parts.1) parts.1)
cell_fit k (cells.Frac sum count) kind h print = absurd cc
cell_fit k (cells.Str t) kind h print =
    let good = text_fits k t kind h in
    and_from (suits k 4) (nat_lt (length t) (2 ^ 16) && is_tag_text k t) good.0
    (and_from (nat_lt (length t) (2 ^ 16)) (is_tag_text k t) (lt-ltb (length t) (2 ^ 16) good.1) (and_from (is_printable t) (nat_le (length t) (text_size k)) print good.2))

-- ---- all cells

tag_there : (done : List Column) (t : Column) (rest : List Column) (n : ℕ) → n ≡ length done → slice_get (done ++ t ∷ rest) n ≡ Some t
tag_there done t rest n e = ap (slice_get (done ++ t ∷ rest)) e ∙ here done
  where
    here : (done : List Column) → slice_get (done ++ t ∷ rest) (length done) ≡ Some t
    here [] = refl
    here (d ∷ done) = here done

all_from : (done tags : List Column) (before xs : List Cell) → length before ≡ length done → length xs ≡ length tags → all_fit (tag_cell_items (done ++ tags)) before xs ≡ true → AllZip (λ (t : Column) (a : Cell). suits_kind t.kind a ≡ true) tags xs
unfolding tag_cell_items
all_from done [] before [] e long fit = tt
all_from done [] before (x ∷ xs) e long fit = absurd (omega arith)
all_from done (t ∷ tags) before [] e long fit = absurd (omega arith)
all_from done (t ∷ tags) before (x ∷ xs) e long fit =
    let parts = and_parts ((tag_cell_of (slice_get (done ++ t ∷ tags) (length before))).fits x) (all_fit (tag_cell_items (done ++ t ∷ tags)) (before ++ x ∷ []) xs) fit in
    let here : (tag_cell t.kind).fits x ≡ true = ap (λ o. (tag_cell_of o).fits x) (sym (tag_there done t tags (length before) e)) ∙ parts.0 in
    let rest : all_fit (tag_cell_items ((done ++ t ∷ []) ++ tags)) (before ++ x ∷ []) xs ≡ true = ap (λ cs. all_fit (tag_cell_items cs) (before ++ x ∷ []) xs) (append_assoc done (t ∷ []) tags) ∙ parts.1 in
    (cell_from t.kind x here, all_from (done ++ t ∷ []) tags (before ++ x ∷ []) xs (omega (arith, e, length-append before (x ∷ []), length-append done (t ∷ []))) (omega (arith, long)) rest)

all_cells : (done tags : List Column) (before xs : List Cell) → length before ≡ length done → list_all (λ (c : Column). is_tag_kind c.kind) tags ≡ true → AllByRecursion IsPrintableTag xs → AllZip (λ (t : Column) (a : Cell). suits_kind t.kind a ≡ true) tags xs
    → all_fit (tag_cell_items (done ++ tags)) before xs ≡ true
unfolding tag_cell_items
all_cells done [] before [] e kinds print h = refl
all_cells done [] before (x ∷ xs) e kinds print h = absurd h
all_cells done (t ∷ tags) before [] e kinds print h = absurd h
all_cells done (t ∷ tags) before (x ∷ xs) e kinds print h =
    let parts = and_parts (is_tag_kind t.kind) (list_all (λ (c : Column). is_tag_kind c.kind) tags) kinds in
    let here : (tag_cell_of (slice_get (done ++ t ∷ tags) (length before))).fits x ≡ true =
    ap (λ o. (tag_cell_of o).fits x) (tag_there done t tags (length before) e) ∙ cell_fit t.kind x parts.0 h.0 print.0 in
    let rest = all_cells (done ++ t ∷ []) tags (before ++ x ∷ []) xs (omega (arith, e, length-append before (x ∷ []), length-append done (t ∷ []))) parts.1 print.1 h.1 in
    and_from ((tag_cell_of (slice_get (done ++ t ∷ tags) (length before))).fits x) (all_fit (tag_cell_items (done ++ t ∷ tags)) (before ++ x ∷ []) xs) here
    (ap (λ cs. all_fit (tag_cell_items cs) (before ++ x ∷ []) xs) (sym (append_assoc done (t ∷ []) tags)) ∙ rest)

pub cells_from : (tags : List Column) (xs : List Cell) → (tag_cells tags).fits xs ≡ true → AreTags tags xs
unfolding tag_cells
cells_from tags xs fit =
    let n = length xs in
    let parts = and_parts (nat_lt n (2 ^ 16) && nat_eq n (length tags)) (all_fit (tag_cell_items tags) [] xs) fit in
    let count = and_parts (nat_lt n (2 ^ 16)) (nat_eq n (length tags)) parts.0 in
    all_from [] tags [] xs refl (eqb-true n (length tags) count.1) parts.1

zip_long : (tags : List Column) (xs : List Cell) → AreTags tags xs → length xs ≡ length tags
zip_long [] [] h = refl
zip_long [] (x ∷ xs) h = absurd h
zip_long (t ∷ tags) [] h = absurd h
zip_long (t ∷ tags) (x ∷ xs) h = ap suc (zip_long tags xs h.1)

pub cells_fit : (tags : List Column) (xs : List Cell) → length tags ≤ TAGS → list_all (λ (c : Column). is_tag_kind c.kind) tags ≡ true → AllByRecursion IsPrintableTag xs → AreTags tags xs → (tag_cells tags).fits xs ≡ true
unfolding tag_cells
cells_fit tags xs few kinds print h =
    let n = length xs in
    let long : n ≡ length tags = zip_long tags xs h in
    and_from (nat_lt n (2 ^ 16) && nat_eq n (length tags)) (all_fit (tag_cell_items tags) [] xs)
    (and_from (nat_lt n (2 ^ 16)) (nat_eq n (length tags)) (lt-ltb n (2 ^ 16) (omega (arith, few, long))) (eq-eqb n (length tags) long))
    (all_cells [] tags [] xs refl kinds print h)
