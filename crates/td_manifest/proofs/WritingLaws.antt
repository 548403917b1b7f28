-- What fits can be written, wherever it stands.
use Rattle.std.proofs.Common.{◌≡◌, ℕ, ◌+◌, ◌*◌, ◌^◌, ◌<◌, Bool, true, false, ltb, leb, eqb, List, [], ◌∷◌, ◌++◌, length, slice_get, Option, Some, None, refl, sym, ap, subst, ◌∙◌, append_assoc, arith}
use Rattle.std.specs.Prelude.{◌&&◌, ◌||◌, not}
use Rattle.std.specs.List.{list_all}
use Rattle.std.specs.Int.{Width, w8, w16, w32, w64, byte_len, to_le_bytes}
use Rattle.std.proofs.lemmas.Bool.{and_parts, and_from, cond_both, ltb-true, lt-ltb, false≢true}
use Rattle.std.proofs.lemmas.List.{length-append}
use lib.Chars.{codes}
use Rattle.td_limits.specs.declared.limits.TheConstants.{COLUMNS, TAGS, TABLES, STREAMS, LAST_DAY_RANGE}
use Rattle.td_cols.specs.declared.kinds.Kind.{Kind}
use Rattle.td_cols.specs.declared.kinds.Kind.TheVariants.{Bool as Truth, I8, I16, I32, I64, U8, U16, U32, U64, Time, Wide, Text}
use Rattle.td_cols.specs.Kinds.{kind_code, is_in_range}
use Rattle.td_layer.specs.declared.values.Cell.{Cell}
use Rattle.td_layer.specs.declared.values.Cell.TheVariants as cells
use Rattle.td_model.specs.declared.catalog.Column.{Column}
use Rattle.td_codec.specs.Fields.{Field, number, kind_number, checked, part_fits}
use Rattle.td_codec.specs.Lists.{Items, all_fit, counted}
use Rattle.td_codec.specs.Values.{text, truth, is_printable, cell, cell_form, win_row_list}
use Rattle.td_codec.proofs.FieldLaws.{wide64}
use Rattle.td_manifest.specs.declared.head.Head.{Head}
use Rattle.td_manifest.specs.declared.head.HeadStable.{HeadStable}
use Rattle.td_manifest.specs.declared.head.HeadTable.{HeadTable}
use Rattle.td_manifest.specs.declared.head.HeadTable.TheVariants as tables
use Rattle.td_manifest.specs.declared.head.HeadSet.{HeadSet}
use Rattle.td_manifest.specs.declared.head.HeadStream.{HeadStream}
use Rattle.td_manifest.specs.declared.columns.Place.{Place}
use Rattle.td_manifest.specs.declared.columns.Place.TheVariants as places
use Rattle.td_manifest.specs.declared.reading.TheConstants.{FORMAT}
use Rattle.td_manifest.specs.declared.tables.TableBody.{TableBody}
use Rattle.td_manifest.specs.declared.tables.TableBody.TheVariants as bodies
use Rattle.td_manifest.specs.Listed.{listed, perhaps}
use Rattle.td_manifest.specs.Names.{is_short_name, is_among, new_name}
use Rattle.td_manifest.specs.Columns.{kind_by, text_size, kind_field, has_column, place_behind, column_field, column_items, tag_items, columns_field, tags_field}
use Rattle.td_manifest.specs.Tables.{latest_field, schema_field, stable_names, stable_behind, stable_items, suits, is_tag_text, tag_form, tag_cell, tag_cell_of, tag_cell_items, tag_cells, tags_of, body_form, table_body, table_names, table_behind, table_items}
use Rattle.td_manifest.specs.Files.{is_used, main_file, all_files, stt_items, rises, set_files, set_behind, set_items}
use Rattle.td_manifest.specs.Streams.{number_field, made_field, statement_text, upto_field, step_moment, stream_behind, stream_items}
use Rattle.td_manifest.specs.Heads.{begun, start_field, stables_field, tables_field, sets_field, next_field, streams_field, objects_field, head_body, framed, IsHead}
use Rattle.td_manifest.proofs.TableLaws.{sub_of}
use Rattle.td_manifest.specs.Writing.{size_bytes, can_put_column, can_put_columns, can_put_cells, can_put_stable, can_put_table, can_put_set, can_put_stream, always}

pub kind_bytes : (kind : Kind) → (kind_field places.First).spelled kind ≡ to_le_bytes w8 (kind_code kind) ++ size_bytes kind
unfolding kind_field kind_by kind_code
kind_bytes Truth = refl
kind_bytes I8 = refl
kind_bytes I16 = refl
kind_bytes I32 = refl
kind_bytes I64 = refl
kind_bytes U8 = refl
kind_bytes U16 = refl
kind_bytes U32 = refl
kind_bytes U64 = refl
kind_bytes Time = refl
kind_bytes Wide = refl
kind_bytes (Text n) = refl

pub any_numbers : (xs : List ℕ) → list_all always xs ≡ true
any_numbers [] = refl
any_numbers (x ∷ xs) = any_numbers xs

-- ---- lists

all_pass : {A : Type 0} (items : Items A) (P : A → Bool) → ((before : List A) (x : A) → items.fits before x ≡ true → P x ≡ true) → (xs before : List A) → all_fit items before xs ≡ true → list_all P xs ≡ true
all_pass items P one [] before fits = refl
all_pass items P one (x ∷ xs) before fits =
    let f = and_parts (items.fits before x) (all_fit items (before ++ x ∷ []) xs) fits in
    and_from (P x) (list_all P xs) (one before x f.0) (all_pass items P one xs (before ++ x ∷ []) f.1)

-- so many items as their count has bits for, each of which can be written
abbrev CanPutAll : {A : Type 0} → Width → (A → Bool) → List A → Type 0
CanPutAll w P xs = (length xs < 2 ^ (8 * byte_len w)) × (list_all P xs ≡ true)

listed_pass : {A : Type 0} (w : Width) (test : ℕ → Bool) (items : Items A) (P : A → Bool) → ((before : List A) (x : A) → items.fits before x ≡ true → P x ≡ true) → (xs : List A) → (listed w test items).fits xs ≡ true → CanPutAll w P xs
listed_pass w test items P one xs fits =
    let f = and_parts ((checked (number w) test).fits (length xs)) (all_fit items [] xs) fits in
    let g = and_parts (ltb (length xs) (2 ^ (8 * byte_len w))) (test (length xs)) f.0 in
    (ltb-true _ _ g.0, all_pass items P one xs [] f.1)

-- ---- columns

name_pass : (is_taken : List ℕ → Bool) (name : List ℕ) → (new_name is_taken).fits name ≡ true → ltb (length name) (2 ^ 16) ≡ true
unfolding new_name text
name_pass is_taken name fits =
    let f = and_parts (ltb (length name) (2 ^ 16) && is_short_name name) (not (is_taken name)) fits in
    (and_parts (ltb (length name) (2 ^ 16)) (is_short_name name) f.0).0

column_pass : (place : Place) (is_taken : List ℕ → Bool) (c : Column) → (column_field place is_taken).fits c ≡ true → can_put_column c ≡ true
unfolding column_field
column_pass place is_taken c fits = name_pass is_taken c.name (and_parts ((new_name is_taken).fits c.name) ((kind_field place).fits c.kind) fits).0

columns_pass : (w : Width) (test : ℕ → Bool) (items : Items Column) → ((before : List Column) (c : Column) → items.fits before c ≡ true → can_put_column c ≡ true) → (cs : List Column) → (listed w16 test items).fits cs ≡ true → can_put_columns cs ≡ true
columns_pass w test items one cs fits =
    let p = listed_pass w16 test items can_put_column one cs fits in
    and_from (ltb (length cs) (2 ^ 16)) (list_all can_put_column cs) (lt-ltb (length cs) (2 ^ 16) p.0) p.1

column_behind_pass : (before : List Column) (c : Column) → column_items.fits before c ≡ true → can_put_column c ≡ true
unfolding column_items
column_behind_pass before c fits = column_pass (place_behind (length before)) (λ name. has_column name before) c fits

tag_behind_pass : (columns before : List Column) (c : Column) → (tag_items columns).fits before c ≡ true → can_put_column c ≡ true
unfolding tag_items
tag_behind_pass columns before c fits = column_pass places.Tag (λ name. has_column name columns || has_column name before) c fits

table_columns_pass : (cs : List Column) → columns_field.fits cs ≡ true → can_put_columns cs ≡ true
unfolding columns_field
table_columns_pass cs fits = columns_pass w16 (λ n. leb 1 n && leb n COLUMNS) column_items column_behind_pass cs fits

tags_pass : (columns tags : List Column) → (tags_field columns).fits tags ≡ true → can_put_columns tags ≡ true
unfolding tags_field
tags_pass columns tags fits = columns_pass w16 (λ n. leb 1 n && leb n TAGS) (tag_items columns) (tag_behind_pass columns) tags fits

-- ---- supertables and tables

stable_pass : (before : List HeadStable) (s : HeadStable) → stable_items.fits before s ≡ true → can_put_stable s ≡ true
unfolding stable_items stable_behind schema_field can_put_stable
stable_pass before s fits =
    let taken : List ℕ → Bool = λ name. is_among name (stable_names before) in
    let schema = columns_field.fits s.schema.columns && (tags_field s.schema.columns).fits s.schema.tags in
    let f = and_parts ((new_name taken).fits s.name) (schema && latest_field.fits s.latest) fits in
    let g = and_parts schema (latest_field.fits s.latest) f.1 in
    let h = and_parts (columns_field.fits s.schema.columns) ((tags_field s.schema.columns).fits s.schema.tags) g.0 in
    and_from (ltb (length s.name) (2 ^ 16)) (can_put_columns s.schema.columns && can_put_columns s.schema.tags) (name_pass taken s.name f.0)
    (and_from (can_put_columns s.schema.columns) (can_put_columns s.schema.tags) (table_columns_pass s.schema.columns h.0) (tags_pass s.schema.columns s.schema.tags h.1))

-- a cell of a tag is a cell
cell_pass : (tag : Option Column) (x : Cell) → (tag_cell_of tag).fits x ≡ true → cell.fits x ≡ true
unfolding tag_cell tag_form cell cell_form text
cell_pass None x fits = absurd cc
cell_pass (Some tag) cells.Null fits = refl
cell_pass (Some tag) (cells.Truth b) fits = (and_parts ((checked (number w8) (suits tag.kind)).fits 1) (truth.fits b) fits).1
cell_pass (Some tag) (cells.Num n) fits =
    let f = and_parts ((checked (number w8) (suits tag.kind)).fits 2) ((kind_number Wide).fits n && is_in_range tag.kind n) fits in
    (and_parts ((kind_number Wide).fits n) (is_in_range tag.kind n) f.1).0
cell_pass (Some tag) (cells.Frac sum count) fits = absurd (false≢true (and_parts ((checked (number w8) (suits tag.kind)).fits 3) false fits).1)
cell_pass (Some tag) (cells.Str t) fits =
    let f = and_parts ((checked (number w8) (suits tag.kind)).fits 4) (ltb (length t) (2 ^ 16) && is_tag_text tag.kind t) fits in
    let g = and_parts (ltb (length t) (2 ^ 16)) (is_tag_text tag.kind t) f.1 in
    and_from (ltb (length t) (2 ^ 16)) (is_printable t) g.0 (and_parts (is_printable t) (leb (length t) (text_size tag.kind)) g.1).0

cells_pass : (tags : List Column) (xs : List Cell) → (tag_cells tags).fits xs ≡ true → can_put_cells xs ≡ true
unfolding tag_cells tag_cell_items
cells_pass tags xs fits =
    let p = listed_pass w16 (λ n. eqb n (length tags)) (tag_cell_items tags) cell.fits (λ before x e. cell_pass (slice_get tags (length before)) x e) xs fits in
    and_from (ltb (length xs) (2 ^ 16)) (list_all cell.fits xs) (lt-ltb (length xs) (2 ^ 16) p.0) p.1

sub_pass : (stables : List HeadStable) (n : ℕ) (tags : List Cell) → (body_form stables n).fits (bodies.Sub n tags) ≡ true → can_put_cells tags ≡ true
unfolding body_form
sub_pass stables n tags =
    cond_both (eqb n 0) _ _ (λ (f : Field TableBody). f.fits (bodies.Sub n tags) ≡ true → can_put_cells tags ≡ true) (λ _ fits. absurd cc)
    (λ _ fits. cells_pass (tags_of stables n) tags (subst (λ (o : Option (List Cell)). part_fits (tag_cells (tags_of stables n)) o ≡ true) (sub_of n tags) fits))

table_pass : (stables : List HeadStable) (before : List HeadTable) (t : HeadTable) → (table_items stables).fits before t ≡ true → can_put_table t ≡ true
unfolding table_items table_behind table_body body_form can_put_table
table_pass stables before (tables.Plain name columns latest) fits =
    let taken : List ℕ → Bool = λ n. is_among n (stable_names stables ++ table_names before) in
    let body = columns_field.fits columns && latest_field.fits latest in
    let number_fits = (checked (number w32) (λ n. leb n (length stables))).fits 0 in
    let f = and_parts ((new_name taken).fits name) (number_fits && body) fits in
    let g = and_parts number_fits body f.1 in
    and_from (ltb (length name) (2 ^ 16)) (can_put_columns columns) (name_pass taken name f.0) (table_columns_pass columns (and_parts (columns_field.fits columns) (latest_field.fits latest) g.1).0)
table_pass stables before (tables.Sub name stable tags) fits =
    let taken : List ℕ → Bool = λ n. is_among n (stable_names stables ++ table_names before) in
    let number_fits = (checked (number w32) (λ n. leb n (length stables))).fits stable in
    let f = and_parts ((new_name taken).fits name) (number_fits && (body_form stables stable).fits (bodies.Sub stable tags)) fits in
    let g = and_parts number_fits ((body_form stables stable).fits (bodies.Sub stable tags)) f.1 in
    and_from (ltb (length name) (2 ^ 16)) (can_put_cells tags) (name_pass taken name f.0) (sub_pass stables stable tags g.1)

-- ---- file sets and streams

set_pass : (before : List HeadSet) (s : HeadSet) → set_items.fits before s ≡ true → can_put_set s ≡ true
unfolding set_items set_behind set_files can_put_set
set_pass before s fits =
    let range = (checked (number w32) (λ r. leb r LAST_DAY_RANGE && rises before r)).fits s.range in
    let main = (perhaps (λ file. not (is_used file (all_files before)))).fits s.main in
    let stt = stt_items (all_files before ++ main_file s.main) in
    let f = and_parts range (main && (counted stt).fits s.stt) fits in
    let g = and_parts main ((counted stt).fits s.stt) f.1 in
    (and_parts (ltb (length s.stt) (2 ^ 32)) (all_fit stt [] s.stt) g.1).0

stream_pass : (version next : ℕ) (before : List HeadStream) (s : HeadStream) → (stream_items version next).fits before s ≡ true → can_put_stream s ≡ true
unfolding stream_items stream_behind statement_text can_put_stream
stream_pass version next before s fits =
    let text = ltb (length s.text) (2 ^ 32) in
    let upto = (upto_field version s.made).fits s.upto in
    let ends = step_moment.fits s.moment && win_row_list.fits s.rows in
    let f = and_parts ((number_field next before).fits s.number) ((made_field version).fits s.made && (text && (upto && ends))) fits in
    let g = and_parts ((made_field version).fits s.made) (text && (upto && ends)) f.1 in
    let h = and_parts text (upto && ends) g.1 in
    let i = and_parts upto ends h.1 in
    and_from text (win_row_list.fits s.rows) h.0 (and_parts (step_moment.fits s.moment) (win_row_list.fits s.rows) i.1).1

-- ---- the head

-- each list of a head that fits can be written
pub record CanPutHead (h : Head) : Type 0 where
  pub stables : (length h.stables < 2 ^ 32) × (list_all can_put_stable h.stables ≡ true)
  pub tables : (length h.tables < 2 ^ 32) × (list_all can_put_table h.tables ≡ true)
  pub sets : (length h.sets < 2 ^ 32) × (list_all can_put_set h.sets ≡ true)
  pub streams : (length h.streams < 2 ^ 32) × (list_all can_put_stream h.streams ≡ true)

pub head_pass : (h : Head) → head_body.fits h ≡ true → CanPutHead h
unfolding head_body objects_field stables_field tables_field sets_field streams_field
head_pass h fits =
    let v = h.version in
    let start = start_field.fits (v, (h.moment, (h.first_log, h.edge))) in
    let catalog = (stables_field v).fits h.stables && (tables_field v h.stables).fits h.tables in
    let streams = (next_field v).fits h.next_stream && (streams_field v h.next_stream).fits h.streams in
    let sets = (sets_field v).fits h.sets in
    let f = and_parts start (catalog && (sets && streams)) fits in
    let g = and_parts catalog (sets && streams) f.1 in
    let c = and_parts ((stables_field v).fits h.stables) ((tables_field v h.stables).fits h.tables) g.0 in
    let s = and_parts sets streams g.1 in
    let n = and_parts ((next_field v).fits h.next_stream) ((streams_field v h.next_stream).fits h.streams) s.1 in
    record {
      stables = listed_pass w32 (λ n. leb n TABLES && begun v (eqb n 0)) stable_items can_put_stable stable_pass h.stables c.0;
      tables = listed_pass w32 (λ n. leb (length h.stables + n) TABLES && begun v (eqb n 0)) (table_items h.stables) can_put_table (table_pass h.stables) h.tables c.1;
      sets = listed_pass w32 (λ n. begun v (eqb n 0)) set_items can_put_set set_pass h.sets s.0;
      streams = listed_pass w32 (λ n. leb n STREAMS && begun v (eqb n 0)) (stream_items v h.next_stream) can_put_stream (stream_pass v h.next_stream) h.streams n.1;
    }

-- ---- the frame

abbrev rest_of : Head → List ℕ
rest_of h = to_le_bytes w32 FORMAT ++ (head_body.spelled h ++ codes "TDHE")

pub framed_size : (n : ℕ) (h : Head) (rest : List ℕ) → rest ≡ rest_of h → length (framed n h) ≡ length rest + 12
unfolding framed
framed_size n h rest is =
    omega (arith, ap length is, length-append (codes "TDH1") (to_le_bytes w64 n ++ rest_of h), length-append (to_le_bytes w64 n) (rest_of h), wide64.len n)

pub head_written : (h : Head) (rest out : List ℕ) → head_body.fits h ≡ true → length out < 2 ^ 64 → rest ≡ rest_of h → out ≡ codes "TDH1" ++ (to_le_bytes w64 (length rest + 12) ++ rest) → IsHead out h
unfolding framed
head_written h rest out fits few rest_is out_is =
    let size = length rest + 12 in
    let whole : out ≡ framed size h = out_is ∙ ap (λ (l : List ℕ). codes "TDH1" ++ (to_le_bytes w64 size ++ l)) rest_is in
    let len : length out ≡ size = ap length whole ∙ framed_size size h rest rest_is in
    record { bytes_are = whole ∙ ap (λ (n : ℕ). framed n h) (sym len); size = few; fits = fits }

-- ---- one put after the other

pub and_then : (old a mid rest new : List ℕ) → mid ≡ old ++ a → new ≡ mid ++ rest → new ≡ old ++ (a ++ rest)
and_then old a mid rest new e f = f ∙ ap (λ (l : List ℕ). l ++ rest) e ∙ append_assoc old a rest

pub same_can_put : {A : Type 0} (P : A → Bool) (xs ys : List A) → ys ≡ xs → (length xs < 2 ^ 32) × (list_all P xs ≡ true) → (length ys < 2 ^ 32) × (list_all P ys ≡ true)
same_can_put {A} P xs ys e h = subst (λ (l : List A). (length l < 2 ^ 32) × (list_all P l ≡ true)) (sym e) h
