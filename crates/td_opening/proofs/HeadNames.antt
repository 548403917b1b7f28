-- The names and texts of a head's catalog.
use Rattle.std.proofs.Common.{◌≡◌, ℕ, zero, suc, ◌+◌, ◌<◌, ◌≤◌, ◌^◌, eqb, leb, ltb, Bool, true, false, cond, ◌&&◌, ◌||◌, List, [], ◌∷◌, ◌++◌, length, map, slice_get, Option, Some, None, refl, sym, ap, subst, ◌∙◌, arith}
use Rattle.std.specs.Prelude.{not, nat_le}
use Rattle.std.specs.Char.{to_ascii_lowercase}
use Rattle.std.specs.Int.{w8, w16, w32}
use Rattle.std.specs.List.{list_all, AllByRecursion}
use Rattle.std.proofs.lemmas.Bool.{and_parts, and_from, leb-true, false≢true}
use Rattle.std.proofs.lemmas.Bool.Decides.{nat_tests}
use Rattle.td_limits.specs.declared.limits.TheConstants.{NAME_BYTES, COLUMNS, TAGS, TABLES}
use Rattle.td_cols.specs.declared.kinds.Kind.{Kind}
use Rattle.td_layer.specs.declared.values.Cell.{Cell}
use Rattle.td_layer.specs.declared.values.Cell.TheVariants as cell
use Rattle.td_lex.specs.Tokens.{is_word_start, is_word_byte}
use Rattle.td_grammar.specs.Names.{is_folded, is_word, is_name}
use Rattle.td_model.specs.declared.catalog.Column.{Column}
use Rattle.td_model.specs.declared.catalog.Schema.{Schema}
use Rattle.td_model.specs.declared.catalog.StableDef.{StableDef}
use Rattle.td_model.specs.declared.catalog.TableDef.{TableDef}
use Rattle.td_model.specs.Printable.{is_word_byte as is_printed}
use Rattle.td_codec.specs.Fields.{number, checked, pair, followed, made, part_fits}
use Rattle.td_codec.specs.Lists.{all_fit}
use Rattle.td_codec.specs.Values.{text}
use Rattle.td_manifest.specs.declared.head.Head.{Head}
use Rattle.td_manifest.specs.declared.head.HeadStable.{HeadStable}
use Rattle.td_manifest.specs.declared.head.HeadTable.{HeadTable}
use Rattle.td_manifest.specs.declared.head.HeadTable.TheVariants as tables
use Rattle.td_manifest.specs.Listed.{listed}
use Rattle.td_manifest.specs.Names.{is_short_name, is_among, new_name}
use Rattle.td_manifest.specs.Columns.{column_field, has_column, column_behind, column_items, tag_behind, tag_items, columns_field, tags_field}
use Rattle.td_manifest.specs.Tables.{latest_field, schema_field, stable_names, stable_behind, stable_items, suits, is_tag_text, tag_form, tag_cell, tag_cell_of, tag_cell_items, tag_cells, tags_of, body_form, table_body, table_names, table_behind, table_items, body_of, as_plain, as_sub}
use Rattle.td_manifest.specs.Heads.{begun, stables_field, tables_field, sets_field, next_field, streams_field, objects_field, head_body}
use Rattle.td_manifest.specs.States.{stable_def, table_def, catalog_of}
use Rattle.td_manifest.proofs.TableLaws.{sub_of}
use Rattle.td_printed.specs.Heads.{IsShortName, AreShortNamed, AreTags, is_printable, IsPrintableTag, StableFitsHead, TableFitsHead, FitsHead}
use Rattle.td_printed.specs.Names.{IsName, AreNamed, StableHasWords, TableHasWords, AreWords}
use Rattle.td_opening.proofs.HeadFacts.{objects}

-- ---- names

name_fits : (is_taken : List ℕ → Bool) (name : List ℕ) → (new_name is_taken).fits name ≡ true → IsShortName name
unfolding new_name text
name_fits is_taken name fits =
    let own = and_parts (ltb (length name) (2 ^ 16) && is_short_name name) (not (is_taken name)) fits in
    let short = and_parts (ltb (length name) (2 ^ 16)) (is_short_name name) own.0 in
    let both = and_parts (leb (length name) NAME_BYTES) (is_name name) short.1 in
    record { few = leb-true (length name) NAME_BYTES both.0; named = both.1 }

column_fits : (before : List Column) (c : Column) → (column_behind before).fits c ≡ true → IsShortName c.name
unfolding column_field
column_fits before c fits =
    let taken : List ℕ → Bool = λ name. has_column name before in
    name_fits taken c.name (and_parts ((new_name taken).fits c.name) _ fits).0

tag_fits : (columns before : List Column) (t : Column) → (tag_behind columns before).fits t ≡ true → IsShortName t.name
unfolding column_field
tag_fits columns before t fits =
    let taken : List ℕ → Bool = λ name. has_column name columns || has_column name before in
    name_fits taken t.name (and_parts ((new_name taken).fits t.name) _ fits).0

columns_short : (before columns : List Column) → all_fit column_items before columns ≡ true → AreShortNamed columns
unfolding column_items
columns_short before [] fits = tt
columns_short before (c ∷ cs) fits =
    let parts = and_parts ((column_behind before).fits c) (all_fit column_items (before ++ c ∷ []) cs) fits in
    (column_fits before c parts.0, columns_short (before ++ c ∷ []) cs parts.1)

tags_short : (columns before tags : List Column) → all_fit (tag_items columns) before tags ≡ true → AreShortNamed tags
unfolding tag_items
tags_short columns before [] fits = tt
tags_short columns before (t ∷ ts) fits =
    let parts = and_parts ((tag_behind columns before).fits t) (all_fit (tag_items columns) (before ++ t ∷ []) ts) fits in
    (tag_fits columns before t parts.0, tags_short columns (before ++ t ∷ []) ts parts.1)

columns_fit : (columns : List Column) → columns_field.fits columns ≡ true → AreShortNamed columns
unfolding columns_field
columns_fit columns fits =
    columns_short [] columns (and_parts ((checked (number w16) (λ n. leb 1 n && leb n COLUMNS)).fits (length columns)) (all_fit column_items [] columns) fits).1

tags_fit : (columns tags : List Column) → (tags_field columns).fits tags ≡ true → AreTags tags
unfolding tags_field
tags_fit columns tags fits =
    let parts = and_parts ((checked (number w16) (λ n. leb 1 n && leb n TAGS)).fits (length tags)) (all_fit (tag_items columns) [] tags) fits in
    let count = and_parts ((number w16).fits (length tags)) (leb 1 (length tags) && leb (length tags) TAGS) parts.0 in
    let some = and_parts (leb 1 (length tags)) (leb (length tags) TAGS) count.1 in
    record { some = leb-true 1 (length tags) some.0; names = tags_short columns [] tags parts.1 }

-- ---- supertables

stable_fits : (taken : List (List ℕ)) (s : HeadStable) → (stable_behind taken).fits s ≡ true → StableFitsHead (stable_def s)
unfolding stable_behind schema_field
stable_fits taken s fits =
    let named = and_parts ((new_name (λ name. is_among name taken)).fits s.name) (schema_field.fits s.schema && latest_field.fits s.latest) fits in
    let schema = and_parts (schema_field.fits s.schema) (latest_field.fits s.latest) named.1 in
    let parts = and_parts (columns_field.fits s.schema.columns) ((tags_field s.schema.columns).fits s.schema.tags) schema.0 in
    record {
      name = name_fits (λ name. is_among name taken) s.name named.0;
      columns = columns_fit s.schema.columns parts.0;
      tags = tags_fit s.schema.columns s.schema.tags parts.1;
    }

stables_fit : (before stables : List HeadStable) → all_fit stable_items before stables ≡ true → AllByRecursion StableFitsHead (map stable_def stables)
unfolding stable_items
stables_fit before [] fits = tt
stables_fit before (s ∷ ss) fits =
    let parts = and_parts ((stable_behind (stable_names before)).fits s) (all_fit stable_items (before ++ s ∷ []) ss) fits in
    (stable_fits (stable_names before) s parts.0, stables_fit (before ++ s ∷ []) ss parts.1)

-- ---- tables

str_fits : (kind : Kind) (t : List ℕ) → (tag_form kind 4).fits (cell.Str t) ≡ true → is_printable t ≡ true
unfolding tag_form text
str_fits kind t fits =
    let parts = and_parts (ltb (length t) (2 ^ 16)) (is_tag_text kind t) fits in
    (and_parts (is_printable t) _ parts.1).0

tag_prints : (kind : Kind) (c : Cell) → (tag_cell kind).fits c ≡ true → IsPrintableTag c
unfolding tag_cell
tag_prints kind cell.Null fits = tt
tag_prints kind (cell.Truth b) fits = tt
tag_prints kind (cell.Num n) fits = tt
tag_prints kind (cell.Frac sum count) fits = tt
tag_prints kind (cell.Str t) fits =
    str_fits kind t (and_parts ((checked (number w8) (suits kind)).fits 4) ((tag_form kind 4).fits (cell.Str t)) fits).1

tag_of_prints : (o : Option Column) (c : Cell) → (tag_cell_of o).fits c ≡ true → IsPrintableTag c
tag_of_prints None c fits = absurd (false≢true fits)
tag_of_prints (Some tag) c fits = tag_prints tag.kind c fits

cells_print : (tags : List Column) (before cells : List Cell) → all_fit (tag_cell_items tags) before cells ≡ true → AllByRecursion IsPrintableTag cells
unfolding tag_cell_items
cells_print tags before [] fits = tt
cells_print tags before (c ∷ cs) fits =
    let parts = and_parts ((tag_cell_of (slice_get tags (length before))).fits c) (all_fit (tag_cell_items tags) (before ++ c ∷ []) cs) fits in
    (tag_of_prints (slice_get tags (length before)) c parts.0, cells_print tags (before ++ c ∷ []) cs parts.1)

tag_cells_print : (tags : List Column) (cells : List Cell) → (tag_cells tags).fits cells ≡ true → AllByRecursion IsPrintableTag cells
unfolding tag_cells
tag_cells_print tags cells fits =
    cells_print tags [] cells (and_parts ((checked (number w16) (λ n. eqb n (length tags))).fits (length cells)) (all_fit (tag_cell_items tags) [] cells) fits).1

plain_columns : (stables : List HeadStable) (name : List ℕ) (columns : List Column) (latest : Option ℕ) → (body_form stables 0).fits (body_of (tables.Plain name columns latest)) ≡ true → AreShortNamed columns
unfolding body_form
plain_columns stables name columns latest fits = columns_fit columns (and_parts (columns_field.fits columns) (latest_field.fits latest) fits).0

sub_tags : (stables : List HeadStable) (n : ℕ) (name : List ℕ) (cells : List Cell) → (body_form stables n).fits (body_of (tables.Sub name n cells)) ≡ true → AllByRecursion IsPrintableTag cells
unfolding body_form
sub_tags stables n name cells = by (eqb n 0)
  where
    by : (b : Bool) → (cond b (made (pair columns_field latest_field) (λ p. body_of (tables.Plain [] p.0 p.1)) as_plain) (made (tag_cells (tags_of stables n)) (λ tags. body_of (tables.Sub [] n tags)) (as_sub n))).fits (body_of (tables.Sub name n cells)) ≡ true
        → AllByRecursion IsPrintableTag cells
    by true fits = absurd (false≢true fits)
    by false fits = tag_cells_print (tags_of stables n) cells (subst (λ (o : Option (List Cell)). part_fits (tag_cells (tags_of stables n)) o ≡ true) (sub_of n cells) fits)

table_fits : (stables : List HeadStable) (taken : List (List ℕ)) (t : HeadTable) → (table_behind stables taken).fits t ≡ true → TableFitsHead (table_def t)
unfolding table_behind table_body
table_fits stables taken (tables.Plain name columns latest) fits =
    let named = and_parts ((new_name (λ name. is_among name taken)).fits name) ((table_body stables).fits (body_of (tables.Plain name columns latest))) fits in
    let parts = and_parts ((checked (number w32) (λ n. leb n (length stables))).fits 0) ((body_form stables 0).fits (body_of (tables.Plain name columns latest))) named.1 in
    record { name = name_fits (λ name. is_among name taken) name named.0; columns = plain_columns stables name columns latest parts.1; tags = tt }
table_fits stables taken (tables.Sub name stable tags) fits =
    let named = and_parts ((new_name (λ name. is_among name taken)).fits name) ((table_body stables).fits (body_of (tables.Sub name stable tags))) fits in
    let parts = and_parts ((checked (number w32) (λ n. leb n (length stables))).fits stable) ((body_form stables stable).fits (body_of (tables.Sub name stable tags))) named.1 in
    record { name = name_fits (λ name. is_among name taken) name named.0; columns = tt; tags = sub_tags stables stable name tags parts.1 }

tables_fit : (stables : List HeadStable) (before ts : List HeadTable) → all_fit (table_items stables) before ts ≡ true → AllByRecursion TableFitsHead (map table_def ts)
unfolding table_items
tables_fit stables before [] fits = tt
tables_fit stables before (t ∷ ts) fits =
    let taken = stable_names stables ++ table_names before in
    let parts = and_parts ((table_behind stables taken).fits t) (all_fit (table_items stables) (before ++ t ∷ []) ts) fits in
    (table_fits stables taken t parts.0, tables_fit stables (before ++ t ∷ []) ts parts.1)

-- ---- the catalog

catalog_fits : (h : Head) → (objects_field h.version).fits ((h.stables, h.tables), (h.sets, (h.next_stream, h.streams))) ≡ true → FitsHead (catalog_of h)
unfolding objects_field stables_field tables_field
catalog_fits h fits =
    let rest : Bool = (pair (sets_field h.version) (followed (next_field h.version) (streams_field h.version))).fits (h.sets, (h.next_stream, h.streams)) in
    let parts = and_parts ((stables_field h.version).fits h.stables && (tables_field h.version h.stables).fits h.tables) rest fits in
    let both = and_parts ((stables_field h.version).fits h.stables) ((tables_field h.version h.stables).fits h.tables) parts.0 in
    let stables = and_parts ((checked (number w32) (λ n. leb n TABLES && begun h.version (eqb n 0))).fits (length h.stables)) (all_fit stable_items [] h.stables) both.0 in
    let own = and_parts ((checked (number w32) (λ n. leb (length h.stables + n) TABLES && begun h.version (eqb n 0))).fits (length h.tables)) (all_fit (table_items h.stables) [] h.tables) both.1 in
    record { stables = stables_fit [] h.stables stables.1; tables = tables_fit h.stables [] h.tables own.1 }

-- the names and the texts in a head's catalog are as a head asks
pub head_fits_head : (h : Head) → head_body.fits h ≡ true → FitsHead (catalog_of h)
head_fits_head h fits = catalog_fits h (objects h fits)

-- ---- short names are words

folded_byte : (b : ℕ) → is_folded b ≡ true → is_printed b ≡ true
folded_byte b h =
    let parts = and_parts (is_word_byte b) (eqb (to_ascii_lowercase b) b) h in
    printed_byte b parts.0
  where
    printed_byte : (n : ℕ) → is_word_byte n ≡ true → is_printed n ≡ true
    printed_byte n e = grind (arith, nat_tests)

folded_bytes : (name : List ℕ) → list_all is_folded name ≡ true → list_all is_printed name ≡ true
folded_bytes [] h = refl
folded_bytes (b ∷ bs) h =
    let parts = and_parts (is_folded b) (list_all is_folded bs) h in
    and_from (is_printed b) (list_all is_printed bs) (folded_byte b parts.0) (folded_bytes bs parts.1)

word_name : (name : List ℕ) → is_word name ≡ true → IsName name
word_name [] h = absurd (false≢true h)
word_name (b ∷ bs) h =
    let parts = and_parts (is_word_start b) (list_all is_folded (b ∷ bs)) h in
    record { some = omega arith; word = folded_bytes (b ∷ bs) parts.1 }

short_name : (name : List ℕ) → IsShortName name → IsName name
short_name name short = word_name name (and_parts (is_word name) _ short.named).0

short_columns : (columns : List Column) → AreShortNamed columns → AreNamed columns
short_columns [] h = tt
short_columns (c ∷ cs) h = (short_name c.name h.0, short_columns cs h.1)

stable_words : (stables : List StableDef) → AllByRecursion StableFitsHead stables → AllByRecursion StableHasWords stables
stable_words [] h = tt
stable_words (s ∷ ss) h =
    (record { name = short_name s.name h.0.name; columns = short_columns s.schema.columns h.0.columns; tags = short_columns s.schema.tags h.0.tags.names }, stable_words ss h.1)

table_words : (ts : List TableDef) → AllByRecursion TableFitsHead ts → AllByRecursion TableHasWords ts
table_words [] h = tt
table_words (t ∷ ts) h = (record { name = short_name t.name h.0.name; columns = short_columns t.columns h.0.columns }, table_words ts h.1)

-- the names in a head's catalog are words
pub head_words : (h : Head) → head_body.fits h ≡ true → AreWords (catalog_of h)
head_words h fits =
    let c = head_fits_head h fits in
    record { stables = stable_words (map stable_def h.stables) c.stables; tables = table_words (map table_def h.tables) c.tables; streams = tt }
