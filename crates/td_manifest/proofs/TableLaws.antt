-- Supertables and tables have one spelling.
use Rattle.std.proofs.Common.{◌≡◌, ℕ, Bool, true, false, eqb, leb, ℤ, List, [], ◌++◌, length, slice_get, Option, Some, None, refl, sym, ap, ◌∙◌}
use Rattle.std.specs.Int.{w8, w16, w32, to_le_bytes}
use Rattle.std.proofs.lemmas.Bool.{and_parts, cond_both, cond-true, eqb-true, eq-eqb, false≢true}
use Rattle.td_limits.specs.declared.limits.TheConstants.{LAST_TIMESTAMP}
use Rattle.td_cols.specs.declared.kinds.Kind.{Kind}
use Rattle.td_cols.specs.declared.kinds.Kind.TheVariants.{Wide}
use Rattle.td_cols.specs.Kinds.{is_in_range}
use Rattle.td_layer.specs.declared.values.Cell.{Cell}
use Rattle.td_layer.specs.declared.values.Cell.TheVariants as cells
use Rattle.td_model.specs.declared.catalog.Column.{Column}
use Rattle.td_model.specs.declared.catalog.Schema.{Schema}
use Rattle.td_codec.specs.Fields.{Field, SpellsOnce, number, kind_number, nothing, unknown, checked, pair, followed, spelled_part}
use Rattle.td_codec.specs.Lists.{item_behind}
use Rattle.td_codec.specs.Values.{text, truth, as_null, as_truth, as_num, as_str, cell_code, cell_form, cell}
use Rattle.td_codec.proofs.FieldLaws.{wide8, wide16, wide32, number_spells, nothing_spells, unknown_spells, checked_spells, pair_spells, followed_spells, made_spells, made_tag, tagged_spells}
use Rattle.td_codec.proofs.ValueLaws.{some_is, text_spells, truth_spells, wide_spells}
use Rattle.td_manifest.specs.declared.head.HeadStable.{HeadStable}
use Rattle.td_manifest.specs.declared.head.HeadTable.{HeadTable}
use Rattle.td_manifest.specs.declared.head.HeadTable.TheVariants as tables
use Rattle.td_manifest.specs.declared.tables.TableBody.{TableBody}
use Rattle.td_manifest.specs.declared.tables.TableBody.TheVariants as bodies
use Rattle.td_manifest.specs.Names.{is_among, new_name}
use Rattle.td_manifest.specs.Columns.{columns_field, tags_field}
use Rattle.td_manifest.specs.Tables.{latest_field, schema_field, stable_names, stable_of, stable_behind, stable_items, suits, is_tag_text, tag_form, tag_cell, tag_cell_of, tag_cell_items, tag_cells, tags_of, as_plain, as_sub, body_stable, body_form, table_body, body_bytes, table_name, table_names, body_of, table_with, table_behind, table_bytes, table_items}
use Rattle.td_manifest.proofs.ListedLaws.{respelled, listed_spells, perhaps_spells}
use Rattle.td_manifest.proofs.ColumnLaws.{new_name_spells, columns_spell, tags_spell}

pub latest_spells : SpellsOnce latest_field
unfolding latest_field
latest_spells = perhaps_spells (λ n. leb n LAST_TIMESTAMP)

-- ---- supertables

schema_spells : SpellsOnce schema_field
unfolding schema_field
schema_spells =
    made_spells (followed columns_field tags_field) (λ p. record { columns = p.0; tags = p.1 }) (λ (s : Schema). Some (s.columns, s.tags)) (λ a _. refl)
    (λ a s e. ap (λ (p : List Column × List Column). record { columns = p.0; tags = p.1 }) (sym (some_is (s.columns, s.tags) a e)))
    (followed_spells columns_field tags_field columns_spell tags_spell)

pub stable_spells : (taken : List (List ℕ)) → SpellsOnce (stable_behind taken)
unfolding stable_behind
stable_spells taken =
    made_spells (pair (new_name (λ name. is_among name taken)) (pair schema_field latest_field)) stable_of (λ (s : HeadStable). Some (s.name, (s.schema, s.latest))) (λ a _. refl)
    (λ a s e. ap stable_of (sym (some_is (s.name, (s.schema, s.latest)) a e)))
    (pair_spells (new_name (λ name. is_among name taken)) (pair schema_field latest_field) (new_name_spells (λ name. is_among name taken)) (pair_spells schema_field latest_field schema_spells latest_spells))

pub stable_items_spell : (before : List HeadStable) → SpellsOnce (item_behind stable_items before)
unfolding stable_items stable_behind new_name
stable_items_spell before = stable_spells (stable_names before)

-- ---- the tags of a subtable

null_only : (a : Unit {0}) (x : Cell) → as_null x ≡ Some a → cells.Null ≡ x
null_only a cells.Null e = refl
null_only a _ e = absurd cc

truth_is : (a : Bool) (x : Cell) → as_truth x ≡ Some a → cells.Truth a ≡ x
truth_is a (cells.Truth b) e = ap (λ (v : Bool). cells.Truth v) (some_is a b (sym e))
truth_is a _ e = absurd cc

num_is : (a : ℤ) (x : Cell) → as_num x ≡ Some a → cells.Num a ≡ x
num_is a (cells.Num n) e = ap (λ (v : ℤ). cells.Num v) (some_is a n (sym e))
num_is a _ e = absurd cc

str_is : (a : List ℕ) (x : Cell) → as_str x ≡ Some a → cells.Str a ≡ x
str_is a (cells.Str t) e = ap (λ (v : List ℕ). cells.Str v) (some_is a t (sym e))
str_is a _ e = absurd cc

tag_form_spells : (kind : Kind) (c : ℕ) → SpellsOnce (tag_form kind c)
unfolding tag_form
tag_form_spells kind c =
    cond_both (eqb c 0) _ _ (λ (f : Field Cell). SpellsOnce f) (λ _. made_spells nothing (λ _. cells.Null) as_null (λ a _. refl) null_only nothing_spells) (λ _.
    cond_both (eqb c 1) _ _ (λ (f : Field Cell). SpellsOnce f) (λ _. made_spells truth (λ b. cells.Truth b) as_truth (λ a _. refl) truth_is truth_spells) (λ _.
    cond_both (eqb c 2) _ _ (λ (f : Field Cell). SpellsOnce f) (λ _. made_spells (checked (kind_number Wide) (is_in_range kind)) (λ n. cells.Num n) as_num (λ a _. refl) num_is (checked_spells (kind_number Wide) (is_in_range kind) wide_spells)) (λ _.
    cond_both (eqb c 4) _ _ (λ (f : Field Cell). SpellsOnce f) (λ _. made_spells (text (is_tag_text kind)) (λ t. cells.Str t) as_str (λ a _. refl) str_is (text_spells (is_tag_text kind))) (λ _. unknown_spells))))

tag_form_own : (kind : Kind) (c : ℕ) (x : Cell) → (tag_form kind c).fits x ≡ true → cell_code x ≡ c
unfolding tag_form
tag_form_own kind c x =
    let P : Field Cell → Type 0 = λ f. f.fits x ≡ true → cell_code x ≡ c in
    cond_both (eqb c 0) _ _ P (λ e fits. made_tag nothing (λ _. cells.Null) as_null null_only cell_code c (λ a. sym (eqb-true c 0 e)) x (as_null x) refl fits) (λ _.
    cond_both (eqb c 1) _ _ P (λ e fits. made_tag truth (λ b. cells.Truth b) as_truth truth_is cell_code c (λ a. sym (eqb-true c 1 e)) x (as_truth x) refl fits) (λ _.
    cond_both (eqb c 2) _ _ P (λ e fits. made_tag (checked (kind_number Wide) (is_in_range kind)) (λ n. cells.Num n) as_num num_is cell_code c (λ a. sym (eqb-true c 2 e)) x (as_num x) refl fits) (λ _.
    cond_both (eqb c 4) _ _ P (λ e fits. made_tag (text (is_tag_text kind)) (λ t. cells.Str t) as_str str_is cell_code c (λ a. sym (eqb-true c 4 e)) x (as_str x) refl fits) (λ _ fits. absurd cc))))

tag_cell_spells : (kind : Kind) → SpellsOnce (tag_cell kind)
unfolding tag_cell
tag_cell_spells kind = tagged_spells (checked (number w8) (suits kind)) cell_code (tag_form kind) (tag_form_own kind) (checked_spells (number w8) (suits kind) (number_spells w8 wide8)) (tag_form_spells kind)

-- a tag's cell stands as any other cell does
tag_cell_bytes : (kind : Kind) (x : Cell) → (tag_cell kind).fits x ≡ true → (tag_cell kind).spelled x ≡ cell.spelled x
unfolding tag_cell tag_form cell cell_form text
tag_cell_bytes kind cells.Null fits = refl
tag_cell_bytes kind (cells.Truth b) fits = refl
tag_cell_bytes kind (cells.Num n) fits = refl
tag_cell_bytes kind (cells.Frac sum count) fits = absurd (false≢true (and_parts ((checked (number w8) (suits kind)).fits 3) false fits).1)
tag_cell_bytes kind (cells.Str t) fits = refl

tag_cell_of_spells : (tag : Option Column) → SpellsOnce (record { read = (tag_cell_of tag).read; spelled = cell.spelled; fits = (tag_cell_of tag).fits })
tag_cell_of_spells None = respelled unknown cell.spelled (λ x fits. absurd cc) unknown_spells
tag_cell_of_spells (Some tag) = respelled (tag_cell tag.kind) cell.spelled (tag_cell_bytes tag.kind) (tag_cell_spells tag.kind)

tag_cell_items_spell : (tags : List Column) (before : List Cell) → SpellsOnce (item_behind (tag_cell_items tags) before)
unfolding tag_cell_items
tag_cell_items_spell tags before = tag_cell_of_spells (slice_get tags (length before))

tag_cells_spell : (tags : List Column) → SpellsOnce (tag_cells tags)
unfolding tag_cells
tag_cells_spell tags = listed_spells w16 (λ n. eqb n (length tags)) (tag_cell_items tags) wide16 (tag_cell_items_spell tags)

-- ---- tables

plain_is : (a : List Column × Option ℕ) (b : TableBody) → as_plain b ≡ Some a → bodies.Plain a.0 a.1 ≡ b
plain_is a (bodies.Plain columns latest) e = ap (λ (p : List Column × Option ℕ). bodies.Plain p.0 p.1) (some_is a (columns, latest) (sym e))
plain_is a (bodies.Sub stable tags) e = absurd cc

pub sub_of : (n : ℕ) (tags : List Cell) → as_sub n (bodies.Sub n tags) ≡ Some tags
sub_of n tags = cond-true (eqb n n) (Some tags) None (eq-eqb n n refl)

sub_is : (n : ℕ) (a : List Cell) (b : TableBody) → as_sub n b ≡ Some a → bodies.Sub n a ≡ b
sub_is n a (bodies.Plain columns latest) e = absurd cc
sub_is n a (bodies.Sub stable tags) e =
    cond_both (eqb stable n) (Some tags) None (λ (o : Option (List Cell)). o ≡ Some a → bodies.Sub n a ≡ bodies.Sub stable tags)
    (λ same e. ap (λ (v : List Cell). bodies.Sub n v) (some_is a tags (sym e)) ∙ ap (λ (m : ℕ). bodies.Sub m tags) (sym (eqb-true stable n same))) (λ _ e. absurd cc) e

body_form_spells : (stables : List HeadStable) (n : ℕ) → SpellsOnce (body_form stables n)
unfolding body_form
body_form_spells stables n =
    cond_both (eqb n 0) _ _ (λ (f : Field TableBody). SpellsOnce f)
    (λ _. made_spells (pair columns_field latest_field) (λ p. bodies.Plain p.0 p.1) as_plain (λ a _. refl) plain_is (pair_spells columns_field latest_field columns_spell latest_spells))
    (λ _. made_spells (tag_cells (tags_of stables n)) (λ tags. bodies.Sub n tags) (as_sub n) (λ a _. sub_of n a) (sub_is n) (tag_cells_spell (tags_of stables n)))

body_form_own : (stables : List HeadStable) (n : ℕ) (b : TableBody) → (body_form stables n).fits b ≡ true → body_stable b ≡ n
unfolding body_form
body_form_own stables n b =
    let P : Field TableBody → Type 0 = λ f. f.fits b ≡ true → body_stable b ≡ n in
    cond_both (eqb n 0) _ _ P (λ e fits. made_tag (pair columns_field latest_field) (λ p. bodies.Plain p.0 p.1) as_plain plain_is body_stable n (λ a. sym (eqb-true n 0 e)) b (as_plain b) refl fits)
    (λ _ fits. made_tag (tag_cells (tags_of stables n)) (λ tags. bodies.Sub n tags) (as_sub n) (sub_is n) body_stable n (λ a. refl) b (as_sub n b) refl fits)

table_body_spells : (stables : List HeadStable) → SpellsOnce (table_body stables)
unfolding table_body
table_body_spells stables =
    tagged_spells (checked (number w32) (λ n. leb n (length stables))) body_stable (body_form stables) (body_form_own stables)
    (checked_spells (number w32) (λ n. leb n (length stables)) (number_spells w32 wide32)) (body_form_spells stables)

-- the bytes of a table don't depend on the supertables
sub_bytes : (stables : List HeadStable) (n : ℕ) (tags : List Cell) → (body_form stables n).fits (bodies.Sub n tags) ≡ true → (body_form stables n).spelled (bodies.Sub n tags) ≡ (tag_cells []).spelled tags
unfolding body_form tag_cells tag_cell_items
sub_bytes stables n tags =
    cond_both (eqb n 0) _ _ (λ (f : Field TableBody). f.fits (bodies.Sub n tags) ≡ true → f.spelled (bodies.Sub n tags) ≡ (tag_cells []).spelled tags)
    (λ _ fits. absurd cc) (λ _ fits. ap (spelled_part (tag_cells (tags_of stables n))) (sub_of n tags))

table_body_bytes : (stables : List HeadStable) (b : TableBody) → (table_body stables).fits b ≡ true → (table_body stables).spelled b ≡ body_bytes b
unfolding table_body body_bytes body_form
table_body_bytes stables (bodies.Plain columns latest) fits = refl
table_body_bytes stables (bodies.Sub n tags) fits =
    let f = and_parts ((checked (number w32) (λ n. leb n (length stables))).fits n) ((body_form stables n).fits (bodies.Sub n tags)) fits in
    ap (λ (l : List ℕ). to_le_bytes w32 n ++ l) (sub_bytes stables n tags f.1)

abbrev parts : HeadTable → Option (List ℕ × TableBody)
parts t = Some (table_name t, body_of t)

parts_back : (name : List ℕ) (b : TableBody) → parts (table_with name b) ≡ Some (name, b)
parts_back name (bodies.Plain columns latest) = refl
parts_back name (bodies.Sub stable tags) = refl

table_again : (t : HeadTable) → table_with (table_name t) (body_of t) ≡ t
table_again (tables.Plain name columns latest) = refl
table_again (tables.Sub name stable tags) = refl

table_spells : (stables : List HeadStable) (taken : List (List ℕ)) → SpellsOnce (table_behind stables taken)
unfolding table_behind
table_spells stables taken =
    made_spells (pair (new_name (λ name. is_among name taken)) (table_body stables)) (λ p. table_with p.0 p.1) parts (λ a _. parts_back a.0 a.1)
    (λ a t e. ap (λ (p : List ℕ × TableBody). table_with p.0 p.1) (sym (some_is (table_name t, body_of t) a e)) ∙ table_again t)
    (pair_spells (new_name (λ name. is_among name taken)) (table_body stables) (new_name_spells (λ name. is_among name taken)) (table_body_spells stables))

table_spelled : (stables : List HeadStable) (taken : List (List ℕ)) (t : HeadTable) → (table_behind stables taken).fits t ≡ true → (table_behind stables taken).spelled t ≡ table_bytes t
unfolding table_behind table_bytes new_name
table_spelled stables taken t fits =
    let f = and_parts ((new_name (λ name. is_among name taken)).fits (table_name t)) ((table_body stables).fits (body_of t)) fits in
    ap (λ (l : List ℕ). (new_name (λ _. false)).spelled (table_name t) ++ l) (table_body_bytes stables (body_of t) f.1)

pub table_items_spell : (stables : List HeadStable) (before : List HeadTable) → SpellsOnce (item_behind (table_items stables) before)
unfolding table_items
table_items_spell stables before =
    let taken = stable_names stables ++ table_names before in
    respelled (table_behind stables taken) table_bytes (table_spelled stables taken) (table_spells stables taken)
