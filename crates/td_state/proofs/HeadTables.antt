-- Supertables and tables of a head, one by one.
use Rattle.std.proofs.Common.{◌≡◌, ℕ, zero, suc, ◌<◌, ◌≤◌, ◌^◌, Bool, true, false, ◌&&◌, nat_eq, nat_lt, nat_le, List, [], ◌++◌, length, Option, Some, None, refl, sym, ap, ◌∙◌, arith}
use Rattle.std.specs.List.{AllByRecursion, list_all}
use Rattle.std.proofs.lemmas.Bool.{and_from, and_parts, cond_both, eqb-true, false≢true, leb-true, le-leb, lt-ltb}
use Rattle.std.proofs.lemmas.List.{append-nil}
use Rattle.td_limits.specs.declared.limits.TheConstants.{LAST_TIMESTAMP, TAGS}
use Rattle.td_layer.specs.declared.values.Cell.{Cell}
use Rattle.td_model.specs.declared.catalog.Column.{Column}
use Rattle.td_model.specs.declared.catalog.Schema.{Schema}
use Rattle.td_codec.specs.Fields.{Field, part_fits}
use Rattle.td_manifest.specs.declared.head.HeadStable.{HeadStable}
use Rattle.td_manifest.specs.declared.head.HeadTable.{HeadTable}
use Rattle.td_manifest.specs.declared.head.HeadTable.TheVariants as tables
use Rattle.td_manifest.specs.Listed.{NONE, perhaps}
use Rattle.td_manifest.specs.Names.{is_among}
use Rattle.td_manifest.specs.Columns.{columns_field, tags_field}
use Rattle.td_manifest.specs.Tables.{body_form, body_of, latest_field, schema_field, stable_behind, stable_items, stable_names, table_behind, table_body, table_items, table_name, table_names, tag_cells, tags_of}
use Rattle.td_manifest.proofs.TableLaws.{sub_of}
use Rattle.td_verdict.specs.Names.{names_of, stands_twice}
use Rattle.td_verdict.specs.Values.{is_tag_kind}
use Rattle.td_verdict.specs.Valid.{AreTags, IsSchema}
use Rattle.td_catalog.proofs.Apart.{apart_first}
use Rattle.td_state.specs.Heads as heads
use Rattle.td_state.specs.Heads.{AreShortNamed, IsPrintableTag}
use Rattle.td_state.specs.Latest.{IsInTime}
use Rattle.td_state.proofs.NamedItems.{FitBy, name_is}
use Rattle.td_state.proofs.HeadColumns.{AreColumns, columns_from, columns_fit, tags_from, tags_fit}
use Rattle.td_state.proofs.HeadTags.{cells_from, cells_fit}

-- ---- greatest timestamps

pub latest_from : (o : Option ℕ) → latest_field.fits o ≡ true → IsInTime o
unfolding latest_field perhaps
latest_from None h = tt
latest_from (Some ts) h = leb-true ts LAST_TIMESTAMP (and_parts (nat_lt ts NONE) (nat_le ts LAST_TIMESTAMP) h).1

pub latest_fit : (o : Option ℕ) → IsInTime o → latest_field.fits o ≡ true
unfolding latest_field perhaps
latest_fit None h = refl
latest_fit (Some ts) h =
    let le : ts ≤ LAST_TIMESTAMP = h in
    and_from (nat_lt ts NONE) (nat_le ts LAST_TIMESTAMP) (lt-ltb ts NONE (omega arith)) (le-leb ts LAST_TIMESTAMP le)

-- ---- supertables

pub record AreParts (s : Schema) : Type 0 where
  pub schema : IsSchema s.columns s.tags
  pub columns : AreShortNamed s.columns
  pub tags : heads.AreTags s.tags

pub schema_from : (s : Schema) → schema_field.fits s ≡ true → AreParts s
unfolding schema_field
schema_from s fit =
    let parts = and_parts (columns_field.fits s.columns) ((tags_field s.columns).fits s.tags) fit in
    let columns = columns_from s.columns parts.0 in
    let tags = tags_from s.columns s.tags columns.apart parts.1 in
    record {
      schema = record {
        time = columns.time;
        apart = tags.apart;
        column_kinds = columns.kinds;
        tag_kinds = tags.kinds;
        few_columns = columns.few;
        few_tags = tags.few;
      };
      columns = columns.names;
      tags = tags.are;
    }

-- the columns of a schema
columns_of : (columns tags : List Column) → IsSchema columns tags → AreShortNamed columns → AreColumns columns
columns_of columns tags h names = record {
  time = h.time;
  apart = apart_first (names_of columns) (names_of tags) h.apart;
  kinds = h.column_kinds;
  few = h.few_columns;
  names = names;
}

pub schema_fit : (s : Schema) → AreParts s → schema_field.fits s ≡ true
unfolding schema_field
schema_fit s h =
    and_from (columns_field.fits s.columns) ((tags_field s.columns).fits s.tags)
    (columns_fit s.columns (columns_of s.columns s.tags h.schema h.columns))
    (tags_fit s.columns s.tags (record { apart = h.schema.apart; kinds = h.schema.tag_kinds; few = h.schema.few_tags; are = h.tags }))

abbrev pub head_stable_name : HeadStable → List ℕ
head_stable_name s = s.name

abbrev pub stable_good : List HeadStable → HeadStable → Bool
stable_good before s = schema_field.fits s.schema && latest_field.fits s.latest

pub stables_by : FitBy stable_items head_stable_name [] stable_good
unfolding stable_items stable_behind
stables_by before s = ap (λ b. b && (schema_field.fits s.schema && latest_field.fits s.latest)) (name_is (λ name. is_among name (stable_names before)) s.name)

-- ---- tables

-- a plain table has columns of its own; a subtable has the cells of the tags of a supertable that is there
abbrev pub IsGood : List HeadStable → HeadTable → Type 0
IsGood stables (tables.Plain name columns latest) = AreColumns columns × IsInTime latest
IsGood stables (tables.Sub name stable tags) = (1 ≤ stable) × (stable ≤ length stables) × AreTags (tags_of stables stable) tags

abbrev fits_in : {A : Type 0} → Field A → A → Bool
fits_in field x = field.fits x

positive : (n : ℕ) → nat_eq n 0 ≡ false → 1 ≤ n
positive zero h = absurd cc
positive (suc n) h = omega arith

form_from : (stables : List HeadStable) (name : List ℕ) (stable : ℕ) (tags : List Cell) → (body_form stables stable).fits (body_of (tables.Sub name stable tags)) ≡ true → (1 ≤ stable) × ((tag_cells (tags_of stables stable)).fits tags ≡ true)
unfolding body_form
form_from stables name stable tags =
    cond_both (nat_eq stable 0) _ _ (λ f. fits_in f (body_of (tables.Sub name stable tags)) ≡ true → (1 ≤ stable) × ((tag_cells (tags_of stables stable)).fits tags ≡ true))
    (λ e fit. absurd (false≢true fit))
    (λ e fit. (positive stable e, sym (ap (part_fits (tag_cells (tags_of stables stable))) (sub_of stable tags)) ∙ fit))

form_fit : (stables : List HeadStable) (name : List ℕ) (stable : ℕ) (tags : List Cell) → 1 ≤ stable → (tag_cells (tags_of stables stable)).fits tags ≡ true → (body_form stables stable).fits (body_of (tables.Sub name stable tags)) ≡ true
unfolding body_form
form_fit stables name stable tags some fit =
    cond_both (nat_eq stable 0) _ _ (λ f. fits_in f (body_of (tables.Sub name stable tags)) ≡ true)
    (λ e. absurd (zero_is stable some e))
    (λ e. ap (part_fits (tag_cells (tags_of stables stable))) (sub_of stable tags) ∙ fit)
  where
    zero_is : (n : ℕ) → 1 ≤ n → nat_eq n 0 ≡ true → ⊥
    zero_is n le h = let none = eqb-true n 0 h in omega arith

pub table_from : (stables : List HeadStable) (t : HeadTable) → (table_body stables).fits (body_of t) ≡ true → IsGood stables t
unfolding table_body body_form
table_from stables (tables.Plain name columns latest) fit =
    let here = and_parts (nat_le 0 (length stables)) (columns_field.fits columns && latest_field.fits latest) fit in
    let parts = and_parts (columns_field.fits columns) (latest_field.fits latest) here.1 in
    (columns_from columns parts.0, latest_from latest parts.1)
table_from stables (tables.Sub name stable tags) fit =
    let number = nat_lt stable (2 ^ 32) && nat_le stable (length stables) in
    let parts = and_parts number ((body_form stables stable).fits (body_of (tables.Sub name stable tags))) fit in
    let le = leb-true stable (length stables) (and_parts (nat_lt stable (2 ^ 32)) (nat_le stable (length stables)) parts.0).1 in
    let form = form_from stables name stable tags parts.1 in
    (form.0, le, cells_from (tags_of stables stable) tags form.1)

pub plain_fit : (stables : List HeadStable) (name : List ℕ) (columns : List Column) (latest : Option ℕ) → IsSchema columns [] → AreShortNamed columns → IsInTime latest → (table_body stables).fits (body_of (tables.Plain name columns latest)) ≡ true
unfolding table_body body_form
plain_fit stables name columns latest schema names time =
    and_from (nat_le 0 (length stables)) (columns_field.fits columns && latest_field.fits latest) (le-leb 0 (length stables) (omega arith))
    (and_from (columns_field.fits columns) (latest_field.fits latest) (columns_fit columns (columns_of columns [] schema names)) (latest_fit latest time))

pub sub_fit : (stables : List HeadStable) (name : List ℕ) (stable : ℕ) (tags : List Cell) → 1 ≤ stable → stable ≤ length stables → length stables < 2 ^ 32 → length (tags_of stables stable) ≤ TAGS → list_all (λ (c : Column). is_tag_kind c.kind) (tags_of stables stable) ≡ true
    → AllByRecursion IsPrintableTag tags → AreTags (tags_of stables stable) tags → (table_body stables).fits (body_of (tables.Sub name stable tags)) ≡ true
unfolding table_body
sub_fit stables name stable tags some le count few kinds print are =
    and_from (nat_lt stable (2 ^ 32) && nat_le stable (length stables)) ((body_form stables stable).fits (body_of (tables.Sub name stable tags)))
    (and_from (nat_lt stable (2 ^ 32)) (nat_le stable (length stables)) (lt-ltb stable (2 ^ 32) (omega arith)) (le-leb stable (length stables) le))
    (form_fit stables name stable tags some (cells_fit (tags_of stables stable) tags few kinds print are))

abbrev pub table_good : List HeadStable → List HeadTable → HeadTable → Bool
table_good stables before t = (table_body stables).fits (body_of t)

pub tables_by : (stables : List HeadStable) → FitBy (table_items stables) table_name (stable_names stables) (table_good stables)
unfolding table_items table_behind
tables_by stables before t = ap (λ b. b && (table_body stables).fits (body_of t)) (name_is (λ name. is_among name (stable_names stables ++ table_names before)) (table_name t))

-- the columns of a table without tags are a schema
pub plain_schema : (columns : List Column) → AreColumns columns → IsSchema columns []
plain_schema columns h = record {
  time = h.time;
  apart = ap stands_twice (append-nil (names_of columns)) ∙ h.apart;
  column_kinds = h.kinds;
  tag_kinds = refl;
  few_columns = h.few;
  few_tags = omega arith;
}
