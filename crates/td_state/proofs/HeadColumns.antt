-- Columns and tags of a head, and those of a schema.
use Rattle.std.proofs.Common.{◌≡◌, ℕ, ◌≤◌, ◌^◌, Bool, true, false, not, ◌&&◌, ◌||◌, nat_lt, nat_le, List, [], ◌∷◌, ◌++◌, map, length, refl, sym, ap, ◌∙◌, arith}
use Rattle.std.specs.List.{list_all, list_any}
use Rattle.std.specs.Str.{bytes_eq}
use Rattle.std.proofs.lemmas.Bool.{and_from, and_parts, leb-true, le-leb, lt-ltb}
use Rattle.std.proofs.lemmas.List.Folds.{list_any-append}
use Rattle.td_limits.specs.declared.limits.TheConstants.{COLUMNS, TAGS, TAG_BYTES}
use Rattle.td_cols.specs.declared.kinds.Kind.{Kind}
use Rattle.td_cols.specs.declared.kinds.Kind.TheVariants.{Bool as Truth, I8, I16, I32, I64, U8, U16, U32, U64, Time, Wide, Text}
use Rattle.td_cols.specs.Kinds.{kind_code}
use Rattle.td_model.specs.declared.catalog.Column.{Column}
use Rattle.td_codec.specs.Lists.{all_fit}
use Rattle.td_manifest.specs.Names.{is_short_name, new_name}
use Rattle.td_manifest.specs.Columns.{kind_by, kind_field, column_behind, column_field, has_column, column_items, tag_behind, tag_items, columns_field, tags_field}
use Rattle.td_verdict.specs.Names.{is_time, lacks_time, names_of, stands_twice}
use Rattle.td_verdict.specs.Values.{is_column_kind, is_tag_kind}
use Rattle.td_state.specs.Heads.{AreShortNamed, AreTags}
use Rattle.td_state.proofs.NamedItems.{FitBy, all_good, any_named, fit_all, name_is, named_all, plain_good, redundant}

abbrev column_name : Column → List ℕ
column_name c = c.name

-- ---- kinds

-- the first column, one behind it, and a tag
first_column : (name : List ℕ) (k : Kind) → (column_behind []).fits (record { name = name; kind = k }) ≡ ((new_name (λ _. false)).fits name && is_time k)
unfolding column_field kind_field kind_by kind_code
first_column name Truth = refl
first_column name I8 = refl
first_column name I16 = refl
first_column name I32 = refl
first_column name I64 = refl
first_column name U8 = refl
first_column name U16 = refl
first_column name U32 = refl
first_column name U64 = refl
first_column name Time = refl
first_column name Wide = refl
first_column name (Text n) = refl

later_column : (b : Column) (before : List Column) (name : List ℕ) (k : Kind) → (column_behind (b ∷ before)).fits (record { name = name; kind = k }) ≡ ((new_name (λ name. has_column name (b ∷ before))).fits name && is_column_kind k)
unfolding column_field kind_field kind_by kind_code
later_column b before name Truth = refl
later_column b before name I8 = refl
later_column b before name I16 = refl
later_column b before name I32 = refl
later_column b before name I64 = refl
later_column b before name U8 = refl
later_column b before name U16 = refl
later_column b before name U32 = refl
later_column b before name U64 = refl
later_column b before name Time = refl
later_column b before name Wide = refl
later_column b before name (Text n) = refl

one_tag : (columns before : List Column) (name : List ℕ) (k : Kind) → (tag_behind columns before).fits (record { name = name; kind = k }) ≡ ((new_name (λ name. has_column name columns || has_column name before)).fits name && is_tag_kind k)
unfolding column_field kind_field kind_by kind_code
one_tag columns before name Truth = refl
one_tag columns before name I8 = refl
one_tag columns before name I16 = refl
one_tag columns before name I32 = refl
one_tag columns before name I64 = refl
one_tag columns before name U8 = refl
one_tag columns before name U16 = refl
one_tag columns before name U32 = refl
one_tag columns before name U64 = refl
one_tag columns before name Time = refl
one_tag columns before name Wide = refl
one_tag columns before name (Text n) = ap (λ b. (new_name (λ name. has_column name columns || has_column name before)).fits name && b) (redundant (nat_lt n (2 ^ 16)) (nat_le 1 n && nat_le n TAG_BYTES) few)
  where
    few : (nat_le 1 n && nat_le n TAG_BYTES) ≡ true → nat_lt n (2 ^ 16) ≡ true
    few h =
        let le : n ≤ TAG_BYTES = leb-true n TAG_BYTES (and_parts (nat_le 1 n) (nat_le n TAG_BYTES) h).1 in
        lt-ltb n (2 ^ 16) (omega arith)

time_column : (k : Kind) → is_time k ≡ true → is_column_kind k ≡ true
time_column Wide h = h
time_column (Text n) h = h
time_column Truth h = refl
time_column I8 h = refl
time_column I16 h = refl
time_column I32 h = refl
time_column I64 h = refl
time_column U8 h = refl
time_column U16 h = refl
time_column U32 h = refl
time_column U64 h = refl
time_column Time h = refl

-- ---- items

-- the first column is a timestamp
abbrev column_good : List Column → Column → Bool
column_good [] c = is_time c.kind
column_good (b ∷ before) c = is_column_kind c.kind

abbrev tag_good : List Column → Column → Bool
tag_good before c = is_tag_kind c.kind

columns_by : FitBy column_items column_name [] column_good
unfolding column_items
columns_by [] c = first_column c.name c.kind ∙ ap (λ b. b && is_time c.kind) (name_is (λ _. false) c.name)
columns_by (b ∷ before) c =
    later_column b before c.name c.kind
    ∙ ap (λ x. x && is_column_kind c.kind) (name_is (λ name. has_column name (b ∷ before)) c.name)
    ∙ ap (λ x. (is_short_name c.name && not x) && is_column_kind c.kind) (any_named column_name c.name (b ∷ before))

tags_by : (columns : List Column) → FitBy (tag_items columns) column_name (names_of columns) tag_good
unfolding tag_items
tags_by columns before c =
    let both : (has_column c.name columns || has_column c.name before) ≡ list_any (bytes_eq c.name) (names_of columns ++ map column_name before) =
    (λ i. any_named column_name c.name columns i || any_named column_name c.name before i) ∙ sym (list_any-append (bytes_eq c.name) (names_of columns) (map column_name before)) in
    one_tag columns before c.name c.kind
    ∙ ap (λ x. x && is_tag_kind c.kind) (name_is (λ name. has_column name columns || has_column name before) c.name)
    ∙ ap (λ x. (is_short_name c.name && not x) && is_tag_kind c.kind) both

-- ---- columns

later_good : (b : Column) (before cs : List Column) → all_good column_good (b ∷ before) cs ≡ list_all (λ (c : Column). is_column_kind c.kind) cs
later_good b before [] = refl
later_good b before (c ∷ cs) = ap (λ x. is_column_kind c.kind && x) (later_good b (before ++ c ∷ []) cs)

-- the columns of a table
pub record AreColumns (columns : List Column) : Type 0 where
  pub time : lacks_time columns ≡ false
  pub apart : stands_twice (names_of columns) ≡ false
  pub kinds : list_all (λ (c : Column). is_column_kind c.kind) columns ≡ true
  pub few : length columns ≤ COLUMNS
  pub names : AreShortNamed columns

good_columns : (columns : List Column) → nat_le 1 (length columns) ≡ true → all_good column_good [] columns ≡ true → (lacks_time columns ≡ false) × (list_all (λ (c : Column). is_column_kind c.kind) columns ≡ true)
good_columns [] some good = absurd cc
good_columns (c ∷ cs) some good =
    let parts = and_parts (is_time c.kind) (all_good column_good (c ∷ []) cs) good in
    (ap not parts.0, and_from (is_column_kind c.kind) (list_all (λ (c : Column). is_column_kind c.kind) cs) (time_column c.kind parts.0) (sym (later_good c [] cs) ∙ parts.1))

columns_good : (columns : List Column) → lacks_time columns ≡ false → list_all (λ (c : Column). is_column_kind c.kind) columns ≡ true → (nat_le 1 (length columns) ≡ true) × (all_good column_good [] columns ≡ true)
columns_good [] time kinds = absurd cc
columns_good (c ∷ cs) time kinds =
    let first : is_time c.kind ≡ true = is_so (is_time c.kind) time in
    let parts = and_parts (is_column_kind c.kind) (list_all (λ (c : Column). is_column_kind c.kind) cs) kinds in
    (le-leb 1 (length (c ∷ cs)) (omega arith), and_from (is_time c.kind) (all_good column_good (c ∷ []) cs) first (later_good c [] cs ∙ parts.1))
  where
    is_so : (b : Bool) → not b ≡ false → b ≡ true
    is_so true h = refl
    is_so false h = absurd cc

pub columns_from : (columns : List Column) → columns_field.fits columns ≡ true → AreColumns columns
unfolding columns_field
columns_from columns fit =
    let n = length columns in
    let parts = and_parts (nat_lt n (2 ^ 16) && (nat_le 1 n && nat_le n COLUMNS)) (all_fit column_items [] columns) fit in
    let count = and_parts (nat_lt n (2 ^ 16)) (nat_le 1 n && nat_le n COLUMNS) parts.0 in
    let range = and_parts (nat_le 1 n) (nat_le n COLUMNS) count.1 in
    let named = named_all column_items column_name [] column_good columns_by [] columns refl parts.1 in
    let good = good_columns columns range.0 named.are_good in
    record { time = good.0; apart = named.apart; kinds = good.1; few = leb-true n COLUMNS range.1; names = named.short }

pub columns_fit : (columns : List Column) → AreColumns columns → columns_field.fits columns ≡ true
unfolding columns_field
columns_fit columns h =
    let n = length columns in
    let le : n ≤ COLUMNS = h.few in
    let good = columns_good columns h.time h.kinds in
    and_from (nat_lt n (2 ^ 16) && (nat_le 1 n && nat_le n COLUMNS)) (all_fit column_items [] columns)
    (and_from (nat_lt n (2 ^ 16)) (nat_le 1 n && nat_le n COLUMNS) (lt-ltb n (2 ^ 16) (omega arith)) (and_from (nat_le 1 n) (nat_le n COLUMNS) good.0 (le-leb n COLUMNS le)))
    (fit_all column_items column_name [] column_good columns_by [] columns (record { apart = h.apart; short = h.names; are_good = good.1 }))

-- ---- tags

pub record AreTagsOf (columns tags : List Column) : Type 0 where
  pub apart : stands_twice (names_of columns ++ names_of tags) ≡ false
  pub kinds : list_all (λ (c : Column). is_tag_kind c.kind) tags ≡ true
  pub few : length tags ≤ TAGS
  pub are : AreTags tags

pub tags_from : (columns tags : List Column) → stands_twice (names_of columns) ≡ false → (tags_field columns).fits tags ≡ true → AreTagsOf columns tags
unfolding tags_field
tags_from columns tags apart fit =
    let n = length tags in
    let parts = and_parts (nat_lt n (2 ^ 16) && (nat_le 1 n && nat_le n TAGS)) (all_fit (tag_items columns) [] tags) fit in
    let count = and_parts (nat_lt n (2 ^ 16)) (nat_le 1 n && nat_le n TAGS) parts.0 in
    let range = and_parts (nat_le 1 n) (nat_le n TAGS) count.1 in
    let none : stands_twice (names_of columns ++ []) ≡ false = ap stands_twice (append_nil (names_of columns)) ∙ apart in
    let named = named_all (tag_items columns) column_name (names_of columns) tag_good (tags_by columns) [] tags none parts.1 in
    record {
      apart = named.apart;
      kinds = sym (plain_good (λ (c : Column). is_tag_kind c.kind) [] tags) ∙ named.are_good;
      few = leb-true n TAGS range.1;
      are = record { some = leb-true 1 n range.0; names = named.short };
    }
  where
    append_nil : {X : Type 0} (xs : List X) → xs ++ [] ≡ xs
    append_nil [] = refl
    append_nil (x ∷ xs) = ap (λ l. x ∷ l) (append_nil xs)

pub tags_fit : (columns tags : List Column) → AreTagsOf columns tags → (tags_field columns).fits tags ≡ true
unfolding tags_field
tags_fit columns tags h =
    let n = length tags in
    let le : n ≤ TAGS = h.few in
    let good = plain_good (λ (c : Column). is_tag_kind c.kind) [] tags ∙ h.kinds in
    and_from (nat_lt n (2 ^ 16) && (nat_le 1 n && nat_le n TAGS)) (all_fit (tag_items columns) [] tags)
    (and_from (nat_lt n (2 ^ 16)) (nat_le 1 n && nat_le n TAGS) (lt-ltb n (2 ^ 16) (omega arith)) (and_from (nat_le 1 n) (nat_le n TAGS) (le-leb 1 n h.are.some) (le-leb n TAGS le)))
    (fit_all (tag_items columns) column_name (names_of columns) tag_good (tags_by columns) [] tags (record { apart = h.apart; short = h.are.names; are_good = good }))
