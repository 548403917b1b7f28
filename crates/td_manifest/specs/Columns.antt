-- Columns and tags: a name, a code of a kind, and for a text how many bytes it has at most.
use Rattle.std.specs.Prelude.{ℕ, zero, suc, ◌==◌, ◌||◌, ◌&&◌, nat_le, Bool, true, false, if◌then◌else◌, List, [], length, Option, Some}
use Rattle.std.specs.List.{list_any}
use Rattle.std.specs.Str.{bytes_eq}
use Rattle.std.specs.Int.{w8, w16}
use Rattle.td_limits.specs.declared.limits.TheConstants.{COLUMNS, TAGS, TAG_BYTES}
use Rattle.td_cols.specs.declared.kinds.Kind.{Kind}
use Rattle.td_cols.specs.declared.kinds.Kind.TheVariants.{Bool as Truth, I8, I16, I32, I64, U8, U16, U32, U64, Time, Wide, Text}
use Rattle.td_cols.specs.Kinds.{kind_code}
use Rattle.td_model.specs.declared.catalog.Column.{Column}
use Rattle.td_codec.specs.Fields.{Field, number, checked, pair, followed, made}
use Rattle.td_codec.specs.Lists.{Items}
use Rattle.td_manifest.specs.declared.columns.Place.{Place}
use Rattle.td_manifest.specs.declared.columns.Place.TheVariants as places
use Rattle.td_manifest.specs.Listed.{listed, absent}
use Rattle.td_manifest.specs.Names.{new_name}

-- ---- kinds

-- the kind of a code; how long a text of it may be isn't known by the code
unfoldable pub kind_by : ℕ → Kind
kind_by code =
    (if code == 1 then Truth
    else (if code == 2 then I8
    else (if code == 3 then I16
    else (if code == 4 then I32
    else (if code == 5 then I64
    else (if code == 6 then U8
    else (if code == 7 then U16
    else (if code == 8 then U32
    else (if code == 9 then U64
    else (if code == 10 then Time
    else (if code == 11 then Wide
    else Text 0)))))))))))

-- how many bytes a text of a kind has at most; 0 of a kind of numbers
abbrev pub text_size : Kind → ℕ
text_size (Text n) = n
text_size _ = 0

-- a kind, where a text of it has at most so many bytes
abbrev pub with_size : Kind → ℕ → Kind
with_size (Text _) n = Text n
with_size kind n = kind

-- how many bytes a text has at most, where the kind is that of a text
abbrev pub size_field : Kind → Field ℕ
size_field (Text _) = checked (number w16) (λ n. nat_le 1 n && nat_le n TAG_BYTES)
size_field _ = absent

-- The first column is a timestamp, no column is a sum or a text, and no tag is a sum.
abbrev pub allows : Place → Kind → Bool
allows places.First Time = true
allows places.First _ = false
allows places.Later Wide = false
allows places.Later (Text _) = false
allows places.Later _ = true
allows places.Tag Wide = false
allows places.Tag _ = true

abbrev pub is_code : Place → ℕ → Bool
is_code place code = (nat_le 1 code && nat_le code 12) && allows place (kind_by code)

abbrev pub kind_parts : Kind → Option (ℕ × ℕ)
kind_parts kind = Some (kind_code kind, text_size kind)

-- a kind that is allowed at a place
unfoldable pub kind_field : Place → Field Kind
kind_field place =
    made (followed (checked (number w8) (is_code place)) (λ code. size_field (kind_by code)))
    (λ p. with_size (kind_by p.0) p.1) kind_parts

-- ---- columns

-- a column or a tag with a name that isn't taken, of a kind that is allowed at its place
unfoldable pub column_field : Place → (List ℕ → Bool) → Field Column
column_field place is_taken =
    made (pair (new_name is_taken) (kind_field place)) (λ p. record { name = p.0; kind = p.1 })
    (λ c. Some (c.name, c.kind))

-- whether a column has a name
abbrev pub has_column : List ℕ → List Column → Bool
has_column name columns = list_any (λ (c : Column). bytes_eq c.name name) columns

-- the place behind so many columns
abbrev pub place_behind : ℕ → Place
place_behind zero = places.First
place_behind (suc n) = places.Later

-- a column behind others, and a tag of these columns behind other tags; no name stands twice
abbrev pub column_behind : List Column → Field Column
column_behind before = column_field (place_behind (length before)) (λ name. has_column name before)

abbrev pub tag_behind : List Column → List Column → Field Column
tag_behind columns before = column_field places.Tag (λ name. has_column name columns || has_column name before)

unfoldable pub column_items : Items Column
column_items =
    record {
      read = λ before. (column_behind before).read;
      spelled = (column_behind []).spelled;
      fits = λ before. (column_behind before).fits;
    }

unfoldable pub tag_items : List Column → Items Column
tag_items columns =
    record {
      read = λ before. (tag_behind columns before).read;
      spelled = (column_behind []).spelled;
      fits = λ before. (tag_behind columns before).fits;
    }

-- the columns of a table, the timestamp first
unfoldable pub columns_field : Field (List Column)
columns_field = listed w16 (λ n. nat_le 1 n && nat_le n COLUMNS) column_items

-- the tags of a supertable with these columns
unfoldable pub tags_field : List Column → Field (List Column)
tags_field columns = listed w16 (λ n. nat_le 1 n && nat_le n TAGS) (tag_items columns)
