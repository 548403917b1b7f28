-- Supertables and tables.
use Rattle.std.specs.Prelude.{ℕ, ◌-◌, ◌==◌, ◌||◌, ◌&&◌, nat_le, Bool, false, if◌then◌else◌, List, [], ◌++◌, map, length, slice_get, Option, Some, None}
use Rattle.std.specs.Option.{option_map_or}
use Rattle.std.specs.Int.{w8, w16, w32, to_le_bytes}
use Rattle.td_limits.specs.declared.limits.TheConstants.{LAST_TIMESTAMP}
use Rattle.td_cols.specs.declared.kinds.Kind.{Kind}
use Rattle.td_cols.specs.declared.kinds.Kind.TheVariants.{Bool as Truth, Wide, Text}
use Rattle.td_cols.specs.Kinds.{is_in_range}
use Rattle.td_layer.specs.declared.values.Cell.{Cell}
use Rattle.td_layer.specs.declared.values.Cell.TheVariants as cells
use Rattle.td_model.specs.declared.catalog.Column.{Column}
use Rattle.td_model.specs.declared.catalog.Schema.{Schema}
use Rattle.td_codec.specs.Fields.{Field, number, kind_number, nothing, unknown, checked, pair, followed, made, tagged}
use Rattle.td_codec.specs.Lists.{Items}
use Rattle.td_codec.specs.Values.{text, is_printable, truth, as_null, as_truth, as_num, as_str, cell_code, cell}
use Rattle.td_manifest.specs.declared.head.HeadStable.{HeadStable}
use Rattle.td_manifest.specs.declared.head.HeadTable.{HeadTable}
use Rattle.td_manifest.specs.declared.head.HeadTable.TheVariants as tables
use Rattle.td_manifest.specs.declared.tables.TableBody.{TableBody}
use Rattle.td_manifest.specs.declared.tables.TableBody.TheVariants as bodies
use Rattle.td_manifest.specs.Listed.{listed, perhaps}
use Rattle.td_manifest.specs.Names.{is_among, new_name}
use Rattle.td_manifest.specs.Columns.{text_size, columns_field, tags_field}

-- the greatest timestamp that was ever put, or none
unfoldable pub latest_field : Field (Option ℕ)
latest_field = perhaps (λ n. nat_le n LAST_TIMESTAMP)

-- ---- supertables

-- the columns, and the tags, whose names differ from those of the columns
unfoldable pub schema_field : Field Schema
schema_field =
    made (followed columns_field tags_field) (λ p. record { columns = p.0; tags = p.1 }) (λ s. Some (s.columns, s.tags))

abbrev pub stable_names : List HeadStable → List (List ℕ)
stable_names stables = map (λ (s : HeadStable). s.name) stables

abbrev pub stable_of : List ℕ × (Schema × Option ℕ) → HeadStable
stable_of p = record { name = p.0; schema = p.1.0; latest = p.1.1 }

-- a supertable with a name that none of these has
unfoldable pub stable_behind : List (List ℕ) → Field HeadStable
stable_behind taken =
    made (pair (new_name (λ name. is_among name taken)) (pair schema_field latest_field)) stable_of
    (λ s. Some (s.name, (s.schema, s.latest)))

unfoldable pub stable_items : Items HeadStable
stable_items =
    record {
      read = λ before. (stable_behind (stable_names before)).read;
      spelled = (stable_behind []).spelled;
      fits = λ before. (stable_behind (stable_names before)).fits;
    }

-- ---- the tags of a subtable

-- the code of a cell that suits a kind and isn't NULL: a truth value, a text or a number
abbrev pub value_code : Kind → ℕ
value_code Truth = 1
value_code (Text n) = 4
value_code _ = 2

abbrev pub suits : Kind → ℕ → Bool
suits kind code = (code == 0) || (code == value_code kind)

-- a text that a tag of a kind can hold
abbrev pub is_tag_text : Kind → List ℕ → Bool
is_tag_text kind t = is_printable t && nat_le (length t) (text_size kind)

unfoldable pub tag_form : Kind → ℕ → Field Cell
tag_form kind code =
    (if code == 0 then made nothing (λ _. cells.Null) as_null
    else (if code == 1 then made truth (λ b. cells.Truth b) as_truth
    else (if code == 2 then made (checked (kind_number Wide) (is_in_range kind)) (λ n. cells.Num n) as_num
    else (if code == 4 then made (text (is_tag_text kind)) (λ t. cells.Str t) as_str
    else unknown))))

-- a cell that suits a tag of a kind: NULL, or a truth value, a number in range or a text that isn't too long
unfoldable pub tag_cell : Kind → Field Cell
tag_cell kind = tagged (checked (number w8) (suits kind)) cell_code (tag_form kind)

-- the cell of a tag, where there is one
abbrev pub tag_cell_of : Option Column → Field Cell
tag_cell_of None = unknown
tag_cell_of (Some tag) = tag_cell tag.kind

unfoldable pub tag_cell_items : List Column → Items Cell
tag_cell_items tags =
    record {
      read = λ before. (tag_cell_of (slice_get tags (length before))).read;
      spelled = cell.spelled;
      fits = λ before. (tag_cell_of (slice_get tags (length before))).fits;
    }

-- one cell for each of these tags
unfoldable pub tag_cells : List Column → Field (List Cell)
tag_cells tags = listed w16 (λ n. n == length tags) (tag_cell_items tags)

-- ---- tables

-- the tags of the supertable of a number, from 1; none where there is none
abbrev pub tags_of : List HeadStable → ℕ → List Column
tags_of stables n = option_map_or (λ (s : HeadStable). s.schema.tags) (slice_get stables (n - 1)) []

abbrev pub as_plain : TableBody → Option (List Column × Option ℕ)
as_plain (bodies.Plain columns latest) = Some (columns, latest)
as_plain (bodies.Sub stable tags) = None

abbrev pub as_sub : ℕ → TableBody → Option (List Cell)
as_sub n (bodies.Plain columns latest) = None
as_sub n (bodies.Sub stable tags) = (if stable == n then Some tags else None)

abbrev pub body_stable : TableBody → ℕ
body_stable (bodies.Plain columns latest) = 0
body_stable (bodies.Sub stable tags) = stable

-- 0 stands before a plain table's columns, and the number of a supertable before a subtable's tags
unfoldable pub body_form : List HeadStable → ℕ → Field TableBody
body_form stables n =
    (if n == 0 then made (pair columns_field latest_field) (λ p. bodies.Plain p.0 p.1) as_plain
    else made (tag_cells (tags_of stables n)) (λ tags. bodies.Sub n tags) (as_sub n))

unfoldable pub table_body : List HeadStable → Field TableBody
table_body stables = tagged (checked (number w32) (λ n. nat_le n (length stables))) body_stable (body_form stables)

-- the bytes of a table behind its name, whichever supertables there are
unfoldable pub body_bytes : TableBody → List ℕ
body_bytes (bodies.Plain columns latest) =
    to_le_bytes w32 0 ++ (columns_field.spelled columns ++ latest_field.spelled latest)
body_bytes (bodies.Sub stable tags) = to_le_bytes w32 stable ++ (tag_cells []).spelled tags

abbrev pub table_name : HeadTable → List ℕ
table_name (tables.Plain name columns latest) = name
table_name (tables.Sub name stable tags) = name

abbrev pub table_names : List HeadTable → List (List ℕ)
table_names ts = map table_name ts

abbrev pub body_of : HeadTable → TableBody
body_of (tables.Plain name columns latest) = bodies.Plain columns latest
body_of (tables.Sub name stable tags) = bodies.Sub stable tags

abbrev pub table_with : List ℕ → TableBody → HeadTable
table_with name (bodies.Plain columns latest) = tables.Plain name columns latest
table_with name (bodies.Sub stable tags) = tables.Sub name stable tags

-- a table over these supertables, with a name that none of these has
unfoldable pub table_behind : List HeadStable → List (List ℕ) → Field HeadTable
table_behind stables taken =
    made (pair (new_name (λ name. is_among name taken)) (table_body stables)) (λ p. table_with p.0 p.1)
    (λ t. Some (table_name t, body_of t))

-- the bytes of a table
unfoldable pub table_bytes : HeadTable → List ℕ
table_bytes t = (new_name (λ _. false)).spelled (table_name t) ++ body_bytes (body_of t)

-- tables over these supertables; tables and supertables share one space of names
unfoldable pub table_items : List HeadStable → Items HeadTable
table_items stables = record {
  read = λ before. (table_behind stables (stable_names stables ++ table_names before)).read;
  spelled = table_bytes;
  fits = λ before. (table_behind stables (stable_names stables ++ table_names before)).fits;
}
