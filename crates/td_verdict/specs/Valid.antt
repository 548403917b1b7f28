-- What is true of each catalog that writes make: the names of tables, supertables and targets are apart, each schema is
-- well formed, and a subtable has a cell for each tag of its supertable.
use Rattle.std.specs.Prelude.{◌≡◌, ◌≤◌, ◌+◌, ℕ, Bool, true, false, not, ◌&&◌, nat_le, List, [], ◌++◌, map, length, All, Option, Some, None}
use Rattle.std.specs.List.{AllZip, list_all}
use Rattle.std.specs.Option.{option_map_or}
use Rattle.td_cols.specs.declared.kinds.Kind.{Kind}
use Rattle.td_cols.specs.Kinds.{is_in_range}
use Rattle.td_layer.specs.declared.values.Cell.{Cell}
use Rattle.td_layer.specs.declared.values.Cell.TheVariants as cell
use Rattle.td_limits.specs.declared.limits.TheConstants.{COLUMNS, LAST_STREAM_NUMBER, STREAMS, TABLES, TAGS}
use Rattle.td_model.specs.declared.catalog.Column.{Column}
use Rattle.td_model.specs.declared.catalog.StableDef.{StableDef}
use Rattle.td_model.specs.declared.catalog.StreamEntry.{StreamEntry}
use Rattle.td_model.specs.declared.catalog.TableDef.{TableDef}
use Rattle.td_model.specs.Catalog.{Catalog, stable_at, schema_or_none}
use Rattle.td_verdict.specs.Names.{lacks_time, stands_twice}
use Rattle.td_verdict.specs.Values.{is_truth, is_text, width_of, is_column_kind, is_tag_kind}
use Rattle.td_verdict.specs.Writes.{have_one_name}

-- a cell is NULL, or a truth value, a number or a text that is in the range of a kind
abbrev pub suits_kind : Kind → Cell → Bool
suits_kind k cell.Null = true
suits_kind k (cell.Truth b) = is_truth k
suits_kind k (cell.Num n) = not (is_truth k) && not (is_text k) && is_in_range k n
suits_kind k (cell.Frac sum count) = false
suits_kind k (cell.Str text) = option_map_or (λ width. nat_le (length text) width) (width_of k) false

-- one cell a tag, each in its kind
abbrev pub AreTags : List Column → List Cell → Type 0
AreTags tags cells = AllZip (λ (t : Column) (a : Cell). suits_kind t.kind a ≡ true) tags cells

-- The columns and the tags of a table: the first column is a TIMESTAMP, no name stands twice, each column and each tag
-- is of a kind that it can have, and there are not too many.
pub record IsSchema (columns tags : List Column) : Type 0 where
  pub time : lacks_time columns ≡ false
  pub apart : have_one_name columns tags ≡ false
  pub column_kinds : list_all (λ (c : Column). is_column_kind c.kind) columns ≡ true
  pub tag_kinds : list_all (λ (c : Column). is_tag_kind c.kind) tags ≡ true
  pub few_columns : length columns ≤ COLUMNS
  pub few_tags : length tags ≤ TAGS

-- a plain table has columns of its own and no tags; a subtable has those of a supertable that is there
abbrev pub IsTableBy : Catalog → TableDef → Option ℕ → Type 0
IsTableBy c t None = IsSchema t.columns [] × (t.tags ≡ [])
IsTableBy c t (Some stable) =
    (1 ≤ stable) × (stable ≤ length c.stables) × AreTags (schema_or_none (stable_at stable c)).tags t.tags

abbrev pub IsTable : Catalog → TableDef → Type 0
IsTable c t = IsTableBy c t t.parent

-- the names of tables, of supertables and of the targets of streams
abbrev pub all_names : Catalog → List (List ℕ)
all_names c =
    map (λ (t : TableDef). t.name) c.tables ++
    (map (λ (s : StableDef). s.name) c.stables ++ map (λ (e : StreamEntry). e.def.target) c.streams)

pub record IsValid (c : Catalog) : Type 0 where
  pub names : stands_twice (all_names c) ≡ false
  pub stables : All (λ (s : StableDef). IsSchema s.schema.columns s.schema.tags) c.stables
  pub tables : All (IsTable c) c.tables
  pub count : length c.tables + length c.stables ≤ TABLES
  pub streams : length c.streams ≤ STREAMS
  pub next : c.next_stream ≤ LAST_STREAM_NUMBER + 1
