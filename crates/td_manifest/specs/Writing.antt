-- Which values can be written, whatever stands before them: their texts, counts and cells fit their fields.
use Rattle.std.specs.Prelude.{ℕ, ◌^◌, ◌&&◌, nat_lt, Bool, true, List, [], length}
use Rattle.std.specs.List.{list_all}
use Rattle.std.specs.Int.{w16, to_le_bytes}
use Rattle.td_cols.specs.declared.kinds.Kind.{Kind}
use Rattle.td_cols.specs.declared.kinds.Kind.TheVariants.{Text}
use Rattle.td_layer.specs.declared.values.Cell.{Cell}
use Rattle.td_model.specs.declared.catalog.Column.{Column}
use Rattle.td_codec.specs.Values.{cell, win_row_list}
use Rattle.td_manifest.specs.declared.head.HeadStable.{HeadStable}
use Rattle.td_manifest.specs.declared.head.HeadTable.{HeadTable}
use Rattle.td_manifest.specs.declared.head.HeadTable.TheVariants as tables
use Rattle.td_manifest.specs.declared.head.HeadSet.{HeadSet}
use Rattle.td_manifest.specs.declared.head.HeadStream.{HeadStream}

-- what stands behind the code of a kind
abbrev pub size_bytes : Kind → List ℕ
size_bytes (Text n) = to_le_bytes w16 n
size_bytes _ = []

abbrev pub can_put_column : Column → Bool
can_put_column c = nat_lt (length c.name) (2 ^ 16)

abbrev pub can_put_columns : List Column → Bool
can_put_columns cs = nat_lt (length cs) (2 ^ 16) && list_all can_put_column cs

abbrev pub can_put_cells : List Cell → Bool
can_put_cells cells = nat_lt (length cells) (2 ^ 16) && list_all cell.fits cells

unfoldable pub can_put_stable : HeadStable → Bool
can_put_stable s =
    nat_lt (length s.name) (2 ^ 16) && (can_put_columns s.schema.columns && can_put_columns s.schema.tags)

unfoldable pub can_put_table : HeadTable → Bool
can_put_table (tables.Plain name columns latest) = nat_lt (length name) (2 ^ 16) && can_put_columns columns
can_put_table (tables.Sub name stable tags) = nat_lt (length name) (2 ^ 16) && can_put_cells tags

unfoldable pub can_put_set : HeadSet → Bool
can_put_set s = nat_lt (length s.stt) (2 ^ 32)

unfoldable pub can_put_stream : HeadStream → Bool
can_put_stream s = nat_lt (length s.text) (2 ^ 32) && win_row_list.fits s.rows

abbrev pub always : {A : Type 0} → A → Bool
always _ = true
