-- Which statements are writes, and which are built.
use Rattle.std.specs.Prelude.{Bool, true, false, not, ◌&&◌, ◌==◌, length}
use Rattle.std.specs.List.{list_any}
use Rattle.td_model.specs.declared.language.Item.{Item}
use Rattle.td_model.specs.declared.language.ItemKind.{ItemKind}
use Rattle.td_model.specs.declared.language.ItemKind.TheVariants as item
use Rattle.td_model.specs.declared.language.WindowDef.{WindowDef}
use Rattle.td_model.specs.declared.language.WindowDef.TheVariants as window
use Rattle.td_model.specs.declared.language.Query.{Query}
use Rattle.td_model.specs.declared.language.Stmt.{Stmt}
use Rattle.td_model.specs.declared.language.Stmt.TheVariants as stmt

-- CREATE, INSERT, DELETE, DROP and TRIM
abbrev pub is_write : Stmt → Bool
is_write (stmt.MakeStable name columns tags) = true
is_write (stmt.MakeTable name columns) = true
is_write (stmt.MakeSub name stable tags) = true
is_write (stmt.Insert table columns rows) = true
is_write (stmt.Delete table column lo hi) = true
is_write (stmt.MakeStream def) = true
is_write (stmt.DropStream name) = true
is_write stmt.Trim = true
is_write _ = false

abbrev pub is_aggregate : ItemKind → Bool
is_aggregate item.CountAll = true
is_aggregate (item.Fun func name) = true
is_aggregate _ = false

-- no window clause
abbrev pub is_whole : WindowDef → Bool
is_whole window.Whole = true
is_whole _ = false

-- a query without aggregate, window and PARTITION BY
abbrev pub is_row_query : Query → Bool
is_row_query q =
    not (list_any (λ (i : Item). is_aggregate i.what) q.items) && is_whole q.window && (length q.parts == 0)

-- the statements that are built; the others are refused as not built
abbrev pub is_built : Stmt → Bool
is_built (stmt.MakeStream def) = false
is_built (stmt.OpenCursor cursor query) = false
is_built (stmt.Fetch cursor rows) = false
is_built (stmt.CloseCursor cursor) = false
is_built stmt.Commit = false
is_built stmt.Merge = false
is_built stmt.Sweep = false
is_built (stmt.Step stream) = false
is_built _ = true
