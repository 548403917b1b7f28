use Rattle.std.proofs.Common.{sym, subst}
use Rattle.std.specs.List.{AllByRecursion}
use Rattle.td_layer.specs.Columns.{AreColumnValues}
use Rattle.td_layer.specs.declared.values.Key.{Key}
use Rattle.td_layer.specs.declared.values.Row.{Row}
use Rattle.td_model.specs.State.{Rows}
use Rattle.td_verdict.proofs.ColumnValues.{rows_values}
use Rattle.td_tables.proofs.tables.Tables.share_rows.Goals as goal

pub of-requires : goal.of-requires
of-requires c =
    subst (λ (rows : Rows). AllByRecursion (λ (e : Key × Row). AreColumnValues e.1.values) rows) (sym c.rows.ensures)
    (rows_values c.self.inside.catalog.catalog c.self.invariant.sound.catalog c.self.inside.contents.kept.rows c.self.invariant.sound.rows)
