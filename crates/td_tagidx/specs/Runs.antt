-- Comparisons whose passing tags lie together in the order of tags.
use Rattle.std.specs.Prelude.{Option, Some, None}
use Rattle.td_model.specs.declared.language.Op.{Op}
use Rattle.td_model.specs.declared.language.Op.TheVariants as op
use Rattle.td_tagidx.specs.declared.order.Mark.{Mark}
use Rattle.td_tagidx.specs.declared.order.Mark.TheVariants as mark

-- the marks between which the tags lie that pass a comparison with a cell that compares
abbrev pub edges_of : Op → Option (Mark × Mark)
edges_of op.Lt = Some (mark.KindStart, mark.CellStart)
edges_of op.Le = Some (mark.KindStart, mark.CellEnd)
edges_of op.Gt = Some (mark.CellEnd, mark.KindEnd)
edges_of op.Ge = Some (mark.CellStart, mark.KindEnd)
edges_of op.Eq = Some (mark.CellStart, mark.CellEnd)
edges_of op.Ne = None
edges_of op.IsNull = None
edges_of op.NotNull = None
