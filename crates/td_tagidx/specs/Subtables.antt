-- A subtable as it is kept.
use Rattle.std.specs.Prelude.{ℕ, List}
use Rattle.td_layer.specs.declared.values.Cell.{Cell}
use Rattle.td_tagidx.specs.declared.index.Subtable.{Subtable}

abbrev pub subtable_of : Subtable → ℕ × List Cell
subtable_of s = (s.table, s.tags)
