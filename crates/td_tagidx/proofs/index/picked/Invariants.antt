use Rattle.std.proofs.Common.{◌≡◌, map, take}
use Rattle.td_model.specs.Tags.{matching}
use Rattle.td_tagidx.specs.Subtables.{subtable_of}
use Rattle.td_tagidx.proofs.index.picked.Given as goal

abbrev pub invariant-loop-subtable : goal.invariant-loop-subtable
invariant-loop-subtable l = l.numbers.items ≡ matching l.tag l.op l.lit (map subtable_of (take l.subtable-index l.subtables))
