use Rattle.std.proofs.Common.{◌≡◌, ◌++◌, drop}
use Rattle.td_verdict.specs.Parts.{part_of}
use Rattle.td_fields.proofs.parts.part_of.Given as goal

abbrev pub invariant-loop-part : goal.invariant-loop-part
invariant-loop-part l = part_of l.schema l.parts l.name l.tags ≡ l.cells ++ part_of l.schema (drop l.part-index l.parts) l.name l.tags
