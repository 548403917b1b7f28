use Rattle.std.proofs.Common.{ℤ, ap, ◌∙◌}
use Rattle.std.proofs.lemmas.Int.{to_z-of_z}
use Rattle.std.specs.Prelude.{FitsSigned}
use Rattle.std.specs.Int.{w128}
use Rattle.td_cols.specs.Kinds.{is_in_range}
use Rattle.td_block.proofs.ColumnLaws.{lane_in_range}
use Rattle.td_block.proofs.columns.push_lane.Goals as goal

pub store-requires-clause-in_range : goal.store-requires-clause-in_range
store-requires-clause-in_range c =
    let fits : FitsSigned w128 c.lane.result = record { sfits = c.lane.type_inv } in
    ap (λ (n : ℤ). is_in_range c.args.kind n) (to_z-of_z w128 c.lane.result fits ∙ c.lane.ensures) ∙ lane_in_range c.args.kind c.args.cell c.requires.fixed c.requires.cell
