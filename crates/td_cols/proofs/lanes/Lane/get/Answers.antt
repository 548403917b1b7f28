-- Bytes are the spelling of the number that they are read as, by the one spelling of the lane.
use Rattle.std.proofs.Common.{ap, ◌∙◌, not, nat_eq}
use Rattle.std.proofs.lemmas.Int.{to_z-of_z}
use Rattle.std.specs.Prelude.{FitsSigned}
use Rattle.std.specs.Int.{w128}
use Rattle.td_cols.specs.Spelling.{spelling_in}
use Rattle.td_cols.proofs.OneSpelling.{lane_spelling}
use Rattle.td_cols.proofs.lanes.Lane.get.Goals as goal

pub returns-clause-put : goal.returns-clause-put
returns-clause-put g c =
    let fits : FitsSigned w128 c.read_number.result = record { sfits = c.read_number.type_inv } in
    ap (spelling_in g.row.W) (to_z-of_z w128 c.read_number.result fits ∙ c.read_number.ensures)
    ∙ (lane_spelling g.row.W (not (nat_eq g.row.S 0)) c.requires.width).respelled c.args.bytes.now (λ i. (c.type_inv.bytes i).fits) c.requires.room
