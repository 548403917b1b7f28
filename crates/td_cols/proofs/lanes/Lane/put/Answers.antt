-- The bytes that were written spell the number, by the one spelling of the lane.
use Rattle.std.proofs.Common.{◌≡◌, ap, ◌∙◌, ℕ, not, nat_eq}
use Rattle.std.proofs.lemmas.Int.{to_z-of_z}
use Rattle.std.specs.Int.{w128, cast_signed, cast_unsigned}
use Rattle.td_cols.specs.Spelling.{spelling_in, number_in}
use Rattle.td_cols.proofs.OneSpelling.{lane_spelling}
use Rattle.td_cols.proofs.lanes.Lane.put.Goals as goal

pub returns-clause-got : goal.returns-clause-got
returns-clause-got g c =
    let written : c.write_number.new.out ≡ spelling_in g.row.W c.args.v =
    c.write_number.ensures
    ∙ ap (λ (n : ℕ). spelling_in n (cast_signed w128 (cast_unsigned w128 c.args.v))) c.requires.room
    ∙ ap (spelling_in g.row.W) (to_z-of_z w128 c.args.v c.ranges.v) in
    ap (number_in (not (nat_eq g.row.S 0))) written
    ∙ (lane_spelling g.row.W (not (nat_eq g.row.S 0)) c.requires.width).spelled c.args.v c.requires.fits
