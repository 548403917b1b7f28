-- The bytes that were written spell the number, by the one spelling of the kind.
use Rattle.std.proofs.Common.{◌≡◌, ap, ◌∙◌, ℕ}
use Rattle.std.proofs.lemmas.Int.{to_z-of_z}
use Rattle.std.specs.Int.{w128, cast_signed, cast_unsigned}
use Rattle.td_cols.specs.Spelling.{spelling, number_spelled, spelling_in}
use Rattle.td_cols.proofs.OneSpelling.{kind_spelling}
use Rattle.td_cols.proofs.kinds.store.Goals as goal

pub returns-clause-loaded : goal.returns-clause-loaded
returns-clause-loaded c =
    let written : c.write_number.new.out ≡ spelling c.args.kind c.args.v =
    c.write_number.ensures
    ∙ ap (λ (n : ℕ). spelling_in n (cast_signed w128 (cast_unsigned w128 c.args.v))) c.requires.room
    ∙ ap (spelling c.args.kind) (to_z-of_z w128 c.args.v c.ranges.v) in
    ap (number_spelled c.args.kind) written ∙ (kind_spelling c.args.kind).spelled c.args.v c.requires.in_range
