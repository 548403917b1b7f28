-- Bytes are the spelling of the number that they are read as, by the one spelling of the kind.
use Rattle.std.proofs.Common.{◌≡◌, ap, ◌∙◌, Bool}
use Rattle.std.proofs.lemmas.Int.{to_z-of_z}
use Rattle.std.specs.Prelude.{FitsSigned}
use Rattle.std.specs.Int.{w128, cast_signed, cast_unsigned}
use Rattle.td_cols.specs.Spelling.{spelling, number_spelled, number_in}
use Rattle.td_cols.proofs.OneSpelling.{kind_spelling}
use Rattle.td_cols.proofs.kinds.load.Goals as goal

pub returns-clause-stored : goal.returns-clause-stored
returns-clause-stored c =
    let fits : FitsSigned w128 c.read_number.result = record { sfits = c.read_number.type_inv } in
    let number : cast_signed w128 (cast_unsigned w128 c.read_number.result) ≡ number_spelled c.args.kind c.args.bytes.now =
    to_z-of_z w128 c.read_number.result fits ∙ c.read_number.ensures
    ∙ ap (λ (signed : Bool). number_in signed c.args.bytes.now) c.form_of.ensures.signed in
    ap (spelling c.args.kind) number
    ∙ (kind_spelling c.args.kind).respelled c.args.bytes.now (λ i. (c.type_inv.bytes i).fits) c.requires.room
