use Rattle.std.proofs.Common.{ℤ, arith, ap, ◌∙◌}
use Rattle.std.proofs.lemmas.Int.{ints, to_z-of_z}
use Rattle.std.specs.Prelude.{FitsSigned}
use Rattle.std.specs.Int.{w128}
use Rattle.td_cols.specs.declared.kinds.Kind.TheVariants.{Wide}
use Rattle.td_cols.specs.Kinds.{is_in_range}
use Rattle.td_datafile.proofs.EntryLaws.{in_wide}
use Rattle.td_datafile.proofs.writing.push_wide.Goals as goal

pub put_i128-requires : goal.put_i128-requires
put_i128-requires c =
    let n = c.args.number in
    let fits : FitsSigned w128 n = c.ranges.number in
    ap (λ (z : ℤ). is_in_range Wide z) (to_z-of_z w128 n fits) ∙ in_wide n (grind (arith, ints, fits)) (grind (arith, ints, fits))
