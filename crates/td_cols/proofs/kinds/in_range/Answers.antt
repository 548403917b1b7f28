-- A kind with a number in range is no text.
use Rattle.std.proofs.Common.{rules, ◌≡◌, ◌∙◌, sym, to_z, of_z}
use Rattle.std.specs.Int.{w128}
use Rattle.std.specs.Prelude.{int_le}
use Rattle.td_cols.specs.Kinds.{is_in_range}
use Rattle.td_cols.proofs.KindWidths.{kind_width_some}
use Rattle.td_cols.proofs.kinds.in_range.Goals as goal

pub returns-then-form-v-clause-fixed : goal.returns-then-form-v-clause-fixed
unfolding is_in_range
returns-then-form-v-clause-fixed c = λ within.
    let same : int_le (to_z w128 (of_z w128 c.args.v)) (to_z w128 (of_z w128 c.form_of-form.result.most)) ≡ is_in_range c.args.kind c.args.v = search rules in
    kind_width_some c.args.kind c.args.v (sym same ∙ within)
