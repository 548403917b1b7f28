use Rattle.std.proofs.Common.{◌∙◌, sym, ap, ltb, ℕ}
use Rattle.td_block.proofs.ColumnLaws.{fixed_width}
use Rattle.td_block.proofs.columns.is_fixed.Goals as goal

pub returns-clause-some : goal.returns-clause-some
returns-clause-some c = λ fixed. fixed_width c.args.kind (sym (ap (λ (n : ℕ). ltb n 11) c.code.ensures) ∙ fixed)
