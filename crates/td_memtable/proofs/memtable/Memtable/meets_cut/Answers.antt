use Rattle.std.proofs.Common.{ap, ◌∙◌}
use Rattle.td_memtable.specs.Tables.{meets_cut}
use Rattle.td_memtable.proofs.Walked.{all_from_first}
use Rattle.td_memtable.proofs.memtable.Memtable.meets_cut.Goals as goal

pub loop-key-init : goal.loop-key-init
loop-key-init c =
    ap (meets_cut c.args.lo c.args.hi)
    (c.into_iter-key-iterator.ensures.into_iter_gives ∙ c.walk-key-items.ensures.pairs ∙ all_from_first c.self.inside.cuts)
    ∙ ap (λ m. meets_cut c.args.lo c.args.hi m.cuts) c.self.view_is
