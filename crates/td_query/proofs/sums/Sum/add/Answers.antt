use Rattle.std.proofs.Common.{◌+◌, List, sym, subst, arith}
use Rattle.td_aggr.specs.declared.tally.Tally.{Tally}
use Rattle.td_query.specs.Planned.{keyed}
use Rattle.td_query.specs.Sums.{AreCounted}
use Rattle.td_query.proofs.SumRows.{counted_row_more}
use Rattle.td_query.proofs.sums.Sum.add.Goals as goal

pub invariant_of-self : goal.invariant_of-self
invariant_of-self c =
    record {
      few = omega arith;
      counted = subst (λ (ts : List Tally). AreCounted (c.self.inside.rows + 1) ts) (sym c.add_values.ensures)
          (counted_row_more c.self.inside.rows (keyed c.args.table (c.args.ts, c.args.row.now)) c.args.places.now c.self.inside.tallies c.requires.good c.self.invariant.counted);
    }
