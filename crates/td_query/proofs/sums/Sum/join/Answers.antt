use Rattle.std.proofs.Common.{◌+◌, List, sym, ap, ◌∙◌, subst, arith}
use Rattle.td_aggr.specs.Tallies.{merged}
use Rattle.td_aggr.specs.declared.tally.Tally.{Tally}
use Rattle.td_query.specs.Sums.{by_each, AreCounted}
use Rattle.td_query.proofs.SumRows.{counted_joined, counted_more}
use Rattle.td_query.proofs.sums.Sum.join.Goals as goal

pub invariant_of-self : goal.invariant_of-self
invariant_of-self c =
    let m = c.front.inside.rows in
    let n = c.self.inside.rows in
    record {
      few = omega arith;
      counted = subst (λ (ts : List Tally). AreCounted (n + m) ts)
          (ap (λ fs. by_each merged fs c.self.inside.tallies) (sym c.as_slice.ensures) ∙ sym c.join_tallies.ensures)
          (counted_more (m + n) (n + m) (omega arith) (by_each merged c.front.inside.tallies c.self.inside.tallies) (counted_joined m n c.front.inside.tallies c.self.inside.tallies c.front.invariant.counted c.self.invariant.counted));
    }
