use Rattle.std.proofs.Common.{◌⊎◌, inl, inr, ℕ, IsSome, sym, arith}
use Rattle.std.specs.BTreeMap.{get}
use Rattle.std.specs.Ordering.{nat_cmp}
use Rattle.td_query.specs.Frames.{IsEnd}
use Rattle.td_query.proofs.Panes.{next_end, passes_end, put_there, before_first, pane_sum}
use Rattle.td_query.proofs.summing.put_pane.Goals as goal

pub ends-init : goal.ends-init
ends-init c =
    (c.requires.first, omega arith, λ near. near, λ q is. sym (before_first c.args.sum.now c.args.windows.now c.args.pane.first q), λ q there. inr there)

pub ends-preserved : goal.ends-preserved
ends-preserved c =
    let f = c.args.frame in
    let low = c.ends.invariant.1 in
    let test = c.ends-test.true in (
      next_end f.phase f.slide c.ends.end c.ends.invariant.0,
      omega (arith, low),
      λ near. omega (arith, test),
      passes_end f.phase f.slide f.some c.args.sum.now c.args.windows.now c.ends.windows c.put_sum.new.windows c.args.pane.first c.ends.end c.ends.invariant.0 low c.ends.invariant.3 c.in_ok-put_sum.ensures,
      put_there f.phase f.slide c.args.sum.now c.args.windows.now c.ends.windows c.put_sum.new.windows c.ends.end c.ends.invariant.0 c.ends.invariant.4 c.in_ok-put_sum.ensures,
    )

pub returns : goal.returns
returns c = λ places run rows sums lie old.
    let f = c.args.frame in
    record {
      sums = λ q is. pane_sum f c.args.pane c.ends.end q c.requires.first c.requires.last c.ends.invariant.0 is c.ends-test.false c.ends.invariant.2 f.without_gaps places c.args.windows.now c.ends.windows c.args.sum.now run rows sums lie (old.sums q is) (c.ends.invariant.3 q is);
      ends = λ q there. go f.phase f.slide q old.ends (c.ends.invariant.4 q there);
    }
  where
    go : (phase slide q : ℕ) → ((q : ℕ) → IsSome (get nat_cmp c.args.windows.now q) → IsEnd phase slide q) → IsEnd phase slide q ⊎ IsSome (get nat_cmp c.args.windows.now q) → IsEnd phase slide q
    go phase slide q old (inl is) = is
    go phase slide q old (inr there) = old q there
