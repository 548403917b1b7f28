use Rattle.std.proofs.Common.{ap, arith}
use Rattle.td_memtable.proofs.Rising.{table_cuts_are, join_begins, join_in, join_out, join_ends}
use Rattle.td_memtable.proofs.memtable.Memtable.cuts.Goals as goal

pub loop-from-init : goal.loop-from-init
loop-from-init c =
    let t = table_cuts_are c.args.table c.self.inside.cuts c.args.self.now.cuts c.range-rest.result c.self.invariant.ends (ap (λ m. m.cuts) c.self.view_is) c.range-rest.ensures.pairs c.range-rest.ensures.in_order in
    join_begins c.args.table c.args.self.now.cuts c.range-rest.result c.next.new.self c.new-joined.result c.in-Some.from c.in-Some.end.now t c.in-Some.ensures.steps c.new-joined.ensures

pub loop-from-preserved-then-saturating_sub-gt1 : goal.loop-from-preserved-then-saturating_sub-gt1
loop-from-preserved-then-saturating_sub-gt1 c =
    let past = c.if-saturating_sub-gt1.true in
    let gap = c.saturating_sub.ensures in
    join_out c.loop-from.joined _ c.add.new.self c.loop-from.lo c.loop-from.hi c.loop-from.rest c.next-in-loop-from.new.self c.in-Some-next.from c.in-Some-next.end.now c.loop-from.invariant c.in-Some-next.ensures.steps (omega (arith, past, gap)) c.in_ok-add.ensures.ok

pub loop-from-preserved : goal.loop-from-preserved
loop-from-preserved c =
    let near = c.if-saturating_sub-gt1.false in
    let gap = c.saturating_sub.ensures in
    join_in c.loop-from.joined _ c.loop-from.lo c.loop-from.hi c.max-hi.result c.loop-from.rest c.next-in-loop-from.new.self c.in-Some-next.from c.in-Some-next.end.now c.loop-from.invariant c.in-Some-next.ensures.steps (omega (arith, near, gap)) c.max-hi.ensures

pub returns : goal.returns
returns c =
    let t = table_cuts_are c.args.table c.self.inside.cuts c.args.self.now.cuts c.range-rest.result c.self.invariant.ends (ap (λ m. m.cuts) c.self.view_is) c.range-rest.ensures.pairs c.range-rest.ensures.in_order in
    join_ends c.args.table c.args.self.now.cuts c.range-rest.result c.loop-from.rest c.loop-from.joined c.add-2.new.self c.loop-from.lo c.loop-from.hi t c.loop-from.invariant c.in_default-next.ensures.steps.0 c.in_ok-add-2.ensures.ok
