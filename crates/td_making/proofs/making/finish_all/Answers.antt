use Rattle.std.proofs.Common.{◌≡◌, ◌+◌, length, ap, ◌∙◌, arith, length-append}
use Rattle.td_making.specs.Making.{AddsSome}
use Rattle.td_making.proofs.Stores.{finish_more, later_then, popped, some_then, told_last, told_rest}
use Rattle.td_making.proofs.making.finish_all.Goals as goal

pub finish_one-requires-clause-told : goal.finish_one-requires-clause-told
finish_one-requires-clause-told g c κs within = told_last g.S.Writer.Writer.written c.loop-file.files c.pop.new.self c.in-Some.file (g.S.Store.told c.loop-file.store) c.in-Some.ensures c.loop-file.invariant.told

pub loop-file-preserved : goal.loop-file-preserved
loop-file-preserved g c =
    let a = g.S.Store.told c.args.store.now in
    let b = g.S.Store.told c.loop-file.store in
    let d = g.S.Store.told c.finish_one.new.store in
    let pop = popped c.args.files c.loop-file.files c.pop.new.self c.in-Some.file c.in-Some.ensures c.loop-file.invariant.front in
    let one = c.in_default-finish_one.ensures.ok in
    let last = told_last g.S.Writer.Writer.written c.loop-file.files c.pop.new.self c.in-Some.file b c.in-Some.ensures c.loop-file.invariant.told in
    let left : length c.loop-file.files ≡ length c.pop.new.self + 1 = ap length c.in-Some.ensures ∙ length-append c.pop.new.self _ in
    let more : length c.finish_one.new.numbers.items ≡ length c.loop-file.numbers.items + 1 = ap length one.pushed ∙ length-append c.loop-file.numbers.items _ in
    record {
      some = some_then a b d c.loop-file.invariant.some c.finish_one.ensures.some;
      adds = finish_more g.S.Writer.Writer.written c.args.files c.loop-file.files c.pop.new.self c.in-Some.file c.loop-file.numbers.items c.finish_one.new.numbers.items a b d pop last c.loop-file.invariant.adds one;
      front = pop.front;
      told = told_rest g.S.Writer.Writer.written c.loop-file.files c.pop.new.self c.in-Some.file AddsSome b d c.in-Some.ensures c.finish_one.ensures.some c.loop-file.invariant.told;
      number = omega (arith, left, more, c.loop-file.invariant.number);
      count = later_then (g.S.Store.count c.args.store.now) (g.S.Store.count c.loop-file.store) (g.S.Store.count c.finish_one.new.store) c.loop-file.invariant.count c.finish_one.ensures.count;
    }
