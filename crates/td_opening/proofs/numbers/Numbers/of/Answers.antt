use Rattle.std.proofs.Common.{arith}
use Rattle.std.specs.Prelude.{slice_index_or}
use Rattle.td_opening.proofs.Numbered.{numbers_more, index_is}
use Rattle.td_opening.proofs.numbers.Numbers.of.Goals as goal

pub loop-number-preserved : goal.loop-number-preserved
loop-number-preserved c =
    let i = c.loop-number.number-index in
    let numbers = c.args.numbers.now in
    let lt = c.loop-number-test.true in
    numbers_more numbers c.loop-number.set.keys c.insert.new.self.keys i (slice_index_or numbers i 0)
    (omega (arith, lt)) (index_is numbers i (omega (arith, lt))) c.loop-number.invariant c.in_ok-insert.ensures.keys
