use Rattle.td_memtable.proofs.Firsts.{none_first, some_first}
use Rattle.td_memtable.proofs.tables.first_from.Goals as goal

pub returns-in-None : goal.returns-in-None
returns-in-None g c = none_first c.args.from c.args.pairs.now c.walk-rest.result c.walk-rest.ensures.pairs c.in-None.ensures.steps.0

pub returns-in-Some : goal.returns-in-Some
returns-in-Some g c =
    some_first c.args.from c.args.pairs.now c.walk-rest.result c.next.new.self (c.in-Some.key, c.in-Some.field-0-1.now) c.walk-rest.ensures.pairs c.in-Some.ensures.steps c.walk-rest.ensures.in_order
