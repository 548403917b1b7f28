use Rattle.std.proofs.Common.{Ok, Err}
use Rattle.td_block.proofs.ReadLaws.{found_exact, found_begins, found_holds, found_values, fault_answers, answers_only}
use Rattle.td_block.proofs.reading.decode.Goals as goal

pub returns-in-Ok-clause-exact : goal.returns-in-Ok-clause-exact
returns-in-Ok-clause-exact c = found_exact c.args.kinds.now c.args.bytes.now c.in-Ok.found c.in-Ok.ensures

pub returns-in-Ok-clause-begins : goal.returns-in-Ok-clause-begins
returns-in-Ok-clause-begins c = found_begins c.args.kinds.now c.args.bytes.now c.in-Ok.found (λ i. (c.type_inv.bytes i).fits) c.in-Ok.ensures

pub returns-in-Ok-clause-holds : goal.returns-in-Ok-clause-holds
returns-in-Ok-clause-holds c = found_holds c.args.kinds.now c.args.bytes.now c.in-Ok.found (λ i. (c.type_inv.bytes i).fits) c.in-Ok.ensures

pub returns-in-Ok-clause-values : goal.returns-in-Ok-clause-values
returns-in-Ok-clause-values c = found_values c.args.kinds.now c.args.bytes.now c.in-Ok.found (λ i. (c.type_inv.bytes i).fits) c.in-Ok.ensures

pub returns-in-Ok-clause-only : goal.returns-in-Ok-clause-only
returns-in-Ok-clause-only c = λ found can has begins. answers_only c.args.kinds.now c.args.bytes.now (Ok c.in-Ok.found) found (found_exact c.args.kinds.now c.args.bytes.now c.in-Ok.found c.in-Ok.ensures) can has begins

pub returns-in-Err-clause-exact : goal.returns-in-Err-clause-exact
returns-in-Err-clause-exact c = fault_answers c.args.kinds.now c.args.bytes.now c.in-Err.fault c.placed.result c.in-Err.ensures c.placed.ensures

pub returns-in-Err-clause-only : goal.returns-in-Err-clause-only
returns-in-Err-clause-only c = λ found can has begins. answers_only c.args.kinds.now c.args.bytes.now (Err c.placed.result) found (fault_answers c.args.kinds.now c.args.bytes.now c.in-Err.fault c.placed.result c.in-Err.ensures c.placed.ensures) can has begins
