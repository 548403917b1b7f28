use Rattle.std.proofs.Common.{◌^◌, ◌<◌, arith}
use Rattle.td_datafile.proofs.Rising.{entries_known}
use Rattle.td_datafile.proofs.Spelling.{index_within}
use Rattle.td_datafile.proofs.opening.index_of.Goals as goal

pub returns-then-is_empty-clause-within : goal.returns-then-is_empty-clause-within
returns-then-is_empty-clause-within c = index_within c.args.range c.args.place c.args.blocks c.args.bytes.now c.in_ok-entries.entries c.in_ok-entries.rest.now (λ i. (c.type_inv.bytes i).fits) c.in_ok-entries.ensures.read

pub returns-then-is_empty-clause-known : goal.returns-then-is_empty-clause-known
returns-then-is_empty-clause-known c =
    let small : c.args.blocks < 2 ^ 32 = omega (arith, c.ranges.blocks.fits) in
    entries_known c.args.range c.args.place c.args.blocks c.args.bytes.now c.in_ok-entries.rest.now c.in_ok-entries.entries (λ i. (c.type_inv.bytes i).fits) small c.in_ok-entries.ensures.read
