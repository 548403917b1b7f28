use Rattle.std.proofs.Common.{◌+◌, refl, arith}
use Rattle.td_commit.proofs.Listed.{table_has_kinds, one_more, all_so_far, last_so_far}
use Rattle.td_commit.proofs.tables.tables_in.Goals as goal

pub table_in-requires-clause-few : goal.table_in-requires-clause-few
table_in-requires-clause-few c = table_has_kinds c.args.frozen.now c.loop-table.from c.in-Some.table c.requires c.in-Some.ensures

pub returns-then-table : goal.returns-then-table
returns-then-table c =
    let last = c.if-table.true in
    last_so_far c.args.frozen.now c.args.range (c.in-Some.table + 1) c.add_some.new.list (omega (arith, last))
    (one_more c.args.frozen.now c.args.range c.loop-table.from c.in-Some.table (c.in-Some.table + 1) c.loop-table.tables c.add_some.new.list c.in_ok-found.found c.in-Some.ensures refl c.in_ok-add_some.ensures c.in_ok-found.ensures c.loop-table.invariant.so_far)

pub loop-table-preserved : goal.loop-table-preserved
loop-table-preserved c = record {
  some = omega arith;
  so_far = one_more c.args.frozen.now c.args.range c.loop-table.from c.in-Some.table (c.in-Some.table + 1) c.loop-table.tables c.add_some.new.list c.in_ok-found.found c.in-Some.ensures refl c.in_ok-add_some.ensures c.in_ok-found.ensures c.loop-table.invariant.so_far;
}

pub returns : goal.returns
returns c = all_so_far c.args.frozen.now c.args.range c.loop-table.from c.loop-table.tables c.in_default.ensures c.loop-table.invariant.so_far
