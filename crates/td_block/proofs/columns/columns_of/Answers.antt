use Rattle.std.proofs.Common.{◌+◌, drop}
use Rattle.std.proofs.lemmas.Result.{err_from_is_err_and}
use Rattle.std.proofs.lemmas.List.{drop_more, drop_all}
use Rattle.td_block.specs.Blocks.{columns}
use Rattle.td_block.proofs.Loops.{columns_go_on, columns_fail, columns_end}
use Rattle.td_block.proofs.columns.columns_of.Goals as goal

pub returns-in_err-column : goal.returns-in_err-column
returns-in_err-column c =
    let p = err_from_is_err_and c.from_residual-in_err-column.result c.from_residual-in_err-column.ensures.1 in
    rw (p.1, p.2) (columns_fail c.args.rows _ (drop c.loop-kind.kind-index c.args.kinds.now) (drop (c.loop-kind.kind-index + 1) c.args.kinds.now) c.loop-kind.columns c.loop-kind.rest.now c.in_err-column.field-0.0 ((columns c.args.rows c.args.kinds.now).read c.args.bytes.now)
    (drop_more c.args.kinds.now c.loop-kind.kind-index _ c.loop-kind-test.true) c.in_err-column.ensures c.loop-kind.invariant)

pub loop-kind-preserved : goal.loop-kind-preserved
loop-kind-preserved c =
    columns_go_on c.args.rows _ (drop c.loop-kind.kind-index c.args.kinds.now) (drop (c.loop-kind.kind-index + 1) c.args.kinds.now) c.loop-kind.columns c.add.new.self c.loop-kind.rest.now c.in_ok-column.column c.in_ok-column.after.now ((columns c.args.rows c.args.kinds.now).read c.args.bytes.now)
    (drop_more c.args.kinds.now c.loop-kind.kind-index _ c.loop-kind-test.true) c.in_ok-add.ensures.ok c.in_ok-column.ensures c.loop-kind.invariant

pub returns : goal.returns
returns c = columns_end c.args.rows (drop c.loop-kind.kind-index c.args.kinds.now) c.loop-kind.columns c.loop-kind.rest.now ((columns c.args.rows c.args.kinds.now).read c.args.bytes.now) (drop_all c.loop-kind.kind-index c.args.kinds.now c.loop-kind-test.false) c.loop-kind.invariant
