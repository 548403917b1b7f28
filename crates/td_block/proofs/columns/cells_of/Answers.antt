use Rattle.std.proofs.Common.{ℕ, ◌+◌, length, [], refl, sym, subst, ap, ◌∙◌}
use Rattle.std.proofs.lemmas.Result.{err_from_is_err_and}
use Rattle.std.proofs.lemmas.List.{length_push}
use Rattle.td_codec.specs.Fields.{Fails}
use Rattle.td_codec.specs.Lists.{items_read}
use Rattle.td_codec.proofs.Loop.{ends_at, is_done}
use Rattle.td_block.specs.Columns.{cell_items}
use Rattle.td_block.proofs.Loops.{goes_on_with, cell_reading}
use Rattle.td_block.proofs.columns.cells_of.Goals as goal

pub returns-in_err-cell : goal.returns-in_err-cell
returns-in_err-cell c =
    let p = err_from_is_err_and c.from_residual-in_err-cell.result c.from_residual-in_err-cell.ensures.1 in
    let here = cell_reading c.args.kind c.args.names.now c.args.values.now c.loop-row.cells c.loop-row.row c.is_set.result c.is_set-in-loop-row.result c.loop-row.rest.now c.loop-row.invariant.at c.is_set.ensures c.is_set-in-loop-row.ensures in
    rw (p.1, p.2) (ends_at (cell_items c.args.kind c.args.names.now c.args.values.now) c.in_err-cell.field-0.0 c.loop-row.cells c.loop-row.cells c.args.rows c.loop-row.row c.loop-row.rest.now (items_read (cell_items c.args.kind c.args.names.now c.args.values.now) [] c.args.rows c.args.bytes.now)
    refl c.loop-row-test.true (subst (Fails c.in_err-cell.field-0.0) here c.in_err-cell.ensures) c.loop-row.invariant.so_far)

pub loop-row-preserved : goal.loop-row-preserved
loop-row-preserved c =
    let here = cell_reading c.args.kind c.args.names.now c.args.values.now c.loop-row.cells c.loop-row.row c.is_set.result c.is_set-in-loop-row.result c.loop-row.rest.now c.loop-row.invariant.at c.is_set.ensures c.is_set-in-loop-row.ensures in
    record {
      at = ap length c.in_ok-add.ensures.ok ∙ length_push c.loop-row.cells c.in_ok-cell.cell ∙ ap (λ (n : ℕ). n + 1) c.loop-row.invariant.at;
      so_far = goes_on_with (cell_items c.args.kind c.args.names.now c.args.values.now) c.loop-row.cells c.loop-row.cells c.add.new.self c.args.rows c.loop-row.row c.loop-row.rest.now c.in_ok-cell.cell c.in_ok-cell.after.now
          (items_read (cell_items c.args.kind c.args.names.now c.args.values.now) [] c.args.rows c.args.bytes.now) refl c.in_ok-add.ensures.ok c.loop-row-test.true (sym here ∙ c.in_ok-cell.ensures) c.loop-row.invariant.so_far;
    }

pub returns : goal.returns
returns c = is_done (cell_items c.args.kind c.args.names.now c.args.values.now) c.loop-row.cells c.args.rows c.loop-row.row c.loop-row.rest.now (items_read (cell_items c.args.kind c.args.names.now c.args.values.now) [] c.args.rows c.args.bytes.now) c.loop-row-test.false c.loop-row.invariant.so_far
