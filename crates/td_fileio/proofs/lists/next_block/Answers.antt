use Rattle.std.proofs.Common.{◌≤◌, length, sym, arith}
use Rattle.std.proofs.lemmas.List.{take_all, drop_all}
use Rattle.td_limits.specs.declared.limits.TheConstants.{BLOCK_ROWS}
use Rattle.td_fileio.proofs.lists.next_block.Goals as goal

pub returns-then-rows-most-clause-first : goal.returns-then-rows-most-clause-first
returns-then-rows-most-clause-first c =
    let le : length c.args.rows.now ≤ BLOCK_ROWS = omega arith in
    sym (take_all BLOCK_ROWS c.args.rows.now le)

pub returns-then-rows-most-clause-others : goal.returns-then-rows-most-clause-others
returns-then-rows-most-clause-others c =
    let le : length c.args.rows.now ≤ BLOCK_ROWS = omega arith in
    sym (drop_all BLOCK_ROWS c.args.rows.now le)
