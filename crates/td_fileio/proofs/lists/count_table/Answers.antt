use Rattle.std.proofs.Common.{◌≤◌, length, ap, arith}
use Rattle.std.proofs.lemmas.List.{length-drop}
use Rattle.td_limits.specs.declared.limits.TheConstants.{BLOCK_ROWS}
use Rattle.td_fileio.specs.Lists.{in_blocks}
use Rattle.td_fileio.proofs.ListLaws.{blocks_begin}
use Rattle.td_fileio.proofs.lists.count_table.Goals as goal

pub overflow_add-count : goal.overflow_add-count
overflow_add-count c =
    let some : 1 ≤ length c.loop-left.left.now = omega arith in
    let b = ap length (blocks_begin c.loop-left.left.now some) in
    omega (arith, b, c.loop-left.invariant, c.requires)

pub loop-left-smaller : goal.loop-left-smaller
loop-left-smaller c =
    let some : 1 ≤ length c.loop-left.left.now = omega arith in
    let e = ap length c.next_block.ensures.others in
    omega (arith, e, some, length-drop BLOCK_ROWS c.loop-left.left.now)

pub loop-left-preserved : goal.loop-left-preserved
loop-left-preserved c =
    let some : 1 ≤ length c.loop-left.left.now = omega arith in
    let b = ap length (blocks_begin c.loop-left.left.now some) in
    let e = ap (λ l. length (in_blocks l)) c.next_block.ensures.others in
    omega (arith, b, e, c.loop-left.invariant)
