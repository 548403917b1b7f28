use Rattle.std.proofs.Common.{◌≡◌, ◌≤◌, ℕ, List, ◌++◌, length, take, drop, map, ap, sym, subst, ◌∙◌, arith}
use Rattle.std.specs.List.{flat_map, AllByRecursion}
use Rattle.std.specs.Ordering.{nat_cmp}
use Rattle.std.proofs.lemmas.List.{length-take, length-drop}
use Rattle.td_limits.specs.declared.limits.TheConstants.{BLOCK_ROWS}
use Rattle.td_cols.specs.declared.kinds.Kind.{Kind}
use Rattle.td_layer.specs.Keys.{RisesBy}
use Rattle.td_block.specs.Rows.{Rows, CanHold, IsRowOf}
use Rattle.td_block.specs.Blocks.{block_bytes}
use Rattle.td_fileio.specs.Lists.{FileBlock, blocks_of_rows}
use Rattle.td_fileio.proofs.ListLaws.{blocks_begin, blocks_end, rises_take, rises_drop, all_take, all_drop}
use Rattle.td_sttfile.specs.Written.{bytes_of_block}
use Rattle.td_fileio.proofs.Adding.{then, so_far_at, all_added}
use Rattle.td_sttfile.proofs.writing.put_table.Goals as goal

pub encode-requires : goal.encode-requires
encode-requires g c =
    let left = c.loop-left.left.now in
    let kinds = c.args.table.now.kinds in
    let held : CanHold kinds c.args.table.now.table (take BLOCK_ROWS left) = record {
      table_is = c.requires.table_is;
      columns = c.requires.columns;
      fixed = c.requires.fixed;
      some = omega (arith, length-take BLOCK_ROWS left, c.loop-left-test.true);
      few = omega (arith, length-take BLOCK_ROWS left);
      rising = rises_take BLOCK_ROWS left c.loop-left.invariant.rising;
      rows_are = all_take (IsRowOf kinds) BLOCK_ROWS left c.loop-left.invariant.rows_are;
    } in
    subst (λ (k : List Kind). CanHold k c.args.table.now.table c.next_block.result.0.now) (sym c.as_slice.ensures) (subst (λ (r : Rows). CanHold kinds c.args.table.now.table r) (sym c.next_block.ensures.first) held)

pub loop-left-smaller : goal.loop-left-smaller
loop-left-smaller g c =
    let e = ap length c.next_block.ensures.others in
    omega (arith, e, c.loop-left-test.true, length-drop BLOCK_ROWS c.loop-left.left.now)

pub loop-left-preserved : goal.loop-left-preserved
loop-left-preserved g c =
    let left = c.loop-left.left.now in
    let kinds = c.args.table.now.kinds in
    let table = c.args.table.now.table in
    let some : 1 ≤ length left = omega (arith, c.loop-left-test.true) in
    let block_of : Rows → FileBlock = λ rows. record { table = table; kinds = kinds; rows = rows } in
    let piece = c.as_slice-in-loop-left.result.now in
    let bytes : piece ≡ block_bytes kinds table (take BLOCK_ROWS left) =
    c.as_slice-in-loop-left.ensures ∙ c.in_ok-block.ensures ∙ ap (λ (k : List Kind). block_bytes k table c.next_block.result.0.now) c.as_slice.ensures ∙ ap (λ (r : Rows). block_bytes kinds table r) c.next_block.ensures.first in
    let first = ap (λ (l : List Rows). flat_map bytes_of_block (map block_of l)) (blocks_begin left some) in
    let own = ap (λ (l : List ℕ). l ++ flat_map bytes_of_block (blocks_of_rows table kinds (drop BLOCK_ROWS left))) (sym bytes) in
    let others = ap (λ (r : Rows). piece ++ flat_map bytes_of_block (blocks_of_rows table kinds r)) (sym c.next_block.ensures.others) in
    record {
      adds = then piece (flat_map bytes_of_block (blocks_of_rows table kinds c.next_block.result.1.now)) (so_far_at (first ∙ own ∙ others) c.loop-left.invariant.adds) c.in_ok-put.ensures;
      rising = subst (λ (r : Rows). RisesBy nat_cmp r) (sym c.next_block.ensures.others) (rises_drop BLOCK_ROWS left c.loop-left.invariant.rising);
      rows_are = subst (λ (r : Rows). AllByRecursion (IsRowOf kinds) r) (sym c.next_block.ensures.others) (all_drop (IsRowOf kinds) BLOCK_ROWS left c.loop-left.invariant.rows_are);
    }

pub returns : goal.returns
returns g c =
    let none : length c.loop-left.left.now ≡ 0 = omega (arith, c.loop-left-test.false) in
    let block_of : Rows → FileBlock = λ rows. record { table = c.args.table.now.table; kinds = c.args.table.now.kinds; rows = rows } in
    all_added c.loop-left.invariant.adds (ap (λ (l : List Rows). flat_map bytes_of_block (map block_of l)) (blocks_end c.loop-left.left.now none))
