use Rattle.std.proofs.Common.{◌≡◌, ◌≤◌, ℕ, List, ◌∷◌, ◌++◌, length, take, map, ap, sym, subst, ◌∙◌, arith}
use Rattle.std.specs.List.{flat_map, AllByRecursion}
use Rattle.std.specs.Ordering.{nat_cmp}
use Rattle.std.proofs.lemmas.List.{length-take, length-drop}
use Rattle.td_limits.specs.declared.limits.TheConstants.{BLOCK_ROWS}
use Rattle.td_cols.specs.declared.kinds.Kind.{Kind}
use Rattle.td_layer.specs.Keys.{RisesBy}
use Rattle.td_block.specs.Rows.{Rows, CanHold, IsRowOf}
use Rattle.td_fileio.specs.Lists.{FileBlock, blocks_of_rows, table_blocks}
use Rattle.td_fileio.proofs.ListLaws.{blocks_begin, blocks_end, rises_take, rises_drop, all_take, all_drop}
use Rattle.td_datafile.specs.Index.{bytes_of_block, entry_of, entry_bytes}
use Rattle.td_fileio.proofs.Adding.{then, so_far_at, all_added}
use Rattle.td_datafile.proofs.IndexLaws.{block_goes_on, index_ends}
use Rattle.td_datafile.proofs.writing.put_table.Goals as goal

pub indexed_block-requires : goal.indexed_block-requires
indexed_block-requires g c =
    let left = c.loop-left.left.now in
    let kinds = c.args.table.now.kinds in
    let held : CanHold kinds c.args.table.now.table (take BLOCK_ROWS left) = record {
      table_is = c.requires.rows.table_is;
      columns = c.requires.rows.columns;
      fixed = c.requires.rows.fixed;
      some = omega (arith, length-take BLOCK_ROWS left, c.loop-left-test.true);
      few = omega (arith, length-take BLOCK_ROWS left);
      rising = rises_take BLOCK_ROWS left c.loop-left.invariant.rising;
      rows_are = all_take (IsRowOf kinds) BLOCK_ROWS left c.loop-left.invariant.rows_are;
    } in
    subst (λ (k : List Kind). CanHold k c.args.table.now.table c.next_block.result.0.now) (sym c.as_slice.ensures) (subst (λ (r : Rows). CanHold kinds c.args.table.now.table r) (sym c.next_block.ensures.first) held)

pub loop-left-smaller : goal.loop-left-smaller
loop-left-smaller g c =
    let e = ap length c.next_block.ensures.others in
    omega (arith, e, c.loop-left-test.true, length-drop BLOCK_ROWS c.loop-left.left.now)

pub loop-left-preserved : goal.loop-left-preserved
loop-left-preserved g c =
    let left = c.loop-left.left.now in
    let kinds = c.args.table.now.kinds in
    let table = c.args.table.now.table in
    let rest = c.next_block.result.1.now in
    let some : 1 ≤ length left = omega (arith, c.loop-left-test.true) in
    let block_of : Rows → FileBlock = λ rows. record { table = table; kinds = kinds; rows = rows } in
    let own : List Kind → Rows → FileBlock = λ k rows. record { table = table; kinds = k; rows = rows } in
    let first = block_of (take BLOCK_ROWS left) in
    let given = own c.as_slice.result.now c.next_block.result.0.now in
    let same : given ≡ first = ap (λ (k : List Kind). own k c.next_block.result.0.now) c.as_slice.ensures ∙ ap block_of c.next_block.ensures.first in
    let piece = c.as_slice-in-loop-left.result.now in
    let block = c.in_ok-block.ensures.block ∙ ap bytes_of_block same in
    let bytes : piece ≡ bytes_of_block first = c.as_slice-in-loop-left.ensures ∙ block in
    let others = ap (λ (r : Rows). blocks_of_rows table kinds r) (sym c.next_block.ensures.others) in
    let parts : blocks_of_rows table kinds left ≡ first ∷ blocks_of_rows table kinds rest = ap (λ (l : List Rows). map block_of l) (blocks_begin left some) ∙ ap (λ (l : List FileBlock). first ∷ l) others in
    let all = ap (flat_map bytes_of_block) parts ∙ ap (λ (l : List ℕ). l ++ flat_map bytes_of_block (blocks_of_rows table kinds rest)) (sym bytes) in
    let entry = c.in_ok-block.ensures.entry ∙ ap (λ (b : FileBlock). c.loop-left.index ++ entry_bytes (entry_of c.loop-left.next b)) same in
    let size = c.len.ensures ∙ ap length block in
    record {
      adds = then piece (flat_map bytes_of_block (blocks_of_rows table kinds rest)) (so_far_at all c.loop-left.invariant.adds) c.in_ok-put.ensures;
      index = block_goes_on c.args.index.now c.loop-left.index c.indexed_block.new.index c.args.place c.loop-left.next c.len.result (blocks_of_rows table kinds left) (blocks_of_rows table kinds rest) (table_blocks c.args.table.now) first c.loop-left.invariant.index parts entry size (omega (arith, c.len.ensures, c.in_ok-block.ensures.few));
      rising = subst (λ (r : Rows). RisesBy nat_cmp r) (sym c.next_block.ensures.others) (rises_drop BLOCK_ROWS left c.loop-left.invariant.rising);
      rows_are = subst (λ (r : Rows). AllByRecursion (IsRowOf kinds) r) (sym c.next_block.ensures.others) (all_drop (IsRowOf kinds) BLOCK_ROWS left c.loop-left.invariant.rows_are);
    }

pub returns-clause-adds : goal.returns-clause-adds
returns-clause-adds g c =
    let none : length c.loop-left.left.now ≡ 0 = omega (arith, c.loop-left-test.false) in
    let block_of : Rows → FileBlock = λ rows. record { table = c.args.table.now.table; kinds = c.args.table.now.kinds; rows = rows } in
    all_added c.loop-left.invariant.adds (ap (λ (l : List Rows). flat_map bytes_of_block (map block_of l)) (blocks_end c.loop-left.left.now none))

pub returns-clause-index : goal.returns-clause-index
returns-clause-index g c =
    let none : length c.loop-left.left.now ≡ 0 = omega (arith, c.loop-left-test.false) in
    let block_of : Rows → FileBlock = λ rows. record { table = c.args.table.now.table; kinds = c.args.table.now.kinds; rows = rows } in
    (index_ends _ _ _ _ _ _ c.loop-left.invariant.index (ap (λ (l : List Rows). map block_of l) (blocks_end c.loop-left.left.now none))).index_is

pub returns-clause-next : goal.returns-clause-next
returns-clause-next g c =
    let none : length c.loop-left.left.now ≡ 0 = omega (arith, c.loop-left-test.false) in
    let block_of : Rows → FileBlock = λ rows. record { table = c.args.table.now.table; kinds = c.args.table.now.kinds; rows = rows } in
    (index_ends _ _ _ _ _ _ c.loop-left.invariant.index (ap (λ (l : List Rows). map block_of l) (blocks_end c.loop-left.left.now none))).place_is

pub returns-clause-few : goal.returns-clause-few
returns-clause-few g c =
    let none : length c.loop-left.left.now ≡ 0 = omega (arith, c.loop-left-test.false) in
    let block_of : Rows → FileBlock = λ rows. record { table = c.args.table.now.table; kinds = c.args.table.now.kinds; rows = rows } in
    (index_ends _ _ _ _ _ _ c.loop-left.invariant.index (ap (λ (l : List Rows). map block_of l) (blocks_end c.loop-left.left.now none))).few
