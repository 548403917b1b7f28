use Rattle.std.proofs.Common.{List, ap, ◌∙◌, subst}
use Rattle.std.specs.List.{flat_map, AllByRecursion}
use Rattle.std.proofs.lemmas.List.Concat.{flat_map-append}
use Rattle.td_fileio.specs.declared.lists.TableRows.{TableRows}
use Rattle.td_fileio.specs.Lists.{table_blocks, all_blocks, AreTableRows}
use Rattle.td_datafile.specs.Index.{bytes_of_block}
use Rattle.td_fileio.proofs.Adding.{then, so_far_at}
use Rattle.td_datafile.proofs.IndexLaws.{index_goes_on}
use Rattle.td_datafile.proofs.writing.put_tables.Goals as goal

pub loop-table-preserved : goal.loop-table-preserved
loop-table-preserved g c =
    let t = c.in-Some.table.now in
    let rest = c.in-Some.rest.now in
    let left = c.loop-table.left.now in
    let parts = ap all_blocks c.in-Some.ensures.cases.0 in
    let bytes = ap (flat_map bytes_of_block) parts ∙ flat_map-append bytes_of_block (table_blocks t) (all_blocks rest) in
    let each = subst (λ (l : List TableRows). AllByRecursion (AreTableRows c.args.range) l) c.in-Some.ensures.cases.0 c.loop-table.invariant.each in
    record {
      adds = then (flat_map bytes_of_block (table_blocks t)) (flat_map bytes_of_block (all_blocks rest)) (so_far_at bytes c.loop-table.invariant.adds) c.in_ok-next.ensures.adds;
      index = index_goes_on c.args.index.now c.loop-table.index c.put_table.new.index c.args.place c.loop-table.next c.in_ok-next.next (all_blocks left) (table_blocks t) (all_blocks rest) (all_blocks c.args.tables.now) c.loop-table.invariant.index parts c.in_ok-next.ensures.index c.in_ok-next.ensures.next c.in_ok-next.ensures.few;
      each = each.1;
    }
