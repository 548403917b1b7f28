use Rattle.td_codec.specs.Lists.{each}
use Rattle.td_codec.specs.Values.{cell, cell_list}
use Rattle.td_codec.proofs.WritingLaws.{list_few, list_passes}
use Rattle.td_codec.proofs.writing.put_cells.Goals as goal

pub put_list-requires : goal.put_list-requires
unfolding cell_list
put_list-requires c = record {
  few = list_few (each cell) c.args.cells.now c.requires;
  writable = list_passes (each cell) cell.fits (λ before x fits. fits) c.args.cells.now c.requires;
}
