use Rattle.std.proofs.Common.{◌≡◌, map, length, Some, []}
use Rattle.td_memtable.specs.Contents.{Contents}
use Rattle.td_fileset.specs.Layered.{memtable_layer}
use Rattle.td_fileset.specs.Opened.{all_files, all_failed, HasRoom, over_layers, beside_places}
use Rattle.td_fileset.proofs.spans.push_memtables.Given as goal

abbrev pub invariant-loop-oldest : goal.invariant-loop-oldest
invariant-loop-oldest g l = record {
  layers : over_layers (map (λ (m : Contents). Some (memtable_layer (record { table = l.table; kinds = []; lo = l.lo; hi = l.hi }) m)) l.left) l.merging.layers ≡ over_layers (map (λ (m : Contents). Some (memtable_layer (record { table = l.table; kinds = []; lo = l.lo; hi = l.hi }) m)) l.memtables) l.fn.merging.layers;
  places : beside_places (map (λ (m : Contents). Some []) l.left) l.merging.damaged ≡ beside_places (map (λ (m : Contents). Some []) l.memtables) l.fn.merging.damaged;
  waiting : l.merging.waiting ≡ l.fn.merging.waiting;
  room : HasRoom l.merging.reads l.set;
  files : all_files l.merging l.set ≡ all_files l.fn.merging l.fn.set;
  failed : all_failed l.merging l.set ≡ all_failed l.fn.merging l.fn.set;
  stays : l.set ≡ l.fn.set;
}

abbrev pub decreases-loop-oldest : goal.decreases-loop-oldest
decreases-loop-oldest g l = length l.left
