use Rattle.std.proofs.Common.{◌≡◌, map, length}
use Rattle.td_fileset.specs.Opened.{all_files, all_failed, HasRoom, span_of, told_file, told_damage, over_layers, beside_places}
use Rattle.td_fileset.proofs.spans.push_stt.Given as goal

abbrev pub invariant-loop-reader : goal.invariant-loop-reader
invariant-loop-reader g l = record {
  layers : over_layers (map (told_file (span_of l.span)) l.set.files.stt) l.merging.layers ≡ over_layers (map (told_file (span_of l.span)) l.fn.set.files.stt) l.fn.merging.layers;
  places : beside_places (map (told_damage (span_of l.span)) l.set.files.stt) l.merging.damaged ≡ beside_places (map (told_damage (span_of l.span)) l.fn.set.files.stt) l.fn.merging.damaged;
  waiting : l.merging.waiting ≡ l.fn.merging.waiting;
  room : HasRoom l.merging.reads l.set;
  files : all_files l.merging l.set ≡ all_files l.fn.merging l.fn.set;
  failed : all_failed l.merging l.set ≡ all_failed l.fn.merging l.fn.set;
  main : l.set.files.main ≡ l.fn.set.files.main;
}

abbrev pub decreases-loop-reader : goal.decreases-loop-reader
decreases-loop-reader g l = length l.set.files.stt
