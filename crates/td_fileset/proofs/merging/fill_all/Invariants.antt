use Rattle.std.proofs.Common.{◌≡◌, ◌+◌, map, take}
use Rattle.std.specs.List.{AllByRecursion}
use Rattle.td_fileset.specs.Sources.{Fed, IsSettled}
use Rattle.td_fileset.specs.Merged.{told_layers, places_of, waiting}
use Rattle.td_fileset.proofs.merging.fill_all.Given as goal

abbrev pub invariant-loop-i : goal.invariant-loop-i
invariant-loop-i g l = record {
  layers : told_layers l.sources ≡ told_layers l.fn.sources;
  settled : AllByRecursion IsSettled (take l.i l.sources);
  places : places_of l.sources ≡ places_of l.fn.sources;
  reads : map (λ (f : Fed). f.reads) l.sources ≡ map (λ (f : Fed). f.reads) l.fn.sources;
  counts : map (λ (f : Fed). f.count) l.sources ≡ map (λ (f : Fed). f.count) l.fn.sources;
  steps : l.steps + waiting l.fn.sources ≡ l.fn.steps + waiting l.sources;
}
