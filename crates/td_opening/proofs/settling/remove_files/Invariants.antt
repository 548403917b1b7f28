use Rattle.std.proofs.Common.{◌≡◌}
use Rattle.td_outside.specs.Image.{Along}
use Rattle.td_opening.proofs.Removing.{SweptSoFar}
use Rattle.td_opening.proofs.settling.remove_files.Given as goal

abbrev pub invariant-loop-name : goal.invariant-loop-name
invariant-loop-name g l = record {
  swept : Along (SweptSoFar l.named l.names l.name-index) (g.S.Store.told l.fn.store) (g.S.Store.told l.store);
  count : g.S.Store.count l.store ≡ g.S.Store.count l.fn.store;
}
