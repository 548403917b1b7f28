use Rattle.std.proofs.Common.{◌≡◌, length, map}
use Rattle.td_layer.specs.Scans.{is_cut}
use Rattle.td_sttfile.specs.Opening.{as_cut}
use Rattle.td_sttfile.proofs.scans.lies_in_any.Given as goal

abbrev pub invariant-loop-cut : goal.invariant-loop-cut
invariant-loop-cut l = is_cut l.key (map as_cut l.left) ≡ is_cut l.key (map as_cut l.cuts)

abbrev pub decreases-loop-cut : goal.decreases-loop-cut
decreases-loop-cut l = length l.left
