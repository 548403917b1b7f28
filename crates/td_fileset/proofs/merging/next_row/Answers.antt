use Rattle.std.proofs.Common.{refl}
use Rattle.td_fileset.proofs.Merges.{read_steps}
use Rattle.td_fileset.proofs.merging.next_row.Goals as goal

pub loop-init : goal.loop-init
loop-init g c = record {
  rows = refl;
  same = record { reads = refl; damaged = refl };
  counts = refl;
  steps = read_steps c.args.sources.now c.args.sources.now c.args.steps.now c.args.steps.now refl refl;
}
