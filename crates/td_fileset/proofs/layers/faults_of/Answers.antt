use Rattle.std.proofs.Common.{map}
use Rattle.std.specs.Prelude.{sum}
use Rattle.td_fileset.specs.Opened.{Readers, shown_count}
use Rattle.td_fileset.proofs.Reading.{all_counted}
use Rattle.td_fileset.proofs.layers.faults_of.Goals as goal

pub returns : goal.returns
returns g c =
    all_counted (λ (r : Readers). r.failed) c.args.sets.now c.loop-set.set-index c.loop-set.faults (shown_count (sum (map (λ (r : Readers). r.failed) c.args.sets.now)))
    c.loop-set-test.false c.loop-set.invariant.few c.loop-set.invariant.all
