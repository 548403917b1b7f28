use Rattle.std.proofs.Common.{sum, map}
use Rattle.td_fileset.specs.Opened.{shown_count}
use Rattle.td_fileset.proofs.Reading.{all_counted}
use Rattle.td_fileset.proofs.set_readers.faults_of.Goals as goal

pub returns : goal.returns
returns g c =
    all_counted g.R.FileBytes.count c.args.readers.now c.loop-reader.reader-index c.loop-reader.faults (shown_count (sum (map g.R.FileBytes.count c.args.readers.now)))
    c.loop-reader-test.false c.loop-reader.invariant.few c.loop-reader.invariant.all
