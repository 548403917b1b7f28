use Rattle.std.proofs.Common.{List, subst}
use Rattle.td_fileset.specs.Sources.{Reads}
use Rattle.td_fileset.specs.Opened.{scan_reads, scan_count, all_files, all_failed, HasRoom}
use Rattle.td_fileset.proofs.Reading.{back_files, back_failed}
use Rattle.td_fileset.proofs.spans.take_back.Goals as goal

pub loop-scan-preserved : goal.loop-scan-preserved
loop-scan-preserved g c =
    let popped = c.in-Some.ensures in
    let given = c.give_back.ensures in
    record {
      room = given.room c.pop.new.self.reads (subst (λ (rs : List Reads). HasRoom rs c.loop-scan.set) popped.reads c.loop-scan.invariant.room);
      files = back_files (scan_reads c.in-Some.scan) c.pop.new.self.reads c.loop-scan.merging.reads c.loop-scan.set.files c.give_back.new.self.files (all_files c.args.merging c.args.set.now) popped.reads given.files c.loop-scan.invariant.files;
      failed = back_failed (scan_count c.in-Some.scan) c.pop.new.self.counts c.loop-scan.merging.counts c.loop-scan.set.failed c.give_back.new.self.failed (all_failed c.args.merging c.args.set.now) popped.counts given.failed c.loop-scan.invariant.failed;
    }
