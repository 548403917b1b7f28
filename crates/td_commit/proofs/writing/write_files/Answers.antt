use Rattle.std.proofs.Common.{length, map, ap, ◌∙◌, arith}
use Rattle.std.proofs.Math.Seq.{map-set_same}
use Rattle.std.proofs.lemmas.Result.{err_from_is_err_and}
use Rattle.td_commit.proofs.Files.{next_empty, next_written, end_written, next_failed, no_fault}
use Rattle.td_commit.proofs.writing.write_files.Goals as goal

pub write_range-requires-clause-empty : goal.write_range-requires-clause-empty
write_range-requires-clause-empty g c κs within =
    let test = c.loop-i-test.true in
    let same = c.loop-i.auto.files in
    next_empty g.W.Writer.written g.W.Writer.count c.args.frozen.now c.loop-i.i c.as_slice-ranges.result.now c.args.files.now c.loop-i.files c.index-files-i.result (omega (arith, test, same)) (omega (arith, test, same)) c.requires.empty c.loop-i.invariant.written

pub returns-in_err-write_range-clause-names : goal.returns-in_err-write_range-clause-names
returns-in_err-write_range-clause-names g c =
    map-set_same g.W.Writer.name c.loop-i.files c.loop-i.i c.write_range.new.file c.index-files-i.result c.write_range.ensures.name ∙ c.loop-i.invariant.names

pub returns-in_err-write_range-clause-cause : goal.returns-in_err-write_range-clause-cause
returns-in_err-write_range-clause-cause g c =
    let test = c.loop-i-test.true in
    let same = c.loop-i.auto.files in
    let p = err_from_is_err_and c.from_residual.result c.from_residual.ensures.1 in
    next_failed g.W.Writer.written g.W.Writer.count c.args.files.now c.loop-i.files c.loop-i.i c.index-files-i.result c.write_range.new.file c.in_err-write_range.field-0.0 p.0 c.from_residual.result c.loop-i.invariant.counts (omega (arith, test, same)) p.1 p.2 c.in_err-write_range.ensures.cause

pub loop-i-preserved : goal.loop-i-preserved
loop-i-preserved g c =
    let test = c.loop-i-test.true in
    let same = c.loop-i.auto.files in
    let writers = c.requires.writers in
    let told = ap length c.as_slice-ranges.ensures in
    record {
      written = next_written g.W.Writer.written g.W.Writer.count c.args.frozen.now c.loop-i.i c.as_slice-ranges.result.now c.args.files.now c.loop-i.files c.index-files-i.result c.write_range.new.file (omega (arith, test, same)) (omega (arith, test, same)) (omega (arith, test, same, writers, told)) c.loop-i.invariant.written c.in_ok-write_range.ensures.ok;
      names = map-set_same g.W.Writer.name c.loop-i.files c.loop-i.i c.write_range.new.file c.index-files-i.result c.write_range.ensures.name ∙ c.loop-i.invariant.names;
      counts = map-set_same g.W.Writer.count c.loop-i.files c.loop-i.i c.write_range.new.file c.index-files-i.result c.in_ok-write_range.ensures.cause.kept ∙ c.loop-i.invariant.counts;
    }

pub returns-clause-ok : goal.returns-clause-ok
returns-clause-ok g c =
    let test = c.loop-i-test.false in
    let upto = c.loop-i.auto.i-end in
    let same = c.loop-i.auto.files in
    end_written g.W.Writer.written g.W.Writer.count c.args.frozen.now c.loop-i.i c.args.frozen.now.ranges c.as_slice-ranges.result.now c.args.files.now c.loop-i.files c.as_slice-ranges.ensures (omega (arith, test, upto, same)) c.requires.writers c.loop-i.invariant.written

pub returns-clause-cause : goal.returns-clause-cause
returns-clause-cause g c = no_fault (map g.W.Writer.count c.args.files.now) (map g.W.Writer.count c.loop-i.files) tt c.loop-i.invariant.counts
