use Rattle.std.proofs.Common.{[]}
use Rattle.std.proofs.lemmas.Result.{err_from_is_err_and}
use Rattle.td_codec.specs.Lists.{items_read}
use Rattle.td_codec.proofs.Loop.{is_done}
use Rattle.td_manifest.specs.Files.{stt_items}
use Rattle.td_manifest.proofs.Loops.{stt_ends, stt_goes_on}
use Rattle.td_manifest.proofs.files.stt_files_of.Goals as goal

pub returns-in_err-file-clause-read : goal.returns-in_err-file-clause-read
returns-in_err-file-clause-read c =
    let used = c.args.files.now in
    let p = err_from_is_err_and c.from_residual.result c.from_residual.ensures.1 in
    rw (p.1, p.2) (stt_ends used c.loop.files c.in_err-file.field-0.0 c.loop.stt c.args.count c.loop.counter c.loop.rest.now (items_read (stt_items used) [] c.args.count c.args.bytes.now) c.loop.invariant.1 c.loop-test.true c.in_err-file.ensures.read c.loop.invariant.0)

pub loop-preserved : goal.loop-preserved
loop-preserved c =
    let used = c.args.files.now in
    stt_goes_on used c.loop.files c.stt_file_of.new.files c.loop.stt c.add.new.self c.args.count c.loop.counter c.loop.rest.now c.in_ok-file.file c.in_ok-file.after.now (items_read (stt_items used) [] c.args.count c.args.bytes.now)
    c.loop.invariant.1 c.in_ok-file.ensures.used c.in_ok-add.ensures.ok c.loop-test.true c.in_ok-file.ensures.read c.loop.invariant.0

pub returns-clause-read : goal.returns-clause-read
returns-clause-read c =
    let used = c.args.files.now in
    is_done (stt_items used) c.loop.stt c.args.count c.loop.counter c.loop.rest.now (items_read (stt_items used) [] c.args.count c.args.bytes.now) c.loop-test.false c.loop.invariant.0
