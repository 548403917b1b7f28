use Rattle.std.proofs.Common.{get_or, refl}
use Rattle.td_making.proofs.CommitHeads.{stt_more}
use Rattle.td_making.proofs.heading.add_stt.Goals as goal

pub loop-file-preserved : goal.loop-file-preserved
loop-file-preserved c =
    stt_more c.args.files.now.keys c.args.stt.now c.loop-file.file-index (get_or c.args.stt.now c.loop-file.file-index 0) c.loop-file.files.keys c.add_file.new.files.keys c.in_ok-add_file.field-0
    c.loop-file-test.true refl (c.type_inv.stt c.loop-file.file-index).fits c.loop-file.invariant c.in_ok-add_file.ensures.new c.if-not-branch.false (c.in_ok-add_file.ensures.added c.if-not-branch.false)
