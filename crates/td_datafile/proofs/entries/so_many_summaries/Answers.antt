use Rattle.std.proofs.Common.{ℕ, [], ◌+◌, length, refl, ap, ◌∙◌}
use Rattle.std.proofs.lemmas.Result.{err_from_is_err_and}
use Rattle.std.proofs.lemmas.List.{length_push}
use Rattle.td_codec.specs.Lists.{each, items_read}
use Rattle.td_codec.proofs.Loop.{ends_at, is_done}
use Rattle.td_block.proofs.Loops.{goes_on_with}
use Rattle.td_datafile.specs.Entries.{summary_in}
use Rattle.td_datafile.proofs.entries.so_many_summaries.Goals as goal

pub returns-in_err-summary : goal.returns-in_err-summary
returns-in_err-summary c =
    let p = err_from_is_err_and c.from_residual.result c.from_residual.ensures.1 in
    rw (p.1, p.2)
    (ends_at (each (summary_in c.args.rows)) c.in_err-summary.field-0.0 c.loop.summaries c.loop.summaries c.args.columns c.loop.counter c.loop.rest.now (items_read (each (summary_in c.args.rows)) [] c.args.columns c.args.bytes.now) refl c.loop-test.true c.in_err-summary.ensures c.loop.invariant.so_far)

pub loop-preserved : goal.loop-preserved
loop-preserved c = record {
  at = ap length c.in_ok-add.ensures.ok ∙ length_push c.loop.summaries c.in_ok-summary.summary ∙ ap (λ (n : ℕ). n + 1) c.loop.invariant.at;
  so_far = goes_on_with (each (summary_in c.args.rows)) c.loop.summaries c.loop.summaries c.add.new.self c.args.columns c.loop.counter c.loop.rest.now c.in_ok-summary.summary c.in_ok-summary.after.now (items_read (each (summary_in c.args.rows)) [] c.args.columns c.args.bytes.now)
      refl c.in_ok-add.ensures.ok c.loop-test.true c.in_ok-summary.ensures c.loop.invariant.so_far;
}

pub returns : goal.returns
returns c = is_done (each (summary_in c.args.rows)) c.loop.summaries c.args.columns c.loop.counter c.loop.rest.now (items_read (each (summary_in c.args.rows)) [] c.args.columns c.args.bytes.now) c.loop-test.false c.loop.invariant.so_far
