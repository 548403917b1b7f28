use Rattle.std.proofs.Common.{ℕ, [], ◌+◌, length, refl, ap, ◌∙◌}
use Rattle.std.proofs.lemmas.Result.{err_from_is_err_and}
use Rattle.std.proofs.lemmas.List.{length_push}
use Rattle.td_codec.specs.Lists.{items_read}
use Rattle.td_codec.proofs.Loop.{ends_at, is_done}
use Rattle.td_block.specs.Headers.{kinds_of}
use Rattle.td_block.proofs.Loops.{goes_on_with}
use Rattle.td_block.proofs.header.kinds_in.Goals as goal

pub returns-in_err-kind-clause-read : goal.returns-in_err-kind-clause-read
returns-in_err-kind-clause-read c =
    let p = err_from_is_err_and c.from_residual-in_err-kind.result c.from_residual-in_err-kind.ensures.1 in
    rw (p.1, p.2) (ends_at (kinds_of c.args.rows) c.in_err-kind.field-0.0 c.loop.kinds c.loop.kinds c.args.columns c.loop.counter c.loop.rest.now (items_read (kinds_of c.args.rows) [] c.args.columns c.args.bytes.now) refl c.loop-test.true c.in_err-kind.ensures c.loop.invariant.so_far)

pub loop-preserved : goal.loop-preserved
loop-preserved c = record {
  at = ap length c.in_ok-add.ensures.ok ∙ length_push c.loop.kinds c.in_ok-kind.kind ∙ ap (λ (n : ℕ). n + 1) c.loop.invariant.at;
  so_far = goes_on_with (kinds_of c.args.rows) c.loop.kinds c.loop.kinds c.add.new.self c.args.columns c.loop.counter c.loop.rest.now c.in_ok-kind.kind c.in_ok-kind.after.now (items_read (kinds_of c.args.rows) [] c.args.columns c.args.bytes.now)
      refl c.in_ok-add.ensures.ok c.loop-test.true c.in_ok-kind.ensures c.loop.invariant.so_far;
}

pub returns-clause-read : goal.returns-clause-read
returns-clause-read c = is_done (kinds_of c.args.rows) c.loop.kinds c.args.columns c.loop.counter c.loop.rest.now (items_read (kinds_of c.args.rows) [] c.args.columns c.args.bytes.now) c.loop-test.false c.loop.invariant.so_far
