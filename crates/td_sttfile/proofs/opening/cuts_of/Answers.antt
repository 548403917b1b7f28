use Rattle.std.proofs.Common.{◌≡◌, ℕ, [], ◌+◌, length, Option, Ok, refl, ap, subst, ◌∙◌}
use Rattle.std.proofs.lemmas.Result.{err_from_is_err_and}
use Rattle.std.proofs.lemmas.List.{length_push}
use Rattle.td_codec.specs.Fields.{Fails}
use Rattle.td_codec.specs.Lists.{items_read}
use Rattle.td_codec.proofs.Loop.{ends_at, is_done}
use Rattle.td_block.proofs.Loops.{goes_on_with}
use Rattle.td_sttfile.specs.declared.format.FileCut.{FileCut}
use Rattle.td_sttfile.specs.Cuts.{cut_behind}
use Rattle.td_sttfile.specs.Opening.{last_cut, cut_items}
use Rattle.td_sttfile.proofs.opening.cuts_of.Goals as goal

pub returns-in_err-cut : goal.returns-in_err-cut
returns-in_err-cut c =
    let p = err_from_is_err_and c.from_residual.result c.from_residual.ensures.1 in
    let before = c.last_cut.ensures ∙ ap last_cut c.as_slice.ensures in
    let fails = subst (λ (o : Option FileCut). Fails c.in_err-cut.field-0.0 ((cut_behind c.args.range o).read c.loop.rest.now)) before c.in_err-cut.ensures in
    rw (p.1, p.2) (ends_at (cut_items c.args.range) c.in_err-cut.field-0.0 c.loop.cuts c.loop.cuts c.args.count c.loop.counter c.loop.rest.now (items_read (cut_items c.args.range) [] c.args.count c.args.bytes.now) refl c.loop-test.true fails c.loop.invariant.so_far)

pub loop-preserved : goal.loop-preserved
loop-preserved c =
    let before = c.last_cut.ensures ∙ ap last_cut c.as_slice.ensures in
    let read = subst (λ (o : Option FileCut). (cut_behind c.args.range o).read c.loop.rest.now ≡ Ok (c.in_ok-cut.cut, c.in_ok-cut.after.now)) before c.in_ok-cut.ensures in
    record {
      at = ap length c.in_ok-add.ensures.ok ∙ length_push c.loop.cuts c.in_ok-cut.cut ∙ ap (λ (n : ℕ). n + 1) c.loop.invariant.at;
      so_far = goes_on_with (cut_items c.args.range) c.loop.cuts c.loop.cuts c.add.new.self c.args.count c.loop.counter c.loop.rest.now c.in_ok-cut.cut c.in_ok-cut.after.now (items_read (cut_items c.args.range) [] c.args.count c.args.bytes.now)
          refl c.in_ok-add.ensures.ok c.loop-test.true read c.loop.invariant.so_far;
    }

pub returns : goal.returns
returns c = is_done (cut_items c.args.range) c.loop.cuts c.args.count c.loop.counter c.loop.rest.now (items_read (cut_items c.args.range) [] c.args.count c.args.bytes.now) c.loop-test.false c.loop.invariant.so_far
