use Rattle.std.proofs.Common.{◌∙◌, arith, ap}
use Rattle.td_levels.proofs.Putting.{put_more, fitting_width, fits_more}
use Rattle.td_levels.proofs.levels.put_all.Goals as goal

pub put-requires-clause-width : goal.put-requires-clause-width
put-requires-clause-width c =
    let cat = c.requires.fits.0 in
    let fits = c.loop-put.invariant.2 cat c.requires.fits.1 c.requires.fits.2 in
    fitting_width cat c.args.moment c.ranges.moment.fits c.args.puts.now c.loop-put.put-index c.put-item.result c.loop-put.memtable c.loop-put-test.true c.put-item.is c.requires.fits.2 fits

pub loop-put-preserved : goal.loop-put-preserved
loop-put-preserved c =
    let i = c.loop-put.put-index in
    let p = c.put-item.result in
    let inv = c.loop-put.invariant in (
      put_more c.args.moment c.args.puts.now i p c.loop-put.memtable c.put.new.self c.loop-put-test.true c.put-item.is c.in_ok-put.ensures.ok ∙ inv.0,
      ap (λ m. m.held) c.in_ok-put.ensures.ok ∙ omega (arith, inv.1),
      λ cat base puts. fits_more cat c.args.moment c.ranges.moment.fits c.args.puts.now i p c.loop-put.memtable c.loop-put-test.true c.put-item.is c.put.new.self puts c.requires.cells (omega (arith, inv.1, c.requires.room, c.loop-put-test.true)) c.in_ok-put.ensures.ok (inv.2 cat base puts),
    )
