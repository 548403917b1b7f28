use Rattle.std.proofs.Common.{◌≡◌, true, is_some, not, ap, ◌∙◌}
use Rattle.td_memdev.proofs.Finding.{taken_more}
use Rattle.td_memdev.proofs.table.free_from.Goals as goal

pub loop-number-preserved : goal.loop-number-preserved
loop-number-preserved g c =
    let some : is_some c.place_of.result ≡ true = c.is_none.ensures ∙ ap not c.if-is_none.false in
    taken_more g.T.Numbered.number c.args.from c.loop-number.number c.args.entries.now c.place_of.result some c.place_of.ensures.found c.loop-number.invariant
