use Rattle.std.proofs.Common.{◌≡◌, ◌==◌, false, Some, slice_get, add-one, ap, sym, ◌∙◌}
use Rattle.std.proofs.lemmas.Bool.{ne_eqb}
use Rattle.std.proofs.lemmas.Option.{slice_get-get_or}
use Rattle.td_memdev.proofs.Finding.{find_more}
use Rattle.td_memdev.proofs.table.place_of.Goals as goal

pub loop-place-preserved : goal.loop-place-preserved
loop-place-preserved g c =
    let e = c.index-entries-place.result in
    let there : slice_get c.args.entries.now c.loop-place.place ≡ Some e =
    slice_get-get_or _ _ e c.loop-place-test.true ∙ ap (λ x. Some x) (sym c.index-entries-place.is) in
    let other : (c.args.number == g.T.Numbered.number e) ≡ false =
    ne_eqb _ _ (λ same. c.if-number.false (c.number.ensures ∙ sym same)) in
    rw (add-one c.loop-place.place) (find_more g.T.Numbered.number c.args.number c.loop-place.place c.args.entries.now e c.loop-place.invariant there other)
