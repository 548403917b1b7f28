use Rattle.std.proofs.Common.{◌≡◌, slice_set, sym, ap, ◌∙◌}
use Rattle.std.proofs.lemmas.List.Edits.{map_over_more}
use Rattle.td_fileset.specs.Sources.{Fed, past}
use Rattle.td_fileset.proofs.merging.pass_all.Goals as goal

pub loop-source-preserved : goal.loop-source-preserved
loop-source-preserved g c =
    let is : c.pass.new.self ≡ past c.args.key c.source-item.result = c.pass.ensures ∙ ap (past c.args.key) (sym c.source-item.is) in
    ap (λ (f : Fed). slice_set c.loop-source.sources c.loop-source.source-index f) is
    ∙ map_over_more (past c.args.key) c.args.sources.now c.loop-source.sources c.loop-source.source-index c.source-item.result c.loop-source-test.true c.loop-source.invariant c.source-item.is
