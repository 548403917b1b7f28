use Rattle.std.proofs.Common.{◌-◌, Some, ap, sym, ◌∙◌}
use Rattle.td_state.proofs.ToHead.{stable_there}
use Rattle.td_state.proofs.to_head.stable_head.Goals as goal

pub returns : goal.returns
returns c =
    stable_there c.args.catalog.now.catalog.stables c.args.contents.now.kept.greatest.stables (c.args.number - 1) c.in_ok-name.name c.in_ok-schema.schema c.stable_latest-latest.result
    (c.stable_name.ensures ∙ ap Some (sym c.in_ok-name.ensures)) (c.stable_schema.ensures ∙ ap Some (sym c.in_ok-schema.ensures.same)) c.stable_latest-latest.ensures
