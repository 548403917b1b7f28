use Rattle.std.proofs.Common.{◌-◌, Some, ap, sym, ◌∙◌}
use Rattle.td_state.proofs.ToHead.{plain_there, sub_there}
use Rattle.td_state.proofs.to_head.table_head.Goals as goal

pub returns-in_ok-columns-in-None : goal.returns-in_ok-columns-in-None
returns-in_ok-columns-in-None c =
    plain_there c.args.catalog.now.catalog c.args.catalog.now.catalog.tables c.args.contents.now.kept.greatest.tables (c.args.number - 1) c.in_ok-name.name c.schema_of.result.now c.in_ok-columns-in-None.columns c.table_latest-latest.result
    (c.name_of.ensures ∙ ap Some (sym c.in_ok-name.ensures)) c.in-None.ensures c.schema_of.ensures c.in_ok-columns-in-None.ensures c.table_latest-latest.ensures

pub returns-in_ok-tags-in-Some : goal.returns-in_ok-tags-in-Some
returns-in_ok-tags-in-Some c =
    sub_there c.args.catalog.now.catalog.tables c.args.contents.now.kept.greatest.tables (c.args.number - 1) c.in_ok-name.name c.in-Some.stable c.tags_of.result.now c.in_ok-tags-in-Some.tags
    c.requires.count (c.name_of.ensures ∙ ap Some (sym c.in_ok-name.ensures)) c.in-Some.ensures c.tags_of.ensures c.in_ok-tags-in-Some.ensures
