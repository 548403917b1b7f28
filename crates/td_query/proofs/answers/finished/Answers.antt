use Rattle.std.proofs.Common.{◌++◌, List, Some, map, reverse, sym, ap, ◌∙◌}
use Rattle.std.proofs.lemmas.List.Elements.{All-pop}
use Rattle.td_model.specs.declared.windows.WinRow.{WinRow}
use Rattle.td_verdict.specs.Answered.{window_rows}
use Rattle.td_query.specs.Gathered.{grouped_of, IsReady}
use Rattle.td_query.specs.Shown.{windows_in}
use Rattle.td_query.specs.declared.gathering.Group.{Group}
use Rattle.td_query.proofs.ByGroup.{one_more}
use Rattle.td_query.proofs.answers.finished.Goals as goal

pub groups-preserved : goal.groups-preserved
groups-preserved c =
    let plan = c.args.plan.now in
    let windows : Group → List WinRow = λ g. window_rows plan.schema.columns plan.query (grouped_of g) in
    let left = c.pop.new.self in
    let last = c.in-Some.group in
    let all = c.groups.all.items in
    let ready = All-pop IsReady c.groups.left left (Some last) c.in-Some.ensures c.groups.invariant.1 in (
      ap (λ l. map windows left ++ map windows_in (reverse l)) c.in_ok-push.ensures.items
          ∙ one_more windows left last c.finish.new.group all c.in_ok-finish.ensures.windows
          ∙ ap (λ l. map windows l ++ map windows_in (reverse all)) (sym c.in-Some.ensures)
          ∙ c.groups.invariant.0,
      ready.0,
    )
