use Rattle.std.proofs.Common.{◌≤◌, List, ◌∷◌, ◌++◌, [], ap, sym, subst, take, ◌∙◌}
use Rattle.std.specs.List.{AllByRecursion}
use Rattle.std.proofs.lemmas.List.{take_more, take_all}
use Rattle.td_limits.specs.declared.limits.TheConstants.{SESSIONS}
use Rattle.td_script.specs.declared.lines.Line.{Line}
use Rattle.td_core.specs.CoreState.{seen}
use Rattle.td_printed.specs.Names.{IsCountedLine}
use Rattle.td_top.proofs.Runs.{Progress, begun, goes_on, counted_more, some_after, of_session, told, on_err}
use Rattle.td_top.proofs.lines.replies_to.Goals as goal

pub loop-line-init : goal.loop-line-init
loop-line-init g c = record {
  progress = begun (seen g.S.Store.told g.S.Store.count g.C.Clock.readings c.args.core.now) c.new-replies.result c.new-replies.ensures c.requires.covers c.requires.floor c.requires.base;
  counted = subst (AllByRecursion IsCountedLine) (sym c.new-replies.ensures) tt;
}

pub loop-line-preserved : goal.loop-line-preserved
loop-line-preserved g c =
    let old = seen g.S.Store.told g.S.Store.count g.C.Clock.readings c.args.core.now in
    let lines = c.args.lines.now in
    let i = c.loop-line.line-index in
    let l = c.line-item.result in
    let new = seen g.S.Store.told g.S.Store.count g.C.Clock.readings c.line_turn.new.core in
    let more = goes_on old (seen g.S.Store.told g.S.Store.count g.C.Clock.readings c.loop-line.core) new (take i lines) c.loop-line.replies c.add.new.self l c.in_ok-reply.reply c.loop-line.invariant.progress c.in_ok-reply.ensures.turn c.in_ok-add.ensures.ok in
    record {
      progress = subst (λ (x : List Line). Progress old new x c.add.new.self) (sym (take_more lines i l c.loop-line-test.true ∙ ap (λ x. take i lines ++ x ∷ []) (sym c.line-item.is))) more;
      counted = counted_more c.loop-line.replies c.add.new.self _ c.loop-line.invariant.counted c.is_counted.ensures c.in_ok-add.ensures.ok;
    }

pub returns : goal.returns
returns g c =
    let old = seen g.S.Store.told g.S.Store.count g.C.Clock.readings c.args.core.now in
    let new = seen g.S.Store.told g.S.Store.count g.C.Clock.readings c.loop-line.core in
    let lines = c.args.lines.now in
    let all : Progress old new lines c.loop-line.replies = subst (λ (x : List Line). Progress old new x c.loop-line.replies) (take_all c.loop-line.line-index lines c.loop-line-test.false) c.loop-line.invariant.progress in
    record { replies = told old new lines c.loop-line.replies c.requires.numbered all; counted = c.loop-line.invariant.counted; broke = tt }

pub line_turn-requires-after_bounds : goal.line_turn-requires-after_bounds
line_turn-requires-after_bounds g c κs within =
    subst (λ (x : Line). (1 ≤ x.session) × (x.session ≤ SESSIONS)) (sym c.line-item.is) (of_session [] c.args.lines.now c.loop-line.line-index c.line-item.result c.requires.numbered c.loop-line-test.true)

pub returns-in_err-add-clause-broke : goal.returns-in_err-add-clause-broke
returns-in_err-add-clause-broke g c =
    on_err c.from_residual-in_err-add.result _ (some_after (seen g.S.Store.told g.S.Store.count g.C.Clock.readings c.args.core.now) (seen g.S.Store.told g.S.Store.count g.C.Clock.readings c.loop-line.core) (seen g.S.Store.told g.S.Store.count g.C.Clock.readings c.line_turn.new.core)
    (take c.loop-line.line-index c.args.lines.now) c.loop-line.replies c.line-item.result c.in_ok-reply.reply c.loop-line.invariant.progress c.in_ok-reply.ensures.turn)
