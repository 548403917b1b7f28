use Rattle.std.proofs.Common.{◌<◌, length, map, ap, ◌∙◌, rules}
use Rattle.td_catalog.proofs.Children.{items-stay}
use Rattle.td_catalog.proofs.groups.Groups.make_room.Goals as goal

pub returns-in_err-reserve-2-clause-unchanged : goal.returns-in_err-reserve-2-clause-unchanged
returns-in_err-reserve-2-clause-unchanged c =
    let xs = c.reserve.new.self.items in
    let within : c.in-Some.at < length xs = search rules in
    items-stay xs c.in-Some.at c.reserve-in-Some.new.self c.index_mut.result.now within (c.reserve-in-Some.ensures.items ∙ ap (λ g. g.items) c.index_mut.ensures.value)
    ∙ ap (map (λ g. g.items)) c.reserve.ensures.items
    ∙ ap (λ k. k.lists) c.self.view_is

pub returns-in_ok-reserve-2-clause-unchanged : goal.returns-in_ok-reserve-2-clause-unchanged
returns-in_ok-reserve-2-clause-unchanged c =
    let xs = c.reserve.new.self.items in
    let within : c.in-Some.at < length xs = search rules in
    items-stay xs c.in-Some.at c.reserve-in-Some.new.self c.index_mut.result.now within (c.reserve-in-Some.ensures.items ∙ ap (λ g. g.items) c.index_mut.ensures.value)
    ∙ ap (map (λ g. g.items)) c.reserve.ensures.items
    ∙ ap (λ k. k.lists) c.self.view_is
