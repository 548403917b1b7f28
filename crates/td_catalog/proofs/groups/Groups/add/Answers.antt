use Rattle.std.proofs.Common.{◌≡◌, ◌<◌, ◌-◌, ◌++◌, [], ◌∷◌, length, sym, ap, ◌∙◌, Some, arith}
use Rattle.std.proofs.lemmas.List.{length-map}
use Rattle.td_catalog.specs.Groups.{with_child}
use Rattle.td_catalog.proofs.Children.{items-put}
use Rattle.td_catalog.proofs.groups.Groups.add.Goals as goal

pub returns-in-Some : goal.returns-in-Some
returns-in-Some c =
    let at = c.in-Some.stable - 1 in
    let xs = c.self.inside.groups.items in
    let there = c.requires.there c.in-Some.stable c.in-Some.is in
    let count : length c.args.self.now.lists ≡ length xs = ap (λ k. length k.lists) (sym c.self.view_is) ∙ length-map xs (λ g. g.items) in
    let within : at < length xs = omega (arith, there.0, there.1, count) in
    items-put xs at c.args.table c.push_reserved.new.self c.index_mut.result.now within (c.push_reserved.ensures.items ∙ ap (λ g. g.items ++ c.args.table ∷ []) c.index_mut.ensures.value)
    ∙ ap (λ k. with_child (Some c.in-Some.stable) c.args.table k.lists) c.self.view_is
    ∙ ap (λ o. with_child o c.args.table c.args.self.now.lists) (sym c.in-Some.is)
