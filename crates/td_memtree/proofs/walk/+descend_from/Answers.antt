use Rattle.std.proofs.Common.{refl, sym, ap, ◌∙◌, ◌++◌, lit<, rules}
use Rattle.td_memtree.specs.Pending.{left_pairs}
use Rattle.td_memtree.proofs.AtFork.{at_fork}
use Rattle.td_memtree.proofs.Pend.{has_room, pushed, seamed, light_right}
use Rattle.td_memtree.proofs.Rests.{rest_less, rest_more}
use Rattle.td_memtree.proofs.walk.+descend_from.Goals as goal

pub push-requires : goal.push-requires
push-requires g t c =
    let here = at_fork c.branch.view_is c.branch.invariant c.in-OfFork.is c.deref-fork.ensures in
    (lit< tt, has_room here _ c.requires.light)

pub descend_from-requires : goal.descend_from-requires
descend_from-requires g t c =
    let here = at_fork c.branch.view_is c.branch.invariant c.in-OfFork.is c.deref-fork.ensures in
    let p = pushed here c.requires.pending c.requires.light c.push.ensures.items refl in
    let pending = p.pending in
    let light = p.light in
    search (rules, pending, light)

pub descend_from-requires-in-Equal : goal.descend_from-requires-in-Equal
descend_from-requires-in-Equal g t c =
    let here = at_fork c.branch.view_is c.branch.invariant c.in-OfFork.is c.deref-fork.ensures in
    let light = light_right here _ c.requires.light in
    search (rules, light)

pub returns-in-Less-clause-pairs : goal.returns-in-Less-clause-pairs
returns-in-Less-clause-pairs g t c =
    let here = at_fork c.branch.view_is c.branch.invariant c.in-OfFork.is c.deref-fork.ensures in
    let p = pushed here c.requires.pending c.requires.light c.push.ensures.items refl in
    seamed _ _ _ _ _ _ (rest_less here c.args.from (sym c.cmp.ensures ∙ c.in-Less.is)) p.pairs c.descend_from.ensures.pairs

pub returns-in-Equal-clause-pairs : goal.returns-in-Equal-clause-pairs
returns-in-Equal-clause-pairs g t c =
    let here = at_fork c.branch.view_is c.branch.invariant c.in-OfFork.is c.deref-fork.ensures in
    c.descend_from-in-Equal.ensures.pairs ∙ ap (λ t. t ++ left_pairs c.args.pending.now.items) (sym (rest_more here c.args.from _ (sym c.cmp.ensures) c.in-Equal.is))
