use Rattle.std.proofs.Common.{◌≡◌, ◌∙◌, ℕ, true, sym, subst}
use Rattle.td_engine.specs.CoreState.{seen}
use Rattle.td_committing.specs.Commit.{leaves_more}
use Rattle.td_committing.proofs.Ends.{twice_ends, twice_points}
use Rattle.td_committing.proofs.commits.commit_all.Goals as goal

pub returns-then-leaves_more-clause-ends : goal.returns-then-leaves_more-clause-ends
returns-then-leaves_more-clause-ends g c =
    let s = seen g.S.Store.told g.S.Store.count g.C.Clock.readings in
    let first = c.once-end.result in
    let more = subst (λ (n : ℕ). leaves_more first n ≡ true) c.front.ensures (sym c.leaves_more.ensures ∙ c.if-leaves_more.true) in
    twice_ends (s c.args.core.now) (s c.once-end.new.core) (s c.once.new.core) first c.once.result c.once-end.ensures.ends
    c.once-end.ensures.later more c.once.ensures.ends

pub returns-then-leaves_more-clause-points : goal.returns-then-leaves_more-clause-points
returns-then-leaves_more-clause-points g c =
    let s = seen g.S.Store.told g.S.Store.count g.C.Clock.readings in
    let first = c.once-end.result in
    let more = subst (λ (n : ℕ). leaves_more first n ≡ true) c.front.ensures (sym c.leaves_more.ensures ∙ c.if-leaves_more.true) in
    twice_points (s c.args.core.now) (s c.once-end.new.core) (s c.once.new.core) first c.once.result c.once-end.ensures.ends
    c.once-end.ensures.later more c.once-end.ensures.points c.once.ensures.points
