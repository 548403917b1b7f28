use Rattle.td_engine.specs.CoreState.{seen}
use Rattle.td_committing.proofs.Ends.{once_home}
use Rattle.td_committing.proofs.commits.commit_once.Goals as goal

pub returns-clause-flight : goal.returns-clause-flight
returns-clause-flight g c =
    let s = seen g.S.Store.told g.S.Store.count g.C.Clock.readings in
    once_home (s c.args.core.now) (s c.once.new.core) c.once.result c.requires c.once.ensures.ends

pub returns-clause-facts : goal.returns-clause-facts
returns-clause-facts g c = c.once.ensures.points.facts

pub returns-clause-rows : goal.returns-clause-rows
returns-clause-rows g c = c.once.ensures.points.rows

pub returns-clause-journal : goal.returns-clause-journal
returns-clause-journal g c = c.once.ensures.points.journal

pub returns-clause-image : goal.returns-clause-image
returns-clause-image g c = c.once.ensures.points.image

pub returns-clause-floor : goal.returns-clause-floor
returns-clause-floor g c = c.once.ensures.points.floor

pub returns-clause-held : goal.returns-clause-held
returns-clause-held g c = c.once.ensures.points.held

pub returns-clause-pins : goal.returns-clause-pins
returns-clause-pins g c = c.once.ensures.points.pins

pub returns-clause-clock : goal.returns-clause-clock
returns-clause-clock g c = c.once.ensures.points.clock
