use Rattle.td_engine.specs.CoreState.{seen}
use Rattle.td_engine.proofs.Points.{facts_go, rows_go, held_goes, pins_go, committed_goes, journal_goes, image_goes, floor_goes, clock_goes, legal_goes}
use Rattle.td_engine.proofs.kept.Core.submit.Goals as goal

pub returns-clause-answer : goal.returns-clause-answer
returns-clause-answer g c = c.submitted.ensures

pub returns-clause-facts : goal.returns-clause-facts
returns-clause-facts g c = λ b h f. facts_go (seen g.S.Store.told g.S.Store.count g.C.Clock.readings c.args.self.now) (seen g.S.Store.told g.S.Store.count g.C.Clock.readings c.submitted.new.self) c.args.session c.args.ordinal c.args.stmt.now c.submitted.result b h c.submitted.ensures f

pub returns-clause-rows : goal.returns-clause-rows
returns-clause-rows g c = λ b h f r. rows_go (seen g.S.Store.told g.S.Store.count g.C.Clock.readings c.args.self.now) (seen g.S.Store.told g.S.Store.count g.C.Clock.readings c.submitted.new.self) c.args.session c.args.ordinal c.args.stmt.now c.submitted.result b h c.submitted.ensures f r

pub returns-clause-held : goal.returns-clause-held
returns-clause-held g c = held_goes (seen g.S.Store.told g.S.Store.count g.C.Clock.readings c.args.self.now) (seen g.S.Store.told g.S.Store.count g.C.Clock.readings c.submitted.new.self) c.args.session c.args.ordinal c.args.stmt.now c.submitted.result c.submitted.ensures

pub returns-clause-pins : goal.returns-clause-pins
returns-clause-pins g c = pins_go (seen g.S.Store.told g.S.Store.count g.C.Clock.readings c.args.self.now) (seen g.S.Store.told g.S.Store.count g.C.Clock.readings c.submitted.new.self) c.args.session c.args.ordinal c.args.stmt.now c.submitted.result c.submitted.ensures

pub returns-clause-committed : goal.returns-clause-committed
returns-clause-committed g c = committed_goes (seen g.S.Store.told g.S.Store.count g.C.Clock.readings c.args.self.now) (seen g.S.Store.told g.S.Store.count g.C.Clock.readings c.submitted.new.self) c.args.session c.args.ordinal c.args.stmt.now c.submitted.result c.submitted.ensures

pub returns-clause-journal : goal.returns-clause-journal
returns-clause-journal g c = λ b h f j. journal_goes (seen g.S.Store.told g.S.Store.count g.C.Clock.readings c.args.self.now) (seen g.S.Store.told g.S.Store.count g.C.Clock.readings c.submitted.new.self) c.args.session c.args.ordinal c.args.stmt.now c.submitted.result b h c.submitted.ensures f j

pub returns-clause-image : goal.returns-clause-image
returns-clause-image g c = λ b h f i. image_goes (seen g.S.Store.told g.S.Store.count g.C.Clock.readings c.args.self.now) (seen g.S.Store.told g.S.Store.count g.C.Clock.readings c.submitted.new.self) c.args.session c.args.ordinal c.args.stmt.now c.submitted.result b h c.submitted.ensures f i

pub returns-clause-floor : goal.returns-clause-floor
returns-clause-floor g c = λ b h f. floor_goes (seen g.S.Store.told g.S.Store.count g.C.Clock.readings c.args.self.now) (seen g.S.Store.told g.S.Store.count g.C.Clock.readings c.submitted.new.self) c.args.session c.args.ordinal c.args.stmt.now c.submitted.result b h c.submitted.ensures f

pub returns-clause-clock : goal.returns-clause-clock
returns-clause-clock g c = λ opened b h k. clock_goes opened (seen g.S.Store.told g.S.Store.count g.C.Clock.readings c.args.self.now) (seen g.S.Store.told g.S.Store.count g.C.Clock.readings c.submitted.new.self) c.args.session c.args.ordinal c.args.stmt.now c.submitted.result b h c.submitted.ensures k

pub returns-clause-legal : goal.returns-clause-legal
returns-clause-legal g c = λ b h asked f l. legal_goes (seen g.S.Store.told g.S.Store.count g.C.Clock.readings c.args.self.now) (seen g.S.Store.told g.S.Store.count g.C.Clock.readings c.submitted.new.self) c.args.session c.args.ordinal c.args.stmt.now c.submitted.result b h asked c.requires.session.0 c.requires.session.1 c.submitted.ensures f l
