use Rattle.td_engine.proofs.Freezes.{facts_kept, rows_kept, held_kept, pins_kept, journal_kept, image_kept, floor_kept, clock_kept}
use Rattle.td_engine.proofs.kept.Core.freeze.Goals as goal

pub returns-clause-facts : goal.returns-clause-facts
returns-clause-facts g c = facts_kept _ _ _ c.give.ensures

pub returns-clause-rows : goal.returns-clause-rows
returns-clause-rows g c = rows_kept _ _ _ c.give.ensures

pub returns-clause-held : goal.returns-clause-held
returns-clause-held g c = held_kept _ _ _ c.give.ensures

pub returns-clause-pins : goal.returns-clause-pins
returns-clause-pins g c = pins_kept _ _ _ c.give.ensures

pub returns-clause-journal : goal.returns-clause-journal
returns-clause-journal g c = journal_kept _ _ _ c.give.ensures

pub returns-clause-image : goal.returns-clause-image
returns-clause-image g c = image_kept _ _ _ c.give.ensures

pub returns-clause-floor : goal.returns-clause-floor
returns-clause-floor g c = floor_kept _ _ _ c.give.ensures

pub returns-clause-clock : goal.returns-clause-clock
returns-clause-clock g c = clock_kept _ _ _ c.give.ensures
