use Rattle.std.proofs.Common.{subst}
use Rattle.std.specs.Prelude.{IfSome}
use Rattle.td_levels.specs.Ranges.{AreByRange}
use Rattle.td_active.specs.Stored.{AreFinished}
use Rattle.td_engine.proofs.Placed.{facts_placed, rows_placed_now, held_placed, pins_placed, journal_placed, image_placed, floor_placed, clock_placed}
use Rattle.td_engine.proofs.kept.Core.install.Goals as goal

pub returns-clause-facts : goal.returns-clause-facts
returns-clause-facts g c = λ b h fa. facts_placed _ _ _ _ c.take_in.ensures.ends b h fa

pub returns-clause-journal : goal.returns-clause-journal
returns-clause-journal g c = λ b h fa j. journal_placed _ _ _ _ c.take_in.ensures.ends b h fa j

pub returns-clause-image : goal.returns-clause-image
returns-clause-image g c = λ b h image. image_placed _ _ _ _ c.take_in.ensures.ends b h image

pub returns-clause-floor : goal.returns-clause-floor
returns-clause-floor g c = λ b h le. floor_placed _ _ _ _ c.take_in.ensures.ends b h le

pub returns-clause-clock : goal.returns-clause-clock
returns-clause-clock g c = λ opened b h clock. clock_placed _ _ _ _ c.take_in.ensures.ends b h opened clock

pub returns-clause-rows : goal.returns-clause-rows
returns-clause-rows g c =
    let by_range = subst (λ k. AreByRange k.levels.sets) c.self.view_is c.self.invariant.stored.by_range in
    let finished = subst (λ k. IfSome (g.S.Store.told k.store) (AreFinished k.levels.sets)) c.self.view_is c.self.invariant.stored.files in
    λ b h fa rows. rows_placed_now _ _ _ _ c.take_in.ensures.ends b h c.requires.out by_range finished fa rows

pub returns-clause-held : goal.returns-clause-held
returns-clause-held g c = held_placed _ _ _ _ c.take_in.ensures.ends

pub returns-clause-pins : goal.returns-clause-pins
returns-clause-pins g c = pins_placed _ _ _ _ c.take_in.ensures.ends
