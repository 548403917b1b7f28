use Rattle.td_top.proofs.Places.{place_well, place_badly}
use Rattle.td_top.proofs.top.play_at.Goals as goal

pub returns-in-Ok-leave-clause-plays : goal.returns-in-Ok-leave-clause-plays
returns-in-Ok-leave-clause-plays g c =
    place_well c.args.lines.now _ _ _ _ _ _ _ _ _ _ _ _ _ _ _ _ _ _ c.in-Ok.ensures.image c.in-Ok.ensures.store c.play_on_store-store.ensures.plays c.enter.ensures.taken c.leave.ensures.taken c.in-Ok.ensures.cause.kept c.leave.ensures.image c.in-Ok-leave.ensures.cause.kept

pub returns-in-Err-leave-clause-plays : goal.returns-in-Err-leave-clause-plays
returns-in-Err-leave-clause-plays g c =
    place_badly c.args.lines.now _ _ _ _ _ _ _ _ _ _ _ _ _ _ _ _ _ _ c.in-Ok.ensures.image c.in-Ok.ensures.store c.play_on_store-store.ensures.plays c.enter.ensures.taken c.leave.ensures.taken c.in-Ok.ensures.cause.kept c.leave.ensures.image c.left_with.result c.left_with.ensures c.in-Err-leave.ensures.cause.failed
