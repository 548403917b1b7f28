use Rattle.std.proofs.Common.{◌≡◌, ◌∙◌, map, ap, arith}
use Rattle.std.specs.Prelude.{Err, sum}
use Rattle.td_engine.specs.CoreState.{seen}
use Rattle.td_committing.proofs.Ends.{begun, begun_given_up, gives_up_fault, gives_up_memory, rose_thawed, taken_back}
use Rattle.td_committing.proofs.Points.{over_store}
use Rattle.td_committing.proofs.Writers.{few_ranges}
use Rattle.td_committing.proofs.commits.write_and_install.Goals as goal

pub overflow_cast-len : goal.overflow_cast-len
overflow_cast-len g c = omega (arith, few_ranges c.args.frozen c.requires.ready.out.sound, c.len.ensures)

pub returns-in-Err-Failed : goal.returns-in-Err-Failed
returns-in-Err-Failed g c =
    let s = seen g.S.Store.told g.S.Store.count g.C.Clock.readings in
    let old = s c.args.core.now in
    let mid = s c.create_files.new.self in
    let new = s c.thaw.new.self in
    let e = c.in-Err-Failed.ensures in
    let points = over_store old mid e.same e.rows e.pinned e.stands in
    let thawed = c.thaw.ensures.home (e.same.flight ∙ c.requires.ready.home) in
    gives_up_fault old new c.args.frozen 0
    (taken_back old mid new c.args.frozen 0 c.requires.ready e.same e.image points e.cause.later thawed)
    (rose_thawed old mid new thawed (e.cause.failed (ap Err c.in-Err-Failed.field-0-is)))

pub returns-in-Err-NoMemory : goal.returns-in-Err-NoMemory
returns-in-Err-NoMemory g c =
    let s = seen g.S.Store.told g.S.Store.count g.C.Clock.readings in
    let old = s c.args.core.now in
    let mid = s c.create_files.new.self in
    let new = s c.thaw-in-Err-NoMemory.new.self in
    let e = c.in-Err-NoMemory.ensures in
    let points = over_store old mid e.same e.rows e.pinned e.stands in
    gives_up_memory old new c.args.frozen 0
    (taken_back old mid new c.args.frozen 0 c.requires.ready e.same e.image points e.cause.later
    (c.thaw-in-Err-NoMemory.ensures.home (e.same.flight ∙ c.requires.ready.home)))

pub returns-in-Ok-vec_of : goal.returns-in-Ok-vec_of
returns-in-Ok-vec_of g c =
    let s = seen g.S.Store.told g.S.Store.count g.C.Clock.readings in
    let old = s c.args.core.now in
    let mid = s c.create_files.new.self in
    let e = c.in-Ok.ensures in
    begun old mid (s c.write_to.new.core) c.args.frozen c.write_to.result e.same e.image e.cause.kept
    (over_store old mid e.same e.rows e.pinned e.stands) c.requires.ready c.write_to.ensures

pub returns-in-Err : goal.returns-in-Err
returns-in-Err g c =
    let s = seen g.S.Store.told g.S.Store.count g.C.Clock.readings in
    let old = s c.args.core.now in
    let mid = s c.create_files.new.self in
    let e = c.in-Ok.ensures in
    begun_given_up old mid (s c.give_up.new.core) c.args.frozen (sum (map g.S.Writer.Writer.count c.in-Err.files)) e.same
    e.image e.cause.kept (over_store old mid e.same e.rows e.pinned e.stands) c.requires.ready c.give_up.ensures
