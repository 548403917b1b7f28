use Rattle.td_engine.specs.CoreState.{seen}
use Rattle.td_committing.specs.declared.commits.CommitEnd.TheVariants as ends
use Rattle.td_committing.proofs.Ends.{handed_ends, handed_later, handed_points, later_same, not_out, ready_of, stays_same}
use Rattle.td_committing.proofs.Points.{over_kept, over_same}
use Rattle.td_committing.proofs.commits.once.Goals as goal

pub unreachable-requires : goal.unreachable-requires
unreachable-requires g c =
    let s = seen g.S.Store.told g.S.Store.count g.C.Clock.readings in
    not_out (s c.args.core.now) (s c.freeze.new.self) c.in-Busy.version c.requires c.in-Busy.ensures.freezes

pub write_and_install-requires-clause-ready : goal.write_and_install-requires-clause-ready
write_and_install-requires-clause-ready g c = λ lifetimes within.
    let s = seen g.S.Store.told g.S.Store.count g.C.Clock.readings in
    ready_of (s c.args.core.now) (s c.freeze.new.self) c.in-Frozen.frozen c.in-Frozen.ensures.freezes

pub returns-in-Nothing : goal.returns-in-Nothing
returns-in-Nothing g c =
    let s = seen g.S.Store.told g.S.Store.count g.C.Clock.readings in
    let is = c.in-Nothing.ensures.freezes in
    record {
      ends = (is.0, is.2, is.3, is.4);
      points = over_same (s c.args.core.now) (s c.freeze.new.self) is.4;
      later = later_same (s c.args.core.now) (s c.freeze.new.self) is.4;
    }

pub returns-in-Stopped : goal.returns-in-Stopped
returns-in-Stopped g c =
    let s = seen g.S.Store.told g.S.Store.count g.C.Clock.readings in
    let is = c.in-Stopped.ensures.freezes in
    record {
      ends = is;
      points = over_same (s c.args.core.now) (s c.freeze.new.self) is.1;
      later = later_same (s c.args.core.now) (s c.freeze.new.self) is.1;
    }

pub returns-in-NoMemory : goal.returns-in-NoMemory
returns-in-NoMemory g c =
    let s = seen g.S.Store.told g.S.Store.count g.C.Clock.readings in
    let is = c.in-NoMemory.ensures.freezes in
    record {
      ends = stays_same (s c.args.core.now) (s c.freeze.new.self) is.0 is.1 is.2;
      points = over_same (s c.args.core.now) (s c.freeze.new.self) is.2;
      later = later_same (s c.args.core.now) (s c.freeze.new.self) is.2;
    }

pub returns-in-Frozen : goal.returns-in-Frozen
returns-in-Frozen g c =
    let s = seen g.S.Store.told g.S.Store.count g.C.Clock.readings in
    let e = c.in-Frozen.ensures in
    let comes = c.write_and_install.ensures in
    let points = over_kept (s c.args.core.now) (s c.freeze.new.self) e.facts e.rows e.held e.pins e.journal e.image e.floor e.clock in
    record {
      ends = handed_ends (s c.args.core.now) (s c.freeze.new.self) (s c.write_and_install.new.core) c.in-Frozen.frozen c.write_and_install.result e.freezes comes;
      points = handed_points (s c.args.core.now) (s c.freeze.new.self) (s c.write_and_install.new.core) c.in-Frozen.frozen c.write_and_install.result e.freezes points comes;
      later = handed_later (s c.args.core.now) (s c.freeze.new.self) (s c.write_and_install.new.core) c.in-Frozen.frozen c.write_and_install.result e.freezes comes;
    }
