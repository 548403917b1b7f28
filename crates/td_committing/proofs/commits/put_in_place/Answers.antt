use Rattle.td_engine.specs.CoreState.{seen}
use Rattle.td_engine.specs.declared.installing.Install.TheVariants as install
use Rattle.td_committing.proofs.Ends.{installed_ends, never_strange}
use Rattle.td_committing.proofs.commits.put_in_place.Goals as goal

pub install-requires-clause-out : goal.install-requires-clause-out
install-requires-clause-out g c = λ lifetimes within home. c.requires.ready.out

pub unreachable-requires : goal.unreachable-requires
unreachable-requires g c =
    let s = seen g.S.Store.told g.S.Store.count g.C.Clock.readings in
    never_strange (s c.args.core.now) (s c.install.new.self) c.args.frozen c.in-Strange.number c.requires.ready c.in-Strange.ensures.installs

pub returns-in-Installed : goal.returns-in-Installed
returns-in-Installed g c =
    let s = seen g.S.Store.told g.S.Store.count g.C.Clock.readings in
    let e = c.in-Installed.ensures in
    installed_ends (s c.args.core.now) (s c.install.new.self) c.args.frozen (install.Installed c.in-Installed.version) c.requires.ready (record {
      installs = e.installs;
      points = record {
        facts = e.facts;
        rows = e.rows;
        journal = e.journal;
        image = λ b h f is. e.image b h is;
        floor = e.floor;
        held = e.held;
        pins = e.pins;
        clock = e.clock;
      };
      later = e.later;
    })

pub returns-in-StoreFault : goal.returns-in-StoreFault
returns-in-StoreFault g c =
    let s = seen g.S.Store.told g.S.Store.count g.C.Clock.readings in
    let e = c.in-StoreFault.ensures in
    installed_ends (s c.args.core.now) (s c.install.new.self) c.args.frozen install.StoreFault c.requires.ready (record {
      installs = e.installs;
      points = record {
        facts = e.facts;
        rows = e.rows;
        journal = e.journal;
        image = λ b h f is. e.image b h is;
        floor = e.floor;
        held = e.held;
        pins = e.pins;
        clock = e.clock;
      };
      later = e.later;
    })

pub returns-in-Halted : goal.returns-in-Halted
returns-in-Halted g c =
    let s = seen g.S.Store.told g.S.Store.count g.C.Clock.readings in
    let e = c.in-Halted.ensures in
    installed_ends (s c.args.core.now) (s c.install.new.self) c.args.frozen (install.Halted c.in-Halted.version) c.requires.ready (record {
      installs = e.installs;
      points = record {
        facts = e.facts;
        rows = e.rows;
        journal = e.journal;
        image = λ b h f is. e.image b h is;
        floor = e.floor;
        held = e.held;
        pins = e.pins;
        clock = e.clock;
      };
      later = e.later;
    })

pub returns-in-NoMemory : goal.returns-in-NoMemory
returns-in-NoMemory g c =
    let s = seen g.S.Store.told g.S.Store.count g.C.Clock.readings in
    let e = c.in-NoMemory.ensures in
    installed_ends (s c.args.core.now) (s c.install.new.self) c.args.frozen install.NoMemory c.requires.ready (record {
      installs = e.installs;
      points = record {
        facts = e.facts;
        rows = e.rows;
        journal = e.journal;
        image = λ b h f is. e.image b h is;
        floor = e.floor;
        held = e.held;
        pins = e.pins;
        clock = e.clock;
      };
      later = e.later;
    })
