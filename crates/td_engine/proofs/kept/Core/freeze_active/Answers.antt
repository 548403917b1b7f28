use Rattle.std.proofs.Common.{◌≡◌, ◌≢◌, ℕ, ◌+◌, false, None, refl, sym, ap, subst, ◌∙◌}
use Rattle.td_commit.specs.declared.frozen.Frozen.{Frozen}
use Rattle.td_fileset.specs.Pinned.{pins_of}
use Rattle.td_levels.specs.Ranges.{AreRangesOf}
use Rattle.td_active.specs.declared.active_log.ActiveLog.{ActiveLog}
use Rattle.td_engine.specs.CoreState.{CoreState, frozen_at}
use Rattle.td_engine.proofs.Handing.{active_times, head_of, kept_frozen, takes_now}
use Rattle.td_engine.proofs.kept.Core.freeze_active.Goals as goal

pub active_ranges-requires-clause-times : goal.active_ranges-requires-clause-times
active_ranges-requires-clause-times g c =
    let i = c.self.inside in
    active_times (g.S.Store.told i.store) i.tables.state i.levels i.committed i.sealed i.log c.is_sound.ensures.catalog c.self.invariant.stored

pub invariant_of-self : goal.invariant_of-self
invariant_of-self g c =
    let i = c.self.inside in
    let none : i.levels.frozen ≡ None = ap (λ k. k.levels.frozen) c.self.view_is ∙ c.requires.none in
    let going : i.tables.state.halt ≡ None = ap (λ k. k.state.halt) c.self.view_is ∙ c.requires.going in
    let more : i.tables.state.version ≢ i.committed = λ e. c.requires.more (ap (λ k. k.state.version) (sym c.self.view_is) ∙ e ∙ ap (λ k. k.committed) c.self.view_is) in
    let h = c.in_ok-sealed.sealed in
    let head = head_of (g.S.Store.told i.store) i.tables.state i.levels i.committed i.sealed i.log h c.self.invariant.stored none going more c.in_ok-sealed.ensures.state c.in_ok-sealed.ensures.sets c.in_ok-sealed.ensures.streams c.in_ok-sealed.ensures.first_log c.in_ok-sealed.ensures.fits in
    kept_frozen (g.S.Store.told i.store) i.tables.state i.levels c.freeze.new.self i.committed i.sealed i.log h c.version-version.result i.floor i.journal.spare c.self.invariant none going more head c.freeze.ensures c.version-version.ensures

pub returns-clause-ok : goal.returns-clause-ok
returns-clause-ok g c =
    let i = c.self.inside in
    let none : i.levels.frozen ≡ None = ap (λ k. k.levels.frozen) c.self.view_is ∙ c.requires.none in
    let going : i.tables.state.halt ≡ None = ap (λ k. k.state.halt) c.self.view_is ∙ c.requires.going in
    let more : i.tables.state.version ≢ i.committed = λ e. c.requires.more (ap (λ k. k.state.version) (sym c.self.view_is) ∙ e ∙ ap (λ k. k.committed) c.self.view_is) in
    let h = c.in_ok-sealed.sealed in
    let head = head_of (g.S.Store.told i.store) i.tables.state i.levels i.committed i.sealed i.log h c.self.invariant.stored none going more c.in_ok-sealed.ensures.state c.in_ok-sealed.ensures.sets c.in_ok-sealed.ensures.streams c.in_ok-sealed.ensures.first_log c.in_ok-sealed.ensures.fits in
    let x : CoreState = record {
      state = i.tables.state;
      levels = i.levels;
      committed = i.committed;
      frozen_at = frozen_at i.sealed;
      flight = i.flight;
      pins = pins_of i.pins;
      base = i.base;
      journal = i.journal.items;
      floor = i.floor;
      log = i.log;
      told = g.S.Store.told i.store;
      count = g.S.Store.count i.store;
      readings = g.C.Clock.readings i.clock;
    } in
    let f : Frozen = record { number = i.next_number; from = i.committed; version = c.version-version.result; ranges = c.in_ok-ranges.ranges; memtable = c.in_ok-memtable.memtable; kinds = c.in_ok-kinds.kinds } in
    let log : ActiveLog = record { number = i.log.number + 1; first = c.version-version.result + 1; gate = 0; is_made = false } in
    let ranges = subst (λ (n : ℕ). AreRangesOf i.levels.active i.levels.sets n c.in_ok-ranges.ranges) c.edge.ensures c.in_ok-ranges.ensures in
    rw (← c.self.view_is) (takes_now x c.freeze.new.self h log (i.log.number + 1) f c.is_sound.ensures.catalog c.self.invariant.stored.fits c.self.invariant.stored.ranges c.self.invariant.stored.committed_is none more head c.freeze.ensures c.version-version.ensures refl c.in_ok-memtable.ensures c.in_ok-kinds.ensures ranges)
