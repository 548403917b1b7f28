use Rattle.std.proofs.Common.{◌≡◌, ℕ, take, length, List, Option, Some, refl, sym, ap, subst, ◌∙◌}
use Rattle.std.specs.Prelude.{IfSome}
use Rattle.td_cols.specs.declared.kinds.Kind.{Kind}
use Rattle.td_memtable.specs.Contents.{Contents}
use Rattle.td_commit.specs.declared.frozen.Frozen.{Frozen}
use Rattle.td_fileset.specs.Pinned.{pins_of}
use Rattle.td_levels.specs.Ranges.{AreRangesOf}
use Rattle.td_state.specs.Kinds.{all_kinds}
use Rattle.td_engine.specs.CoreState.{CoreState, frozen_at}
use Rattle.td_engine.proofs.Handing.{all_times, gives_before}
use Rattle.td_engine.proofs.kept.Core.frozen_before.Goals as goal

pub ranges-requires-clause-times : goal.ranges-requires-clause-times
ranges-requires-clause-times g c =
    let i = c.self.inside in
    all_times (g.S.Store.told i.store) i.tables.state i.levels i.committed i.sealed i.log c.is_sound.ensures.catalog c.self.invariant.stored

pub returns : goal.returns
returns g c =
    let i = c.self.inside in
    let m = c.in-Some.memtable in
    let h = c.in-Some-sealed.sealed in
    let x : CoreState = record {
      state = i.tables.state;
      levels = i.levels;
      committed = i.committed;
      frozen_at = frozen_at i.sealed;
      flight = i.flight;
      pins = pins_of i.pins;
      base = i.base;
      journal = i.journal.items;
      floor = i.floor;
      log = i.log;
      told = g.S.Store.told i.store;
      count = g.S.Store.count i.store;
      readings = g.C.Clock.readings i.clock;
    } in
    let f : Frozen = record { number = i.next_number; from = i.committed; version = h.version; ranges = c.in_ok-ranges.ranges; memtable = m; kinds = c.first_kinds-kinds.result } in
    let frozen : i.levels.frozen ≡ Some m = sym c.in_ok-memtable.ensures ∙ c.in-Some.is in
    let kinds : c.first_kinds-kinds.result ≡ take (length h.tables) (all_kinds i.tables.state.catalog) =
    c.first_kinds-kinds.ensures ∙ ap (λ (n : ℕ). take n c.in_ok-kinds.field-0) c.len.ensures ∙ ap (λ (ks : List (List Kind)). take (length h.tables) ks) c.in_ok-kinds.ensures in
    let ranges = subst (λ (o : Option Contents). IfSome o (λ (m : Contents). AreRangesOf m i.levels.sets h.edge c.in_ok-ranges.ranges)) frozen c.in_ok-ranges.ensures in
    rw (← c.self.view_is) (gives_before (g.S.Store.told i.store) x i.sealed i.log h m f c.is_sound.ensures.catalog c.self.invariant.stored frozen c.in-Some-sealed.is refl refl refl refl kinds ranges)
