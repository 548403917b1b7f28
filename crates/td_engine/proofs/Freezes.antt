-- A freeze keeps each point of what a core says of a history.
use Rattle.std.proofs.Common.{◌≡◌, ◌⊎◌, inl, inr, ℕ, ◌≤◌, List, [], ◌∷◌, Option, Some, None, All, refl, sym, ap, subst, ◌∙◌, arith}
use Rattle.std.specs.Prelude.{IfSome}
use Rattle.std.proofs.lemmas.List.Elements.{All-head, All-cons, All-nil}
use Rattle.td_limits.specs.declared.limits.TheConstants.{MEMTABLE_PARTS}
use Rattle.td_model.specs.declared.history.Entry.{Entry}
use Rattle.td_model.specs.State.{State, after}
use Rattle.td_outside.specs.Image.{Image}
use Rattle.td_memtable.specs.Contents.{Contents, nothing_held}
use Rattle.td_commit.specs.declared.frozen.Frozen.{Frozen}
use Rattle.td_fileset.specs.Layered.{listed}
use Rattle.td_levels.specs.Levels.{Levels, Files, memtables_of}
use Rattle.td_levels.specs.Laws.{HoldRows, frozen_of}
use Rattle.td_levels.proofs.Frozen.{freezes_keep}
use Rattle.td_engine.specs.CoreState.{CoreState}
use Rattle.td_engine.specs.Covers.{FactsAre, RowsAre, HeldIs, PinsAre, JournalIs, ImageIs, FloorIs, ClockIs}
use Rattle.td_engine.specs.Commits.{IsOut, flight_of, KeepsStore, TakesFrozen, HandsOut, Freezes}
use Rattle.td_engine.specs.declared.freezing.Freeze.{Freeze}
use Rattle.td_engine.specs.declared.freezing.Freeze.TheVariants as freeze
use Rattle.td_engine.proofs.Sealed.{levels_frozen}

-- ---- what is handed out

out_still : (c : CoreState) (f : Frozen) → IsOut c f → IsOut (record c { flight = Some (flight_of f) }) f
out_still c f is = record {
  frozen = is.frozen;
  at = is.at;
  at_is = is.at_is;
  version = is.version;
  from = is.from;
  sound = is.sound;
  births = is.births;
  kinds = is.kinds;
  few = is.few;
  risen = is.risen;
  ranges = is.ranges;
}

pub hands_out : (old mid : CoreState) (f : Frozen) → old.state.halt ≡ None → old.flight ≡ None → TakesFrozen old mid f → HandsOut old (record mid { flight = Some (flight_of f) }) f
hands_out old mid f going home takes = record {
  going = going;
  home = home;
  which = elim takes.which [ inl now ↦ inl now | inr before ↦ inr before ];
  flight = refl;
  later = takes.later;
  most = takes.most;
  out = out_still mid f takes.out;
  keeps = record {
    state = takes.keeps.state;
    committed = takes.keeps.committed;
    pins = takes.keeps.pins;
    base = takes.keeps.base;
    journal = takes.keeps.journal;
    floor = takes.keeps.floor;
    told = takes.keeps.told;
    count = takes.keeps.count;
    readings = takes.keeps.readings;
  };
}

-- ---- what stays

all_kept : (old new : CoreState) → new ≡ old → KeepsStore old new
all_kept old new same = record {
  state = ap (λ (c : CoreState). c.state) same;
  committed = ap (λ (c : CoreState). c.committed) same;
  pins = ap (λ (c : CoreState). c.pins) same;
  base = ap (λ (c : CoreState). c.base) same;
  journal = ap (λ (c : CoreState). c.journal) same;
  floor = ap (λ (c : CoreState). c.floor) same;
  told = ap (λ (c : CoreState). c.told) same;
  count = ap (λ (c : CoreState). c.count) same;
  readings = ap (λ (c : CoreState). c.readings) same;
}

pub freeze_keeps : (old new : CoreState) (r : Freeze) → Freezes old new r → KeepsStore old new
freeze_keeps old new (freeze.Frozen f) is = is.keeps
freeze_keeps old new freeze.Nothing is = all_kept old new is.4
freeze_keeps old new (freeze.Busy version) is = all_kept old new is.2
freeze_keeps old new (freeze.Stopped version) is = all_kept old new is.1
freeze_keeps old new freeze.NoMemory is = all_kept old new is.2

-- the levels stay, or the active memtable is frozen
abbrev LevelsGo : CoreState → CoreState → Type 0
LevelsGo old new = (new.levels ≡ old.levels) ⊎ ((old.levels.frozen ≡ None) × (new.levels ≡ frozen_of old.levels))

levels_go : (old new : CoreState) (r : Freeze) → Freezes old new r → LevelsGo old new
levels_go old new (freeze.Frozen f) is = elim is.which [ inl now ↦ inr (now.0, now.3) | inr before ↦ inl before.3 ]
levels_go old new freeze.Nothing is = inl (ap (λ (c : CoreState). c.levels) is.4)
levels_go old new (freeze.Busy version) is = inl (ap (λ (c : CoreState). c.levels) is.2)
levels_go old new (freeze.Stopped version) is = inl (ap (λ (c : CoreState). c.levels) is.1)
levels_go old new freeze.NoMemory is = inl (ap (λ (c : CoreState). c.levels) is.2)

-- the core as it was, but for its levels, the log that is written and what is out
abbrev but_levels : CoreState → CoreState → CoreState
but_levels old new = record old { levels = new.levels; frozen_at = new.frozen_at; flight = new.flight; log = new.log }

same_store : (old new : CoreState) → KeepsStore old new → but_levels old new ≡ new
same_store old new keeps = λ i. record {
  state = sym keeps.state i;
  levels = new.levels;
  committed = sym keeps.committed i;
  frozen_at = new.frozen_at;
  flight = new.flight;
  pins = sym keeps.pins i;
  base = sym keeps.base i;
  journal = sym keeps.journal i;
  floor = sym keeps.floor i;
  log = new.log;
  told = sym keeps.told i;
  count = sym keeps.count i;
  readings = sym keeps.readings i;
}

-- ---- the points

pub hold_frozen : (files : Files) (s : State) (l : Levels) → l.frozen ≡ None → HoldRows files s l → HoldRows files s (frozen_of l)
hold_frozen files s l none h = record {
  valid = h.valid;
  fits = levels_frozen s.catalog l h.fits;
  further = h.further;
  rows = freezes_keep files s.catalog s.edge l none ∙ h.rows;
}

rows_frozen : (told : Option Image) (s : State) (l : Levels) → l.frozen ≡ None → IfSome told (λ image. HoldRows image.files s l) → IfSome told (λ image. HoldRows image.files s (frozen_of l))
rows_frozen None s l none h = tt
rows_frozen (Some image) s l none h = hold_frozen image.files s l none h

held_frozen : (l : Levels) → All (λ (m : Contents). m.held ≤ MEMTABLE_PARTS) (memtables_of l) → All (λ (m : Contents). m.held ≤ MEMTABLE_PARTS) (memtables_of (frozen_of l))
held_frozen l held =
    All-cons (λ (m : Contents). m.held ≤ MEMTABLE_PARTS) nothing_held (l.active ∷ []) (omega arith)
    (All-cons (λ (m : Contents). m.held ≤ MEMTABLE_PARTS) l.active [] (All-head (λ (m : Contents). m.held ≤ MEMTABLE_PARTS) l.active (listed l.frozen) held) (All-nil (λ (m : Contents). m.held ≤ MEMTABLE_PARTS)))

module _ (old new : CoreState) (r : Freeze) (freezes : Freezes old new r) where
  same : but_levels old new ≡ new
  same = same_store old new (freeze_keeps old new r freezes)

  pub facts_kept : (b : State) (h : List Entry) → FactsAre old b h → FactsAre new b h
  facts_kept b h is = subst (λ (c : CoreState). FactsAre c b h) same is

  pub rows_kept : (b : State) (h : List Entry) → RowsAre old b h → RowsAre new b h
  rows_kept b h is = subst (λ (c : CoreState). RowsAre c b h) same (elim (levels_go old new r freezes) [
    | inl levels ↦ subst (λ (l : Levels). IfSome old.told (λ image. HoldRows image.files (after b h) l)) (sym levels) is
    | inr frozen ↦ subst (λ (l : Levels). IfSome old.told (λ image. HoldRows image.files (after b h) l)) (sym frozen.1) (rows_frozen old.told (after b h) old.levels frozen.0 is)
  ])

  pub held_kept : HeldIs old → HeldIs new
  held_kept is = elim (levels_go old new r freezes) [
    | inl levels ↦ subst (λ (l : Levels). All (λ (m : Contents). m.held ≤ MEMTABLE_PARTS) (memtables_of l)) (sym levels) is
    | inr frozen ↦ subst (λ (l : Levels). All (λ (m : Contents). m.held ≤ MEMTABLE_PARTS) (memtables_of l)) (sym frozen.1) (held_frozen old.levels is)
  ]

  pub pins_kept : PinsAre old → PinsAre new
  pins_kept is = subst PinsAre same is

  pub journal_kept : (b : State) (h : List Entry) → JournalIs old b h → JournalIs new b h
  journal_kept b h is = subst (λ (c : CoreState). JournalIs c b h) same (record { base = is.base; lines_are = is.lines_are })

  pub image_kept : (b : State) (h : List Entry) → ImageIs old b h → ImageIs new b h
  image_kept b h is = subst (λ (c : CoreState). ImageIs c b h) same is

  pub floor_kept : (b : State) (h : List Entry) → FloorIs old b h → FloorIs new b h
  floor_kept b h is = subst (λ (c : CoreState). FloorIs c b h) same is

  pub clock_kept : (opened : Option (List ℕ)) (b : State) (h : List Entry) → ClockIs opened old b h → ClockIs opened new b h
  clock_kept opened b h is = subst (λ (c : CoreState). ClockIs opened c b h) same (record { taken = is.taken; were_taken = is.were_taken; enough = is.enough; floor = is.floor; timed = is.timed })
