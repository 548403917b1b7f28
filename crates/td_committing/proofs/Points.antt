-- What steps of a commit keep of what a core says of a history.
use Rattle.std.proofs.Common.{◌≡◌, ℕ, ◌≤◌, List, [], ◌∷◌, ◌++◌, Option, Some, None, All, refl, sym, ap, subst, ◌∙◌}
use Rattle.std.specs.Prelude.{IfSome}
use Rattle.std.proofs.lemmas.List.{append-nil}
use Rattle.td_limits.specs.declared.limits.TheConstants.{MEMTABLE_PARTS}
use Rattle.td_memtable.specs.Contents.{Contents}
use Rattle.td_model.specs.declared.history.Entry.{Entry}
use Rattle.td_model.specs.State.{State, after}
use Rattle.td_told.specs.Times.{WereTaken}
use Rattle.td_levels.specs.Levels.{Levels, memtables_of}
use Rattle.td_state.specs.Facts.{facts}
use Rattle.td_engine.specs.CoreState.{CoreState}
use Rattle.td_engine.specs.Covers.{FactsAre, RowsAre, HeldIs, PinsAre, JournalIs, ImageIs, FloorIs, ClockIs, greatest}
use Rattle.td_engine.specs.Commits.{KeepsButStore}
use Rattle.td_committing.specs.Commit.{CarriesOver}

-- no entry more
more_none : (P : List Entry → Type 0) (h : List Entry) → P h → P (h ++ [])
more_none P h is = subst P (sym (append-nil h)) is

less_none : (P : List Entry → Type 0) (h : List Entry) → P (h ++ []) → P h
less_none P h is = subst P (append-nil h) is

-- one step and then another
pub over_then : (old mid new : CoreState) (more : List Entry) → CarriesOver old mid [] → CarriesOver mid new more → CarriesOver old new more
over_then old mid new more one two =
    let facts_mid : (b : State) (h : List Entry) → FactsAre old b h → FactsAre mid b h = λ b h f. less_none (FactsAre mid b) h (one.facts b h f) in
    record {
      facts = λ b h f. two.facts b h (facts_mid b h f);
      rows = λ b h f is. two.rows b h (facts_mid b h f) (less_none (RowsAre mid b) h (one.rows b h f is));
      journal = λ b h f is. two.journal b h (facts_mid b h f) (less_none (JournalIs mid b) h (one.journal b h f is));
      image = λ b h f is. two.image b h (facts_mid b h f) (less_none (ImageIs mid b) h (one.image b h f is));
      floor = λ b h is. two.floor b h (less_none (FloorIs mid b) h (one.floor b h is));
      held = λ is. two.held (one.held is);
      pins = λ is. two.pins (one.pins is);
      clock = λ opened b h is. two.clock opened b h (less_none (ClockIs opened mid b) h (one.clock opened b h is));
    }

-- each point is kept as it was
pub over_kept : (old new : CoreState) → ((b : State) (h : List Entry) → FactsAre old b h → FactsAre new b h) → ((b : State) (h : List Entry) → RowsAre old b h → RowsAre new b h) → (HeldIs old → HeldIs new) → (PinsAre old → PinsAre new) → ((b : State) (h : List Entry) → JournalIs old b h → JournalIs new b h)
    → ((b : State) (h : List Entry) → ImageIs old b h → ImageIs new b h) → ((b : State) (h : List Entry) → FloorIs old b h → FloorIs new b h) → ((opened : Option (List ℕ)) (b : State) (h : List Entry) → ClockIs opened old b h → ClockIs opened new b h) → CarriesOver old new []
over_kept old new facts rows held pins journal image floor clock = record {
  facts = λ b h f. more_none (FactsAre new b) h (facts b h f);
  rows = λ b h f is. more_none (RowsAre new b) h (rows b h is);
  journal = λ b h f is. more_none (JournalIs new b) h (journal b h is);
  image = λ b h f is. more_none (ImageIs new b) h (image b h is);
  floor = λ b h is. more_none (FloorIs new b) h (floor b h is);
  held = held;
  pins = pins;
  clock = λ opened b h is. more_none (ClockIs opened new b) h (clock opened b h is);
}

-- ---- the store alone changes

pub over_store : (old new : CoreState) → KeepsButStore old new → ((b : State) (h : List Entry) → RowsAre old b h → RowsAre new b h) → (PinsAre old → PinsAre new) → ((b : State) (h : List Entry) → ImageIs old b h → ImageIs new b h) → CarriesOver old new []
over_store old new same rows pins image =
    over_kept old new
    (λ b h is. ap facts same.state ∙ is)
    rows
    (λ is. subst (λ (l : Levels). All (λ (m : Contents). m.held ≤ MEMTABLE_PARTS) (memtables_of l)) (sym same.levels) is)
    pins
    (λ b h is. record { base = same.base ∙ is.base; lines_are = same.journal ∙ is.lines_are })
    image
    (λ b h is. subst (λ (n : ℕ). (after b h).moment ≤ n) (sym same.floor) is)
    (λ opened b h is. record {
      taken = is.taken;
      were_taken = subst (WereTaken opened is.taken) (sym same.readings) is.were_taken;
      enough = is.enough;
      floor = subst (λ (n : ℕ). IfSome opened (λ readings. n ≡ greatest b.moment readings is.taken)) (sym same.floor) is.floor;
      timed = is.timed;
    })

-- ---- nothing changes, or only what is out

over_home : (c : CoreState) → CarriesOver c (record c { flight = None }) []
over_home c =
    over_kept c (record c { flight = None })
    (λ b h is. is)
    (λ b h is. is)
    (λ is. is)
    (λ is. is)
    (λ b h is. record { base = is.base; lines_are = is.lines_are })
    (λ b h is. is)
    (λ b h is. is)
    (λ opened b h is. record { taken = is.taken; were_taken = is.were_taken; enough = is.enough; floor = is.floor; timed = is.timed })

pub over_thawed : (old new : CoreState) → new ≡ record old { flight = None } → CarriesOver old new []
over_thawed old new thawed = subst (λ (c : CoreState). CarriesOver old c []) (sym thawed) (over_home old)

over_self : (c : CoreState) → CarriesOver c c []
over_self c = over_kept c c (λ b h is. is) (λ b h is. is) (λ is. is) (λ is. is) (λ b h is. is) (λ b h is. is) (λ b h is. is) (λ opened b h is. is)

pub over_same : (old new : CoreState) → new ≡ old → CarriesOver old new []
over_same old new same = subst (λ (c : CoreState). CarriesOver old c []) (sym same) (over_self old)
