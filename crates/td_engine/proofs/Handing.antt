-- What is handed out by a freeze.
use Rattle.std.proofs.Common.{◌≡◌, ◌≢◌, inl, inr, ℕ, ◌+◌, ◌<◌, ◌≤◌, true, false, [], take, length, Option, Some, None, refl, sym, ap, subst, ◌∙◌, arith}
use Rattle.std.specs.Prelude.{IfSome}
use Rattle.td_model.specs.State.{State}
use Rattle.td_verdict.specs.Valid.{IsValid}
use Rattle.td_outside.specs.Image.{Image}
use Rattle.td_manifest.specs.declared.head.Head.{Head}
use Rattle.td_manifest.specs.Heads.{head_body}
use Rattle.td_manifest.specs.States.{state_of_head}
use Rattle.td_memtable.specs.Contents.{Contents}
use Rattle.td_commit.specs.declared.frozen.Frozen.{Frozen}
use Rattle.td_levels.specs.Levels.{Levels}
use Rattle.td_levels.specs.Days.{RangesFit, TimesFit}
use Rattle.td_levels.specs.Fits.{FitsLevels}
use Rattle.td_levels.specs.Laws.{frozen_of}
use Rattle.td_levels.specs.Ranges.{AreRangesOf}
use Rattle.td_state.specs.Heads as state
use Rattle.td_state.specs.Held.{headed}
use Rattle.td_state.specs.Kinds.{all_kinds}
use Rattle.td_active.specs.declared.active_log.ActiveLog.{ActiveLog}
use Rattle.td_active.specs.Stored.{IsStored}
use Rattle.td_engine.specs.CoreState.{CoreState, frozen_at, IsKept}
use Rattle.td_engine.specs.Commits.{TakesFrozen, GivesFrozen}
use Rattle.td_engine.proofs.Writable.{times_fit}
use Rattle.td_engine.proofs.Sealed.{fits_head, active_fits, frozen_fits, number_most, sealing_of, IsHeadOf, sealing_now, stored_frozen, is_out, all_kinds_are, sealed_at_now}

-- ---- the active memtable is frozen

pub active_times : (told : Option Image) (s : State) (l : Levels) (committed : ℕ) (sealed : Option Head) (place : ActiveLog) → IsValid s.catalog → IsStored told s l committed sealed place → TimesFit l.active
active_times told s l committed sealed place valid is = times_fit s.catalog l.active valid (active_fits s.catalog l is.fits)

pub head_of : (told : Option Image) (s : State) (l : Levels) (committed : ℕ) (sealed : Option Head) (place : ActiveLog) (h : Head) → IsStored told s l committed sealed place → l.frozen ≡ None → s.halt ≡ None → s.version ≢ committed
    → state_of_head h [] ≡ headed s → h.sets ≡ [] → h.streams ≡ [] → h.first_log ≡ place.number + 1
    → (s.halt ≡ None → state.FitsHead s.catalog → 1 ≤ place.number + 1 → place.number + 1 ≤ s.version + 1 → 0 < s.version → head_body.fits h ≡ true) → IsHeadOf h s (place.number + 1)
head_of told s l committed sealed place h is none going more state sets streams first fits =
    let most = number_most l.frozen sealed place s committed none is.sealing in
    let le = is.committed_is in
    record {
      state = state;
      sets = sets;
      streams = streams;
      first_log_is = first;
      fits = fits going (fits_head s.catalog is.heads) (omega arith) (omega (arith, most, le, more)) (omega (arith, le, more));
    }

pub kept_frozen : (told : Option Image) (s : State) (l new : Levels) (committed : ℕ) (sealed : Option Head) (place : ActiveLog) (h : Head) (version floor spare : ℕ) → IsKept told s l committed sealed place floor spare → l.frozen ≡ None → s.halt ≡ None → s.version ≢ committed
    → IsHeadOf h s (place.number + 1) → new ≡ frozen_of l → version ≡ s.version
    → IsKept told s new committed (Some h) (record { number = place.number + 1; first = version + 1; gate = 0; is_made = false }) floor spare
kept_frozen told s l new committed sealed place h version floor spare kept none going more head levels is =
    let stored = stored_frozen told s l committed sealed place h kept.stored none going more head in
    record {
      since = kept.since;
      last = kept.last;
      stored = subst (λ (x : Levels). IsStored told s x committed (Some h) (record { number = place.number + 1; first = version + 1; gate = 0; is_made = false })) (sym levels)
          (subst (λ (n : ℕ). IsStored told s (frozen_of l) committed (Some h) (record { number = place.number + 1; first = n + 1; gate = 0; is_made = false })) (sym is) stored);
      room = kept.room;
    }

pub takes_now : (old : CoreState) (new : Levels) (h : Head) (log : ActiveLog) (first : ℕ) (f : Frozen) → IsValid old.state.catalog → FitsLevels old.state.catalog old.levels → RangesFit old.levels.sets → old.committed ≤ old.state.version
    → old.levels.frozen ≡ None → old.state.version ≢ old.committed → IsHeadOf h old.state first → new ≡ frozen_of old.levels → f.version ≡ old.state.version → f.from ≡ old.committed → f.memtable ≡ old.levels.active
    → f.kinds ≡ all_kinds old.state.catalog → AreRangesOf old.levels.active old.levels.sets old.state.edge f.ranges
    → TakesFrozen old (record old { levels = new; frozen_at = frozen_at (Some h); log = log }) f
takes_now old new h log first f valid fits ranges le none more head levels version from memtable kinds are =
    let place : ActiveLog = record { number = first; first = 0; gate = 0; is_made = false } in
    let sealing = sealing_now h old.state old.levels old.committed place head (active_fits old.state.catalog old.levels fits) le more in
    let own : h.version ≡ old.state.version = ap (λ (x : State). x.version) head.state in
    let edge : h.edge ≡ old.state.edge = ap (λ (x : State). x.edge) head.state in
    let frozen : new.frozen ≡ Some old.levels.active = ap (λ (x : Levels). x.frozen) levels in
    let sets = ap (λ (x : Levels). x.sets) (sym levels) in
    let c : CoreState = record old { levels = new; frozen_at = frozen_at (Some h); log = log } in
    record {
      which = inl (none, more, version, levels, sealed_at_now h old.state head.state);
      flight = refl;
      later = omega (arith, version, le, more);
      most = omega (arith, version);
      out = is_out c h old.levels.active place f frozen refl valid (active_fits old.state.catalog old.levels fits) (subst RangesFit sets ranges) sealing memtable (version ∙ sym own) from
          (all_kinds_are h old.state f.kinds head.state kinds)
          (subst (λ x. AreRangesOf old.levels.active x h.edge f.ranges) sets (subst (λ (n : ℕ). AreRangesOf old.levels.active old.levels.sets n f.ranges) (sym edge) are));
      keeps = record { state = refl; committed = refl; pins = refl; base = refl; journal = refl; floor = refl; told = refl; count = refl; readings = refl };
    }

-- ---- one that was frozen before

pub frozen_times : (told : Option Image) (s : State) (l : Levels) (committed : ℕ) (sealed : Option Head) (place : ActiveLog) (m : Contents) → IsValid s.catalog → IsStored told s l committed sealed place → l.frozen ≡ Some m → TimesFit m
frozen_times told s l committed sealed place m valid is frozen = times_fit s.catalog m valid (frozen_fits s.catalog l m frozen is.fits)

pub gives_before : (told : Option Image) (c : CoreState) (sealed : Option Head) (place : ActiveLog) (h : Head) (m : Contents) (f : Frozen) → IsValid c.state.catalog → IsStored told c.state c.levels c.committed sealed place → c.levels.frozen ≡ Some m → sealed ≡ Some h
    → c.frozen_at ≡ frozen_at sealed → f.memtable ≡ m → f.version ≡ h.version → f.from ≡ c.committed → f.kinds ≡ take (length h.tables) (all_kinds c.state.catalog) → AreRangesOf m c.levels.sets h.edge f.ranges → GivesFrozen c (Some f)
gives_before told c sealed place h m f valid is frozen is_sealed at memtable version from kinds are =
    let sealing = sealing_of c.levels.frozen sealed place c.state c.committed m h frozen is_sealed is.sealing in
    let at_is = at ∙ ap frozen_at is_sealed in
    let later = sealing.later in
    let most = sealing.most in (
      (record { version = h.version; edge = h.edge; tables = length h.tables }, at_is, version, refl, refl),
      is_out c h m place f frozen at_is valid (frozen_fits c.state.catalog c.levels m frozen is.fits) is.ranges sealing memtable version from kinds are,
      omega (arith, version, later),
      omega (arith, version, most),
    )

pub takes_before : (c : CoreState) (f : Frozen) → GivesFrozen c (Some f) → TakesFrozen c c f
takes_before c f gives = record {
  which = inr gives.0;
  flight = refl;
  later = gives.2;
  most = gives.3;
  out = gives.1;
  keeps = record { state = refl; committed = refl; pins = refl; base = refl; journal = refl; floor = refl; told = refl; count = refl; readings = refl };
}

pub all_times : (told : Option Image) (s : State) (l : Levels) (committed : ℕ) (sealed : Option Head) (place : ActiveLog) → IsValid s.catalog → IsStored told s l committed sealed place → IfSome l.frozen TimesFit
all_times told s l committed sealed place valid is = by l.frozen refl
  where
    by : (frozen : Option Contents) → l.frozen ≡ frozen → IfSome frozen TimesFit
    by None e = tt
    by (Some m) e = frozen_times told s l committed sealed place m valid is e
