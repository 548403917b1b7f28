-- What the items of two logs make of the state of a head, whichever log is written.
use Rattle.std.proofs.Common.{◌≡◌, ◌⊎◌, inl, inr, ℕ, zero, suc, ◌+◌, ◌<◌, ◌≤◌, true, false, List, [], ◌∷◌, length, map, Option, Some, None, refl, sym, ap, subst, ◌∙◌, arith}
use Rattle.std.specs.Prelude.{◌≢◌, All, is_some}
use Rattle.std.proofs.lemmas.List.{length-map}
use Rattle.std.proofs.lemmas.List.Elements.{All-nil, All-cons, All-weaker}
use Rattle.td_limits.specs.declared.limits.TheConstants.{LAST_TIMESTAMP, LAST_VERSION, MEMTABLE_PARTS}
use Rattle.td_layer.specs.declared.values.Key.{Key}
use Rattle.td_layer.specs.declared.parts.Partial.{Partial}
use Rattle.td_model.specs.declared.catalog.TableDef.{TableDef}
use Rattle.td_model.specs.State.{State}
use Rattle.td_verdict.specs.Valid.{IsValid}
use Rattle.td_memtable.specs.Contents.{Contents, nothing_held}
use Rattle.td_manifest.specs.declared.head.Head.{Head}
use Rattle.td_manifest.specs.Heads.{head_body}
use Rattle.td_manifest.specs.States.{table_def}
use Rattle.td_wal.specs.declared.item.LogItem.{LogItem}
use Rattle.td_wal.specs.Log.{items_fit}
use Rattle.td_fileset.specs.Layered.{listed, HaveOwnRanges}
use Rattle.td_levels.specs.Levels.{SetFiles, Levels, open_sets, memtables_of}
use Rattle.td_levels.specs.Fits.{FitsPut, FitsCut, FitsMemtable, FitsLevels}
use Rattle.td_levels.specs.Days.{RangesFit}
use Rattle.td_levels.specs.Ranges.{AreByRange}
use Rattle.td_levels.proofs.ByRange.{own_ranges}
use Rattle.td_levels.proofs.Grown.{fits_still}
use Rattle.td_stands.specs.Heads.{catalog_of, state_of_head, levels_of_head, set_files}
use Rattle.td_stands.specs.Replay.{Replays}
use Rattle.td_stands.specs.Laws.{with_rows}
use Rattle.td_stands.proofs.Replaying.{replays_version}
use Rattle.td_stands.proofs.Rows.{rows_have_no_part}
use Rattle.td_state.specs.Held.{bare}
use Rattle.td_printed.specs.Heads.{FitsHead}
use Rattle.td_printed.specs.Names.{AreWords}
use Rattle.td_active.specs.declared.active_log.ActiveLog.{ActiveLog}
use Rattle.td_active.specs.Active.{Seals, FrozenIs}
use Rattle.td_active.specs.Stored.{IsSealing, Sealing}
use Rattle.td_opening.specs.declared.replaying.LogBytes.{LogBytes}
use Rattle.td_opening.specs.declared.replaying.Replayed.{Replayed}
use Rattle.td_opening.specs.Opening.{HasOpenGateFirst, HasNoItem, EndsAt, MakesOf, EndsFirst, EndsSecond, MakesState}
use Rattle.td_opening.proofs.HeadFacts.{head_numbers, head_ranges, head_by_range}
use Rattle.td_opening.proofs.HeadNames.{head_fits_head, head_words}
use Rattle.td_opening.proofs.Moments.{replays_moment, replays_halt}
use Rattle.td_opening.proofs.Ranges.{ends_fit, versions_in_range, moments_in_range}
use Rattle.td_opening.proofs.Sound.{Stays, stays_then, replays_stay, nothing_fits, memtable_fits}

-- ---- what the items make

-- the log of this number is written, behind items of the log before it
abbrev pub IsNumber : Head → ℕ → List LogItem → Type 0
IsNumber h number older = ((number ≡ h.first_log) × (older ≡ [])) ⊎ ((number ≡ h.first_log + 1) × (older ≢ []))

-- items of the log before, where another is written, and then those of the one that is written, make of the state of a
-- head a state and levels
pub record Reached (h : Head) (s : State) (l : Levels) (sealed : Option Head) (number : ℕ) : Type 0 where
  pub valid : IsValid (catalog_of h)
  pub older : List LogItem
  pub own : List LogItem
  pub between : State
  pub frozen : Contents
  pub after : State
  pub older_fit : items_fit (h.version + 1) 0 older ≡ true
  pub own_fit : items_fit (between.version + 1) 0 own ≡ true
  pub makes_frozen : Replays (state_of_head h []) nothing_held older between frozen
  pub makes_active : Replays between nothing_held own after l.active
  pub state_is : bare after ≡ s
  pub frozen_is : FrozenIs older frozen between h.first_log l.frozen sealed
  pub sets : l.sets ≡ map set_files h.sets
  pub number_is : IsNumber h number older

-- ---- the bytes of the logs

-- the first log is written, and has these items; the second has none
pub record WritesFirst (h : Head) (logs : LogBytes) (older own : List LogItem) (place : ActiveLog) : Type 0 where
  pub none : older ≡ []
  pub number : place.number ≡ h.first_log
  pub first : place.first ≡ h.version + 1
  pub is_made : place.is_made ≡ is_some logs.first
  pub ends : EndsAt (h.version + 1) logs.first own place.gate
  pub second : HasNoItem logs.second

-- the second log is written, and has these items, behind those of the first
pub record WritesSecond (h : Head) (logs : LogBytes) (older own : List LogItem) (place : ActiveLog) : Type 0 where
  pub some : older ≢ []
  pub number : place.number ≡ h.first_log + 1
  pub first : place.first ≡ h.version + 1 + length older
  pub is_made : place.is_made ≡ true
  pub gate : ℕ
  pub ends : EndsAt (h.version + 1) logs.first older gate
  pub own_ends : EndsAt (h.version + 1 + length older) logs.second own place.gate
  pub open_gate : HasOpenGateFirst logs.second

abbrev pub Writes : Head → LogBytes → List LogItem → List LogItem → ActiveLog → Type 0
Writes h logs older own place = WritesFirst h logs older own place ⊎ WritesSecond h logs older own place

-- what the logs make, and what their bytes are
pub record Led (h : Head) (logs : LogBytes) (s : State) (l : Levels) (made : Replayed) : Type 0 where
  pub reached : Reached h s l made.sealed made.log.number
  pub writes : Writes h logs reached.older reached.own made.log

-- what the first log makes of the state and the levels of a head
abbrev FirstMakes : Head → LogBytes → ℕ → State → Levels → Type 0
FirstMakes h logs gate t k = MakesOf logs.first gate (state_of_head h []) (levels_of_head h) t k

led_first : (h : Head) (logs : LogBytes) (s : State) (l : Levels) (made : Replayed) (gate : ℕ) (t : State) (k : Levels) → IsValid (catalog_of h) → FirstMakes h logs gate t k → EndsFirst h logs gate t k made s l
    → Led h logs s l made
led_first h logs s l made gate t k valid m e =
    let levels = e.levels ∙ m.makes.levels in
    let number : made.log.number ≡ h.first_log = ap (λ (p : ActiveLog). p.number) e.log in
    record {
      reached = record {
        valid = valid;
        older = [];
        own = m.items;
        between = state_of_head h [];
        frozen = nothing_held;
        after = m.makes.then;
        older_fit = refl;
        own_fit = ends_fit (h.version + 1) logs.first m.items gate m.ends;
        makes_frozen = (refl, refl);
        makes_active = subst (λ (x : Contents). Replays (state_of_head h []) nothing_held m.items m.makes.then x) (sym (ap (λ (x : Levels). x.active) levels)) m.makes.replays;
        state_is = sym (e.state ∙ m.makes.state);
        frozen_is = (ap (λ (x : Levels). x.frozen) levels, e.unsealed);
        sets = ap (λ (x : Levels). x.sets) levels;
        number_is = inl (number, refl);
      };
      writes = inl (record {
        none = refl;
        number = number;
        first = ap (λ (p : ActiveLog). p.first) e.log;
        is_made = ap (λ (p : ActiveLog). p.is_made) e.log;
        ends = subst (λ (n : ℕ). EndsAt (h.version + 1) logs.first m.items n) (sym (ap (λ (p : ActiveLog). p.gate) e.log)) m.ends;
        second = e.none;
      });
    }

-- beside a frozen memtable stands the sealed head
sealed_some : (older : List LogItem) (m : Contents) (s : State) (log : ℕ) (frozen : Option Contents) (sealed : Option Head) (it : Head) → older ≢ [] → frozen ≡ Some m → sealed ≡ Some it → Seals it log (bare s)
    → FrozenIs older m s log frozen sealed
sealed_some [] m s log frozen sealed it some e f seals = absurd (some refl)
sealed_some (i ∷ is) m s log frozen sealed it some e f seals =
    (e, it, f, record { state = seals.state; first_log = seals.first_log; no_sets = seals.no_sets; no_streams = seals.no_streams; fits = seals.fits })

none_more : (a b n : ℕ) → a ≡ b + n → n ≡ 0 → a ≡ b
none_more a b n e none = omega arith

next_after : (a b n : ℕ) → a ≡ b + n → a + 1 ≡ b + 1 + n
next_after a b n e = omega arith

led_second : (h : Head) (logs : LogBytes) (s : State) (l : Levels) (made : Replayed) (gate : ℕ) (t : State) (k : Levels) → IsValid (catalog_of h) → FirstMakes h logs gate t k → EndsSecond h logs t k made s l
    → Led h logs s l made
led_second h logs s l made gate t k valid m e =
    let b = m.makes.then in
    let p = e.second in
    let count : t.version ≡ h.version + length m.items =
    ap (λ (x : State). x.version) m.makes.state ∙ replays_version m.items (state_of_head h []) b nothing_held m.makes.active m.makes.replays in
    let some : m.items ≢ [] = λ none. e.behind (none_more t.version h.version (length m.items) count (ap (λ (x : List LogItem). length x) none)) in
    let later = next_after t.version h.version (length m.items) count in
    let number : made.log.number ≡ h.first_log + 1 = ap (λ (x : ActiveLog). x.number) p.log in
    let from_bare = subst (λ (x : State). Replays x nothing_held p.items p.then l.active) m.makes.state p.replays in
    let on = rows_have_no_part (bare b) p.then nothing_held l.active p.items b.rows from_bare in
    let active : k.active ≡ m.makes.active = ap (λ (x : Levels). x.active) m.makes.levels in
    record {
      reached = record {
        valid = valid;
        older = m.items;
        own = p.items;
        between = b;
        frozen = m.makes.active;
        after = with_rows on.0 p.then;
        older_fit = ends_fit (h.version + 1) logs.first m.items gate m.ends;
        own_fit = subst (λ (x : State). items_fit (x.version + 1) 0 p.items ≡ true) m.makes.state (ends_fit (t.version + 1) logs.second p.items p.gate p.ends);
        makes_frozen = m.makes.replays;
        makes_active = on.1;
        state_is = sym p.state;
        frozen_is = sealed_some m.items m.makes.active b h.first_log l.frozen made.sealed p.head some
            (ap (λ (x : Levels). x.frozen) p.levels ∙ ap (λ (x : Contents). Some x) active) p.sealed (subst (λ (x : State). Seals p.head h.first_log x) m.makes.state p.seals);
        sets = ap (λ (x : Levels). x.sets) p.levels ∙ ap (λ (x : Levels). x.sets) m.makes.levels;
        number_is = inr (number, some);
      };
      writes = inr (record {
        some = some;
        number = number;
        first = ap (λ (x : ActiveLog). x.first) p.log ∙ later;
        is_made = ap (λ (x : ActiveLog). x.is_made) p.log;
        gate = gate;
        ends = m.ends;
        own_ends = subst (λ (n : ℕ). EndsAt n logs.second p.items made.log.gate) later
            (subst (λ (n : ℕ). EndsAt (t.version + 1) logs.second p.items n) (sym (ap (λ (x : ActiveLog). x.gate) p.log)) p.ends);
        open_gate = e.open_gate;
      });
    }

pub led : (h : Head) (logs : LogBytes) (s : State) (l : Levels) (made : Replayed) → MakesState h logs s l made → Led h logs s l made
led h logs s l made m = by m.which
  where
    by : (EndsFirst h logs m.gate m.between m.frozen made s l ⊎ EndsSecond h logs m.between m.frozen made s l) → Led h logs s l made
    by (inl e) = led_first h logs s l made m.gate m.between m.frozen m.valid m.first e
    by (inr e) = led_second h logs s l made m.gate m.between m.frozen m.valid m.first e

one_or_next : (a b : ℕ) → b ≡ a → b ≡ a + 1 → ⊥
one_or_next a b e f = absurd (omega arith)

-- where the first log is written, the second has no item
pub second_empty : (h : Head) (logs : LogBytes) (s : State) (l : Levels) (made : Replayed) → MakesState h logs s l made → made.log.number ≡ h.first_log → HasNoItem logs.second
second_empty h logs s l made m is = by (led h logs s l made m).writes
  where
    by : {older own : List LogItem} → Writes h logs older own made.log → HasNoItem logs.second
    by (inl w) = w.second
    by (inr w) = absurd (one_or_next h.first_log made.log.number is w.number)

-- ---- what is true of the state

module _ (h : Head) (s : State) (l : Levels) (sealed : Option Head) (number : ℕ) (r : Reached h s l sealed number) where
  older_stays : Stays (state_of_head h []) r.between
  older_stays = replays_stay r.older (state_of_head h []) r.between nothing_held r.frozen r.valid r.makes_frozen

  own_stays : Stays r.between r.after
  own_stays = replays_stay r.own r.between r.after nothing_held l.active older_stays.valid r.makes_active

  all_stays : Stays (state_of_head h []) r.after
  all_stays = stays_then (state_of_head h []) r.between r.after older_stays own_stays

  older_count : r.between.version ≡ h.version + length r.older
  older_count = replays_version r.older (state_of_head h []) r.between nothing_held r.frozen r.makes_frozen

  own_count : r.after.version ≡ r.between.version + length r.own
  own_count = replays_version r.own r.between r.after nothing_held l.active r.makes_active

  -- what is true of the state that was reached is true of it without its rows
  of_state : (P : State → Type 0) → P (bare r.after) → P s
  of_state P p = subst P r.state_is p

  pub no_streams : s.catalog.streams ≡ []
  no_streams = of_state (λ (x : State). x.catalog.streams ≡ []) (all_stays.streams refl)

  pub rows_none : s.rows ≡ []
  rows_none = of_state (λ (x : State). x.rows ≡ []) refl

  pub going : s.halt ≡ None
  going = of_state (λ (x : State). x.halt ≡ None)
      (replays_halt r.own r.between r.after nothing_held l.active r.makes_active
      ∙ replays_halt r.older (state_of_head h []) r.between nothing_held r.frozen r.makes_frozen)

  pub committed_is : h.version ≤ s.version
  committed_is = of_state (λ (x : State). h.version ≤ x.version) (after_both h.version r.between.version r.after.version (length r.older) (length r.own) older_count own_count)
    where
      after_both : (a b c m n : ℕ) → b ≡ a + m → c ≡ b + n → a ≤ c
      after_both a b c m n e f = omega arith

  module _ (fits : head_body.fits h ≡ true) where
    pub words : AreWords s.catalog
    words = of_state (λ (x : State). AreWords x.catalog) (all_stays.words (head_words h fits))

    pub heads : FitsHead s.catalog
    heads = of_state (λ (x : State). FitsHead x.catalog) (all_stays.heads (head_fits_head h fits))

    pub by_range : AreByRange l.sets
    by_range = subst AreByRange (sym r.sets) (head_by_range h fits)

    pub ranges : RangesFit l.sets
    ranges = subst RangesFit (sym r.sets) (head_ranges h fits)

    pub last_version : s.version ≤ LAST_VERSION
    last_version = of_state (λ (x : State). x.version ≤ LAST_VERSION)
        (versions_in_range r.between.version r.after.version r.own
        (versions_in_range h.version r.between.version r.older (head_numbers h fits).version r.older_fit older_count) r.own_fit own_count)

    pub last_moment : s.moment ≤ LAST_TIMESTAMP
    last_moment = of_state (λ (x : State). x.moment ≤ LAST_TIMESTAMP)
        (subst (λ (n : ℕ). n ≤ LAST_TIMESTAMP) (sym (replays_moment r.own r.between r.after nothing_held l.active r.makes_active))
        (moments_in_range (r.between.version + 1) 0 r.between.moment r.own r.own_fit
        (subst (λ (n : ℕ). n ≤ LAST_TIMESTAMP) (sym (replays_moment r.older (state_of_head h []) r.between nothing_held r.frozen r.makes_frozen))
        (moments_in_range (h.version + 1) 0 h.moment r.older r.older_fit (head_numbers h fits).moment))))

  -- ---- the levels

  older_fits : FitsMemtable r.between.catalog r.frozen
  older_fits = memtable_fits r.older (state_of_head h []) r.between nothing_held r.frozen (h.version + 1) 0 r.valid r.older_fit (nothing_fits (catalog_of h)) r.makes_frozen

  own_fits : FitsMemtable r.after.catalog l.active
  own_fits = memtable_fits r.own r.between r.after nothing_held l.active (r.between.version + 1) 0 older_stays.valid r.own_fit (nothing_fits r.between.catalog) r.makes_active

  -- what is true of the memtable of the first log is true of the frozen one, where there is one
  frozen_each : (P : Contents → Type 0) (older : List LogItem) → FrozenIs older r.frozen r.between h.first_log l.frozen sealed → P r.frozen → All P (listed l.frozen)
  frozen_each P [] f p = subst (λ (x : Option Contents). All P (listed x)) (sym f.0) (All-nil P)
  frozen_each P (i ∷ is) f p = subst (λ (x : Option Contents). All P (listed x)) (sym f.0) (All-cons P r.frozen [] p (All-nil P))

  after_fits : All (FitsMemtable r.after.catalog) (memtables_of l)
  after_fits =
      All-cons (FitsMemtable r.after.catalog) l.active (listed l.frozen) own_fits
      (frozen_each (FitsMemtable r.after.catalog) r.older r.frozen_is (fits_still r.between.catalog r.after.catalog own_stays.grows_is r.frozen older_fits))

  pub levels_fit : head_body.fits h ≡ true → FitsLevels s.catalog l
  levels_fit fits = record {
    memtables = of_state (λ (x : State). All (FitsMemtable x.catalog) (memtables_of l)) after_fits;
    ranges = λ files. subst (λ (sets : List SetFiles). HaveOwnRanges (open_sets files sets)) (sym r.sets) (own_ranges files (map set_files h.sets) (head_by_range h fits));
  }

  pub few_held : All (λ (m : Contents). m.held ≤ MEMTABLE_PARTS) (memtables_of l)
  few_held = All-weaker (FitsMemtable r.after.catalog) (λ (m : Contents). m.held ≤ MEMTABLE_PARTS) (λ m f. f.sound.few) (memtables_of l) after_fits

  -- ---- the frozen memtable, and the head beside it

  tables_same : (it : Head) → Seals it h.first_log r.between → length r.between.catalog.tables ≡ length it.tables
  tables_same it seals =
      ap (λ (x : State). length x.catalog.tables) (sym seals.state) ∙ length-map it.tables table_def

  put_there : (n : ℕ) → length r.between.catalog.tables ≡ n → (e : Key × Partial) → FitsPut r.between.catalog e → e.0.table ≤ n
  put_there n same e f = subst (λ (k : ℕ). e.0.table ≤ k) same f.put.key.there

  cut_there : (n : ℕ) → length r.between.catalog.tables ≡ n → (e : Key × ℕ) → FitsCut r.between.catalog e → e.0.table ≤ n
  cut_there n same e f = subst (λ (k : ℕ). e.0.table ≤ k) same f.there

  sealing_some : (place : ActiveLog) (it : Head) → place.number ≡ h.first_log + 1 → h.version < r.between.version → Seals it h.first_log r.between → IsSealing r.frozen it place s h.version
  sealing_some place it written more seals =
      let same = tables_same it seals in
      let version : it.version ≡ r.between.version = ap (λ (x : State). x.version) seals.state in
      let edge : it.edge ≡ r.between.edge = ap (λ (x : State). x.edge) seals.state in
      record {
        number = written ∙ sym seals.first_log;
        fits = seals.fits;
        no_sets = seals.no_sets;
        no_streams = seals.no_streams;
        later = subst (λ (n : ℕ). h.version < n) (sym version) more;
        most = of_state (λ (x : State). it.version ≤ x.version) (at_least it.version r.between.version r.after.version (length r.own) version own_count);
        edge = of_state (λ (x : State). it.edge ≤ x.edge) (subst (λ (n : ℕ). n ≤ r.after.edge) (sym edge) own_stays.edge);
        puts = All-weaker (FitsPut r.between.catalog) (λ (e : Key × Partial). e.0.table ≤ length it.tables) (put_there (length it.tables) same) r.frozen.puts older_fits.puts;
        cuts = All-weaker (FitsCut r.between.catalog) (λ (e : Key × ℕ). e.0.table ≤ length it.tables) (cut_there (length it.tables) same) r.frozen.cuts older_fits.cuts;
      }
    where
      at_least : (a b c n : ℕ) → a ≡ b → c ≡ b + n → a ≤ c
      at_least a b c n e f = omega arith

  number_some : (place : ActiveLog) (older : List LogItem) → IsNumber h place.number older → older ≢ [] → place.number ≡ h.first_log + 1
  number_some place older (inl w) some = absurd (some w.1)
  number_some place older (inr w) some = w.0

  number_none : (place : ActiveLog) (older : List LogItem) → IsNumber h place.number older → older ≡ [] → place.number ≡ h.first_log
  number_none place older (inl w) none = w.0
  number_none place older (inr w) none = absurd (w.1 none)

  sealing_by : (place : ActiveLog) (older : List LogItem) → h.first_log ≤ h.version + 1 → IsNumber h place.number older → r.between.version ≡ h.version + length older
      → FrozenIs older r.frozen r.between h.first_log l.frozen sealed → Sealing l.frozen sealed place s h.version
  sealing_by place [] log is count f =
      subst (λ (x : Option Contents). Sealing x sealed place s h.version) (sym f.0)
      (subst (λ (x : Option Head). Sealing None x place s h.version) (sym f.1)
      (subst (λ (n : ℕ). n ≤ h.version + 1) (sym (number_none place [] is refl)) log))
  sealing_by place (i ∷ is) log number count f =
      subst (λ (x : Option Contents). Sealing x sealed place s h.version) (sym f.0)
      (subst (λ (x : Option Head). Sealing (Some r.frozen) x place s h.version) (sym f.2)
      (sealing_some place f.1 (number_some place (i ∷ is) number (λ e. absurd cc)) (more h.version r.between.version (length is) count) f.3))
    where
      more : (a b n : ℕ) → b ≡ a + suc n → a < b
      more a b n e = omega arith

  pub sealing : (place : ActiveLog) → place.number ≡ number → head_body.fits h ≡ true → Sealing l.frozen sealed place s h.version
  sealing place is fits =
      sealing_by place r.older (head_numbers h fits).most_log (subst (λ (n : ℕ). IsNumber h n r.older) (sym is) r.number_is) older_count r.frozen_is
