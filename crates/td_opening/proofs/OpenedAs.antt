-- What a store that is settled stands for, by what was read of it and by what its head and its logs make.
use Rattle.std.proofs.Common.{◌≡◌, ◌⊎◌, inl, inr, ℕ, ◌+◌, ◌<◌, ◌≤◌, Bool, true, false, eqb, List, [], ◌∷◌, length, map, Option, Some, None, refl, sym, ap, subst, ◌∙◌, arith}
use Rattle.std.specs.Prelude.{◌≢◌, ◌&&◌, All, is_some, IfSome}
use Rattle.std.specs.Option.{option_map}
use Rattle.std.proofs.lemmas.Bool.{eq-eqb, ne_eqb}
use Rattle.std.proofs.lemmas.List.Elements.{All-nil, All-cons}
use Rattle.td_model.specs.State.{State, Rows}
use Rattle.td_outside.specs.Image.{Log, Image, Along}
use Rattle.td_outside.specs.Logs.{after_sync}
use Rattle.td_memtable.specs.Contents.{Contents, nothing_held}
use Rattle.td_manifest.specs.declared.head.Head.{Head}
use Rattle.td_manifest.specs.Files.{all_files}
use Rattle.td_manifest.specs.Heads.{head_body}
use Rattle.td_wal.specs.declared.item.LogItem.{LogItem}
use Rattle.td_wal.specs.Log.{LogAt}
use Rattle.td_fileset.specs.Layered.{HaveOwnRanges}
use Rattle.td_levels.specs.Levels.{SetFiles, Levels, Files, open_sets, rows_over}
use Rattle.td_levels.specs.Fits.{FitsMemtable, FitsLevels}
use Rattle.td_levels.specs.Laws.{HoldRows, frozen_of}
use Rattle.td_levels.proofs.ByRange.{own_ranges}
use Rattle.td_levels.proofs.Frozen.{freezes_keep}
use Rattle.td_stands.specs.declared.file_id.FileId.{FileId}
use Rattle.td_stands.specs.Heads.{catalog_of, state_of_head, levels_of_head, set_files, HeadIs}
use Rattle.td_stands.specs.Replay.{Replays}
use Rattle.td_stands.specs.Laws.{with_rows}
use Rattle.td_stands.specs.Stands.{HasItems, FilesMake, Stands}
use Rattle.td_stands.specs.Breaks.{HeadStands, BreaksFirst}
use Rattle.td_stands.proofs.Replaying.{one_replay, replays_version}
use Rattle.td_stands.proofs.Rows.{rows_have_no_part}
use Rattle.td_stands.proofs.Standing.{Bare, one_head, one_items, whole_or_break}
use Rattle.td_state.specs.Facts.{facts}
use Rattle.td_state.specs.Held.{bare}
use Rattle.td_active.specs.declared.active_log.ActiveLog.{ActiveLog}
use Rattle.td_active.specs.Active.{AtGate, IsWritten, FrozenIs, IsActive}
use Rattle.td_active.specs.Stored.{IsStored, AreFinished}
use Rattle.td_opening.specs.declared.opening.Opened.{Opened}
use Rattle.td_opening.specs.declared.opening.Said.{Said}
use Rattle.td_opening.specs.declared.replaying.LogBytes.{LogBytes}
use Rattle.td_opening.specs.declared.replaying.Replayed.{Replayed}
use Rattle.td_opening.specs.Opening.{BreaksNowhere, HoldsLogs, Says, IsWhole, HasOpenGateFirst, HasNoItem, EndsAt, MakesState, Tidies, Settles, SettlesBy, synced, dropped, drops_second, OpensAs, OpenedAs, IsOpened}
use Rattle.td_opening.proofs.BothLogs.{bytes_of, ended_items}
use Rattle.td_opening.proofs.HeadFacts.{head_log, head_by_range}
use Rattle.td_opening.proofs.LogsSettled.{is_empty}
use Rattle.td_opening.proofs.Reached.{Reached, WritesFirst, WritesSecond, Writes, Led, led, no_streams, rows_none, going, committed_is, words, heads, by_range, ranges, last_version, last_moment, levels_fit, few_held, sealing}
use Rattle.td_opening.proofs.Settled.{Leaves, leaves, swept_by, head_still, sets_finished}
use Rattle.td_opening.proofs.Sound.{nothing_fits, memtable_fits, under, rows_held}

-- ---- one log

none_or_some : {A : Type 0} (x : A) → None ≡ Some x → ⊥
none_or_some x e = cc

some_or_none : {A : Type 0} (x : A) → Some x ≡ None → ⊥
some_or_none x e = cc

some_is : {A : Type 0} (x y : A) → Some x ≡ Some y → x ≡ y
some_is x y e = cc

-- a log that was read and made stable stands at its gate
at_gate : (first : ℕ) (bytes : Option (List ℕ)) (o : Option Log) (items : List LogItem) (gate : ℕ) → bytes ≡ bytes_of o → EndsAt first bytes items gate → AtGate first items gate (is_some bytes) (option_map after_sync o)
at_gate first None None items gate read ends = ends
at_gate first None (Some log) items gate read ends = absurd (none_or_some log.bytes read)
at_gate first (Some bytes) None items gate read ends = absurd (some_or_none bytes read)
at_gate first (Some bytes) (Some log) items gate read ends = record {
  log_at = subst (λ (b : List ℕ). LogAt first items gate b) (some_is bytes log.bytes read) ends;
  stable = record { synced = refl; whole = refl };
}

-- it has the same items
still_has : (first : ℕ) (items : List LogItem) (o : Option Log) → HasItems first items o → HasItems first items (option_map after_sync o)
still_has first items None has = has
still_has first items (Some log) has = has

-- a log whose bytes have no item has none
none_has : (first : ℕ) (bytes : Option (List ℕ)) (o : Option Log) → bytes ≡ bytes_of o → HasNoItem bytes → HasItems first [] o
none_has first bytes o read none = is_empty first [] o (subst (λ (b : Option (List ℕ)). HasNoItem b) read none) refl

-- ---- the image before it is settled

next_version : (a b n : ℕ) → b ≡ a + n → a + 1 + n ≡ b + 1
next_version a b n e = omega arith

module _ (h : Head) (logs : LogBytes) (s : State) (l : Levels) (made : Replayed) (d : Led h logs s l made) (old : Image) (holds : HoldsLogs h.first_log logs old) where
  begins_first : d.reached.older ≡ [] → (d.reached.between ≡ state_of_head h []) × (d.reached.frozen ≡ nothing_held)
  begins_first none = subst (λ (items : List LogItem). Replays (state_of_head h []) nothing_held items d.reached.between d.reached.frozen) none d.reached.makes_frozen

  bare_by : Writes h logs d.reached.older d.reached.own made.log → Bare old h
  bare_by (inl w) = record {
    older = d.reached.own;
    newer = [];
    between = d.reached.after;
    last = d.reached.after;
    frozen = l.active;
    active = nothing_held;
    first_log = ended_items (h.version + 1) logs.first (old.logs h.first_log) d.reached.own made.log.gate holds.first w.ends;
    second_log = none_has (d.reached.after.version + 1) logs.second (old.logs (h.first_log + 1)) holds.second w.second;
    in_order = λ some. absurd (some refl);
    first = subst (λ (x : State). Replays x nothing_held d.reached.own d.reached.after l.active) (begins_first w.none).0 d.reached.makes_active;
    second = (refl, refl);
  }
  bare_by (inr w) =
      let count = replays_version d.reached.older (state_of_head h []) d.reached.between nothing_held d.reached.frozen d.reached.makes_frozen in
      record {
        older = d.reached.older;
        newer = d.reached.own;
        between = d.reached.between;
        last = d.reached.after;
        frozen = d.reached.frozen;
        active = l.active;
        first_log = ended_items (h.version + 1) logs.first (old.logs h.first_log) d.reached.older w.gate holds.first w.ends;
        second_log = subst (λ (n : ℕ). HasItems n d.reached.own (old.logs (h.first_log + 1))) (next_version h.version d.reached.between.version (length d.reached.older) count)
            (ended_items (h.version + 1 + length d.reached.older) logs.second (old.logs (h.first_log + 1)) d.reached.own made.log.gate holds.second w.own_ends);
        in_order = λ _. w.some;
        first = d.reached.makes_frozen;
        second = d.reached.makes_active;
      }

  pub breaks_nowhere : HeadStands old h → BreaksNowhere old
  breaks_nowhere stands file at breaks = whole_or_break old h file at stands (bare_by d.writes) breaks

-- ---- the image once it is settled

-- whether the second log goes, by the log that is written
goes_first : (first_log number : ℕ) (there : Bool) → number ≡ first_log → (there && eqb number first_log) ≡ there
goes_first first_log number true is = eq-eqb number first_log is
goes_first first_log number false is = refl

goes_second : (first_log number : ℕ) (there : Bool) → number ≡ first_log + 1 → (there && eqb number first_log) ≡ false
goes_second first_log number true is = ne_eqb number first_log (λ e. apart first_log number e is)
  where
    apart : (a b : ℕ) → b ≡ a → b ≡ a + 1 → ⊥
    apart a b e f = absurd (omega arith)
goes_second first_log number false is = refl

module _ (h : Head) (logs : LogBytes) (s : State) (l : Levels) (made : Replayed) (d : Led h logs s l made) (old new : Image) (holds : HoldsLogs h.first_log logs old)
    (left : Leaves h (drops_second h.first_log logs made.log) old new) where
  first_has : (items : List LogItem) (gate : ℕ) → EndsAt (h.version + 1) logs.first items gate → HasItems (h.version + 1) items (new.logs h.first_log)
  first_has items gate ends =
      subst (λ (o : Option Log). HasItems (h.version + 1) items o) (sym left.first)
      (still_has (h.version + 1) items (old.logs h.first_log) (ended_items (h.version + 1) logs.first (old.logs h.first_log) items gate holds.first ends))

  second_stays : made.log.number ≡ h.first_log + 1 → new.logs (h.first_log + 1) ≡ option_map after_sync (old.logs (h.first_log + 1))
  second_stays is = left.second (goes_second h.first_log made.log.number (is_some logs.second) is)

  second_has : (first : ℕ) (items : List LogItem) (gate : ℕ) → made.log.number ≡ h.first_log + 1 → EndsAt first logs.second items gate → HasItems first items (new.logs (h.first_log + 1))
  second_has first items gate is ends =
      subst (λ (o : Option Log). HasItems first items o) (sym (second_stays is))
      (still_has first items (old.logs (h.first_log + 1)) (ended_items first logs.second (old.logs (h.first_log + 1)) items gate holds.second ends))

  missing_has : (first : ℕ) (bytes : Option (List ℕ)) (o : Option Log) → bytes ≡ bytes_of o → is_some bytes ≡ false → HasItems first [] (option_map after_sync o)
  missing_has first None None read none = refl
  missing_has first None (Some log) read none = absurd (none_or_some log.bytes read)
  missing_has first (Some bytes) o read none = absurd cc

  -- where the first log is written, the second is gone
  none_behind : (there : Bool) → is_some logs.second ≡ there → (first : ℕ) → made.log.number ≡ h.first_log → HasItems first [] (new.logs (h.first_log + 1))
  none_behind true e first is =
      subst (λ (o : Option Log). HasItems first [] o) (sym (left.gone (goes_first h.first_log made.log.number (is_some logs.second) is ∙ e))) refl
  none_behind false e first is =
      subst (λ (o : Option Log). HasItems first [] o) (sym (left.second (goes_first h.first_log made.log.number (is_some logs.second) is ∙ e)))
      (missing_has first logs.second (old.logs (h.first_log + 1)) holds.second e)

  -- ---- the log that is written

  is_written : Writes h logs d.reached.older d.reached.own made.log → IsWritten new h made.log.number d.reached.older
  is_written (inl w) = inl (w.number, w.none)
  is_written (inr w) = inr (w.number, w.some, first_has d.reached.older w.gate w.ends)

  no_more : (a n : ℕ) → n ≡ 0 → a + 1 ≡ a + 1 + n
  no_more a n e = omega arith

  first_is : Writes h logs d.reached.older d.reached.own made.log → made.log.first ≡ h.version + 1 + length d.reached.older
  first_is (inl w) = w.first ∙ no_more h.version (length d.reached.older) (ap (λ (x : List LogItem). length x) w.none)
  first_is (inr w) = w.first

  open_there : (bytes : Option (List ℕ)) → HasOpenGateFirst bytes → is_some bytes ≡ true
  open_there None p = absurd p
  open_there (Some bytes) p = refl

  gate_by : (first number : ℕ) (o : Option Log) (there : Bool) → made.log.first ≡ first → made.log.number ≡ number → new.logs number ≡ o → made.log.is_made ≡ there
      → AtGate first d.reached.own made.log.gate there o → AtGate made.log.first d.reached.own made.log.gate made.log.is_made (new.logs made.log.number)
  gate_by first number o there e f is made_is at =
      subst (λ (n : ℕ). AtGate n d.reached.own made.log.gate made.log.is_made (new.logs made.log.number)) (sym e)
      (subst (λ (n : ℕ). AtGate first d.reached.own made.log.gate made.log.is_made (new.logs n)) (sym f)
      (subst (λ (x : Option Log). AtGate first d.reached.own made.log.gate made.log.is_made x) (sym is)
      (subst (λ (b : Bool). AtGate first d.reached.own made.log.gate b o) (sym made_is) at)))

  written_gate : Writes h logs d.reached.older d.reached.own made.log → AtGate made.log.first d.reached.own made.log.gate made.log.is_made (new.logs made.log.number)
  written_gate (inl w) =
      gate_by (h.version + 1) h.first_log (option_map after_sync (old.logs h.first_log)) (is_some logs.first) w.first w.number left.first w.is_made
      (at_gate (h.version + 1) logs.first (old.logs h.first_log) d.reached.own made.log.gate holds.first w.ends)
  written_gate (inr w) =
      gate_by (h.version + 1 + length d.reached.older) (h.first_log + 1) (option_map after_sync (old.logs (h.first_log + 1))) (is_some logs.second) w.first w.number (second_stays w.number)
      (w.is_made ∙ sym (open_there logs.second w.open_gate))
      (at_gate (h.version + 1 + length d.reached.older) logs.second (old.logs (h.first_log + 1)) d.reached.own made.log.gate holds.second w.own_ends)

  pub is_active : HeadStands old h → IsActive new made.log s l h.version made.sealed
  is_active stands = record {
    head = h;
    head_stands = head_still h (drops_second h.first_log logs made.log) old new left stands;
    valid = d.reached.valid;
    version = refl;
    sets = d.reached.sets;
    dropped = left.before;
    older = d.reached.older;
    own = d.reached.own;
    which = is_written d.writes;
    first = first_is d.writes;
    log = written_gate d.writes;
    between = d.reached.between;
    frozen = d.reached.frozen;
    makes_frozen = d.reached.makes_frozen;
    after = d.reached.after;
    makes_active = d.reached.makes_active;
    state_is = d.reached.state_is;
    frozen_is = d.reached.frozen_is;
  }

-- ---- the states that it stands for

-- an image stands for a state by a head, by items of the log before the one that is written, and by its items
record StandsBy (image : Image) (h : Head) (older own : List LogItem) (b : State) : Type 0 where
  rows : Rows
  files : FilesMake image h rows
  between : State
  frozen : Contents
  active : Contents
  first : Replays (state_of_head h rows) nothing_held older between frozen
  second : Replays between nothing_held own b active

by_first : (image : Image) (b : State) (p : Stands image b) (own : List LogItem) → HasItems (p.head.version + 1) own (image.logs p.head.first_log) → ((first : ℕ) → HasItems first [] (image.logs (p.head.first_log + 1)))
    → StandsBy image p.head [] own b
by_first image b p own has none =
    let h = p.head in
    let same : p.older ≡ own = one_items (h.version + 1) p.older own (image.logs h.first_log) p.holds.first_log has in
    let first = h.version + 1 + length p.older in
    let nothing : p.newer ≡ [] = one_items first p.newer [] (image.logs (h.first_log + 1)) p.holds.second_log (none first) in
    let last : (b ≡ p.between) × (p.active ≡ nothing_held) = subst (λ (items : List LogItem). Replays p.between nothing_held items b p.active) nothing p.second in
    record {
      rows = p.rows;
      files = p.holds.files;
      between = state_of_head h p.rows;
      frozen = nothing_held;
      active = p.frozen;
      first = (refl, refl);
      second = subst (λ (x : State). Replays (state_of_head h p.rows) nothing_held own x p.frozen) (sym last.0)
          (subst (λ (items : List LogItem). Replays (state_of_head h p.rows) nothing_held items p.between p.frozen) same p.first);
    }

by_second : (image : Image) (b : State) (p : Stands image b) (older own : List LogItem) → HasItems (p.head.version + 1) older (image.logs p.head.first_log)
    → HasItems (p.head.version + 1 + length older) own (image.logs (p.head.first_log + 1)) → StandsBy image p.head older own b
by_second image b p older own has second_has =
    let h = p.head in
    let same : p.older ≡ older = one_items (h.version + 1) p.older older (image.logs h.first_log) p.holds.first_log has in
    let others = subst (λ (items : List LogItem). HasItems (h.version + 1 + length items) p.newer (image.logs (h.first_log + 1))) same p.holds.second_log in
    let own_same : p.newer ≡ own = one_items (h.version + 1 + length older) p.newer own (image.logs (h.first_log + 1)) others second_has in
    record {
      rows = p.rows;
      files = p.holds.files;
      between = p.between;
      frozen = p.frozen;
      active = p.active;
      first = subst (λ (items : List LogItem). Replays (state_of_head h p.rows) nothing_held items p.between p.frozen) same p.first;
      second = subst (λ (items : List LogItem). Replays p.between nothing_held items b p.active) own_same p.second;
    }

module _ (h : Head) (s : State) (l : Levels) (sealed : Option Head) (number : ℕ) (r : Reached h s l sealed number) (image : Image) (b : State) (p : StandsBy image h r.older r.own b) where
  -- the items make the same of the head's state with its rows
  record Same : Type 0 where
    frozen : p.frozen ≡ r.frozen
    active : p.active ≡ l.active
    rows : Rows
    last : b ≡ with_rows rows r.after

  same : Same
  same =
      let first = rows_have_no_part (state_of_head h []) r.between nothing_held r.frozen r.older p.rows r.makes_frozen in
      let one = one_replay (state_of_head h p.rows) p.between (with_rows first.0 r.between) nothing_held p.frozen r.frozen r.older p.first first.1 in
      let second = rows_have_no_part r.between r.after nothing_held l.active r.own first.0 r.makes_active in
      let here = subst (λ (x : State). Replays x nothing_held r.own b p.active) one.0 p.second in
      let two = one_replay (with_rows first.0 r.between) b (with_rows second.0 r.after) nothing_held p.active l.active r.own here second.1 in
      record { frozen = one.1; active = two.1; rows = second.0; last = two.0 }

  facts_are : facts s ≡ facts b
  facts_are = ap (λ (x : State). facts x) (sym r.state_is) ∙ ap (λ (x : State). facts x) (sym same.last)

  -- ---- their rows

  abbrev sets : List SetFiles
  sets = map set_files h.sets

  begin : head_body.fits h ≡ true → HoldRows image.files (state_of_head h p.rows) (under nothing_held None sets)
  begin fits = record {
    valid = r.valid;
    fits = record {
      memtables = All-cons (FitsMemtable (catalog_of h)) nothing_held [] (nothing_fits (catalog_of h)) (All-nil (FitsMemtable (catalog_of h)));
      ranges = λ files. own_ranges files sets (head_by_range h fits);
    };
    further = p.files.further;
    rows = p.files.rows_are;
  }

  held_between : head_body.fits h ≡ true → HoldRows image.files p.between (under p.frozen None sets)
  held_between fits = rows_held image.files None sets r.older (state_of_head h p.rows) p.between nothing_held p.frozen (h.version + 1) 0 r.older_fit (begin fits) p.first

  -- the memtable of the first log is frozen
  held_frozen : (m : Contents) → HoldRows image.files p.between (under m None sets) → HoldRows image.files p.between (under nothing_held (Some m) sets)
  held_frozen m held = record {
    valid = held.valid;
    fits = record {
      memtables = All-cons (FitsMemtable p.between.catalog) nothing_held (m ∷ []) (nothing_fits p.between.catalog) held.fits.memtables;
      ranges = held.fits.ranges;
    };
    further = held.further;
    rows = freezes_keep image.files p.between.catalog p.between.edge (under m None sets) refl ∙ held.rows;
  }

  held_under : (older : List LogItem) → FrozenIs older r.frozen r.between h.first_log l.frozen sealed → Replays (state_of_head h p.rows) nothing_held older p.between p.frozen
      → HoldRows image.files p.between (under p.frozen None sets) → HoldRows image.files p.between (under nothing_held l.frozen sets)
  held_under [] f made held =
      subst (λ (x : Option Contents). HoldRows image.files p.between (under nothing_held x sets)) (sym f.0)
      (subst (λ (m : Contents). HoldRows image.files p.between (under m None sets)) made.1 held)
  held_under (i ∷ is) f made held =
      subst (λ (x : Option Contents). HoldRows image.files p.between (under nothing_held x sets)) (ap (λ (m : Contents). Some m) same.frozen ∙ sym f.0) (held_frozen p.frozen held)

  held_last : head_body.fits h ≡ true → HoldRows image.files b l
  held_last fits =
      let between = held_under r.older r.frozen_is p.first (held_between fits) in
      let made = subst (λ (m : Contents). Replays p.between nothing_held r.own b m) same.active p.second in
      subst (λ (x : List SetFiles). HoldRows image.files b (under l.active l.frozen x)) (sym r.sets)
      (rows_held image.files l.frozen sets r.own p.between b nothing_held l.active (r.between.version + 1) 0 r.own_fit between made)

  stands_as : head_body.fits h ≡ true → Stands image b → OpenedAs (Some image) s l b
  stands_as fits stands = record { facts_are = facts_are; rows = held_last fits; stands = stands }

-- ---- what was opened

module _ (h : Head) (logs : LogBytes) (s : State) (l : Levels) (made : Replayed) (d : Led h logs s l made) (old new : Image) (holds : HoldsLogs h.first_log logs old)
    (left : Leaves h (drops_second h.first_log logs made.log) old new) where
  stands_by : Writes h logs d.reached.older d.reached.own made.log → (b : State) → HeadIs new.head h → Stands new b → StandsBy new h d.reached.older d.reached.own b
  stands_by (inl w) b is p =
      let own = d.reached.own in
      let same : h ≡ p.head = one_head new.head h p.head is p.holds.head in
      let has = subst (λ (x : Head). HasItems (x.version + 1) own (new.logs x.first_log)) same (first_has h logs s l made d old new holds left own made.log.gate w.ends) in
      let none = λ (first : ℕ). none_behind h logs s l made d old new holds left (is_some logs.second) refl first w.number in
      let behind = subst (λ (x : Head). (first : ℕ) → HasItems first [] (new.logs (x.first_log + 1))) same none in
      subst (λ (items : List LogItem). StandsBy new h items own b) (sym w.none) (subst (λ (x : Head). StandsBy new x [] own b) (sym same) (by_first new b p own has behind))
  stands_by (inr w) b is p =
      let older = d.reached.older in
      let own = d.reached.own in
      let same : h ≡ p.head = one_head new.head h p.head is p.holds.head in
      let has = subst (λ (x : Head). HasItems (x.version + 1) older (new.logs x.first_log)) same (first_has h logs s l made d old new holds left older w.gate w.ends) in
      let second = second_has h logs s l made d old new holds left (h.version + 1 + length older) own made.log.gate w.number w.own_ends in
      let others = subst (λ (x : Head). HasItems (x.version + 1 + length older) own (new.logs (x.first_log + 1))) same second in
      subst (λ (x : Head). StandsBy new x older own b) (sym same) (by_second new b p older own has others)

  pub opened_as : head_body.fits h ≡ true → HeadStands old h → (b : State) → Stands new b → OpenedAs (Some new) s l b
  opened_as fits stands b p =
      let is = (head_still h (drops_second h.first_log logs made.log) old new left stands).head in
      stands_as h s l made.sealed made.log.number d.reached new b (stands_by d.writes b is p) fits p

-- the parts of what was opened that no image has a part in
stored : (told : Option Image) (h : Head) (logs : LogBytes) (s : State) (l : Levels) (made : Replayed) → head_body.fits h ≡ true → Led h logs s l made → IfSome told (λ image. IsActive image made.log s l h.version made.sealed) → IfSome told (AreFinished l.sets)
    → IsStored told s l h.version made.sealed made.log
stored told h logs s l made fits d active files =
    let r = d.reached in
    let number = made.log.number in
    record {
      fits = levels_fit h s l made.sealed number r fits;
      by_range = by_range h s l made.sealed number r fits;
      ranges = ranges h s l made.sealed number r fits;
      no_streams = no_streams h s l made.sealed number r;
      words = words h s l made.sealed number r fits;
      heads = heads h s l made.sealed number r fits;
      committed_is = committed_is h s l made.sealed number r;
      sealing = sealing h s l made.sealed number r made.log refl fits;
      last_version = λ _. last_version h s l made.sealed number r fits;
      active = λ _. active;
      files = files;
    }

-- what is said of what was opened, but for the images
record Images (old new : Option Image) (h : Head) (s : State) (l : Levels) (made : Replayed) : Type 0 where
  active : IfSome new (λ image. IsActive image made.log s l h.version made.sealed)
  files : IfSome new (AreFinished l.sets)
  opens : (b : State) → OpensAs old s b → OpenedAs new s l b
  whole : IfSome old BreaksNowhere
  settles : Along Settles old new

images : (said : Said) (s : State) (l : Levels) (made : Replayed) (old new : Option Image) → IsWhole said → IfSome old (Says said) → Led said.head said.logs s l made → Along (SettlesBy said made.log) old new → Along Tidies old new
    → Images old new said.head s l made
images said s l made None None whole says d settles tidies = record {
  active = tt;
  files = tt;
  opens = λ b same. record { facts_are = same; rows = tt; stands = tt };
  whole = tt;
  settles = tt;
}
images said s l made None (Some new) whole says d settles tidies = absurd settles
images said s l made (Some old) None whole says d settles tidies = absurd settles
images said s l made (Some old) (Some new) whole says d settles tidies =
    let h = said.head in
    let drops = drops_second h.first_log said.logs made.log in
    let swept = swept_by said.named (all_files h.sets) (dropped h.first_log drops (synced h.first_log old)) new whole.named settles in
    let left = leaves h drops old new (head_log h whole.fits).0 swept in
    record {
      active = is_active h said.logs s l made d old new says.logs left says.head;
      files = sets_finished new h l.sets d.reached.sets (head_still h drops old new left says.head);
      opens = λ b p. opened_as h said.logs s l made d old new says.logs left whole.fits says.head b ((tidies.alike b).0 p);
      whole = breaks_nowhere h said.logs s l made d old says.logs says.head;
      settles = record { head = h; stands = says.head; drops = drops; swept = swept };
    }

pub is_opened : (said : Said) (o : Opened) (old new : Option Image) → IsWhole said → IfSome old (Says said) → MakesState said.head said.logs o.tables.state o.levels (record { log = o.log; sealed = o.sealed })
    → o.committed ≡ said.head.version → Along (SettlesBy said o.log) old new → Along Tidies old new → IsOpened old new o
is_opened said o old new whole says made committed settles tidies =
    let h = said.head in
    let s = o.tables.state in
    let replayed : Replayed = record { log = o.log; sealed = o.sealed } in
    let d = led h said.logs s o.levels replayed made in
    let r = d.reached in
    let i = images said s o.levels replayed old new whole says d settles tidies in
    record {
      stored = subst (λ (n : ℕ). IsStored new s o.levels n o.sealed o.log) (sym committed) (stored new h said.logs s o.levels replayed whole.fits d i.active i.files);
      moment = last_moment h s o.levels o.sealed o.log.number r whole.fits;
      rows = rows_none h s o.levels o.sealed o.log.number r;
      halt = going h s o.levels o.sealed o.log.number r;
      held = few_held h s o.levels o.sealed o.log.number r;
      opened_as = i.opens;
      whole = i.whole;
      settles = i.settles;
    }
