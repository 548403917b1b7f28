-- What is true of a core's state, levels and store once the files of the frozen memtable have taken its place.
use Rattle.std.proofs.Common.{◌≡◌, inl, ℕ, ◌+◌, ◌-◌, ◌≤◌, Bool, true, false, List, [], map, length, Option, Some, None, All, refl, sym, ap, subst, ◌∙◌, arith}
use Rattle.std.specs.Prelude.{is_some, if◌then◌else◌}
use Rattle.std.proofs.lemmas.Bool.{ne_eqb, eq-eqb}
use Rattle.td_model.specs.State.{State, Rows}
use Rattle.td_verdict.specs.Valid.{IsValid}
use Rattle.td_outside.specs.Image.{Log, Image, put}
use Rattle.td_outside.specs.Files.{IsFinished, after_swap}
use Rattle.td_manifest.specs.declared.head.Head.{Head}
use Rattle.td_manifest.specs.Files.{all_files}
use Rattle.td_manifest.specs.Heads.{IsHead}
use Rattle.td_manifest.specs.States.{state_of_head}
use Rattle.td_memtable.specs.Contents.{Contents, nothing_held}
use Rattle.td_commit.specs.declared.frozen.Frozen.{Frozen}
use Rattle.td_commit.specs.Files.{AreFilesOf}
use Rattle.td_commit.specs.Sound.{IsSound}
use Rattle.td_fileset.specs.declared.file_set.FileSet.{FileSet}
use Rattle.td_levels.specs.Levels.{SetFiles, Levels}
use Rattle.td_levels.specs.Sets.{sets_of}
use Rattle.td_levels.specs.Laws.{HasKindsOf}
use Rattle.td_levels.specs.Ranges.{AreRangesOf, AreByRange, with_files, sets_from, installed}
use Rattle.td_stands.specs.Heads.{set_files, HeadIs}
use Rattle.td_stands.specs.Laws.{with_rows}
use Rattle.td_stands.specs.Replay.{Replays}
use Rattle.td_stands.specs.Stands.{HasItems}
use Rattle.td_stands.proofs.Replaying.{replays_version}
use Rattle.td_stands.proofs.Rows.{rows_have_no_part}
use Rattle.td_opening.proofs.Sound.{replays_stay}
use Rattle.td_making.specs.Making.{with_sets, head_set, after_swaps, after_failed_drop}
use Rattle.td_state.specs.Held.{bare}
use Rattle.td_active.specs.declared.active_log.ActiveLog.{ActiveLog}
use Rattle.td_active.specs.Active.{AtGate, IsActive}
use Rattle.td_active.specs.Stored.{IsSealing, AreFinished}
use Rattle.td_engine.specs.Commits.{KeepsFiles}
use Rattle.td_engine.proofs.Named.{next_done, all_named, head_sets_are}
use Rattle.td_engine.proofs.Swapped.{SwapsTo, Froze, froze, second_written, items_of, sealed_tables, earlier_kinds, AreSealed, IsSwapped, swapped_stands}

-- ---- what a swap makes of the image

either : (P : Image → Type 0) (c : Bool) (x y : Image) → (c ≡ true → P x) → (c ≡ false → P y) → P (if c then x else y)
either P true x y p q = p refl
either P false x y p q = q refl

-- a log that was there is gone
abbrev without_log : ℕ → Image → Image
without_log n image =
    record image {
      logs = put n None image.logs;
      doubt = record image.doubt { fresh = put n false image.doubt.fresh; gone = put n false image.doubt.gone };
    }

none_is : (o : Option Log) → is_some o ≡ false → o ≡ None
none_is None e = refl
none_is (Some log) e = absurd (let clash : ⊥ = cc in clash)

module _ (bytes : List ℕ) (n : ℕ) (a : Image) where
  other : (m : ℕ) → (m ≡ n → ⊥) → put n None a.logs m ≡ a.logs m
  other m ne = ap (λ (b : Bool). if b then None else a.logs m) (ne_eqb m n ne)

  pub done_swaps : SwapsTo bytes n a (after_swaps bytes n a)
  done_swaps = either (SwapsTo bytes n a) (is_some (a.logs n)) (without_log n (after_swap bytes a)) (after_swap bytes a)
      (λ e. record { head = refl; files = refl; readers = refl; logs = other }) (λ e. record { head = refl; files = refl; readers = refl; logs = λ m ne. refl })

  pub done_drops : (after_swaps bytes n a).logs n ≡ None
  done_drops = either (λ (b : Image). b.logs n ≡ None) (is_some (a.logs n)) (without_log n (after_swap bytes a)) (after_swap bytes a)
      (λ e. ap (λ (b : Bool). if b then None else a.logs n) (eq-eqb n n refl)) (λ e. none_is (a.logs n) e)

  pub failed_drop_swaps : SwapsTo bytes n a (after_failed_drop bytes n a)
  failed_drop_swaps = record { head = refl; files = refl; readers = refl; logs = λ m ne. refl }

-- ---- the frozen memtable that is out, and its files

-- What an install stands on, where the store tells its image: the frozen memtable is out, its files are finished, and the
-- next head is made.
pub record IsReady (a : Image) (place : ActiveLog) (s : State) (l : Levels) (committed : ℕ) (h : Head) (f : Frozen) (numbers : List ℕ) (next : Head) (bytes : List ℕ) : Type 0 where
  pub active : IsActive a place s l committed (Some h)
  pub sealing : IsSealing f.memtable h place s committed
  pub frozen : l.frozen ≡ Some f.memtable
  pub out_kinds : HasKindsOf s.catalog f
  pub few : length f.kinds ≤ length h.tables
  pub ranges : AreRangesOf f.memtable l.sets h.edge f.ranges
  pub sound : IsSound f
  pub by_range : AreByRange l.sets
  pub finished : AreFinished l.sets a
  pub told : All (λ (n : ℕ). IsFinished n a) numbers
  pub befores : List (Option (List ℕ))
  pub files_are : AreFilesOf f f.ranges befores (map a.files numbers)
  pub next_is : (sets : List FileSet) × (next ≡ with_sets (map head_set sets) h) × (sets_of sets ≡ sets_from h.edge (with_files f.ranges numbers l.sets))
  pub bytes_are : IsHead bytes next

some_is : (x y : Contents) → Some x ≡ Some y → x ≡ y
some_is x y e = cc

same_at_most : (x y z : ℕ) → x ≤ y → y ≡ z → x ≤ z
same_at_most x y z le e = omega arith

module _ (a b : Image) (place : ActiveLog) (s : State) (l : Levels) (committed : ℕ) (h : Head) (f : Frozen) (numbers : List ℕ) (next : Head) (bytes : List ℕ) (is : IsReady a place s l committed h f numbers next bytes) where
  pub act : IsActive a place s l committed (Some h)
  act = is.active

  fr : Froze act.older act.frozen act.between act.head.first_log l.frozen h
  fr = froze act.older act.frozen act.between act.head.first_log l.frozen h act.frozen_is

  second : (place.number ≡ act.head.first_log + 1) × HasItems (act.head.version + 1) act.older (a.logs act.head.first_log)
  second = second_written a act.head place.number act.older fr.some act.which

  memtable : act.frozen ≡ f.memtable
  memtable = some_is act.frozen f.memtable (sym fr.frozen_is ∙ is.frozen)

  kinds : HasKindsOf act.between.catalog f
  kinds =
      let first = replays_stay act.older (state_of_head act.head []) act.between nothing_held act.frozen act.valid act.makes_frozen in
      let later_on = replays_stay act.own act.between act.after nothing_held l.active first.valid act.makes_active in
      let later : HasKindsOf act.after.catalog f = subst (λ (x : State). HasKindsOf x.catalog f) (sym act.state_is) is.out_kinds in
      earlier_kinds act.between.catalog act.after.catalog f later_on.grows_is (same_at_most (length f.kinds) (length h.tables) (length act.between.catalog.tables) is.few (sealed_tables h act.between fr.seals.state)) later

  sealed : AreSealed a.files act.head h act.older act.between act.frozen f numbers l.sets
  sealed = record {
    valid = act.valid;
    sets_are = act.sets;
    by_range = is.by_range;
    log_fits = items_of (act.head.version + 1) act.older (a.logs act.head.first_log) second.1;
    makes = act.makes_frozen;
    state = fr.seals.state;
    memtable = memtable;
    kinds = kinds;
    ranges = is.ranges;
    sound = is.sound;
    told = is.told;
    befores = is.befores;
    files_are = is.files_are;
  }

  grown : h.version ≡ act.head.version + length act.older
  grown = ap (λ (x : State). x.version) fr.seals.state ∙ replays_version act.older (state_of_head act.head []) act.between nothing_held act.frozen act.makes_frozen

  next_head : next ≡ with_sets (map head_set is.next_is.0) h
  next_head = is.next_is.1

  next_state : (rows : Rows) → state_of_head next rows ≡ state_of_head h rows
  next_state rows = ap (λ (x : Head). state_of_head x rows) next_head

  next_sets : map set_files next.sets ≡ sets_from h.edge (with_files f.ranges numbers l.sets)
  next_sets = ap (λ (x : Head). map set_files x.sets) next_head ∙ head_sets_are is.next_is.0 ∙ is.next_is.2

  first_log_is : next.first_log ≡ act.head.first_log + 1
  first_log_is = ap (λ (x : Head). x.first_log) next_head ∙ fr.seals.first_log

  version_is : next.version ≡ h.version
  version_is = ap (λ (x : Head). x.version) next_head

  streams_none : next.streams ≡ []
  streams_none = ap (λ (x : Head). x.streams) next_head ∙ fr.seals.no_streams

  sets_finished : AreFinished (map set_files next.sets) a
  sets_finished = subst (λ (ss : List SetFiles). AreFinished ss a) (sym next_sets) (next_done a h.edge f.ranges numbers l.sets is.told is.finished)

  named_finished : (files : ℕ → Option (List ℕ)) → files ≡ a.files → All (λ (n : ℕ). is_some (files n) ≡ true) (all_files next.sets)
  named_finished files same = subst (λ (fs : ℕ → Option (List ℕ)). All (λ (n : ℕ). is_some (fs n) ≡ true) (all_files next.sets)) (sym same) (all_named a next.sets sets_finished)

  swap_of : SwapsTo bytes act.head.first_log a b → IsSwapped a b act.head h act.older act.between act.frozen f numbers l.sets next bytes
  swap_of swaps = record {
    sealed = sealed;
    head_is = act.head_stands.head;
    first_items = second.1;
    first_log = fr.seals.first_log;
    version = grown;
    next_is = (version_is, ap (λ (x : Head). x.first_log) next_head, ap (λ (x : Head). x.edge) next_head, streams_none);
    next_state = next_state;
    next_sets = next_sets;
    bytes_are = is.bytes_are;
    finished = named_finished b.files swaps.files;
    swaps = swaps;
  }

  -- the number of the log before the next head's first one
  pub older_is : h.first_log - 1 ≡ act.head.first_log
  older_is = one_less h.first_log act.head.first_log fr.seals.first_log
    where
      one_less : (x y : ℕ) → x ≡ y + 1 → x - 1 ≡ y
      one_less x y e = omega arith

  module _ (swaps : SwapsTo bytes (h.first_log - 1) a b) where
    here : SwapsTo bytes act.head.first_log a b
    here = subst (λ (n : ℕ). SwapsTo bytes n a b) older_is swaps

    pub keeps_standing : KeepsFiles a b
    keeps_standing = record {
      stands = swapped_stands a b act.head h act.older act.between act.frozen f numbers l.sets next bytes (swap_of here);
      kept = λ n some. ap (λ (fs : ℕ → Option (List ℕ)). fs n) here.files;
      readers = here.readers;
    }

    pub now_finished : AreFinished (sets_from h.edge (with_files f.ranges numbers l.sets)) b
    now_finished = subst (λ (fs : ℕ → Option (List ℕ)). AreFinished (sets_from h.edge (with_files f.ranges numbers l.sets)) (record b { files = fs })) (sym here.files) (next_done a h.edge f.ranges numbers l.sets is.told is.finished)

    pub all_finished : All (λ (n : ℕ). IsFinished n b) (all_files next.sets)
    all_finished = named_finished b.files here.files

    pub now_head : HeadIs b.head next
    now_head = subst (λ (o : Option (List ℕ)). HeadIs o next) (sym here.head) is.bytes_are

    own_log : a.logs place.number ≡ b.logs place.number
    own_log = sym (here.logs place.number (λ e. not_same place.number act.head.first_log second.0 e))
      where
        not_same : (x y : ℕ) → x ≡ y + 1 → x ≡ y → ⊥
        not_same x y e k = absurd (omega arith)

    pub now_active : ((n : ℕ) → n + 1 ≡ next.first_log → b.logs n ≡ None) → IsActive b place s (installed f.ranges numbers h.edge l) next.version None
    now_active dropped =
        let first = replays_stay act.older (state_of_head act.head []) act.between nothing_held act.frozen act.valid act.makes_frozen in
        let state : state_of_head next [] ≡ bare act.between = next_state [] ∙ fr.seals.state in
        let bared = rows_have_no_part act.between act.after nothing_held l.active act.own [] act.makes_active in
        record {
          head = next;
          head_stands = record { head = now_head; finished = all_finished; no_streams = streams_none };
          valid = subst (λ (x : State). IsValid x.catalog) (sym state) first.valid;
          version = refl;
          sets = sym next_sets;
          dropped = dropped;
          older = [];
          own = act.own;
          which = inl (second.0 ∙ sym first_log_is, refl);
          first = begins place.first committed (length act.older) act.head.version h.version next.version act.first act.version grown version_is;
          log = subst (λ (o : Option Log). AtGate place.first act.own place.gate place.is_made o) own_log act.log;
          between = state_of_head next [];
          frozen = nothing_held;
          makes_frozen = (refl, refl);
          after = with_rows bared.0 act.after;
          makes_active = subst (λ (x : State). Replays x nothing_held act.own (with_rows bared.0 act.after) l.active) (sym state) bared.1;
          state_is = act.state_is;
          frozen_is = (refl, refl);
        }
      where
        begins : (first committed older version sealed next : ℕ) → first ≡ committed + 1 + older → version ≡ committed → sealed ≡ version + older → next ≡ sealed → first ≡ next + 1 + 0
        begins first committed older version sealed next p q r t = omega arith
