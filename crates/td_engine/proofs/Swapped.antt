-- What an image stands for once the head is swapped for the one of its frozen memtable, whose files are finished.
use Rattle.std.proofs.Common.{◌≡◌, ◌≢◌, inl, inr, ℕ, suc, ◌+◌, ◌<◌, ◌≤◌, true, List, [], ◌∷◌, map, length, Option, Some, None, All, refl, sym, ap, subst, ◌∙◌, arith}
use Rattle.std.specs.Prelude.{is_some}
use Rattle.std.specs.List.{AllByRecursion}
use Rattle.std.proofs.lemmas.List.Elements.{All-nil, All-cons, All-from_recursion}
use Rattle.td_model.specs.declared.catalog.Column.{Column}
use Rattle.td_model.specs.Catalog.{Catalog}
use Rattle.td_model.specs.State.{State, Rows}
use Rattle.td_verdict.specs.Valid.{IsValid}
use Rattle.td_outside.specs.Image.{Log, Image}
use Rattle.td_outside.specs.Files.{IsFinished}
use Rattle.td_manifest.specs.declared.head.Head.{Head}
use Rattle.td_manifest.specs.declared.head.HeadTable.{HeadTable}
use Rattle.td_manifest.specs.Files.{all_files}
use Rattle.td_manifest.specs.Heads.{IsHead}
use Rattle.td_manifest.specs.States.{state_of_head, catalog_of, table_def}
use Rattle.td_memtable.specs.Contents.{Contents, nothing_held}
use Rattle.td_wal.specs.declared.item.LogItem.{LogItem}
use Rattle.td_wal.specs.Log.{items_fit}
use Rattle.td_commit.specs.declared.frozen.Frozen.{Frozen}
use Rattle.td_commit.specs.Sound.{IsSound}
use Rattle.td_commit.specs.Files.{AreFilesOf}
use Rattle.td_levels.specs.Levels.{SetFiles, Files, rows_over}
use Rattle.td_levels.specs.Fits.{FitsMemtable, HaveNoFurther}
use Rattle.td_levels.specs.Laws.{HoldRows, HasKindsOf, KeepFiles, AreWritten, frozen_of}
use Rattle.td_levels.specs.Ranges.{AreRangesOf, AreByRange, with_files, sets_from, installed}
use Rattle.td_levels.proofs.ByRange.{own_ranges}
use Rattle.td_levels.proofs.Commits.{commit_keeps}
use Rattle.td_levels.proofs.Grown.{Grows}
use Rattle.td_stands.specs.Heads.{set_files, levels_of_head, HeadIs}
use Rattle.td_stands.specs.Laws.{with_rows}
use Rattle.td_stands.specs.Replay.{Replays}
use Rattle.td_stands.specs.Stands.{HasItems, FilesMake, Stands}
use Rattle.td_stands.proofs.Replaying.{one_replay}
use Rattle.td_stands.proofs.Rows.{rows_have_no_part}
use Rattle.td_stands.proofs.Standing.{one_head, one_items}
use Rattle.td_opening.proofs.Sound.{under, rows_held}
use Rattle.td_state.specs.Held.{bare}
use Rattle.td_active.specs.Active.{IsWritten, Seals, FrozenIs}
use Rattle.td_engine.proofs.Sealed.{nothing_fits}
use Rattle.td_engine.proofs.Freezes.{hold_frozen}

-- ---- the image behind a swap

-- the head is these bytes, and but for the log of a number the image holds what it held
pub record SwapsTo (bytes : List ℕ) (older : ℕ) (a b : Image) : Type 0 where
  pub head : b.head ≡ Some bytes
  pub files : b.files ≡ a.files
  pub readers : b.readers ≡ a.readers
  pub logs : (n : ℕ) → (n ≡ older → ⊥) → b.logs n ≡ a.logs n

-- ---- the frozen memtable beside its head

-- the items of the first log made the frozen memtable
pub record Froze (older : List LogItem) (m : Contents) (between : State) (log : ℕ) (frozen : Option Contents) (h : Head) : Type 0 where
  pub some : older ≢ []
  pub frozen_is : frozen ≡ Some m
  pub seals : Seals h log between

pub froze : (older : List LogItem) (m : Contents) (between : State) (log : ℕ) (frozen : Option Contents) (h : Head) → FrozenIs older m between log frozen (Some h) → Froze older m between log frozen h
froze [] m between log frozen h is = absurd (let none : Some h ≡ None = is.1 in let clash : ⊥ = cc in clash)
froze (i ∷ is) m between log frozen h f =
    let same : f.1 ≡ h = some_is f.1 h (sym f.2) in
    record {
      some = λ e. let clash : ⊥ = cc in clash;
      frozen_is = f.0;
      seals = subst (λ (x : Head). Seals x log between) same f.3;
    }
  where
    some_is : (x y : Head) → Some x ≡ Some y → x ≡ y
    some_is x y e = cc

pub second_written : (image : Image) (h : Head) (number : ℕ) (older : List LogItem) → older ≢ [] → IsWritten image h number older → (number ≡ h.first_log + 1) × HasItems (h.version + 1) older (image.logs h.first_log)
second_written image h number older some which = elim which [
  | inl first ↦ absurd (some first.1)
  | inr second ↦ (second.0, second.2)
]

pub items_of : (first : ℕ) (items : List LogItem) (log : Option Log) → HasItems first items log → items_fit first 0 items ≡ true
items_of first items None has = ap (λ (l : List LogItem). items_fit first 0 l) has
items_of first items (Some log) has = has.fit

pub sealed_tables : (h : Head) (s : State) → state_of_head h [] ≡ bare s → length h.tables ≡ length s.catalog.tables
sealed_tables h s state = sym (count h.tables) ∙ ap (λ (x : State). length x.catalog.tables) state
  where
    count : (ts : List HeadTable) → length (map table_def ts) ≡ length ts
    count [] = refl
    count (t ∷ ts) = ap suc (count ts)

-- the kinds of a memtable that were those of a later catalog are those of an earlier one that has as many
pub earlier_kinds : (c d : Catalog) (f : Frozen) → Grows c d → length f.kinds ≤ length c.tables → HasKindsOf d f → HasKindsOf c f
earlier_kinds c d f grows few kinds = record {
  few = few;
  kinds = λ table one le. kinds.kinds table one le ∙ ap (λ (columns : List Column). Some (map (λ (k : Column). k.kind) columns)) (grows.same table one (at_most table (length f.kinds) (length c.tables) le few));
}
  where
    at_most : (x y z : ℕ) → x ≤ y → y ≤ z → x ≤ z
    at_most x y z p q = omega arith

-- ---- the rows of the head, and those after the items of the first log

module _ (files : Files) (head h : Head) (older : List LogItem) (between : State) (frozen : Contents) (f : Frozen) (numbers : List ℕ) (sets : List SetFiles) where
  -- what is known of the sealed head, the frozen memtable and its files
  pub record AreSealed : Type 0 where
    pub valid : IsValid (catalog_of head)
    pub sets_are : sets ≡ map set_files head.sets
    pub by_range : AreByRange sets
    pub log_fits : items_fit (head.version + 1) 0 older ≡ true
    pub makes : Replays (state_of_head head []) nothing_held older between frozen
    pub state : state_of_head h [] ≡ bare between
    pub memtable : frozen ≡ f.memtable
    pub kinds : HasKindsOf between.catalog f
    pub ranges : AreRangesOf f.memtable sets h.edge f.ranges
    pub sound : IsSound f
    pub told : All (λ (n : ℕ). is_some (files n) ≡ true) numbers
    pub befores : List (Option (List ℕ))
    pub files_are : AreFilesOf f f.ranges befores (map files numbers)

  module _ (is : AreSealed) (rows : Rows) where
    head_rows : rows_over files (catalog_of head) head.edge (levels_of_head head) ≡ Some rows → HaveNoFurther files (catalog_of head) (map set_files head.sets) → HoldRows files (state_of_head head rows) (under nothing_held None sets)
    head_rows made further = record {
      valid = is.valid;
      fits = record {
        memtables = All-cons (FitsMemtable (catalog_of head)) nothing_held [] (nothing_fits (catalog_of head)) (All-nil (FitsMemtable (catalog_of head)));
        ranges = λ fs. own_ranges fs sets is.by_range;
      };
      further = subst (λ (ss : List SetFiles). HaveNoFurther files (catalog_of head) ss) (sym is.sets_are) further;
      rows = subst (λ (ss : List SetFiles). rows_over files (catalog_of head) head.edge (under nothing_held None ss) ≡ Some rows) (sym is.sets_are) made;
    }

    -- what the items of the first log make of the head with these rows
    pub makes_rows : (after : Rows) × Replays (state_of_head head rows) nothing_held older (with_rows after between) frozen
    makes_rows = rows_have_no_part (state_of_head head []) between nothing_held frozen older rows is.makes

    kept_all : (ss : List SetFiles) → AllByRecursion (KeepFiles files files) ss
    kept_all [] = tt
    kept_all (s ∷ ss) = (record { stt = All-from_recursion (λ (n : ℕ). files n ≡ files n) s.stt (same s.stt); main = λ n e. refl }, kept_all ss)
      where
        same : (ns : List ℕ) → AllByRecursion (λ (n : ℕ). files n ≡ files n) ns
        same [] = tt
        same (n ∷ ns) = (refl, same ns)

    -- the files hold the rows that the state after the first log has
    pub rows_now : rows_over files (catalog_of head) head.edge (levels_of_head head) ≡ Some rows → HaveNoFurther files (catalog_of head) (map set_files head.sets) → HoldRows files (with_rows makes_rows.0 between) (installed f.ranges numbers h.edge (frozen_of (under frozen None sets)))
    rows_now made further =
        let t = with_rows makes_rows.0 between in
        let held = rows_held files None sets older (state_of_head head rows) t nothing_held frozen (head.version + 1) 0 is.log_fits (head_rows made further) makes_rows.1 in
        let now = hold_frozen files t (under frozen None sets) refl held in
        let edge : h.edge ≡ between.edge = ap (λ (x : State). x.edge) is.state in
        let memtable : Some frozen ≡ Some f.memtable = ap (λ (x : Contents). Some x) is.memtable in
        let written : AreWritten files files f numbers sets = record {
          sound = is.sound;
          told = is.told;
          befores = is.befores;
          files_are = is.files_are;
          kept = All-from_recursion (KeepFiles files files) sets (kept_all sets);
        } in
        (commit_keeps files files t (frozen_of (under frozen None sets)) f h.edge numbers memtable is.kinds is.ranges (same_at_most h.edge between.edge edge) is.by_range written now).0
      where
        same_at_most : (x y : ℕ) → x ≡ y → x ≤ y
        same_at_most x y e = omega arith

-- ---- the image stands for what it stood for

module _ (a b : Image) (head h : Head) (older : List LogItem) (between : State) (frozen : Contents) (f : Frozen) (numbers : List ℕ) (sets : List SetFiles) (next : Head) (bytes : List ℕ) where
  -- what is known of the swap
  pub record IsSwapped : Type 0 where
    pub sealed : AreSealed a.files head h older between frozen f numbers sets
    pub head_is : HeadIs a.head head
    pub first_items : HasItems (head.version + 1) older (a.logs head.first_log)
    pub first_log : h.first_log ≡ head.first_log + 1
    pub version : h.version ≡ head.version + length older
    pub next_is : (next.version ≡ h.version) × (next.first_log ≡ h.first_log) × (next.edge ≡ h.edge) × (next.streams ≡ [])
    pub next_state : (rows : Rows) → state_of_head next rows ≡ state_of_head h rows
    pub next_sets : map set_files next.sets ≡ sets_from h.edge (with_files f.ranges numbers sets)
    pub bytes_are : IsHead bytes next
    pub finished : All (λ (n : ℕ). IsFinished n b) (all_files next.sets)
    pub swaps : SwapsTo bytes head.first_log a b

  module _ (is : IsSwapped) where
    other_log : (n : ℕ) → head.first_log < n → a.logs n ≡ b.logs n
    other_log n past = sym (is.swaps.logs n (λ e. not_same n head.first_log e past))
      where
        not_same : (x y : ℕ) → x ≡ y → y < x → ⊥
        not_same x y e lt = absurd (omega arith)

    next_rows : (rows : Rows) → rows_over a.files (catalog_of head) head.edge (levels_of_head head) ≡ Some rows → HaveNoFurther a.files (catalog_of head) (map set_files head.sets)
        → (after : Rows) × Replays (state_of_head head rows) nothing_held older (with_rows after between) frozen × FilesMake b next after
    next_rows rows made further =
        let t = makes_rows a.files head h older between frozen f numbers sets is.sealed rows in
        let hold = rows_now a.files head h older between frozen f numbers sets is.sealed rows made further in
        let catalog : between.catalog ≡ catalog_of next = ap (λ (x : State). x.catalog) (sym (is.next_state [] ∙ is.sealed.state)) in
        let edge : between.edge ≡ next.edge = ap (λ (x : State). x.edge) (sym (is.next_state [] ∙ is.sealed.state)) in
        let ss = sets_from h.edge (with_files f.ranges numbers sets) in
        let same = sym is.next_sets in (
          t.0,
          t.1,
          record {
            finished = is.finished;
            rows_are = subst (λ (fs : Files). rows_over fs (catalog_of next) next.edge (levels_of_head next) ≡ Some t.0) (sym is.swaps.files)
                (subst (λ (x : List SetFiles). rows_over a.files (catalog_of next) next.edge (under nothing_held None x) ≡ Some t.0) same
                (subst (λ (e : ℕ). rows_over a.files (catalog_of next) e (under nothing_held None ss) ≡ Some t.0) edge
                (subst (λ (c : Catalog). rows_over a.files c between.edge (under nothing_held None ss) ≡ Some t.0) catalog hold.rows)));
            further = subst (λ (fs : Files). HaveNoFurther fs (catalog_of next) (map set_files next.sets)) (sym is.swaps.files)
                (subst (λ (x : List SetFiles). HaveNoFurther a.files (catalog_of next) x) same
                (subst (λ (c : Catalog). HaveNoFurther a.files c ss) catalog hold.further));
          },
        )

    past_first : (n m k : ℕ) → n ≡ m + 1 → n + 1 < k → m + 1 < k
    past_first n m k e lt = omega arith

    pub swapped_stands : (s : State) → Stands a s → Stands b s
    swapped_stands s stands =
        let holds = stands.holds in
        let same : stands.head ≡ head = one_head a.head stands.head head holds.head is.head_is in
        let own_first : HasItems (head.version + 1) stands.older (a.logs head.first_log) = subst (λ (x : Head). HasItems (x.version + 1) stands.older (a.logs x.first_log)) same holds.first_log in
        let items : stands.older ≡ older = one_items (head.version + 1) stands.older older (a.logs head.first_log) own_first is.first_items in
        let made : rows_over a.files (catalog_of head) head.edge (levels_of_head head) ≡ Some stands.rows = subst (λ (x : Head). rows_over a.files (catalog_of x) x.edge (levels_of_head x) ≡ Some stands.rows) same holds.files.rows_are in
        let further : HaveNoFurther a.files (catalog_of head) (map set_files head.sets) = subst (λ (x : Head). HaveNoFurther a.files (catalog_of x) (map set_files x.sets)) same holds.files.further in
        let now = next_rows stands.rows made further in
        let begun : Replays (state_of_head head stands.rows) nothing_held older stands.between stands.frozen =
        subst (λ (l : List LogItem). Replays (state_of_head head stands.rows) nothing_held l stands.between stands.frozen) items
        (subst (λ (x : Head). Replays (state_of_head x stands.rows) nothing_held stands.older stands.between stands.frozen) same stands.first) in
        let one : stands.between ≡ with_rows now.0 between = (one_replay (state_of_head head stands.rows) stands.between (with_rows now.0 between) nothing_held stands.frozen frozen older begun now.1).0 in
        let state : with_rows now.0 between ≡ state_of_head next now.0 = ap (with_rows now.0) (sym (is.next_state [] ∙ is.sealed.state)) in
        let second : HasItems (next.version + 1) stands.newer (b.logs next.first_log) =
        subst (λ (n : ℕ). HasItems (n + 1) stands.newer (b.logs next.first_log)) (sym (is.next_is.0 ∙ is.version))
        (subst (λ (n : ℕ). HasItems (head.version + length older + 1) stands.newer (b.logs n)) (sym (is.next_is.1 ∙ is.first_log))
        (subst (λ (o : Option Log). HasItems (head.version + length older + 1) stands.newer o) (other_log (head.first_log + 1) (next_past head.first_log))
        (subst (λ (n : ℕ). HasItems n stands.newer (a.logs (head.first_log + 1))) (turn head.version (length older))
        (subst (λ (l : List LogItem). HasItems (head.version + 1 + length l) stands.newer (a.logs (head.first_log + 1))) items
        (subst (λ (x : Head). HasItems (x.version + 1 + length stands.older) stands.newer (a.logs (x.first_log + 1))) same holds.second_log))))) in
        let above : (n : ℕ) → head.first_log + 1 < n → b.logs n ≡ None =
        λ n past. sym (other_log n (past_one head.first_log n past)) ∙ holds.none_above n (subst (λ (x : Head). x.first_log + 1 < n) (sym same) past) in
        let first_is : next.first_log ≡ head.first_log + 1 = is.next_is.1 ∙ is.first_log in
        record {
          head = next;
          rows = now.0;
          older = stands.newer;
          newer = [];
          holds = record {
            head = subst (λ (o : Option (List ℕ)). HeadIs o next) (sym is.swaps.head) is.bytes_are;
            no_streams = is.next_is.3;
            files = now.2;
            first_log = second;
            second_log = no_items (next.version + 1 + length stands.newer) (b.logs (next.first_log + 1)) (above (next.first_log + 1) (behind next.first_log head.first_log first_is));
            in_order = λ some. absurd (some refl);
            none_above = λ n past. above n (past_first next.first_log head.first_log n first_is past);
          };
          between = s;
          frozen = stands.active;
          active = nothing_held;
          first = subst (λ (x : State). Replays x nothing_held stands.newer s stands.active) (one ∙ state) stands.second;
          second = (refl, refl);
        }
      where
        next_past : (n : ℕ) → n < n + 1
        next_past n = omega arith

        past_one : (n m : ℕ) → n + 1 < m → n < m
        past_one n m lt = omega arith

        behind : (n m : ℕ) → n ≡ m + 1 → m + 1 < n + 1
        behind n m e = omega arith

        turn : (v n : ℕ) → v + 1 + n ≡ v + n + 1
        turn v n = omega arith

        no_items : (first : ℕ) (log : Option Log) → log ≡ None → HasItems first [] log
        no_items first log none = subst (λ (o : Option Log). HasItems first [] o) (sym none) refl
