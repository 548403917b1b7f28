-- What an image stands for by the log that is written, behind the items of the log before it.
use Rattle.std.proofs.Common.{◌≡◌, ◌⊎◌, inl, inr, ℕ, ◌+◌, ◌<◌, ◌≤◌, List, [], ◌∷◌, ◌++◌, length, Option, Some, None, refl, sym, ap, subst, ◌∙◌, arith}
use Rattle.std.specs.Prelude.{All, IsSome}
use Rattle.std.proofs.lemmas.List.{nil_from_length}
use Rattle.td_limits.specs.declared.limits.TheConstants.{MEMTABLE_PARTS}
use Rattle.td_model.specs.State.{State, Rows}
use Rattle.td_memtable.specs.Contents.{Contents, nothing_held}
use Rattle.td_outside.specs.Image.{Log, Image}
use Rattle.td_outside.specs.Files.{IsFinished}
use Rattle.td_manifest.specs.declared.head.Head.{Head}
use Rattle.td_manifest.specs.Files.{all_files}
use Rattle.td_wal.specs.declared.item.LogItem.{LogItem}
use Rattle.td_levels.specs.Levels.{rows_over}
use Rattle.td_levels.specs.Fits.{HaveNoFurther}
use Rattle.td_levels.specs.Taken.{taken, parts_of}
use Rattle.td_stands.specs.Heads.{catalog_of, state_of_head, levels_of_head, HeadIs}
use Rattle.td_stands.specs.Replay.{IsNext, Replays}
use Rattle.td_stands.specs.Stands.{HasItems, FilesMake, Stands}
use Rattle.td_stands.specs.Breaks.{HeadStands}
use Rattle.td_stands.proofs.Replaying.{replays_version, replays_then}
use Rattle.td_stands.proofs.Standing.{one_head, one_items}
use Rattle.td_active.specs.Active.{IsWritten}

-- ---- sums

no_more : (a b n : ℕ) → a ≡ b → n ≡ 0 → a + 1 + n ≡ b + 1
no_more a b n e none = omega arith

-- ---- the items of a log

-- a log without items is one from each version on
pub none_of_any : (first other : ℕ) (o : Option Log) → HasItems first [] o → HasItems other [] o
none_of_any first other None has = has
none_of_any first other (Some log) has = record { gate = has.gate; rest = has.rest; closed = has.closed; bytes_are = has.bytes_are; fit = refl }

-- ---- an image that stands for a state by the log that is written

pub record Behind (image : Image) (h : Head) (number : ℕ) (older own : List LogItem) (s : State) : Type 0 where
  pub rows : Rows
  pub files : FilesMake image h rows
  pub shut : number ≡ h.first_log → HasItems 0 [] (image.logs (h.first_log + 1))
  pub none_above : (n : ℕ) → h.first_log + 1 < n → image.logs n ≡ None
  pub between : State
  pub frozen : Contents
  pub active : Contents
  pub first : Replays (state_of_head h rows) nothing_held older between frozen
  pub second : Replays between nothing_held own s active

none_length : (older : List LogItem) → older ≡ [] → length older ≡ 0
none_length older none = ap (λ (l : List LogItem). length l) none

pub behind_stands : (image : Image) (h : Head) (number : ℕ) (older own : List LogItem) (t : State) → HeadStands image h → IsWritten image h number older → HasItems (h.version + 1 + length older) own (image.logs number) → Behind image h number older own t
    → Stands image t
behind_stands image h number older own t stands (inl w) log b =
    let here : HasItems (h.version + 1 + length older) own (image.logs h.first_log) = subst (λ (n : ℕ). HasItems (h.version + 1 + length older) own (image.logs n)) w.0 log in
    let begins : (b.between ≡ state_of_head h b.rows) × (b.frozen ≡ nothing_held) = subst (λ (l : List LogItem). Replays (state_of_head h b.rows) nothing_held l b.between b.frozen) w.1 b.first in
    record {
      head = h;
      rows = b.rows;
      older = own;
      newer = [];
      holds = record {
        head = stands.head;
        no_streams = stands.no_streams;
        files = b.files;
        first_log = subst (λ (n : ℕ). HasItems n own (image.logs h.first_log)) (no_more h.version h.version (length older) refl (none_length older w.1)) here;
        second_log = none_of_any 0 (h.version + 1 + length own) (image.logs (h.first_log + 1)) (b.shut w.0);
        in_order = λ some. absurd (some refl);
        none_above = b.none_above;
      };
      between = t;
      frozen = b.active;
      active = nothing_held;
      first = subst (λ (x : State). Replays x nothing_held own t b.active) begins.0 b.second;
      second = (refl, refl);
    }
behind_stands image h number older own t stands (inr w) log b = record {
  head = h;
  rows = b.rows;
  older = older;
  newer = own;
  holds = record {
    head = stands.head;
    no_streams = stands.no_streams;
    files = b.files;
    first_log = w.2;
    second_log = subst (λ (n : ℕ). HasItems (h.version + 1 + length older) own (image.logs n)) w.0 log;
    in_order = λ _. w.1;
    none_above = b.none_above;
  };
  between = b.between;
  frozen = b.frozen;
  active = b.active;
  first = b.first;
  second = b.second;
}

-- ---- each state of as many items

-- the log has these items, or these are none, whatever it is
abbrev pub HasOwn : ℕ → List LogItem → Option Log → Type 0
HasOwn first own o = HasItems first own o ⊎ (own ≡ [])

-- one list of items of a log, and none where there are to be none
same_own : (first : ℕ) (items own : List LogItem) (o : Option Log) → HasItems first items o → HasOwn first own o → length items ≤ length own → items ≡ own
same_own first items own o has (inl owns) le = one_items first items own o has owns
same_own first items own o has (inr none) le =
    nil_from_length items (omega (arith, le, none_length own none)) ∙ sym none

apart : (a b : ℕ) → a ≡ b → a ≡ b + 1 → ⊥
apart a b e f = absurd (omega arith)

own_first : (image : Image) (s : State) (p : Stands image s) (number : ℕ) (older own : List LogItem) → (number ≡ p.head.first_log) → (older ≡ []) → HasOwn (p.head.version + 1 + length older) own (image.logs number)
    → s.version ≡ p.head.version + (length older + length own) → Behind image p.head number older own s
own_first image s p number older own is none owns version =
    let h = p.head in
    let first_count : p.between.version ≡ h.version + length p.older = replays_version p.older (state_of_head h p.rows) p.between nothing_held p.frozen p.first in
    let second_count : s.version ≡ p.between.version + length p.newer = replays_version p.newer p.between s nothing_held p.active p.second in
    let empty : length older ≡ 0 = none_length older none in
    let there = subst (λ (n : ℕ). HasOwn (h.version + 1 + length older) own (image.logs n)) is owns in
    let here = subst (λ (n : ℕ). HasOwn n own (image.logs h.first_log)) (no_more h.version h.version (length older) refl empty) there in
    let same : p.older ≡ own = same_own (h.version + 1) p.older own (image.logs h.first_log) p.holds.first_log here (omega (arith, first_count, second_count, version, empty)) in
    let nothing : p.newer ≡ [] = nil_from_length p.newer (omega (arith, first_count, second_count, version, empty, ap (λ (l : List LogItem). length l) same)) in
    let last : (s ≡ p.between) × (p.active ≡ nothing_held) = subst (λ (l : List LogItem). Replays p.between nothing_held l s p.active) nothing p.second in
    let made = subst (λ (l : List LogItem). Replays (state_of_head h p.rows) nothing_held l p.between p.frozen) same p.first in
    record {
      rows = p.rows;
      files = p.holds.files;
      shut = λ _. none_of_any (h.version + 1 + length p.older) 0 (image.logs (h.first_log + 1)) (subst (λ (l : List LogItem). HasItems (h.version + 1 + length p.older) l (image.logs (h.first_log + 1))) nothing p.holds.second_log);
      none_above = p.holds.none_above;
      between = state_of_head h p.rows;
      frozen = nothing_held;
      active = p.frozen;
      first = subst (λ (l : List LogItem). Replays (state_of_head h p.rows) nothing_held l (state_of_head h p.rows) nothing_held) (sym none) (refl, refl);
      second = subst (λ (x : State). Replays (state_of_head h p.rows) nothing_held own x p.frozen) (sym last.0) made;
    }

own_second : (image : Image) (s : State) (p : Stands image s) (number : ℕ) (older own : List LogItem) → (number ≡ p.head.first_log + 1) → HasItems (p.head.version + 1) older (image.logs p.head.first_log) → HasOwn (p.head.version + 1 + length older) own (image.logs number)
    → s.version ≡ p.head.version + (length older + length own) → Behind image p.head number older own s
own_second image s p number older own is log owns version =
    let h = p.head in
    let first_count : p.between.version ≡ h.version + length p.older = replays_version p.older (state_of_head h p.rows) p.between nothing_held p.frozen p.first in
    let second_count : s.version ≡ p.between.version + length p.newer = replays_version p.newer p.between s nothing_held p.active p.second in
    let begins : p.older ≡ older = one_items (h.version + 1) p.older older (image.logs h.first_log) p.holds.first_log log in
    let there = subst (λ (n : ℕ). HasOwn (h.version + 1 + length older) own (image.logs n)) is owns in
    let others = subst (λ (l : List LogItem). HasItems (h.version + 1 + length l) p.newer (image.logs (h.first_log + 1))) begins p.holds.second_log in
    let same : p.newer ≡ own = same_own (h.version + 1 + length older) p.newer own (image.logs (h.first_log + 1)) others there (omega (arith, first_count, second_count, version, ap (λ (l : List LogItem). length l) begins)) in
    record {
      rows = p.rows;
      files = p.holds.files;
      shut = λ e. absurd (apart number h.first_log e is);
      none_above = p.holds.none_above;
      between = p.between;
      frozen = p.frozen;
      active = p.active;
      first = subst (λ (l : List LogItem). Replays (state_of_head h p.rows) nothing_held l p.between p.frozen) begins p.first;
      second = subst (λ (l : List LogItem). Replays p.between nothing_held l s p.active) same p.second;
    }

own_behind : (image : Image) (s : State) (p : Stands image s) (number : ℕ) (older own : List LogItem) → IsWritten image p.head number older → HasOwn (p.head.version + 1 + length older) own (image.logs number)
    → s.version ≡ p.head.version + (length older + length own) → Behind image p.head number older own s
own_behind image s p number older own (inl w) owns version = own_first image s p number older own w.0 w.1 owns version
own_behind image s p number older own (inr w) owns version = own_second image s p number older own w.0 w.2 owns version

-- each state of the version that the items make, for which the image stands, is made by them
pub stands_behind : (image : Image) (h : Head) (number : ℕ) (older own : List LogItem) (s : State) → HeadIs image.head h → IsWritten image h number older → HasOwn (h.version + 1 + length older) own (image.logs number)
    → s.version ≡ h.version + (length older + length own) → Stands image s → Behind image h number older own s
stands_behind image h number older own s is written owns version p =
    let same : p.head ≡ h = one_head image.head p.head h p.holds.head is in
    let w = subst (λ (x : Head). IsWritten image x number older) (sym same) written in
    let o = subst (λ (x : Head). HasOwn (x.version + 1 + length older) own (image.logs number)) (sym same) owns in
    let v = subst (λ (x : Head). s.version ≡ x.version + (length older + length own)) (sym same) version in
    subst (λ (x : Head). Behind image x number older own s) same (own_behind image s p number older own w o v)

-- ---- an item more

pub behind_next : (image : Image) (h : Head) (number : ℕ) (older own : List LogItem) (i : LogItem) (s t : State) (n : IsNext i s t) (b : Behind image h number older own s) → b.active.held + parts_of n.what ≤ MEMTABLE_PARTS
    → Behind image h number older (own ++ i ∷ []) t
behind_next image h number older own i s t n b room = record {
  rows = b.rows;
  files = b.files;
  shut = b.shut;
  none_above = b.none_above;
  between = b.between;
  frozen = b.frozen;
  active = taken n.what i.moment b.active;
  first = b.first;
  second = replays_then b.between s t nothing_held b.active (taken n.what i.moment b.active) own (i ∷ []) b.second (t, n, room, (refl, refl));
}

-- ---- one log is changed

-- the log of a number is this, and the head, the other logs, the files and their readers are as they were
pub record Puts (n : ℕ) (log : Option Log) (old new : Image) : Type 0 where
  pub head : new.head ≡ old.head
  pub files : new.files ≡ old.files
  pub readers : new.readers ≡ old.readers
  pub own : new.logs n ≡ log
  pub others : (m : ℕ) → (m ≡ n → ⊥) → new.logs m ≡ old.logs m

pub files_finished : (old new : Image) (names : List ℕ) → new.files ≡ old.files → All (λ (n : ℕ). IsFinished n old) names → All (λ (n : ℕ). IsFinished n new) names
files_finished old new names e all = subst (λ (f : ℕ → Option (List ℕ)). All (λ (n : ℕ). IsSome (f n)) names) (sym e) all

files_make : (old new : Image) (h : Head) (rows : Rows) → new.files ≡ old.files → FilesMake old h rows → FilesMake new h rows
files_make old new h rows e f = record {
  finished = files_finished old new (all_files h.sets) e f.finished;
  rows_are = subst (λ (fs : ℕ → Option (List ℕ)). rows_over fs (catalog_of h) h.edge (levels_of_head h) ≡ Some rows) (sym e) f.rows_are;
  further = subst (λ (fs : ℕ → Option (List ℕ)). HaveNoFurther fs (catalog_of h) (levels_of_head h).sets) (sym e) f.further;
}

pub head_moved : (old new : Image) (h : Head) → new.head ≡ old.head → new.files ≡ old.files → HeadStands old h → HeadStands new h
head_moved old new h e f s = record {
  head = subst (λ (o : Option (List ℕ)). HeadIs o h) (sym e) s.head;
  finished = files_finished old new (all_files h.sets) f s.finished;
  no_streams = s.no_streams;
}

-- the written log is the first or the second
pub number_is : (image : Image) (h : Head) (number : ℕ) (older : List LogItem) → IsWritten image h number older → (h.first_log ≤ number) × (number ≤ h.first_log + 1)
number_is image h number older (inl w) = (omega (arith, w.0), omega (arith, w.0))
number_is image h number older (inr w) = (omega (arith, w.0), omega (arith, w.0))

pub written_moved : (old new : Image) (h : Head) (number : ℕ) (log : Option Log) (older : List LogItem) → Puts number log old new → IsWritten old h number older → IsWritten new h number older
written_moved old new h number log older p (inl w) = inl w
written_moved old new h number log older p (inr w) =
    inr (w.0, w.1, subst (λ (o : Option Log). HasItems (h.version + 1) older o) (sym (p.others h.first_log (λ e. apart h.first_log h.first_log refl (e ∙ w.0)))) w.2)

above_first : (n f : ℕ) → n ≡ f → f + 1 ≡ n → ⊥
above_first n f e g = absurd (omega arith)

above_both : (m n f : ℕ) → n ≤ f + 1 → f + 1 < m → m ≡ n → ⊥
above_both m n f le lt e = absurd (omega arith)

pub behind_moved : (old new : Image) (h : Head) (number : ℕ) (log : Option Log) (older own : List LogItem) (s : State) → Puts number log old new → number ≤ h.first_log + 1 → Behind old h number older own s → Behind new h number older own s
behind_moved old new h number log older own s p le b = record {
  rows = b.rows;
  files = files_make old new h b.rows p.files b.files;
  shut = λ e. subst (λ (o : Option Log). HasItems 0 [] o) (sym (p.others (h.first_log + 1) (above_first number h.first_log e))) (b.shut e);
  none_above = λ n lt. p.others n (above_both n number h.first_log le lt) ∙ b.none_above n lt;
  between = b.between;
  frozen = b.frozen;
  active = b.active;
  first = b.first;
  second = b.second;
}
