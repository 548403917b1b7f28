-- What finished files that are added to an image leave as it was.
use Rattle.std.proofs.Common.{◌≡◌, inl, inr, ℕ, ◌+◌, true, List, [], ◌∷◌, ◌++◌, map, reverse, length, Option, Some, None, All, sym, ap, subst, ◌∙◌}
use Rattle.std.specs.Prelude.{IsSome, IfSome}
use Rattle.std.specs.List.{AllByRecursion, flat_map}
use Rattle.std.proofs.lemmas.List.{reverse-append}
use Rattle.std.proofs.lemmas.List.Elements.{All-weaker, All-head, All-tail, All-from_recursion, recursion_from_All}
use Rattle.td_model.specs.State.{State, Rows}
use Rattle.td_model.specs.Catalog.{Catalog}
use Rattle.td_outside.specs.Image.{Log, Image, Along}
use Rattle.td_outside.specs.Files.{IsFinished}
use Rattle.td_manifest.specs.declared.head.Head.{Head}
use Rattle.td_manifest.specs.declared.head.HeadSet.{HeadSet}
use Rattle.td_manifest.specs.Files.{main_file, files_of, all_files}
use Rattle.td_fileset.specs.Stack.{Layer}
use Rattle.td_fileset.specs.Layered.{OpenSet, rows_told, are_sound, set_layers}
use Rattle.td_wal.specs.declared.item.LogItem.{LogItem}
use Rattle.td_levels.specs.Levels.{SetFiles, Levels, Files, memtables_of, kinds_of, rows_over}
use Rattle.td_levels.specs.Fits.{HaveNoFurther}
use Rattle.td_levels.specs.Laws.{HoldRows, KeepFiles}
use Rattle.td_levels.proofs.Installed.{same_sets}
use Rattle.td_stands.specs.Heads.{set_files, catalog_of, levels_of_head, HeadIs}
use Rattle.td_stands.specs.Breaks.{HeadStands}
use Rattle.td_stands.specs.Stands.{HasItems, FilesMake, Stands}
use Rattle.td_making.specs.Making.{SameHeld, AddsSome}
use Rattle.td_active.specs.declared.active_log.ActiveLog.{ActiveLog}
use Rattle.td_active.specs.Active.{AtGate, IsWritten, IsActive}
use Rattle.td_active.specs.Stored.{names_of, AreFinished, IsStored}
use Rattle.td_engine.specs.Commits.{KeepsFiles}
use Rattle.td_engine.proofs.Images.{carry, along}

pub held_adds : (a b : Image) → SameHeld a b → AddsSome a b
held_adds a b same = record { head = same.head; logs = same.logs; readers = same.readers; kept = λ n is. ap (λ (files : Files). files n) same.files }

-- ---- lists

pub all_parts : {X : Type 0} (P : X → Type 0) (xs ys : List X) → AllByRecursion P (xs ++ ys) → AllByRecursion P xs × AllByRecursion P ys
all_parts P [] ys h = (tt, h)
all_parts P (x ∷ xs) ys h = let rest = all_parts P xs ys h.1 in ((h.0, rest.0), rest.1)

pub all_both : {X : Type 0} (P : X → Type 0) (xs ys : List X) → AllByRecursion P xs → AllByRecursion P ys → AllByRecursion P (xs ++ ys)
all_both P [] ys h k = k
all_both P (x ∷ xs) ys h k = (h.0, all_both P xs ys h.1 k)

-- ---- the files of sets

-- a file that is finished stays finished
pub still_finished : (a b : Image) → AddsSome a b → (n : ℕ) → IsFinished n a → IsFinished n b
still_finished a b adds n is = subst (λ (o : Option (List ℕ)). IsSome o) (sym (adds.kept n is)) is

keep_main : (a b : Image) → AddsSome a b → (s : SetFiles) (main : Option ℕ) → AllByRecursion (λ (n : ℕ). IsFinished n a) (names_of (record s { main = main })) → (n : ℕ) → main ≡ Some n → b.files n ≡ a.files n
keep_main a b adds s None all n is = absurd (let clash : ⊥ = cc in clash)
keep_main a b adds s (Some m) all n is =
    let same : m ≡ n = cc in
    let own = (all_parts (λ (n : ℕ). IsFinished n a) s.stt (m ∷ []) all).1.0 in
    ap (λ (k : ℕ). b.files k) (sym same) ∙ adds.kept m own ∙ ap (λ (k : ℕ). a.files k) same

stt_names : (a : Image) (s : SetFiles) (main : Option ℕ) → AllByRecursion (λ (n : ℕ). IsFinished n a) (names_of (record s { main = main })) → AllByRecursion (λ (n : ℕ). IsFinished n a) s.stt
stt_names a s None all = (all_parts (λ (n : ℕ). IsFinished n a) s.stt [] all).0
stt_names a s (Some m) all = (all_parts (λ (n : ℕ). IsFinished n a) s.stt (m ∷ []) all).0

keep_set : (a b : Image) → AddsSome a b → (s : SetFiles) → All (λ (n : ℕ). IsFinished n a) (names_of s) → KeepFiles a.files b.files s
keep_set a b adds s all =
    let each = recursion_from_All (λ (n : ℕ). IsFinished n a) (names_of s) all in
    let stt = All-from_recursion (λ (n : ℕ). IsFinished n a) s.stt (stt_names a s s.main each) in
    record {
      stt = All-weaker (λ (n : ℕ). IsFinished n a) (λ (n : ℕ). b.files n ≡ a.files n) (λ n is. adds.kept n is) s.stt stt;
      main = keep_main a b adds s s.main each;
    }

pub keep_sets : (a b : Image) → AddsSome a b → (sets : List SetFiles) → AreFinished sets a → AllByRecursion (KeepFiles a.files b.files) sets
keep_sets a b adds [] all = tt
keep_sets a b adds (s ∷ ss) all =
    (keep_set a b adds s (All-head (λ (s : SetFiles). All (λ (n : ℕ). IsFinished n a) (names_of s)) s ss all), keep_sets a b adds ss (All-tail (λ (s : SetFiles). All (λ (n : ℕ). IsFinished n a) (names_of s)) s ss all))

pub finished_more : (a b : Image) → AddsSome a b → (sets : List SetFiles) → AreFinished sets a → AreFinished sets b
finished_more a b adds sets all =
    All-weaker (λ (s : SetFiles). All (λ (n : ℕ). IsFinished n a) (names_of s)) (λ (s : SetFiles). All (λ (n : ℕ). IsFinished n b) (names_of s))
    (λ s own. All-weaker (λ (n : ℕ). IsFinished n a) (λ (n : ℕ). IsFinished n b) (still_finished a b adds) (names_of s) own) sets all

-- ---- the rows that files make

pub rows_alike : (files files' : Files) (c : Catalog) (edge : ℕ) (l : Levels) → AllByRecursion (KeepFiles files files') l.sets → rows_over files' c edge l ≡ rows_over files c edge l
rows_alike files files' c edge l keep =
    ap (λ (sets : List OpenSet). rows_told (record { memtables = memtables_of l; sets = sets; kinds = kinds_of c; edge = edge })) (sym (same_sets files files' l.sets keep))

pub none_alike : (files files' : Files) (c : Catalog) (sets : List SetFiles) → AllByRecursion (KeepFiles files files') sets → HaveNoFurther files c sets → HaveNoFurther files' c sets
none_alike files files' c sets keep none table past =
    let own = none table past in
    let same = same_sets files files' sets keep in
    record {
      sound = λ kinds. subst (λ (s : List OpenSet). are_sound (table, kinds) s ≡ true) same (own.sound kinds);
      none = λ kinds. subst (λ (s : List OpenSet). All (λ (l : Layer). l.partials ≡ []) (flat_map (set_layers (table, kinds)) s)) same (own.none kinds);
    }

pub hold_alike : (files files' : Files) (s : State) (l : Levels) → AllByRecursion (KeepFiles files files') l.sets → HoldRows files s l → HoldRows files' s l
hold_alike files files' s l keep h = record {
  valid = h.valid;
  fits = h.fits;
  further = none_alike files files' s.catalog l.sets keep h.further;
  rows = rows_alike files files' s.catalog s.edge l keep ∙ h.rows;
}

-- ---- the files of a head

pub reversed : (P : ℕ → Type 0) (xs : List ℕ) → AllByRecursion P xs → AllByRecursion P (reverse xs)
reversed P [] all = tt
reversed P (x ∷ xs) all = subst (AllByRecursion P) (sym (reverse-append (x ∷ []) xs)) (all_both P (reverse xs) (x ∷ []) (reversed P xs all.1) (all.0, tt))

main_listed : (P : ℕ → Type 0) (s : HeadSet) (main : Option ℕ) → AllByRecursion P (main_file main ++ s.stt) → AllByRecursion P (names_of (set_files (record s { main = main })))
main_listed P s None all = all_both P (reverse s.stt) [] (reversed P s.stt all) tt
main_listed P s (Some n) all = all_both P (reverse s.stt) (n ∷ []) (reversed P s.stt all.1) (all.0, tt)

pub named_finished : (image : Image) (sets : List HeadSet) → AllByRecursion (λ (n : ℕ). IsFinished n image) (all_files sets) → AllByRecursion (λ (s : SetFiles). All (λ (n : ℕ). IsFinished n image) (names_of s)) (map set_files sets)
named_finished image [] all = tt
named_finished image (s ∷ ss) all =
    let parts = all_parts (λ (n : ℕ). IsFinished n image) (files_of s) (all_files ss) all in (
      All-from_recursion (λ (n : ℕ). IsFinished n image) (names_of (set_files s)) (main_listed (λ (n : ℕ). IsFinished n image) s s.main parts.0),
      named_finished image ss parts.1,
    )

-- ---- what the image stands for

module _ (a b : Image) (adds : AddsSome a b) where
  pub head_more : (h : Head) → HeadStands a h → HeadStands b h
  head_more h is = record {
    head = subst (λ (o : Option (List ℕ)). HeadIs o h) (sym adds.head) is.head;
    finished = All-weaker (λ (n : ℕ). IsFinished n a) (λ (n : ℕ). IsFinished n b) (still_finished a b adds) (all_files h.sets) is.finished;
    no_streams = is.no_streams;
  }

  log_more : (n : ℕ) → a.logs n ≡ b.logs n
  log_more n = ap (λ (logs : ℕ → Option Log). logs n) (sym adds.logs)

  items_more : (first n : ℕ) (items : List LogItem) → HasItems first items (a.logs n) → HasItems first items (b.logs n)
  items_more first n items has = subst (λ (o : Option Log). HasItems first items o) (log_more n) has

  make_more : (h : Head) (rows : Rows) → FilesMake a h rows → FilesMake b h rows
  make_more h rows make =
      let finished = All-from_recursion (λ (s : SetFiles). All (λ (n : ℕ). IsFinished n a) (names_of s)) (map set_files h.sets) (named_finished a h.sets (recursion_from_All (λ (n : ℕ). IsFinished n a) (all_files h.sets) make.finished)) in
      let keep = keep_sets a b adds (map set_files h.sets) finished in
      record {
        finished = All-weaker (λ (n : ℕ). IsFinished n a) (λ (n : ℕ). IsFinished n b) (still_finished a b adds) (all_files h.sets) make.finished;
        rows_are = rows_alike a.files b.files (catalog_of h) h.edge (levels_of_head h) keep ∙ make.rows_are;
        further = none_alike a.files b.files (catalog_of h) (map set_files h.sets) keep make.further;
      }

  pub stands_more : (s : State) → Stands a s → Stands b s
  stands_more s stands =
      let holds = stands.holds in
      let h = stands.head in
      record {
        head = h;
        rows = stands.rows;
        older = stands.older;
        newer = stands.newer;
        holds = record {
          head = subst (λ (o : Option (List ℕ)). HeadIs o h) (sym adds.head) holds.head;
          no_streams = holds.no_streams;
          files = make_more h stands.rows holds.files;
          first_log = items_more (h.version + 1) h.first_log stands.older holds.first_log;
          second_log = items_more (h.version + 1 + length stands.older) (h.first_log + 1) stands.newer holds.second_log;
          in_order = holds.in_order;
          none_above = λ n above. sym (log_more n) ∙ holds.none_above n above;
        };
        between = stands.between;
        frozen = stands.frozen;
        active = stands.active;
        first = stands.first;
        second = stands.second;
      }

  pub adds_keep : KeepsFiles a b
  adds_keep = record { stands = stands_more; kept = adds.kept; readers = adds.readers }

  written_more : (h : Head) (number : ℕ) (older : List LogItem) → IsWritten a h number older → IsWritten b h number older
  written_more h number older which = elim which [
    | inl first ↦ inl first
    | inr second ↦ inr (second.0, second.1, items_more (h.version + 1) h.first_log older second.2)
  ]

  pub active_more : (place : ActiveLog) (s : State) (l : Levels) (committed : ℕ) (sealed : Option Head) → IsActive a place s l committed sealed → IsActive b place s l committed sealed
  active_more place s l committed sealed is = record {
    head = is.head;
    head_stands = head_more is.head is.head_stands;
    valid = is.valid;
    version = is.version;
    sets = is.sets;
    dropped = λ n next. sym (log_more n) ∙ is.dropped n next;
    older = is.older;
    own = is.own;
    which = written_more is.head place.number is.older is.which;
    first = is.first;
    log = subst (λ (o : Option Log). AtGate place.first is.own place.gate place.is_made o) (log_more place.number) is.log;
    between = is.between;
    frozen = is.frozen;
    makes_frozen = is.makes_frozen;
    after = is.after;
    makes_active = is.makes_active;
    state_is = is.state_is;
    frozen_is = is.frozen_is;
  }

-- ---- where the store tells its image

pub adds_told : (old new : Option Image) → Along SameHeld old new → Along AddsSome old new
adds_told old new = along SameHeld AddsSome old new held_adds

pub keeps_told : (old new : Option Image) → Along AddsSome old new → Along KeepsFiles old new
keeps_told old new = along AddsSome KeepsFiles old new adds_keep

pub stored_more : (old new : Option Image) (s : State) (l : Levels) (committed : ℕ) (sealed : Option Head) (place : ActiveLog) → Along AddsSome old new → IsStored old s l committed sealed place → IsStored new s l committed sealed place
stored_more old new s l committed sealed place adds is = record {
  fits = is.fits;
  by_range = is.by_range;
  ranges = is.ranges;
  no_streams = is.no_streams;
  words = is.words;
  heads = is.heads;
  committed_is = is.committed_is;
  sealing = is.sealing;
  last_version = is.last_version;
  active = λ going. carry AddsSome (λ (image : Image). IsActive image place s l committed sealed) (λ (image : Image). IsActive image place s l committed sealed) old new (λ a b more. active_more a b more place s l committed sealed) adds (is.active going);
  files = carry AddsSome (AreFinished l.sets) (AreFinished l.sets) old new (λ a b more. finished_more a b more l.sets) adds is.files;
}

-- the levels hold the rows that they held
pub rows_more : (old new : Option Image) (s : State) (l : Levels) → Along AddsSome old new → IfSome old (AreFinished l.sets) → IfSome old (λ image. HoldRows image.files s l) → IfSome new (λ image. HoldRows image.files s l)
rows_more None None s l adds finished h = tt
rows_more (Some a) (Some b) s l adds finished h = hold_alike a.files b.files s l (keep_sets a b adds l.sets finished) h
rows_more None (Some b) s l adds finished h = absurd adds
rows_more (Some a) None s l adds finished h = absurd adds
