-- What an image stands for, and where it breaks.
use Rattle.std.proofs.Common.{◌≡◌, ◌⊎◌, inl, inr, ℕ, zero, suc, ◌+◌, ◌<◌, ◌≤◌, List, [], ◌∷◌, ◌++◌, length, take, slice_get, Option, Some, None, refl, sym, ap, subst, ◌∙◌, arith}
use Rattle.std.specs.Prelude.{◌≢◌, All, IsSome, is_some}
use Rattle.std.proofs.lemmas.Bool.{cases_order, false≢true}
use Rattle.std.proofs.lemmas.List.Elements.{All-head, All-tail, All-nil}
use Rattle.std.proofs.lemmas.Option.{same_Some}
use Rattle.td_limits.specs.declared.limits.TheConstants.{MEMTABLE_PARTS}
use Rattle.td_model.specs.State.{State, Rows, empty_state}
use Rattle.td_fileset.specs.Stack.{Layer}
use Rattle.td_fileset.specs.Layered.{rows_told}
use Rattle.td_memtable.specs.Contents.{Contents, nothing_held}
use Rattle.td_outside.specs.Image.{Log, Image}
use Rattle.td_outside.specs.Files.{IsFinished}
use Rattle.td_manifest.specs.declared.head.Head.{Head}
use Rattle.td_manifest.specs.Files.{all_files}
use Rattle.td_manifest.specs.Places.{file_place}
use Rattle.td_manifest.proofs.HeadLaws as heads
use Rattle.td_wal.specs.declared.item.LogItem.{LogItem}
use Rattle.td_wal.specs.Log.{IsLog, BreaksAt, opened}
use Rattle.td_wal.proofs.LogLaws.{one_log, log_or_break, one_break}
use Rattle.td_levels.specs.Taken.{taken, parts_of}
use Rattle.td_stands.specs.declared.file_id.FileId.{FileId}
use Rattle.td_stands.specs.declared.file_id.FileId.TheVariants as files
use Rattle.td_stands.specs.Heads.{state_of_head, empty_head, HeadIs}
use Rattle.td_stands.specs.Replay.{IsNext, Replays}
use Rattle.td_stands.specs.Stands.{HasItems, Holds, Stands}
use Rattle.td_stands.specs.Breaks.{CannotFollow, Refuses, AreWhole, BreaksOff, LogBreaksOff, HasOpenGate, SecondBreaks, FirstMissing, HeadRefuses, HeadBreaks, HeadStands, BreaksFirst}
use Rattle.td_stands.specs.Laws.{with_rows, EmptyStoreStands, OneState, OnePlace, StandsOrBreaks}
use Rattle.td_stands.proofs.Replaying.{one_what, behind_one, one_replay, replays_split, replays_version}
use Rattle.td_stands.proofs.Rows.{rows_have_no_part}

-- ---- one head, and one list of items of a log

pub one_head : (o : Option (List ℕ)) (a b : Head) → HeadIs o a → HeadIs o b → a ≡ b
one_head None a b p q = p ∙ sym q
one_head (Some bytes) a b p q = heads.one_head bytes a b p q

pub one_items : (first : ℕ) (a b : List LogItem) (o : Option Log) → HasItems first a o → HasItems first b o → a ≡ b
one_items first a b None p q = p ∙ sym q
one_items first a b (Some log) p q = one_log first log.bytes a b p q

-- ---- one state

-- an image stands for a state by this head
record By (image : Image) (h : Head) (b : State) : Type 0 where
  rows : Rows
  older : List LogItem
  newer : List LogItem
  holds : Holds image h rows older newer
  between : State
  frozen : Contents
  active : Contents
  first : Replays (state_of_head h rows) nothing_held older between frozen
  second : Replays between nothing_held newer b active

by_head : (image : Image) (b : State) (p : Stands image b) → By image p.head b
by_head image b p = record {
  rows = p.rows;
  older = p.older;
  newer = p.newer;
  holds = p.holds;
  between = p.between;
  frozen = p.frozen;
  active = p.active;
  first = p.first;
  second = p.second;
}

one_state_by : (image : Image) (h : Head) (a b : State) → By image h a → By image h b → a ≡ b
one_state_by image h a b p q =
    let rows : p.rows ≡ q.rows = same_Some p.rows q.rows (sym p.holds.files.rows_are ∙ q.holds.files.rows_are) in
    let older : p.older ≡ q.older = one_items (h.version + 1) p.older q.older (image.logs h.first_log) p.holds.first_log q.holds.first_log in
    let others = subst (λ (l : List LogItem). HasItems (h.version + 1 + length l) q.newer (image.logs (h.first_log + 1))) (sym older) q.holds.second_log in
    let newer : p.newer ≡ q.newer = one_items (h.version + 1 + length p.older) p.newer q.newer (image.logs (h.first_log + 1)) p.holds.second_log others in
    let of_rows = subst (λ (r : Rows). Replays (state_of_head h r) nothing_held q.older q.between q.frozen) (sym rows) q.first in
    let first = subst (λ (l : List LogItem). Replays (state_of_head h p.rows) nothing_held l q.between q.frozen) (sym older) of_rows in
    let between : p.between ≡ q.between = (one_replay (state_of_head h p.rows) p.between q.between nothing_held p.frozen q.frozen p.older p.first first).0 in
    let of_state = subst (λ (x : State). Replays x nothing_held q.newer b q.active) (sym between) q.second in
    let second = subst (λ (l : List LogItem). Replays p.between nothing_held l b q.active) (sym newer) of_state in
    (one_replay p.between a b nothing_held p.active q.active p.newer p.second second).0

pub one_state : OneState
one_state image a b p q =
    let same : p.head ≡ q.head = one_head image.head p.head q.head p.holds.head q.holds.head in
    one_state_by image p.head a b (by_head image a p) (subst (λ (h : Head). By image h b) (sym same) (by_head image b q))

-- ---- an empty store

no_items : (first : ℕ) (o : Option Log) → o ≡ None → HasItems first [] o
no_items first None e = refl
no_items first (Some log) e = absurd cc

pub empty_stands : EmptyStoreStands
unfolding rows_told
empty_stands image head logs = record {
  head = empty_head;
  rows = [];
  older = [];
  newer = [];
  holds = record {
    head = subst (λ (o : Option (List ℕ)). HeadIs o empty_head) (sym head) refl;
    no_streams = refl;
    files = record {
      finished = All-nil (λ (n : ℕ). IsFinished n image);
      rows_are = refl;
      further = λ table lt. record { sound = λ kinds. refl; none = λ kinds. All-nil (λ (l : Layer). l.partials ≡ []) };
    };
    first_log = no_items 1 (image.logs 1) (logs 1);
    second_log = no_items 1 (image.logs 2) (logs 2);
    in_order = λ some. absurd (some refl);
    none_above = λ n _. logs n;
  };
  between = empty_state;
  frozen = nothing_held;
  active = nothing_held;
  first = (refl, refl);
  second = (refl, refl);
}

-- ---- logs that break off

early_late : (a b : ℕ) → a < b → b ≤ a → ⊥
early_late a b early late = absurd (omega arith)

-- no item that fits the memtable follows
abbrev Ends : LogItem → State → Contents → Type 0
Ends i s m = (t : State) (next : IsNext i s t) → (m.held + parts_of next.what ≤ MEMTABLE_PARTS) → ⊥

over_and_within : (held n m : ℕ) → n ≡ m → MEMTABLE_PARTS < held + n → held + m ≤ MEMTABLE_PARTS → ⊥
over_and_within held n m e over within = early_late MEMTABLE_PARTS (held + n) over (subst (λ (k : ℕ). held + k ≤ MEMTABLE_PARTS) (sym e) within)

-- an item that can't follow makes no state and no memtable
cannot : (gate : ℕ) (i : LogItem) (s : State) (m : Contents) (at : ℕ) → CannotFollow gate i s m at → Ends i s m
cannot gate i s m at (inl early) t next room = early_late i.moment s.moment early.0 next.moment
cannot gate i s m at (inr (inl none)) t next room = none.1 t next
cannot gate i s m at (inr (inr full)) t next room =
    over_and_within m.held (parts_of full.1.what) (parts_of next.what) (ap parts_of (one_what i s full.0 t full.1 next)) full.2 room

refused : (items : List LogItem) (s t : State) (m : Contents) (at : ℕ) → Replays s nothing_held items t m → Refuses s items at → ⊥
refused items s t m at p r =
    let parts = replays_split r.before (r.next ∷ r.after) s t nothing_held m (subst (λ (l : List LogItem). Replays s nothing_held l t m) r.items_are p) in
    let same = one_replay s parts.0 r.then nothing_held parts.1 r.held r.before parts.2 r.replays in
    let ends = cannot (length (opened r.before)) r.next r.then r.held at r.cannot in
    let of_state = subst (λ (x : State). Ends r.next x r.held) (sym same.0) ends in
    let here = subst (λ (x : Contents). Ends r.next parts.0 x) (sym same.1) of_state in
    here parts.3.0 parts.3.1 parts.3.2

log_or_off : (first : ℕ) (bytes : List ℕ) (s t : State) (m : Contents) (items : List LogItem) (at : ℕ) → IsLog first bytes items → Replays s nothing_held items t m → BreaksOff first s bytes at → ⊥
log_or_off first bytes s t m items at log p (inl (others, inl whole, r)) =
    refused items s t m at p (subst (λ (l : List LogItem). Refuses s l at) (one_log first bytes others items whole log) r)
log_or_off first bytes s t m items at log p (inl (others, inr (end, breaks), r)) = log_or_break first bytes items others end log breaks
log_or_off first bytes s t m items at log p (inr (others, u, n, q, breaks)) = log_or_break first bytes items others at log breaks

items_or_break : (first : ℕ) (s t : State) (m : Contents) (items : List LogItem) (o : Option Log) (at : ℕ) → HasItems first items o → Replays s nothing_held items t m → LogBreaksOff first s o at → ⊥
items_or_break first s t m items None at log p b = b
items_or_break first s t m items (Some l) at log p b = log_or_off first l.bytes s t m items at log p b

-- a log with an open gate at its first byte has items
open_bytes : (first : ℕ) (bytes rest : List ℕ) → IsLog first bytes [] → bytes ≡ 1 ∷ rest → ⊥
open_bytes first bytes rest log open_gate = log.closed (first_is (sym log.bytes_are ∙ open_gate))
  where
    first_is : {a b : ℕ} {xs ys : List ℕ} → a ∷ xs ≡ b ∷ ys → a ≡ b
    first_is e = cc

pub open_has_items : (first : ℕ) (items : List LogItem) (o : Option Log) → HasItems first items o → HasOpenGate o → items ≢ []
open_has_items first items None log open_gate none = open_gate
open_has_items first items (Some l) log open_gate none = open_bytes first l.bytes open_gate.0 (subst (λ (x : List LogItem). IsLog first l.bytes x) none log) open_gate.1

second_or_break : (older newer : List LogItem) (s t : State) (m : Contents) (o : Option Log) (at : ℕ) → HasItems (s.version + 1) newer o → (newer ≢ [] → older ≢ []) → Replays s nothing_held newer t m → SecondBreaks older s o at → ⊥
second_or_break older newer s t m o at log in_order p (inl (none, open_gate, place)) = in_order (open_has_items (s.version + 1) newer o log open_gate) none
second_or_break older newer s t m o at log in_order p (inr (some, b)) = items_or_break (s.version + 1) s t m newer o at log p b

-- ---- a head, or a break

some_or_none : (o : Option (List ℕ)) → IsSome o → o ≡ None → ⊥
some_or_none o some none = false≢true (ap (λ (x : Option (List ℕ)). is_some x) (sym none) ∙ some)

not_missing : (image : Image) (names : List ℕ) (i name : ℕ) → All (λ (n : ℕ). IsFinished n image) names → slice_get names i ≡ Some name → image.files name ≡ None → ⊥
not_missing image [] i name all there missing = absurd cc
not_missing image (n ∷ ns) zero name all there missing =
    let here : IsFinished n image = All-head (λ (m : ℕ). IsFinished m image) n ns all in
    let none : image.files n ≡ None = subst (λ (m : ℕ). image.files m ≡ None) (sym (same_Some n name there)) missing in
    some_or_none (image.files n) here none
not_missing image (n ∷ ns) (suc i) name all there missing = not_missing image ns i name (All-tail (λ (m : ℕ). IsFinished m image) n ns all) there missing

refuses_or_stands : (image : Image) (h : Head) (at : ℕ) → All (λ (n : ℕ). IsFinished n image) (all_files h.sets) → h.streams ≡ [] → HeadRefuses image h at → ⊥
refuses_or_stands image h at all none (inl (i, missing, place)) = not_missing image (all_files h.sets) i missing.name all missing.there missing.missing
refuses_or_stands image h at all none (inr (others, some, place)) = some none

head_or_break : (image : Image) (h : Head) (o : Option (List ℕ)) (at : ℕ) → HeadIs o h → All (λ (n : ℕ). IsFinished n image) (all_files h.sets) → h.streams ≡ [] → HeadBreaks image o at → ⊥
head_or_break image h None at is all none b = b
head_or_break image h (Some bytes) at is all none (inl b) = heads.head_or_break bytes h at is b
head_or_break image h (Some bytes) at is all none (inr (other, q, r)) =
    refuses_or_stands image h at all none (subst (λ (x : Head). HeadRefuses image x at) (heads.one_head bytes other h q is) r)

stands_or_head : (image : Image) (h : Head) (at : ℕ) → HeadStands image h → HeadBreaks image image.head at → ⊥
stands_or_head image h at p b = head_or_break image h image.head at p.head p.finished p.no_streams b

-- ---- a state, or a break

-- what the logs of an image make of the state of a head without rows
pub record Bare (image : Image) (h : Head) : Type 0 where
  pub older : List LogItem
  pub newer : List LogItem
  pub between : State
  pub last : State
  pub frozen : Contents
  pub active : Contents
  pub first_log : HasItems (h.version + 1) older (image.logs h.first_log)
  pub second_log : HasItems (between.version + 1) newer (image.logs (h.first_log + 1))
  pub in_order : newer ≢ [] → older ≢ []
  pub first : Replays (state_of_head h []) nothing_held older between frozen
  pub second : Replays between nothing_held newer last active

next_after : (a b n : ℕ) → b ≡ a + n → a + 1 + n ≡ b + 1
next_after a b n e = omega arith

bare : (image : Image) (h : Head) (b : State) → By image h b → Bare image h
bare image h b p =
    let first = rows_have_no_part (state_of_head h p.rows) p.between nothing_held p.frozen p.older [] p.first in
    let second = rows_have_no_part p.between b nothing_held p.active p.newer first.0 p.second in
    let version : h.version + 1 + length p.older ≡ p.between.version + 1 = next_after h.version p.between.version (length p.older) (replays_version p.older (state_of_head h p.rows) p.between nothing_held p.frozen p.first) in
    record {
      older = p.older;
      newer = p.newer;
      between = with_rows first.0 p.between;
      last = with_rows second.0 b;
      frozen = p.frozen;
      active = p.active;
      first_log = p.holds.first_log;
      second_log = subst (λ (n : ℕ). HasItems n p.newer (image.logs (h.first_log + 1))) version p.holds.second_log;
      in_order = p.holds.in_order;
      first = first.1;
      second = second.1;
    }

bare_or_second : (image : Image) (h : Head) (p : Bare image h) (at : ℕ) (older : List LogItem) (s : State) (m : Contents) → HasItems (h.version + 1) older (image.logs h.first_log) → Replays (state_of_head h []) nothing_held older s m
    → SecondBreaks older s (image.logs (h.first_log + 1)) at → ⊥
bare_or_second image h p at older s m log q b =
    let same : p.older ≡ older = one_items (h.version + 1) p.older older (image.logs h.first_log) p.first_log log in
    let begins = subst (λ (l : List LogItem). Replays (state_of_head h []) nothing_held l p.between p.frozen) same p.first in
    let states : p.between ≡ s = (one_replay (state_of_head h []) p.between s nothing_held p.frozen m older begins q).0 in
    let here = subst (λ (x : State). SecondBreaks older x (image.logs (h.first_log + 1)) at) (sym states) b in
    let items = subst (λ (l : List LogItem). SecondBreaks l p.between (image.logs (h.first_log + 1)) at) (sym same) here in
    second_or_break p.older p.newer p.between p.last p.active (image.logs (h.first_log + 1)) at p.second_log p.in_order p.second items

by_stands : (image : Image) (h : Head) (b : State) → By image h b → HeadStands image h
by_stands image h b p = record { head = p.holds.head; finished = p.holds.files.finished; no_streams = p.holds.no_streams }

bare_of : (image : Image) (s : State) (h : Head) → Stands image s → HeadIs image.head h → Bare image h
bare_of image s h p is =
    let same : p.head ≡ h = one_head image.head p.head h p.holds.head is in
    bare image h s (subst (λ (x : Head). By image x s) same (by_head image s p))

pub stands_or_breaks : StandsOrBreaks
stands_or_breaks image s files.Head at p b = stands_or_head image p.head at (by_stands image p.head s (by_head image s p)) b
stands_or_breaks image s (files.Log n) at p (h, stands, inl (is, b)) =
    let q = bare_of image s h p stands.head in
    items_or_break (h.version + 1) (state_of_head h []) q.between q.frozen q.older (image.logs h.first_log) at q.first_log q.first b
stands_or_breaks image s (files.Log n) at p (h, stands, inr (is, older, between, m, log, q, b)) =
    bare_or_second image h (bare_of image s h p stands.head) at older between m log q b
stands_or_breaks image s (files.File n) at p b = b

-- an image whose head breaks nowhere, and of whose state the logs make another, breaks nowhere
pub whole_or_break : (image : Image) (h : Head) (file : FileId) (at : ℕ) → HeadStands image h → Bare image h → BreaksFirst image file at → ⊥
whole_or_break image h files.Head at stands p b = stands_or_head image h at stands b
whole_or_break image h (files.Log n) at stands p (k, others, inl (is, b)) =
    let q = subst (λ (x : Head). Bare image x) (one_head image.head h k stands.head others.head) p in
    items_or_break (k.version + 1) (state_of_head k []) q.between q.frozen q.older (image.logs k.first_log) at q.first_log q.first b
whole_or_break image h (files.Log n) at stands p (k, others, inr (is, older, between, m, log, q, b)) =
    bare_or_second image k (subst (λ (x : Head). Bare image x) (one_head image.head h k stands.head others.head) p) at older between m log q b
whole_or_break image h (files.File n) at stands p b = b

-- ---- one place in a log

follow_once : (gate : ℕ) (i : LogItem) (s : State) (m : Contents) (a b : ℕ) → CannotFollow gate i s m a → CannotFollow gate i s m b → a ≡ b
follow_once gate i s m a b (inl p) (inl q) = p.1 ∙ sym q.1
follow_once gate i s m a b (inl p) (inr (inl q)) = absurd (q.0 p.0)
follow_once gate i s m a b (inl p) (inr (inr q)) = absurd (early_late i.moment s.moment p.0 q.1.moment)
follow_once gate i s m a b (inr (inl p)) (inl q) = absurd (p.0 q.0)
follow_once gate i s m a b (inr (inl p)) (inr (inl q)) = p.2 ∙ sym q.2
follow_once gate i s m a b (inr (inl p)) (inr (inr q)) = absurd (p.1 q.0 q.1)
follow_once gate i s m a b (inr (inr p)) (inl q) = absurd (early_late i.moment s.moment q.0 p.1.moment)
follow_once gate i s m a b (inr (inr p)) (inr (inl q)) = absurd (q.1 p.0 p.1)
follow_once gate i s m a b (inr (inr p)) (inr (inr q)) = p.3 ∙ sym q.3

head_is : (i j : LogItem) (is js : List LogItem) → i ∷ is ≡ j ∷ js → i ≡ j
head_is i j is js e = cc

tail_is : (i j : LogItem) (is js : List LogItem) → i ∷ is ≡ j ∷ js → is ≡ js
tail_is i j is js e = cc

-- items break off at one item
record SameEnd (a b : List LogItem) (i j : LogItem) (s t : State) (m n : Contents) : Type 0 where
  before : a ≡ b
  item : i ≡ j
  state : s ≡ t
  held : m ≡ n

ends_at : (i k : LogItem) (s t : State) (l m : Contents) → i ≡ k → t ≡ s → m ≡ l → Ends i t m → Ends k s l
ends_at i k s t l m item state held ends =
    let of_state = subst (λ (z : State). Ends i z m) state ends in
    let of_held = subst (λ (z : Contents). Ends i s z) held of_state in
    subst (λ (z : LogItem). Ends z s l) item of_held

ends_once : (a b : List LogItem) (i j : LogItem) (x y : List LogItem) (s t u : State) (l m n : Contents) → a ++ i ∷ x ≡ b ++ j ∷ y → Replays s l a t m → Replays s l b u n → Ends i t m → Ends j u n → SameEnd a b i j t u m n
ends_once [] [] i j x y s t u l m n e p q d f = record { before = refl; item = head_is i j x y e; state = p.0 ∙ sym q.0; held = p.1 ∙ sym q.1 }
ends_once [] (k ∷ ks) i j x y s t u l m n e p q d f =
    absurd (ends_at i k s t l m (head_is i k x (ks ++ j ∷ y) e) p.0 p.1 d q.0 q.1 q.2)
ends_once (h ∷ hs) [] i j x y s t u l m n e p q d f =
    absurd (ends_at j h s u l n (sym (head_is h j (hs ++ i ∷ x) y e)) q.0 q.1 f p.0 p.1 p.2)
ends_once (h ∷ hs) (k ∷ ks) i j x y s t u l m n e p q d f =
    let same : h ≡ k = head_is h k (hs ++ i ∷ x) (ks ++ j ∷ y) e in
    let other = subst (λ (z : LogItem). Replays s l (z ∷ ks) u n) (sym same) q in
    let rest = behind_one h ks s p.0 other.0 u l n p.1 other.1 other.3 in
    let r = ends_once hs ks i j x y p.0 t u (taken p.1.what h.moment l) m n (tail_is h k (hs ++ i ∷ x) (ks ++ j ∷ y) e) p.3 rest d f in
    record { before = ap (λ (z : LogItem). z ∷ hs) same ∙ ap (λ (z : List LogItem). k ∷ z) r.before; item = r.item; state = r.state; held = r.held }

refuses_once : (items : List LogItem) (s : State) (a b : ℕ) → Refuses s items a → Refuses s items b → a ≡ b
refuses_once items s a b p q =
    let d = cannot (length (opened p.before)) p.next p.then p.held a p.cannot in
    let f = cannot (length (opened q.before)) q.next q.then q.held b q.cannot in
    let r = ends_once p.before q.before p.next q.next p.after q.after s p.then q.then nothing_held p.held q.held (sym p.items_are ∙ q.items_are) p.replays q.replays d f in
    let same_held = subst (λ (x : Contents). CannotFollow (length (opened q.before)) q.next q.then x b) (sym r.held) q.cannot in
    let same_state = subst (λ (x : State). CannotFollow (length (opened q.before)) q.next x p.held b) (sym r.state) same_held in
    let same_item = subst (λ (x : LogItem). CannotFollow (length (opened q.before)) x p.then p.held b) (sym r.item) same_state in
    let same_gate = subst (λ (x : List LogItem). CannotFollow (length (opened x)) p.next p.then p.held b) (sym r.before) same_item in
    follow_once (length (opened p.before)) p.next p.then p.held a b p.cannot same_gate

whole_once : (first : ℕ) (bytes : List ℕ) (a b : List LogItem) → AreWhole first bytes a → AreWhole first bytes b → a ≡ b
whole_once first bytes a b (inl p) (inl q) = one_log first bytes a b p q
whole_once first bytes a b (inl p) (inr q) = absurd (log_or_break first bytes a b q.0 p q.1)
whole_once first bytes a b (inr p) (inl q) = absurd (log_or_break first bytes b a p.0 q p.1)
whole_once first bytes a b (inr p) (inr q) = (one_break first bytes a b p.0 q.0 p.1 q.1).0

refused_or_broken : (first : ℕ) (bytes : List ℕ) (s t : State) (m : Contents) (a b : List LogItem) (at end : ℕ) → AreWhole first bytes a → Refuses s a at → Replays s nothing_held b t m → BreaksAt first bytes b end → ⊥
refused_or_broken first bytes s t m a b at end whole r q breaks =
    let same : a ≡ b = whole_once first bytes a b whole (inr (end, breaks)) in
    refused b s t m at q (subst (λ (l : List LogItem). Refuses s l at) same r)

breaks_off_once : (first : ℕ) (s : State) (bytes : List ℕ) (a b : ℕ) → BreaksOff first s bytes a → BreaksOff first s bytes b → a ≡ b
breaks_off_once first s bytes a b (inl (is, p, r)) (inl (js, q, t)) =
    refuses_once is s a b r (subst (λ (l : List LogItem). Refuses s l b) (sym (whole_once first bytes is js p q)) t)
breaks_off_once first s bytes a b (inl (is, p, r)) (inr (js, u, m, q, t)) = absurd (refused_or_broken first bytes s u m is js a b p r q t)
breaks_off_once first s bytes a b (inr (is, u, m, q, t)) (inl (js, p, r)) = absurd (refused_or_broken first bytes s u m js is b a p r q t)
breaks_off_once first s bytes a b (inr (is, u, m, p, r)) (inr (js, v, n, q, t)) = (one_break first bytes is js a b r t).1

log_breaks_once : (first : ℕ) (s : State) (o : Option Log) (a b : ℕ) → LogBreaksOff first s o a → LogBreaksOff first s o b → a ≡ b
log_breaks_once first s None a b p q = absurd p
log_breaks_once first s (Some log) a b p q = breaks_off_once first s log.bytes a b p q

excluded : {P : Type 0} (older : List LogItem) → older ≡ [] → P → ((older ≢ []) ⊎ (P → ⊥)) → ⊥
excluded older none open_gate (inl some) = some none
excluded older none open_gate (inr shut) = shut open_gate

second_breaks_once : (older : List LogItem) (s : State) (o : Option Log) (a b : ℕ) → SecondBreaks older s o a → SecondBreaks older s o b → a ≡ b
second_breaks_once older s o a b (inl p) (inl q) = p.2 ∙ sym q.2
second_breaks_once older s o a b (inl p) (inr q) = absurd (excluded older p.0 p.1 q.0)
second_breaks_once older s o a b (inr p) (inl q) = absurd (excluded older q.0 q.1 p.0)
second_breaks_once older s o a b (inr p) (inr q) = log_breaks_once (s.version + 1) s o a b p.1 q.1

-- ---- one place in a head

within_front : (names : List ℕ) (i j name : ℕ) → i < j → slice_get names i ≡ Some name → slice_get (take j names) i ≡ Some name
within_front [] i j name lt e = absurd cc
within_front (n ∷ ns) i zero name lt e = absurd (early_late i 0 lt (omega arith))
within_front (n ∷ ns) zero (suc j) name lt e = e
within_front (n ∷ ns) (suc i) (suc j) name lt e = within_front ns i j name (omega arith) e

not_before : (image : Image) (names : List ℕ) (i j : ℕ) → FirstMissing image names i → FirstMissing image names j → i < j → ⊥
not_before image names i j p q lt = not_missing image (take j names) i p.name q.before (within_front names i j p.name lt p.there) p.missing

one_missing : (image : Image) (names : List ℕ) (i j : ℕ) → FirstMissing image names i → FirstMissing image names j → i ≡ j
one_missing image names i j p q =
    elim (cases_order i j) [
      | inl e ↦ e
      | inr (inl below) ↦ absurd (not_before image names i j p q below)
      | inr (inr above) ↦ absurd (not_before image names j i q p above)
    ]

head_refuses_once : (image : Image) (h : Head) (a b : ℕ) → HeadRefuses image h a → HeadRefuses image h b → a ≡ b
head_refuses_once image h a b (inl (i, p, at)) (inl (j, q, there)) = at ∙ ap (λ (n : ℕ). file_place h n) (one_missing image (all_files h.sets) i j p q) ∙ sym there
head_refuses_once image h a b (inl (i, p, at)) (inr (all, some, there)) = absurd (not_missing image (all_files h.sets) i p.name all p.there p.missing)
head_refuses_once image h a b (inr (all, some, at)) (inl (j, q, there)) = absurd (not_missing image (all_files h.sets) j q.name all q.there q.missing)
head_refuses_once image h a b (inr (all, some, at)) (inr (others, more, there)) = at ∙ sym there

head_breaks_once : (image : Image) (o : Option (List ℕ)) (a b : ℕ) → HeadBreaks image o a → HeadBreaks image o b → a ≡ b
head_breaks_once image None a b p q = absurd p
head_breaks_once image (Some bytes) a b (inl p) (inl q) = heads.one_break bytes a b p q
head_breaks_once image (Some bytes) a b (inl p) (inr (h, is, q)) = absurd (heads.head_or_break bytes h a is p)
head_breaks_once image (Some bytes) a b (inr (h, is, p)) (inl q) = absurd (heads.head_or_break bytes h b is q)
head_breaks_once image (Some bytes) a b (inr (h, is, p)) (inr (k, other, q)) =
    head_refuses_once image h a b p (subst (λ (x : Head). HeadRefuses image x b) (sym (heads.one_head bytes h k is other)) q)

-- ---- one place in an image

-- a log of this number breaks, of an image of this head
abbrev LogBreaks : Image → Head → ℕ → ℕ → Type 0
LogBreaks image h n at =
    ((n ≡ h.first_log) × LogBreaksOff (h.version + 1) (state_of_head h []) (image.logs h.first_log) at)
    ⊎ ((n ≡ h.first_log + 1) × (older : List LogItem) × (s : State) × (m : Contents) × HasItems (h.version + 1) older (image.logs h.first_log)
    × Replays (state_of_head h []) nothing_held older s m × SecondBreaks older s (image.logs (h.first_log + 1)) at)

log_is : (m n : ℕ) (k : ℕ) → m ≡ k → n ≡ k → files.Log m ≡ files.Log n
log_is m n k p q = ap (λ (x : ℕ). files.Log x) (p ∙ sym q)

one_log_place : (image : Image) (h : Head) (m n a b : ℕ) → LogBreaks image h m a → LogBreaks image h n b → (files.Log m ≡ files.Log n) × (a ≡ b)
one_log_place image h m n a b (inl (m_is, p)) (inl (n_is, q)) =
    (log_is m n h.first_log m_is n_is, log_breaks_once (h.version + 1) (state_of_head h []) (image.logs h.first_log) a b p q)
one_log_place image h m n a b (inl (m_is, p)) (inr (n_is, older, s, held, log, r, q)) =
    absurd (items_or_break (h.version + 1) (state_of_head h []) s held older (image.logs h.first_log) a log r p)
one_log_place image h m n a b (inr (m_is, older, s, held, log, r, p)) (inl (n_is, q)) =
    absurd (items_or_break (h.version + 1) (state_of_head h []) s held older (image.logs h.first_log) b log r q)
one_log_place image h m n a b (inr (m_is, older, s, held, log, r, p)) (inr (n_is, others, t, kept, there, v, q)) =
    let same : older ≡ others = one_items (h.version + 1) older others (image.logs h.first_log) log there in
    let again = subst (λ (l : List LogItem). Replays (state_of_head h []) nothing_held l t kept) (sym same) v in
    let states : s ≡ t = (one_replay (state_of_head h []) s t nothing_held held kept older r again).0 in
    let at_state = subst (λ (x : State). SecondBreaks others x (image.logs (h.first_log + 1)) b) (sym states) q in
    let at_items = subst (λ (l : List LogItem). SecondBreaks l s (image.logs (h.first_log + 1)) b) (sym same) at_state in
    (log_is m n (h.first_log + 1) m_is n_is, second_breaks_once older s (image.logs (h.first_log + 1)) a b p at_items)

pub one_place : OnePlace
one_place image files.Head files.Head a b p q = (refl, head_breaks_once image image.head a b p q)
one_place image files.Head (files.Log n) a b p (h, stands, q) = absurd (stands_or_head image h a stands p)
one_place image files.Head (files.File n) a b p q = absurd q
one_place image (files.Log m) files.Head a b (h, stands, p) q = absurd (stands_or_head image h b stands q)
one_place image (files.Log m) (files.Log n) a b (h, stands, p) (k, others, q) =
    let same : h ≡ k = one_head image.head h k stands.head others.head in
    one_log_place image h m n a b p (subst (λ (x : Head). LogBreaks image x n b) (sym same) q)
one_place image (files.Log m) (files.File n) a b p q = absurd q
one_place image (files.File m) other a b p q = absurd p
