-- What an image stands for, and where it breaks.
use Rattle.std.proofs.Common.{◌≡◌, ◌⊎◌, inl, inr, ℕ, ◌+◌, List, [], ◌∷◌, ◌++◌, length, Option, Some, None, refl, sym, ap, subst, ◌∙◌, append-nil}
use Rattle.std.specs.Prelude.{◌≢◌}
use Rattle.td_model.specs.State.{State, empty_state}
use Rattle.td_outside.specs.Image.{Log, Image}
use Rattle.td_wal.specs.declared.item.LogItem.{LogItem}
use Rattle.td_wal.specs.Log.{IsLog, BreaksAt, opened}
use Rattle.td_wal.proofs.LogLaws.{one_log, log_or_break, one_break}
use Rattle.td_core.specs.declared.causes.FileId.{FileId}
use Rattle.td_core.specs.declared.causes.FileId.TheVariants as files
use Rattle.td_core.specs.Replay.{IsNext, Replays}
use Rattle.td_core.specs.Stands.{FIRST_LOG, HasItems, Stands}
use Rattle.td_core.specs.CoreState.{LogPlace, AtGate, IsWritten, IsActive}
use Rattle.td_core.specs.Breaks.{CannotFollow, Refuses, AreWhole, BreaksOff, LogBreaksOff, HasOpenGate, SecondBreaks, BreaksFirst}
use Rattle.td_core.proofs.Sums.{early_late}
use Rattle.td_core.proofs.Replaying.{one_next, one_replay, replays_split}

-- ---- the log that is written

-- a log whose closed gate is known has its items
pub gate_items : (first : ℕ) (items : List LogItem) (gate : ℕ) (o : Option Log) → AtGate first items gate o → HasItems first items o
gate_items first items gate None p = p.0
gate_items first items gate (Some log) p = p.log_at.log

no_items : (first : ℕ) (o : Option Log) → o ≡ None → HasItems first [] o
no_items first None e = refl
no_items first (Some log) e = absurd cc

-- an image whose written log has these items, behind those of the log before it, stands for what they make
pub items_stand : (image : Image) (number : ℕ) (older own : List LogItem) (s : State) → image.head ≡ None → IsWritten image number older → HasItems (1 + length older) own (image.logs number) → Replays empty_state (older ++ own) s → Stands image s
items_stand image number older own s head (inl w) log replays =
    let here : HasItems (1 + length older) own (image.logs FIRST_LOG) = subst (λ (n : ℕ). HasItems (1 + length older) own (image.logs n)) w.0 log in
    record {
      head = head;
      older = own;
      newer = [];
      first_log = subst (λ (l : List LogItem). HasItems (1 + length l) own (image.logs FIRST_LOG)) w.1 here;
      second_log = no_items (1 + length own) (image.logs (FIRST_LOG + 1)) w.2;
      in_order = λ some. absurd (some refl);
      replays = subst (λ (l : List LogItem). Replays empty_state l s) (ap (λ (l : List LogItem). l ++ own) w.1 ∙ sym (append-nil own)) replays;
    }
items_stand image number older own s head (inr w) log replays = record {
  head = head;
  older = older;
  newer = own;
  first_log = w.2;
  second_log = subst (λ (n : ℕ). HasItems (1 + length older) own (image.logs n)) w.0 log;
  in_order = λ _. w.1;
  replays = replays;
}

-- the image of a store stands for the state by the log that is written
pub active_stands : (image : Image) (place : LogPlace) (s : State) → IsActive image place s → Stands image s
active_stands image place s a =
    let items = gate_items place.first a.own place.gate (image.logs place.number) a.log in
    items_stand image place.number a.older a.own s a.head a.which (subst (λ (n : ℕ). HasItems n a.own (image.logs place.number)) a.first items) a.replays

-- ---- one state

pub one_items : (first : ℕ) (a b : List LogItem) (o : Option Log) → HasItems first a o → HasItems first b o → a ≡ b
one_items first a b None p q = p ∙ sym q
one_items first a b (Some log) p q = one_log first log.bytes a b p q

same_parts : (a b c d : List LogItem) → a ≡ b → c ≡ d → a ++ c ≡ b ++ d
same_parts a b c d e f = ap (λ (l : List LogItem). l ++ c) e ∙ ap (λ (l : List LogItem). b ++ l) f

pub one_state : (image : Image) (a b : State) → Stands image a → Stands image b → a ≡ b
one_state image a b p q =
    let older : p.older ≡ q.older = one_items 1 p.older q.older (image.logs FIRST_LOG) p.first_log q.first_log in
    let others = subst (λ (l : List LogItem). HasItems (1 + length l) q.newer (image.logs (FIRST_LOG + 1))) (sym older) q.second_log in
    let newer : p.newer ≡ q.newer = one_items (1 + length p.older) p.newer q.newer (image.logs (FIRST_LOG + 1)) p.second_log others in
    let items = same_parts p.older q.older p.newer q.newer older newer in
    one_replay (p.older ++ p.newer) empty_state a b p.replays (subst (λ (l : List LogItem). Replays empty_state l b) (sym items) q.replays)

-- ---- a state or a break

-- an item that can't follow makes no state
pub cannot : (gate : ℕ) (i : LogItem) (s : State) (at : ℕ) → CannotFollow gate i s at → (t : State) → IsNext i s t → ⊥
cannot gate i s at (inl early) t n = early_late i.moment s.moment early.0 n.moment
cannot gate i s at (inr none) t n = none.1 t n

refused : (items : List LogItem) (s t : State) (at : ℕ) → Replays s items t → Refuses s items at → ⊥
refused items s t at p r =
    let parts = replays_split r.before (r.next ∷ r.after) s t (subst (λ (l : List LogItem). Replays s l t) r.items_are p) in
    let same : parts.0 ≡ r.then = one_replay r.before s parts.0 r.then parts.1 r.replays in
    let next = subst (λ (x : State). IsNext r.next x parts.2.0) same parts.2.1 in
    cannot (length (opened r.before)) r.next r.then at r.cannot parts.2.0 next

whole_or_break : (first : ℕ) (bytes : List ℕ) (s t : State) (items : List LogItem) (at : ℕ) → IsLog first bytes items → Replays s items t → BreaksOff first s bytes at → ⊥
whole_or_break first bytes s t items at log p (inl (others, inl whole, r)) =
    refused items s t at p (subst (λ (l : List LogItem). Refuses s l at) (one_log first bytes others items whole log) r)
whole_or_break first bytes s t items at log p (inl (others, inr (end, breaks), r)) = log_or_break first bytes items others end log breaks
whole_or_break first bytes s t items at log p (inr (others, u, q, breaks)) = log_or_break first bytes items others at log breaks

items_or_break : (first : ℕ) (s t : State) (items : List LogItem) (o : Option Log) (at : ℕ) → HasItems first items o → Replays s items t → LogBreaksOff first s o at → ⊥
items_or_break first s t items None at log p b = b
items_or_break first s t items (Some l) at log p b = whole_or_break first l.bytes s t items at log p b

-- a log with an open gate at its first byte has items
open_bytes : (first : ℕ) (bytes rest : List ℕ) → IsLog first bytes [] → bytes ≡ 1 ∷ rest → ⊥
open_bytes first bytes rest log open_gate = log.closed (first_is (sym log.bytes_are ∙ open_gate))
  where
    first_is : {a b : ℕ} {xs ys : List ℕ} → a ∷ xs ≡ b ∷ ys → a ≡ b
    first_is e = cc

open_has_items : (first : ℕ) (items : List LogItem) (o : Option Log) → HasItems first items o → HasOpenGate o → items ≢ []
open_has_items first items None log open_gate none = open_gate
open_has_items first items (Some l) log open_gate none = open_bytes first l.bytes open_gate.0 (subst (λ (x : List LogItem). IsLog first l.bytes x) none log) open_gate.1

second_or_break : (older newer : List LogItem) (s t : State) (o : Option Log) (at : ℕ) → HasItems (1 + length older) newer o → (newer ≢ [] → older ≢ []) → Replays s newer t → SecondBreaks older s o at → ⊥
second_or_break older newer s t o at log in_order p (inl (none, open_gate, place)) = in_order (open_has_items (1 + length older) newer o log open_gate) none
second_or_break older newer s t o at log in_order p (inr (some, b)) = items_or_break (1 + length older) s t newer o at log p b

stands_or_second : (image : Image) (s : State) (p : Stands image s) (at : ℕ) (older : List LogItem) (between : State) → HasItems 1 older (image.logs FIRST_LOG) → Replays empty_state older between → SecondBreaks older between (image.logs (FIRST_LOG + 1)) at → ⊥
stands_or_second image s p at older between log q b =
    let same : p.older ≡ older = one_items 1 p.older older (image.logs FIRST_LOG) p.first_log log in
    let parts = replays_split p.older p.newer empty_state s p.replays in
    let begins = subst (λ (l : List LogItem). Replays empty_state l parts.0) same parts.1 in
    let states : parts.0 ≡ between = one_replay older empty_state parts.0 between begins q in
    let second = subst (λ (l : List LogItem). HasItems (1 + length l) p.newer (image.logs (FIRST_LOG + 1))) same p.second_log in
    let in_order = subst (λ (l : List LogItem). p.newer ≢ [] → l ≢ []) same p.in_order in
    second_or_break older p.newer between s (image.logs (FIRST_LOG + 1)) at second in_order (subst (λ (x : State). Replays x p.newer s) states parts.2) b

pub stands_or_breaks : (image : Image) (s : State) (file : FileId) (at : ℕ) → Stands image s → BreaksFirst image file at → ⊥
stands_or_breaks image s files.Head at p b = b.0 p.head
stands_or_breaks image s (files.Log n) at p (none, inl (is, b)) =
    let parts = replays_split p.older p.newer empty_state s p.replays in
    items_or_break 1 empty_state parts.0 p.older (image.logs FIRST_LOG) at p.first_log parts.1 b
stands_or_breaks image s (files.Log n) at p (none, inr (is, older, between, log, q, b)) = stands_or_second image s p at older between log q b
stands_or_breaks image s (files.File n) at p b = b

-- ---- one place

follow_once : (gate : ℕ) (i : LogItem) (s : State) (a b : ℕ) → CannotFollow gate i s a → CannotFollow gate i s b → a ≡ b
follow_once gate i s a b (inl p) (inl q) = p.1 ∙ sym q.1
follow_once gate i s a b (inl p) (inr q) = absurd (q.0 p.0)
follow_once gate i s a b (inr p) (inl q) = absurd (p.0 q.0)
follow_once gate i s a b (inr p) (inr q) = p.2 ∙ sym q.2

head_is : (i j : LogItem) (is js : List LogItem) → i ∷ is ≡ j ∷ js → i ≡ j
head_is i j is js e = cc

tail_is : (i j : LogItem) (is js : List LogItem) → i ∷ is ≡ j ∷ js → is ≡ js
tail_is i j is js e = cc

-- nothing follows this item in a state
abbrev Ends : LogItem → State → Type 0
Ends i s = (t : State) → IsNext i s t → ⊥

-- items break off at one item
pub record SameEnd (a b : List LogItem) (i j : LogItem) (s t : State) : Type 0 where
  pub before : a ≡ b
  pub item : i ≡ j
  pub state : s ≡ t

ends_once : (a b : List LogItem) (i j : LogItem) (x y : List LogItem) (s t u : State) → a ++ i ∷ x ≡ b ++ j ∷ y → Replays s a t → Replays s b u → Ends i t → Ends j u → SameEnd a b i j t u
ends_once [] [] i j x y s t u e p q m n = record { before = refl; item = head_is i j x y e; state = p ∙ sym q }
ends_once [] (k ∷ ks) i j x y s t u e p q m n =
    let next = subst (λ (l : LogItem). IsNext l s q.0) (sym (head_is i k x (ks ++ j ∷ y) e)) q.1 in
    absurd (m q.0 (subst (λ (z : State). IsNext i z q.0) (sym p) next))
ends_once (h ∷ hs) [] i j x y s t u e p q m n =
    let next = subst (λ (l : LogItem). IsNext l s p.0) (head_is h j (hs ++ i ∷ x) y e) p.1 in
    absurd (n p.0 (subst (λ (z : State). IsNext j z p.0) (sym q) next))
ends_once (h ∷ hs) (k ∷ ks) i j x y s t u e p q m n =
    let same : h ≡ k = head_is h k (hs ++ i ∷ x) (ks ++ j ∷ y) e in
    let next = subst (λ (l : LogItem). IsNext l s q.0) (sym same) q.1 in
    let states : p.0 ≡ q.0 = one_next h s p.0 q.0 p.1 next in
    let rest = subst (λ (z : State). Replays z ks u) (sym states) q.2 in
    let r = ends_once hs ks i j x y p.0 t u (tail_is h k (hs ++ i ∷ x) (ks ++ j ∷ y) e) p.2 rest m n in
    record { before = ap (λ (l : LogItem). l ∷ hs) same ∙ ap (λ (l : List LogItem). k ∷ l) r.before; item = r.item; state = r.state }

refuses_once : (items : List LogItem) (s : State) (a b : ℕ) → Refuses s items a → Refuses s items b → a ≡ b
refuses_once items s a b p q =
    let m = cannot (length (opened p.before)) p.next p.then a p.cannot in
    let n = cannot (length (opened q.before)) q.next q.then b q.cannot in
    let r = ends_once p.before q.before p.next q.next p.after q.after s p.then q.then (sym p.items_are ∙ q.items_are) p.replays q.replays m n in
    let same_state = subst (λ (x : State). CannotFollow (length (opened q.before)) q.next x b) (sym r.state) q.cannot in
    let same_item = subst (λ (x : LogItem). CannotFollow (length (opened q.before)) x p.then b) (sym r.item) same_state in
    let same_gate = subst (λ (x : List LogItem). CannotFollow (length (opened x)) p.next p.then b) (sym r.before) same_item in
    follow_once (length (opened p.before)) p.next p.then a b p.cannot same_gate

whole_once : (first : ℕ) (bytes : List ℕ) (a b : List LogItem) → AreWhole first bytes a → AreWhole first bytes b → a ≡ b
whole_once first bytes a b (inl p) (inl q) = one_log first bytes a b p q
whole_once first bytes a b (inl p) (inr q) = absurd (log_or_break first bytes a b q.0 p q.1)
whole_once first bytes a b (inr p) (inl q) = absurd (log_or_break first bytes b a p.0 q p.1)
whole_once first bytes a b (inr p) (inr q) = (one_break first bytes a b p.0 q.0 p.1 q.1).0

refused_or_broken : (first : ℕ) (bytes : List ℕ) (s t : State) (a b : List LogItem) (at end : ℕ) → AreWhole first bytes a → Refuses s a at → Replays s b t → BreaksAt first bytes b end → ⊥
refused_or_broken first bytes s t a b at end whole r q breaks =
    let same : a ≡ b = whole_once first bytes a b whole (inr (end, breaks)) in
    refused b s t at q (subst (λ (l : List LogItem). Refuses s l at) same r)

breaks_off_once : (first : ℕ) (s : State) (bytes : List ℕ) (a b : ℕ) → BreaksOff first s bytes a → BreaksOff first s bytes b → a ≡ b
breaks_off_once first s bytes a b (inl (is, p, r)) (inl (js, q, t)) =
    refuses_once is s a b r (subst (λ (l : List LogItem). Refuses s l b) (sym (whole_once first bytes is js p q)) t)
breaks_off_once first s bytes a b (inl (is, p, r)) (inr (js, u, q, t)) = absurd (refused_or_broken first bytes s u is js a b p r q t)
breaks_off_once first s bytes a b (inr (is, u, q, t)) (inl (js, p, r)) = absurd (refused_or_broken first bytes s u js is b a p r q t)
breaks_off_once first s bytes a b (inr (is, u, p, r)) (inr (js, v, q, t)) = (one_break first bytes is js a b r t).1

log_breaks_once : (first : ℕ) (s : State) (o : Option Log) (a b : ℕ) → LogBreaksOff first s o a → LogBreaksOff first s o b → a ≡ b
log_breaks_once first s None a b p q = absurd p
log_breaks_once first s (Some log) a b p q = breaks_off_once first s log.bytes a b p q

excluded : {P : Type 0} (older : List LogItem) → older ≡ [] → P → ((older ≢ []) ⊎ (P → ⊥)) → ⊥
excluded older none open_gate (inl some) = some none
excluded older none open_gate (inr shut) = shut open_gate

second_breaks_once : (older : List LogItem) (s : State) (o : Option Log) (a b : ℕ) → SecondBreaks older s o a → SecondBreaks older s o b → a ≡ b
second_breaks_once older s o a b (inl p) (inl q) = p.2 ∙ sym q.2
second_breaks_once older s o a b (inl p) (inr q) = absurd (excluded older p.0 p.1 q.0)
second_breaks_once older s o a b (inr p) (inl q) = absurd (excluded older q.0 q.1 p.0)
second_breaks_once older s o a b (inr p) (inr q) = log_breaks_once (1 + length older) s o a b p.1 q.1

log_is : (m n : ℕ) (k : ℕ) → m ≡ k → n ≡ k → files.Log m ≡ files.Log n
log_is m n k p q = ap (λ (x : ℕ). files.Log x) (p ∙ sym q)

pub one_place : (image : Image) (file other : FileId) (a b : ℕ) → BreaksFirst image file a → BreaksFirst image other b → (file ≡ other) × (a ≡ b)
one_place image files.Head files.Head a b p q = (refl, p.1 ∙ sym q.1)
one_place image files.Head (files.Log n) a b p q = absurd (p.0 q.0)
one_place image files.Head (files.File n) a b p q = absurd q
one_place image (files.Log m) files.Head a b p q = absurd (q.0 p.0)
one_place image (files.Log m) (files.Log n) a b (none, inl (m_is, p)) (_, inl (n_is, q)) = (log_is m n FIRST_LOG m_is n_is, log_breaks_once 1 empty_state (image.logs FIRST_LOG) a b p q)
one_place image (files.Log m) (files.Log n) a b (none, inl (m_is, p)) (_, inr (n_is, older, s, log, r, q)) = absurd (items_or_break 1 empty_state s older (image.logs FIRST_LOG) a log r p)
one_place image (files.Log m) (files.Log n) a b (none, inr (m_is, older, s, log, r, p)) (_, inl (n_is, q)) = absurd (items_or_break 1 empty_state s older (image.logs FIRST_LOG) b log r q)
one_place image (files.Log m) (files.Log n) a b (none, inr (m_is, older, s, log, r, p)) (_, inr (n_is, others, t, log', v, q)) =
    let same : older ≡ others = one_items 1 older others (image.logs FIRST_LOG) log log' in
    let again = subst (λ (l : List LogItem). Replays empty_state l t) (sym same) v in
    let states : s ≡ t = one_replay older empty_state s t r again in
    let at_state = subst (λ (x : State). SecondBreaks others x (image.logs (FIRST_LOG + 1)) b) (sym states) q in
    let at_items = subst (λ (l : List LogItem). SecondBreaks l s (image.logs (FIRST_LOG + 1)) b) (sym same) at_state in
    (log_is m n (FIRST_LOG + 1) m_is n_is, second_breaks_once older s (image.logs (FIRST_LOG + 1)) a b p at_items)
one_place image (files.Log m) (files.File n) a b p q = absurd q
one_place image (files.File m) other a b p q = absurd p
