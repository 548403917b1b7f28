-- What settling the logs makes of an image.
use Rattle.std.proofs.Common.{◌≡◌, inl, inr, ℕ, ◌+◌, ◌<◌, ◌≤◌, Bool, true, false, cond, eqb, ltb, List, [], ◌∷◌, length, Option, Some, None, refl, sym, ap, subst, ◌∙◌, arith}
use Rattle.std.specs.Prelude.{◌≢◌, ◌&&◌, is_some, IfSome}
use Rattle.std.specs.Option.{option_map, IsSomeAnd}
use mathlib.Core.Path.{fun_ext}
use Rattle.std.proofs.lemmas.Bool.{ne_eqb, eq-eqb, cond-true, cond-false, true≢false, ltb-true, ltb-false, and_parts, and_right, eqb-true}
use Rattle.std.proofs.lemmas.Option.{same_Some}
use Rattle.std.proofs.lemmas.List.{nil_from_length}
use Rattle.td_limits.specs.declared.limits.TheConstants.{LAST_TIMESTAMP}
use Rattle.td_model.specs.State.{State, empty_state}
use Rattle.td_outside.specs.Image.{Log, Image, Along, Becomes, put}
use Rattle.td_outside.specs.Logs.{HasLog, with_log, after_sync, after_log_drop, after_failed_log_drop}
use Rattle.td_wal.specs.declared.item.LogItem.{LogItem}
use Rattle.td_wal.specs.Log.{IsLog, LogAt}
use Rattle.td_wal.proofs.LogLaws.{one_log}
use Rattle.td_core.specs.declared.kept.ActiveLog.{ActiveLog}
use Rattle.td_core.specs.declared.opening.LogBytes.{LogBytes}
use Rattle.td_core.specs.Replay.{Replays}
use Rattle.td_core.specs.Stands.{FIRST_LOG, HasItems, Stands}
use Rattle.td_core.specs.CoreState.{LogPlace, log_place, AtGate, IsActive, IsMade, IsKept}
use Rattle.td_core.specs.Opening.{HoldsLogs, EndsAt, MakesState, drops_second, StandAlike, Tidies, IsEmptyLog, synced, dropped, Settles}
use Rattle.td_core.proofs.Sums.{some_since, none_since, none_at_most, self_at_most}
use Rattle.td_core.proofs.Replaying.{replays_then, replays_version}
use Rattle.td_core.proofs.Items.{made_moment}
use Rattle.td_core.proofs.BothLogs.{bytes_of, ended_items, items_open, empty_closed, no_version_at, next_first}

-- ---- the logs of an image

put_other : {A : Type 0} (n m : ℕ) (x : A) (map : ℕ → A) → eqb m n ≡ false → put n x map m ≡ map m
put_other n m x map other = cond-false (eqb m n) x (map m) other

put_own : {A : Type 0} (n : ℕ) (x : A) (map : ℕ → A) → put n x map n ≡ x
put_own n x map = cond-true (eqb n n) x (map n) (eq-eqb n n refl)

none_is : {A : Type 0} (o : Option A) → is_some o ≡ false → o ≡ None
none_is None e = refl
none_is (Some x) e = absurd (true≢false e)

-- the image without a log, as it is dropped
abbrev gone : ℕ → Image → Image
gone n image = record image { logs = put n None image.logs; doubt = record image.doubt { fresh = put n false image.doubt.fresh; gone = put n false image.doubt.gone } }

drop_cases : (n : ℕ) (image : Image) (P : Image → Type 0) → (is_some (image.logs n) ≡ true → P (gone n image)) → (is_some (image.logs n) ≡ false → P image) → P (after_log_drop n image)
drop_cases n image P there missing = by (is_some (image.logs n)) refl
  where
    by : (b : Bool) → is_some (image.logs n) ≡ b → P (cond b (gone n image) image)
    by true e = there e
    by false e = missing e

pub drop_other : (n m : ℕ) (image : Image) → eqb m n ≡ false → (after_log_drop n image).logs m ≡ image.logs m
drop_other n m image other = drop_cases n image (λ (x : Image). x.logs m ≡ image.logs m) (λ e. put_other n m None image.logs other) (λ e. refl)

pub drop_own : (n : ℕ) (image : Image) → (after_log_drop n image).logs n ≡ None
drop_own n image = drop_cases n image (λ (x : Image). x.logs n ≡ None) (λ e. put_own n None image.logs) (λ e. none_is (image.logs n) e)

drop_head : (n : ℕ) (image : Image) → (after_log_drop n image).head ≡ image.head
drop_head n image = drop_cases n image (λ (x : Image). x.head ≡ image.head) (λ e. refl) (λ e. refl)

-- ---- images that stand alike

-- two logs have the same items
abbrev Alike : Option Log → Option Log → Type 0
Alike o p = (first : ℕ) (items : List LogItem) → (HasItems first items o → HasItems first items p) × (HasItems first items p → HasItems first items o)

alike_self : (o p : Option Log) → p ≡ o → Alike o p
alike_self o p e first items = (λ h. subst (λ (x : Option Log). HasItems first items x) (sym e) h, λ h. subst (λ (x : Option Log). HasItems first items x) e h)

alike_synced : (o p : Option Log) → p ≡ option_map after_sync o → Alike o p
alike_synced None p e first items = alike_self None p e first items
alike_synced (Some log) p e first items = (λ h. subst (λ (x : Option Log). HasItems first items x) (sym e) h, λ h. subst (λ (x : Option Log). HasItems first items x) e h)

empty_is : (first : ℕ) (items : List LogItem) (o : Option Log) → IsEmptyLog o → HasItems first items o → items ≡ []
empty_is first items None empty h = h
empty_is first items (Some log) empty h = one_log first log.bytes items [] h (record { gate = empty.0; rest = empty.1; closed = empty.2; bytes_are = empty.3; fit = refl })

is_empty : (first : ℕ) (items : List LogItem) (o : Option Log) → IsEmptyLog o → items ≡ [] → HasItems first items o
is_empty first items None empty e = e
is_empty first items (Some log) empty e = subst (λ (l : List LogItem). IsLog first log.bytes l) (sym e) (record { gate = empty.0; rest = empty.1; closed = empty.2; bytes_are = empty.3; fit = refl })

alike_empty : (o p : Option Log) → IsEmptyLog o → p ≡ None → Alike o p
alike_empty o p empty e first items = (λ h. subst (λ (x : Option Log). HasItems first items x) (sym e) (empty_is first items o empty h), λ h. is_empty first items o empty (subst (λ (x : Option Log). HasItems first items x) e h))

stands_on : (old new : Image) (s : State) → new.head ≡ old.head
    → ((first : ℕ) (items : List LogItem) → HasItems first items (old.logs FIRST_LOG) → HasItems first items (new.logs FIRST_LOG))
    → ((first : ℕ) (items : List LogItem) → HasItems first items (old.logs (FIRST_LOG + 1)) → HasItems first items (new.logs (FIRST_LOG + 1)))
    → Stands old s → Stands new s
stands_on old new s head one two p = record {
  head = head ∙ p.head;
  older = p.older;
  newer = p.newer;
  first_log = one 1 p.older p.first_log;
  second_log = two (1 + length p.older) p.newer p.second_log;
  in_order = p.in_order;
  replays = p.replays;
}

alike_by : (old new : Image) → new.head ≡ old.head → Alike (old.logs FIRST_LOG) (new.logs FIRST_LOG) → Alike (old.logs (FIRST_LOG + 1)) (new.logs (FIRST_LOG + 1)) → StandAlike old new
alike_by old new head one two s = (
  λ p. stands_on old new s head (λ f is. (one f is).0) (λ f is. (two f is).0) p,
  λ p. stands_on new old s (sym head) (λ f is. (one f is).1) (λ f is. (two f is).1) p,
)

-- ---- what opening may change

-- all but the logs and the doubts about them
abbrev with_logs_of : Image → Image → Image
with_logs_of old new = record old { logs = new.logs; doubt = record old.doubt { fresh = new.doubt.fresh; gone = new.doubt.gone } }

pub tidies_self : (image : Image) → Tidies image image
tidies_self image = record { rest = refl; others = λ n far. refl; alike = λ s. (λ p. p, λ p. p) }

pub tidies_then : (a b c : Image) → Tidies a b → Tidies b c → Tidies a c
tidies_then a b c p q = record {
  rest = q.rest ∙ ap (λ (x : Image). with_logs_of x c) p.rest;
  others = λ n far. q.others n far ∙ p.others n far;
  alike = λ s. (λ h. (q.alike s).0 ((p.alike s).0 h), λ h. (p.alike s).1 ((q.alike s).1 h));
}

beyond : (n m : ℕ) → n ≤ FIRST_LOG + 1 → FIRST_LOG + 1 < m → eqb m n ≡ false
beyond n m low high = ne_eqb m n (λ e. absurd (omega arith))

first_low : FIRST_LOG ≤ FIRST_LOG + 1
first_low = omega arith

second_low : FIRST_LOG + 1 ≤ FIRST_LOG + 1
second_low = omega arith

before_low : 0 ≤ FIRST_LOG + 1
before_low = omega arith

pub sync_first : (image : Image) → Tidies image (with_log FIRST_LOG after_sync image)
sync_first image = record {
  rest = refl;
  others = λ n far. put_other FIRST_LOG n (option_map after_sync (image.logs FIRST_LOG)) image.logs (beyond FIRST_LOG n first_low far);
  alike = alike_by image (with_log FIRST_LOG after_sync image) refl (alike_synced (image.logs FIRST_LOG) _ refl) (alike_self (image.logs (FIRST_LOG + 1)) _ refl);
}

pub sync_second : (image : Image) → Tidies image (with_log (FIRST_LOG + 1) after_sync image)
sync_second image = record {
  rest = refl;
  others = λ n far. put_other (FIRST_LOG + 1) n (option_map after_sync (image.logs (FIRST_LOG + 1))) image.logs (beyond (FIRST_LOG + 1) n second_low far);
  alike = alike_by image (with_log (FIRST_LOG + 1) after_sync image) refl (alike_self (image.logs FIRST_LOG) _ refl) (alike_synced (image.logs (FIRST_LOG + 1)) _ refl);
}

drop_rest : (n : ℕ) (image : Image) → after_log_drop n image ≡ with_logs_of image (after_log_drop n image)
drop_rest n image = drop_cases n image (λ (x : Image). x ≡ with_logs_of image x) (λ e. refl) (λ e. refl)

pub drop_before : (image : Image) → Tidies image (after_log_drop 0 image)
drop_before image = record {
  rest = drop_rest 0 image;
  others = λ n far. drop_other 0 n image (beyond 0 n before_low far);
  alike = alike_by image (after_log_drop 0 image) (drop_head 0 image) (alike_self (image.logs FIRST_LOG) _ (drop_other 0 FIRST_LOG image refl)) (alike_self (image.logs (FIRST_LOG + 1)) _ (drop_other 0 (FIRST_LOG + 1) image refl));
}

pub drop_second : (image : Image) → IsEmptyLog (image.logs (FIRST_LOG + 1)) → Tidies image (after_log_drop (FIRST_LOG + 1) image)
drop_second image empty = record {
  rest = drop_rest (FIRST_LOG + 1) image;
  others = λ n far. drop_other (FIRST_LOG + 1) n image (beyond (FIRST_LOG + 1) n second_low far);
  alike = alike_by image (after_log_drop (FIRST_LOG + 1) image) (drop_head (FIRST_LOG + 1) image) (alike_self (image.logs FIRST_LOG) _ (drop_other (FIRST_LOG + 1) FIRST_LOG image refl)) (alike_empty (image.logs (FIRST_LOG + 1)) _ empty (drop_own (FIRST_LOG + 1) image));
}

pub drop_fails : (n : ℕ) (image : Image) → Tidies image (after_failed_log_drop n image)
drop_fails n image = record {
  rest = refl;
  others = λ m far. refl;
  alike = alike_by image (after_failed_log_drop n image) refl (alike_self (image.logs FIRST_LOG) _ refl) (alike_self (image.logs (FIRST_LOG + 1)) _ refl);
}

-- ---- what is told

pub told_same : (old new : Option Image) → new ≡ old → Along Tidies old new
told_same old new e = subst (λ (x : Option Image). Along Tidies old x) (sym e) (self old)
  where
    self : (o : Option Image) → Along Tidies o o
    self None = tt
    self (Some image) = tidies_self image

pub told_then : (a b c : Option Image) → Along Tidies a b → Along Tidies b c → Along Tidies a c
told_then None None None p q = tt
told_then None None (Some z) p q = absurd q
told_then None (Some y) c p q = absurd p
told_then (Some x) None c p q = absurd p
told_then (Some x) (Some y) None p q = absurd q
told_then (Some x) (Some y) (Some z) p q = tidies_then x y z p q

pub told_by : (f : Image → Image) (old new : Option Image) → ((image : Image) → Tidies image (f image)) → Becomes f old new → Along Tidies old new
told_by f None None step b = tt
told_by f None (Some y) step b = absurd b
told_by f (Some x) None step b = absurd b
told_by f (Some x) (Some y) step b = subst (λ (z : Image). Tidies x z) (sym b) (step x)

pub told_by_empty : (old new : Option Image) → IfSome old (λ image. IsEmptyLog (image.logs (FIRST_LOG + 1))) → Becomes (after_log_drop (FIRST_LOG + 1)) old new → Along Tidies old new
told_by_empty None None empty b = tt
told_by_empty None (Some y) empty b = absurd b
told_by_empty (Some x) None empty b = absurd b
told_by_empty (Some x) (Some y) empty b = subst (λ (z : Image). Tidies x z) (sym b) (drop_second x empty)

pub becomes_then : (f g : Image → Image) (a b c : Option Image) → Becomes f a b → Becomes g b c → Becomes (λ image. g (f image)) a c
becomes_then f g None None None p q = tt
becomes_then f g None None (Some z) p q = absurd q
becomes_then f g None (Some y) c p q = absurd p
becomes_then f g (Some x) None c p q = absurd p
becomes_then f g (Some x) (Some y) None p q = absurd q
becomes_then f g (Some x) (Some y) (Some z) p q = q ∙ ap g p

-- after the log before the first one is dropped, the second is as it was
pub empty_still : (old new : Option Image) → IfSome old (λ image. IsEmptyLog (image.logs (FIRST_LOG + 1))) → Becomes (after_log_drop 0) old new → IfSome new (λ image. IsEmptyLog (image.logs (FIRST_LOG + 1)))
empty_still None None empty b = tt
empty_still None (Some y) empty b = absurd b
empty_still (Some x) None empty b = absurd b
empty_still (Some x) (Some y) empty b = subst (λ (o : Option Log). IsEmptyLog o) (sym (ap (λ (z : Image). z.logs (FIRST_LOG + 1)) b ∙ drop_other 0 (FIRST_LOG + 1) x refl)) empty

-- ---- the log that is written

synced_is : (o : Option Log) → bytes_of (option_map after_sync o) ≡ bytes_of o
synced_is None = refl
synced_is (Some log) = refl

synced_there : (o : Option Log) → is_some (option_map after_sync o) ≡ is_some o
synced_there None = refl
synced_there (Some log) = refl

read_there : (bytes : Option (List ℕ)) (o : Option Log) → bytes ≡ bytes_of o → is_some bytes ≡ is_some o
read_there bytes None e = ap (λ (x : Option (List ℕ)). is_some x) e
read_there bytes (Some log) e = ap (λ (x : Option (List ℕ)). is_some x) e

settled_gate : (first : ℕ) (items : List LogItem) (gate : ℕ) (bytes : Option (List ℕ)) (o : Option Log) → bytes ≡ bytes_of o → EndsAt first bytes items gate → AtGate first items gate (option_map after_sync o)
settled_gate first items gate None None e p = p
settled_gate first items gate None (Some log) e p = absurd cc
settled_gate first items gate (Some bytes) None e p = absurd cc
settled_gate first items gate (Some bytes) (Some log) e p = record {
  log_at = subst (λ (b : List ℕ). LogAt first items gate b) (same_Some bytes log.bytes e) p;
  stable = record { synced = refl; whole = refl };
}

-- the first log of a settled image, and the second where it stays
first_settled : (drops : Bool) (old : Image) → (dropped drops (synced old)).logs FIRST_LOG ≡ option_map after_sync (old.logs FIRST_LOG)
first_settled false old = drop_other 0 FIRST_LOG (synced old) refl
first_settled true old = drop_other (FIRST_LOG + 1) FIRST_LOG (after_log_drop 0 (synced old)) refl ∙ drop_other 0 FIRST_LOG (synced old) refl

second_settled : (old : Image) → (dropped false (synced old)).logs (FIRST_LOG + 1) ≡ option_map after_sync (old.logs (FIRST_LOG + 1))
second_settled old = drop_other 0 (FIRST_LOG + 1) (synced old) refl

second_gone : (drops : Bool) (old : Image) → drops ≡ is_some (old.logs (FIRST_LOG + 1)) → (dropped drops (synced old)).logs (FIRST_LOG + 1) ≡ None
second_gone false old e = second_settled old ∙ ap (λ (o : Option Log). option_map after_sync o) (none_is (old.logs (FIRST_LOG + 1)) (sym e))
second_gone true old e = drop_own (FIRST_LOG + 1) (after_log_drop 0 (synced old))

head_settled : (drops : Bool) (old : Image) → (dropped drops (synced old)).head ≡ old.head
head_settled false old = drop_head 0 (synced old)
head_settled true old = drop_head (FIRST_LOG + 1) (after_log_drop 0 (synced old)) ∙ drop_head 0 (synced old)

ended_there : (first : ℕ) (bytes : Option (List ℕ)) (items : List LogItem) (gate : ℕ) → EndsAt first bytes items gate → items ≢ [] → is_some bytes ≡ true
ended_there first None items gate e some = absurd (some e.0)
ended_there first (Some bytes) items gate e some = refl

and_self : (x : Bool) → (x && true) ≡ x
and_self true = refl
and_self false = refl

-- the log that is written after the first two were settled
pub record Written (place : LogPlace) (made : Bool) (s : State) (old new : Image) : Type 0 where
  pub active : IsActive new place s
  pub there : IsMade place made new
  pub settles : Settles place old new

-- the settled second log, behind a first one with items
written_second : (logs : LogBytes) (s : State) (active : ActiveLog) (old : Image) (m : MakesState logs s active) → HoldsLogs logs old → m.between.version < s.version
    → Written (record { number = FIRST_LOG + 1; first = m.between.version + 1; gate = m.second_gate }) true s old (dropped false (synced old))
written_second logs s active old m h rises =
    let new = dropped false (synced old) in
    let older = m.first.items in
    let own = m.second.items in
    let has_own : own ≢ [] = λ none. some_since m.between.version s.version (length own) rises (replays_version own m.between s m.second.replays) (ap (λ (l : List LogItem). length l) none) in
    let has_older : older ≢ [] = λ none. m.in_order (no_version_at older m.between m.first.replays none) (items_open (m.between.version + 1) logs.second own m.second_gate m.second.ends has_own) in
    let first_read : logs.first ≡ bytes_of (new.logs FIRST_LOG) = h.first ∙ sym (synced_is (old.logs FIRST_LOG)) ∙ ap (λ (o : Option Log). bytes_of o) (sym (first_settled false old)) in
    record {
      active = record {
        head = head_settled false old ∙ h.head;
        older = older;
        own = own;
        which = inr (refl, has_older, ended_items 1 logs.first (new.logs FIRST_LOG) older m.first_gate first_read m.first.ends);
        first = next_first older m.between m.first.replays;
        log = subst (λ (o : Option Log). AtGate (m.between.version + 1) own m.second_gate o) (sym (second_settled old)) (settled_gate (m.between.version + 1) own m.second_gate logs.second (old.logs (FIRST_LOG + 1)) h.second m.second.ends);
        replays = replays_then older own empty_state m.between s m.first.replays m.second.replays;
      };
      there = ap (λ (o : Option Log). is_some o) (second_settled old) ∙ synced_there (old.logs (FIRST_LOG + 1)) ∙ sym (read_there logs.second (old.logs (FIRST_LOG + 1)) h.second) ∙ ended_there (m.between.version + 1) logs.second own m.second_gate m.second.ends has_own;
      settles = inl (refl, refl);
    }

-- the settled first log, and no other
written_first : (logs : LogBytes) (s : State) (active : ActiveLog) (old : Image) (m : MakesState logs s active) (drops : Bool) → HoldsLogs logs old → s.version ≤ m.between.version → drops ≡ is_some (old.logs (FIRST_LOG + 1))
    → Written (record { number = FIRST_LOG; first = 1; gate = m.first_gate }) (is_some logs.first) s old (dropped drops (synced old))
written_first logs s active old m drops h stays drops_is =
    let new = dropped drops (synced old) in
    let own = m.first.items in
    let none : m.second.items ≡ [] = nil_from_length m.second.items (none_since m.between.version s.version (length m.second.items) stays (replays_version m.second.items m.between s m.second.replays)) in
    let same : s ≡ m.between = subst (λ (l : List LogItem). Replays m.between l s) none m.second.replays in
    record {
      active = record {
        head = head_settled drops old ∙ h.head;
        older = [];
        own = own;
        which = inl (refl, refl, second_gone drops old drops_is);
        first = refl;
        log = subst (λ (o : Option Log). AtGate 1 own m.first_gate o) (sym (first_settled drops old)) (settled_gate 1 own m.first_gate logs.first (old.logs FIRST_LOG) h.first m.first.ends);
        replays = subst (λ (x : State). Replays empty_state own x) (sym same) m.first.replays;
      };
      there = ap (λ (o : Option Log). is_some o) (first_settled drops old) ∙ synced_there (old.logs FIRST_LOG) ∙ sym (read_there logs.first (old.logs FIRST_LOG) h.first);
      settles = inr (refl, ap (λ (b : Bool). dropped b (synced old)) drops_is);
    }

written : (logs : LogBytes) (s : State) (active : ActiveLog) (old new : Image) (m : MakesState logs s active) (rises : Bool) → ltb m.between.version s.version ≡ rises → HoldsLogs logs old → new ≡ dropped (drops_second logs active) (synced old)
    → Written (log_place active) active.is_made s old new
written logs s active old new m true rises h is =
    let a : ActiveLog = record { number = FIRST_LOG + 1; first = m.between.version + 1; gate = m.second_gate; is_made = true } in
    let b : ActiveLog = record { number = FIRST_LOG; first = 1; gate = m.first_gate; is_made = is_some logs.first } in
    let active_is : active ≡ a = m.active_is ∙ cond-true (ltb m.between.version s.version) a b rises in
    let stays : drops_second logs active ≡ false = and_right (is_some logs.second) (eqb active.number FIRST_LOG) (ap (λ (x : ActiveLog). eqb x.number FIRST_LOG) active_is) in
    let here = written_second logs s active old m h (ltb-true _ _ rises) in
    let image : dropped false (synced old) ≡ new = sym (is ∙ ap (λ (d : Bool). dropped d (synced old)) stays) in
    subst (λ (x : Image). Written (log_place active) active.is_made s old x) image (subst (λ (x : ActiveLog). Written (log_place x) x.is_made s old (dropped false (synced old))) (sym active_is) here)
written logs s active old new m false rises h is =
    let a : ActiveLog = record { number = FIRST_LOG + 1; first = m.between.version + 1; gate = m.second_gate; is_made = true } in
    let b : ActiveLog = record { number = FIRST_LOG; first = 1; gate = m.first_gate; is_made = is_some logs.first } in
    let active_is : active ≡ b = m.active_is ∙ cond-false (ltb m.between.version s.version) a b rises in
    let number_is : eqb active.number FIRST_LOG ≡ true = ap (λ (x : ActiveLog). eqb x.number FIRST_LOG) active_is in
    let drops_is : drops_second logs active ≡ is_some (old.logs (FIRST_LOG + 1)) = ap (λ (x : Bool). is_some logs.second && x) number_is ∙ and_self (is_some logs.second) ∙ read_there logs.second (old.logs (FIRST_LOG + 1)) h.second in
    let here = written_first logs s active old m (drops_second logs active) h (ltb-false _ _ rises) drops_is in
    subst (λ (x : Image). Written (log_place active) active.is_made s old x) (sym is) (subst (λ (x : ActiveLog). Written (log_place x) x.is_made s old (dropped (drops_second logs active) (synced old))) (sym active_is) here)

-- ---- what opening leaves, where the store tells it

settled_image : (logs : LogBytes) (active : ActiveLog) (old mid new : Option Image) → Becomes synced old mid → Becomes (dropped (drops_second logs active)) mid new → Becomes (λ image. dropped (drops_second logs active) (synced image)) old new
settled_image logs active old mid new p q = becomes_then synced (dropped (drops_second logs active)) old mid new p q

told_written : (logs : LogBytes) (s : State) (active : ActiveLog) (old new : Option Image) → MakesState logs s active → IfSome old (HoldsLogs logs) → Becomes (λ image. dropped (drops_second logs active) (synced image)) old new → Along (Written (log_place active) active.is_made s) old new
told_written logs s active None None m h b = tt
told_written logs s active None (Some y) m h b = absurd b
told_written logs s active (Some x) None m h b = absurd b
told_written logs s active (Some x) (Some y) m h b = written logs s active x y m (ltb m.between.version s.version) refl h b

along_new : (P : Image → Image → Type 0) (Q : Image → Type 0) (old new : Option Image) → ((x y : Image) → P x y → Q y) → Along P old new → IfSome new Q
along_new P Q None None step p = tt
along_new P Q None (Some y) step p = absurd p
along_new P Q (Some x) None step p = absurd p
along_new P Q (Some x) (Some y) step p = step x y p

along_map : (P R : Image → Image → Type 0) (old new : Option Image) → ((x y : Image) → P x y → R x y) → Along P old new → Along R old new
along_map P R None None step p = tt
along_map P R None (Some y) step p = absurd p
along_map P R (Some x) None step p = absurd p
along_map P R (Some x) (Some y) step p = step x y p

pub logs_moment : (logs : LogBytes) (s : State) (active : ActiveLog) → MakesState logs s active → s.moment ≤ LAST_TIMESTAMP
logs_moment logs s active m = made_moment logs.second m.second_gate m.between s m.second (made_moment logs.first m.first_gate empty_state m.between m.first (none_at_most LAST_TIMESTAMP))

-- all that is true of a core holds of what was opened
pub opened_kept : (logs : LogBytes) (s : State) (active : ActiveLog) (old mid new : Option Image) (spare : ℕ) → MakesState logs s active → IfSome old (HoldsLogs logs) → Becomes synced old mid → Becomes (dropped (drops_second logs active)) mid new → 1 ≤ spare
    → IsKept new s (log_place active) active.is_made s.moment spare
opened_kept logs s active old mid new spare m h p q room =
    let w = told_written logs s active old new m h (settled_image logs active old mid new p q) in
    record {
      since = self_at_most s.moment;
      last = logs_moment logs s active m;
      room = λ going. room;
      active = λ going. along_new (Written (log_place active) active.is_made s) (λ image. IsActive image (log_place active) s) old new (λ x y r. r.active) w;
      there = λ going. along_new (Written (log_place active) active.is_made s) (IsMade (log_place active) active.is_made) old new (λ x y r. r.there) w;
    }

pub opened_settles : (logs : LogBytes) (s : State) (active : ActiveLog) (old mid new : Option Image) → MakesState logs s active → IfSome old (HoldsLogs logs) → Becomes synced old mid → Becomes (dropped (drops_second logs active)) mid new → Along (Settles (log_place active)) old new
opened_settles logs s active old mid new m h p q =
    along_map (Written (log_place active) active.is_made s) (Settles (log_place active)) old new (λ x y r. r.settles) (told_written logs s active old new m h (settled_image logs active old mid new p q))

pub synced_tidies : (old new : Option Image) → Becomes synced old new → Along Tidies old new
synced_tidies old new b = told_by synced old new (λ image. tidies_then image (with_log FIRST_LOG after_sync image) (synced image) (sync_first image) (sync_second (with_log FIRST_LOG after_sync image))) b

-- ---- what the calls ask for

first_there : (logs : LogBytes) (image : Image) → HoldsLogs logs image → is_some (image.logs FIRST_LOG) ≡ is_some logs.first
first_there logs image h = sym (read_there logs.first (image.logs FIRST_LOG) h.first)

second_there : (logs : LogBytes) (image : Image) → HoldsLogs logs image → is_some (image.logs (FIRST_LOG + 1)) ≡ is_some logs.second
second_there logs image h = sym (read_there logs.second (image.logs (FIRST_LOG + 1)) h.second)

pub told_first_there : (logs : LogBytes) (told : Option Image) → IfSome told (HoldsLogs logs) → IfSome told (λ image. is_some (image.logs FIRST_LOG) ≡ is_some logs.first)
told_first_there logs None h = h
told_first_there logs (Some image) h = first_there logs image h

pub told_second_there : (logs : LogBytes) (told : Option Image) → IfSome told (HoldsLogs logs) → IfSome told (λ image. is_some (image.logs (FIRST_LOG + 1)) ≡ is_some logs.second)
told_second_there logs None h = h
told_second_there logs (Some image) h = second_there logs image h

pub second_still_there : (there : Bool) (old new : Option Image) → Becomes (with_log FIRST_LOG after_sync) old new → IfSome old (λ image. is_some (image.logs (FIRST_LOG + 1)) ≡ there) → IfSome new (λ image. is_some (image.logs (FIRST_LOG + 1)) ≡ there)
second_still_there there None None b h = h
second_still_there there None (Some y) b h = absurd b
second_still_there there (Some x) None b h = absurd b
second_still_there there (Some x) (Some y) b h = ap (λ (z : Image). is_some (z.logs (FIRST_LOG + 1))) b ∙ h

there_has : (o : Option Log) → is_some o ≡ true → IsSomeAnd o (λ _. Unit {0})
there_has None e = absurd (true≢false (sym e))
there_has (Some log) e = tt

pub told_has_log : (n : ℕ) (there : Bool) (told : Option Image) → there ≡ true → IfSome told (λ image. is_some (image.logs n) ≡ there) → IfSome told (HasLog n (λ _. Unit {0}))
told_has_log n there None e h = h
told_has_log n there (Some image) e h = there_has (image.logs n) (h ∙ e)

-- a log that isn't there stays as it is
missing : (n : ℕ) (f : Log → Log) (image : Image) → image.logs n ≡ None → with_log n f image ≡ image
missing n f image none = ap (λ (logs : ℕ → Option Log). record image { logs = logs }) (fun_ext (λ m. by m (eqb m n) refl))
  where
    by : (m : ℕ) (b : Bool) → eqb m n ≡ b → cond b (option_map f (image.logs n)) (image.logs m) ≡ image.logs m
    by m true e = ap (λ (o : Option Log). option_map f o) none ∙ sym none ∙ ap (λ (k : ℕ). image.logs k) (sym (eqb-true m n e))
    by m false e = refl

pub told_missing : (n : ℕ) (there : Bool) (told : Option Image) → there ≡ false → IfSome told (λ image. is_some (image.logs n) ≡ there) → Becomes (with_log n after_sync) told told
told_missing n there None e h = tt
told_missing n there (Some image) e h = sym (missing n after_sync image (none_is (image.logs n) (h ∙ e)))

empty_log : (first : ℕ) (bytes : Option (List ℕ)) (gate : ℕ) (o : Option Log) → bytes ≡ bytes_of o → EndsAt first bytes [] gate → IsEmptyLog (option_map after_sync o)
empty_log first bytes gate None e p = tt
empty_log first None gate (Some log) e p = absurd cc
empty_log first (Some bytes) gate (Some log) e p = subst (λ (b : List ℕ). (g : ℕ) × (rest : List ℕ) × (g ≢ 1) × (b ≡ g ∷ rest)) (same_Some bytes log.bytes e) (empty_closed first bytes gate p)

-- where the second log is to go, it has no item
second_empty : (logs : LogBytes) (s : State) (active : ActiveLog) (old : Image) (m : MakesState logs s active) (rises : Bool) → ltb m.between.version s.version ≡ rises → drops_second logs active ≡ true → HoldsLogs logs old → IsEmptyLog ((synced old).logs (FIRST_LOG + 1))
second_empty logs s active old m true rises goes h =
    let a : ActiveLog = record { number = FIRST_LOG + 1; first = m.between.version + 1; gate = m.second_gate; is_made = true } in
    let b : ActiveLog = record { number = FIRST_LOG; first = 1; gate = m.first_gate; is_made = is_some logs.first } in
    let active_is : active ≡ a = m.active_is ∙ cond-true (ltb m.between.version s.version) a b rises in
    let first = (and_parts (is_some logs.second) (eqb active.number FIRST_LOG) goes).1 in
    absurd (true≢false (sym first ∙ ap (λ (x : ActiveLog). eqb x.number FIRST_LOG) active_is))
second_empty logs s active old m false rises goes h =
    let none : m.second.items ≡ [] = nil_from_length m.second.items (none_since m.between.version s.version (length m.second.items) (ltb-false _ _ rises) (replays_version m.second.items m.between s m.second.replays)) in
    empty_log (m.between.version + 1) logs.second m.second_gate (old.logs (FIRST_LOG + 1)) h.second (subst (λ (l : List LogItem). EndsAt (m.between.version + 1) logs.second l m.second_gate) none m.second.ends)

pub told_empty : (logs : LogBytes) (s : State) (active : ActiveLog) (old mid : Option Image) → MakesState logs s active → drops_second logs active ≡ true → IfSome old (HoldsLogs logs) → Becomes synced old mid → IfSome mid (λ image. IsEmptyLog (image.logs (FIRST_LOG + 1)))
told_empty logs s active None None m goes h b = tt
told_empty logs s active None (Some y) m goes h b = absurd b
told_empty logs s active (Some x) None m goes h b = absurd b
told_empty logs s active (Some x) (Some y) m goes h b = subst (λ (z : Image). IsEmptyLog (z.logs (FIRST_LOG + 1))) (sym b) (second_empty logs s active x m (ltb m.between.version s.version) refl goes h)
