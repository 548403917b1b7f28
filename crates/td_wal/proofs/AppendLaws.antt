-- What each call of an append makes of a log.
use Rattle.std.proofs.Common.{◌≡◌, ◌≢◌, ◌⊎◌, inl, inr, ℕ, ◌+◌, ◌<◌, ◌≤◌, true, List, [], ◌∷◌, ◌++◌, length, get_or, take, drop, Option, Some, None, refl, sym, ap, subst, ◌∙◌, append_assoc, arith, length-append, take-append-drop}
use Rattle.std.proofs.lemmas.Bool.{cases_eq}
use Rattle.std.proofs.lemmas.List.{take_at, take-append-le, take-take, drop_at, drop_more, length-take}
use Rattle.td_outside.specs.Image.{Log}
use Rattle.td_outside.specs.Logs.{widened, overwritten, new_log, after_write, after_sync, after_torn_write, IsTorn}
use Rattle.td_outside.specs.Crash.{Stays}
use Rattle.td_wal.specs.declared.item.LogItem.{LogItem}
use Rattle.td_wal.specs.Items.{item_bytes}
use Rattle.td_wal.specs.Log.{opened, items_fit, LogAt}
use Rattle.td_wal.specs.Append.{HasClosedGate, IsStable, IsSettled, Continues, record_bytes, next_gate, appended, IsEither, LeavesEither}
use Rattle.td_wal.proofs.LogLaws.{opened-push, items_fit-front}

-- the closed gate of these items stands at this place, and behind it a crash may leave anything
pub record Shut (items : List LogItem) (at : ℕ) (log : Log) : Type 0 where
  pub gate : ℕ
  pub to : ℕ
  pub closed : gate ≢ 1
  pub front : take (at + 1) log.bytes ≡ opened items ++ gate ∷ []
  pub range : log.unsynced ≡ Some (at + 1, to)
  pub place : at ≡ length (opened items)

-- a gate, behind it an item and a closed gate
pub record Staged (items : List LogItem) (i : LogItem) (at gate : ℕ) (bytes : List ℕ) : Type 0 where
  pub rest : List ℕ
  pub bytes_are : bytes ≡ opened items ++ gate ∷ (item_bytes i ++ 0 ∷ rest)
  pub place : at ≡ length (opened items)

-- the same, and a crash may leave any gate
pub record Ajar (items : List LogItem) (i : LogItem) (at gate : ℕ) (log : Log) : Type 0 where
  pub staged : Staged items i at gate log.bytes
  pub range : log.unsynced ≡ Some (at, at + 1)
  pub long : at < log.stable

front_is : (items : List LogItem) (at gate : ℕ) (rest : List ℕ) → at ≡ length (opened items) → take (at + 1) (opened items ++ gate ∷ rest) ≡ opened items ++ gate ∷ []
front_is items at gate rest place =
    ap (take (at + 1)) (sym (append_assoc (opened items) (gate ∷ []) rest))
    ∙ take_at (opened items ++ gate ∷ []) rest (at + 1) (omega (arith, place, length-append (opened items) (gate ∷ [])))

log_from_front : (first : ℕ) (items : List LogItem) (at gate : ℕ) (bytes : List ℕ) → items_fit first 0 items ≡ true → gate ≢ 1 → at ≡ length (opened items) → take (at + 1) bytes ≡ opened items ++ gate ∷ [] → LogAt first items at bytes
log_from_front first items at gate bytes fit closed place front =
    let whole : bytes ≡ opened items ++ gate ∷ drop (at + 1) bytes = sym (take-append-drop (at + 1) bytes) ∙ ap (λ (l : List ℕ). l ++ drop (at + 1) bytes) front ∙ append_assoc (opened items) (gate ∷ []) (drop (at + 1) bytes) in
    record { log = record { gate = gate; rest = drop (at + 1) bytes; closed = closed; bytes_are = whole; fit = fit }; place = place }

length-opened-push : (items : List LogItem) (i : LogItem) → length (opened (items ++ i ∷ [])) ≡ length (opened items) + (1 + length (item_bytes i))
length-opened-push items i =
    let size : length (opened (items ++ i ∷ []) ++ []) ≡ length (opened items ++ (1 ∷ (item_bytes i ++ []))) = ap length (opened-push items i []) in
    omega (arith, size, length-append (opened (items ++ i ∷ [])) [], length-append (opened items) (1 ∷ (item_bytes i ++ [])), length-append (item_bytes i) [])

zero_shut : (gate : ℕ) → gate ≡ 0 → gate ≢ 1
zero_shut gate zero one = omega (arith, zero, one)

pub log_from_open : (first : ℕ) (items : List LogItem) (i : LogItem) (at : ℕ) (bytes : List ℕ) → Continues first items i → Staged items i at 1 bytes → LogAt first (items ++ i ∷ []) (next_gate at i) bytes
log_from_open first items i at bytes fit s =
    record {
      log = record { gate = 0; rest = s.rest; closed = zero_shut 0 refl; bytes_are = s.bytes_are ∙ sym (opened-push items i (0 ∷ s.rest)); fit = fit };
      place = omega (arith, s.place, length-opened-push items i);
    }

-- with any gate it is a log of the items, or of these and the item
log_from_staged : (first : ℕ) (items : List LogItem) (i : LogItem) (at gate : ℕ) (bytes : List ℕ) → Continues first items i → Staged items i at gate bytes
    → LogAt first items at bytes ⊎ LogAt first (items ++ i ∷ []) (next_gate at i) bytes
log_from_staged first items i at gate bytes fit s = elim (cases_eq gate 1) [
  | inl open_gate ↦ inr (log_from_open first items i at bytes fit (subst (λ (g : ℕ). Staged items i at g bytes) open_gate s))
  | inr shut ↦ inl (record { log = record { gate = gate; rest = item_bytes i ++ 0 ∷ s.rest; closed = shut; bytes_are = s.bytes_are; fit = items_fit-front first 0 items i fit }; place = s.place })
]

-- ---- the write behind the gate

front_parts : (first : ℕ) (items : List LogItem) (at : ℕ) (bytes : List ℕ) (p : LogAt first items at bytes) → (take (at + 1) bytes ≡ opened items ++ p.log.gate ∷ []) × (at + 1 ≤ length bytes)
front_parts first items at bytes p = (
  ap (take (at + 1)) p.log.bytes_are ∙ front_is items at p.log.gate p.log.rest p.place,
  omega (arith, ap length p.log.bytes_are, length-append (opened items) (p.log.gate ∷ p.log.rest), p.place),
)

pub written_shut : (first : ℕ) (items : List LogItem) (i : LogItem) (at : ℕ) (log : Log) → IsSettled first items at log → Shut items at (after_write (at + 1) (record_bytes i) log)
written_shut first items i at log s =
    let p = s.log_at in
    let old = take (at + 1) log.bytes in
    let r = record_bytes i in
    let d = drop (at + 1 + length r) log.bytes in
    let f = front_parts first items at log.bytes p in
    let kept : take (at + 1) (old ++ r ++ d) ≡ old = ap (take (at + 1)) (append_assoc old r d) ∙ take_at old (r ++ d) (at + 1) (omega (arith, f.1, length-take (at + 1) log.bytes)) in
    record { gate = p.log.gate; to = at + 1 + length r; closed = p.log.closed; front = kept ∙ f.0; range = ap (widened (at + 1) (at + 1 + length r)) s.stable.synced; place = p.place }

pub written_staged : (first : ℕ) (items : List LogItem) (i : LogItem) (at : ℕ) (log : Log) → LogAt first items at log.bytes → (gate : ℕ) × Staged items i at gate (after_write (at + 1) (record_bytes i) log).bytes
written_staged first items i at log p =
    let old = take (at + 1) log.bytes in
    let r = record_bytes i in
    let d = drop (at + 1 + length r) log.bytes in
    let f = front_parts first items at log.bytes p in
    let tail : r ++ d ≡ item_bytes i ++ (0 ∷ d) = append_assoc (item_bytes i) (0 ∷ []) d in (
      p.log.gate,
      record {
        rest = d;
        bytes_are = append_assoc old r d ∙ ap (λ (l : List ℕ). l ++ (r ++ d)) f.0 ∙ append_assoc (opened items) (p.log.gate ∷ []) (r ++ d) ∙ ap (λ (l : List ℕ). opened items ++ p.log.gate ∷ l) tail;
        place = p.place;
      },
    )

pub torn_shut : (first : ℕ) (items : List LogItem) (at n : ℕ) (log : Log) (bytes : List ℕ) → IsSettled first items at log → IsTorn (at + 1) n log.bytes bytes → Shut items at (after_torn_write (at + 1) n bytes log)
torn_shut first items at n log bytes s torn =
    let p = s.log_at in
    let f = front_parts first items at log.bytes p in
    record { gate = p.log.gate; to = at + 1 + n; closed = p.log.closed; front = torn.before ∙ f.0; range = ap (widened (at + 1) (at + 1 + n)) s.stable.synced; place = p.place }

-- whatever a crash leaves, the gate is closed
pub shut_leaves : (first : ℕ) (items : List LogItem) (i : LogItem) (at : ℕ) (log : Log) → Continues first items i → Shut items at log → LeavesEither first items at i log
shut_leaves first items i at log fit s left l =
    let stays = subst (λ (o : Option (ℕ × ℕ)). Stays o log.bytes left) s.range l.stays in
    inl (log_from_front first items at s.gate left (items_fit-front first 0 items i fit) s.closed s.place (stays.0 ∙ s.front))

-- ---- the gate

-- other bytes that differ at the gate alone
any_gate : (items : List LogItem) (i : LogItem) (at gate : ℕ) (old new : List ℕ) → Staged items i at gate old → take at new ≡ take at old → drop (at + 1) new ≡ drop (at + 1) old → at < length new → Staged items i at (get_or new at 0) new
any_gate items i at gate old new s before after long =
    let tail = item_bytes i ++ 0 ∷ s.rest in
    let front : take at new ≡ opened items = before ∙ ap (take at) s.bytes_are ∙ take_at (opened items) (gate ∷ tail) at (sym s.place) in
    let back : drop (at + 1) new ≡ tail = after ∙ ap (drop (at + 1)) (s.bytes_are ∙ sym (append_assoc (opened items) (gate ∷ []) tail)) ∙ drop_at (opened items ++ gate ∷ []) tail (at + 1) (omega (arith, s.place, length-append (opened items) (gate ∷ []))) in
    record {
      rest = s.rest;
      bytes_are = sym (take-append-drop at new) ∙ ap (λ (l : List ℕ). l ++ drop at new) front ∙ ap (λ (l : List ℕ). opened items ++ l) (drop_more new at 0 long ∙ ap (λ (l : List ℕ). get_or new at 0 ∷ l) back);
      place = s.place;
    }

staged_long : (items : List LogItem) (i : LogItem) (at gate : ℕ) (bytes : List ℕ) → Staged items i at gate bytes → at < length bytes
staged_long items i at gate bytes s = omega (arith, ap length s.bytes_are, length-append (opened items) (gate ∷ (item_bytes i ++ 0 ∷ s.rest)), s.place)

pub opened_ajar : (items : List LogItem) (i : LogItem) (at gate : ℕ) (log : Log) → Staged items i at gate log.bytes → IsStable log → Ajar items i at 1 (after_write at (1 ∷ []) log)
opened_ajar items i at gate log s stable =
    let tail = item_bytes i ++ 0 ∷ s.rest in
    let front : take at log.bytes ≡ opened items = ap (take at) s.bytes_are ∙ take_at (opened items) (gate ∷ tail) at (sym s.place) in
    let back : drop (at + 1) log.bytes ≡ tail = ap (drop (at + 1)) (s.bytes_are ∙ sym (append_assoc (opened items) (gate ∷ []) tail)) ∙ drop_at (opened items ++ gate ∷ []) tail (at + 1) (omega (arith, s.place, length-append (opened items) (gate ∷ []))) in
    record {
      staged = record {
        rest = s.rest;
        bytes_are = append_assoc (take at log.bytes) (1 ∷ []) (drop (at + 1) log.bytes) ∙ ap (λ (l : List ℕ). l ++ 1 ∷ drop (at + 1) log.bytes) front ∙ ap (λ (l : List ℕ). opened items ++ 1 ∷ l) back;
        place = s.place;
      };
      range = ap (widened at (at + 1)) stable.synced;
      long = omega (arith, stable.whole, staged_long items i at gate log.bytes s);
    }

pub torn_ajar : (items : List LogItem) (i : LogItem) (at gate : ℕ) (log : Log) (bytes : List ℕ) → Staged items i at gate log.bytes → IsStable log → IsTorn at 1 log.bytes bytes → Ajar items i at (get_or bytes at 0) (after_torn_write at 1 bytes log)
torn_ajar items i at gate log bytes s stable torn =
    let long = staged_long items i at gate log.bytes s in
    record {
      staged = any_gate items i at gate log.bytes bytes s torn.before torn.after (omega (arith, long, torn.no_shorter));
      range = ap (widened at (at + 1)) stable.synced;
      long = omega (arith, stable.whole, long);
    }

pub ajar_leaves : (first : ℕ) (items : List LogItem) (i : LogItem) (at gate : ℕ) (log : Log) → Continues first items i → Ajar items i at gate log → LeavesEither first items at i log
ajar_leaves first items i at gate log fit a left l =
    let stays = subst (λ (o : Option (ℕ × ℕ)). Stays o log.bytes left) a.range l.stays in
    let s = any_gate items i at gate log.bytes left a.staged stays.0 stays.1 (omega (arith, a.long, l.no_shorter)) in
    log_from_staged first items i at (get_or left at 0) left fit s

-- ---- the calls together

-- the item was written behind the gate; that was synced; and the gate was opened
abbrev pub written : ℕ → LogItem → Log → Log
written at i log = after_write (at + 1) (record_bytes i) log

abbrev pub staged : ℕ → LogItem → Log → Log
staged at i log = after_sync (written at i log)

abbrev pub open_again : ℕ → LogItem → Log → Log
open_again at i log = after_write at (1 ∷ []) (staged at i log)

synced_is : (log : Log) → IsStable (after_sync log)
synced_is log = record { synced = refl; whole = refl }

-- a gate stands at this place
pub gate_reaches : (at : ℕ) (bytes : List ℕ) → HasClosedGate at bytes → at + 1 ≤ length bytes
gate_reaches at bytes h = omega (arith, ap length h.2.log.bytes_are, length-append (opened h.1) (h.2.log.gate ∷ h.2.log.rest), h.2.place)

pub written_reaches : (at : ℕ) (i : LogItem) (log : Log) → HasClosedGate at log.bytes → at + 1 ≤ length (written at i log).bytes
written_reaches at i log h =
    let front = take (at + 1) log.bytes in
    let back = drop (at + 1 + length (record_bytes i)) log.bytes in
    omega (arith, gate_reaches at log.bytes h, length-take (at + 1) log.bytes, length-append (front ++ record_bytes i) back, length-append front (record_bytes i))

-- a write behind a byte, and then the byte
write_joined : (at : ℕ) (bytes old : List ℕ) → at + 1 ≤ length old → overwritten at (1 ∷ []) (overwritten (at + 1) bytes old) ≡ overwritten at (1 ∷ bytes) old
write_joined at bytes old long =
    let front = take (at + 1) old in
    let back = drop (at + 1 + length bytes) old in
    let size : length front ≡ at + 1 = omega (arith, length-take (at + 1) old) in
    let fits : at ≤ length front = omega (arith, size) in
    let less : at ≤ at + 1 = omega arith in
    let places : at + 1 + length bytes ≡ at + length (1 ∷ bytes) = omega arith in
    let parts : front ++ bytes ++ back ≡ front ++ (bytes ++ back) = append_assoc front bytes back in
    let before : take at (front ++ bytes ++ back) ≡ take at old = ap (take at) parts ∙ take-append-le at front (bytes ++ back) fits ∙ take-take at (at + 1) old less in
    let behind : drop (at + 1) (front ++ bytes ++ back) ≡ bytes ++ back = ap (drop (at + 1)) parts ∙ drop_at front (bytes ++ back) (at + 1) size in
    ap (λ (l : List ℕ). l ++ 1 ∷ [] ++ drop (at + 1) (front ++ bytes ++ back)) before
    ∙ ap (λ (l : List ℕ). take at old ++ 1 ∷ [] ++ l) behind
    ∙ append_assoc (take at old) (1 ∷ []) (bytes ++ back)
    ∙ sym (append_assoc (take at old) (1 ∷ bytes) back)
    ∙ ap (λ (n : ℕ). take at old ++ (1 ∷ bytes) ++ drop n old) places

-- the four calls are one append
pub appended_is : (at : ℕ) (i : LogItem) (log : Log) → HasClosedGate at log.bytes → after_sync (open_again at i log) ≡ appended at i log
appended_is at i log h =
    ap (λ (bytes : List ℕ). record { bytes = bytes; stable = length bytes; unsynced = None }) (write_joined at (record_bytes i) log.bytes (gate_reaches at log.bytes h))

-- ---- what each failure leaves of a log

-- What is left of a log of items that an item continues: a read gives the log of the items, or of these and the item; and where
-- all of it was stable, a crash leaves one of these two.
pub record FailsSo (at : ℕ) (i : LogItem) (old new : Log) : Type 0 where
  pub read : (first : ℕ) (items : List LogItem) → Continues first items i → LogAt first items at old.bytes → IsEither first items at i new.bytes
  pub crash : (first : ℕ) (items : List LogItem) → Continues first items i → IsSettled first items at old → LeavesEither first items at i new

pub torn_fails : (at n : ℕ) (i : LogItem) (old : Log) (bytes : List ℕ) → IsTorn (at + 1) n old.bytes bytes → FailsSo at i old (after_torn_write (at + 1) n bytes old)
torn_fails at n i old bytes torn = record {
  read = λ first items fit p. let f = front_parts first items at old.bytes p in inl (log_from_front first items at p.log.gate bytes (items_fit-front first 0 items i fit) p.log.closed p.place (torn.before ∙ f.0));
  crash = λ first items fit s. shut_leaves first items i at (after_torn_write (at + 1) n bytes old) fit (torn_shut first items at n old bytes s torn);
}

pub written_fails : (at : ℕ) (i : LogItem) (old : Log) → FailsSo at i old (written at i old)
written_fails at i old = record {
  read = λ first items fit p. let s = written_staged first items i at old p in log_from_staged first items i at s.0 (written at i old).bytes fit s.1;
  crash = λ first items fit s. shut_leaves first items i at (written at i old) fit (written_shut first items i at old s);
}

pub gate_torn_fails : (at : ℕ) (i : LogItem) (old : Log) (bytes : List ℕ) → IsTorn at 1 (staged at i old).bytes bytes → FailsSo at i old (after_torn_write at 1 bytes (staged at i old))
gate_torn_fails at i old bytes torn = record {
  read = λ first items fit p.
      let s = written_staged first items i at old p in
      let a = torn_ajar items i at s.0 (staged at i old) bytes s.1 (synced_is (written at i old)) torn in
      log_from_staged first items i at (get_or bytes at 0) bytes fit a.staged;
  crash = λ first items fit p.
      let s = written_staged first items i at old p.log_at in
      let a = torn_ajar items i at s.0 (staged at i old) bytes s.1 (synced_is (written at i old)) torn in
      ajar_leaves first items i at (get_or bytes at 0) (after_torn_write at 1 bytes (staged at i old)) fit a;
}

open_again_is : (first : ℕ) (items : List LogItem) (i : LogItem) (at : ℕ) (old : Log) → LogAt first items at old.bytes → Ajar items i at 1 (open_again at i old)
open_again_is first items i at old p =
    let s = written_staged first items i at old p in
    opened_ajar items i at s.0 (staged at i old) s.1 (synced_is (written at i old))

pub open_again_fails : (at : ℕ) (i : LogItem) (old : Log) → FailsSo at i old (open_again at i old)
open_again_fails at i old = record {
  read = λ first items fit p. log_from_staged first items i at 1 (open_again at i old).bytes fit (open_again_is first items i at old p).staged;
  crash = λ first items fit p. ajar_leaves first items i at 1 (open_again at i old) fit (open_again_is first items i at old p.log_at);
}

-- ---- what an append leaves of a log

pub appended_settles : (first : ℕ) (items : List LogItem) (i : LogItem) (at : ℕ) (old : Log) → Continues first items i → LogAt first items at old.bytes → IsSettled first (items ++ i ∷ []) (next_gate at i) (appended at i old)
appended_settles first items i at old fit p =
    subst (λ (log : Log). IsSettled first (items ++ i ∷ []) (next_gate at i) log) (appended_is at i old (first, items, p))
    (record { log_at = log_from_open first items i at (open_again at i old).bytes fit (open_again_is first items i at old p).staged; stable = synced_is (open_again at i old) })

-- a new log has no items, whatever the version of its first
pub new_settled : (first : ℕ) → IsSettled first [] 0 new_log
new_settled first = record {
  log_at = record { log = record { gate = 0; rest = []; closed = zero_shut 0 refl; bytes_are = refl; fit = refl }; place = refl };
  stable = record { synced = refl; whole = refl };
}
