-- What calls on the log that is written leave of an image.
use Rattle.std.proofs.Common.{◌≡◌, inl, inr, ⊎_elim, ℕ, ◌+◌, ◌≤◌, Bool, true, false, eqb, List, [], ◌∷◌, ◌++◌, length, Option, Some, None, refl, sym, ap, subst, ◌∙◌, arith}
use Rattle.std.specs.Prelude.{IfSome}
use Rattle.std.specs.Option.{option_map, IsSomeAnd}
use Rattle.std.proofs.lemmas.Bool.{cond-true, cond-false, eq-eqb, ne_eqb}
use Rattle.td_limits.specs.declared.limits.TheConstants.{MEMTABLE_PARTS}
use Rattle.td_model.specs.declared.history.Entry.{Entry}
use Rattle.td_model.specs.declared.history.What.{What}
use Rattle.td_model.specs.State.{State, step}
use Rattle.td_memtable.specs.Contents.{Contents, nothing_held}
use Rattle.td_outside.specs.Image.{Log, Image, Along, Becomes, put}
use Rattle.td_outside.specs.Logs.{new_log, after_log_create, after_failed_log_create}
use Rattle.td_wal.specs.declared.item.LogItem.{LogItem}
use Rattle.td_wal.specs.Log.{LogAt, items_fit}
use Rattle.td_wal.specs.Append.{IsSettled, HasClosedGate, IsWritable, Continues, next_gate, appended, LogSays, IsEither, Appends, Fails}
use Rattle.td_wal.proofs.WritingLaws.{continues}
use Rattle.td_levels.specs.Taken.{taken, parts_of}
use Rattle.td_stands.specs.Heads.{state_of_head}
use Rattle.td_stands.specs.Replay.{IsNext, Replays}
use Rattle.td_stands.specs.Stands.{HasItems, Stands}
use Rattle.td_stands.proofs.Replaying.{one_replay, replays_then, replays_version}
use Rattle.td_stands.proofs.Rows.{rows_have_no_part}
use Rattle.td_state.specs.Held.{bare}
use Rattle.td_active.specs.declared.active_log.ActiveLog.{ActiveLog}
use Rattle.td_active.specs.Active.{AtGate}
use Rattle.td_active.specs.Standing.{KeepsStanding, StandsEither}
use Rattle.td_active.specs.Carried.{Carried, with_entry, Records, Carries, Leaves, Reaches}
use Rattle.td_active.proofs.Nexts.{records_next, records_moment, entry_alike, own_moment}
use Rattle.td_active.proofs.Behinds.{HasOwn, Behind, Puts, behind_stands, stands_behind, behind_next, behind_moved, head_moved, written_moved, number_is}

-- ---- calls that change one log

put_own : (n : ℕ) (log : Option Log) (logs : ℕ → Option Log) → put n log logs n ≡ log
put_own n log logs = cond-true (eqb n n) log (logs n) (eq-eqb n n refl)

put_other : (n m : ℕ) (log : Option Log) (logs : ℕ → Option Log) → (m ≡ n → ⊥) → put n log logs m ≡ logs m
put_other n m log logs other = cond-false (eqb m n) log (logs m) (ne_eqb m n other)

only_puts : (n : ℕ) (log : Option Log) (old new : Image) → new ≡ record old { logs = put n log old.logs } → Puts n log old new
only_puts n log old new is = record {
  head = ap (λ (i : Image). i.head) is;
  files = ap (λ (i : Image). i.files) is;
  readers = ap (λ (i : Image). i.readers) is;
  own = ap (λ (i : Image). i.logs n) is ∙ put_own n log old.logs;
  others = λ m other. ap (λ (i : Image). i.logs m) is ∙ put_other n m log old.logs other;
}

created_puts : (n : ℕ) (old new : Image) → new ≡ after_log_create n old → Puts n (Some new_log) old new
created_puts n old new is = record {
  head = ap (λ (i : Image). i.head) is;
  files = ap (λ (i : Image). i.files) is;
  readers = ap (λ (i : Image). i.readers) is;
  own = ap (λ (i : Image). i.logs n) is ∙ put_own n (Some new_log) old.logs;
  others = λ m other. ap (λ (i : Image). i.logs m) is ∙ put_other n m (Some new_log) old.logs other;
}

-- ---- what an image carries

-- the version of the state is that of the head, and one more for each item
state_version : (place : ActiveLog) (k : Carried) (image : Image) (a : Carries place k image) → k.state.version ≡ a.head.version + (length a.older + length a.own)
state_version place k image a =
    let last : a.after.version ≡ k.state.version = ap (λ (x : State). x.version) a.state_is in
    let second : a.after.version ≡ a.between.version + length a.own = replays_version a.own a.between a.after nothing_held k.levels.active a.makes_active in
    let first : a.between.version ≡ a.head.version + length a.older = replays_version a.older (state_of_head a.head []) a.between nothing_held a.frozen a.makes_frozen in
    omega (arith, last, second, first)

gate_items : (first : ℕ) (items : List LogItem) (gate : ℕ) (made : Bool) (o : Option Log) → AtGate first items gate made o → HasOwn first items o
gate_items first items gate false o at = inr at.0
gate_items first items gate true None at = absurd at
gate_items first items gate true (Some log) at = inl at.log_at.log

first_is : (place : ActiveLog) (k : Carried) (image : Image) (a : Carries place k image) → place.first ≡ a.head.version + 1 + length a.older
first_is place k image a = omega (arith, a.first, a.version)

-- each state of the version for which the image stands is made by its items
carried_behind : (place : ActiveLog) (k : Carried) (image : Image) (a : Carries place k image) (s : State) → s.version ≡ k.state.version → Stands image s → Behind image a.head place.number a.older a.own s
carried_behind place k image a s version stands =
    let owns = subst (λ (n : ℕ). HasOwn n a.own (image.logs place.number)) (first_is place k image a) (gate_items place.first a.own place.gate place.is_made (image.logs place.number) a.log) in
    stands_behind image a.head place.number a.older a.own s a.head_stands.head a.which owns (version ∙ state_version place k image a) stands

-- it is the state that is carried, but for its rows, and the memtable is the active one
behind_is : (place : ActiveLog) (k : Carried) (image : Image) (a : Carries place k image) (s : State) (b : Behind image a.head place.number a.older a.own s) → (bare s ≡ k.state) × (b.active ≡ k.levels.active)
behind_is place k image a s b =
    let first = rows_have_no_part (state_of_head a.head b.rows) b.between nothing_held b.frozen a.older [] b.first in
    let begun : State = record b.between { rows = first.0 } in
    let same = one_replay (state_of_head a.head []) begun a.between nothing_held b.frozen a.frozen a.older first.1 a.makes_frozen in
    let second = rows_have_no_part b.between s nothing_held b.active a.own first.0 b.second in
    let ended : State = record s { rows = second.0 } in
    let here = subst (λ (x : State). Replays x nothing_held a.own ended b.active) same.0 second.1 in
    let last = one_replay a.between ended a.after nothing_held b.active k.levels.active a.own here a.makes_active in
    (ap bare last.0 ∙ a.state_is, last.1)

-- ---- the written log, once it is made

gate_fit : (first gate : ℕ) (items : List LogItem) (o : Option Log) → AtGate first items gate true o → items_fit first 0 items ≡ true
gate_fit first gate items None at = absurd at
gate_fit first gate items (Some log) at = at.log_at.log.fit

gate_there : (first gate : ℕ) (items : List LogItem) (o : Option Log) → AtGate first items gate true o → IsSomeAnd o (λ l. LogAt first items gate l.bytes)
gate_there first gate items None at = absurd at
gate_there first gate items (Some log) at = at.log_at

gate_closed : (first gate : ℕ) (items : List LogItem) (o : Option Log) → AtGate first items gate true o → IsSomeAnd o (λ l. HasClosedGate gate l.bytes)
gate_closed first gate items None at = absurd at
gate_closed first gate items (Some log) at = (first, items, at.log_at)

settled_gate : (first gate : ℕ) (items : List LogItem) (o : Option Log) → IsSomeAnd o (IsSettled first items gate) → AtGate first items gate true o
settled_gate first gate items None at = absurd at
settled_gate first gate items (Some log) at = at

some_gate : (first gate : ℕ) (items : List LogItem) (o : Option Log) (log : Log) → o ≡ Some log → IsSettled first items gate log → AtGate first items gate true o
some_gate first gate items o log is settled = subst (λ (x : Option Log). AtGate first items gate true x) (sym is) settled

abbrev made : ActiveLog → ActiveLog
made place = record place { is_made = true }

abbrev moved : ActiveLog → ℕ → ActiveLog
moved place gate = record place { gate = gate; is_made = true }

-- ---- an item of the entry

-- the record of an entry continues the written log
carried_continues : (place : ActiveLog) (k : Carried) (image : Image) (i : LogItem) (e : Entry) (a : Carries (made place) k image) → IsWritable i → Records i k.state k.levels e → Continues place.first a.own i
carried_continues place k image i e a writable r =
    let moment : a.after.moment ≡ k.state.moment = ap (λ (x : State). x.moment) a.state_is in
    continues place.first a.own i writable (gate_fit place.first place.gate a.own (image.logs place.number) a.log)
    (omega (arith, r.version, state_version (made place) k image a, first_is (made place) k image a))
    (omega (arith, own_moment a.own a.between a.after nothing_held k.levels.active a.makes_active, moment, r.moment))

-- each state of the version for which the image stands is made into the next one by the item
next_behind : (place : ActiveLog) (k : Carried) (image : Image) (i : LogItem) (e : Entry) (a : Carries place k image) (s : State) → Records i k.state k.levels e → Behind image a.head place.number a.older a.own s
    → Behind image a.head place.number a.older (a.own ++ i ∷ []) (step (s ∷ []) e)
next_behind place k image i e a s r b =
    let is = behind_is place k image a s b in
    let n = records_next i s k.state k.levels e is.0 r in
    let own : b.active.held + parts_of e.what ≤ MEMTABLE_PARTS = subst (λ (m : Contents). m.held + parts_of e.what ≤ MEMTABLE_PARTS) (sym is.1) r.room in
    let room = subst (λ (w : What). b.active.held + parts_of w ≤ MEMTABLE_PARTS) (sym n.says) own in
    behind_next image a.head place.number a.older a.own i s (step (s ∷ []) e) n.next b room

-- where the written log has these items in a new image, that stands for what they make
behind_now : (place : ActiveLog) (k : Carried) (old new : Image) (log : Option Log) (a : Carries place k old) (own : List LogItem) (t : State) → Puts place.number log old new → HasItems place.first own (new.logs place.number) → Behind old a.head place.number a.older own t
    → Stands new t
behind_now place k old new log a own t p has b =
    let here = subst (λ (n : ℕ). HasItems n own (new.logs place.number)) (first_is place k old a) has in
    behind_stands new a.head place.number a.older own t (head_moved old new a.head p.head p.files a.head_stands) (written_moved old new a.head place.number log a.older p a.which) here
    (behind_moved old new a.head place.number log a.older own t p (number_is old a.head place.number a.older a.which).1 b)

below : (n number first : ℕ) → n + 1 ≡ first → first ≤ number → n ≡ number → ⊥
below n number first e le f = absurd (omega arith)

dropped_moved : (place : ActiveLog) (k : Carried) (old new : Image) (log : Option Log) (a : Carries place k old) → Puts place.number log old new → (n : ℕ) → n + 1 ≡ a.head.first_log → new.logs n ≡ None
dropped_moved place k old new log a p n e =
    p.others n (below n place.number a.head.first_log e (number_is old a.head place.number a.older a.which).0) ∙ a.dropped n e

-- ---- a log that is made

settled_new : (first : ℕ) → IsSettled first [] 0 new_log
settled_new first = record {
  log_at = record { log = record { gate = 0; rest = []; closed = λ one. omega (arith, one); bytes_are = refl; fit = refl }; place = refl };
  stable = record { synced = refl; whole = refl };
}

new_at_gate : (first gate : ℕ) (items : List LogItem) → items ≡ [] → gate ≡ 0 → IsSettled first items gate new_log
new_at_gate first gate items none zero =
    subst (λ (l : List LogItem). IsSettled first l gate new_log) (sym none) (subst (λ (n : ℕ). IsSettled first [] n new_log) (sym zero) (settled_new first))

not_made : (first gate : ℕ) (items : List LogItem) (m : Bool) (o : Option Log) → m ≡ false → AtGate first items gate m o → (items ≡ []) × (gate ≡ 0)
not_made first gate items m o is at = subst (λ (b : Bool). AtGate first items gate b o) is at

created_leaves : (place : ActiveLog) (k : Carried) (old new : Image) → place.is_made ≡ false → Carries place k old → Puts place.number (Some new_log) old new → Leaves (made place) k old new
created_leaves place k old new unmade a p =
    let empty = not_made place.first place.gate a.own place.is_made (old.logs place.number) unmade a.log in
    let settled : IsSettled place.first a.own place.gate new_log = new_at_gate place.first place.gate a.own empty.0 empty.1 in
    let has : HasItems place.first a.own (new.logs place.number) = subst (λ (o : Option Log). HasItems place.first a.own o) (sym p.own) settled.log_at.log in
    record {
      carries = record {
        head = a.head;
        head_stands = head_moved old new a.head p.head p.files a.head_stands;
        valid = a.valid;
        version = a.version;
        sets = a.sets;
        dropped = dropped_moved place k old new (Some new_log) a p;
        older = a.older;
        own = a.own;
        which = written_moved old new a.head place.number (Some new_log) a.older p a.which;
        first = a.first;
        log = some_gate place.first place.gate a.own (new.logs place.number) new_log p.own settled;
        between = a.between;
        frozen = a.frozen;
        makes_frozen = a.makes_frozen;
        after = a.after;
        makes_active = a.makes_active;
        state_is = a.state_is;
        frozen_is = a.frozen_is;
      };
      keeps = record {
        stands = λ s version stands. behind_now place k old new (Some new_log) a a.own s p has (carried_behind place k old a s version stands);
        files = p.files;
        readers = p.readers;
      };
    }

-- a log couldn't be made
failed_stands : (n : ℕ) (old : Image) (s : State) → Stands old s → Stands (after_failed_log_create n old) s
failed_stands n old s p = record {
  head = p.head;
  rows = p.rows;
  older = p.older;
  newer = p.newer;
  holds = record {
    head = p.holds.head;
    no_streams = p.holds.no_streams;
    files = record { finished = p.holds.files.finished; rows_are = p.holds.files.rows_are; further = p.holds.files.further };
    first_log = p.holds.first_log;
    second_log = p.holds.second_log;
    in_order = p.holds.in_order;
    none_above = p.holds.none_above;
  };
  between = p.between;
  frozen = p.frozen;
  active = p.active;
  first = p.first;
  second = p.second;
}

failed_keeps : (n version : ℕ) (old new : Image) → new ≡ after_failed_log_create n old → KeepsStanding version old new
failed_keeps n version old new is = record {
  stands = λ s at p. subst (λ (image : Image). Stands image s) (sym is) (failed_stands n old s p);
  files = ap (λ (i : Image). i.files) is;
  readers = ap (λ (i : Image). i.readers) is;
}

-- ---- an item that is appended

appended_carries : (place : ActiveLog) (k : Carried) (i : LogItem) (e : Entry) (gate : ℕ) (log : Option Log) (old new : Image) (a : Carries place k old) → Puts place.number log old new → Records i k.state k.levels e
    → AtGate place.first (a.own ++ i ∷ []) gate true (new.logs place.number) → Carries (moved place gate) (with_entry e k) new
appended_carries place k i e gate log old new a p r at =
    let n = records_next i a.after k.state k.levels e a.state_is r in
    let room = subst (λ (w : What). k.levels.active.held + parts_of w ≤ MEMTABLE_PARTS) (sym n.says) r.room in
    let next : IsNext i a.after (step (a.after ∷ []) e) = n.next in
    let all = replays_then a.between a.after (step (a.after ∷ []) e) nothing_held k.levels.active (taken next.what i.moment k.levels.active) a.own (i ∷ []) a.makes_active (step (a.after ∷ []) e, next, room, (refl, refl)) in
    let own = subst (λ (w : What). Replays a.between nothing_held (a.own ++ i ∷ []) (step (a.after ∷ []) e) (taken w i.moment k.levels.active)) n.says all in
    record {
      head = a.head;
      head_stands = head_moved old new a.head p.head p.files a.head_stands;
      valid = a.valid;
      version = a.version;
      sets = a.sets;
      dropped = dropped_moved place k old new log a p;
      older = a.older;
      own = a.own ++ i ∷ [];
      which = written_moved old new a.head place.number log a.older p a.which;
      first = a.first;
      log = at;
      between = a.between;
      frozen = a.frozen;
      makes_frozen = a.makes_frozen;
      after = step (a.after ∷ []) e;
      makes_active = subst (λ (m : ℕ). Replays a.between nothing_held (a.own ++ i ∷ []) (step (a.after ∷ []) e) (taken e.what m k.levels.active)) (sym (records_moment i k.state k.levels e r)) own;
      state_is = entry_alike i a.after k.state k.levels e a.state_is r;
      frozen_is = a.frozen_is;
    }

gate_has : (first gate : ℕ) (items : List LogItem) (o : Option Log) → AtGate first items gate true o → HasItems first items o
gate_has first gate items None at = absurd at
gate_has first gate items (Some log) at = at.log_at.log

appended_reaches : (place : ActiveLog) (k : Carried) (i : LogItem) (e : Entry) (before old new : Image) → Leaves (made place) k before old → IsWritable i → Records i k.state k.levels e → Appends place.number place.gate i (Some old) (Some new)
    → Reaches (moved place (next_gate place.gate i)) k e before new
appended_reaches place k i e before old new leaves writable r appends =
    let a = leaves.carries in
    let log = option_map (appended place.gate i) (old.logs place.number) in
    let p = only_puts place.number log old new appends.image in
    let there = gate_there place.first place.gate a.own (old.logs place.number) a.log in
    let settled = appends.log place.first a.own (carried_continues place k old i e a writable r) there in
    let at = settled_gate place.first (next_gate place.gate i) (a.own ++ i ∷ []) (new.logs place.number) settled in
    let has = gate_has place.first (next_gate place.gate i) (a.own ++ i ∷ []) (new.logs place.number) at in
    record {
      carries = appended_carries (made place) k i e (next_gate place.gate i) log old new a p r at;
      after = record {
        stands = λ s version stands.
            behind_now (made place) k old new log a (a.own ++ i ∷ []) (step (s ∷ []) e) p has
            (next_behind (made place) k old i e a s r (carried_behind (made place) k old a s version (leaves.keeps.stands s version stands)));
        files = p.files ∙ leaves.keeps.files;
        readers = p.readers ∙ leaves.keeps.readers;
      };
    }

either_bytes : (first gate : ℕ) (own : List LogItem) (i : LogItem) (log : Log) (o : Option Log) → o ≡ Some log → IsSomeAnd o (λ l. IsEither first own gate i l.bytes) → IsEither first own gate i log.bytes
either_bytes first gate own i log o is either = subst (λ (x : Option Log). IsSomeAnd x (λ l. IsEither first own gate i l.bytes)) is either

bytes_have : (first gate : ℕ) (items : List LogItem) (log : Log) (o : Option Log) → o ≡ Some log → LogAt first items gate log.bytes → HasItems first items o
bytes_have first gate items log o is at = subst (λ (x : Option Log). HasItems first items x) (sym is) at.log

failed_either : (place : ActiveLog) (k : Carried) (i : LogItem) (e : Entry) (before old new : Image) → Leaves (made place) k before old → IsWritable i → Records i k.state k.levels e → Fails place.number place.gate i (Some old) (Some new)
    → StandsEither k.state.version e before new
failed_either place k i e before old new leaves writable r fails =
    let a = leaves.carries in
    let log = fails.rest.0 in
    let p = only_puts place.number (Some log) old new fails.rest.1 in
    let there = gate_there place.first place.gate a.own (old.logs place.number) a.log in
    let either = either_bytes place.first place.gate a.own i log (new.logs place.number) p.own (fails.read place.first a.own (carried_continues place k old i e a writable r) there) in
    record {
      stands = λ s version stands.
          let b = carried_behind (made place) k old a s version (leaves.keeps.stands s version stands) in
          ⊎_elim
          (λ at. inl (behind_now (made place) k old new (Some log) a a.own s p (bytes_have place.first place.gate a.own log (new.logs place.number) p.own at) b))
          (λ at. inr (behind_now (made place) k old new (Some log) a (a.own ++ i ∷ []) (step (s ∷ []) e) p (bytes_have place.first (next_gate place.gate i) (a.own ++ i ∷ []) log (new.logs place.number) p.own at) (next_behind (made place) k old i e a s r b)))
          either;
      files = p.files ∙ leaves.keeps.files;
      readers = p.readers ∙ leaves.keeps.readers;
    }

-- ---- the same, where images are told

-- what is told before is so, and what is told after stands so to it
along : {P : Image → Type 0} {R Q : Image → Image → Type 0} (old new : Option Image) → ((a b : Image) → P a → R a b → Q a b) → IfSome old P → Along R old new → Along Q old new
along None None f p r = tt
along (Some a) (Some b) f p r = f a b p r
along None (Some b) f p r = absurd r
along (Some a) None f p r = absurd r

pub made_by_create : (place : ActiveLog) (k : Carried) (old new : Option Image) → place.is_made ≡ false → IfSome old (Carries place k) → Becomes (after_log_create place.number) old new → Along (Leaves (record place { is_made = true }) k) old new
made_by_create place k old new unmade carries becomes =
    along {P = Carries place k} {R = λ a b. b ≡ after_log_create place.number a} {Q = Leaves (made place) k} old new
    (λ a b c is. created_leaves place k a b unmade c (created_puts place.number a b is))
    carries becomes

pub stays : (place : ActiveLog) (k : Carried) (told : Option Image) → IfSome told (Carries place k) → Along (Leaves place k) told told
stays place k None carries = tt
stays place k (Some a) carries = record { carries = carries; keeps = record { stands = λ s version stands. stands; files = refl; readers = refl } }

pub failed_to_create : (place : ActiveLog) (k : Carried) (old new : Option Image) → IfSome old (Carries place k) → Becomes (after_failed_log_create place.number) old new → Along (KeepsStanding k.state.version) old new
failed_to_create place k old new carries becomes =
    along {P = Carries place k} {R = λ a b. b ≡ after_failed_log_create place.number a} {Q = KeepsStanding k.state.version} old new
    (λ a b c is. failed_keeps place.number k.state.version a b is)
    carries becomes

-- the written log, once it is made, has a closed gate at its place
pub made_gate : (place : ActiveLog) (k : Carried) (old told : Option Image) → place.is_made ≡ true → Along (Leaves place k) old told → LogSays told place.number (λ l. HasClosedGate place.gate l.bytes)
made_gate place k None None is leaves = tt
made_gate place k (Some a) (Some b) is leaves =
    gate_closed place.first place.gate leaves.carries.own (b.logs place.number) (subst (λ (m : Bool). AtGate place.first leaves.carries.own place.gate m (b.logs place.number)) is leaves.carries.log)
made_gate place k None (Some b) is leaves = absurd leaves
made_gate place k (Some a) None is leaves = absurd leaves

written : (place : ActiveLog) (k : Carried) (e : Entry) (i : LogItem) (old mid new : Option Image) → Along (Leaves (made place) k) old mid → IsWritable i → Records i k.state k.levels e → Appends place.number place.gate i mid new
    → Along (Reaches (moved place (next_gate place.gate i)) k e) old new
written place k e i None None None leaves writable r appends = tt
written place k e i (Some a) (Some b) (Some c) leaves writable r appends = appended_reaches place k i e a b c leaves writable r appends
written place k e i None (Some b) new leaves writable r appends = absurd leaves
written place k e i (Some a) None new leaves writable r appends = absurd leaves
written place k e i None None (Some c) leaves writable r appends = absurd appends.image
written place k e i (Some a) (Some b) None leaves writable r appends = absurd appends.image

failed : (place : ActiveLog) (k : Carried) (e : Entry) (i : LogItem) (old mid new : Option Image) → Along (Leaves (made place) k) old mid → IsWritable i → Records i k.state k.levels e → Fails place.number place.gate i mid new
    → Along (StandsEither k.state.version e) old new
failed place k e i None None None leaves writable r fails = tt
failed place k e i (Some a) (Some b) (Some c) leaves writable r fails = failed_either place k i e a b c leaves writable r fails
failed place k e i None (Some b) new leaves writable r fails = absurd leaves
failed place k e i (Some a) None new leaves writable r fails = absurd leaves
failed place k e i None None (Some c) leaves writable r fails = absurd fails.rest
failed place k e i (Some a) (Some b) None leaves writable r fails = absurd fails.rest

-- an item was written to the log, which was made at this place; the gate is then behind the item
pub written_after : (was place : ActiveLog) (gate : ℕ) (k : Carried) (e : Entry) (i : LogItem) (old mid new : Option Image) → place ≡ record was { is_made = true } → gate ≡ next_gate place.gate i → Along (Leaves place k) old mid → IsWritable i → Records i k.state k.levels e
    → Appends place.number place.gate i mid new → Along (Reaches (record place { gate = gate }) k e) old new
written_after was place gate k e i old mid new same is leaves writable r appends =
    let l = subst (λ (p : ActiveLog). Along (Leaves p k) old mid) same leaves in
    let o = subst (λ (p : ActiveLog). Appends p.number p.gate i mid new) same appends in
    let here : Along (Reaches (record (made was) { gate = next_gate was.gate i }) k e) old new = written was k e i old mid new l writable r o in
    let gates : gate ≡ next_gate was.gate i = is ∙ ap (λ (p : ActiveLog). next_gate p.gate i) same in
    let there = subst (λ (n : ℕ). Along (Reaches (record (made was) { gate = n }) k e) old new) (sym gates) here in
    subst (λ (p : ActiveLog). Along (Reaches (record p { gate = gate }) k e) old new) (sym same) there

-- an item couldn't be written to the log, which was made at this place
pub failed_after : (was place : ActiveLog) (k : Carried) (e : Entry) (i : LogItem) (old mid new : Option Image) → place ≡ record was { is_made = true } → Along (Leaves place k) old mid → IsWritable i → Records i k.state k.levels e
    → Fails place.number place.gate i mid new → Along (StandsEither k.state.version e) old new
failed_after was place k e i old mid new same leaves writable r fails =
    failed was k e i old mid new (subst (λ (p : ActiveLog). Along (Leaves p k) old mid) same leaves) writable r (subst (λ (p : ActiveLog). Fails p.number p.gate i mid new) same fails)

either_of : (version : ℕ) (e : Entry) (a b : Image) → KeepsStanding version a b → StandsEither version e a b
either_of version e a b k = record { stands = λ s at stands. inl (k.stands s at stands); files = k.files; readers = k.readers }

pub one_of_two : (version : ℕ) (e : Entry) (old new : Option Image) → Along (KeepsStanding version) old new → Along (StandsEither version e) old new
one_of_two version e None None k = tt
one_of_two version e (Some a) (Some b) k = either_of version e a b k
one_of_two version e None (Some b) k = absurd k
one_of_two version e (Some a) None k = absurd k
