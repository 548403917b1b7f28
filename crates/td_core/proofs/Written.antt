-- What an image stands for after calls on the log that is written.
use Rattle.std.proofs.Common.{◌≡◌, ◌⊎◌, inl, inr, ⊎_elim, ℕ, ◌+◌, ◌^◌, ◌<◌, ◌≤◌, Bool, true, false, ltb, leb, eqb, List, [], ◌∷◌, ◌++◌, length, Option, Some, None, refl, sym, ap, subst, ◌∙◌, arith, append_assoc, length-append}
use Rattle.std.specs.Prelude.{◌&&◌, IfSome, is_some}
use Rattle.std.specs.Option.{option_map, IsSomeAnd}
use Rattle.std.proofs.lemmas.Bool.{cond-true, cond-false, eq-eqb, ne_eqb, cases_eq, and_from, lt-ltb, le-leb}
use Rattle.td_limits.specs.declared.limits.TheConstants.{LAST_VERSION, LAST_TIMESTAMP, SESSIONS, STATEMENT_BYTES}
use Rattle.td_model.specs.declared.history.What.{What}
use Rattle.td_model.specs.declared.history.Verdict.TheVariants.{Accept, Refuse}
use Rattle.td_model.specs.declared.language.Stmt.{Stmt}
use Rattle.td_model.specs.declared.report.Cause.{Cause}
use Rattle.td_model.specs.declared.report.Cause.TheVariants.{TooLong}
use Rattle.td_model.specs.declared.language.Stmt.TheVariants as stmt
use Rattle.td_model.specs.State.{State, empty_state, step}
use Rattle.td_outside.specs.Image.{Log, Image, Along, Becomes, put}
use Rattle.td_outside.specs.Logs.{new_log, after_log_create, after_failed_log_create}
use Rattle.td_parse.specs.Statements.{IsAnswer}
use Rattle.td_told.specs.Turn.{entry_at}
use Rattle.td_told.specs.Verdict.{verdict}
use Rattle.td_wal.specs.declared.item.LogItem.{LogItem}
use Rattle.td_wal.specs.Items.{body_bytes, body, body_form, item_head, item}
use Rattle.td_wal.specs.Log.{IsLog, LogAt, items_fit}
use Rattle.td_wal.specs.Append.{IsSettled, HasClosedGate, IsWritable, Continues, next_gate, appended, LogSays, IsEither, Appends, Fails}
use Rattle.td_wal.proofs.WritingLaws.{continues}
use Rattle.td_core.specs.Replay.{IsNext, Replays}
use Rattle.td_core.specs.Stands.{HasItems, Stands}
use Rattle.td_core.specs.CoreState.{LogPlace, AtGate, IsWritten, IsActive}
use Rattle.td_core.specs.Submits.{KeepsStanding, StandsFor, StandsForEither}
use Rattle.td_core.specs.Writing.{text_item, Carries, Leaves, Reaches}
use Rattle.td_core.proofs.Replaying.{replays_version, replays_more, own_moment}
use Rattle.td_core.proofs.Standing.{items_stand, active_stands}

-- ---- one log is changed

-- the log of a number is this, and the head and the other logs are as they were
record Puts (n : ℕ) (log : Option Log) (old new : Image) : Type 0 where
  head : new.head ≡ old.head
  own : new.logs n ≡ log
  others : (m : ℕ) → (m ≡ n → ⊥) → new.logs m ≡ old.logs m

put_own : (n : ℕ) (log : Option Log) (logs : ℕ → Option Log) → put n log logs n ≡ log
put_own n log logs = cond-true (eqb n n) log (logs n) (eq-eqb n n refl)

put_other : (n m : ℕ) (log : Option Log) (logs : ℕ → Option Log) → (m ≡ n → ⊥) → put n log logs m ≡ logs m
put_other n m log logs other = cond-false (eqb m n) log (logs m) (ne_eqb m n other)

only_puts : (n : ℕ) (log : Option Log) (old new : Image) → new ≡ record old { logs = put n log old.logs } → Puts n log old new
only_puts n log old new is = record {
  head = ap (λ (i : Image). i.head) is;
  own = ap (λ (i : Image). i.logs n) is ∙ put_own n log old.logs;
  others = λ m other. ap (λ (i : Image). i.logs m) is ∙ put_other n m log old.logs other;
}

created_puts : (n : ℕ) (old new : Image) → new ≡ after_log_create n old → Puts n (Some new_log) old new
created_puts n old new is = record {
  head = ap (λ (i : Image). i.head) is;
  own = ap (λ (i : Image). i.logs n) is ∙ put_own n (Some new_log) old.logs;
  others = λ m other. ap (λ (i : Image). i.logs m) is ∙ put_other n m (Some new_log) old.logs other;
}

-- ---- the log that is written

placed_stays : (n : ℕ) (log : Option Log) (old new : Image) (older : List LogItem) → Puts n log old new → IsWritten old n older → IsWritten new n older
placed_stays n log old new older p (inl w) = inl (w.0, w.1, p.others 2 (λ e. omega (arith, e, w.0)) ∙ w.2)
placed_stays n log old new older p (inr w) = inr (w.0, w.1, subst (λ (o : Option Log). HasItems 1 older o) (sym (p.others 1 (λ e. omega (arith, e, w.0)))) w.2)

-- ---- the active log

gate_fit : (first gate : ℕ) (items : List LogItem) (log : Option Log) → AtGate first items gate log → items_fit first 0 items ≡ true
gate_fit first gate items None at = subst (λ (l : List LogItem). items_fit first 0 l ≡ true) (sym at.0) refl
gate_fit first gate items (Some log) at = at.log_at.log.fit

settled_gate : (first gate : ℕ) (items : List LogItem) (log : Option Log) → IsSomeAnd log (IsSettled first items gate) → AtGate first items gate log
settled_gate first gate items None at = absurd at
settled_gate first gate items (Some log) at = at

gate_there : (first gate : ℕ) (items : List LogItem) (log : Option Log) → is_some log ≡ true → AtGate first items gate log → IsSomeAnd log (λ l. LogAt first items gate l.bytes)
gate_there first gate items None made at = absurd cc
gate_there first gate items (Some log) made at = at.log_at

gate_closed : (first gate : ℕ) (items : List LogItem) (log : Option Log) → is_some log ≡ true → AtGate first items gate log → IsSomeAnd log (λ l. HasClosedGate gate l.bytes)
gate_closed first gate items None made at = absurd cc
gate_closed first gate items (Some log) made at = (first, items, at.log_at)

made_some : (log : Option Log) (P : Log → Type 0) → IsSomeAnd log P → is_some log ≡ true
made_some None P at = absurd at
made_some (Some log) P at = refl

-- an item that is next and can be written continues the active log
active_continues : (image : Image) (place : LogPlace) (s t : State) (i : LogItem) (a : IsActive image place s) → IsWritable i → IsNext i s t → Continues place.first a.own i
active_continues image place s t i a writable next =
    let all : s.version ≡ length (a.older ++ a.own) = omega (arith, replays_version (a.older ++ a.own) empty_state s a.replays) in
    continues place.first a.own i writable (gate_fit place.first place.gate a.own (image.logs place.number) a.log)
    (omega (arith, next.version, all, a.first, length-append a.older a.own)) (omega (arith, own_moment a.older a.own empty_state s a.replays, next.moment))

replays_next : (older own : List LogItem) (i : LogItem) (s t : State) → Replays empty_state (older ++ own) s → IsNext i s t → Replays empty_state (older ++ (own ++ i ∷ [])) t
replays_next older own i s t replays next =
    subst (λ (l : List LogItem). Replays empty_state l t) (append_assoc older own (i ∷ [])) (replays_more (older ++ own) i empty_state s t replays next)

active_moved : (old new : Image) (place : LogPlace) (s t : State) (log : Option Log) (i : LogItem) (gate : ℕ) (a : IsActive old place s) → Puts place.number log old new
    → IsSomeAnd (new.logs place.number) (IsSettled place.first (a.own ++ i ∷ []) gate) → IsNext i s t → IsActive new (record place { gate = gate }) t
active_moved old new place s t log i gate a p settled next = record {
  head = p.head ∙ a.head;
  older = a.older;
  own = a.own ++ i ∷ [];
  which = placed_stays place.number log old new a.older p a.which;
  first = a.first;
  log = settled_gate place.first gate (a.own ++ i ∷ []) (new.logs place.number) settled;
  replays = replays_next a.older a.own i s t a.replays next;
}

-- where the log has its items, or these and one more, the image stands for the state, or for the next one
active_either : (old new : Image) (place : LogPlace) (s t : State) (log : Log) (i : LogItem) (a : IsActive old place s) → Puts place.number (Some log) old new
    → IsEither place.first a.own place.gate i log.bytes → IsNext i s t → Stands new s ⊎ Stands new t
active_either old new place s t log i a p either next =
    let head : new.head ≡ None = p.head ∙ a.head in
    let placed = placed_stays place.number (Some log) old new a.older p a.which in
    let stands = λ (items : List LogItem) (gate : ℕ) (u : State) (at : LogAt place.first items gate log.bytes) (r : Replays empty_state (a.older ++ items) u).
    items_stand new place.number a.older items u head placed (subst (λ (o : Option Log). HasItems (1 + length a.older) items o) (sym p.own) (subst (λ (n : ℕ). IsLog n log.bytes items) a.first at.log)) r in
    ⊎_elim (λ at. inl (stands a.own place.gate s at a.replays)) (λ at. inr (stands (a.own ++ i ∷ []) (next_gate place.gate i) t at (replays_next a.older a.own i s t a.replays next))) either

-- ---- a log that is made

settled_new : (first : ℕ) → IsSettled first [] 0 new_log
settled_new first = record {
  log_at = record { log = record { gate = 0; rest = []; closed = λ one. omega (arith, one); bytes_are = refl; fit = refl }; place = refl };
  stable = record { synced = refl; whole = refl };
}

none_at_gate : (first gate : ℕ) (items : List LogItem) (log : Option Log) → is_some log ≡ false → AtGate first items gate log → (items ≡ []) × (gate ≡ 0)
none_at_gate first gate items None made at = at
none_at_gate first gate items (Some log) made at = absurd cc

new_at_gate : (first gate : ℕ) (items : List LogItem) → items ≡ [] → gate ≡ 0 → IsSettled first items gate new_log
new_at_gate first gate items none zero =
    subst (λ (l : List LogItem). IsSettled first l gate new_log) (sym none) (subst (λ (n : ℕ). IsSettled first [] n new_log) (sym zero) (settled_new first))

none_items : (first : ℕ) (items : List LogItem) (log : Option Log) → is_some log ≡ false → HasItems first items log → HasItems first items (Some new_log)
none_items first items None made has = subst (λ (l : List LogItem). IsLog first (0 ∷ []) l) (sym has) (settled_new first).log_at.log
none_items first items (Some log) made has = absurd cc

-- a new log in the place of none has the items of none
created_items : (n m first : ℕ) (items : List LogItem) (old new : Image) → Puts n (Some new_log) old new → is_some (old.logs n) ≡ false → HasItems first items (old.logs m) → HasItems first items (new.logs m)
created_items n m first items old new p none has = elim (cases_eq m n) [
  | inl same ↦
      let here : HasItems first items (old.logs n) = subst (λ (k : ℕ). HasItems first items (old.logs k)) same has in
      let there : new.logs m ≡ Some new_log = ap new.logs same ∙ p.own in
      subst (λ (o : Option Log). HasItems first items o) (sym there) (none_items first items (old.logs n) none here)
  | inr other ↦ subst (λ (o : Option Log). HasItems first items o) (sym (p.others m other)) has
]

created_keeps : (n : ℕ) (old new : Image) → Puts n (Some new_log) old new → is_some (old.logs n) ≡ false → KeepsStanding old new
created_keeps n old new p none s stands = record {
  head = p.head ∙ stands.head;
  older = stands.older;
  newer = stands.newer;
  first_log = created_items n 1 1 stands.older old new p none stands.first_log;
  second_log = created_items n 2 (1 + length stands.older) stands.newer old new p none stands.second_log;
  in_order = stands.in_order;
  replays = stands.replays;
}

created_active : (old new : Image) (place : LogPlace) (s : State) → Puts place.number (Some new_log) old new → is_some (old.logs place.number) ≡ false → IsActive old place s → IsActive new place s
created_active old new place s p none a =
    let empty = none_at_gate place.first place.gate a.own (old.logs place.number) none a.log in
    record {
      head = p.head ∙ a.head;
      older = a.older;
      own = a.own;
      which = placed_stays place.number (Some new_log) old new a.older p a.which;
      first = a.first;
      log = subst (λ (o : Option Log). AtGate place.first a.own place.gate o) (sym p.own) (new_at_gate place.first place.gate a.own empty.0 empty.1);
      replays = a.replays;
    }

-- a log couldn't be made
failed_stands : (n : ℕ) (old new : Image) (s : State) → new ≡ after_failed_log_create n old → Stands old s → Stands new s
failed_stands n old new s is stands =
    let same : Stands (after_failed_log_create n old) s = record {
      head = stands.head;
      older = stands.older;
      newer = stands.newer;
      first_log = stands.first_log;
      second_log = stands.second_log;
      in_order = stands.in_order;
      replays = stands.replays;
    } in
    subst (λ (image : Image). Stands image s) (sym is) same

-- ---- the same, where images are told

-- what is told before is so, and what is told after stands so to it
along : {P : Image → Type 0} {R Q : Image → Image → Type 0} (old new : Option Image) → ((a b : Image) → P a → R a b → Q a b) → IfSome old P → Along R old new → Along Q old new
along None None f p r = tt
along (Some a) (Some b) f p r = f a b p r
along None (Some b) f p r = absurd r
along (Some a) None f p r = absurd r

pub made_by_create : (place : LogPlace) (s : State) (old new : Option Image) → IfSome old (Carries place false s) → Becomes (after_log_create place.number) old new → Along (Leaves place true s) old new
made_by_create place s old new carries becomes =
    along {P = Carries place false s} {R = λ a b. b ≡ after_log_create place.number a} {Q = Leaves place true s} old new
    (λ a b c is.
    let p = created_puts place.number a b is in
    record {
      carries = record { active = created_active a b place s p c.there c.active; there = ap is_some p.own };
      keeps = created_keeps place.number a b p c.there;
    })
    carries becomes

pub made_already : (place : LogPlace) (s : State) (told : Option Image) → IfSome told (Carries place true s) → Along (Leaves place true s) told told
made_already place s None carries = tt
made_already place s (Some a) carries = record { carries = carries; keeps = λ u stands. stands }

pub stays_unmade : (place : LogPlace) (made : Bool) (s : State) (told : Option Image) → IfSome told (Carries place made s) → Along (Leaves place made s) told told
stays_unmade place made s None carries = tt
stays_unmade place made s (Some a) carries = record { carries = carries; keeps = λ u stands. stands }

pub failed_to_create : (place : LogPlace) (made : Bool) (s : State) (old new : Option Image) → IfSome old (Carries place made s) → Becomes (after_failed_log_create place.number) old new → Along (StandsFor s) old new
failed_to_create place made s old new carries becomes =
    along {P = Carries place made s} {R = λ a b. b ≡ after_failed_log_create place.number a} {Q = StandsFor s} old new
    (λ a b c is. failed_stands place.number a b s is (active_stands a place s c.active))
    carries becomes

-- the active log, once it is made, has a closed gate at its place
pub made_gate : (place : LogPlace) (s : State) (old told : Option Image) → Along (Leaves place true s) old told → LogSays told place.number (λ l. HasClosedGate place.gate l.bytes)
made_gate place s None None leaves = tt
made_gate place s (Some a) (Some b) leaves = gate_closed place.first place.gate leaves.carries.active.own (b.logs place.number) leaves.carries.there leaves.carries.active.log
made_gate place s None (Some b) leaves = absurd leaves
made_gate place s (Some a) None leaves = absurd leaves

appended_image : (place : LogPlace) (s t : State) (i : LogItem) (b c : Image) → Carries place true s b → IsWritable i → IsNext i s t → Appends place.number place.gate i (Some b) (Some c) → Carries (record place { gate = next_gate place.gate i }) true t c
appended_image place s t i b c carries writable next appends =
    let a = carries.active in
    let p = only_puts place.number (option_map (appended place.gate i) (b.logs place.number)) b c appends.image in
    let there = gate_there place.first place.gate a.own (b.logs place.number) carries.there a.log in
    let settled = appends.log place.first a.own (active_continues b place s t i a writable next) there in
    record {
      active = active_moved b c place s t (option_map (appended place.gate i) (b.logs place.number)) i (next_gate place.gate i) a p settled next;
      there = made_some (c.logs place.number) (IsSettled place.first (a.own ++ i ∷ []) (next_gate place.gate i)) settled;
    }

-- an item was written
pub written : (place : LogPlace) (s t : State) (i : LogItem) (old mid new : Option Image) → Along (Leaves place true s) old mid → IsWritable i → IsNext i s t → Appends place.number place.gate i mid new
    → Along (Reaches (record place { gate = next_gate place.gate i }) t) old new
written place s t i None None None leaves writable next appends = tt
written place s t i (Some a) (Some b) (Some c) leaves writable next appends = appended_image place s t i b c leaves.carries writable next appends
written place s t i None (Some b) new leaves writable next appends = absurd leaves
written place s t i (Some a) None new leaves writable next appends = absurd leaves
written place s t i None None (Some c) leaves writable next appends = absurd appends.image
written place s t i (Some a) (Some b) None leaves writable next appends = absurd appends.image

either_bytes : (first gate : ℕ) (own : List LogItem) (i : LogItem) (log : Log) (o : Option Log) → o ≡ Some log → IsSomeAnd o (λ l. IsEither first own gate i l.bytes) → IsEither first own gate i log.bytes
either_bytes first gate own i log o is either = subst (λ (x : Option Log). IsSomeAnd x (λ l. IsEither first own gate i l.bytes)) is either

failed_image : (place : LogPlace) (s t : State) (i : LogItem) (b c : Image) → Carries place true s b → IsWritable i → IsNext i s t → Fails place.number place.gate i (Some b) (Some c) → Stands c s ⊎ Stands c t
failed_image place s t i b c carries writable next fails =
    let a = carries.active in
    let p = only_puts place.number (Some fails.rest.0) b c fails.rest.1 in
    let there = gate_there place.first place.gate a.own (b.logs place.number) carries.there a.log in
    let either = either_bytes place.first place.gate a.own i fails.rest.0 (c.logs place.number) p.own (fails.read place.first a.own (active_continues b place s t i a writable next) there) in
    active_either b c place s t fails.rest.0 i a p either next

-- an item couldn't be written
pub failed : (place : LogPlace) (s t : State) (i : LogItem) (old mid new : Option Image) → Along (Leaves place true s) old mid → IsWritable i → IsNext i s t → Fails place.number place.gate i mid new → Along (StandsForEither s t) old new
failed place s t i None None None leaves writable next fails = tt
failed place s t i (Some a) (Some b) (Some c) leaves writable next fails = failed_image place s t i b c leaves.carries writable next fails
failed place s t i None (Some b) new leaves writable next fails = absurd leaves
failed place s t i (Some a) None new leaves writable next fails = absurd leaves
failed place s t i None None (Some c) leaves writable next fails = absurd fails.rest
failed place s t i (Some a) (Some b) None leaves writable next fails = absurd fails.rest

-- the same, where the log was made at this place, and the gate is then there
pub written_after : (was place : LogPlace) (gate : ℕ) (s t : State) (i : LogItem) (old mid new : Option Image) → place ≡ was → gate ≡ next_gate place.gate i → Along (Leaves was true s) old mid → IsWritable i → IsNext i s t
    → Appends place.number place.gate i mid new → Along (Reaches (record place { gate = gate }) t) old new
written_after was place gate s t i old mid new same is leaves writable next appends =
    let made = subst (λ (p : LogPlace). Along (Leaves p true s) old mid) (sym same) leaves in
    subst (λ (n : ℕ). Along (Reaches (record place { gate = n }) t) old new) (sym is) (written place s t i old mid new made writable next appends)

pub failed_after : (was place : LogPlace) (s t : State) (i : LogItem) (old mid new : Option Image) → place ≡ was → Along (Leaves was true s) old mid → IsWritable i → IsNext i s t → Fails place.number place.gate i mid new → Along (StandsForEither s t) old new
failed_after was place s t i old mid new same leaves writable next fails =
    failed place s t i old mid new (subst (λ (p : LogPlace). Along (Leaves p true s) old mid) (sym same) leaves) writable next fails

one_of_two : (s t : State) (old new : Option Image) → Along (StandsFor s) old new → Along (StandsForEither s t) old new
one_of_two s t None None stands = tt
one_of_two s t (Some a) (Some b) stands = inl stands
one_of_two s t None (Some b) stands = absurd stands
one_of_two s t (Some a) None stands = absurd stands

-- ---- the item of a text

accepts_none : (q : Stmt) (cause : Cause) (s : State) (moment : ℕ) (w : What) (rows : ℕ) → q ≡ stmt.Wrong cause → verdict q s [] moment ≡ Accept w rows → ⊥
accepts_none q cause s moment w rows wrong accepted =
    let refused : Refuse cause ≡ Accept w rows = ap (λ (x : Stmt). verdict x s [] moment) (sym wrong) ∙ accepted in
    absurd cc

-- a text that is accepted is no longer than a statement may be
pub short_text : (text : List ℕ) (q : Stmt) (s : State) (moment : ℕ) (w : What) (rows : ℕ) → IsAnswer text q → verdict q s [] moment ≡ Accept w rows → length text ≤ STATEMENT_BYTES
short_text text q s moment w rows (inl long) accepted = absurd (accepts_none q TooLong s moment w rows long.1 accepted)
short_text text q s moment w rows (inr short) accepted = short.0

-- an item of a short text, of numbers in their ranges, can be written
pub text_writable : (version session ordinal moment : ℕ) (text : List ℕ) → 1 ≤ version → version ≤ LAST_VERSION → moment ≤ LAST_TIMESTAMP → session ≤ SESSIONS → ordinal < 2 ^ 32 → length text ≤ STATEMENT_BYTES → IsWritable (text_item version session ordinal moment text)
unfolding item item_head body body_form body_bytes
text_writable version session ordinal moment text from_one version_fits moment_fits session_fits ordinal_fits text_fits =
    let size : ltb (length text) (2 ^ 32) ≡ true = lt-ltb (length text) (2 ^ 32) (omega (arith, text_fits)) in
    let own : (ltb version (2 ^ 64) && (eqb version version && leb version LAST_VERSION)) ≡ true = and_from _ _ (lt-ltb version (2 ^ 64) (omega (arith, version_fits))) (and_from _ _ (eq-eqb version version refl) (le-leb version LAST_VERSION version_fits)) in
    let time : (ltb moment (2 ^ 64) && (leb 0 moment && leb moment LAST_TIMESTAMP)) ≡ true = and_from _ _ (lt-ltb moment (2 ^ 64) (omega (arith, moment_fits))) (and_from _ _ (le-leb 0 moment (omega arith)) (le-leb moment LAST_TIMESTAMP moment_fits)) in
    let whose : (ltb session (2 ^ 32) && leb session SESSIONS) ≡ true = and_from _ _ (lt-ltb session (2 ^ 32) (omega (arith, session_fits))) (le-leb session SESSIONS session_fits) in
    record {
      version = from_one;
      fits = and_from _ _ (and_from _ _ size (and_from _ _ own (and_from _ _ time (and_from _ _ whose (lt-ltb ordinal (2 ^ 32) ordinal_fits))))) (eq-eqb (length text) (length text) refl);
    }

-- it is the next entry where its statement is accepted
pub text_next : (version session ordinal moment : ℕ) (text : List ℕ) (q : Stmt) (w : What) (rows : ℕ) (s : State) → version ≡ s.version + 1 → s.moment ≤ moment → IsAnswer text q → verdict q s [] moment ≡ Accept w rows
    → IsNext (text_item version session ordinal moment text) s (step (s ∷ []) (entry_at session ordinal moment w))
text_next version session ordinal moment text q w rows s is since parsed accepted = record {
  text = text;
  stmt = q;
  what = w;
  rows = rows;
  body = refl;
  parsed = parsed;
  version = is;
  moment = since;
  accepted = accepted;
  state = refl;
}
