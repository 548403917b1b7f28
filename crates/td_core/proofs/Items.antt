-- The items of a log, judged again one after another.
use Rattle.std.proofs.Common.{◌≡◌, inl, inr, ℕ, zero, suc, ◌+◌, ◌^◌, ◌<◌, ◌≤◌, true, false, eqb, leb, List, [], ◌∷◌, ◌++◌, length, get_or, take, drop, Option, Some, None, Result, Ok, Err, refl, sym, ap, subst, ◌∙◌, arith, length-append}
use Rattle.std.specs.Prelude.{◌&&◌, IfOk, IfSome, IfNone}
use Rattle.td_layer.specs.declared.values.NoMem.{NoMem}
use Rattle.std.specs.Int.{w32, w64}
use Rattle.std.proofs.lemmas.Bool.{and_parts, eqb-true, leb-true, false≢true}
use Rattle.std.proofs.lemmas.List.{take_more, drop_more, take-append-drop, take_all, length-take-le}
use Rattle.td_limits.specs.declared.limits.TheConstants.{LAST_VERSION, LAST_TIMESTAMP}
use Rattle.td_model.specs.declared.history.What.{What}
use Rattle.td_model.specs.declared.history.Entry.{Entry}
use Rattle.td_model.specs.declared.history.Verdict.{Verdict}
use Rattle.td_model.specs.declared.history.Verdict.TheVariants.{Accept, Refuse}
use Rattle.td_model.specs.declared.language.Stmt.{Stmt}
use Rattle.td_model.specs.declared.language.Stmt.TheVariants as stmt
use Rattle.td_model.specs.declared.report.Cause.{Cause}
use Rattle.td_model.specs.declared.windows.Delta.{Delta}
use Rattle.td_model.specs.Built.{is_write}
use Rattle.td_model.specs.State.{State, step}
use Rattle.td_codec.specs.Fields.{number}
use Rattle.td_parse.specs.Statements.{IsAnswer}
use Rattle.td_parse.proofs.OneAnswer.{one_answer}
use Rattle.td_told.specs.Verdict.{reads_clock, verdict}
use Rattle.td_told.proofs.Fits.{Fits, fits}
use Rattle.td_wal.specs.declared.item.LogItem.{LogItem}
use Rattle.td_wal.specs.declared.item.LogBody.{LogBody}
use Rattle.td_wal.specs.declared.item.LogBody.TheVariants as bodies
use Rattle.td_wal.specs.Items.{body, body_bytes, version_field, moment_field, item_head, head_of, item, item_bytes}
use Rattle.td_wal.specs.Log.{LogAt, BreaksAt, opened, items_fit, last_moment}
use Rattle.td_wal.specs.Append.{next_gate}
use Rattle.td_wal.proofs.LogLaws.{opened-push}
use Rattle.td_wal.proofs.WritingLaws.{next_gate_is}
use Rattle.td_core.specs.declared.causes.FileId.TheVariants as files
use Rattle.td_core.specs.declared.causes.OpenCause.{OpenCause}
use Rattle.td_core.specs.declared.causes.OpenCause.TheVariants as causes
use Rattle.td_core.specs.Replay.{IsNext, Replays}
use Rattle.td_core.specs.Breaks.{CannotFollow, AreWhole}
use Rattle.td_core.specs.Opening.{IsAccepted, IsNotAccepted, IsItemEntry, IsRefused, TakesText, TextRefuses, ItemRefuses, ItemsRefuse, EndsAt, MakesOf, LogRefuses}
use Rattle.td_core.proofs.Sums.{early_late, none_at_most, less_at_most, less_next, at_most, gate_after, room_after, next_version_at, last_count, last_none, fits_before}
use Rattle.td_core.proofs.Replaying.{replays_more, replays_version, replays_moment}

-- ---- a text is judged

-- a statement that is no write, and whose turn reads the clock, is no statement
wrong_is : (q : Stmt) → is_write q ≡ false → reads_clock q ≡ true → (cause : Cause) × (q ≡ stmt.Wrong cause)
wrong_is (stmt.Wrong cause) other reads = (cause, refl)
wrong_is q other reads = absurd (false≢true (sym other ∙ reads))

refused_is : (v : Verdict) (cause : Cause) (w : What) (rows : ℕ) → v ≡ Refuse cause → v ≡ Accept w rows → ⊥
refused_is v cause w rows e f = absurd cc

-- a statement that is no write is not accepted
no_write : (q : Stmt) (s : State) (moment : ℕ) (w : What) (rows : ℕ) → is_write q ≡ false → verdict q s [] moment ≡ Accept w rows → ⊥
no_write q s moment w rows other e =
    let wrong = wrong_is q other (subst (Fits q) e (fits q s [] moment)).1 in
    refused_is (verdict q s [] moment) wrong.0 w rows (ap (λ (p : Stmt). verdict p s [] moment) wrong.1) e

pub other_refused : (q : Stmt) (moment : ℕ) (s : State) → is_write q ≡ false → IsNotAccepted q moment s
other_refused q moment s other w rows accepted = no_write q s moment w rows other accepted

not_both : (v : Verdict) (cause : Cause) (w : What) (rows : ℕ) → Refuse cause ≡ v → v ≡ Accept w rows → ⊥
not_both v cause w rows e f = absurd cc

pub judged_refused : (q : Stmt) (moment : ℕ) (s : State) (cause : Cause) → Refuse cause ≡ verdict q s [] moment → IsNotAccepted q moment s
judged_refused q moment s cause e w rows accepted = not_both (verdict q s [] moment) cause w rows e accepted

-- what is said of one parse of a text is said of each
pub text_refused : (text : List ℕ) (q : Stmt) (moment : ℕ) (s : State) → IsAnswer text q → IsNotAccepted q moment s → IsRefused text moment s
text_refused text q moment s parsed none p answer = subst (λ (x : Stmt). IsNotAccepted x moment s) (one_answer text q p parsed answer) none

pub entry_accepted : (text : List ℕ) (q : Stmt) (i : LogItem) (s : State) (r : Result (Option Entry) NoMem) → IsAnswer text q → IfOk r (λ o. IfSome o (IsAccepted q i s)) → IfOk r (λ o. IfSome o (IsItemEntry text i s))
entry_accepted text q i s (Err e) parsed h = h
entry_accepted text q i s (Ok None) parsed h = h
entry_accepted text q i s (Ok (Some e)) parsed h = record { stmt = q; parsed = parsed; accepted = h }

pub entry_refused : (text : List ℕ) (q : Stmt) (i : LogItem) (s : State) (r : Result (Option Entry) NoMem) → IsAnswer text q → IfOk r (λ o. IfNone o (IsNotAccepted q i.moment s)) → IfOk r (λ o. IfNone o (IsRefused text i.moment s))
entry_refused text q i s (Err e) parsed h = h
entry_refused text q i s (Ok None) parsed h = text_refused text q i.moment s parsed h
entry_refused text q i s (Ok (Some e)) parsed h = h

-- ---- an item comes next, or can't

pub text_follows : (text : List ℕ) (i : LogItem) (s t : State) → i.body ≡ bodies.Text text → TakesText text i s t → i.version ≡ s.version + 1 → s.moment ≤ i.moment → IsNext i s t
text_follows text i s t body x version moment = record {
  text = text;
  stmt = x.is_entry.stmt;
  what = x.is_entry.accepted.what;
  rows = x.is_entry.accepted.rows;
  body = body;
  parsed = x.is_entry.parsed;
  version = version;
  moment = moment;
  accepted = x.is_entry.accepted.accepted;
  state = x.state ∙ ap (λ (y : Entry). step (s ∷ []) y) x.is_entry.accepted.entry;
}

same_text : (a b : List ℕ) (body : LogBody) → body ≡ bodies.Text a → body ≡ bodies.Text b → a ≡ b
same_text a b body p q = cc

step_or_text : (body : LogBody) (stream upto moment : ℕ) (delta : Delta) (text : List ℕ) → body ≡ bodies.Step stream upto moment delta → body ≡ bodies.Text text → ⊥
step_or_text body stream upto moment delta text p q = absurd cc

pub refused_follows : (text : List ℕ) (i : LogItem) (s : State) → i.body ≡ bodies.Text text → IsRefused text i.moment s → (t : State) → IsNext i s t → ⊥
refused_follows text i s body none t n =
    let same : n.text ≡ text = same_text n.text text i.body n.body body in
    none n.stmt (subst (λ (x : List ℕ). IsAnswer x n.stmt) same n.parsed) n.what n.rows n.accepted

pub step_follows : (i : LogItem) (s : State) (stream upto moment : ℕ) (delta : Delta) → i.body ≡ bodies.Step stream upto moment delta → (t : State) → IsNext i s t → ⊥
step_follows i s stream upto moment delta body t n = step_or_text i.body stream upto moment delta n.text body n.body

pub text_refuses : (log gate : ℕ) (text : List ℕ) (i : LogItem) (s : State) (cause : OpenCause) → i.body ≡ bodies.Text text → s.moment ≤ i.moment → TextRefuses log (gate + 30) text i s cause → ItemRefuses log gate i s cause
text_refuses log gate text i s (causes.NotThisStore file at) body late r = (r.0, inr (λ early. early_late i.moment s.moment early late, refused_follows text i s body r.2, r.1))
text_refuses log gate text i s causes.StoreFault body late r = r
text_refuses log gate text i s causes.NoMemory body late r = tt

pub refuses_early : (log gate : ℕ) (i : LogItem) (s : State) (at : ℕ) → i.moment < s.moment → at ≡ gate + 13 → ItemRefuses log gate i s (causes.NotThisStore (files.Log log) at)
refuses_early log gate i s at early place = (refl, inl (early, place))

pub refuses_body : (log gate : ℕ) (i : LogItem) (s : State) (at : ℕ) → s.moment ≤ i.moment → ((t : State) → IsNext i s t → ⊥) → at ≡ gate + 30 → ItemRefuses log gate i s (causes.NotThisStore (files.Log log) at)
refuses_body log gate i s at late none place = (refl, inr (λ early. early_late i.moment s.moment early late, none, place))

-- where the next gate stands behind an item of a text
pub text_gate : (gate : ℕ) (text : List ℕ) (i : LogItem) → i.body ≡ bodies.Text text → next_gate gate i ≡ gate + 30 + length text
unfolding body_bytes
text_gate gate text i is = next_gate_is gate i ∙ ap (λ (b : LogBody). gate + 30 + length (body_bytes b)) is

-- ---- items that fit

-- an item that fits has its version, and is in range
pub record InRange (version : ℕ) (i : LogItem) : Type 0 where
  pub version_is : i.version ≡ version
  pub last_version : i.version ≤ LAST_VERSION
  pub last_moment : i.moment ≤ LAST_TIMESTAMP

in_range : (version least : ℕ) (i : LogItem) → (item version least).fits i ≡ true → InRange version i
unfolding item item_head
in_range version least i fits =
    let f = and_parts ((item_head version least).fits (head_of i)) ((body i.version i.moment (length (body_bytes i.body))).fits i.body) fits in
    let size = and_parts ((number w32).fits (length (body_bytes i.body))) _ f.0 in
    let own = and_parts ((version_field version).fits i.version) _ size.1 in
    let test = and_parts ((number w64).fits i.version) (eqb i.version version && leb i.version LAST_VERSION) own.0 in
    let versions = and_parts (eqb i.version version) (leb i.version LAST_VERSION) test.1 in
    let moment = and_parts ((moment_field least).fits i.moment) _ own.1 in
    let parts = and_parts ((number w64).fits i.moment) (leb least i.moment && leb i.moment LAST_TIMESTAMP) moment.0 in
    let bounds = and_parts (leb least i.moment) (leb i.moment LAST_TIMESTAMP) parts.1 in
    record { version_is = eqb-true _ _ versions.0; last_version = leb-true _ _ versions.1; last_moment = leb-true _ _ bounds.1 }

items_in_range : (first least : ℕ) (items : List LogItem) (n : ℕ) (d : LogItem) → n < length items → items_fit first least items ≡ true → InRange (first + n) (get_or items n d)
items_in_range first least [] n d within fit = absurd (omega (arith, within))
items_in_range first least (i ∷ is) zero d within fit =
    let f = and_parts ((item first least).fits i) (items_fit (first + 1) i.moment is) fit in
    let e : first ≡ first + 0 = omega arith in
    subst (λ (v : ℕ). InRange v i) e (in_range first least i f.0)
items_in_range first least (i ∷ is) (suc n) d within fit =
    let f = and_parts ((item first least).fits i) (items_fit (first + 1) i.moment is) fit in
    let e : (first + 1) + n ≡ first + suc n = omega arith in
    subst (λ (v : ℕ). InRange v (get_or is n d)) e (items_in_range (first + 1) i.moment is n d (omega (arith, within)) f.1)

-- the last moment is in range
moments_in_range : (first least own : ℕ) (items : List LogItem) → items_fit first least items ≡ true → own ≤ LAST_TIMESTAMP → last_moment own items ≤ LAST_TIMESTAMP
moments_in_range first least own [] fit le = le
moments_in_range first least own (i ∷ is) fit le =
    let f = and_parts ((item first least).fits i) (items_fit (first + 1) i.moment is) fit in
    moments_in_range (first + 1) i.moment i.moment is f.1 (in_range first least i f.0).last_moment

-- ---- one after another

-- the first so many items have made a state, and the gate behind them stands at this place
pub record ReplaySoFar (s : State) (items : List LogItem) (n : ℕ) (t : State) (gate : ℕ) : Type 0 where
  pub replays : Replays s (take n items) t
  pub gate_is : gate ≡ length (opened (take n items))

pub replay_begins : (s : State) (items : List LogItem) → ReplaySoFar s items 0 s 0
replay_begins s items = record { replays = refl; gate_is = refl }

length_opened : (items : List LogItem) (i : LogItem) → length (opened (items ++ i ∷ [])) ≡ length (opened items) + 1 + length (item_bytes i)
length_opened items i =
    let e : length (opened (items ++ i ∷ []) ++ []) ≡ length (opened items ++ (1 ∷ (item_bytes i ++ []))) = ap length (opened-push items i []) in
    omega (arith, e, length-append (opened (items ++ i ∷ [])) [], length-append (opened items) (1 ∷ (item_bytes i ++ [])), length-append (item_bytes i) [])

opened_parts : (a b : List LogItem) → length (opened (a ++ b)) ≡ length (opened a) + length (opened b)
opened_parts [] b = omega arith
opened_parts (i ∷ is) b = omega (arith, opened_parts is b, length-append (item_bytes i) (opened (is ++ b)), length-append (item_bytes i) (opened is))

opened_front : (n : ℕ) (items : List LogItem) → length (opened (take n items)) ≤ length (opened items)
opened_front n items = omega (arith, opened_parts (take n items) (drop n items), ap (λ (l : List LogItem). length (opened l)) (take-append-drop n items))

more_items : (items : List LogItem) (n : ℕ) (i : LogItem) → n < length items → i ≡ get_or items n i → take (n + 1) items ≡ take n items ++ i ∷ []
more_items items n i within is = take_more items n i within ∙ ap (λ (x : LogItem). take n items ++ x ∷ []) (sym is)

pub replay_turns : (s : State) (items : List LogItem) (n : ℕ) (t u : State) (gate next : ℕ) (i : LogItem) → n < length items → i ≡ get_or items n i → ReplaySoFar s items n t gate → IsNext i t u → next ≡ next_gate gate i → ReplaySoFar s items (n + 1) u next
replay_turns s items n t u gate next i within is r p e =
    let more = more_items items n i within is in
    record {
      replays = subst (λ (l : List LogItem). Replays s l u) (sym more) (replays_more (take n items) i s t u r.replays p);
      gate_is = gate_after next gate (length (item_bytes i)) (length (opened (take n items ++ i ∷ []))) (length (opened (take n items))) e r.gate_is (length_opened (take n items) i) ∙ ap (λ (l : List LogItem). length (opened l)) (sym more);
    }

pub turn_in_range : (s : State) (items : List LogItem) (n : ℕ) (t : State) (gate : ℕ) (i : LogItem) → n < length items → i ≡ get_or items n i → ReplaySoFar s items n t gate → items_fit (s.version + 1) 0 items ≡ true → InRange (t.version + 1) i
turn_in_range s items n t gate i within is r fit =
    let versions : (s.version + 1) + n ≡ t.version + 1 = next_version_at s.version t.version n (length (take n items)) (replays_version (take n items) s t r.replays) (length-take-le n items (less_at_most n (length items) within)) in
    let here = items_in_range (s.version + 1) 0 items n i within fit in
    subst (λ (v : ℕ). InRange v i) versions (subst (λ (x : LogItem). InRange ((s.version + 1) + n) x) (sym is) here)

pub turn_has_room : (s : State) (items : List LogItem) (n : ℕ) (t : State) (gate : ℕ) (i : LogItem) → n < length items → i ≡ get_or items n i → ReplaySoFar s items n t gate → length (opened items) < 2 ^ 64 → next_gate gate i < 2 ^ 64
turn_has_room s items n t gate i within is r room =
    room_after (next_gate gate i) gate (length (item_bytes i)) (length (opened (take n items ++ i ∷ []))) (length (opened (take n items))) (length (opened items)) refl r.gate_is (length_opened (take n items) i)
    (subst (λ (l : List LogItem). length (opened l) ≤ length (opened items)) (more_items items n i within is) (opened_front (n + 1) items)) room

pub replay_ends : (s : State) (items : List LogItem) (n : ℕ) (t : State) (gate : ℕ) → length items ≤ n → ReplaySoFar s items n t gate → Replays s items t
replay_ends s items n t gate past r = subst (λ (l : List LogItem). Replays s l t) (take_all n items past) r.replays

split_at : (items : List LogItem) (n : ℕ) (i : LogItem) → n < length items → i ≡ get_or items n i → items ≡ take n items ++ i ∷ drop (n + 1) items
split_at items n i within is =
    sym (take-append-drop n items) ∙ ap (λ (l : List LogItem). take n items ++ l) (drop_more items n i within ∙ ap (λ (x : LogItem). x ∷ drop (n + 1) items) (sym is))

pub turn_refuses : (log : ℕ) (s : State) (items : List LogItem) (n : ℕ) (t : State) (gate : ℕ) (i : LogItem) (cause : OpenCause) → n < length items → i ≡ get_or items n i → ReplaySoFar s items n t gate → ItemRefuses log gate i t cause → ItemsRefuse log items s cause
turn_refuses log s items n t gate i (causes.NotThisStore file at) within is r p = (
  p.0,
  record {
    before = take n items;
    next = i;
    after = drop (n + 1) items;
    then = t;
    items_are = split_at items n i within is;
    replays = r.replays;
    cannot = subst (λ (g : ℕ). CannotFollow g i t at) r.gate_is p.1;
  },
)
turn_refuses log s items n t gate i causes.StoreFault within is r p = p
turn_refuses log s items n t gate i causes.NoMemory within is r p = tt

-- ---- the bytes of a log

pub log_made : (bytes : List ℕ) (items : List LogItem) (gate : ℕ) (s t : State) → LogAt (s.version + 1) items gate bytes → Replays s items t → MakesOf (Some bytes) gate s t
log_made bytes items gate s t log p = record { items = items; ends = log; replays = p }

pub none_made : (s : State) → MakesOf None 0 s s
none_made s = record { items = []; ends = (refl, refl); replays = refl }

pub whole_refuses : (log : ℕ) (bytes : List ℕ) (items : List LogItem) (s : State) (cause : OpenCause) → AreWhole (s.version + 1) bytes items → ItemsRefuse log items s cause → LogRefuses log (Some bytes) s cause
whole_refuses log bytes items s (causes.NotThisStore file at) whole p = (p.0, inl (items, whole, p.1))
whole_refuses log bytes items s causes.StoreFault whole p = p
whole_refuses log bytes items s causes.NoMemory whole p = tt

pub broken_refuses : (log : ℕ) (bytes : List ℕ) (items : List LogItem) (s t : State) (at : ℕ) → BreaksAt (s.version + 1) bytes items at → Replays s items t → LogRefuses log (Some bytes) s (causes.NotThisStore (files.Log log) at)
broken_refuses log bytes items s t at breaks p = (refl, inr (items, t, p, breaks))

pub log_room : (first : ℕ) (bytes : List ℕ) (items : List LogItem) (gate : ℕ) → LogAt first items gate bytes → length bytes < 2 ^ 64 → length (opened items) < 2 ^ 64
log_room first bytes items gate log room =
    fits_before (length bytes) (length (opened items)) (length (log.log.gate ∷ log.log.rest)) (ap length log.log.bytes_are ∙ length-append (opened items) (log.log.gate ∷ log.log.rest)) room

pub break_room : (first : ℕ) (bytes : List ℕ) (items : List LogItem) (at : ℕ) → BreaksAt first bytes items at → length bytes < 2 ^ 64 → length (opened items) < 2 ^ 64
break_room first bytes items at breaks room = fits_before (length bytes) (length (opened items)) (length breaks.rest) (ap length breaks.bytes_are ∙ length-append (opened items) breaks.rest) room

-- ---- what a log makes is in range

ends_fit : (first : ℕ) (bytes : Option (List ℕ)) (items : List LogItem) (gate : ℕ) → EndsAt first bytes items gate → items_fit first 0 items ≡ true
ends_fit first None items gate e = ap (λ (l : List LogItem). items_fit first 0 l) e.0
ends_fit first (Some bytes) items gate log = log.log.fit

count_in_range : (first n : ℕ) (items : List LogItem) → items_fit first 0 items ≡ true → n < length items → first + n ≤ LAST_VERSION
count_in_range first n [] fit some = absurd (early_late n 0 some (none_at_most n))
count_in_range first n (i ∷ is) fit some =
    let r = items_in_range first 0 (i ∷ is) n i some fit in
    subst (λ (v : ℕ). v ≤ LAST_VERSION) r.version_is r.last_version

versions_in_range : (a b : ℕ) (items : List LogItem) → a ≤ LAST_VERSION → items_fit (a + 1) 0 items ≡ true → b ≡ a + length items → b ≤ LAST_VERSION
versions_in_range a b [] le fit e = last_none a b le e
versions_in_range a b (i ∷ is) le fit e = last_count a b (length is) e (count_in_range (a + 1) (length is) (i ∷ is) fit (less_next (length is)))

pub made_version : (bytes : Option (List ℕ)) (gate : ℕ) (s t : State) → MakesOf bytes gate s t → s.version ≤ LAST_VERSION → t.version ≤ LAST_VERSION
made_version bytes gate s t m le = versions_in_range s.version t.version m.items le (ends_fit (s.version + 1) bytes m.items gate m.ends) (replays_version m.items s t m.replays)

pub made_moment : (bytes : Option (List ℕ)) (gate : ℕ) (s t : State) → MakesOf bytes gate s t → s.moment ≤ LAST_TIMESTAMP → t.moment ≤ LAST_TIMESTAMP
made_moment bytes gate s t m le =
    at_most LAST_TIMESTAMP (last_moment s.moment m.items) t.moment (replays_moment m.items s t m.replays) (moments_in_range (s.version + 1) 0 s.moment m.items (ends_fit (s.version + 1) bytes m.items gate m.ends) le)
