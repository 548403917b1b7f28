-- The items of a log, judged again one after another.
use Rattle.std.proofs.Common.{◌≡◌, inl, inr, ℕ, ◌+◌, ◌^◌, ◌<◌, ◌≤◌, true, false, List, [], ◌∷◌, ◌++◌, length, get_or, take, drop, Option, Some, None, Result, Ok, Err, refl, sym, ap, subst, ◌∙◌, arith, length-append}
use Rattle.std.specs.Prelude.{IfOk, IfSome, IfNone}
use Rattle.std.proofs.lemmas.Bool.{false≢true}
use Rattle.std.proofs.lemmas.List.{take_more, drop_more, take-append-drop, take_all, length-take-le}
use Rattle.td_limits.specs.declared.limits.TheConstants.{LAST_VERSION, LAST_TIMESTAMP, MEMTABLE_PARTS}
use Rattle.td_layer.specs.declared.values.NoMem.{NoMem}
use Rattle.td_model.specs.declared.history.What.{What}
use Rattle.td_model.specs.declared.history.Entry.{Entry}
use Rattle.td_model.specs.declared.history.Verdict.{Verdict}
use Rattle.td_model.specs.declared.history.Verdict.TheVariants.{Accept, Refuse}
use Rattle.td_model.specs.declared.language.Stmt.{Stmt}
use Rattle.td_model.specs.declared.language.Stmt.TheVariants as stmt
use Rattle.td_model.specs.declared.report.Cause.{Cause}
use Rattle.td_model.specs.declared.windows.Delta.{Delta}
use Rattle.td_model.specs.Built.{is_write}
use Rattle.td_model.specs.State.{State, Rows, step}
use Rattle.td_parse.specs.Statements.{IsAnswer}
use Rattle.td_parse.proofs.OneAnswer.{one_answer}
use Rattle.td_told.specs.Turn.{entry_at}
use Rattle.td_told.specs.Verdict.{reads_clock, verdict}
use Rattle.td_told.proofs.Fits.{Fits, fits}
use Rattle.td_memtable.specs.Contents.{Contents, nothing_held}
use Rattle.td_verdict.specs.Valid.{IsValid}
use Rattle.td_wal.specs.declared.item.LogItem.{LogItem}
use Rattle.td_wal.specs.declared.item.LogBody.{LogBody}
use Rattle.td_wal.specs.declared.item.LogBody.TheVariants as bodies
use Rattle.td_wal.specs.Items.{body_bytes, item_bytes}
use Rattle.td_wal.specs.Log.{LogAt, BreaksAt, opened, items_fit, last_moment}
use Rattle.td_wal.specs.Append.{next_gate}
use Rattle.td_wal.proofs.LogLaws.{opened-push}
use Rattle.td_wal.proofs.WritingLaws.{next_gate_is}
use Rattle.td_levels.specs.Levels.{Levels}
use Rattle.td_levels.specs.Fits.{FitsMemtable}
use Rattle.td_levels.specs.Taken.{taken, parts_of}
use Rattle.td_levels.specs.Laws.{took}
use Rattle.td_stands.specs.declared.file_id.FileId.TheVariants as files
use Rattle.td_stands.specs.Laws.{with_rows}
use Rattle.td_stands.specs.Replay.{IsNext, Replays}
use Rattle.td_stands.specs.Breaks.{CannotFollow, Refuses, AreWhole, BreaksOff}
use Rattle.td_stands.proofs.Replaying.{replays_then, replays_version}
use Rattle.td_stands.proofs.Rows.{next_rows, rows_have_no_part}
use Rattle.td_state.specs.Held.{bare}
use Rattle.td_opening.specs.declared.causes.OpenCause.{OpenCause}
use Rattle.td_opening.specs.declared.causes.OpenCause.TheVariants as causes
use Rattle.td_opening.specs.Opening.{IsAccepted, IsNotAccepted, IsItemEntry, IsRefused, TakesText, TextRefuses, TakesItem, ItemRefuses, Makes, ItemsRefuse, MakesOf, LogRefuses}
use Rattle.td_opening.proofs.Ranges.{InRange, items_in_range, moments_in_range, front_fits, ends_fit, versions_in_range}
use Rattle.td_opening.proofs.Moments.{replays_moment}
use Rattle.td_opening.proofs.Sound.{nothing_fits, memtable_fits}
use Rattle.td_opening.proofs.Sums.{early_late, less_at_most, at_most, gate_after, room_after, next_version_at, fits_before}

-- ---- a text is judged

-- a statement that is no write, and whose turn reads the clock, is no statement
wrong_is : (q : Stmt) → is_write q ≡ false → reads_clock q ≡ true → (cause : Cause) × (q ≡ stmt.Wrong cause)
wrong_is (stmt.Wrong cause) other reads = (cause, refl)
wrong_is q other reads = absurd (false≢true (sym other ∙ reads))

refused_is : (v : Verdict) (cause : Cause) (w : What) (rows : ℕ) → v ≡ Refuse cause → v ≡ Accept w rows → ⊥
refused_is v cause w rows e f = absurd cc

-- a statement that is no write is not accepted
no_write : (q : Stmt) (s : State) (moment : ℕ) (w : What) (rows : ℕ) → is_write q ≡ false → verdict q s [] moment ≡ Accept w rows → ⊥
no_write q s moment w rows other e =
    let wrong = wrong_is q other (subst (Fits q) e (fits q s [] moment)).1 in
    refused_is (verdict q s [] moment) wrong.0 w rows (ap (λ (p : Stmt). verdict p s [] moment) wrong.1) e

pub other_refused : (q : Stmt) (moment : ℕ) (s : State) → is_write q ≡ false → IsNotAccepted q moment s
other_refused q moment s other w rows accepted = no_write q s moment w rows other accepted

not_both : (v : Verdict) (cause : Cause) (w : What) (rows : ℕ) → Refuse cause ≡ v → v ≡ Accept w rows → ⊥
not_both v cause w rows e f = absurd cc

pub judged_refused : (q : Stmt) (moment : ℕ) (s : State) (cause : Cause) → Refuse cause ≡ verdict q s [] moment → IsNotAccepted q moment s
judged_refused q moment s cause e w rows accepted = not_both (verdict q s [] moment) cause w rows e accepted

-- what is said of one parse of a text is said of each
pub text_refused : (text : List ℕ) (q : Stmt) (moment : ℕ) (s : State) → IsAnswer text q → IsNotAccepted q moment s → IsRefused text moment s
text_refused text q moment s parsed none p answer = subst (λ (x : Stmt). IsNotAccepted x moment s) (one_answer text q p parsed answer) none

pub entry_accepted : (text : List ℕ) (q : Stmt) (i : LogItem) (s : State) (r : Result (Option Entry) NoMem) → IsAnswer text q → IfOk r (λ o. IfSome o (IsAccepted q i s)) → IfOk r (λ o. IfSome o (IsItemEntry text i s))
entry_accepted text q i s (Err e) parsed h = h
entry_accepted text q i s (Ok None) parsed h = h
entry_accepted text q i s (Ok (Some e)) parsed h = record { stmt = q; parsed = parsed; accepted = h }

pub entry_refused : (text : List ℕ) (q : Stmt) (i : LogItem) (s : State) (r : Result (Option Entry) NoMem) → IsAnswer text q → IfOk r (λ o. IfNone o (IsNotAccepted q i.moment s)) → IfOk r (λ o. IfNone o (IsRefused text i.moment s))
entry_refused text q i s (Err e) parsed h = h
entry_refused text q i s (Ok None) parsed h = text_refused text q i.moment s parsed h
entry_refused text q i s (Ok (Some e)) parsed h = h

-- ---- an item comes next, or can't

abbrev text_follows : (text : List ℕ) (i : LogItem) (s : State) (e : Entry) → i.body ≡ bodies.Text text → (x : IsItemEntry text i s e) → i.version ≡ s.version + 1 → s.moment ≤ i.moment
    → IsNext i s (step (s ∷ []) (entry_at i.session i.ordinal i.moment x.accepted.what))
text_follows text i s e body x version moment = record {
  text = text;
  stmt = x.stmt;
  what = x.accepted.what;
  rows = x.accepted.rows;
  body = body;
  parsed = x.parsed;
  version = version;
  moment = moment;
  accepted = x.accepted.accepted;
  state = refl;
}

pub text_takes : (text : List ℕ) (i : LogItem) (s : State) (l : Levels) (t : State) (k : Levels) → i.body ≡ bodies.Text text → TakesText text i s l t k → i.version ≡ s.version + 1 → s.moment ≤ i.moment → TakesItem i s l t k
text_takes text i s l t k body x version moment =
    let e = x.is_entry.accepted.entry in
    record {
      then = step (s ∷ []) (entry_at i.session i.ordinal i.moment x.is_entry.accepted.what);
      next = text_follows text i s x.entry body x.is_entry version moment;
      room = subst (λ (y : Entry). l.active.held + parts_of y.what ≤ MEMTABLE_PARTS) e x.room;
      state = x.state ∙ ap (λ (y : Entry). bare (step (s ∷ []) y)) e;
      levels = x.levels ∙ ap (λ (y : Entry). took y l) e;
    }

same_text : (a b : List ℕ) (body : LogBody) → body ≡ bodies.Text a → body ≡ bodies.Text b → a ≡ b
same_text a b body p q = cc

step_or_text : (body : LogBody) (stream upto moment : ℕ) (delta : Delta) (text : List ℕ) → body ≡ bodies.Step stream upto moment delta → body ≡ bodies.Text text → ⊥
step_or_text body stream upto moment delta text p q = absurd cc

refused_follows : (text : List ℕ) (i : LogItem) (s : State) → i.body ≡ bodies.Text text → IsRefused text i.moment s → (t : State) → IsNext i s t → ⊥
refused_follows text i s body none t n =
    let same : n.text ≡ text = same_text n.text text i.body n.body body in
    none n.stmt (subst (λ (x : List ℕ). IsAnswer x n.stmt) same n.parsed) n.what n.rows n.accepted

pub step_follows : (i : LogItem) (s : State) (stream upto moment : ℕ) (delta : Delta) → i.body ≡ bodies.Step stream upto moment delta → (t : State) → IsNext i s t → ⊥
step_follows i s stream upto moment delta body t n = step_or_text i.body stream upto moment delta n.text body n.body

pub text_refuses : (log gate : ℕ) (text : List ℕ) (i : LogItem) (s : State) (m : Contents) (cause : OpenCause) → i.body ≡ bodies.Text text → i.version ≡ s.version + 1 → s.moment ≤ i.moment
    → TextRefuses (causes.NotThisStore (files.Log log) (gate + 30)) text i s m cause → ItemRefuses log gate i s m cause
text_refuses log gate text i s m cause body version late (inl (is, inl refused)) =
    subst (λ (c : OpenCause). ItemRefuses log gate i s m c) (sym is)
    (refl, inr (inl (λ early. early_late i.moment s.moment early late, refused_follows text i s body refused, refl)))
text_refuses log gate text i s m cause body version late (inl (is, inr (e, entry, over))) =
    subst (λ (c : OpenCause). ItemRefuses log gate i s m c) (sym is) (
      refl,
      inr (inr (
        step (s ∷ []) (entry_at i.session i.ordinal i.moment entry.accepted.what),
        text_follows text i s e body entry version late,
        subst (λ (y : Entry). MEMTABLE_PARTS < m.held + parts_of y.what) entry.accepted.entry over,
        refl,
      )),
    )
text_refuses log gate text i s m cause body version late (inr none) = subst (λ (c : OpenCause). ItemRefuses log gate i s m c) (sym none) tt

pub refuses_early : (log gate : ℕ) (i : LogItem) (s : State) (m : Contents) (at : ℕ) → i.moment < s.moment → at ≡ gate + 13 → ItemRefuses log gate i s m (causes.NotThisStore (files.Log log) at)
refuses_early log gate i s m at early place = (refl, inl (early, place))

pub refuses_body : (log gate : ℕ) (i : LogItem) (s : State) (m : Contents) (at : ℕ) → s.moment ≤ i.moment → ((t : State) → IsNext i s t → ⊥) → at ≡ gate + 30 → ItemRefuses log gate i s m (causes.NotThisStore (files.Log log) at)
refuses_body log gate i s m at late none place = (refl, inr (inl (λ early. early_late i.moment s.moment early late, none, place)))

-- where the next gate stands behind an item of a text
pub text_gate : (gate : ℕ) (text : List ℕ) (i : LogItem) → i.body ≡ bodies.Text text → next_gate gate i ≡ gate + 30 + length text
unfolding body_bytes
text_gate gate text i is = next_gate_is gate i ∙ ap (λ (b : LogBody). gate + 30 + length (body_bytes b)) is

-- ---- one after another

-- the first so many items have made a state and levels, and the gate behind them stands at this place
pub record ReplaySoFar (s : State) (l : Levels) (items : List LogItem) (n : ℕ) (t : State) (k : Levels) (gate : ℕ) : Type 0 where
  pub makes : Makes s l (take n items) t k
  pub gate_is : gate ≡ length (opened (take n items))

pub nothing_made : (s : State) (l : Levels) → s.rows ≡ [] → Makes s l [] s l
nothing_made s l none = record {
  then = s;
  active = l.active;
  replays = (refl, refl);
  state = ap (λ (rows : Rows). record s { rows = rows }) none;
  levels = refl;
}

pub replay_begins : (s : State) (l : Levels) (items : List LogItem) → s.rows ≡ [] → ReplaySoFar s l items 0 s l 0
replay_begins s l items none = record { makes = nothing_made s l none; gate_is = refl }

length_opened : (items : List LogItem) (i : LogItem) → length (opened (items ++ i ∷ [])) ≡ length (opened items) + 1 + length (item_bytes i)
length_opened items i =
    let e : length (opened (items ++ i ∷ []) ++ []) ≡ length (opened items ++ (1 ∷ (item_bytes i ++ []))) = ap length (opened-push items i []) in
    omega (arith, e, length-append (opened (items ++ i ∷ [])) [], length-append (opened items) (1 ∷ (item_bytes i ++ [])), length-append (item_bytes i) [])

opened_parts : (a b : List LogItem) → length (opened (a ++ b)) ≡ length (opened a) + length (opened b)
opened_parts [] b = omega arith
opened_parts (i ∷ is) b = omega (arith, opened_parts is b, length-append (item_bytes i) (opened (is ++ b)), length-append (item_bytes i) (opened is))

opened_front : (n : ℕ) (items : List LogItem) → length (opened (take n items)) ≤ length (opened items)
opened_front n items = omega (arith, opened_parts (take n items) (drop n items), ap (λ (l : List LogItem). length (opened l)) (take-append-drop n items))

more_items : (items : List LogItem) (n : ℕ) (i : LogItem) → n < length items → i ≡ get_or items n i → take (n + 1) items ≡ take n items ++ i ∷ []
more_items items n i within is = take_more items n i within ∙ ap (λ (x : LogItem). take n items ++ x ∷ []) (sym is)

-- behind items that made a state and a memtable, one more makes the next
more_at : (s : State) (l : Levels) (items : List LogItem) (i : LogItem) (then : State) (active : Contents) (u : State) (j : Levels) → Replays s l.active items then active
    → TakesItem i (bare then) (record l { active = active }) u j → Makes s l (items ++ i ∷ []) u j
more_at s l items i then active u j before x =
    let rows = next_rows i (bare then) x.then x.next then.rows in
    let made : Contents = taken rows.next.what i.moment active in
    let room = subst (λ (w : What). active.held + parts_of w ≤ MEMTABLE_PARTS) (sym rows.says) x.room in
    record {
      then = with_rows rows.after x.then;
      active = made;
      replays = replays_then s then (with_rows rows.after x.then) l.active active made items (i ∷ []) before
          (with_rows rows.after x.then, rows.next, room, (refl, refl));
      state = x.state;
      levels = x.levels ∙ ap (λ (w : What). record l { active = taken w i.moment active }) (sym rows.says);
    }

made_more : (s : State) (l : Levels) (items : List LogItem) (t : State) (k : Levels) (i : LogItem) (u : State) (j : Levels) → Makes s l items t k → TakesItem i t k u j → Makes s l (items ++ i ∷ []) u j
made_more s l items t k i u j m x =
    let of_state = subst (λ (y : State). TakesItem i y k u j) m.state x in
    more_at s l items i m.then m.active u j m.replays (subst (λ (y : Levels). TakesItem i (bare m.then) y u j) m.levels of_state)

pub replay_turns : (s : State) (l : Levels) (items : List LogItem) (n : ℕ) (t u : State) (k j : Levels) (gate next : ℕ) (i : LogItem) → n < length items → i ≡ get_or items n i → ReplaySoFar s l items n t k gate
    → TakesItem i t k u j → next ≡ next_gate gate i → ReplaySoFar s l items (n + 1) u j next
replay_turns s l items n t u k j gate next i within is r x e =
    let more = more_items items n i within is in
    record {
      makes = subst (λ (front : List LogItem). Makes s l front u j) (sym more) (made_more s l (take n items) t k i u j r.makes x);
      gate_is = gate_after next gate (length (item_bytes i)) (length (opened (take n items ++ i ∷ []))) (length (opened (take n items))) e r.gate_is (length_opened (take n items) i) ∙ ap (λ (front : List LogItem). length (opened front)) (sym more);
    }

made_version_is : (s : State) (l : Levels) (items : List LogItem) (t : State) (k : Levels) → Makes s l items t k → t.version ≡ s.version + length items
made_version_is s l items t k m = ap (λ (x : State). x.version) m.state ∙ replays_version items s m.then l.active m.active m.replays

pub turn_in_range : (s : State) (l : Levels) (items : List LogItem) (n : ℕ) (t : State) (k : Levels) (gate : ℕ) (i : LogItem) → n < length items → i ≡ get_or items n i → ReplaySoFar s l items n t k gate
    → items_fit (s.version + 1) 0 items ≡ true → InRange (t.version + 1) i
turn_in_range s l items n t k gate i within is r fit =
    let versions : (s.version + 1) + n ≡ t.version + 1 = next_version_at s.version t.version n (length (take n items)) (made_version_is s l (take n items) t k r.makes) (length-take-le n items (less_at_most n (length items) within)) in
    let here = items_in_range (s.version + 1) 0 items n i within fit in
    subst (λ (v : ℕ). InRange v i) versions (subst (λ (x : LogItem). InRange ((s.version + 1) + n) x) (sym is) here)

pub turn_has_room : (s : State) (l : Levels) (items : List LogItem) (n : ℕ) (t : State) (k : Levels) (gate : ℕ) (i : LogItem) → n < length items → i ≡ get_or items n i → ReplaySoFar s l items n t k gate
    → length (opened items) < 2 ^ 64 → next_gate gate i < 2 ^ 64
turn_has_room s l items n t k gate i within is r room =
    room_after (next_gate gate i) gate (length (item_bytes i)) (length (opened (take n items ++ i ∷ []))) (length (opened (take n items))) (length (opened items)) refl r.gate_is (length_opened (take n items) i)
    (subst (λ (front : List LogItem). length (opened front) ≤ length (opened items)) (more_items items n i within is) (opened_front (n + 1) items)) room

-- the active memtable fits the catalog of the state
pub turn_fits : (s : State) (l : Levels) (items : List LogItem) (n : ℕ) (t : State) (k : Levels) (gate : ℕ) → l.active ≡ nothing_held → IsValid s.catalog → items_fit (s.version + 1) 0 items ≡ true
    → ReplaySoFar s l items n t k gate → FitsMemtable t.catalog k.active
turn_fits s l items n t k gate empty valid fit r =
    let m = r.makes in
    let first = subst (λ (x : Contents). FitsMemtable s.catalog x) (sym empty) (nothing_fits s.catalog) in
    let fits = memtable_fits (take n items) s m.then l.active m.active (s.version + 1) 0 valid (front_fits n (s.version + 1) 0 items fit) first m.replays in
    subst (λ (x : State). FitsMemtable x.catalog k.active) (sym m.state) (subst (λ (y : Levels). FitsMemtable m.then.catalog y.active) (sym m.levels) fits)

pub replay_ends : (s : State) (l : Levels) (items : List LogItem) (n : ℕ) (t : State) (k : Levels) (gate : ℕ) → length items ≤ n → ReplaySoFar s l items n t k gate → Makes s l items t k
replay_ends s l items n t k gate past r = subst (λ (front : List LogItem). Makes s l front t k) (take_all n items past) r.makes

split_at : (items : List LogItem) (n : ℕ) (i : LogItem) → n < length items → i ≡ get_or items n i → items ≡ take n items ++ i ∷ drop (n + 1) items
split_at items n i within is =
    sym (take-append-drop n items) ∙ ap (λ (l : List LogItem). take n items ++ l) (drop_more items n i within ∙ ap (λ (x : LogItem). x ∷ drop (n + 1) items) (sym is))

-- ---- an item that can't follow, seen from a state with other rows

rows_cannot : (gate : ℕ) (i : LogItem) (s : State) (m : Contents) (at : ℕ) (rows : Rows) → CannotFollow gate i s m at → CannotFollow gate i (with_rows rows s) m at
rows_cannot gate i s m at rows (inl early) = inl early
rows_cannot gate i s m at rows (inr (inl none)) = inr (inl (none.0, λ t n. let back = next_rows i (with_rows rows s) t n s.rows in none.1 (with_rows back.after t) back.next, none.2))
rows_cannot gate i s m at rows (inr (inr full)) =
    let next = next_rows i s full.0 full.1 rows in
    inr (inr (
      with_rows next.after full.0,
      next.next,
      subst (λ (w : What). MEMTABLE_PARTS < m.held + parts_of w) (sym next.says) full.2,
      full.3,
    ))

rows_refuse : (s : State) (items : List LogItem) (at : ℕ) (rows : Rows) → Refuses s items at → Refuses (with_rows rows s) items at
rows_refuse s items at rows r =
    let before = rows_have_no_part s r.then nothing_held r.held r.before rows r.replays in
    record {
      before = r.before;
      next = r.next;
      after = r.after;
      then = with_rows before.0 r.then;
      held = r.held;
      items_are = r.items_are;
      replays = before.1;
      cannot = rows_cannot (length (opened r.before)) r.next r.then r.held at before.0 r.cannot;
    }

-- where the bytes of a log break off hangs on no row
pub rows_break : (first : ℕ) (s : State) (bytes : List ℕ) (at : ℕ) (rows : Rows) → BreaksOff first s bytes at → BreaksOff first (with_rows rows s) bytes at
rows_break first s bytes at rows (inl (items, whole, r)) = inl (items, whole, rows_refuse s items at rows r)
rows_break first s bytes at rows (inr (items, t, m, p, breaks)) =
    let after = rows_have_no_part s t nothing_held m items rows p in
    inr (items, with_rows after.0 t, m, after.1, breaks)

refuses_at : (log : ℕ) (s : State) (l : Levels) (items : List LogItem) (n : ℕ) (gate : ℕ) (i : LogItem) (then : State) (active : Contents) (cause : OpenCause) → l.active ≡ nothing_held → n < length items → i ≡ get_or items n i
    → Replays s l.active (take n items) then active → gate ≡ length (opened (take n items)) → ItemRefuses log gate i (bare then) active cause → ItemsRefuse log items s cause
refuses_at log s l items n gate i then active (causes.NotThisStore file at) empty within is before gate_is p = (
  p.0,
  record {
    before = take n items;
    next = i;
    after = drop (n + 1) items;
    then = then;
    held = active;
    items_are = split_at items n i within is;
    replays = subst (λ (m : Contents). Replays s m (take n items) then active) empty before;
    cannot = rows_cannot (length (opened (take n items))) i (bare then) active at then.rows (subst (λ (g : ℕ). CannotFollow g i (bare then) active at) gate_is p.1);
  },
)
refuses_at log s l items n gate i then active causes.StoreFault empty within is before gate_is p = p
refuses_at log s l items n gate i then active causes.NoMemory empty within is before gate_is p = tt

pub turn_refuses : (log : ℕ) (s : State) (l : Levels) (items : List LogItem) (n : ℕ) (t : State) (k : Levels) (gate : ℕ) (i : LogItem) (cause : OpenCause) → l.active ≡ nothing_held → n < length items → i ≡ get_or items n i
    → ReplaySoFar s l items n t k gate → ItemRefuses log gate i t k.active cause → ItemsRefuse log items s cause
turn_refuses log s l items n t k gate i cause empty within is r p =
    let m = r.makes in
    let of_state = subst (λ (y : State). ItemRefuses log gate i y k.active cause) m.state p in
    refuses_at log s l items n gate i m.then m.active cause empty within is m.replays r.gate_is
    (subst (λ (y : Levels). ItemRefuses log gate i (bare m.then) y.active cause) m.levels of_state)

-- ---- the bytes of a log

pub none_made : (s : State) (l : Levels) → s.rows ≡ [] → MakesOf None 0 s l s l
none_made s l none = record { items = []; ends = (refl, refl); makes = nothing_made s l none }

pub log_made : (bytes : List ℕ) (items : List LogItem) (gate : ℕ) (s : State) (l : Levels) (t : State) (k : Levels) → LogAt (s.version + 1) items gate bytes → Makes s l items t k → MakesOf (Some bytes) gate s l t k
log_made bytes items gate s l t k log m = record { items = items; ends = log; makes = m }

pub whole_refuses : (log : ℕ) (bytes : List ℕ) (items : List LogItem) (s : State) (cause : OpenCause) → AreWhole (s.version + 1) bytes items → ItemsRefuse log items s cause → LogRefuses log (Some bytes) s cause
whole_refuses log bytes items s (causes.NotThisStore file at) whole p = (p.0, inl (items, whole, p.1))
whole_refuses log bytes items s causes.StoreFault whole p = p
whole_refuses log bytes items s causes.NoMemory whole p = tt

pub broken_refuses : (log : ℕ) (bytes : List ℕ) (items : List LogItem) (s : State) (l : Levels) (t : State) (k : Levels) (at : ℕ) → l.active ≡ nothing_held → BreaksAt (s.version + 1) bytes items at → Makes s l items t k
    → LogRefuses log (Some bytes) s (causes.NotThisStore (files.Log log) at)
broken_refuses log bytes items s l t k at empty breaks m =
    (refl, inr (items, m.then, m.active, subst (λ (x : Contents). Replays s x items m.then m.active) empty m.replays, breaks))

pub log_room : (first : ℕ) (bytes : List ℕ) (items : List LogItem) (gate : ℕ) → LogAt first items gate bytes → length bytes < 2 ^ 64 → length (opened items) < 2 ^ 64
log_room first bytes items gate log room =
    fits_before (length bytes) (length (opened items)) (length (log.log.gate ∷ log.log.rest)) (ap length log.log.bytes_are ∙ length-append (opened items) (log.log.gate ∷ log.log.rest)) room

pub break_room : (first : ℕ) (bytes : List ℕ) (items : List LogItem) (at : ℕ) → BreaksAt first bytes items at → length bytes < 2 ^ 64 → length (opened items) < 2 ^ 64
break_room first bytes items at breaks room = fits_before (length bytes) (length (opened items)) (length breaks.rest) (ap length breaks.bytes_are ∙ length-append (opened items) breaks.rest) room

-- ---- what a log makes is in range

pub made_version : (bytes : Option (List ℕ)) (gate : ℕ) (s : State) (l : Levels) (t : State) (k : Levels) → MakesOf bytes gate s l t k → s.version ≤ LAST_VERSION → t.version ≤ LAST_VERSION
made_version bytes gate s l t k m le = versions_in_range s.version t.version m.items le (ends_fit (s.version + 1) bytes m.items gate m.ends) (made_version_is s l m.items t k m.makes)

pub made_moment : (bytes : Option (List ℕ)) (gate : ℕ) (s : State) (l : Levels) (t : State) (k : Levels) → MakesOf bytes gate s l t k → s.moment ≤ LAST_TIMESTAMP → t.moment ≤ LAST_TIMESTAMP
made_moment bytes gate s l t k m le =
    at_most LAST_TIMESTAMP (last_moment s.moment m.items) t.moment (ap (λ (x : State). x.moment) m.makes.state ∙ replays_moment m.items s m.makes.then l.active m.makes.active m.makes.replays)
    (moments_in_range (s.version + 1) 0 s.moment m.items (ends_fit (s.version + 1) bytes m.items gate m.ends) le)
