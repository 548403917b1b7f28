-- What the two logs of a store make, and where they break.
use Rattle.std.proofs.Common.{◌≡◌, inl, inr, ℕ, ◌+◌, ◌≤◌, true, List, [], ◌∷◌, ◌++◌, length, Option, Some, None, Result, Ok, Err, IsErrAnd, IfErr, refl, sym, ap, subst, ◌∙◌, arith}
use Rattle.std.specs.Prelude.{◌≢◌}
use Rattle.std.specs.Option.{option_map}
use Rattle.std.proofs.lemmas.Option.{same_Some}
use Rattle.std.proofs.lemmas.List.{nil_from_length}
use Rattle.td_limits.specs.declared.limits.TheConstants.{LAST_VERSION}
use Rattle.td_model.specs.declared.catalog.StreamEntry.{StreamEntry}
use Rattle.td_model.specs.State.{State}
use Rattle.td_outside.specs.Image.{Log, Image}
use Rattle.td_memtable.specs.Contents.{Contents, nothing_held}
use Rattle.td_manifest.specs.declared.head.Head.{Head}
use Rattle.td_manifest.specs.Heads.{head_body}
use Rattle.td_verdict.specs.Valid.{IsValid}
use Rattle.td_printed.specs.Heads.{FitsHead}
use Rattle.td_wal.specs.declared.item.LogItem.{LogItem}
use Rattle.td_wal.specs.Items.{item_bytes}
use Rattle.td_wal.specs.Log.{IsLog, opened}
use Rattle.td_levels.specs.Levels.{Levels}
use Rattle.td_levels.specs.Laws.{frozen_of}
use Rattle.td_stands.specs.declared.file_id.FileId.{FileId}
use Rattle.td_stands.specs.declared.file_id.FileId.TheVariants as files
use Rattle.td_stands.specs.Heads.{catalog_of, state_of_head, levels_of_head}
use Rattle.td_stands.specs.Replay.{Replays}
use Rattle.td_stands.specs.Stands.{HasItems}
use Rattle.td_stands.specs.Breaks.{BreaksOff, LogBreaksOff, HasOpenGate, SecondBreaks, HeadStands, BreaksFirst}
use Rattle.td_stands.proofs.Replaying.{replays_version}
use Rattle.td_state.specs.Held.{bare, headed}
use Rattle.td_opening.specs.declared.causes.OpenCause.{OpenCause}
use Rattle.td_opening.specs.declared.causes.OpenCause.TheVariants as causes
use Rattle.td_opening.specs.declared.replaying.LogBytes.{LogBytes}
use Rattle.td_opening.specs.Opening.{HoldsLogs, HasOpenGateFirst, HasNoGate, HasNoItem, EndsAt, MakesOf, BytesBreakOff, LogRefuses, MakesSecond, LogsRefuse}
use Rattle.td_opening.proofs.HeadFacts.{head_numbers}
use Rattle.td_opening.proofs.HeadNames.{head_fits_head}
use Rattle.td_opening.proofs.Items.{made_version, rows_break}
use Rattle.td_opening.proofs.Moments.{replays_halt}
use Rattle.td_opening.proofs.Sound.{Stays, replays_stay}

-- the bytes of a log, where it is there
abbrev pub bytes_of : Option Log → Option (List ℕ)
bytes_of o = option_map (λ (log : Log). log.bytes) o

none_or_some : {A : Type 0} (x : A) → None ≡ Some x → ⊥
none_or_some x e = cc

some_or_none : {A : Type 0} (x : A) → Some x ≡ None → ⊥
some_or_none x e = cc

-- ---- one log

pub ended_items : (first : ℕ) (bytes : Option (List ℕ)) (o : Option Log) (items : List LogItem) (gate : ℕ) → bytes ≡ bytes_of o → EndsAt first bytes items gate → HasItems first items o
ended_items first None None items gate e p = p.0
ended_items first None (Some log) items gate e p = absurd (none_or_some log.bytes e)
ended_items first (Some bytes) None items gate e p = absurd (some_or_none bytes e)
ended_items first (Some bytes) (Some log) items gate e p = subst (λ (b : List ℕ). IsLog first b items) (same_Some bytes log.bytes e) p.log

log_breaks : (first : ℕ) (s : State) (bytes : Option (List ℕ)) (o : Option Log) (at : ℕ) → bytes ≡ bytes_of o → BytesBreakOff first s bytes at → LogBreaksOff first s o at
log_breaks first s None o at e b = absurd b
log_breaks first s (Some bytes) None at e b = absurd (some_or_none bytes e)
log_breaks first s (Some bytes) (Some log) at e b = subst (λ (x : List ℕ). BreaksOff first s x at) (same_Some bytes log.bytes e) b

-- where they break off hangs on no row
bytes_break : (first : ℕ) (s : State) (bytes : Option (List ℕ)) (at : ℕ) → BytesBreakOff first (bare s) bytes at → BytesBreakOff first s bytes at
bytes_break first s None at b = b
bytes_break first s (Some bytes) at b = rows_break first (bare s) bytes at s.rows b

open_there : (bytes : Option (List ℕ)) (o : Option Log) → bytes ≡ bytes_of o → HasOpenGateFirst bytes → HasOpenGate o
open_there None o e p = absurd p
open_there (Some bytes) None e p = absurd (some_or_none bytes e)
open_there (Some bytes) (Some log) e p = (p.0, sym (same_Some bytes log.bytes e) ∙ p.1)

-- a log with items has an open gate at its first byte
pub items_open : (first : ℕ) (bytes : Option (List ℕ)) (items : List LogItem) (gate : ℕ) → EndsAt first bytes items gate → items ≢ [] → HasOpenGateFirst bytes
items_open first None items gate e some = absurd (some e.0)
items_open first (Some bytes) [] gate log some = absurd (some refl)
items_open first (Some bytes) (i ∷ is) gate log some = ((item_bytes i ++ opened is) ++ log.log.gate ∷ log.log.rest, log.log.bytes_are)

-- a log that has a gate, which is closed, has no item
pub shut : (bytes : Option (List ℕ)) → (HasNoGate bytes → ⊥) → (HasOpenGateFirst bytes → ⊥) → HasNoItem bytes
shut None no_gate open_gate = tt
shut (Some []) no_gate open_gate = absurd (no_gate refl)
shut (Some (g ∷ rest)) no_gate open_gate = (g, rest, λ one. open_gate (rest, ap (λ (n : ℕ). n ∷ rest) one), refl)

-- ---- the state between the logs

pub first_made : (h : Head) (logs : LogBytes) (gate : ℕ) (s : State) (l : Levels) (t : State) (k : Levels) → s ≡ state_of_head h [] → l ≡ levels_of_head h → MakesOf logs.first gate s l t k
    → MakesOf logs.first gate (state_of_head h []) (levels_of_head h) t k
first_made h logs gate s l t k state levels m =
    subst (λ (x : Levels). MakesOf logs.first gate (state_of_head h []) x t k) levels (subst (λ (x : State). MakesOf logs.first gate x l t k) state m)

-- what the first log makes of the state and the levels of a head
abbrev FirstMakes : Head → LogBytes → ℕ → State → Levels → Type 0
FirstMakes h logs gate t k = MakesOf logs.first gate (state_of_head h []) (levels_of_head h) t k

pub first_version : (h : Head) (logs : LogBytes) (gate : ℕ) (t : State) (k : Levels) → FirstMakes h logs gate t k → head_body.fits h ≡ true → t.version ≤ LAST_VERSION
first_version h logs gate t k m fits = made_version logs.first gate (state_of_head h []) (levels_of_head h) t k m (head_numbers h fits).version

pub first_stays : (h : Head) (logs : LogBytes) (gate : ℕ) (t : State) (k : Levels) → FirstMakes h logs gate t k → IsValid (catalog_of h) → Stays (state_of_head h []) t
first_stays h logs gate t k m valid =
    let kept = replays_stay m.items (state_of_head h []) m.makes.then nothing_held m.makes.active valid m.makes.replays in
    subst (λ (x : State). Stays (state_of_head h []) x) (sym m.makes.state) (record {
      edge = kept.edge;
      grows_is = kept.grows_is;
      valid = kept.valid;
      streams = kept.streams;
      heads = kept.heads;
      words = kept.words;
    })

pub first_heads : (h : Head) (logs : LogBytes) (gate : ℕ) (t : State) (k : Levels) → FirstMakes h logs gate t k → IsValid (catalog_of h) → head_body.fits h ≡ true → FitsHead t.catalog
first_heads h logs gate t k m valid fits = (first_stays h logs gate t k m valid).heads (head_fits_head h fits)

pub first_streams : (h : Head) (logs : LogBytes) (gate : ℕ) (t : State) (k : Levels) → FirstMakes h logs gate t k → IsValid (catalog_of h) → t.catalog.streams ≡ []
first_streams h logs gate t k m valid = (first_stays h logs gate t k m valid).streams refl

pub first_going : (h : Head) (logs : LogBytes) (gate : ℕ) (t : State) (k : Levels) → FirstMakes h logs gate t k → t.halt ≡ None
first_going h logs gate t k m =
    ap (λ (x : State). x.halt) m.makes.state ∙ replays_halt m.items (state_of_head h []) m.makes.then nothing_held m.makes.active m.makes.replays

first_count : (h : Head) (logs : LogBytes) (gate : ℕ) (t : State) (k : Levels) (m : FirstMakes h logs gate t k) → t.version ≡ h.version + length m.items
first_count h logs gate t k m =
    ap (λ (x : State). x.version) m.makes.state ∙ replays_version m.items (state_of_head h []) m.makes.then nothing_held m.makes.active m.makes.replays

none_more : (a b n : ℕ) → a ≡ b + n → a ≡ b → n ≡ 0
none_more a b n e f = omega arith

no_more : (a b n : ℕ) → a ≡ b + n → n ≡ 0 → a ≡ b
no_more a b n e f = omega arith

pub first_none : (h : Head) (logs : LogBytes) (gate : ℕ) (t : State) (k : Levels) (m : FirstMakes h logs gate t k) → t.version ≡ h.version → m.items ≡ []
first_none h logs gate t k m same = nil_from_length m.items (none_more t.version h.version (length m.items) (first_count h logs gate t k m) same)

pub first_some : (h : Head) (logs : LogBytes) (gate : ℕ) (t : State) (k : Levels) (m : FirstMakes h logs gate t k) → t.version ≢ h.version → m.items ≢ []
first_some h logs gate t k m other none =
    other (no_more t.version h.version (length m.items) (first_count h logs gate t k m) (ap (λ (l : List LogItem). length l) none))

passed : (log a b n : ℕ) → log ≤ b + 1 → a ≡ b + n → (a ≡ b → ⊥) → log ≤ a
passed log a b n most e other = omega (arith, most, e, other)

pub first_below : (h : Head) (logs : LogBytes) (gate : ℕ) (t : State) (k : Levels) → FirstMakes h logs gate t k → head_body.fits h ≡ true → t.version ≢ h.version → h.first_log ≤ t.version
first_below h logs gate t k m fits other =
    passed h.first_log t.version h.version (length m.items) (head_numbers h fits).most_log (first_count h logs gate t k m) other

-- ---- the second log

sealed_state : (h : Head) (s : State) → state_of_head h [] ≡ headed s → s.catalog.streams ≡ [] → s.halt ≡ None → state_of_head h [] ≡ bare s
sealed_state h s is streams going =
    is ∙ ap (λ (x : List StreamEntry). record s { catalog = record s.catalog { streams = x }; rows = []; halt = None }) (sym streams)
    ∙ ap (λ (x : Option ℕ). record s { rows = []; halt = x }) (sym going)

pub second_made : (h : Head) (bytes : Option (List ℕ)) (s : State) (l k : Levels) (t : State) (j : Levels) (gate version : ℕ) (sealed : Head) → k ≡ frozen_of l → MakesOf bytes gate s k t j → version ≡ s.version
    → s.catalog.streams ≡ [] → s.halt ≡ None → state_of_head sealed [] ≡ headed s → sealed.sets ≡ [] → sealed.streams ≡ [] → sealed.first_log ≡ h.first_log + 1 → head_body.fits sealed ≡ true
    → MakesSecond h bytes s l t j (record { log = record { number = h.first_log + 1; first = version + 1; gate = gate; is_made = true }; sealed = Some sealed })
second_made h bytes s l k t j gate version sealed frozen m version_is streams going state sets no_streams log fits =
    let made : MakesOf bytes gate s (frozen_of l) t j = subst (λ (x : Levels). MakesOf bytes gate s x t j) frozen m in
    let active : j.active ≡ made.makes.active = ap (λ (x : Levels). x.active) made.makes.levels in
    record {
      items = made.items;
      gate = gate;
      ends = made.ends;
      then = made.makes.then;
      replays = subst (λ (x : Contents). Replays s nothing_held made.items made.makes.then x) (sym active) made.makes.replays;
      state = made.makes.state;
      levels = made.makes.levels ∙ ap (λ (x : Contents). record (frozen_of l) { active = x }) (sym active);
      head = sealed;
      sealed = refl;
      seals = record { state = sealed_state sealed s state streams going; first_log = log; no_sets = sets; no_streams = no_streams; fits = fits };
      log = ap (λ (v : ℕ). record { number = h.first_log + 1; first = v + 1; gate = gate; is_made = true }) version_is;
    }

-- ---- where they break

first_file : (image : Image) (h : Head) (file : FileId) (at : ℕ) → HeadStands image h → file ≡ files.Log h.first_log → LogBreaksOff (h.version + 1) (state_of_head h []) (image.logs h.first_log) at → BreaksFirst image file at
first_file image h file at head is b = subst (λ (f : FileId). BreaksFirst image f at) (sym is) (h, head, inl (refl, b))

second_file : (image : Image) (h : Head) (file : FileId) (at : ℕ) (older : List LogItem) (s : State) (m : Contents) → HeadStands image h → file ≡ files.Log (h.first_log + 1) → HasItems (h.version + 1) older (image.logs h.first_log)
    → Replays (state_of_head h []) nothing_held older s m → SecondBreaks older s (image.logs (h.first_log + 1)) at → BreaksFirst image file at
second_file image h file at older s m head is log p b = subst (λ (f : FileId). BreaksFirst image f at) (sym is) (h, head, inr (refl, older, s, m, log, p, b))

pub first_refuses : (h : Head) (logs : LogBytes) (cause : OpenCause) → LogRefuses h.first_log logs.first (state_of_head h []) cause → LogsRefuse h logs cause
first_refuses h logs (causes.NotThisStore file at) p = λ image head holds.
    first_file image h file at head p.0 (log_breaks (h.version + 1) (state_of_head h []) logs.first (image.logs h.first_log) at holds.first p.1)
first_refuses h logs causes.StoreFault p = p
first_refuses h logs causes.NoMemory p = tt

-- behind the items of the first log the second one breaks
behind_first : (h : Head) (logs : LogBytes) (gate : ℕ) (t : State) (k : Levels) (file : FileId) (at : ℕ) (m : FirstMakes h logs gate t k) → file ≡ files.Log (h.first_log + 1)
    → ((image : Image) → HoldsLogs h.first_log logs image → SecondBreaks m.items m.makes.then (image.logs (h.first_log + 1)) at) → LogsRefuse h logs (causes.NotThisStore file at)
behind_first h logs gate t k file at m is breaks = λ image head holds.
    second_file image h file at m.items m.makes.then m.makes.active head is
    (ended_items (h.version + 1) logs.first (image.logs h.first_log) m.items gate holds.first m.ends) m.makes.replays (breaks image holds)

empty_breaks : (first : ℕ) (s : State) (bytes : Option (List ℕ)) → HasNoGate bytes → BytesBreakOff first s bytes 0
empty_breaks first s None none = none
empty_breaks first s (Some bytes) none =
    subst (λ (b : List ℕ). BreaksOff first s b 0) (sym none)
    (inr ([], s, nothing_held, (refl, refl), record { rest = []; left = 0; bytes_are = refl; fit = refl; breaks = refl; place = refl }))

none_open : (bytes : Option (List ℕ)) (o : Option Log) → bytes ≡ bytes_of o → HasNoGate bytes → HasOpenGate o → ⊥
none_open None o e none open_gate = none
none_open (Some bytes) None e none open_gate = open_gate
none_open (Some bytes) (Some log) e none open_gate = no_head open_gate.0 (sym none ∙ same_Some bytes log.bytes e ∙ open_gate.1)
  where
    no_head : (rest : List ℕ) → [] ≡ 1 ∷ rest → ⊥
    no_head rest e = cc

pub no_gate_refuses : (h : Head) (logs : LogBytes) (gate : ℕ) (t : State) (k : Levels) → FirstMakes h logs gate t k → HasNoGate logs.second → LogsRefuse h logs (causes.NotThisStore (files.Log (h.first_log + 1)) 0)
no_gate_refuses h logs gate t k m none =
    behind_first h logs gate t k (files.Log (h.first_log + 1)) 0 m refl (λ image holds.
    let second = image.logs (h.first_log + 1) in
    let s = m.makes.then in
    inr (
      inr (none_open logs.second second holds.second none),
      log_breaks (s.version + 1) s logs.second second 0 holds.second (empty_breaks (s.version + 1) s logs.second none),
    ))

pub open_refuses : (h : Head) (logs : LogBytes) (gate : ℕ) (t : State) (k : Levels) → FirstMakes h logs gate t k → t.version ≡ h.version → HasOpenGateFirst logs.second
    → LogsRefuse h logs (causes.NotThisStore (files.Log (h.first_log + 1)) 0)
open_refuses h logs gate t k m same open_gate =
    behind_first h logs gate t k (files.Log (h.first_log + 1)) 0 m refl (λ image holds.
    inl (first_none h logs gate t k m same, open_there logs.second (image.logs (h.first_log + 1)) holds.second open_gate, refl))

pub second_refuses : (h : Head) (logs : LogBytes) (gate : ℕ) (t : State) (k : Levels) (cause : OpenCause) → FirstMakes h logs gate t k → t.version ≢ h.version → LogRefuses (h.first_log + 1) logs.second t cause → LogsRefuse h logs cause
second_refuses h logs gate t k (causes.NotThisStore file at) m other p =
    let s = m.makes.then in
    let here : BytesBreakOff (s.version + 1) (bare s) logs.second at = subst (λ (x : State). BytesBreakOff (x.version + 1) x logs.second at) m.makes.state p.1 in
    behind_first h logs gate t k file at m p.0 (λ image holds.
    inr (
      inl (first_some h logs gate t k m other),
      log_breaks (s.version + 1) s logs.second (image.logs (h.first_log + 1)) at holds.second (bytes_break (s.version + 1) s logs.second at here),
    ))
second_refuses h logs gate t k causes.StoreFault m other p = p
second_refuses h logs gate t k causes.NoMemory m other p = tt

-- ---- what is handed on

-- what is said of a cause is said of the answer that hands it on
pub handed_on : {T : Type 0} (r : Result T OpenCause) (cause : OpenCause) (P : OpenCause → Type 0) → IsErrAnd r (λ e. e ≡ cause) → P cause → IfErr r P
handed_on (Ok v) cause P is p = tt
handed_on (Err e) cause P is p = subst P (sym is) p
