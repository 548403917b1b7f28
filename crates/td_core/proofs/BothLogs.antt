-- What the two logs of a store make, and what an image of them stands for.
use Rattle.std.proofs.Common.{◌≡◌, ◌⊎◌, inl, inr, ℕ, ◌+◌, true, false, List, [], ◌∷◌, ◌++◌, length, Option, Some, None, Result, Ok, Err, IsErrAnd, IfErr, refl, sym, ap, subst, ◌∙◌, zero-add}
use Rattle.std.specs.Prelude.{◌≢◌, is_some, IfSome}
use Rattle.std.specs.Option.{option_map}
use Rattle.std.proofs.lemmas.Bool.{true≢false}
use Rattle.std.proofs.lemmas.Option.{same_Some}
use Rattle.std.proofs.lemmas.List.{nil_from_length}
use Rattle.td_model.specs.State.{State, empty_state}
use Rattle.td_outside.specs.Image.{Log, Image}
use Rattle.td_wal.specs.declared.item.LogItem.{LogItem}
use Rattle.td_wal.specs.Items.{item_bytes}
use Rattle.td_wal.specs.Log.{IsLog, opened}
use Rattle.td_core.specs.declared.causes.FileId.{FileId}
use Rattle.td_core.specs.declared.causes.FileId.TheVariants as files
use Rattle.td_core.specs.declared.causes.OpenCause.{OpenCause}
use Rattle.td_core.specs.declared.causes.OpenCause.TheVariants as causes
use Rattle.td_core.specs.declared.kept.ActiveLog.{ActiveLog}
use Rattle.td_core.specs.declared.opening.LogBytes.{LogBytes}
use Rattle.td_core.specs.Replay.{Replays}
use Rattle.td_core.specs.Stands.{FIRST_LOG, HasItems, Stands}
use Rattle.td_core.specs.Breaks.{BreaksOff, LogBreaksOff, HasOpenGate, SecondBreaks, BreaksFirst}
use Rattle.td_core.specs.Opening.{CountIsBy, CountIs, BreaksBy, bytes_at, HoldsLogs, HasOpenGateFirst, EndsAt, MakesOf, BytesBreakOff, LogRefuses, MakesState, LogsRefuse}
use Rattle.td_core.proofs.Sums.{next_after}
use Rattle.td_core.proofs.Replaying.{replays_then, replays_version, replays_halt}

-- the bytes of a log, where it is there
abbrev pub bytes_of : Option Log → Option (List ℕ)
bytes_of o = option_map (λ (log : Log). log.bytes) o

none_or_some : {A : Type 0} (x : A) → None ≡ Some x → ⊥
none_or_some x e = cc

some_or_none : {A : Type 0} (x : A) → Some x ≡ None → ⊥
some_or_none x e = cc

-- ---- one log

pub ended_items : (first : ℕ) (bytes : Option (List ℕ)) (o : Option Log) (items : List LogItem) (gate : ℕ) → bytes ≡ bytes_of o → EndsAt first bytes items gate → HasItems first items o
ended_items first None None items gate e p = p.0
ended_items first None (Some log) items gate e p = absurd (none_or_some log.bytes e)
ended_items first (Some bytes) None items gate e p = absurd (some_or_none bytes e)
ended_items first (Some bytes) (Some log) items gate e p = subst (λ (b : List ℕ). IsLog first b items) (same_Some bytes log.bytes e) p.log

log_breaks : (first : ℕ) (s : State) (bytes : Option (List ℕ)) (o : Option Log) (at : ℕ) → bytes ≡ bytes_of o → BytesBreakOff first s bytes at → LogBreaksOff first s o at
log_breaks first s None o at e b = absurd b
log_breaks first s (Some bytes) None at e b = absurd (some_or_none bytes e)
log_breaks first s (Some bytes) (Some log) at e b = subst (λ (x : List ℕ). BreaksOff first s x at) (same_Some bytes log.bytes e) b

open_there : (bytes : Option (List ℕ)) (o : Option Log) → bytes ≡ bytes_of o → HasOpenGateFirst bytes → HasOpenGate o
open_there None o e p = absurd p
open_there (Some bytes) None e p = absurd (some_or_none bytes e)
open_there (Some bytes) (Some log) e p = (p.0, sym (same_Some bytes log.bytes e) ∙ p.1)

open_read : (bytes : Option (List ℕ)) (o : Option Log) → bytes ≡ bytes_of o → HasOpenGate o → HasOpenGateFirst bytes
open_read bytes None e p = absurd p
open_read None (Some log) e p = absurd (none_or_some log.bytes e)
open_read (Some bytes) (Some log) e p = (p.0, same_Some bytes log.bytes e ∙ p.1)

-- a log with items has an open gate at its first byte
pub items_open : (first : ℕ) (bytes : Option (List ℕ)) (items : List LogItem) (gate : ℕ) → EndsAt first bytes items gate → items ≢ [] → HasOpenGateFirst bytes
items_open first None items gate e some = absurd (some e.0)
items_open first (Some bytes) [] gate log some = absurd (some refl)
items_open first (Some bytes) (i ∷ is) gate log some = ((item_bytes i ++ opened is) ++ log.log.gate ∷ log.log.rest, log.log.bytes_are)

-- and one without items has a closed one
pub empty_closed : (first : ℕ) (bytes : List ℕ) (gate : ℕ) → EndsAt first (Some bytes) [] gate → (g : ℕ) × (rest : List ℕ) × (g ≢ 1) × (bytes ≡ g ∷ rest)
empty_closed first bytes gate log = (log.log.gate, log.log.rest, log.log.closed, log.log.bytes_are)

-- ---- both logs

-- the version behind the first log is the count of its items
count_is : (items : List LogItem) (s : State) → Replays empty_state items s → s.version ≡ length items
count_is items s p = replays_version items empty_state s p ∙ zero-add (length items)

no_items_at : (items : List LogItem) (s : State) → Replays empty_state items s → s.version ≡ 0 → items ≡ []
no_items_at items s p none = nil_from_length items (sym (count_is items s p) ∙ none)

pub no_version_at : (items : List LogItem) (s : State) → Replays empty_state items s → items ≡ [] → s.version ≡ 0
no_version_at items s p none = count_is items s p ∙ ap (λ (l : List LogItem). length l) none

pub next_first : (items : List LogItem) (s : State) → Replays empty_state items s → s.version + 1 ≡ 1 + length items
next_first items s p = next_after s.version (length items) (count_is items s p)

-- an image of logs that make a state stands for it
pub logs_stand : (logs : LogBytes) (s : State) (active : ActiveLog) (image : Image) → MakesState logs s active → HoldsLogs logs image → Stands image s
logs_stand logs s active image m h =
    let older = m.first.items in
    let newer = m.second.items in
    let begins = next_first older m.between m.first.replays in
    let ends : EndsAt (1 + length older) logs.second newer m.second_gate = subst (λ (n : ℕ). EndsAt n logs.second newer m.second_gate) begins m.second.ends in
    record {
      head = h.head;
      older = older;
      newer = newer;
      first_log = ended_items 1 logs.first (image.logs FIRST_LOG) older m.first_gate h.first m.first.ends;
      second_log = ended_items (1 + length older) logs.second (image.logs (FIRST_LOG + 1)) newer m.second_gate h.second ends;
      in_order = λ some none. m.in_order (no_version_at older m.between m.first.replays none) (items_open (1 + length older) logs.second newer m.second_gate ends some);
      replays = replays_then older newer empty_state m.between s m.first.replays m.second.replays;
    }

-- no halt is among the items
pub logs_halt : (logs : LogBytes) (s : State) (active : ActiveLog) → MakesState logs s active → s.halt ≡ None
logs_halt logs s active m = replays_halt m.second.items m.between s m.second.replays ∙ replays_halt m.first.items empty_state m.between m.first.replays

-- ---- where they break

first_file : (image : Image) (file : FileId) (at : ℕ) → image.head ≡ None → file ≡ files.Log FIRST_LOG → LogBreaksOff 1 empty_state (image.logs FIRST_LOG) at → BreaksFirst image file at
first_file image file at head is b = subst (λ (f : FileId). BreaksFirst image f at) (sym is) (head, inl (refl, b))

second_file : (image : Image) (file : FileId) (at : ℕ) (older : List LogItem) (s : State) → image.head ≡ None → file ≡ files.Log (FIRST_LOG + 1) → HasItems 1 older (image.logs FIRST_LOG) → Replays empty_state older s → SecondBreaks older s (image.logs (FIRST_LOG + 1)) at → BreaksFirst image file at
second_file image file at older s head is log p b = subst (λ (f : FileId). BreaksFirst image f at) (sym is) (head, inr (refl, older, s, log, p, b))

pub first_refuses : (logs : LogBytes) (cause : OpenCause) → LogRefuses FIRST_LOG logs.first empty_state cause → LogsRefuse logs cause
first_refuses logs (causes.NotThisStore file at) p = λ image h. first_file image file at h.head p.0 (log_breaks 1 empty_state logs.first (image.logs FIRST_LOG) at h.first p.1)
first_refuses logs causes.StoreFault p = p
first_refuses logs causes.NoMemory p = tt

pub open_refuses : (logs : LogBytes) (gate : ℕ) (s : State) → MakesOf logs.first gate empty_state s → s.version ≡ 0 → HasOpenGateFirst logs.second → LogsRefuse logs (causes.NotThisStore (files.Log (FIRST_LOG + 1)) 0)
open_refuses logs gate s m none open_gate = λ image h.
    second_file image (files.Log (FIRST_LOG + 1)) 0 m.items s h.head refl
    (ended_items 1 logs.first (image.logs FIRST_LOG) m.items gate h.first m.ends) m.replays
    (inl (no_items_at m.items s m.replays none, open_there logs.second (image.logs (FIRST_LOG + 1)) h.second open_gate, refl))

-- the first log has items, or the second has no open gate
in_order_or : (older : List LogItem) (P : Type 0) → (older ≡ [] → P → ⊥) → (older ≢ []) ⊎ (P → ⊥)
in_order_or [] P shut = inr (shut refl)
in_order_or (i ∷ is) P shut = inl (λ e. cc)

pub second_refuses : (logs : LogBytes) (gate : ℕ) (s : State) (cause : OpenCause) → MakesOf logs.first gate empty_state s → (s.version ≡ 0 → HasOpenGateFirst logs.second → ⊥) → LogRefuses (FIRST_LOG + 1) logs.second s cause → LogsRefuse logs cause
second_refuses logs gate s (causes.NotThisStore file at) m shut p = λ image h.
    let second = image.logs (FIRST_LOG + 1) in
    let begins = next_first m.items s m.replays in
    let breaks = log_breaks (s.version + 1) s logs.second second at h.second p.1 in
    second_file image file at m.items s h.head p.0
    (ended_items 1 logs.first (image.logs FIRST_LOG) m.items gate h.first m.ends) m.replays
    (inr (
      in_order_or m.items (HasOpenGate second) (λ none open_gate. shut (no_version_at m.items s m.replays none) (open_read logs.second second h.second open_gate)),
      subst (λ (n : ℕ). LogBreaksOff n s second at) begins breaks,
    ))
second_refuses logs gate s causes.StoreFault m shut p = p
second_refuses logs gate s causes.NoMemory m shut p = tt

-- ---- told

pub told_stand : (logs : LogBytes) (s : State) (active : ActiveLog) (told : Option Image) → MakesState logs s active → IfSome told (HoldsLogs logs) → IfSome told (λ image. Stands image s)
told_stand logs s active None m h = h
told_stand logs s active (Some image) m h = logs_stand logs s active image m h

pub told_break : (logs : LogBytes) (cause : OpenCause) (told : Option Image) → LogsRefuse logs cause → IfSome told (HoldsLogs logs) → IfSome told (BreaksBy cause)
told_break logs cause None p h = h
told_break logs (causes.NotThisStore file at) (Some image) p h = p image h
told_break logs causes.StoreFault (Some image) p h = absurd p
told_break logs causes.NoMemory (Some image) p h = tt

some_head : (head : Option (List ℕ)) (image : Image) → is_some head ≡ true → head ≡ image.head → image.head ≢ None
some_head None image some is none = true≢false (sym some)
some_head (Some bytes) image some is none = some_or_none bytes (is ∙ none)

none_is : {A : Type 0} (o : Option A) → is_some o ≡ false → o ≡ None
none_is None e = refl
none_is (Some x) e = absurd (true≢false e)

pub told_head : (head : Option (List ℕ)) (told : Option Image) → is_some head ≡ true → IfSome told (λ image. head ≡ image.head) → IfSome told (BreaksBy (causes.NotThisStore files.Head 0))
told_head head None some is = is
told_head head (Some image) some is = (some_head head image some is, refl)

pub told_holds : (head first second : Option (List ℕ)) (told : Option Image) → is_some head ≡ false → IfSome told (λ image. head ≡ image.head) → IfSome told (λ image. first ≡ bytes_at FIRST_LOG image) → IfSome told (λ image. second ≡ bytes_at (FIRST_LOG + 1) image)
    → IfSome told (HoldsLogs (record { first = first; second = second }))
told_holds head first second None none is a b = is
told_holds head first second (Some image) none is a b = record { head = sym is ∙ none_is head none; first = a; second = b }

-- where the store failed, nothing is said of where it breaks
pub failed_breaks : (cause : OpenCause) (told : Option Image) → cause ≡ causes.StoreFault → IfSome told (BreaksBy cause)
failed_breaks cause told e = subst (λ (c : OpenCause). IfSome told (BreaksBy c)) (sym e) (nothing told)
  where
    nothing : (o : Option Image) → IfSome o (BreaksBy causes.StoreFault)
    nothing None = tt
    nothing (Some image) = tt

-- ---- what is handed on

-- what is said of a cause is said of the answer that hands it on
pub handed_on : {T : Type 0} (r : Result T OpenCause) (cause : OpenCause) (P : OpenCause → Type 0) → IsErrAnd r (λ e. e ≡ cause) → P cause → IfErr r P
handed_on (Ok v) cause P is p = tt
handed_on (Err e) cause P is p = subst P (sym is) p

pub count_handed_on : {T : Type 0} (r : Result T OpenCause) (cause : OpenCause) (before between now : ℕ) → IsErrAnd r (λ e. e ≡ cause) → between ≡ before → CountIsBy cause between now → CountIs r before now
count_handed_on (Ok v) cause before between now is same p = absurd is
count_handed_on (Err e) cause before between now is same p = subst (λ (c : OpenCause). CountIsBy c before now) (sym is) (subst (λ (n : ℕ). CountIsBy cause n now) same p)

pub no_memory_breaks : (told : Option Image) → IfSome told (BreaksBy causes.NoMemory)
no_memory_breaks None = tt
no_memory_breaks (Some image) = tt
