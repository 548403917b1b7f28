-- What opening reads of a store, what its head and its logs make, and what it leaves of the store.
use Rattle.std.specs.Prelude.{◌≡◌, ◌≢◌, ◌⊎◌, ℕ, ◌+◌, ◌-◌, ◌<◌, ◌≤◌, Bool, true, false, List, [], ◌∷◌, take, slice_get, All, Option, Some, None, IfSome, is_some, Result, MatchResult, ◌==◌, ◌&&◌}
use Rattle.std.specs.Option.{option_map}
use Rattle.td_limits.specs.declared.limits.TheConstants.{LAST_TIMESTAMP, LAST_VERSION, MEMTABLE_PARTS}
use Rattle.td_model.specs.declared.history.What.{What}
use Rattle.td_model.specs.declared.history.Entry.{Entry}
use Rattle.td_model.specs.declared.history.Verdict.TheVariants.{Accept}
use Rattle.td_model.specs.declared.language.Stmt.{Stmt}
use Rattle.td_model.specs.State.{State, step}
use Rattle.td_outside.specs.Image.{Log, Image, Along}
use Rattle.td_outside.specs.Files.{lists, NamesFiles}
use Rattle.td_outside.specs.Logs.{with_log, after_sync, after_log_drop}
use Rattle.td_outside.specs.Causes.{Rose}
use Rattle.td_outside.specs.declared.faults.IoFault.{IoFault}
use Rattle.td_outside.specs.declared.faults.IoFault.TheVariants as io
use Rattle.td_parse.specs.Statements.{IsAnswer}
use Rattle.td_told.specs.Turn.{entry_at}
use Rattle.td_told.specs.Verdict.{verdict}
use Rattle.td_verdict.specs.Valid.{IsValid}
use Rattle.td_memtable.specs.Contents.{Contents, nothing_held}
use Rattle.td_manifest.specs.declared.head.Head.{Head}
use Rattle.td_manifest.specs.Files.{all_files}
use Rattle.td_manifest.specs.Heads.{head_body}
use Rattle.td_manifest.specs.Places.{file_place, stream_place}
use Rattle.td_wal.specs.declared.item.LogItem.{LogItem}
use Rattle.td_wal.specs.Log.{LogAt}
use Rattle.td_levels.specs.Levels.{Levels, memtables_of}
use Rattle.td_levels.specs.Taken.{taken, parts_of}
use Rattle.td_levels.specs.Laws.{HoldRows, took}
use Rattle.td_stands.specs.declared.file_id.FileId.{FileId}
use Rattle.td_stands.specs.declared.file_id.FileId.TheVariants as files
use Rattle.td_stands.specs.Heads.{catalog_of, state_of_head, levels_of_head}
use Rattle.td_stands.specs.Replay.{IsNext, Replays}
use Rattle.td_stands.specs.Stands.{HasItems, Stands}
use Rattle.td_stands.specs.Breaks.{CannotFollow, Refuses, BreaksOff, HeadStands, BreaksFirst}
use Rattle.td_state.specs.Held.{bare}
use Rattle.td_opening.specs.declared.causes.OpenCause.{OpenCause}
use Rattle.td_opening.specs.declared.causes.OpenCause.TheVariants as causes
use Rattle.td_active.specs.declared.active_log.ActiveLog.{ActiveLog}
use Rattle.td_opening.specs.declared.replaying.LogBytes.{LogBytes}
use Rattle.td_opening.specs.declared.replaying.Replayed.{Replayed}
use Rattle.td_opening.specs.declared.opening.Opened.{Opened}
use Rattle.td_opening.specs.declared.opening.Said.{Said}
use Rattle.td_active.specs.Active.{Seals}
use Rattle.td_active.specs.Stored.{IsStored}
use Rattle.td_state.specs.Facts.{facts}

-- ---- causes

-- the cause of a call on the store
abbrev pub open_cause : IoFault → OpenCause
open_cause io.Failed = causes.StoreFault
open_cause io.NoMemory = causes.NoMemory

-- what became of the count of faults: it rose where the store failed, and stayed otherwise
abbrev pub CountIsBy : OpenCause → ℕ → ℕ → Type 0
CountIsBy causes.StoreFault before now = (before ≤ now) × Rose before now
CountIsBy (causes.NotThisStore file at) before now = now ≡ before
CountIsBy causes.NoMemory before now = now ≡ before

abbrev pub CountIs : {T : Type 0} → Result T OpenCause → ℕ → ℕ → Type 0
CountIs result before now = MatchResult result (λ _. now ≡ before) (λ cause. CountIsBy cause before now)

-- a store that isn't one of ours breaks first at the place that is named
abbrev pub BreaksBy : OpenCause → Image → Type 0
BreaksBy (causes.NotThisStore file at) image = BreaksFirst image file at
BreaksBy causes.StoreFault image = Unit {0}
BreaksBy causes.NoMemory image = Unit {0}

-- an image breaks at no place
abbrev pub BreaksNowhere : Image → Type 0
BreaksNowhere image = (file : FileId) (at : ℕ) → BreaksFirst image file at → ⊥

-- ---- what is read

-- no reader is open
abbrev pub IsAtRest : Image → Type 0
IsAtRest image = (n : ℕ) → image.readers n ≡ 0

-- a number that the first log may have
abbrev pub IsLogNumber : ℕ → Type 0
IsLogNumber n = (1 ≤ n) × (n ≤ LAST_VERSION + 1)

-- each file that a head names is among these numbers, and it has no stream
pub record HasAll (h : Head) (names : List ℕ) : Type 0 where
  pub files : All (λ (n : ℕ). lists n names ≡ true) (all_files h.sets)
  pub no_streams : h.streams ≡ []

-- a file that isn't among these numbers is the first such of those that a head names
pub record FirstUnlisted (h : Head) (names : List ℕ) (i : ℕ) : Type 0 where
  pub name : ℕ
  pub there : slice_get (all_files h.sets) i ≡ Some name
  pub unlisted : lists name names ≡ false
  pub before : All (λ (n : ℕ). lists n names ≡ true) (take i (all_files h.sets))

-- a head names a file that isn't among these numbers, or has a stream, at the place that is named
abbrev pub HeadLacks : Head → List ℕ → OpenCause → Type 0
HeadLacks h names (causes.NotThisStore file at) =
    (file ≡ files.Head)
    × (((i : ℕ) × FirstUnlisted h names i × (at ≡ file_place h i))
    ⊎ (All (λ (n : ℕ). lists n names ≡ true) (all_files h.sets) × (h.streams ≢ []) × (at ≡ stream_place h)))
HeadLacks h names causes.StoreFault = ⊥
HeadLacks h names causes.NoMemory = Unit {0}

-- the bytes of a log, where it is there
abbrev pub bytes_at : ℕ → Image → Option (List ℕ)
bytes_at n image = option_map (λ log. log.bytes) (image.logs n)

-- an image has these bytes of the first log and of the one above it
pub record HoldsLogs (first_log : ℕ) (logs : LogBytes) (image : Image) : Type 0 where
  pub first : logs.first ≡ bytes_at first_log image
  pub second : logs.second ≡ bytes_at (first_log + 1) image

-- an image has what was read of it: its head breaks nowhere
pub record Says (said : Said) (image : Image) : Type 0 where
  pub head : HeadStands image said.head
  pub names : NamesFiles said.names image
  pub logs : HoldsLogs said.head.first_log said.logs image

-- what was read holds together, whatever the store tells: the head keeps its rules, and has no stream
pub record IsWhole (said : Said) : Type 0 where
  pub fits : head_body.fits said.head ≡ true
  pub no_streams : said.head.streams ≡ []
  pub named : (n : ℕ) → lists n said.named ≡ lists n (all_files said.head.sets)

-- the bytes of a log have an open gate at its first byte
abbrev pub HasOpenGateFirst : Option (List ℕ) → Type 0
HasOpenGateFirst None = ⊥
HasOpenGateFirst (Some bytes) = (rest : List ℕ) × (bytes ≡ 1 ∷ rest)

-- a log that is there has no byte, and so no gate
abbrev pub HasNoGate : Option (List ℕ) → Type 0
HasNoGate None = ⊥
HasNoGate (Some bytes) = bytes ≡ []

-- a log that isn't there has no item, nor has one with a closed gate at its first byte
abbrev pub HasNoItem : Option (List ℕ) → Type 0
HasNoItem None = Unit {0}
HasNoItem (Some bytes) = (gate : ℕ) × (rest : List ℕ) × (gate ≢ 1) × (bytes ≡ gate ∷ rest)

-- ---- one item

-- an entry is what a statement of an item is accepted as in a state
pub record IsAccepted (stmt : Stmt) (i : LogItem) (s : State) (e : Entry) : Type 0 where
  pub what : What
  pub rows : ℕ
  pub accepted : verdict stmt s [] i.moment ≡ Accept what rows
  pub entry : e ≡ entry_at i.session i.ordinal i.moment what

-- a statement isn't accepted in a state at a moment
abbrev pub IsNotAccepted : Stmt → ℕ → State → Type 0
IsNotAccepted stmt moment s = (what : What) (rows : ℕ) → verdict stmt s [] moment ≡ Accept what rows → ⊥

-- an entry is that of an item's text, which is a statement that is accepted in a state
pub record IsItemEntry (text : List ℕ) (i : LogItem) (s : State) (e : Entry) : Type 0 where
  pub stmt : Stmt
  pub parsed : IsAnswer text stmt
  pub accepted : IsAccepted stmt i s e

-- the text is no statement that is accepted in a state at a moment
abbrev pub IsRefused : List ℕ → ℕ → State → Type 0
IsRefused text moment s = (stmt : Stmt) → IsAnswer text stmt → IsNotAccepted stmt moment s

-- the entry of an item's text makes a state of a state, and its parts fit the active memtable and are in it
pub record TakesText (text : List ℕ) (i : LogItem) (s : State) (l : Levels) (t : State) (k : Levels) : Type 0 where
  pub entry : Entry
  pub is_entry : IsItemEntry text i s entry
  pub room : l.active.held + parts_of entry.what ≤ MEMTABLE_PARTS
  pub state : t ≡ bare (step (s ∷ []) entry)
  pub levels : k ≡ took entry l

-- the text of an item is refused, or its parts are too many for a memtable
abbrev pub IsRefusedOver : List ℕ → LogItem → State → Contents → Type 0
IsRefusedOver text i s m =
    IsRefused text i.moment s
    ⊎ ((e : Entry) × IsItemEntry text i s e × (MEMTABLE_PARTS < m.held + parts_of e.what))

-- the text of an item isn't taken in, for this cause or for want of memory
abbrev pub TextRefuses : OpenCause → List ℕ → LogItem → State → Contents → OpenCause → Type 0
TextRefuses body text i s m cause = ((cause ≡ body) × IsRefusedOver text i s m) ⊎ (cause ≡ causes.NoMemory)

-- the item makes a state of a state, and its parts fit the active memtable and are in it
pub record TakesItem (i : LogItem) (s : State) (l : Levels) (t : State) (k : Levels) : Type 0 where
  pub then : State
  pub next : IsNext i s then
  pub room : l.active.held + parts_of next.what ≤ MEMTABLE_PARTS
  pub state : t ≡ bare then
  pub levels : k ≡ record l { active = taken next.what i.moment l.active }

-- the item behind a gate of a log can't come next in a state, at the place that is named
abbrev pub ItemRefuses : ℕ → ℕ → LogItem → State → Contents → OpenCause → Type 0
ItemRefuses n gate i s m (causes.NotThisStore file at) = (file ≡ files.Log n) × CannotFollow gate i s m at
ItemRefuses n gate i s m causes.StoreFault = ⊥
ItemRefuses n gate i s m causes.NoMemory = Unit {0}

-- ---- one log

-- items make a state of a state, and the active memtable of levels
pub record Makes (s : State) (l : Levels) (items : List LogItem) (t : State) (k : Levels) : Type 0 where
  pub then : State
  pub active : Contents
  pub replays : Replays s l.active items then active
  pub state : t ≡ bare then
  pub levels : k ≡ record l { active = active }

-- one of the items of a log can't come next, at the place that is named
abbrev pub ItemsRefuse : ℕ → List LogItem → State → OpenCause → Type 0
ItemsRefuse n items s (causes.NotThisStore file at) = (file ≡ files.Log n) × Refuses s items at
ItemsRefuse n items s causes.StoreFault = ⊥
ItemsRefuse n items s causes.NoMemory = Unit {0}

-- The bytes are a log of these items from a version on, whose closed gate stands at this place. A log that isn't there
-- has no item, and its gate will stand at its first byte.
abbrev pub EndsAt : ℕ → Option (List ℕ) → List LogItem → ℕ → Type 0
EndsAt first None items gate = (items ≡ []) × (gate ≡ 0)
EndsAt first (Some bytes) items gate = LogAt first items gate bytes

-- the items of a log, whose closed gate stands at this place, make a state of a state, and the active memtable of
-- levels
pub record MakesOf (bytes : Option (List ℕ)) (gate : ℕ) (s : State) (l : Levels) (t : State) (k : Levels) :
    Type 0 where
  pub items : List LogItem
  pub ends : EndsAt (s.version + 1) bytes items gate
  pub makes : Makes s l items t k

-- the bytes of a log that is there break off what a state may become
abbrev pub BytesBreakOff : ℕ → State → Option (List ℕ) → ℕ → Type 0
BytesBreakOff first s None at = ⊥
BytesBreakOff first s (Some bytes) at = BreaksOff first s bytes at

-- the bytes of a log break off, at the place that is named
abbrev pub LogRefuses : ℕ → Option (List ℕ) → State → OpenCause → Type 0
LogRefuses n bytes s (causes.NotThisStore file at) = (file ≡ files.Log n) × BytesBreakOff (s.version + 1) s bytes at
LogRefuses n bytes s causes.StoreFault = ⊥
LogRefuses n bytes s causes.NoMemory = Unit {0}

-- ---- both logs

-- The items of the second log make a state of the one between the logs, and the active memtable; the memtable of the
-- first log is frozen, and the state between is sealed.
pub record MakesSecond (h : Head) (bytes : Option (List ℕ)) (s : State) (l : Levels) (t : State) (k : Levels)
    (made : Replayed) : Type 0 where
  pub items : List LogItem
  pub gate : ℕ
  pub ends : EndsAt (s.version + 1) bytes items gate
  pub then : State
  pub replays : Replays s nothing_held items then k.active
  pub state : t ≡ bare then
  pub levels : k ≡ record { active = k.active; frozen = Some l.active; sets = l.sets }
  pub head : Head
  pub sealed : made.sealed ≡ Some head
  pub seals : Seals head h.first_log s
  pub log : made.log ≡ record { number = h.first_log + 1; first = s.version + 1; gate = gate; is_made = true }

-- the first log as the one that is written, with its closed gate at this place
abbrev pub first_log : Head → LogBytes → ℕ → ActiveLog
first_log h logs gate =
    record { number = h.first_log; first = h.version + 1; gate = gate; is_made = is_some logs.first }

-- The second log has no item: the first one's items make the state and the active memtable, and it is written.
pub record EndsFirst (h : Head) (logs : LogBytes) (gate : ℕ) (t : State) (k : Levels) (made : Replayed)
    (s : State) (l : Levels) : Type 0 where
  pub none : HasNoItem logs.second
  pub state : s ≡ t
  pub levels : l ≡ k
  pub unsealed : made.sealed ≡ None
  pub log : made.log ≡ first_log h logs gate

-- The second log has items, and so has the first.
pub record EndsSecond (h : Head) (logs : LogBytes) (t : State) (k : Levels) (made : Replayed) (s : State) (l : Levels)
    : Type 0 where
  pub open_gate : HasOpenGateFirst logs.second
  pub behind : t.version ≢ h.version
  pub second : MakesSecond h logs.second t k s l made

-- The items of the first log, and then those of the second, make a state and levels of those of a head.
pub record MakesState (h : Head) (logs : LogBytes) (s : State) (l : Levels) (made : Replayed) : Type 0 where
  pub valid : IsValid (catalog_of h)
  pub between : State
  pub frozen : Levels
  pub gate : ℕ
  pub first : MakesOf logs.first gate (state_of_head h []) (levels_of_head h) between frozen
  pub which : EndsFirst h logs gate between frozen made s l ⊎ EndsSecond h logs between frozen made s l

-- every image with this head and these logs breaks first at the place that is named
abbrev pub LogsRefuse : Head → LogBytes → OpenCause → Type 0
LogsRefuse h logs (causes.NotThisStore file at) =
    (image : Image) → HeadStands image h → HoldsLogs h.first_log logs image → BreaksFirst image file at
LogsRefuse h logs causes.StoreFault = ⊥
LogsRefuse h logs causes.NoMemory = Unit {0}

-- ---- what is left of the store

-- two images stand for the same states
abbrev pub StandAlike : Image → Image → Type 0
StandAlike old new = (s : State) → (Stands old s → Stands new s) × (Stands new s → Stands old s)

-- All that opening changes: which of the logs up to the second are there, how much of them is stable, which finished
-- files that the head doesn't name are there, and whether a crash may leave them. The image stands for the same states.
pub record Tidies (old new : Image) : Type 0 where
  pub rest : new ≡ record old {
    logs = new.logs;
    files = new.files;
    doubt = record old.doubt { fresh = new.doubt.fresh; gone = new.doubt.gone; removed = new.doubt.removed };
  }
  pub alike : StandAlike old new

-- two logs have the same items
abbrev pub LogsAlike : Option Log → Option Log → Type 0
LogsAlike o p =
    (first : ℕ) (items : List LogItem) → (HasItems first items o → HasItems first items p)
    × (HasItems first items p → HasItems first items o)

-- the same of the logs alone: the first one and the one above it have the items that they had, and those above stay
pub record Settling (first_log : ℕ) (old new : Image) : Type 0 where
  pub rest : new ≡ record old {
    logs = new.logs;
    doubt = record old.doubt { fresh = new.doubt.fresh; gone = new.doubt.gone };
  }
  pub first : LogsAlike (old.logs first_log) (new.logs first_log)
  pub second : LogsAlike (old.logs (first_log + 1)) (new.logs (first_log + 1))
  pub others : (n : ℕ) → first_log + 1 < n → new.logs n ≡ old.logs n

-- a log that isn't there has no item, nor has one with a closed gate at its first byte
abbrev pub IsEmptyLog : Option Log → Type 0
IsEmptyLog o = HasNoItem (option_map (λ (log : Log). log.bytes) o)

-- the first log and the one above it, where they are there, are made stable
abbrev pub synced : ℕ → Image → Image
synced first_log image = with_log (first_log + 1) after_sync (with_log first_log after_sync image)

-- whether the second log is to go: it is there, and the first one is written
abbrev pub drops_second : ℕ → LogBytes → ActiveLog → Bool
drops_second first_log logs active = is_some logs.second && (active.number == first_log)

-- the log before the first one is taken away, and the second one too, where it is to go
abbrev pub dropped : ℕ → Bool → Image → Image
dropped first_log false image = after_log_drop (first_log - 1) image
dropped first_log true image = after_log_drop (first_log + 1) (after_log_drop (first_log - 1) image)

-- some finished files that aren't among these are gone, or may be gone after a crash
pub record Sweeps (named : List ℕ) (old new : Image) : Type 0 where
  pub rest : new ≡ record old {
    files = new.files;
    doubt = record old.doubt { removed = new.doubt.removed };
  }
  pub kept : (n : ℕ) → lists n named ≡ true → new.files n ≡ old.files n

-- all finished files that aren't among these are gone
pub record Swept (named : List ℕ) (old new : Image) : Type 0 where
  pub sweeps : Sweeps named old new
  pub gone : (n : ℕ) → lists n named ≡ false → new.files n ≡ None

-- the image is settled by what was read of it, where this log is written
abbrev pub SettlesBy : Said → ActiveLog → Image → Image → Type 0
SettlesBy said active old new =
    Swept said.named
    (dropped said.head.first_log (drops_second said.head.first_log said.logs active)
    (synced said.head.first_log old)) new

-- The first two logs are stable, the log before them is gone, and so is the second one where that is said; and all
-- finished files that the head doesn't name are gone.
pub record Settles (old new : Image) : Type 0 where
  pub head : Head
  pub stands : HeadStands old head
  pub drops : Bool
  pub swept : Swept (all_files head.sets) (dropped head.first_log drops (synced head.first_log old)) new

-- ---- what was opened

-- The states that a store may have been opened as: where it tells its image, the one that this stands for; else each
-- that is the core's but for its rows.
abbrev pub OpensAs : Option Image → State → State → Type 0
OpensAs None s b = facts s ≡ facts b
OpensAs (Some image) s b = Stands image b

-- the state and the levels are those of a state, for which the store stands, where it tells its image
pub record OpenedAs (told : Option Image) (s : State) (l : Levels) (b : State) : Type 0 where
  pub facts_are : facts s ≡ facts b
  pub rows : IfSome told (λ image. HoldRows image.files b l)
  pub stands : IfSome told (λ image. Stands image b)

-- What holds of what was opened: what is true of every state over its levels and its store, and that it is what the
-- store stood for.
pub record IsOpened (old new : Option Image) (o : Opened) : Type 0 where
  pub stored : IsStored new o.tables.state o.levels o.committed o.sealed o.log
  pub moment : o.tables.state.moment ≤ LAST_TIMESTAMP
  pub rows : o.tables.state.rows ≡ []
  pub halt : o.tables.state.halt ≡ None
  pub held : All (λ (m : Contents). m.held ≤ MEMTABLE_PARTS) (memtables_of o.levels)
  pub opened_as : (b : State) → OpensAs old o.tables.state b → OpenedAs new o.tables.state o.levels b
  pub whole : IfSome old BreaksNowhere
  pub settles : Along Settles old new
