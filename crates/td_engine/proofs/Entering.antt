-- From what becomes of the parts of a core to what its submit answers, and to what is true of every core.
use Rattle.std.proofs.Common.{◌≡◌, ℕ, ◌+◌, ◌<◌, ◌≤◌, List, [], ◌∷◌, Option, Some, None, refl, sym, ap, subst, ◌∙◌, arith}
use Rattle.std.specs.Prelude.{Result, Ok, Err, IfOk, OnErr}
use Rattle.std.proofs.lemmas.List.Elements.{All-head}
use Rattle.td_limits.specs.declared.limits.TheConstants.{LAST_TIMESTAMP, MEMTABLE_PARTS}
use Rattle.td_fileset.specs.Layered.{listed}
use Rattle.td_manifest.specs.declared.head.Head.{Head}
use Rattle.td_model.specs.declared.history.What.{What}
use Rattle.td_model.specs.declared.history.Entry.{Entry}
use Rattle.td_model.specs.declared.history.Verdict.TheVariants.{Accept}
use Rattle.td_model.specs.declared.language.Stmt.{Stmt}
use Rattle.td_model.specs.declared.report.JournalLine.{JournalLine}
use Rattle.td_model.specs.Catalog.{Catalog}
use Rattle.td_model.specs.State.{State, step}
use Rattle.td_model.proofs.Steps.{step_moment}
use Rattle.td_outside.specs.Image.{Image}
use Rattle.td_outside.specs.Causes.{Reads}
use Rattle.td_parse.specs.Statements.{IsAnswer}
use Rattle.td_told.specs.Journal.{halt_at}
use Rattle.td_told.specs.Turn.{entry_at}
use Rattle.td_told.specs.Verdict.{verdict}
use Rattle.td_verdict.specs.Valid.{IsValid}
use Rattle.td_wal.specs.declared.item.LogItem.{LogItem}
use Rattle.td_levels.specs.Fits.{FitsMemtable, FitsLevels}
use Rattle.td_levels.specs.Levels.{Levels}
use Rattle.td_levels.specs.Taken.{parts_of}
use Rattle.td_state.specs.Held.{bare, CanTake}
use Rattle.td_active.specs.declared.active_log.ActiveLog.{ActiveLog}
use Rattle.td_active.specs.Stored.{IsStored}
use Rattle.td_active.specs.Standing.{KeepsStanding, StandsAfter}
use Rattle.td_active.specs.Carried.{text_item, carried, Records, Leaves, Reaches}
use Rattle.td_engine.specs.declared.kept.Flight.{Flight}
use Rattle.td_engine.specs.declared.submit.Submitted.{Submitted}
use Rattle.td_engine.specs.declared.submit.Submitted.TheVariants as submitted
use Rattle.td_engine.specs.CoreState.{CoreState, frozen_at, IsKept}
use Rattle.td_engine.specs.Submits.{TakesMoment, KeepsCommitted, KeepsHistory, Accepts, Halts, Refuses, IsFull, Answers, Lacks, Submits}
use Rattle.td_engine.specs.Carrying.{Parts, TakesIn, Stops, Stays, CarriesOut}
use Rattle.td_engine.proofs.Keeping.{Comes, entry_comes, stored_taken, stored_halted, stored_staying}
use Rattle.td_engine.proofs.Images.{along, still_stands}

-- ---- what writing asks

pub active_fits : (c : Catalog) (l : Levels) → FitsLevels c l → FitsMemtable c l.active
active_fits c l fits = All-head (FitsMemtable c) l.active (listed l.frozen) fits.memtables

pub ready_records : (item : LogItem) (t s : State) (l : Levels) (entry : Entry) (session ordinal moment : ℕ) (text : List ℕ) (q : Stmt) (w : What) (rows : ℕ) → item ≡ text_item (s.version + 1) session ordinal moment text → t ≡ s → entry ≡ entry_at session ordinal moment w → s.moment ≤ moment
    → IsAnswer text q → Accept w rows ≡ verdict q s [] moment → l.active.held + parts_of w ≤ MEMTABLE_PARTS → Records item t l entry
ready_records item t s l entry session ordinal moment text q w rows is same entry_is since parsed accepted room =
    let base : Records (text_item (s.version + 1) session ordinal moment text) s l (entry_at session ordinal moment w) = record {
      text = text;
      stmt = q;
      rows = rows;
      body = refl;
      parsed = parsed;
      version = refl;
      moment = since;
      accepted = sym accepted;
      entry = refl;
      room = room;
    } in
    subst (λ (x : LogItem). Records x t l entry) (sym is)
    (subst (λ (x : Entry). Records (text_item (s.version + 1) session ordinal moment text) t l x) (sym entry_is)
    (subst (λ (x : State). Records (text_item (s.version + 1) session ordinal moment text) x l (entry_at session ordinal moment w)) (sym same) base))

-- ---- what a core is, by its parts

-- what a core keeps beside its parts
pub record Rest : Type 0 where
  pub committed : ℕ
  pub sealed : Option Head
  pub flight : Option Flight
  pub pins : ℕ → ℕ
  pub base : ℕ
  pub floor : ℕ
  pub readings : Option (List ℕ)

abbrev pub core_of : Parts → Rest → CoreState
core_of p x =
    record {
      state = p.state;
      levels = p.levels;
      committed = x.committed;
      frozen_at = frozen_at x.sealed;
      flight = x.flight;
      pins = x.pins;
      base = x.base;
      journal = p.journal;
      floor = x.floor;
      log = p.place;
      told = p.told;
      count = p.count;
      readings = x.readings;
    }

-- the parts, with another state and other lines
abbrev pub with_history : Parts → State → List JournalLine → Parts
with_history p s lines = record p { state = s; journal = lines }

rest_kept : (p r : Parts) (x : Rest) → KeepsCommitted (core_of p x) (core_of r x)
rest_kept p r x = record { committed = refl; frozen_at = refl; flight = refl; pins = refl; base = refl }

-- ---- what ran

-- an entry was carried out from parts, whose state and lines are these: it is what a statement is accepted as there
pub record Ran
    (old : Parts) (s : State) (lines : List JournalLine) (session ordinal moment : ℕ) (text : List ℕ) (q : Stmt) (w : What) (rows given : ℕ) (e : Entry)
    : Type 0 where
  pub same : old.state ≡ s
  pub told : old.journal ≡ lines
  pub entry : e ≡ entry_at session ordinal moment w
  pub count : given ≡ rows
  pub comes : Comes s old.levels session ordinal moment text q w rows

pub ran_from : (old : Parts) (s : State) (lines : List JournalLine) (session ordinal moment : ℕ) (text : List ℕ) (q : Stmt) (w : What) (rows given : ℕ) (e : Entry) → old.state ≡ s → old.journal ≡ lines → e ≡ entry_at session ordinal moment w → given ≡ rows → IsValid s.catalog → IsAnswer text q
    → Accept w rows ≡ verdict q s [] moment → CanTake w s → moment ≤ LAST_TIMESTAMP → old.levels.active.held + parts_of w ≤ MEMTABLE_PARTS → Ran old s lines session ordinal moment text q w rows given e
ran_from old s lines session ordinal moment text q w rows given e same told entry count valid parsed accepted takes last room = record {
  same = same;
  told = told;
  entry = entry;
  count = count;
  comes = record { valid = valid; parsed = parsed; accepted = sym accepted; takes = takes; last = last; room = room };
}

-- ---- what is answered

answers_own : (old new : Parts) (x : Rest) (session ordinal moment : ℕ) (text : List ℕ) (q : Stmt) (w : What) (rows : ℕ) (result : Submitted) → Comes old.state old.levels session ordinal moment text q w rows
    → CarriesOut old new x.committed x.sealed (entry_at session ordinal moment w) moment rows result → Answers (core_of old x) (core_of new x) session ordinal moment q result
answers_own old new x session ordinal moment text q w rows (submitted.Accepted version given edge) c r =
    let e = entry_at session ordinal moment w in
    let t : TakesIn old new x.committed x.sealed e rows version given edge = r in
    record {
      entered = w;
      accepted = c.accepted ∙ ap (λ (n : ℕ). Accept w n) (sym t.rows_are);
      version_is = t.version_is;
      edge_is = t.edge_is;
      comes = entry_comes old.state old.levels session ordinal moment text q w rows c;
      state = t.state;
      levels = t.levels;
      committed = rest_kept old new x;
      journal = t.journal;
      image = along (Reaches new.place (carried old.state old.levels x.committed x.sealed) e) (StandsAfter old.state.version e) old.told new.told (λ a b reaches. reaches.after) t.image;
      count = t.count;
    }
answers_own old new x session ordinal moment text q w rows (submitted.StoreFault halt) c r =
    let t : Stops old new (entry_at session ordinal moment w) moment halt = r in
    record {
      tried = w;
      rows = rows;
      accepted = c.accepted;
      room = c.room;
      version_is = t.version_is;
      state = t.state;
      levels = t.levels;
      committed = rest_kept old new x;
      journal = t.journal;
      image = t.image;
      cause = t.cause;
    }
answers_own old new x session ordinal moment text q w rows (submitted.Refused cause prefix) c r = absurd r
answers_own old new x session ordinal moment text q w rows (submitted.Full held) c r = absurd r
answers_own old new x session ordinal moment text q w rows submitted.NoMemory c r = absurd r

-- what is carried out is what a submit answers
answers_after : (old new : Parts) (s : State) (lines : List JournalLine) (x : Rest) (session ordinal moment : ℕ) (text : List ℕ) (q : Stmt) (w : What) (rows given : ℕ) (e : Entry) (result : Submitted) → Ran old s lines session ordinal moment text q w rows given e
    → CarriesOut old new x.committed x.sealed e moment given result → Answers (core_of (with_history old s lines) x) (core_of new x) session ordinal moment q result
answers_after old new s lines x session ordinal moment text q w rows given e result ran r =
    let here : Comes old.state old.levels session ordinal moment text q w rows = subst (λ (y : State). Comes y old.levels session ordinal moment text q w rows) (sym ran.same) ran.comes in
    let carried_out : CarriesOut old new x.committed x.sealed (entry_at session ordinal moment w) moment rows result =
    subst (λ (y : Entry). CarriesOut old new x.committed x.sealed y moment rows result) ran.entry (subst (λ (n : ℕ). CarriesOut old new x.committed x.sealed e moment n result) ran.count r) in
    subst (λ (l : List JournalLine). Answers (core_of (with_history old s l) x) (core_of new x) session ordinal moment q result) ran.told
    (subst (λ (y : State). Answers (core_of (with_history old y old.journal) x) (core_of new x) session ordinal moment q result) ran.same
    (answers_own old new x session ordinal moment text q w rows result here carried_out))

pub answers_if : {E : Type 0} (r : Result Submitted E) (old new : Parts) (s : State) (lines : List JournalLine) (x : Rest) (session ordinal moment : ℕ) (text : List ℕ) (q : Stmt) (w : What) (rows given : ℕ) (e : Entry) → Ran old s lines session ordinal moment text q w rows given e
    → IfOk r (CarriesOut old new x.committed x.sealed e moment given) → IfOk r (Answers (core_of (with_history old s lines) x) (core_of new x) session ordinal moment q)
answers_if (Ok result) old new s lines x session ordinal moment text q w rows given e ran r = answers_after old new s lines x session ordinal moment text q w rows given e result ran r
answers_if (Err fault) old new s lines x session ordinal moment text q w rows given e ran r = tt

-- the statement is accepted, but there is no room for its parts
pub full_now : (c : CoreState) (moment : ℕ) (q : Stmt) (w : What) (rows held : ℕ) → Accept w rows ≡ verdict q c.state [] moment → held ≡ c.levels.active.held → MEMTABLE_PARTS < held + parts_of w → IsFull c c moment q held
full_now c moment q w rows held accepted is full = record {
  wanted = w;
  rows = rows;
  accepted = sym accepted;
  held_is = is;
  full = full;
  keeps = record { state = refl; levels = refl; journal = refl; committed = record { committed = refl; frozen_at = refl; flight = refl; pins = refl; base = refl } };
  log = refl;
  told = refl;
  count = refl;
}

lacks_own : (old new : Parts) (x : Rest) → old.state.halt ≡ None → Stays old new x.committed x.sealed → Lacks (core_of old x) (core_of new x)
lacks_own old new x going t = record {
  keeps = record { state = t.state; levels = t.levels; journal = t.journal; committed = rest_kept old new x };
  log = t.place;
  image = along (Leaves new.place (carried old.state old.levels x.committed x.sealed)) (KeepsStanding old.state.version) old.told new.told (λ a b leaves. leaves.keeps) t.image;
  halted = λ halted. absurd (halted going);
  count = t.count;
}

lacks_after : (old new : Parts) (s : State) (lines : List JournalLine) (x : Rest) → s.halt ≡ None → old.state ≡ s → old.journal ≡ lines → Stays old new x.committed x.sealed → Lacks (core_of (with_history old s lines) x) (core_of new x)
lacks_after old new s lines x going same told t =
    let here : old.state.halt ≡ None = ap (λ (y : State). y.halt) same ∙ going in
    subst (λ (l : List JournalLine). Lacks (core_of (with_history old s l) x) (core_of new x)) told
    (subst (λ (y : State). Lacks (core_of (with_history old y old.journal) x) (core_of new x)) same (lacks_own old new x here t))

pub lacks_if : {E : Type 0} (r : Result Submitted E) (old new : Parts) (s : State) (lines : List JournalLine) (x : Rest) → s.halt ≡ None → old.state ≡ s → old.journal ≡ lines → OnErr r (Stays old new x.committed x.sealed)
    → OnErr r (Lacks (core_of (with_history old s lines) x) (core_of new x))
lacks_if (Ok result) old new s lines x going same told t = tt
lacks_if (Err fault) old new s lines x going same told t = lacks_after old new s lines x going same told t

pub on_err : {T E : Type 0} (r : Result T E) (P : Type 0) → P → OnErr r P
on_err (Ok x) P p = tt
on_err (Err fault) P p = p

-- nothing was written, and the history is as it was
pub lacks_still : (p : Parts) (t : State) (l : List JournalLine) (x : Rest) → t ≡ p.state → l ≡ p.journal → Lacks (core_of p x) (core_of (with_history p t l) x)
lacks_still p t l x same told = record {
  keeps = record { state = same; levels = refl; journal = told; committed = rest_kept p (with_history p t l) x };
  log = refl;
  image = still_stands p.state.version p.told;
  halted = λ halted. refl;
  count = refl;
}

-- ---- what is true of every core

-- the state is the same, and the room isn't less
pub kept_still : (told : Option Image) (s t : State) (l : Levels) (committed : ℕ) (sealed : Option Head) (place : ActiveLog) (floor spare more : ℕ) → t ≡ s → spare ≤ more → IsKept told s l committed sealed place floor spare → IsKept told t l committed sealed place floor more
kept_still told s t l committed sealed place floor spare more same le k =
    subst (λ (x : State). IsKept told x l committed sealed place floor more) (sym same)
    (record { since = k.since; last = k.last; stored = k.stored; room = λ going. omega (arith, le, k.room going) })

some_none : (n : ℕ) → Some n ≡ None → ⊥
some_none n e = cc

kept_taken : (old new : Parts) (x : Rest) (session ordinal moment : ℕ) (text : List ℕ) (q : Stmt) (w : What) (rows version given edge : ℕ) → Comes old.state old.levels session ordinal moment text q w rows → moment ≡ x.floor → x.floor ≤ LAST_TIMESTAMP
    → IsStored old.told old.state old.levels x.committed x.sealed old.place → TakesIn old new x.committed x.sealed (entry_at session ordinal moment w) rows version given edge → IsKept new.told new.state new.levels x.committed x.sealed new.place x.floor new.spare
kept_taken old new x session ordinal moment text q w rows version given edge c is last k t =
    let e = entry_at session ordinal moment w in
    let stored = stored_taken old.told new.told old.state old.levels x.committed x.sealed old.place new.place session ordinal moment text q w rows c t.number t.image k in
    record {
      since = omega (arith, ap (λ (y : State). y.moment) t.state, step_moment (old.state ∷ []) e, is);
      last = last;
      stored = subst (λ (y : State). IsStored new.told y new.levels x.committed x.sealed new.place) (sym t.state) (subst (λ (y : Levels). IsStored new.told (bare (step (old.state ∷ []) e)) y x.committed x.sealed new.place) (sym t.levels) stored);
      room = λ going. t.room;
    }

kept_stopped : (old new : Parts) (x : Rest) (e : Entry) (moment halt : ℕ) → moment ≡ x.floor → x.floor ≤ LAST_TIMESTAMP → IsStored old.told old.state old.levels x.committed x.sealed old.place → Stops old new e moment halt → IsKept new.told new.state new.levels x.committed x.sealed new.place x.floor new.spare
kept_stopped old new x e moment halt is last k t =
    let stored = stored_halted old.told new.told old.state old.levels x.committed x.sealed old.place new.place e moment t.number t.image k in
    let stopped : new.state.halt ≡ Some (old.state.version + 1) = ap (λ (y : State). y.halt) t.state in
    record {
      since = omega (arith, ap (λ (y : State). y.moment) t.state, is);
      last = last;
      stored = subst (λ (y : State). IsStored new.told y new.levels x.committed x.sealed new.place) (sym t.state) (subst (λ (y : Levels). IsStored new.told (bare (step (old.state ∷ []) (halt_at moment))) y x.committed x.sealed new.place) (sym t.levels) stored);
      room = λ going. absurd (some_none (old.state.version + 1) (sym stopped ∙ going));
    }

kept_after : (old new : Parts) (x : Rest) (session ordinal moment : ℕ) (text : List ℕ) (q : Stmt) (w : What) (rows : ℕ) (result : Submitted) → Comes old.state old.levels session ordinal moment text q w rows → moment ≡ x.floor → x.floor ≤ LAST_TIMESTAMP
    → IsStored old.told old.state old.levels x.committed x.sealed old.place → CarriesOut old new x.committed x.sealed (entry_at session ordinal moment w) moment rows result → IsKept new.told new.state new.levels x.committed x.sealed new.place x.floor new.spare
kept_after old new x session ordinal moment text q w rows (submitted.Accepted version given edge) c is last k r = kept_taken old new x session ordinal moment text q w rows version given edge c is last k r
kept_after old new x session ordinal moment text q w rows (submitted.StoreFault halt) c is last k r = kept_stopped old new x (entry_at session ordinal moment w) moment halt is last k r
kept_after old new x session ordinal moment text q w rows (submitted.Refused cause prefix) c is last k r = absurd r
kept_after old new x session ordinal moment text q w rows (submitted.Full held) c is last k r = absurd r
kept_after old new x session ordinal moment text q w rows submitted.NoMemory c is last k r = absurd r

kept_staying : (old new : Parts) (x : Rest) (spare : ℕ) → spare ≤ old.spare → IsKept old.told old.state old.levels x.committed x.sealed old.place x.floor spare → Stays old new x.committed x.sealed → IsKept new.told new.state new.levels x.committed x.sealed new.place x.floor new.spare
kept_staying old new x spare le k t =
    let stored = stored_staying old.told new.told old.state old.levels x.committed x.sealed old.place new.place (ap (λ (y : ActiveLog). y.number) t.place) t.image k.stored in
    record {
      since = omega (arith, ap (λ (y : State). y.moment) t.state, k.since);
      last = k.last;
      stored = subst (λ (y : State). IsStored new.told y new.levels x.committed x.sealed new.place) (sym t.state) (subst (λ (y : Levels). IsStored new.told old.state y x.committed x.sealed new.place) (sym t.levels) stored);
      room = λ going. omega (arith, k.room (ap (λ (y : State). y.halt) (sym t.state) ∙ going), le, t.room);
    }

pub kept_if : {E : Type 0} (r : Result Submitted E) (old new : Parts) (s : State) (lines : List JournalLine) (x : Rest) (spare session ordinal moment : ℕ) (text : List ℕ) (q : Stmt) (w : What) (rows given : ℕ) (e : Entry) → Ran old s lines session ordinal moment text q w rows given e → spare ≤ old.spare
    → moment ≡ x.floor → IsKept old.told s old.levels x.committed x.sealed old.place x.floor spare → IfOk r (CarriesOut old new x.committed x.sealed e moment given) → OnErr r (Stays old new x.committed x.sealed) → IsKept new.told new.state new.levels x.committed x.sealed new.place x.floor new.spare
kept_if (Ok result) old new s lines x spare session ordinal moment text q w rows given e ran le is k r t =
    let here : Comes old.state old.levels session ordinal moment text q w rows = subst (λ (y : State). Comes y old.levels session ordinal moment text q w rows) (sym ran.same) ran.comes in
    let stored : IsStored old.told old.state old.levels x.committed x.sealed old.place = subst (λ (y : State). IsStored old.told y old.levels x.committed x.sealed old.place) (sym ran.same) k.stored in
    kept_after old new x session ordinal moment text q w rows result here is k.last stored
    (subst (λ (y : Entry). CarriesOut old new x.committed x.sealed y moment rows result) ran.entry (subst (λ (n : ℕ). CarriesOut old new x.committed x.sealed e moment n result) ran.count r))
kept_if (Err fault) old new s lines x spare session ordinal moment text q w rows given e ran le is k r t =
    kept_staying old new x spare le (subst (λ (y : State). IsKept old.told y old.levels x.committed x.sealed old.place x.floor spare) (sym ran.same) k) t

-- ---- the moment, and then the rest

committed_then : (old new : CoreState) (floor : ℕ) (readings : Option (List ℕ)) → KeepsCommitted (record old { floor = floor; readings = readings }) new → KeepsCommitted old new
committed_then old new floor readings k = record { committed = k.committed; frozen_at = k.frozen_at; flight = k.flight; pins = k.pins; base = k.base }

history_then : (old new : CoreState) (floor : ℕ) (readings : Option (List ℕ)) → KeepsHistory (record old { floor = floor; readings = readings }) new → KeepsHistory old new
history_then old new floor readings k = record { state = k.state; levels = k.levels; journal = k.journal; committed = committed_then old new floor readings k.committed }

moved : (old new : CoreState) (floor : ℕ) (readings : Option (List ℕ)) (session ordinal moment : ℕ) (q : Stmt) (result : Submitted) → Answers (record old { floor = floor; readings = readings }) new session ordinal moment q result → Answers old new session ordinal moment q result
moved old new floor readings session ordinal moment q (submitted.Accepted version rows edge) r =
    let a : Accepts (record old { floor = floor; readings = readings }) new session ordinal moment q version rows edge = r in
    record {
      entered = a.entered;
      accepted = a.accepted;
      version_is = a.version_is;
      edge_is = a.edge_is;
      comes = a.comes;
      state = a.state;
      levels = a.levels;
      committed = committed_then old new floor readings a.committed;
      journal = a.journal;
      image = a.image;
      count = a.count;
    }
moved old new floor readings session ordinal moment q (submitted.StoreFault halt) r =
    let a : Halts (record old { floor = floor; readings = readings }) new session ordinal moment q halt = r in
    record {
      tried = a.tried;
      rows = a.rows;
      accepted = a.accepted;
      room = a.room;
      version_is = a.version_is;
      state = a.state;
      levels = a.levels;
      committed = committed_then old new floor readings a.committed;
      journal = a.journal;
      image = a.image;
      cause = a.cause;
    }
moved old new floor readings session ordinal moment q (submitted.Refused cause prefix) r =
    let a : Refuses (record old { floor = floor; readings = readings }) new moment q cause prefix = r in
    record { refused = a.refused; prefix_is = a.prefix_is; keeps = history_then old new floor readings a.keeps; log = a.log; told = a.told; count = a.count }
moved old new floor readings session ordinal moment q (submitted.Full held) r =
    let a : IsFull (record old { floor = floor; readings = readings }) new moment q held = r in
    record { wanted = a.wanted; rows = a.rows; accepted = a.accepted; held_is = a.held_is; full = a.full; keeps = history_then old new floor readings a.keeps; log = a.log; told = a.told; count = a.count }
moved old new floor readings session ordinal moment q submitted.NoMemory r =
    let a : Lacks (record old { floor = floor; readings = readings }) new = r in
    record { keeps = history_then old new floor readings a.keeps; log = a.log; image = a.image; halted = a.halted; count = a.count }

pub submits_from : (old mid new : CoreState) (floor : ℕ) (readings : Option (List ℕ)) (session ordinal moment : ℕ) (q : Stmt) (result : Submitted) → mid ≡ record old { floor = floor; readings = readings } → TakesMoment old mid → moment ≡ mid.floor → new.floor ≡ mid.floor
    → new.readings ≡ mid.readings → Answers mid new session ordinal moment q result → Submits old new session ordinal q result
submits_from old mid new floor readings session ordinal moment q result rest takes is kept clock answers =
    let own = subst (λ (c : CoreState). Answers c new session ordinal moment q result) rest answers in
    record {
      takes = record { now = takes.now; reads = subst (λ (o : Option (List ℕ)). Reads old.readings o takes.now) (sym clock) takes.reads; floor = kept ∙ takes.floor; since = omega (arith, kept, takes.since); last = omega (arith, kept, takes.last) };
      answers = subst (λ (m : ℕ). Answers old new session ordinal m q result) (is ∙ sym kept) (moved old new floor readings session ordinal moment q result own);
    }
