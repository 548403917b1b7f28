-- From what becomes of the parts of a core to what its submit answers, and to what is true of every core.
use Rattle.std.proofs.Common.{◌≡◌, ℕ, ◌+◌, ◌^◌, ◌<◌, ◌≤◌, Bool, true, List, [], ◌∷◌, ◌++◌, length, Option, Some, None, refl, sym, ap, subst, ◌∙◌, arith}
use Rattle.std.specs.Prelude.{IfSome, Result, Ok, Err, IfOk, OnErr}
use Rattle.td_limits.specs.declared.limits.TheConstants.{LAST_VERSION, LAST_TIMESTAMP, SESSIONS}
use Rattle.td_model.specs.declared.history.What.{What}
use Rattle.td_model.specs.declared.history.Entry.{Entry}
use Rattle.td_model.specs.declared.history.Verdict.TheVariants.{Accept}
use Rattle.td_model.specs.declared.language.Stmt.{Stmt}
use Rattle.td_model.specs.declared.report.JournalLine.{JournalLine}
use Rattle.td_model.specs.State.{State, step}
use Rattle.td_model.proofs.Steps.{step_moment}
use Rattle.td_outside.specs.Image.{Image, Along}
use Rattle.td_outside.specs.Causes.{Reads}
use Rattle.td_parse.specs.Statements.{IsAnswer}
use Rattle.td_told.specs.Journal.{halt_at}
use Rattle.td_told.specs.Turn.{entry_at, line_at}
use Rattle.td_told.specs.Verdict.{verdict}
use Rattle.td_wal.specs.declared.item.LogItem.{LogItem}
use Rattle.td_wal.specs.Items.{body_bytes}
use Rattle.td_wal.specs.Append.{IsWritable, next_gate}
use Rattle.td_wal.proofs.WritingLaws.{next_gate_is}
use Rattle.td_core.specs.declared.submit.Submitted.{Submitted}
use Rattle.td_core.specs.declared.submit.Submitted.TheVariants as submitted
use Rattle.td_core.specs.Replay.{IsNext}
use Rattle.td_core.specs.CoreState.{CoreState, Layers, LogPlace, IsActive, IsMade, IsKept}
use Rattle.td_core.specs.Submits.{TakesMoment, KeepsStanding, StandsFor, StandsForEither, IsComposed, Accepts, Halts, Refuses, Answers, Lacks, Submits}
use Rattle.td_core.specs.Writing.{text_item, Carries, Leaves, Reaches}
use Rattle.td_core.specs.Carrying.{Parts, TakesIn, Stops, Stays, CarriesOut}
use Rattle.td_core.proofs.Standing.{active_stands}
use Rattle.td_core.proofs.Written.{short_text, text_writable, text_next}

-- ---- what writing asks

pub carried : (told : Option Image) (place : LogPlace) (made : Bool) (s : State) → IfSome told (λ image. IsActive image place s) → IfSome told (IsMade place made) → IfSome told (Carries place made s)
carried None place made s active there = tt
carried (Some image) place made s active there = record { active = active; there = there }

pub ready_writable : (item : LogItem) (session ordinal moment : ℕ) (text : List ℕ) (q : Stmt) (s : State) (w : What) (rows : ℕ) → item ≡ text_item (s.version + 1) session ordinal moment text → s.version < LAST_VERSION → moment ≤ LAST_TIMESTAMP → session ≤ SESSIONS
    → ordinal < 2 ^ 32 → IsAnswer text q → Accept w rows ≡ verdict q s [] moment → IsWritable item
ready_writable item session ordinal moment text q s w rows is version last most few parsed accepted =
    subst IsWritable (sym is) (text_writable (s.version + 1) session ordinal moment text (omega arith) (omega (arith, version)) last most few (short_text text q s moment w rows parsed (sym accepted)))

pub ready_place : (gate : ℕ) (item : LogItem) (version session ordinal moment : ℕ) (text : List ℕ) → item ≡ text_item version session ordinal moment text → gate + 30 + length text < 2 ^ 64 → next_gate gate item < 2 ^ 64
unfolding body_bytes
ready_place gate item version session ordinal moment text is place =
    let size : next_gate gate (text_item version session ordinal moment text) ≡ gate + 30 + length text = next_gate_is gate (text_item version session ordinal moment text) in
    subst (λ (i : LogItem). next_gate gate i < 2 ^ 64) (sym is) (subst (λ (n : ℕ). n < 2 ^ 64) (sym size) place)

pub ready_next : (item : LogItem) (t s : State) (entry : Entry) (session ordinal moment : ℕ) (text : List ℕ) (q : Stmt) (w : What) (rows : ℕ) → item ≡ text_item (s.version + 1) session ordinal moment text → t ≡ s → entry ≡ entry_at session ordinal moment w → s.moment ≤ moment → IsAnswer text q
    → Accept w rows ≡ verdict q s [] moment → IsNext item t (step (t ∷ []) entry)
ready_next item t s entry session ordinal moment text q w rows is same entry_is since parsed accepted =
    let i = text_item (s.version + 1) session ordinal moment text in
    let e = entry_at session ordinal moment w in
    let base : IsNext i s (step (s ∷ []) e) = text_next (s.version + 1) session ordinal moment text q w rows s refl since parsed (sym accepted) in
    subst (λ (x : LogItem). IsNext x t (step (t ∷ []) entry)) (sym is)
    (subst (λ (x : Entry). IsNext i t (step (t ∷ []) x)) (sym entry_is) (subst (λ (x : State). IsNext i x (step (x ∷ []) e)) (sym same) base))

-- ---- what a core is, by its parts

abbrev pub core_of : Parts → ℕ → ℕ → Option (List ℕ) → CoreState
core_of p base floor readings =
    record {
      state = p.state;
      layers = record { rows = p.state.rows };
      base = base;
      journal = p.journal;
      floor = floor;
      log = p.place;
      told = p.told;
      count = p.count;
      readings = readings;
    }

-- the parts, with another state and other lines
abbrev pub with_history : Parts → State → List JournalLine → Parts
with_history p s lines = record p { state = s; journal = lines }

now_stands : (place : LogPlace) (s : State) (old new : Option Image) → Along (Reaches place s) old new → Along (StandsFor s) old new
now_stands place s None None r = tt
now_stands place s (Some a) (Some b) r = active_stands b place s r.active
now_stands place s None (Some b) r = absurd r
now_stands place s (Some a) None r = absurd r

still_stands : (place : LogPlace) (made : Bool) (s : State) (old new : Option Image) → Along (Leaves place made s) old new → Along KeepsStanding old new
still_stands place made s None None l = tt
still_stands place made s (Some a) (Some b) l = l.keeps
still_stands place made s None (Some b) l = absurd l
still_stands place made s (Some a) None l = absurd l

answers_own : (old new : Parts) (base floor : ℕ) (readings : Option (List ℕ)) (session ordinal moment : ℕ) (q : Stmt) (w : What) (rows : ℕ) (e : Entry) (result : Submitted) → e ≡ entry_at session ordinal moment w → verdict q old.state [] moment ≡ Accept w rows
    → CarriesOut old new e moment rows result → Answers (core_of old base floor readings) (core_of new base floor readings) session ordinal moment q result
answers_own old new base floor readings session ordinal moment q w rows e (submitted.Accepted version given edge) is accepted r =
    let t : TakesIn old new e rows version given edge = r in
    record {
      entered = w;
      accepted = accepted ∙ ap (λ (n : ℕ). Accept w n) (sym t.rows_are);
      version_is = t.version_is;
      edge_is = t.edge_is;
      state = t.state ∙ ap (λ (x : Entry). step (old.state ∷ []) x) is;
      layers = refl;
      base = refl;
      journal = t.journal ∙ ap (λ (x : Entry). old.journal ++ line_at version x.session x.ordinal x.moment ∷ []) is;
      image = now_stands new.place new.state old.told new.told t.image;
      count = t.count;
    }
answers_own old new base floor readings session ordinal moment q w rows e (submitted.StoreFault halt) is accepted r =
    let t : Stops old new e moment halt = r in
    record {
      tried = w;
      rows = rows;
      accepted = accepted;
      version_is = t.version_is;
      state = t.state;
      layers = refl;
      base = refl;
      journal = t.journal;
      image = subst (λ (x : Entry). Along (StandsForEither old.state (step (old.state ∷ []) x)) old.told new.told) is t.image;
      cause = t.cause;
    }
answers_own old new base floor readings session ordinal moment q w rows e (submitted.Refused cause prefix) is accepted r = absurd r
answers_own old new base floor readings session ordinal moment q w rows e (submitted.Full held) is accepted r = absurd r
answers_own old new base floor readings session ordinal moment q w rows e submitted.NoMemory is accepted r = absurd r

-- what is carried out is what a submit answers
pub answers_after : (old new : Parts) (s : State) (lines : List JournalLine) (base floor : ℕ) (readings : Option (List ℕ)) (session ordinal moment : ℕ) (q : Stmt) (w : What) (rows : ℕ) (e : Entry) (result : Submitted) → old.state ≡ s → old.journal ≡ lines → e ≡ entry_at session ordinal moment w
    → Accept w rows ≡ verdict q s [] moment → CarriesOut old new e moment rows result → Answers (core_of (with_history old s lines) base floor readings) (core_of new base floor readings) session ordinal moment q result
answers_after old new s lines base floor readings session ordinal moment q w rows e result same told is accepted r =
    let here : verdict q old.state [] moment ≡ Accept w rows = ap (λ (x : State). verdict q x [] moment) same ∙ sym accepted in
    let own = answers_own old new base floor readings session ordinal moment q w rows e result is here r in
    subst (λ (l : List JournalLine). Answers (core_of (with_history old s l) base floor readings) (core_of new base floor readings) session ordinal moment q result) told
    (subst (λ (x : State). Answers (core_of (with_history old x old.journal) base floor readings) (core_of new base floor readings) session ordinal moment q result) same own)

lacks_own : (old new : Parts) (base floor : ℕ) (readings : Option (List ℕ)) → Stays old new → Lacks (core_of old base floor readings) (core_of new base floor readings)
lacks_own old new base floor readings t = record {
  keeps = record { state = t.state; layers = ap (λ (x : State). let l : Layers = record { rows = x.rows } in l) t.state; base = refl; journal = t.journal };
  log = t.place;
  image = still_stands new.place new.made old.state old.told new.told t.image;
  count = t.count;
}

pub lacks_after : (old new : Parts) (s : State) (lines : List JournalLine) (base floor : ℕ) (readings : Option (List ℕ)) → old.state ≡ s → old.journal ≡ lines → Stays old new → Lacks (core_of (with_history old s lines) base floor readings) (core_of new base floor readings)
lacks_after old new s lines base floor readings same told t =
    subst (λ (l : List JournalLine). Lacks (core_of (with_history old s l) base floor readings) (core_of new base floor readings)) told
    (subst (λ (x : State). Lacks (core_of (with_history old x old.journal) base floor readings) (core_of new base floor readings)) same (lacks_own old new base floor readings t))

-- ---- what is true of every core

-- the state is the same, and the room isn't less
pub kept_still : (told : Option Image) (s t : State) (place : LogPlace) (made : Bool) (floor spare more : ℕ) → t ≡ s → spare ≤ more → IsKept told s place made floor spare → IsKept told t place made floor more
kept_still told s t place made floor spare more same le k =
    subst (λ (x : State). IsKept told x place made floor more) (sym same)
    (record { since = k.since; last = k.last; room = λ going. omega (arith, le, k.room going); active = k.active; there = k.there })

now_active : (place : LogPlace) (s : State) (old new : Option Image) → Along (Reaches place s) old new → IfSome new (λ image. IsActive image place s)
now_active place s None None r = tt
now_active place s (Some a) (Some b) r = r.active
now_active place s None (Some b) r = absurd r
now_active place s (Some a) None r = absurd r

now_there : (place : LogPlace) (s : State) (old new : Option Image) → Along (Reaches place s) old new → IfSome new (IsMade place true)
now_there place s None None r = tt
now_there place s (Some a) (Some b) r = r.there
now_there place s None (Some b) r = absurd r
now_there place s (Some a) None r = absurd r

still_active : (place : LogPlace) (made : Bool) (s : State) (old new : Option Image) → Along (Leaves place made s) old new → IfSome new (λ image. IsActive image place s)
still_active place made s None None l = tt
still_active place made s (Some a) (Some b) l = l.carries.active
still_active place made s None (Some b) l = absurd l
still_active place made s (Some a) None l = absurd l

still_there : (place : LogPlace) (made : Bool) (s : State) (old new : Option Image) → Along (Leaves place made s) old new → IfSome new (IsMade place made)
still_there place made s None None l = tt
still_there place made s (Some a) (Some b) l = l.carries.there
still_there place made s None (Some b) l = absurd l
still_there place made s (Some a) None l = absurd l

halted : (s : State) (moment : ℕ) (new : State) → new ≡ step (s ∷ []) (halt_at moment) → new.halt ≡ None → ⊥
halted s moment new is none =
    let some : Some (s.version + 1) ≡ None = ap (λ (x : State). x.halt) (sym is) ∙ none in
    absurd cc

pub kept_after : (old new : Parts) (floor moment rows : ℕ) (e : Entry) (result : Submitted) → moment ≡ floor → e.moment ≡ moment → floor ≤ LAST_TIMESTAMP → CarriesOut old new e moment rows result → IsKept new.told new.state new.place new.made floor new.spare
kept_after old new floor moment rows e (submitted.Accepted version given edge) is own last r =
    let t : TakesIn old new e rows version given edge = r in
    record {
      since = omega (arith, ap (λ (x : State). x.moment) t.state, step_moment (old.state ∷ []) e, is, own);
      last = last;
      room = λ going. t.room;
      active = λ going. now_active new.place new.state old.told new.told t.image;
      there = λ going. subst (λ (b : Bool). IfSome new.told (IsMade new.place b)) (sym t.made) (now_there new.place new.state old.told new.told t.image);
    }
kept_after old new floor moment rows e (submitted.StoreFault halt) is own last r =
    let t : Stops old new e moment halt = r in
    record {
      since = omega (arith, ap (λ (x : State). x.moment) t.state, is);
      last = last;
      room = λ going. absurd (halted old.state moment new.state t.state going);
      active = λ going. absurd (halted old.state moment new.state t.state going);
      there = λ going. absurd (halted old.state moment new.state t.state going);
    }
kept_after old new floor moment rows e (submitted.Refused cause prefix) is own last r = absurd r
kept_after old new floor moment rows e (submitted.Full held) is own last r = absurd r
kept_after old new floor moment rows e submitted.NoMemory is own last r = absurd r

pub kept_staying : (old new : Parts) (s : State) (floor spare : ℕ) → old.state ≡ s → spare ≤ old.spare → IsKept old.told s old.place old.made floor spare → Stays old new → IsKept new.told new.state new.place new.made floor new.spare
kept_staying old new s floor spare same le k t =
    let was : new.state ≡ s = t.state ∙ same in
    record {
      since = omega (arith, ap (λ (x : State). x.moment) was, k.since);
      last = k.last;
      room = λ going. omega (arith, k.room (ap (λ (x : State). x.halt) (sym was) ∙ going), le, t.room);
      active = λ going. subst (λ (x : State). IfSome new.told (λ image. IsActive image new.place x)) (sym t.state) (still_active new.place new.made old.state old.told new.told t.image);
      there = λ going. still_there new.place new.made old.state old.told new.told t.image;
    }

-- ---- whichever it is

pub answers_if : {E : Type 0} (r : Result Submitted E) (old new : Parts) (s : State) (lines : List JournalLine) (base floor : ℕ) (readings : Option (List ℕ)) (session ordinal moment : ℕ) (q : Stmt) (w : What) (rows given : ℕ) (e : Entry) → old.state ≡ s → old.journal ≡ lines
    → e ≡ entry_at session ordinal moment w → given ≡ rows → Accept w rows ≡ verdict q s [] moment → IfOk r (CarriesOut old new e moment given)
    → IfOk r (Answers (core_of (with_history old s lines) base floor readings) (core_of new base floor readings) session ordinal moment q)
answers_if (Ok result) old new s lines base floor readings session ordinal moment q w rows given e same told is count accepted r =
    answers_after old new s lines base floor readings session ordinal moment q w rows e result same told is accepted (subst (λ (n : ℕ). CarriesOut old new e moment n result) count r)
answers_if (Err fault) old new s lines base floor readings session ordinal moment q w rows given e same told is count accepted r = tt

pub lacks_if : {E : Type 0} (r : Result Submitted E) (old new : Parts) (s : State) (lines : List JournalLine) (base floor : ℕ) (readings : Option (List ℕ)) → old.state ≡ s → old.journal ≡ lines → OnErr r (Stays old new)
    → OnErr r (Lacks (core_of (with_history old s lines) base floor readings) (core_of new base floor readings))
lacks_if (Ok result) old new s lines base floor readings same told t = tt
lacks_if (Err fault) old new s lines base floor readings same told t = lacks_after old new s lines base floor readings same told t

pub kept_if : {E : Type 0} (r : Result Submitted E) (old new : Parts) (s : State) (floor spare moment given : ℕ) (e : Entry) → old.state ≡ s → spare ≤ old.spare → moment ≡ floor → e.moment ≡ moment → IsKept old.told s old.place old.made floor spare
    → IfOk r (CarriesOut old new e moment given) → OnErr r (Stays old new) → IsKept new.told new.state new.place new.made floor new.spare
kept_if (Ok result) old new s floor spare moment given e same le is own k r t = kept_after old new floor moment given e result is own k.last r
kept_if (Err fault) old new s floor spare moment given e same le is own k r t = kept_staying old new s floor spare same le k t

pub on_err : {T E : Type 0} (r : Result T E) (P : Type 0) → P → OnErr r P
on_err (Ok x) P p = tt
on_err (Err fault) P p = p

same_image : (told : Option Image) → Along KeepsStanding told told
same_image None = tt
same_image (Some x) = λ s stands. stands

-- nothing was written, and the history is as it was
pub lacks_still : (p : Parts) (t : State) (l : List JournalLine) (base floor : ℕ) (readings : Option (List ℕ)) → t ≡ p.state → l ≡ p.journal → Lacks (core_of p base floor readings) (core_of (with_history p t l) base floor readings)
lacks_still p t l base floor readings same told = record {
  keeps = record { state = same; layers = ap (λ (x : State). let rows : Layers = record { rows = x.rows } in rows) same; base = refl; journal = told };
  log = refl;
  image = same_image p.told;
  count = refl;
}

-- ---- the moment, and then the rest

moved : (old new : CoreState) (floor : ℕ) (readings : Option (List ℕ)) (session ordinal moment : ℕ) (q : Stmt) (result : Submitted) → Answers (record old { floor = floor; readings = readings }) new session ordinal moment q result → Answers old new session ordinal moment q result
moved old new floor readings session ordinal moment q (submitted.Accepted version rows edge) r =
    let a : Accepts (record old { floor = floor; readings = readings }) new session ordinal moment q version rows edge = r in
    record { entered = a.entered; accepted = a.accepted; version_is = a.version_is; edge_is = a.edge_is; state = a.state; layers = a.layers; base = a.base; journal = a.journal; image = a.image; count = a.count }
moved old new floor readings session ordinal moment q (submitted.StoreFault halt) r =
    let a : Halts (record old { floor = floor; readings = readings }) new session ordinal moment q halt = r in
    record { tried = a.tried; rows = a.rows; accepted = a.accepted; version_is = a.version_is; state = a.state; layers = a.layers; base = a.base; journal = a.journal; image = a.image; cause = a.cause }
moved old new floor readings session ordinal moment q (submitted.Refused cause prefix) r =
    let a : Refuses (record old { floor = floor; readings = readings }) new moment q cause prefix = r in
    record { refused = a.refused; prefix_is = a.prefix_is; keeps = record { state = a.keeps.state; layers = a.keeps.layers; base = a.keeps.base; journal = a.keeps.journal }; log = a.log; told = a.told; count = a.count }
moved old new floor readings session ordinal moment q submitted.NoMemory r =
    let a : Lacks (record old { floor = floor; readings = readings }) new = r in
    record { keeps = record { state = a.keeps.state; layers = a.keeps.layers; base = a.keeps.base; journal = a.keeps.journal }; log = a.log; image = a.image; count = a.count }
moved old new floor readings session ordinal moment q (submitted.Full held) r = absurd r

pub submits_from : (old mid new : CoreState) (floor : ℕ) (readings : Option (List ℕ)) (session ordinal moment : ℕ) (q : Stmt) (result : Submitted) → mid ≡ record old { floor = floor; readings = readings } → TakesMoment old mid → moment ≡ mid.floor → new.floor ≡ mid.floor
    → new.readings ≡ mid.readings → IsComposed old → Answers mid new session ordinal moment q result → Submits old new session ordinal q result
submits_from old mid new floor readings session ordinal moment q result rest takes is kept clock layers answers =
    let own = subst (λ (c : CoreState). Answers c new session ordinal moment q result) rest answers in
    record {
      takes = record { now = takes.now; reads = subst (λ (o : Option (List ℕ)). Reads old.readings o takes.now) (sym clock) takes.reads; floor = kept ∙ takes.floor; since = omega (arith, kept, takes.since); last = omega (arith, kept, takes.last) };
      layers = layers;
      answers = subst (λ (m : ℕ). Answers old new session ordinal m q result) (is ∙ sym kept) (moved old new floor readings session ordinal moment q result own);
    }
