-- A submit keeps each point of what a core says of a history, with what it adds.
use Rattle.std.proofs.Common.{◌≡◌, inl, inr, ⊎_elim, ℕ, ◌+◌, ◌≤◌, false, List, [], ◌∷◌, ◌++◌, length, Option, Some, None, refl, sym, ap, subst, ◌∙◌, arith}
use Rattle.std.specs.Prelude.{All, IfSome}
use Rattle.std.proofs.lemmas.List.{append-nil}
use Rattle.td_limits.specs.declared.limits.TheConstants.{SESSIONS, MEMTABLE_PARTS}
use Rattle.td_catalog.specs.Kept.{CanFollow}
use Rattle.td_verdict.specs.Sound.{IsFromEdge}
use Rattle.td_memtable.specs.Contents.{Contents}
use Rattle.td_model.specs.declared.history.What.{What}
use Rattle.td_model.specs.declared.history.What.TheVariants as what
use Rattle.td_model.specs.declared.history.Entry.{Entry}
use Rattle.td_model.specs.declared.history.Verdict.{Verdict}
use Rattle.td_model.specs.declared.history.Verdict.TheVariants.{Accept}
use Rattle.td_model.specs.declared.language.Stmt.{Stmt}
use Rattle.td_model.specs.declared.report.Mark.{Mark}
use Rattle.td_model.specs.declared.report.Mark.TheVariants as mark
use Rattle.td_model.specs.declared.report.JournalLine.{JournalLine}
use Rattle.td_model.specs.State.{State, step, after}
use Rattle.td_model.proofs.Steps.{step_moment}
use Rattle.td_outside.specs.Image.{Image}
use Rattle.td_told.specs.Journal.{halt_at}
use Rattle.td_told.specs.Times.{is_halt}
use Rattle.td_told.specs.Turn.{entry_at, line_at, halt_line}
use Rattle.td_told.specs.Verdict.{verdict}
use Rattle.td_stands.specs.Stands.{Stands}
use Rattle.td_levels.specs.Levels.{Levels, Files, memtables_of}
use Rattle.td_levels.specs.Laws.{MayCome, HoldRows, took}
use Rattle.td_levels.proofs.Entries.{entries_taken}
use Rattle.td_state.specs.Facts.{Facts, facts}
use Rattle.td_active.specs.Standing.{KeepsStanding, StandsAfter, StandsEither}
use Rattle.td_engine.specs.declared.submit.Submitted.{Submitted}
use Rattle.td_engine.specs.declared.submit.Submitted.TheVariants as submitted
use Rattle.td_engine.specs.CoreState.{CoreState}
use Rattle.td_engine.specs.Covers.{FactsAre, RowsAre, HeldIs, PinsAre, mark_of, line_of, lines, JournalIs, HaltedAt, ImageIsBy, ImageIs, FloorIs, ClockIs, IsEntryOf, Legal}
use Rattle.td_engine.specs.Submits.{TakesMoment, KeepsCommitted, KeepsHistory, Accepts, Halts, Refuses, IsFull, Lacks, Submits, entry_of, added, asked_by}
use Rattle.td_engine.proofs.Bare.{verdict_alike, alike, facts_after}
use Rattle.td_engine.proofs.Entries.{took_held}
use Rattle.td_engine.proofs.Halts.{accepted_halts, entry_halts, going}
use Rattle.td_engine.proofs.Histories.{LooksAtNone, halt_alone, entry_alone, after-push, after_none, after_version, lines-push, legal-push}
use Rattle.td_engine.proofs.Readings.{clock_stays, clock_more}
use Rattle.td_engine.proofs.Images.{carry, same_said}

-- ---- what is accepted

added_is : (session ordinal moment : ℕ) (v : Verdict) (w : What) (rows : ℕ) → v ≡ Accept w rows → entry_of session ordinal moment v ≡ entry_at session ordinal moment w ∷ []
added_is session ordinal moment v w rows accepted = ap (entry_of session ordinal moment) accepted

plain : (w : What) → is_halt w ≡ false → mark_of w ≡ mark.Plain
plain (what.MakeStable name schema) e = refl
plain (what.MakeTable name columns) e = refl
plain (what.MakeSub name stable tags) e = refl
plain (what.Put puts) e = refl
plain (what.Cut table lo hi) e = refl
plain (what.MakeStream def) e = refl
plain (what.DropStream n) e = refl
plain (what.Edge edge) e = refl
plain (what.Step stream upto moment) e = refl
plain what.Halt e = absurd cc

-- the state after a history, with the entry of a statement that is accepted
push_entry : (b : State) (h : List Entry) (q : Stmt) (s : State) (session ordinal moment : ℕ) (w : What) (rows : ℕ) → verdict q s [] moment ≡ Accept w rows
    → after b (h ++ entry_at session ordinal moment w ∷ []) ≡ step (after b h ∷ []) (entry_at session ordinal moment w)
push_entry b h q s session ordinal moment w rows accepted = after-push b h (entry_at session ordinal moment w) (entry_alone q s session ordinal moment w rows accepted)

push_halt : (b : State) (h : List Entry) (moment : ℕ) → after b (h ++ halt_at moment ∷ []) ≡ step (after b h ∷ []) (halt_at moment)
push_halt b h moment = after-push b h (halt_at moment) (halt_alone moment)

-- ---- what was committed

pub committed_goes : (old new : CoreState) (session ordinal : ℕ) (q : Stmt) (result : Submitted) → Submits old new session ordinal q result → KeepsCommitted old new
committed_goes old new session ordinal q (submitted.Accepted version rows edge) s =
    let a : Accepts old new session ordinal new.floor q version rows edge = s.answers in a.committed
committed_goes old new session ordinal q (submitted.StoreFault halt) s =
    let a : Halts old new session ordinal new.floor q halt = s.answers in a.committed
committed_goes old new session ordinal q (submitted.Refused cause prefix) s =
    let a : Refuses old new new.floor q cause prefix = s.answers in a.keeps.committed
committed_goes old new session ordinal q (submitted.Full held) s =
    let a : IsFull old new new.floor q held = s.answers in a.keeps.committed
committed_goes old new session ordinal q submitted.NoMemory s =
    let a : Lacks old new = s.answers in a.keeps.committed

-- ---- the state but for its rows

facts_stay : (old new : CoreState) (b : State) (h : List Entry) → KeepsHistory old new → FactsAre old b h → FactsAre new b (h ++ [])
facts_stay old new b h keeps f = ap facts keeps.state ∙ f ∙ ap facts (sym (after_none b h))

pub facts_go : (old new : CoreState) (session ordinal : ℕ) (q : Stmt) (result : Submitted) (b : State) (h : List Entry) → Submits old new session ordinal q result → FactsAre old b h
    → FactsAre new b (h ++ added old new session ordinal q result)
facts_go old new session ordinal q (submitted.Accepted version rows edge) b h s f =
    let a : Accepts old new session ordinal new.floor q version rows edge = s.answers in
    facts_after old.state (after b h) new.state (entry_at session ordinal new.floor a.entered) a.state f
    ∙ ap facts (sym (push_entry b h q old.state session ordinal new.floor a.entered rows a.accepted))
    ∙ ap (λ (l : List Entry). facts (after b (h ++ l))) (sym (added_is session ordinal new.floor (verdict q old.state [] new.floor) a.entered rows a.accepted))
facts_go old new session ordinal q (submitted.StoreFault halt) b h s f =
    let a : Halts old new session ordinal new.floor q halt = s.answers in
    facts_after old.state (after b h) new.state (halt_at new.floor) a.state f ∙ ap facts (sym (push_halt b h new.floor))
facts_go old new session ordinal q (submitted.Refused cause prefix) b h s f =
    let a : Refuses old new new.floor q cause prefix = s.answers in facts_stay old new b h a.keeps f
facts_go old new session ordinal q (submitted.Full held) b h s f =
    let a : IsFull old new new.floor q held = s.answers in facts_stay old new b h a.keeps f
facts_go old new session ordinal q submitted.NoMemory b h s f =
    let a : Lacks old new = s.answers in facts_stay old new b h a.keeps f

-- ---- the rows

-- where an entry may come in a state, it may come in one of the same facts
comes_alike : (s t : State) (l : Levels) (e : Entry) → facts s ≡ facts t → MayCome s l e → MayCome t l e
comes_alike s t l e same may = record {
  follows = subst (λ (f : Facts). CanFollow e.what f.catalog) same may.follows;
  edge = subst (λ (f : Facts). IsFromEdge f.edge e.what) same may.edge;
  cells = may.cells;
  moment = may.moment;
  room = may.room;
}

rows_halted : (files : Files) (s : State) (l : Levels) (moment : ℕ) → HoldRows files s l → HoldRows files (step (s ∷ []) (halt_at moment)) l
rows_halted files s l moment p = record { valid = p.valid; fits = p.fits; further = p.further; rows = p.rows }

-- levels and files are those that hold the rows of a state
rows_by : (files now : Files) (s t : State) (l k : Levels) → now ≡ files → t ≡ s → k ≡ l → HoldRows files s l → HoldRows now t k
rows_by files now s t l k same is are p =
    subst (λ (f : Files). HoldRows f t k) (sym same) (subst (λ (x : State). HoldRows files x k) (sym is) (subst (λ (x : Levels). HoldRows files s x) (sym are) p))

-- no entry was added, and what is told is the same
rows_stay : (old new : CoreState) (b : State) (h : List Entry) → KeepsHistory old new → new.told ≡ old.told → RowsAre old b h → RowsAre new b (h ++ [])
rows_stay old new b h keeps same r =
    same_said (λ (x : Image). HoldRows x.files (after b (h ++ [])) new.levels) old.told new.told same
    (kept old.told r)
  where
    kept : (told : Option Image) → IfSome told (λ image. HoldRows image.files (after b h) old.levels) → IfSome told (λ image. HoldRows image.files (after b (h ++ [])) new.levels)
    kept None p = tt
    kept (Some x) p = rows_by x.files x.files (after b h) (after b (h ++ [])) old.levels new.levels refl (after_none b h) keeps.levels p

pub rows_go : (old new : CoreState) (session ordinal : ℕ) (q : Stmt) (result : Submitted) (b : State) (h : List Entry) → Submits old new session ordinal q result → FactsAre old b h → RowsAre old b h
    → RowsAre new b (h ++ added old new session ordinal q result)
rows_go old new session ordinal q (submitted.Accepted version rows edge) b h s f r =
    let a : Accepts old new session ordinal new.floor q version rows edge = s.answers in
    let e = entry_at session ordinal new.floor a.entered in
    let l = h ++ added old new session ordinal q (submitted.Accepted version rows edge) in
    let is : after b l ≡ step (after b h ∷ []) e = ap (λ (x : List Entry). after b (h ++ x)) (added_is session ordinal new.floor (verdict q old.state [] new.floor) a.entered rows a.accepted) ∙ push_entry b h q old.state session ordinal new.floor a.entered rows a.accepted in
    carry (StandsAfter old.state.version e) (λ (x : Image). HoldRows x.files (after b h) old.levels) (λ (x : Image). HoldRows x.files (after b l) new.levels) old.told new.told
    (λ x y stands p. rows_by x.files y.files (step (after b h ∷ []) e) (after b l) (took e old.levels) new.levels stands.files is a.levels (entries_taken x.files (after b h) old.levels e (comes_alike old.state (after b h) old.levels e f a.comes) p))
    a.image r
rows_go old new session ordinal q (submitted.StoreFault halt) b h s f r =
    let a : Halts old new session ordinal new.floor q halt = s.answers in
    let l = h ++ halt_at new.floor ∷ [] in
    carry (StandsEither old.state.version (entry_at session ordinal new.floor a.tried)) (λ (x : Image). HoldRows x.files (after b h) old.levels) (λ (x : Image). HoldRows x.files (after b l) new.levels) old.told new.told
    (λ x y stands p. rows_by x.files y.files (step (after b h ∷ []) (halt_at new.floor)) (after b l) old.levels new.levels stands.files (push_halt b h new.floor) a.levels (rows_halted x.files (after b h) old.levels new.floor p))
    a.image r
rows_go old new session ordinal q (submitted.Refused cause prefix) b h s f r =
    let a : Refuses old new new.floor q cause prefix = s.answers in rows_stay old new b h a.keeps a.told r
rows_go old new session ordinal q (submitted.Full held) b h s f r =
    let a : IsFull old new new.floor q held = s.answers in rows_stay old new b h a.keeps a.told r
rows_go old new session ordinal q submitted.NoMemory b h s f r =
    let a : Lacks old new = s.answers in
    carry (KeepsStanding old.state.version) (λ (x : Image). HoldRows x.files (after b h) old.levels) (λ (x : Image). HoldRows x.files (after b (h ++ [])) new.levels) old.told new.told
    (λ x y stands p. rows_by x.files y.files (after b h) (after b (h ++ [])) old.levels new.levels stands.files (after_none b h) a.keeps.levels p)
    a.image r

-- ---- the memtables

held_by : (l k : Levels) → k ≡ l → All (λ (m : Contents). m.held ≤ MEMTABLE_PARTS) (memtables_of l) → All (λ (m : Contents). m.held ≤ MEMTABLE_PARTS) (memtables_of k)
held_by l k is held = subst (λ (x : Levels). All (λ (m : Contents). m.held ≤ MEMTABLE_PARTS) (memtables_of x)) (sym is) held

pub held_goes : (old new : CoreState) (session ordinal : ℕ) (q : Stmt) (result : Submitted) → Submits old new session ordinal q result → HeldIs old → HeldIs new
held_goes old new session ordinal q (submitted.Accepted version rows edge) s held =
    let a : Accepts old new session ordinal new.floor q version rows edge = s.answers in
    let e = entry_at session ordinal new.floor a.entered in
    held_by (took e old.levels) new.levels a.levels (took_held old.state old.levels e a.comes held)
held_goes old new session ordinal q (submitted.StoreFault halt) s held =
    let a : Halts old new session ordinal new.floor q halt = s.answers in held_by old.levels new.levels a.levels held
held_goes old new session ordinal q (submitted.Refused cause prefix) s held =
    let a : Refuses old new new.floor q cause prefix = s.answers in held_by old.levels new.levels a.keeps.levels held
held_goes old new session ordinal q (submitted.Full full) s held =
    let a : IsFull old new new.floor q full = s.answers in held_by old.levels new.levels a.keeps.levels held
held_goes old new session ordinal q submitted.NoMemory s held =
    let a : Lacks old new = s.answers in held_by old.levels new.levels a.keeps.levels held

-- ---- pins

readers_by : (x y : Image) (was now : ℕ → ℕ) → y.readers ≡ x.readers → now ≡ was → ((n : ℕ) → x.readers n ≡ was n) → (n : ℕ) → y.readers n ≡ now n
readers_by x y was now same pins is n = ap (λ (f : ℕ → ℕ). f n) same ∙ is n ∙ ap (λ (f : ℕ → ℕ). f n) (sym pins)

pins_stay : (old new : CoreState) → new.told ≡ old.told → new.pins ≡ old.pins → PinsAre old → PinsAre new
pins_stay old new same pins is =
    subst (λ (p : ℕ → ℕ). IfSome new.told (λ image. (n : ℕ) → image.readers n ≡ p n)) (sym pins)
    (same_said (λ (x : Image). (n : ℕ) → x.readers n ≡ old.pins n) old.told new.told same is)

pub pins_go : (old new : CoreState) (session ordinal : ℕ) (q : Stmt) (result : Submitted) → Submits old new session ordinal q result → PinsAre old → PinsAre new
pins_go old new session ordinal q (submitted.Accepted version rows edge) s is =
    let a : Accepts old new session ordinal new.floor q version rows edge = s.answers in
    carry (StandsAfter old.state.version (entry_at session ordinal new.floor a.entered)) (λ (x : Image). (n : ℕ) → x.readers n ≡ old.pins n) (λ (x : Image). (n : ℕ) → x.readers n ≡ new.pins n) old.told new.told
    (λ x y stands p. readers_by x y old.pins new.pins stands.readers a.committed.pins p) a.image is
pins_go old new session ordinal q (submitted.StoreFault halt) s is =
    let a : Halts old new session ordinal new.floor q halt = s.answers in
    carry (StandsEither old.state.version (entry_at session ordinal new.floor a.tried)) (λ (x : Image). (n : ℕ) → x.readers n ≡ old.pins n) (λ (x : Image). (n : ℕ) → x.readers n ≡ new.pins n) old.told new.told
    (λ x y stands p. readers_by x y old.pins new.pins stands.readers a.committed.pins p) a.image is
pins_go old new session ordinal q (submitted.Refused cause prefix) s is =
    let a : Refuses old new new.floor q cause prefix = s.answers in pins_stay old new a.told a.keeps.committed.pins is
pins_go old new session ordinal q (submitted.Full held) s is =
    let a : IsFull old new new.floor q held = s.answers in pins_stay old new a.told a.keeps.committed.pins is
pins_go old new session ordinal q submitted.NoMemory s is =
    let a : Lacks old new = s.answers in
    carry (KeepsStanding old.state.version) (λ (x : Image). (n : ℕ) → x.readers n ≡ old.pins n) (λ (x : Image). (n : ℕ) → x.readers n ≡ new.pins n) old.told new.told
    (λ x y stands p. readers_by x y old.pins new.pins stands.readers a.keeps.committed.pins p) a.image is

-- ---- the journal

journal_stays : (old new : CoreState) (b : State) (h : List Entry) → KeepsHistory old new → JournalIs old b h → JournalIs new b (h ++ [])
journal_stays old new b h keeps j = record {
  base = keeps.committed.base ∙ j.base;
  lines_are = keeps.journal ∙ j.lines_are ∙ ap (lines b.version) (sym (append-nil h));
}

journal_more : (old new : CoreState) (b : State) (h : List Entry) (e : Entry) (line : JournalLine) → new.base ≡ old.base → new.journal ≡ old.journal ++ line ∷ [] → line ≡ line_of (b.version + length h) e → JournalIs old b h → JournalIs new b (h ++ e ∷ [])
journal_more old new b h e line base journal is j = record {
  base = base ∙ j.base;
  lines_are = journal ∙ ap (λ (l : List JournalLine). l ++ line ∷ []) j.lines_are ∙ ap (λ (x : JournalLine). lines b.version h ++ x ∷ []) is ∙ sym (lines-push b.version h e);
}

-- the version of the state is as many above the base's as the history has entries
version_is : (c : CoreState) (b : State) (h : List Entry) → FactsAre c b h → c.state.version ≡ b.version + length h
version_is c b h f = ap (λ (x : Facts). x.version) f ∙ after_version b h

plain_line : (version n session ordinal moment : ℕ) (w : What) → version ≡ n + 1 → mark_of w ≡ mark.Plain → line_at version session ordinal moment ≡ line_of n (entry_at session ordinal moment w)
plain_line version n session ordinal moment w is marked =
    ap (λ (v : ℕ). line_at v session ordinal moment) is
    ∙ ap (λ (m : Mark). let line : JournalLine = record { version = n + 1; session = session; ordinal = ordinal; moment = moment; mark = m } in line) (sym marked)

pub journal_goes : (old new : CoreState) (session ordinal : ℕ) (q : Stmt) (result : Submitted) (b : State) (h : List Entry) → Submits old new session ordinal q result → FactsAre old b h → JournalIs old b h
    → JournalIs new b (h ++ added old new session ordinal q result)
journal_goes old new session ordinal q (submitted.Accepted version rows edge) b h s f j =
    let a : Accepts old new session ordinal new.floor q version rows edge = s.answers in
    let e = entry_at session ordinal new.floor a.entered in
    let is : version ≡ (b.version + length h) + 1 = a.version_is ∙ ap (λ (n : ℕ). n + 1) (version_is old b h f) in
    let line = plain_line version (b.version + length h) session ordinal new.floor a.entered is (plain a.entered (accepted_halts q old.state new.floor a.entered rows a.accepted)) in
    subst (λ (l : List Entry). JournalIs new b (h ++ l)) (sym (added_is session ordinal new.floor (verdict q old.state [] new.floor) a.entered rows a.accepted))
    (journal_more old new b h e (line_at version session ordinal new.floor) a.committed.base a.journal line j)
journal_goes old new session ordinal q (submitted.StoreFault halt) b h s f j =
    let a : Halts old new session ordinal new.floor q halt = s.answers in
    let is : halt ≡ (b.version + length h) + 1 = a.version_is ∙ ap (λ (n : ℕ). n + 1) (version_is old b h f) in
    journal_more old new b h (halt_at new.floor) (halt_line halt new.floor) a.committed.base a.journal (ap (λ (v : ℕ). halt_line v new.floor) is) j
journal_goes old new session ordinal q (submitted.Refused cause prefix) b h s f j =
    let a : Refuses old new new.floor q cause prefix = s.answers in journal_stays old new b h a.keeps j
journal_goes old new session ordinal q (submitted.Full held) b h s f j =
    let a : IsFull old new new.floor q held = s.answers in journal_stays old new b h a.keeps j
journal_goes old new session ordinal q submitted.NoMemory b h s f j =
    let a : Lacks old new = s.answers in journal_stays old new b h a.keeps j

-- ---- the image

-- the state after the history is of the version of the core
same_version : (c : CoreState) (b : State) (h : List Entry) → FactsAre c b h → (after b h).version ≡ c.state.version
same_version c b h f = ap (λ (x : Facts). x.version) (sym f)

-- no entry was added: the image says of the history what it said
image_stays : (old new : CoreState) (b : State) (h : List Entry) → KeepsHistory old new → IfSome new.told (λ x. ImageIsBy old.state.halt x b h) → ImageIs new b (h ++ [])
image_stays old new b h keeps still =
    let halt = subst (λ (s : State). IfSome new.told (λ x. ImageIsBy s.halt x b h)) (sym keeps.state) still in
    subst (λ (l : List Entry). IfSome new.told (λ x. ImageIsBy new.state.halt x b l)) (sym (append-nil h)) halt

some_none : (n : ℕ) → Some n ≡ None → ⊥
some_none n e = cc

image_lacks : (old new : CoreState) (b : State) (h : List Entry) (halt : Option ℕ) → old.state.halt ≡ halt → Lacks old new → FactsAre old b h → IfSome old.told (λ x. ImageIsBy halt x b h) → IfSome new.told (λ x. ImageIsBy halt x b h)
image_lacks old new b h None is l f image =
    carry (KeepsStanding old.state.version) (λ (x : Image). Stands x (after b h)) (λ (x : Image). Stands x (after b h)) old.told new.told (λ x y keeps p. keeps.stands (after b h) (same_version old b h f) p) l.image image
image_lacks old new b h (Some n) is l f image =
    same_said (λ (x : Image). HaltedAt x b h) old.told new.told (l.halted (λ none. some_none n (sym is ∙ none))) image

-- where nothing halted, the image stands for the state after the history
image_going : (c : CoreState) (b : State) (h : List Entry) → c.state.halt ≡ None → ImageIs c b h → IfSome c.told (λ x. Stands x (after b h))
image_going c b h none image = subst (λ (o : Option ℕ). IfSome c.told (λ x. ImageIsBy o x b h)) none image

pub image_goes : (old new : CoreState) (session ordinal : ℕ) (q : Stmt) (result : Submitted) (b : State) (h : List Entry) → Submits old new session ordinal q result → FactsAre old b h → ImageIs old b h
    → ImageIs new b (h ++ added old new session ordinal q result)
image_goes old new session ordinal q (submitted.Accepted version rows edge) b h s f image =
    let a : Accepts old new session ordinal new.floor q version rows edge = s.answers in
    let e = entry_at session ordinal new.floor a.entered in
    let l = h ++ added old new session ordinal q (submitted.Accepted version rows edge) in
    let is : after b l ≡ step (after b h ∷ []) e = ap (λ (x : List Entry). after b (h ++ x)) (added_is session ordinal new.floor (verdict q old.state [] new.floor) a.entered rows a.accepted) ∙ push_entry b h q old.state session ordinal new.floor a.entered rows a.accepted in
    let was : old.state.halt ≡ None = going q old.state new.floor a.entered rows a.accepted in
    let none : new.state.halt ≡ None = ap (λ (x : State). x.halt) a.state ∙ entry_halts q old.state session ordinal new.floor a.entered rows a.accepted ∙ was in
    subst (λ (halt : Option ℕ). IfSome new.told (λ x. ImageIsBy halt x b l)) (sym none)
    (carry (StandsAfter old.state.version e) (λ (x : Image). Stands x (after b h)) (λ (x : Image). Stands x (after b l)) old.told new.told
    (λ x y stands p. subst (λ (t : State). Stands y t) (sym is) (stands.stands (after b h) (same_version old b h f) p)) a.image (image_going old b h was image))
image_goes old new session ordinal q (submitted.StoreFault halt) b h s f image =
    let a : Halts old new session ordinal new.floor q halt = s.answers in
    let e = entry_at session ordinal new.floor a.tried in
    let l = h ++ halt_at new.floor ∷ [] in
    let was : old.state.halt ≡ None = going q old.state new.floor a.tried a.rows a.accepted in
    let tried : step (after b h ∷ []) e ≡ after b (h ++ e ∷ []) = sym (push_entry b h q old.state session ordinal new.floor a.tried a.rows a.accepted) in
    let stopped : new.state.halt ≡ Some (old.state.version + 1) = ap (λ (x : State). x.halt) a.state in
    subst (λ (o : Option ℕ). IfSome new.told (λ x. ImageIsBy o x b l)) (sym stopped)
    (carry (StandsEither old.state.version e) (λ (x : Image). Stands x (after b h)) (λ (x : Image). HaltedAt x b l) old.told new.told
    (λ x y stands p. record {
      before = h;
      halt = halt_at new.floor;
      is_halt = refl;
      ends = refl;
      tried = e;
      stands = ⊎_elim (λ old_stands. inl old_stands) (λ new_stands. inr (subst (λ (t : State). Stands y t) tried new_stands)) (stands.stands (after b h) (same_version old b h f) p);
    })
    a.image (image_going old b h was image))
image_goes old new session ordinal q (submitted.Refused cause prefix) b h s f image =
    let a : Refuses old new new.floor q cause prefix = s.answers in
    image_stays old new b h a.keeps (same_said (λ (x : Image). ImageIsBy old.state.halt x b h) old.told new.told a.told image)
image_goes old new session ordinal q (submitted.Full held) b h s f image =
    let a : IsFull old new new.floor q held = s.answers in
    image_stays old new b h a.keeps (same_said (λ (x : Image). ImageIsBy old.state.halt x b h) old.told new.told a.told image)
image_goes old new session ordinal q submitted.NoMemory b h s f image =
    let a : Lacks old new = s.answers in image_stays old new b h a.keeps (image_lacks old new b h old.state.halt refl a f image)

-- ---- the floor and the clock

floor_stays : (old new : CoreState) (b : State) (h : List Entry) → TakesMoment old new → FloorIs old b h → FloorIs new b (h ++ [])
floor_stays old new b h t floor = omega (arith, ap (λ (s : State). s.moment) (after_none b h), t.floor, floor)

floor_more : (new : CoreState) (b : State) (h : List Entry) (e : Entry) → LooksAtNone e → e.moment ≡ new.floor → FloorIs new b (h ++ e ∷ [])
floor_more new b h e alone moment = omega (arith, ap (λ (s : State). s.moment) (after-push b h e alone), step_moment (after b h ∷ []) e, moment)

pub floor_goes : (old new : CoreState) (session ordinal : ℕ) (q : Stmt) (result : Submitted) (b : State) (h : List Entry) → Submits old new session ordinal q result → FloorIs old b h
    → FloorIs new b (h ++ added old new session ordinal q result)
floor_goes old new session ordinal q (submitted.Accepted version rows edge) b h s floor =
    let a : Accepts old new session ordinal new.floor q version rows edge = s.answers in
    subst (λ (l : List Entry). FloorIs new b (h ++ l)) (sym (added_is session ordinal new.floor (verdict q old.state [] new.floor) a.entered rows a.accepted))
    (floor_more new b h (entry_at session ordinal new.floor a.entered) (entry_alone q old.state session ordinal new.floor a.entered rows a.accepted) refl)
floor_goes old new session ordinal q (submitted.StoreFault halt) b h s floor = floor_more new b h (halt_at new.floor) (halt_alone new.floor) refl
floor_goes old new session ordinal q (submitted.Refused cause prefix) b h s floor = floor_stays old new b h s.takes floor
floor_goes old new session ordinal q (submitted.Full held) b h s floor = floor_stays old new b h s.takes floor
floor_goes old new session ordinal q submitted.NoMemory b h s floor = floor_stays old new b h s.takes floor

pub clock_goes : (opened : Option (List ℕ)) (old new : CoreState) (session ordinal : ℕ) (q : Stmt) (result : Submitted) (b : State) (h : List Entry) → Submits old new session ordinal q result → ClockIs opened old b h
    → ClockIs opened new b (h ++ added old new session ordinal q result)
clock_goes opened old new session ordinal q (submitted.Accepted version rows edge) b h s clock =
    let a : Accepts old new session ordinal new.floor q version rows edge = s.answers in
    subst (λ (l : List Entry). ClockIs opened new b (h ++ l)) (sym (added_is session ordinal new.floor (verdict q old.state [] new.floor) a.entered rows a.accepted))
    (clock_more opened old new s.takes.now b h (entry_at session ordinal new.floor a.entered) s.takes.reads s.takes.floor refl clock)
clock_goes opened old new session ordinal q (submitted.StoreFault halt) b h s clock = clock_more opened old new s.takes.now b h (halt_at new.floor) s.takes.reads s.takes.floor refl clock
clock_goes opened old new session ordinal q (submitted.Refused cause prefix) b h s clock = clock_stays opened old new s.takes.now b h s.takes.reads s.takes.floor clock
clock_goes opened old new session ordinal q (submitted.Full held) b h s clock = clock_stays opened old new s.takes.now b h s.takes.reads s.takes.floor clock
clock_goes opened old new session ordinal q submitted.NoMemory b h s clock = clock_stays opened old new s.takes.now b h s.takes.reads s.takes.floor clock

-- ---- legal histories

legal_stays : (b : State) (h : List Entry) (asked : List (Option Stmt)) → Legal b h asked → Legal b (h ++ []) (asked ++ [])
legal_stays b h asked legal =
    subst (λ (l : List Entry). Legal b l (asked ++ [])) (sym (append-nil h)) (subst (λ (l : List (Option Stmt)). Legal b h l) (sym (append-nil asked)) legal)

since_then : (old new : CoreState) (b : State) (h : List Entry) → TakesMoment old new → FactsAre old b h → (after b h).moment ≤ new.floor
since_then old new b h t f = omega (arith, ap (λ (x : Facts). x.moment) f, t.since)

-- what the verdict accepts in the state of a core, it accepts in the state after the history
accepted_there : (c : CoreState) (b : State) (h : List Entry) (q : Stmt) (moment : ℕ) (w : What) (rows : ℕ) → FactsAre c b h → verdict q c.state [] moment ≡ Accept w rows → verdict q (after b h) [] moment ≡ Accept w rows
accepted_there c b h q moment w rows f accepted = sym (verdict_alike q c.state (after b h) [] moment (alike c.state (after b h) f)) ∙ accepted

pub legal_goes : (old new : CoreState) (session ordinal : ℕ) (q : Stmt) (result : Submitted) (b : State) (h : List Entry) (asked : List (Option Stmt)) → 1 ≤ session → session ≤ SESSIONS → Submits old new session ordinal q result
    → FactsAre old b h → Legal b h asked → Legal b (h ++ added old new session ordinal q result) (asked ++ asked_by q result)
legal_goes old new session ordinal q (submitted.Accepted version rows edge) b h asked from_one most s f legal =
    let a : Accepts old new session ordinal new.floor q version rows edge = s.answers in
    let e = entry_at session ordinal new.floor a.entered in
    let there = accepted_there old b h q new.floor a.entered rows f a.accepted in
    let may : IsEntryOf q (after b h) e = record { rows = rows; accepted = there; from_one = from_one; session = most } in
    subst (λ (l : List Entry). Legal b (h ++ l) (asked ++ Some q ∷ [])) (sym (added_is session ordinal new.floor (verdict q old.state [] new.floor) a.entered rows a.accepted))
    (legal-push (b ∷ []) h asked e (Some q) (going q (after b h) new.floor a.entered rows there) (since_then old new b h s.takes f) may legal)
legal_goes old new session ordinal q (submitted.StoreFault halt) b h asked from_one most s f legal =
    let a : Halts old new session ordinal new.floor q halt = s.answers in
    let there = accepted_there old b h q new.floor a.tried a.rows f a.accepted in
    legal-push (b ∷ []) h asked (halt_at new.floor) None (going q (after b h) new.floor a.tried a.rows there) (since_then old new b h s.takes f) (refl, refl) legal
legal_goes old new session ordinal q (submitted.Refused cause prefix) b h asked from_one most s f legal = legal_stays b h asked legal
legal_goes old new session ordinal q (submitted.Full held) b h asked from_one most s f legal = legal_stays b h asked legal
legal_goes old new session ordinal q submitted.NoMemory b h asked from_one most s f legal = legal_stays b h asked legal
