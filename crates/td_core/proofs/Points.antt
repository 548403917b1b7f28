-- A submit keeps each point of what a core says of a history, with what it adds.
use Rattle.std.proofs.Common.{◌≡◌, inl, inr, ⊎_elim, ℕ, ◌+◌, ◌≤◌, false, List, [], ◌∷◌, ◌++◌, length, Option, Some, None, refl, sym, ap, subst, ◌∙◌, arith}
use Rattle.std.specs.Prelude.{IfSome}
use Rattle.std.proofs.lemmas.List.{append-nil}
use Rattle.td_limits.specs.declared.limits.TheConstants.{SESSIONS}
use Rattle.td_model.specs.declared.history.What.{What}
use Rattle.td_model.specs.declared.history.What.TheVariants as what
use Rattle.td_model.specs.declared.history.Entry.{Entry}
use Rattle.td_model.specs.declared.history.Verdict.{Verdict}
use Rattle.td_model.specs.declared.history.Verdict.TheVariants.{Accept}
use Rattle.td_model.specs.declared.language.Stmt.{Stmt}
use Rattle.td_model.specs.declared.report.Mark.{Mark}
use Rattle.td_model.specs.declared.report.Mark.TheVariants as mark
use Rattle.td_model.specs.declared.report.JournalLine.{JournalLine}
use Rattle.td_model.specs.State.{State, Rows, step, after}
use Rattle.td_model.proofs.Steps.{step_moment}
use Rattle.td_outside.specs.Image.{Image, Along}
use Rattle.td_told.specs.Journal.{halt_at}
use Rattle.td_told.specs.Times.{is_halt}
use Rattle.td_told.specs.Turn.{Accepts as Taken, entry_at, line_at, halt_line}
use Rattle.td_told.specs.Verdict.{verdict}
use Rattle.td_told.proofs.Fits.{accepts_none}
use Rattle.td_core.specs.declared.submit.Submitted.{Submitted}
use Rattle.td_core.specs.declared.submit.Submitted.TheVariants as submitted
use Rattle.td_core.specs.Stands.{Stands}
use Rattle.td_core.specs.CoreState.{CoreState, Layers}
use Rattle.td_core.specs.Covers.{Facts, facts, FactsAre, RowsAre, mark_of, line_of, lines, JournalIs, HaltedAt, ImageIsBy, ImageIs, FloorIs, ClockIs, IsEntryOf, Legal}
use Rattle.td_core.specs.Submits.{TakesMoment, KeepsStanding, StandsFor, StandsForEither, IsComposed, KeepsHistory, Accepts, Halts, Refuses, Lacks, Submits, entry_of, added, asked_by}
use Rattle.td_core.proofs.Replaying.{accepted_halts, entry_halts}
use Rattle.td_core.proofs.Histories.{LooksAtNone, halt_alone, entry_alone, after-push, after_none, after_version, lines-push, legal-push}
use Rattle.td_core.proofs.Readings.{clock_stays, clock_more}

-- ---- the state as a whole

state_of : Facts → Rows → State
state_of f rows =
    record {
      version = f.version;
      moment = f.moment;
      catalog = f.catalog;
      stable_latest = f.stable_latest;
      table_latest = f.table_latest;
      rows = rows;
      edge = f.edge;
      halt = f.halt;
    }

same_state : (s t : State) → facts s ≡ facts t → s.rows ≡ t.rows → s ≡ t
unfolding state_of
same_state s t e r = ap (λ (f : Facts). state_of f s.rows) e ∙ ap (state_of (facts t)) r

pub whole : (c : CoreState) (b : State) (h : List Entry) → IsComposed c → FactsAre c b h → RowsAre c b h → c.state ≡ after b h
whole c b h layers facts_are rows_are = same_state c.state (after b h) facts_are (sym layers ∙ rows_are)

keeps_composed : (old new : CoreState) → KeepsHistory old new → IsComposed old → IsComposed new
keeps_composed old new keeps layers = ap (λ (l : Layers). l.rows) keeps.layers ∙ layers ∙ ap (λ (s : State). s.rows) (sym keeps.state)

-- ---- what is accepted

-- a verdict accepts only where there is no halt
going_by : (q : Stmt) (s : State) (moment : ℕ) (halt : Option ℕ) → s.halt ≡ halt → Taken (verdict q s [] moment) → s.halt ≡ None
going_by q s moment None is taken = is
going_by q s moment (Some version) is taken = absurd (accepts_none q s version moment is taken)

pub going : (q : Stmt) (s : State) (moment : ℕ) (w : What) (rows : ℕ) → verdict q s [] moment ≡ Accept w rows → s.halt ≡ None
going q s moment w rows accepted = going_by q s moment s.halt refl (subst Taken (sym accepted) tt)

added_is : (session ordinal moment : ℕ) (v : Verdict) (w : What) (rows : ℕ) → v ≡ Accept w rows → entry_of session ordinal moment v ≡ entry_at session ordinal moment w ∷ []
added_is session ordinal moment v w rows accepted = ap (entry_of session ordinal moment) accepted

plain : (w : What) → is_halt w ≡ false → mark_of w ≡ mark.Plain
plain (what.MakeStable name schema) e = refl
plain (what.MakeTable name columns) e = refl
plain (what.MakeSub name stable tags) e = refl
plain (what.Put puts) e = refl
plain (what.Cut table lo hi) e = refl
plain (what.MakeStream def) e = refl
plain (what.DropStream n) e = refl
plain (what.Edge edge) e = refl
plain (what.Step stream upto moment) e = refl
plain what.Halt e = absurd cc

-- ---- the state

state_goes : (old new : CoreState) (session ordinal : ℕ) (q : Stmt) (result : Submitted) (b : State) (h : List Entry) → Submits old new session ordinal q result → FactsAre old b h → RowsAre old b h
    → new.state ≡ after b (h ++ added old new session ordinal q result)
state_goes old new session ordinal q (submitted.Accepted version rows edge) b h s f r =
    let a : Accepts old new session ordinal new.floor q version rows edge = s.answers in
    let e = entry_at session ordinal new.floor a.entered in
    a.state ∙ ap (λ (x : State). step (x ∷ []) e) (whole old b h s.layers f r)
    ∙ sym (after-push b h e (entry_alone q old.state session ordinal new.floor a.entered rows a.accepted))
    ∙ ap (λ (l : List Entry). after b (h ++ l)) (sym (added_is session ordinal new.floor (verdict q old.state [] new.floor) a.entered rows a.accepted))
state_goes old new session ordinal q (submitted.StoreFault halt) b h s f r =
    let a : Halts old new session ordinal new.floor q halt = s.answers in
    a.state ∙ ap (λ (x : State). step (x ∷ []) (halt_at new.floor)) (whole old b h s.layers f r) ∙ sym (after-push b h (halt_at new.floor) (halt_alone new.floor))
state_goes old new session ordinal q (submitted.Refused cause prefix) b h s f r =
    let a : Refuses old new new.floor q cause prefix = s.answers in
    a.keeps.state ∙ whole old b h s.layers f r ∙ sym (after_none b h)
state_goes old new session ordinal q submitted.NoMemory b h s f r =
    let a : Lacks old new = s.answers in
    a.keeps.state ∙ whole old b h s.layers f r ∙ sym (after_none b h)
state_goes old new session ordinal q (submitted.Full held) b h s f r = absurd s.answers

now_composed : (old new : CoreState) (session ordinal : ℕ) (q : Stmt) (result : Submitted) → Submits old new session ordinal q result → IsComposed new
now_composed old new session ordinal q (submitted.Accepted version rows edge) s =
    let a : Accepts old new session ordinal new.floor q version rows edge = s.answers in a.layers
now_composed old new session ordinal q (submitted.StoreFault halt) s =
    let a : Halts old new session ordinal new.floor q halt = s.answers in a.layers
now_composed old new session ordinal q (submitted.Refused cause prefix) s =
    let a : Refuses old new new.floor q cause prefix = s.answers in keeps_composed old new a.keeps s.layers
now_composed old new session ordinal q submitted.NoMemory s =
    let a : Lacks old new = s.answers in keeps_composed old new a.keeps s.layers
now_composed old new session ordinal q (submitted.Full held) s = absurd s.answers

pub facts_go : (old new : CoreState) (session ordinal : ℕ) (q : Stmt) (result : Submitted) (b : State) (h : List Entry) → Submits old new session ordinal q result → FactsAre old b h → RowsAre old b h
    → FactsAre new b (h ++ added old new session ordinal q result)
facts_go old new session ordinal q result b h s f r = ap facts (state_goes old new session ordinal q result b h s f r)

pub rows_go : (old new : CoreState) (session ordinal : ℕ) (q : Stmt) (result : Submitted) (b : State) (h : List Entry) → Submits old new session ordinal q result → FactsAre old b h → RowsAre old b h
    → RowsAre new b (h ++ added old new session ordinal q result)
rows_go old new session ordinal q result b h s f r = now_composed old new session ordinal q result s ∙ ap (λ (x : State). x.rows) (state_goes old new session ordinal q result b h s f r)

-- ---- the journal

journal_stays : (old new : CoreState) (b : State) (h : List Entry) → KeepsHistory old new → JournalIs old b h → JournalIs new b (h ++ [])
journal_stays old new b h keeps j = record {
  base = keeps.base ∙ j.base;
  lines_are = keeps.journal ∙ j.lines_are ∙ ap (lines b.version) (sym (append-nil h));
}

journal_more : (old new : CoreState) (b : State) (h : List Entry) (e : Entry) (line : JournalLine) → new.base ≡ old.base → new.journal ≡ old.journal ++ line ∷ [] → line ≡ line_of (b.version + length h) e → JournalIs old b h → JournalIs new b (h ++ e ∷ [])
journal_more old new b h e line base journal is j = record {
  base = base ∙ j.base;
  lines_are = journal ∙ ap (λ (l : List JournalLine). l ++ line ∷ []) j.lines_are ∙ ap (λ (x : JournalLine). lines b.version h ++ x ∷ []) is ∙ sym (lines-push b.version h e);
}

-- the version of the state is as many above the base's as the history has entries
version_is : (c : CoreState) (b : State) (h : List Entry) → FactsAre c b h → c.state.version ≡ b.version + length h
version_is c b h f = ap (λ (x : Facts). x.version) f ∙ after_version b h

plain_line : (version n session ordinal moment : ℕ) (w : What) → version ≡ n + 1 → mark_of w ≡ mark.Plain → line_at version session ordinal moment ≡ line_of n (entry_at session ordinal moment w)
plain_line version n session ordinal moment w is marked =
    ap (λ (v : ℕ). line_at v session ordinal moment) is
    ∙ ap (λ (m : Mark). let line : JournalLine = record { version = n + 1; session = session; ordinal = ordinal; moment = moment; mark = m } in line) (sym marked)

pub journal_goes : (old new : CoreState) (session ordinal : ℕ) (q : Stmt) (result : Submitted) (b : State) (h : List Entry) → Submits old new session ordinal q result → FactsAre old b h → JournalIs old b h
    → JournalIs new b (h ++ added old new session ordinal q result)
journal_goes old new session ordinal q (submitted.Accepted version rows edge) b h s f j =
    let a : Accepts old new session ordinal new.floor q version rows edge = s.answers in
    let e = entry_at session ordinal new.floor a.entered in
    let is : version ≡ (b.version + length h) + 1 = a.version_is ∙ ap (λ (n : ℕ). n + 1) (version_is old b h f) in
    let line = plain_line version (b.version + length h) session ordinal new.floor a.entered is (plain a.entered (accepted_halts q old.state new.floor a.entered rows a.accepted)) in
    subst (λ (l : List Entry). JournalIs new b (h ++ l)) (sym (added_is session ordinal new.floor (verdict q old.state [] new.floor) a.entered rows a.accepted))
    (journal_more old new b h e (line_at version session ordinal new.floor) a.base a.journal line j)
journal_goes old new session ordinal q (submitted.StoreFault halt) b h s f j =
    let a : Halts old new session ordinal new.floor q halt = s.answers in
    let is : halt ≡ (b.version + length h) + 1 = a.version_is ∙ ap (λ (n : ℕ). n + 1) (version_is old b h f) in
    journal_more old new b h (halt_at new.floor) (halt_line halt new.floor) a.base a.journal (ap (λ (v : ℕ). halt_line v new.floor) is) j
journal_goes old new session ordinal q (submitted.Refused cause prefix) b h s f j =
    let a : Refuses old new new.floor q cause prefix = s.answers in journal_stays old new b h a.keeps j
journal_goes old new session ordinal q submitted.NoMemory b h s f j =
    let a : Lacks old new = s.answers in journal_stays old new b h a.keeps j
journal_goes old new session ordinal q (submitted.Full held) b h s f j = absurd s.answers

-- ---- the image

-- what is told now is so, since it stands so to what was told
is_now : (R : Image → Image → Type 0) (P : Image → Type 0) (old new : Option Image) → ((a b : Image) → R a b → P b) → Along R old new → IfSome new P
is_now R P None None f r = tt
is_now R P (Some a) (Some b) f r = f a b r
is_now R P None (Some b) f r = absurd r
is_now R P (Some a) None f r = absurd r

is_still : (P : Image → Type 0) (old new : Option Image) → ((a b : Image) → KeepsStanding a b → P a → P b) → Along KeepsStanding old new → IfSome old P → IfSome new P
is_still P None None f r p = tt
is_still P (Some a) (Some b) f r p = f a b r p
is_still P None (Some b) f r p = absurd r
is_still P (Some a) None f r p = absurd r

-- a halted image stands for what it stood for
image_by : (halt : Option ℕ) (b : State) (h : List Entry) (x y : Image) → KeepsStanding x y → ImageIsBy halt x b h → ImageIsBy halt y b h
image_by None b h x y keeps is = keeps (after b h) is
image_by (Some version) b h x y keeps is = record {
  before = is.before;
  halt = is.halt;
  is_halt = is.is_halt;
  ends = is.ends;
  tried = is.tried;
  stands = ⊎_elim (λ old_stands. inl (keeps (after b is.before) old_stands)) (λ new_stands. inr (keeps (after b (is.before ++ is.tried ∷ [])) new_stands)) is.stands;
}

image_stays : (old new : CoreState) (b : State) (h : List Entry) → KeepsHistory old new → Along KeepsStanding old.told new.told → ImageIs old b h → ImageIs new b (h ++ [])
image_stays old new b h keeps along image =
    let still = is_still (λ (x : Image). ImageIsBy old.state.halt x b h) old.told new.told (image_by old.state.halt b h) along image in
    let halt = subst (λ (s : State). IfSome new.told (λ x. ImageIsBy s.halt x b h)) (sym keeps.state) still in
    subst (λ (l : List Entry). IfSome new.told (λ x. ImageIsBy new.state.halt x b l)) (sym (append-nil h)) halt

same_image : (told : Option Image) → Along KeepsStanding told told
same_image None = tt
same_image (Some x) = λ s stands. stands

pub image_goes : (old new : CoreState) (session ordinal : ℕ) (q : Stmt) (result : Submitted) (b : State) (h : List Entry) → Submits old new session ordinal q result → FactsAre old b h → RowsAre old b h → ImageIs old b h
    → ImageIs new b (h ++ added old new session ordinal q result)
image_goes old new session ordinal q (submitted.Accepted version rows edge) b h s f r image =
    let a : Accepts old new session ordinal new.floor q version rows edge = s.answers in
    let l = h ++ added old new session ordinal q (submitted.Accepted version rows edge) in
    let is = state_goes old new session ordinal q (submitted.Accepted version rows edge) b h s f r in
    let none : new.state.halt ≡ None = ap (λ (x : State). x.halt) a.state ∙ entry_halts q old.state session ordinal new.floor a.entered rows a.accepted ∙ going q old.state new.floor a.entered rows a.accepted in
    subst (λ (halt : Option ℕ). IfSome new.told (λ x. ImageIsBy halt x b l)) (sym none)
    (is_now (StandsFor new.state) (λ (x : Image). Stands x (after b l)) old.told new.told (λ x y stands. subst (λ (t : State). Stands y t) is stands) a.image)
image_goes old new session ordinal q (submitted.StoreFault halt) b h s f r image =
    let a : Halts old new session ordinal new.floor q halt = s.answers in
    let e = entry_at session ordinal new.floor a.tried in
    let l = h ++ halt_at new.floor ∷ [] in
    let was = whole old b h s.layers f r in
    let tried : step (old.state ∷ []) e ≡ after b (h ++ e ∷ []) = ap (λ (x : State). step (x ∷ []) e) was ∙ sym (after-push b h e (entry_alone q old.state session ordinal new.floor a.tried a.rows a.accepted)) in
    let stopped : new.state.halt ≡ Some (old.state.version + 1) = ap (λ (x : State). x.halt) a.state in
    subst (λ (o : Option ℕ). IfSome new.told (λ x. ImageIsBy o x b l)) (sym stopped)
    (is_now (StandsForEither old.state (step (old.state ∷ []) e)) (λ (x : Image). HaltedAt x b l) old.told new.told
    (λ x y stands. record {
      before = h;
      halt = halt_at new.floor;
      is_halt = refl;
      ends = refl;
      tried = e;
      stands = ⊎_elim (λ old_stands. inl (subst (λ (t : State). Stands y t) was old_stands)) (λ new_stands. inr (subst (λ (t : State). Stands y t) tried new_stands)) stands;
    })
    a.image)
image_goes old new session ordinal q (submitted.Refused cause prefix) b h s f r image =
    let a : Refuses old new new.floor q cause prefix = s.answers in
    image_stays old new b h a.keeps (subst (λ (o : Option Image). Along KeepsStanding old.told o) (sym a.told) (same_image old.told)) image
image_goes old new session ordinal q submitted.NoMemory b h s f r image =
    let a : Lacks old new = s.answers in image_stays old new b h a.keeps a.image image
image_goes old new session ordinal q (submitted.Full held) b h s f r image = absurd s.answers

-- ---- the floor and the clock

floor_stays : (old new : CoreState) (b : State) (h : List Entry) → TakesMoment old new → FloorIs old b h → FloorIs new b (h ++ [])
floor_stays old new b h t floor = omega (arith, ap (λ (s : State). s.moment) (after_none b h), t.floor, floor)

floor_more : (new : CoreState) (b : State) (h : List Entry) (e : Entry) → LooksAtNone e → e.moment ≡ new.floor → FloorIs new b (h ++ e ∷ [])
floor_more new b h e alone moment = omega (arith, ap (λ (s : State). s.moment) (after-push b h e alone), step_moment (after b h ∷ []) e, moment)

pub floor_goes : (old new : CoreState) (session ordinal : ℕ) (q : Stmt) (result : Submitted) (b : State) (h : List Entry) → Submits old new session ordinal q result → FloorIs old b h
    → FloorIs new b (h ++ added old new session ordinal q result)
floor_goes old new session ordinal q (submitted.Accepted version rows edge) b h s floor =
    let a : Accepts old new session ordinal new.floor q version rows edge = s.answers in
    subst (λ (l : List Entry). FloorIs new b (h ++ l)) (sym (added_is session ordinal new.floor (verdict q old.state [] new.floor) a.entered rows a.accepted))
    (floor_more new b h (entry_at session ordinal new.floor a.entered) (entry_alone q old.state session ordinal new.floor a.entered rows a.accepted) refl)
floor_goes old new session ordinal q (submitted.StoreFault halt) b h s floor = floor_more new b h (halt_at new.floor) (halt_alone new.floor) refl
floor_goes old new session ordinal q (submitted.Refused cause prefix) b h s floor = floor_stays old new b h s.takes floor
floor_goes old new session ordinal q submitted.NoMemory b h s floor = floor_stays old new b h s.takes floor
floor_goes old new session ordinal q (submitted.Full held) b h s floor = absurd s.answers

pub clock_goes : (opened : Option (List ℕ)) (old new : CoreState) (session ordinal : ℕ) (q : Stmt) (result : Submitted) (b : State) (h : List Entry) → Submits old new session ordinal q result → ClockIs opened old b h
    → ClockIs opened new b (h ++ added old new session ordinal q result)
clock_goes opened old new session ordinal q (submitted.Accepted version rows edge) b h s clock =
    let a : Accepts old new session ordinal new.floor q version rows edge = s.answers in
    subst (λ (l : List Entry). ClockIs opened new b (h ++ l)) (sym (added_is session ordinal new.floor (verdict q old.state [] new.floor) a.entered rows a.accepted))
    (clock_more opened old new s.takes.now b h (entry_at session ordinal new.floor a.entered) s.takes.reads s.takes.floor refl clock)
clock_goes opened old new session ordinal q (submitted.StoreFault halt) b h s clock = clock_more opened old new s.takes.now b h (halt_at new.floor) s.takes.reads s.takes.floor refl clock
clock_goes opened old new session ordinal q (submitted.Refused cause prefix) b h s clock = clock_stays opened old new s.takes.now b h s.takes.reads s.takes.floor clock
clock_goes opened old new session ordinal q submitted.NoMemory b h s clock = clock_stays opened old new s.takes.now b h s.takes.reads s.takes.floor clock
clock_goes opened old new session ordinal q (submitted.Full held) b h s clock = absurd s.answers

-- ---- legal histories

legal_stays : (b : State) (h : List Entry) (asked : List (Option Stmt)) → Legal b h asked → Legal b (h ++ []) (asked ++ [])
legal_stays b h asked legal =
    subst (λ (l : List Entry). Legal b l (asked ++ [])) (sym (append-nil h)) (subst (λ (l : List (Option Stmt)). Legal b h l) (sym (append-nil asked)) legal)

since_then : (old new : CoreState) (b : State) (h : List Entry) → TakesMoment old new → old.state ≡ after b h → (after b h).moment ≤ new.floor
since_then old new b h t was = omega (arith, ap (λ (s : State). s.moment) was, t.since)

pub legal_goes : (old new : CoreState) (session ordinal : ℕ) (q : Stmt) (result : Submitted) (b : State) (h : List Entry) (asked : List (Option Stmt)) → 1 ≤ session → session ≤ SESSIONS → Submits old new session ordinal q result
    → FactsAre old b h → RowsAre old b h → Legal b h asked → Legal b (h ++ added old new session ordinal q result) (asked ++ asked_by q result)
legal_goes old new session ordinal q (submitted.Accepted version rows edge) b h asked from_one most s f r legal =
    let a : Accepts old new session ordinal new.floor q version rows edge = s.answers in
    let was = whole old b h s.layers f r in
    let e = entry_at session ordinal new.floor a.entered in
    let may : IsEntryOf q (after b h) e = record { rows = rows; accepted = subst (λ (x : State). verdict q x [] new.floor ≡ Accept a.entered rows) was a.accepted; from_one = from_one; session = most } in
    let none : (after b h).halt ≡ None = subst (λ (x : State). x.halt ≡ None) was (going q old.state new.floor a.entered rows a.accepted) in
    subst (λ (l : List Entry). Legal b (h ++ l) (asked ++ Some q ∷ [])) (sym (added_is session ordinal new.floor (verdict q old.state [] new.floor) a.entered rows a.accepted))
    (legal-push (b ∷ []) h asked e (Some q) none (since_then old new b h s.takes was) may legal)
legal_goes old new session ordinal q (submitted.StoreFault halt) b h asked from_one most s f r legal =
    let a : Halts old new session ordinal new.floor q halt = s.answers in
    let was = whole old b h s.layers f r in
    let none : (after b h).halt ≡ None = subst (λ (x : State). x.halt ≡ None) was (going q old.state new.floor a.tried a.rows a.accepted) in
    legal-push (b ∷ []) h asked (halt_at new.floor) None none (since_then old new b h s.takes was) (refl, refl) legal
legal_goes old new session ordinal q (submitted.Refused cause prefix) b h asked from_one most s f r legal = legal_stays b h asked legal
legal_goes old new session ordinal q submitted.NoMemory b h asked from_one most s f r legal = legal_stays b h asked legal
legal_goes old new session ordinal q (submitted.Full held) b h asked from_one most s f r legal = absurd s.answers
