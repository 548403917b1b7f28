-- One entry more at the end of a history.
use Rattle.std.proofs.Common.{◌≡◌, ◌⊎◌, inl, inr, ℕ, zero, suc, ◌+◌, ◌≤◌, Bool, true, false, not, cond, List, [], ◌∷◌, ◌++◌, length, Option, Some, None, slice_get, refl, sym, ap, subst, ◌∙◌, arith}
use Rattle.std.proofs.lemmas.List.{append-nil}
use Rattle.std.proofs.lemmas.List.Elements.{filter-append}
use Rattle.td_model.specs.declared.history.What.{What}
use Rattle.td_model.specs.declared.history.Entry.{Entry}
use Rattle.td_model.specs.declared.history.Verdict.TheVariants.{Accept}
use Rattle.td_model.specs.declared.language.Stmt.{Stmt}
use Rattle.td_model.specs.declared.report.JournalLine.{JournalLine}
use Rattle.td_model.specs.State.{State, newest, step, trail, after}
use Rattle.td_model.proofs.Steps.{step_version}
use Rattle.td_told.specs.Journal.{halt_at}
use Rattle.td_told.specs.Times.{is_halt, without_halts}
use Rattle.td_told.specs.Turn.{entry_at}
use Rattle.td_told.specs.Verdict.{verdict}
use Rattle.td_told.proofs.Fits.{Fits, fits, step_alone}
use Rattle.td_engine.specs.Covers.{line_of, lines, MayStand, AreLegal}

-- ---- the state

trail_ends : (s : State) (past : List State) (h : List Entry) → (older : List State) × (trail (s ∷ past) h ≡ newest (trail (s ∷ past) h) ∷ older)
trail_ends s past [] = (past, refl)
trail_ends s past (e ∷ h) = trail_ends (step (s ∷ past) e) (s ∷ past) h

trail-push : (past : List State) (h : List Entry) (e : Entry) → trail past (h ++ e ∷ []) ≡ step (trail past h) e ∷ trail past h
trail-push past [] e = refl
trail-push past (x ∷ h) e = trail-push (step past x ∷ past) h e

-- what an entry does looks at no state before the newest
abbrev pub LooksAtNone : Entry → Type 0
LooksAtNone e = (s : State) (older : List State) → step (s ∷ []) e ≡ step (s ∷ older) e

pub halt_alone : (moment : ℕ) → LooksAtNone (halt_at moment)
halt_alone moment s older = refl

pub entry_alone : (q : Stmt) (s : State) (session ordinal moment : ℕ) (w : What) (rows : ℕ) → verdict q s [] moment ≡ Accept w rows → LooksAtNone (entry_at session ordinal moment w)
entry_alone q s session ordinal moment w rows e t older =
    step_alone q t older (entry_at session ordinal moment w) (subst (Fits q) e (fits q s [] moment)).0

-- the state after a history and an entry is what the entry makes of the state after the history
pub after-push : (b : State) (h : List Entry) (e : Entry) → LooksAtNone e → after b (h ++ e ∷ []) ≡ step (after b h ∷ []) e
after-push b h e alone =
    let t = trail_ends b [] h in
    ap newest (trail-push (b ∷ []) h e) ∙ ap (λ (past : List State). step past e) t.1 ∙ sym (alone (after b h) t.0)

pub after_none : (b : State) (h : List Entry) → after b (h ++ []) ≡ after b h
after_none b h = ap (after b) (append-nil h)

trail_version : (past : List State) (h : List Entry) → (newest (trail past h)).version ≡ (newest past).version + length h
trail_version past [] = omega arith
trail_version past (e ∷ h) = omega (arith, trail_version (step past e ∷ past) h, step_version past e)

pub after_version : (b : State) (h : List Entry) → (after b h).version ≡ b.version + length h
after_version b h = trail_version (b ∷ []) h

-- ---- the journal

pub lines-push : (version : ℕ) (h : List Entry) (e : Entry) → lines version (h ++ e ∷ []) ≡ lines version h ++ line_of (version + length h) e ∷ []
lines-push version [] e =
    let none : version ≡ version + 0 = omega arith in
    ap (λ (n : ℕ). line_of n e ∷ []) none
lines-push version (x ∷ h) e =
    let more : (version + 1) + length h ≡ version + suc (length h) = omega arith in
    ap (λ (l : List JournalLine). line_of version x ∷ l)
    (lines-push (version + 1) h e ∙ ap (λ (n : ℕ). lines (version + 1) h ++ line_of n e ∷ []) more)

-- ---- the entries that aren't halts

kept : (e : Entry) (b : Bool) → is_halt e.what ≡ b → without_halts (e ∷ []) ≡ cond b [] (e ∷ [])
kept e true is = ap (λ (b : Bool). cond (not b) (e ∷ []) []) is
kept e false is = ap (λ (b : Bool). cond (not b) (e ∷ []) []) is

pub halt_kept : (h : List Entry) (e : Entry) → is_halt e.what ≡ true → without_halts (h ++ e ∷ []) ≡ without_halts h
halt_kept h e is =
    filter-append (λ (x : Entry). not (is_halt x.what)) h (e ∷ [])
    ∙ ap (λ (l : List Entry). without_halts h ++ l) (kept e true is) ∙ append-nil (without_halts h)

pub entry_kept : (h : List Entry) (e : Entry) → is_halt e.what ≡ false → without_halts (h ++ e ∷ []) ≡ without_halts h ++ e ∷ []
entry_kept h e is =
    filter-append (λ (x : Entry). not (is_halt x.what)) h (e ∷ [])
    ∙ ap (λ (l : List Entry). without_halts h ++ l) (kept e false is)

some_is : (a b : Entry) → Some a ≡ Some b → a ≡ b
some_is a b e = cc

some_none : (a : Entry) → Some a ≡ None → ⊥
some_none a e = cc

-- an item of a list with one more is one of the list, or the last
pub get_pushed : (h : List Entry) (e x : Entry) (k : ℕ) → slice_get (h ++ e ∷ []) k ≡ Some x → (slice_get h k ≡ Some x) ⊎ ((k ≡ length h) × (e ≡ x))
get_pushed [] e x zero is = inr (refl, some_is e x is)
get_pushed [] e x (suc k) is = absurd (some_none x (sym is))
get_pushed (y ∷ h) e x zero is = inl is
get_pushed (y ∷ h) e x (suc k) is = elim (get_pushed h e x k is) [
  | inl earlier ↦ inl earlier
  | inr last ↦ inr (ap suc last.0, last.1)
]

-- ---- legal histories

abbrev Halt : Option ℕ → Type 0
Halt o = o ≡ None

halted : (past : List State) (moment : ℕ) → Halt (step past (halt_at moment)).halt → ⊥
halted past moment none = cc

-- where the state after a legal history has no halt, an entry may come that may stand there
pub legal-push : (past : List State) (h : List Entry) (asked : List (Option Stmt)) (e : Entry) (q : Option Stmt) → (newest (trail past h)).halt ≡ None → (newest (trail past h)).moment ≤ e.moment
    → MayStand q (newest (trail past h)) e [] → AreLegal past h asked → AreLegal past (h ++ e ∷ []) (asked ++ q ∷ [])
legal-push past [] [] e q going since may legal = (since, may, tt)
legal-push past [] (o ∷ asked) e q going since may legal = absurd legal
legal-push past (x ∷ h) [] e q going since may legal = absurd legal
legal-push past (x ∷ h) (Some a ∷ asked) e q going since may legal = (legal.0, legal.1, legal-push (step past x ∷ past) h asked e q going since may legal.2)
legal-push past (x ∷ h) (None ∷ asked) e q going since may legal =
    let here : Halt (step past x).halt = subst (λ (l : List Entry). Halt (newest (trail (step past x ∷ past) l)).halt) legal.1.1 going in
    absurd (halted past x.moment (subst (λ (y : Entry). Halt (step past y).halt) legal.1.0 here))
