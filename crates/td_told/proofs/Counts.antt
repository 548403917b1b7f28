-- Statements whose ordinals count those of their session.
use Rattle.std.proofs.Common.{◌≡◌, inl, inr, ℕ, ◌+◌, ◌≤◌, ◌<◌, ◌==◌, ◌&&◌, Bool, true, false, cond, List, [], ◌∷◌, ◌++◌, Some, None, refl, sym, ap, ◌∙◌, arith}
use Rattle.std.proofs.lemmas.Bool.{eq-eqb}
use Rattle.std.proofs.lemmas.Bool.Decides.{eqb_tells}
use Rattle.td_model.specs.declared.report.JournalLine.{JournalLine}
use Rattle.td_told.specs.Asked.{Asked, statement_at, count_of}
use Rattle.td_told.specs.Journal.{Rising, lines_of}

pub count_more : (session : ℕ) (front : List Asked) (a : Asked) → count_of session (front ++ a ∷ []) ≡ cond (a.session == session) (count_of session front + 1) (count_of session front)
count_more session [] a = refl
count_more session (x ∷ front) a = elim (x.session == session) as (λ b. cond b (count_of session (front ++ a ∷ []) + 1) (count_of session (front ++ a ∷ [])) ≡ cond (a.session == session) (cond b (count_of session front + 1) (count_of session front) + 1) (cond b (count_of session front + 1) (count_of session front))) [
  | true ↦ ap (λ n. n + 1) (count_more session front a) ∙ one_deeper (a.session == session) (count_of session front)
  | false ↦ count_more session front a
] where
  one_deeper : (b : Bool) (n : ℕ) → cond b (n + 1) n + 1 ≡ cond b (n + 1 + 1) (n + 1)
  one_deeper true n = refl
  one_deeper false n = refl

-- no statement has an ordinal above the count of its session
abbrev pub Unseen : List Asked → Type 0
Unseen front = (session ordinal : ℕ) → count_of session front < ordinal → statement_at front session ordinal ≡ None

pub statement_after : (front : List Asked) (rest : List Asked) (session ordinal : ℕ) → statement_at front session ordinal ≡ None → statement_at (front ++ rest) session ordinal ≡ statement_at rest session ordinal
statement_after [] rest session ordinal none = refl
statement_after (x ∷ front) rest session ordinal none = elim ((x.session == session) && (x.ordinal == ordinal)) as (λ b. cond b (Some x.stmt) (statement_at front session ordinal) ≡ None → cond b (Some x.stmt) (statement_at (front ++ rest) session ordinal) ≡ statement_at rest session ordinal) [
  | true ↦ λ no. cc
  | false ↦ λ later. statement_after front rest session ordinal later
] none

-- what a statement more does to the count of a session
record Grows (session : ℕ) (front : List Asked) (a : Asked) : Type 0 where
  most : count_of session front ≤ count_of session (front ++ a ∷ [])
  own : a.session ≡ session → count_of session (front ++ a ∷ []) ≡ count_of session front + 1

grows_by : (b : Bool) (session : ℕ) (front : List Asked) (a : Asked) → count_of session (front ++ a ∷ []) ≡ cond b (count_of session front + 1) (count_of session front) → (a.session ≡ session → b ≡ true) → Grows session front a
grows_by b session front a e holds = elim b as (λ x. count_of session (front ++ a ∷ []) ≡ cond x (count_of session front + 1) (count_of session front) → (a.session ≡ session → x ≡ true) → Grows session front a) [
  | true ↦ λ e holds. record { most = omega (arith, e); own = λ same. e }
  | false ↦ λ e holds. record { most = omega (arith, e); own = λ same. let no : false ≡ true = holds same in cc }
] e holds

grows : (session : ℕ) (front : List Asked) (a : Asked) → Grows session front a
grows session front a = grows_by (a.session == session) session front a (count_more session front a) (λ same. eq-eqb a.session session same)

last_none : (a : Asked) (session ordinal : ℕ) → (a.session ≡ session → a.ordinal < ordinal) → statement_at (a ∷ []) session ordinal ≡ None
last_none a session ordinal less = elim (eqb_tells a.session session) [
  | inl s ↦ elim (eqb_tells a.ordinal ordinal) [
    | inl o ↦ absurd (omega (arith, less s.1, o.1))
    | inr o ↦ rw (s.0, o.0) refl
  ]
  | inr s ↦ rw s.0 refl
]

pub unseen_more : (front : List Asked) (a : Asked) → a.ordinal ≡ count_of a.session front + 1 → Unseen front → Unseen (front ++ a ∷ [])
unseen_more front a e unseen session ordinal l =
    let g = grows session front a in
    let one : a.session ≡ session → a.ordinal < ordinal = λ same. let c : count_of a.session front ≡ count_of session front = ap (λ s. count_of s front) same in omega (arith, e, c, g.own same, l) in
    statement_after front (a ∷ []) session ordinal (unseen session ordinal (omega (arith, g.most, l))) ∙ last_none a session ordinal one

-- the statement that its session and ordinal name
pub statement_here : (front rest : List Asked) (a : Asked) → a.ordinal ≡ count_of a.session front + 1 → Unseen front → statement_at (front ++ a ∷ rest) a.session a.ordinal ≡ Some a.stmt
statement_here front rest a e unseen =
    statement_after front (a ∷ rest) a.session a.ordinal (unseen a.session a.ordinal (omega (arith, e)))
    ∙ rw (eq-eqb a.session a.session refl, eq-eqb a.ordinal a.ordinal refl) refl

rising_weaker : (n m : ℕ) (js : List JournalLine) → n ≤ m → Rising m js → Rising n js
rising_weaker n m [] l r = tt
rising_weaker n m (j ∷ js) l r = (omega (arith, l, r.0), r.1)

-- the ordinals of a session's lines rise above the count of its statements before
abbrev pub RisesAfter : List Asked → List JournalLine → Type 0
RisesAfter front js = (session : ℕ) → 0 < session → Rising (count_of session front) (lines_of session js)

pub rises_without : (front : List Asked) (a : Asked) (js : List JournalLine) → RisesAfter (front ++ a ∷ []) js → RisesAfter front js
rises_without front a js later session some = rising_weaker (count_of session front) (count_of session (front ++ a ∷ [])) (lines_of session js) (grows session front a).most (later session some)

-- a line of no session rises nowhere
pub rises_beside : (front : List Asked) (a : Asked) (j : JournalLine) (js : List JournalLine) → j.session ≡ 0 → RisesAfter (front ++ a ∷ []) js → RisesAfter front (j ∷ js)
rises_beside front a j js none later session some = elim (eqb_tells j.session session) [
  | inl h ↦ absurd (omega (arith, none, h.1, some))
  | inr h ↦ rw h.0 (rises_without front a js later session some)
]

pub rises_with : (front : List Asked) (a : Asked) (j : JournalLine) (js : List JournalLine) → a.ordinal ≡ count_of a.session front + 1 → j.session ≡ a.session → j.ordinal ≡ a.ordinal → RisesAfter (front ++ a ∷ []) js → RisesAfter front (j ∷ js)
rises_with front a j js e s o later session some = elim (eqb_tells j.session session) [
  | inl h ↦
      let same : a.session ≡ session = sym s ∙ h.1 in
      let c : count_of a.session front ≡ count_of session front = ap (λ x. count_of x front) same in
      let own = (grows session front a).own same in
      rw h.0 (omega (arith, e, c, o), rising_weaker j.ordinal (count_of session (front ++ a ∷ [])) (lines_of session js) (omega (arith, own, e, c, o)) (later session some))
  | inr h ↦ rw h.0 (rises_without front a js later session some)
]
