-- The statements of a script.
use Rattle.std.specs.Prelude.{◌≡◌, ℕ, ◌+◌, ◌&&◌, ◌==◌, if◌then◌else◌, List, [], ◌∷◌, ◌++◌, Option, Some, None}
use Rattle.td_model.specs.declared.language.Stmt.{Stmt}

-- a statement with its phase, its session, and its ordinal among those of its session, each from 1
pub record Asked : Type 0 where
  pub phase : ℕ
  pub session : ℕ
  pub ordinal : ℕ
  pub stmt : Stmt

-- the statement of a session and ordinal
abbrev pub statement_at : List Asked → ℕ → ℕ → Option Stmt
statement_at [] session ordinal = None
statement_at (a ∷ script) session ordinal =
    if (a.session == session) && (a.ordinal == ordinal) then Some a.stmt else statement_at script session ordinal

-- how many statements a session has
abbrev pub count_of : ℕ → List Asked → ℕ
count_of session [] = 0
count_of session (a ∷ script) = if a.session == session then count_of session script + 1 else count_of session script

-- the ordinals count the statements of each session, after those before
abbrev pub Counted : List Asked → List Asked → Type 0
Counted before [] = Unit {0}
Counted before (a ∷ script) = (a.ordinal ≡ count_of a.session before + 1) × Counted (before ++ a ∷ []) script
