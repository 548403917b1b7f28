-- What a pinned query holds, and what a pin answers.
use Rattle.std.specs.Prelude.{◌≡◌, ℕ, List, []}
use Rattle.td_model.specs.declared.history.Entry.{Entry}
use Rattle.td_model.specs.declared.history.Verdict.{Verdict}
use Rattle.td_model.specs.declared.language.Query.{Query}
use Rattle.td_model.specs.declared.language.Stmt.TheVariants as stmt
use Rattle.td_model.specs.declared.plan.Plan.{Plan}
use Rattle.td_model.specs.State.{State, Rows, at}
use Rattle.td_verdict.specs.Answers.{header}
use Rattle.td_verdict.specs.Plans.{plan_of}
use Rattle.td_verdict.specs.Sound.{IsSound}
use Rattle.td_told.specs.Verdict.{verdict}

-- What a pinned query keeps: the version of the state that it sees, its plan and its header there, the rows of that
-- state, and how many rows of its answer were given; and the slots of the room that it was given.
pub record PinnedQuery : Type 0 where
  pub prefix : ℕ
  pub plan : Plan
  pub header : List (List ℕ)
  pub rows : Rows
  pub given : ℕ
  pub slots : ℕ

-- The pinned query sees a state: its plan and its header are those of the query there, it has its rows, and so many
-- rows of the answer were given.
pub record Sees (p : PinnedQuery) (q : Query) (s : State) (i : ℕ) : Type 0 where
  pub sound : IsSound s
  pub prefix : p.prefix ≡ s.version
  pub plan : p.plan ≡ plan_of q s.catalog
  pub header : p.header ≡ header q s.catalog
  pub rows : p.rows ≡ s.rows
  pub given : p.given ≡ i

-- the same of the state at a version of a history
abbrev pub Holds : PinnedQuery → Query → State → List Entry → ℕ → ℕ → Type 0
Holds p q b h n i = Sees p q (at b h n) i

-- what a query meets in a state: it has no moment, and no cursor has a part in it
abbrev pub met : Query → State → Verdict
met q s = verdict (stmt.Select q) s [] 0
