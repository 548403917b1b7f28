-- What contracts see of a gate that holds sessions.
use Rattle.std.specs.Prelude.{ℕ, List}
use Rattle.td_gate.specs.declared.holding.Hold.{Hold}

-- its rules, and how often it looks at most whether one is met
pub record Guard : Type 0 where
  pub rules : List Hold
  pub limit : ℕ
