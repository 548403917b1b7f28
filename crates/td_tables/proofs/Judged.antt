-- What a write is accepted as may come next in a state.
use Rattle.std.proofs.Common.{◌≡◌, ℕ, Bool, true, false, [], ◌∷◌, Option, Some, None, Result, Ok, Err, ◌<◌, refl, subst, arith}
use Rattle.std.specs.Prelude.{nat_le, IfOk}
use Rattle.std.proofs.lemmas.Bool.Decides.{nat_tests}
use Rattle.td_limits.specs.declared.limits.TheConstants.{LAST_VERSION}
use Rattle.td_model.specs.declared.history.What.{What}
use Rattle.td_model.specs.declared.report.Cause.{Cause}
use Rattle.td_model.specs.declared.report.Cause.TheVariants.{TooManyVersions}
use Rattle.td_model.specs.Catalog.{Catalog}
use Rattle.td_model.specs.State.{State}
use Rattle.td_catalog.specs.Kept.{CanFollow}
use Rattle.td_verdict.specs.Causes.{when, first_cause}
use Rattle.td_verdict.specs.Sound.{IsFromEdge}
use Rattle.td_told.specs.Verdict.{halt_cause, closed_cause}
use Rattle.td_tables.specs.Held.{CanTake}

pub takes_by : (answer : Result (What × ℕ) Cause) (c : Catalog) (edge : ℕ) (s : State) → c ≡ s.catalog → edge ≡ s.edge → IfOk answer (λ a. CanFollow a.0 c) → IfOk answer (λ a. IsFromEdge edge a.0) → s.version < LAST_VERSION → IfOk answer (λ a. CanTake a.0 s)
takes_by (Ok a) c edge s catalog at follows from version = record {
  follows = subst (CanFollow a.0) catalog follows;
  edge = subst (λ (e : ℕ). IsFromEdge e a.0) at from;
  version = version;
}
takes_by (Err cause) c edge s catalog at follows from version = tt

-- a state that isn't closed has a version to come
pub not_closed : (s : State) → closed_cause s ≡ None → s.version < LAST_VERSION
not_closed s h = by (halt_cause s.halt) (nat_le LAST_VERSION s.version) refl h
  where
    by : (o : Option Cause) (b : Bool) → nat_le LAST_VERSION s.version ≡ b → first_cause (o ∷ when b TooManyVersions ∷ []) ≡ None → s.version < LAST_VERSION
    by (Some cause) b e h = absurd cc
    by None true e h = absurd cc
    by None false e h = grind (arith, nat_tests, e)
