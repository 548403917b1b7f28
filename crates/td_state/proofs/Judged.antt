-- What a write is accepted as may come next in a state.
use Rattle.std.proofs.Common.{◌≡◌, ℕ, ◌-◌, ◌/◌, ◌≤◌, max, Bool, true, false, not, cond, List, [], ◌∷◌, map, length, Option, Some, None, Result, Ok, Err, ◌<◌, refl, sym, subst, arith}
use Rattle.std.specs.Prelude.{nat_le, IfOk, ℤ, pos, int_lt, ⊤}
use Rattle.std.specs.Int.{int_max, int_min}
use Rattle.std.proofs.lemmas.Bool.Decides.{nat_tests}
use Rattle.td_limits.specs.declared.limits.TheConstants.{DAY_RANGE, KEEP, LAST_DAY_RANGE, LAST_TIMESTAMP, LAST_VERSION}
use Rattle.td_model.specs.declared.catalog.Column.{Column}
use Rattle.td_model.specs.declared.history.Verdict.{Verdict}
use Rattle.td_model.specs.declared.history.Verdict.TheVariants.{Accept, Pass, Refuse}
use Rattle.td_model.specs.declared.history.What.TheVariants as what
use Rattle.td_model.specs.declared.language.Stmt.{Stmt}
use Rattle.td_model.specs.declared.language.Stmt.TheVariants as stmt
use Rattle.td_model.specs.declared.report.Cause.TheVariants as cause
use Rattle.td_model.specs.declared.history.What.{What}
use Rattle.td_model.specs.declared.report.Cause.{Cause}
use Rattle.td_model.specs.declared.report.Cause.TheVariants.{TooManyVersions}
use Rattle.td_model.specs.Catalog.{Catalog, stable_named, table_named, stream_named}
use Rattle.td_model.specs.State.{State}
use Rattle.td_catalog.specs.Kept.{CanFollow}
use Rattle.td_verdict.specs.Causes.{when, first_cause, accepted_or}
use Rattle.td_verdict.specs.Names.{is_stream, number_or_none, stable_schema, table_schema}
use Rattle.td_verdict.specs.Writes.{bound_of, chosen, cut_between, cut_of, definition_cause, delete_cause, groups_cause, groups_verdict, list_cause, make_sub_cause, put_of, refused_or, tag_cells, time_from, write_verdict, written_cause}
use Rattle.td_bind.specs.Answers.{verdict_of}
use Rattle.td_verdict.specs.Sound.{IsFromEdge}
use Rattle.td_told.specs.Verdict.{halt_cause, closed_cause}
use Rattle.td_state.specs.Held.{CanTake, EndsInTime}

-- ---- the edge lies in the range of time

abbrev Ends : Verdict → Type 0
Ends (Accept w n) = EndsInTime w
Ends (Refuse why) = ⊤
Ends Pass = ⊤

by_cause : (why : Option Cause) (w : What) (n : ℕ) → EndsInTime w → Ends (accepted_or why w n)
by_cause None w n h = h
by_cause (Some cause) w n h = tt

by_refusal : (why : Option Cause) (v : Verdict) → Ends v → Ends (refused_or why v)
by_refusal None v h = h
by_refusal (Some cause) v h = tt

cut_ends : (table : ℕ) (lo hi : ℤ) → EndsInTime (cut_between table lo hi)
cut_ends table lo hi = by (int_lt hi lo)
  where
    by : (b : Bool) → EndsInTime (cond b (what.Cut table 1 0) (what.Cut table (time_from lo) (time_from hi)))
    by true = tt
    by false = tt

edge_in_time : (edge moment : ℕ) → edge ≤ LAST_DAY_RANGE → moment ≤ LAST_TIMESTAMP → max edge ((moment - KEEP) / DAY_RANGE) ≤ LAST_DAY_RANGE
edge_in_time edge moment h k = omega arith

verdict_ends : (q : Stmt) (c : Catalog) (edge moment : ℕ) → edge ≤ LAST_DAY_RANGE → moment ≤ LAST_TIMESTAMP → Ends (write_verdict q c edge moment)
verdict_ends (stmt.MakeStable name columns None) c edge moment h k = tt
verdict_ends (stmt.MakeStable name columns (Some tags)) c edge moment h k = by_cause (definition_cause name columns tags c) (what.MakeStable name (record { columns = columns; tags = tags })) 0 tt
verdict_ends (stmt.MakeTable name columns) c edge moment h k = by_cause (definition_cause name columns [] c) (what.MakeTable name columns) 0 tt
verdict_ends (stmt.MakeSub name stable lits) c edge moment h k =
    let tags : List Column = (stable_schema (stable_named stable c) c).tags in
    by_cause (make_sub_cause name stable tags lits moment c) (what.MakeSub name (number_or_none (stable_named stable c)) (tag_cells moment tags lits)) 0 tt
verdict_ends (stmt.Insert table names groups) c edge moment h k =
    let columns : List Column = (table_schema (table_named table c) c).columns in
    let places : List Column = chosen columns names in
    by_refusal (first_cause (written_cause table c ∷ list_cause columns names ∷ [])) (groups_verdict (number_or_none (table_named table c)) columns places groups edge moment)
    (by_cause (groups_cause columns places groups edge moment) (what.Put (map (put_of (number_or_none (table_named table c)) columns places moment) groups)) (length groups) tt)
verdict_ends (stmt.Delete table column lo hi) c edge moment h k =
    let columns : List Column = (table_schema (table_named table c) c).columns in
    by_cause (delete_cause table columns column lo hi moment c) (cut_of (number_or_none (table_named table c)) (bound_of moment lo) (bound_of moment hi)) 0
    (cut_ends (number_or_none (table_named table c)) (int_max (bound_of moment lo) (pos 0)) (int_min (bound_of moment hi) (pos LAST_TIMESTAMP)))
verdict_ends stmt.Trim c edge moment h k = edge_in_time edge moment h k
verdict_ends (stmt.DropStream name) c edge moment h k = by_cause (when (not (is_stream name c)) cause.UnknownStream) (what.DropStream (number_or_none (stream_named name c))) 0 tt
verdict_ends (stmt.MakeStream def) c edge moment h k = tt
verdict_ends (stmt.Wrong why) c edge moment h k = tt
verdict_ends (stmt.Select query) c edge moment h k = tt
verdict_ends (stmt.OpenCursor cursor query) c edge moment h k = tt
verdict_ends (stmt.Fetch cursor rows) c edge moment h k = tt
verdict_ends (stmt.CloseCursor cursor) c edge moment h k = tt
verdict_ends stmt.Commit c edge moment h k = tt
verdict_ends stmt.Merge c edge moment h k = tt
verdict_ends stmt.Sweep c edge moment h k = tt
verdict_ends (stmt.Step stream) c edge moment h k = tt

answer_ends : (q : Stmt) (c : Catalog) (edge moment : ℕ) (answer : Result (What × ℕ) Cause) → edge ≤ LAST_DAY_RANGE → moment ≤ LAST_TIMESTAMP → verdict_of answer ≡ write_verdict q c edge moment → IfOk answer (λ a. EndsInTime a.0)
answer_ends q c edge moment (Ok a) h k e = subst Ends (sym e) (verdict_ends q c edge moment h k)
answer_ends q c edge moment (Err cause) h k e = tt

-- ---- the whole

all_three : (answer : Result (What × ℕ) Cause) (c : Catalog) (edge : ℕ) (s : State) → c ≡ s.catalog → edge ≡ s.edge → IfOk answer (λ a. CanFollow a.0 c) → IfOk answer (λ a. IsFromEdge edge a.0) → IfOk answer (λ a. EndsInTime a.0) → s.version < LAST_VERSION → IfOk answer (λ a. CanTake a.0 s)
all_three (Ok a) c edge s catalog at follows from ends version = record {
  follows = subst (CanFollow a.0) catalog follows;
  edge = subst (λ (e : ℕ). IsFromEdge e a.0) at from;
  ends = ends;
  version = version;
}
all_three (Err cause) c edge s catalog at follows from ends version = tt

pub takes_by : (q : Stmt) (moment : ℕ) (answer : Result (What × ℕ) Cause) (c : Catalog) (edge : ℕ) (s : State) → c ≡ s.catalog → edge ≡ s.edge → edge ≤ LAST_DAY_RANGE → moment ≤ LAST_TIMESTAMP → verdict_of answer ≡ write_verdict q c edge moment
    → IfOk answer (λ a. CanFollow a.0 c) → IfOk answer (λ a. IsFromEdge edge a.0) → s.version < LAST_VERSION → IfOk answer (λ a. CanTake a.0 s)
takes_by q moment answer c edge s catalog at le time verdict follows from version =
    all_three answer c edge s catalog at follows from (answer_ends q c edge moment answer le time verdict) version

-- a state that isn't closed has a version to come
pub not_closed : (s : State) → closed_cause s ≡ None → s.version < LAST_VERSION
not_closed s h = by (halt_cause s.halt) (nat_le LAST_VERSION s.version) refl h
  where
    by : (o : Option Cause) (b : Bool) → nat_le LAST_VERSION s.version ≡ b → first_cause (o ∷ when b TooManyVersions ∷ []) ≡ None → s.version < LAST_VERSION
    by (Some cause) b e h = absurd cc
    by None true e h = absurd cc
    by None false e h = grind (arith, nat_tests, e)
