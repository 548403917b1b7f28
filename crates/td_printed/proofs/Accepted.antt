-- What is so of each entry that a verdict may accept is so of the one that it accepts.
use Rattle.std.proofs.Common.{ℕ, ℤ, pos, true, false, cond, List, [], ◌∷◌, length, map, Option, Some, None}
use Rattle.std.specs.Prelude.{int_lt}
use Rattle.std.specs.Int.{int_min, int_max}
use Rattle.td_limits.specs.declared.limits.TheConstants.{LAST_TIMESTAMP}
use Rattle.td_model.specs.declared.catalog.Column.{Column}
use Rattle.td_model.specs.declared.history.Put.{Put}
use Rattle.td_model.specs.declared.history.What.{What}
use Rattle.td_model.specs.declared.history.What.TheVariants as what
use Rattle.td_model.specs.declared.history.Verdict.{Verdict}
use Rattle.td_model.specs.declared.history.Verdict.TheVariants.{Accept, Pass, Refuse}
use Rattle.td_model.specs.declared.language.Lit.{Lit}
use Rattle.td_model.specs.declared.report.Cause.{Cause}
use Rattle.td_model.specs.Catalog.{Catalog, table_named}
use Rattle.td_verdict.specs.Causes.{accepted_or, first_cause}
use Rattle.td_verdict.specs.Names.{number_or_none}
use Rattle.td_verdict.specs.Writes as writes
use Rattle.td_verdict.specs.Writes.{refused_or, cut_between, time_from}

abbrev pub Accepts : (What → Type 0) → Verdict → Type 0
Accepts P (Accept w rows) = P w
Accepts P Pass = Unit {0}
Accepts P (Refuse cause) = Unit {0}

pub accepted : (P : What → Type 0) (why : Option Cause) (w : What) (rows : ℕ) → P w
    → Accepts P (accepted_or why w rows)
accepted P None w rows h = h
accepted P (Some cause) w rows h = tt

pub refused : (P : What → Type 0) (why : Option Cause) (v : Verdict) → Accepts P v → Accepts P (refused_or why v)
refused P None v h = h
refused P (Some cause) v h = tt

pub insert_accepted : (P : What → Type 0) → ((puts : List Put) → P (what.Put puts)) → (table : List ℕ)
    (columns : List Column) (names : Option (List (List ℕ))) (groups : List (List Lit)) (edge moment : ℕ) (c : Catalog)
    → Accepts P (writes.insert_in table columns names groups edge moment c)
insert_accepted P put table columns names groups edge moment c =
    let n = number_or_none (table_named table c) in
    let places = writes.chosen columns names in
    refused P (first_cause (writes.written_cause table c ∷ writes.list_cause columns names ∷ []))
    (writes.groups_verdict n columns places groups edge moment)
    (accepted P (writes.groups_cause columns places groups edge moment)
    (what.Put (map (writes.put_of n columns places moment) groups)) (length groups) (put _))

cut_has : (P : What → Type 0) → ((table lo hi : ℕ) → P (what.Cut table lo hi)) → (table : ℕ) (lo hi : ℤ)
    → P (cut_between table lo hi)
cut_has P cut table lo hi =
    elim (int_lt hi lo) as (λ b. P (cond b (what.Cut table 1 0) (what.Cut table (time_from lo) (time_from hi)))) [
      | true ↦ cut table 1 0
      | false ↦ cut table (time_from lo) (time_from hi)
    ]

pub delete_accepted : (P : What → Type 0) → ((table lo hi : ℕ) → P (what.Cut table lo hi)) → (table : List ℕ)
    (columns : List Column) (column : List ℕ) (lo hi : Lit) (moment : ℕ) (c : Catalog)
    → Accepts P (writes.delete_in table columns column lo hi moment c)
delete_accepted P cut table columns column lo hi moment c =
    let n = number_or_none (table_named table c) in
    accepted P (writes.delete_cause table columns column lo hi moment c)
    (writes.cut_of n (writes.bound_of moment lo) (writes.bound_of moment hi)) 0
    (cut_has P cut n (int_max (writes.bound_of moment lo) (pos 0))
    (int_min (writes.bound_of moment hi) (pos LAST_TIMESTAMP)))
