-- What groups of literals say at columns, and what is read off that.
use Rattle.std.specs.Prelude.{◌≡◌, ℕ, ℤ, pos, Bool, not, ◌&&◌, ◌||◌, List, [], ◌∷◌, map, zip, length, nat_lt, slice_get, All, Option, Some}
use Rattle.std.specs.List.{find, list_any}
use Rattle.std.specs.Option.{option_map, option_and_then, unwrap_or}
use Rattle.td_layer.specs.declared.values.Cell.{Cell}
use Rattle.td_layer.specs.declared.values.Value.{Value}
use Rattle.td_model.specs.declared.catalog.Column.{Column}
use Rattle.td_model.specs.declared.history.Put.{Put}
use Rattle.td_model.specs.declared.language.Lit.{Lit}
use Rattle.td_model.specs.Catalog.{Catalog}
use Rattle.td_fields.specs.declared.literals.Said.{Said}
use Rattle.td_fields.specs.Said.{said_at, is_suited, is_null_said, is_fit, number_said, value_said, cell_from}
use Rattle.td_verdict.specs.Names.{is_first}
use Rattle.td_limits.specs.declared.limits.TheConstants.{INSERT_ROWS, TABLES}
use Rattle.td_model.specs.declared.report.Many.TheVariants as many
use Rattle.td_model.specs.declared.report.Cause.{Cause}
use Rattle.td_model.specs.declared.report.Cause.TheVariants as cause
use Rattle.td_verdict.specs.Causes.{when, first_cause}
use Rattle.td_verdict.specs.Writes.{is_full, first_given, first_place, mismatch_of, outside_of, is_before, place_of, time_from}
use Rattle.td_bind.specs.declared.literals.Fault.{Fault}
use Rattle.td_bind.specs.declared.literals.Fault.TheVariants.{Mismatch, Outside}

-- what the literals of a group say, each at its column
abbrev pub said_group : ℕ → List Column → List Lit → List Said
said_group moment columns group = map (λ (p : Column × Lit). said_at p.0.kind moment p.1) (zip columns group)

abbrev pub is_at_fault : Fault → List Column → Column × Said → Bool
is_at_fault Mismatch table p = not (is_suited p.1)
is_at_fault Outside table p = is_first table p.0.name && is_null_said p.1 || not (is_fit p.0.kind p.1)

-- the first column at which a test is passed
abbrev pub first_said : (Column × Said → Bool) → List Column → List Said → Option Column
first_said test columns said = option_map (λ (p : Column × Said). p.0) (find test (zip columns said))

-- what is said at a place of a group, its number, and its value
abbrev pub said_in : List Said → Option ℕ → Option Said
said_in said place = option_and_then (slice_get said) place

abbrev pub time_said : List Said → Option ℕ → Option ℤ
time_said said place = option_and_then number_said (said_in said place)

abbrev pub cell_said : List Said → Option ℕ → Option Value
cell_said said place = option_map value_said (said_in said place)

-- a group as a put, where the places of the table's columns in it are known
abbrev pub put_said : ℕ → Option ℕ → List (Option ℕ) → List Said → Put
put_said table first places said = record {
  key = record { table = table; ts = time_from (unwrap_or (time_said said first) (pos 0)) };
  cells = map (cell_said said) places;
}

-- where each column of a table has a place among some columns, it has its kind there
abbrev pub HasKinds : List Column → List Column → Type 0
HasKinds columns places =
    All (λ (c : Column). (i : ℕ) → place_of places c.name ≡ Some i
    → option_map (λ (d : Column). d.kind) (slice_get places i) ≡ Some c.kind) columns

-- the causes of groups that have the right length, read off what they say
abbrev pub rows_said : List Column → List Column → List (List Said) → ℕ → Option Cause
rows_said columns places groups edge = first_cause (
    when (nat_lt INSERT_ROWS (length groups)) (cause.TooMany many.Rows INSERT_ROWS)
    ∷ when (list_any (λ said. is_before edge (time_said said (first_place columns places))) groups)
    (cause.BeforeEdge edge)
    ∷ [])

abbrev pub said_cause : List Column → List Column → List (List Said) → ℕ → Option Cause
said_cause columns places groups edge = first_cause (
    mismatch_of (first_given (first_said (is_at_fault Mismatch columns) places) groups)
    ∷ outside_of (first_given (first_said (is_at_fault Outside columns) places) groups)
    ∷ rows_said columns places groups edge
    ∷ [])

-- the causes of a subtable's tags, of which there are as many as literals
abbrev pub tags_said : List Column → List Said → Catalog → Option Cause
tags_said tags said c = first_cause (
    mismatch_of (first_said (is_at_fault Mismatch []) tags said)
    ∷ outside_of (first_said (is_at_fault Outside []) tags said)
    ∷ when (is_full c) (cause.TooMany many.Tables TABLES)
    ∷ [])

-- the cells of a subtable's tags
abbrev pub cells_said : List Column → List Said → List Lit → List Cell
cells_said [] said lits = []
cells_said (t ∷ tags) [] lits = []
cells_said (t ∷ tags) (a ∷ said) [] = []
cells_said (t ∷ tags) (a ∷ said) (l ∷ lits) = cell_from t.kind l a ∷ cells_said tags said lits
