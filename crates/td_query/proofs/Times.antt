-- A row of which comparisons are true lies in the timestamps that they leave.
use Rattle.std.proofs.Common.{◌≡◌, ℕ, ◌≤◌, min, ℤ, pos, negsuc, Bool, true, false, cond, ◌&&◌, ◌==◌, nat_le, List, [], ◌∷◌, Option, Some, None, refl, sym, ap, ◌∙◌, arith}
use Rattle.std.specs.Option.{option_map_or}
use Rattle.std.specs.Ordering.{int_cmp}
use Rattle.std.proofs.lemmas.Bool.Decides.{nat_tests}
use Rattle.std.proofs.lemmas.Bool.{and_parts, and_from, eqb-true, le-leb}
use Rattle.td_layer.specs.declared.values.Value.{Value}
use Rattle.td_layer.specs.declared.values.Cell.{Cell}
use Rattle.td_layer.specs.declared.values.Cell.TheVariants as cell
use Rattle.td_model.specs.declared.catalog.Column.{Column}
use Rattle.td_model.specs.declared.language.Op.{Op}
use Rattle.td_model.specs.declared.language.Op.TheVariants as op
use Rattle.td_model.specs.Tags.{number_of, order_of, passes, cell_matches, tag_matches}
use Rattle.td_verdict.specs.declared.comparison.Comparison.{Comparison}
use Rattle.td_verdict.specs.Fields.{row_cells, holds, all_hold}
use Rattle.td_limits.specs.declared.limits.TheConstants.{LAST_TIMESTAMP}
use Rattle.td_verdict.specs.Writes.{time_from}
use Rattle.td_verdict.specs.Plans.{time_above, time_below, low_of, high_of, low, high, lowest, highest}

-- ---- a timestamp that compares with a number; one beyond the last of all counts as that
above : (n : ℤ) (ts : ℕ) → passes op.Gt (int_cmp (pos ts) n) ≡ true → time_above n ≤ ts
above (pos n) ts h = grind (arith, nat_tests)
above (negsuc n) ts h = omega arith

from : (n : ℤ) (ts : ℕ) → passes op.Ge (int_cmp (pos ts) n) ≡ true → time_from n ≤ ts
from (pos n) ts h = grind (arith, nat_tests)
from (negsuc n) ts h = omega arith

from_equal : (n : ℤ) (ts : ℕ) → passes op.Eq (int_cmp (pos ts) n) ≡ true → time_from n ≤ ts
from_equal (pos n) ts h = grind (arith, nat_tests)
from_equal (negsuc n) ts h = omega arith

below : (n : ℤ) (ts : ℕ) → passes op.Lt (int_cmp (pos ts) n) ≡ true → min ts LAST_TIMESTAMP ≤ time_below n
below (pos n) ts h = grind (arith, nat_tests)
below (negsuc n) ts h = absurd (cc)

upto : (n : ℤ) (ts : ℕ) → passes op.Le (int_cmp (pos ts) n) ≡ true → min ts LAST_TIMESTAMP ≤ time_from n
upto (pos n) ts h = grind (arith, nat_tests)
upto (negsuc n) ts h = absurd (cc)

upto_equal : (n : ℤ) (ts : ℕ) → passes op.Eq (int_cmp (pos ts) n) ≡ true → min ts LAST_TIMESTAMP ≤ time_from n
upto_equal (pos n) ts h = grind (arith, nat_tests)
upto_equal (negsuc n) ts h = absurd (cc)

-- ---- one that compares with a cell
abbrev Compares : Op → ℕ → Option ℤ → Type 0
Compares o ts n = option_map_or (passes o) (order_of int_cmp (Some (pos ts)) n) false ≡ true

low_at : (o : Op) (n : Option ℤ) (ts : ℕ) → Compares o ts n → option_map_or (low_of o) n 0 ≤ ts
low_at o None ts h = omega arith
low_at op.Lt (Some n) ts h = omega arith
low_at op.Le (Some n) ts h = omega arith
low_at op.Gt (Some n) ts h = above n ts h
low_at op.Ge (Some n) ts h = from n ts h
low_at op.Eq (Some n) ts h = from_equal n ts h
low_at op.Ne (Some n) ts h = omega arith
low_at op.IsNull (Some n) ts h = omega arith
low_at op.NotNull (Some n) ts h = omega arith

high_at : (o : Op) (n : Option ℤ) (ts : ℕ) → Compares o ts n → min ts LAST_TIMESTAMP ≤ option_map_or (high_of o) n LAST_TIMESTAMP
high_at o None ts h = omega arith
high_at op.Lt (Some n) ts h = below n ts h
high_at op.Le (Some n) ts h = upto n ts h
high_at op.Gt (Some n) ts h = omega arith
high_at op.Ge (Some n) ts h = omega arith
high_at op.Eq (Some n) ts h = upto_equal n ts h
high_at op.Ne (Some n) ts h = omega arith
high_at op.IsNull (Some n) ts h = omega arith
high_at op.NotNull (Some n) ts h = omega arith

low_not_null : (n : Option ℤ) (ts : ℕ) → option_map_or (low_of op.NotNull) n 0 ≤ ts
low_not_null None ts = omega arith
low_not_null (Some n) ts = omega arith

high_not_null : (n : Option ℤ) (ts : ℕ) → min ts LAST_TIMESTAMP ≤ option_map_or (high_of op.NotNull) n LAST_TIMESTAMP
high_not_null None ts = omega arith
high_not_null (Some n) ts = omega arith

low_cell : (o : Op) (operand : Cell) (ts : ℕ) → cell_matches o (cell.Num (pos ts)) operand ≡ true → option_map_or (low_of o) (number_of operand) 0 ≤ ts
low_cell op.Lt operand ts h = low_at op.Lt (number_of operand) ts h
low_cell op.Le operand ts h = low_at op.Le (number_of operand) ts h
low_cell op.Gt operand ts h = low_at op.Gt (number_of operand) ts h
low_cell op.Ge operand ts h = low_at op.Ge (number_of operand) ts h
low_cell op.Eq operand ts h = low_at op.Eq (number_of operand) ts h
low_cell op.Ne operand ts h = low_at op.Ne (number_of operand) ts h
low_cell op.IsNull operand ts h = absurd (cc)
low_cell op.NotNull operand ts h = low_not_null (number_of operand) ts

high_cell : (o : Op) (operand : Cell) (ts : ℕ) → cell_matches o (cell.Num (pos ts)) operand ≡ true → min ts LAST_TIMESTAMP ≤ option_map_or (high_of o) (number_of operand) LAST_TIMESTAMP
high_cell op.Lt operand ts h = high_at op.Lt (number_of operand) ts h
high_cell op.Le operand ts h = high_at op.Le (number_of operand) ts h
high_cell op.Gt operand ts h = high_at op.Gt (number_of operand) ts h
high_cell op.Ge operand ts h = high_at op.Ge (number_of operand) ts h
high_cell op.Eq operand ts h = high_at op.Eq (number_of operand) ts h
high_cell op.Ne operand ts h = high_at op.Ne (number_of operand) ts h
high_cell op.IsNull operand ts h = absurd (cc)
high_cell op.NotNull operand ts h = high_not_null (number_of operand) ts

-- ---- that of a row, whose first column it is
module _ (c : Column) (cs : List Column) (name : List ℕ) (tags : List Cell) (ts : ℕ) (values : List Value) where
  abbrev cells : List Cell
  cells = row_cells (c ∷ cs) name tags ts values

  at_first : (p : Comparison) → (p.place == 1) ≡ true → holds cells p ≡ true → cell_matches p.op (cell.Num (pos ts)) p.operand ≡ true
  at_first p is h = ap (λ n. tag_matches n p.op p.operand cells) (sym (eqb-true p.place 1 is)) ∙ h

  low_by : (p : Comparison) (b : Bool) → (p.place == 1) ≡ b → holds cells p ≡ true → cond b (option_map_or (low_of p.op) (number_of p.operand) 0) 0 ≤ ts
  low_by p true is h = low_cell p.op p.operand ts (at_first p is h)
  low_by p false is h = omega arith

  high_by : (p : Comparison) (b : Bool) → (p.place == 1) ≡ b → holds cells p ≡ true → min ts LAST_TIMESTAMP ≤ cond b (option_map_or (high_of p.op) (number_of p.operand) LAST_TIMESTAMP) LAST_TIMESTAMP
  high_by p true is h = high_cell p.op p.operand ts (at_first p is h)
  high_by p false is h = omega arith

  from_lowest : (ps : List Comparison) → all_hold ps cells ≡ true → lowest ps ≤ ts
  from_lowest [] h = omega arith
  from_lowest (p ∷ ps) h =
      let both = and_parts (holds cells p) (all_hold ps cells) h in
      let one : low p ≤ ts = low_by p (p.place == 1) refl both.0 in
      let rest : lowest ps ≤ ts = from_lowest ps both.1 in
      omega arith

  upto_highest : (ps : List Comparison) → all_hold ps cells ≡ true → min ts LAST_TIMESTAMP ≤ highest ps
  upto_highest [] h = omega arith
  upto_highest (p ∷ ps) h =
      let both = and_parts (holds cells p) (all_hold ps cells) h in
      let one : min ts LAST_TIMESTAMP ≤ high p = high_by p (p.place == 1) refl both.0 in
      let rest : min ts LAST_TIMESTAMP ≤ highest ps = upto_highest ps both.1 in
      omega arith

pub inside : (c : Column) (cs : List Column) (name : List ℕ) (tags : List Cell) (ts : ℕ) (values : List Value) (ps : List Comparison) → ts ≤ LAST_TIMESTAMP → all_hold ps (row_cells (c ∷ cs) name tags ts values) ≡ true → (nat_le (lowest ps) ts && nat_le ts (highest ps)) ≡ true
inside c cs name tags ts values ps le h =
    let upto = upto_highest c cs name tags ts values ps h in
    and_from _ _
    (le-leb (lowest ps) ts (from_lowest c cs name tags ts values ps h))
    (le-leb ts (highest ps) (omega arith))
