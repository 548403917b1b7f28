-- What is read off what groups say is what the definitions give of their literals.
use Rattle.std.proofs.Common.{◌≡◌, ℕ, pos, suc, zero, ◌==◌, Bool, true, false, ◌&&◌, ◌||◌, not, cond, List, [], ◌∷◌, length, map, zip, drop, slice_get, Option, Some, None, refl, sym, ap, ◌∙◌, nat_lt, true≢false}
use Rattle.std.specs.List.{AllByRecursion, find, list_any}
use Rattle.std.specs.Option.{option_map, option_and_then, option_or, unwrap_or}
use Rattle.std.proofs.lemmas.Option.{same_Some}
use Rattle.std.proofs.lemmas.List.Elements.{All-drop, All-head, recursion_from_All}
use Rattle.td_cols.specs.declared.kinds.Kind.{Kind}
use Rattle.td_cols.specs.declared.kinds.Kind.TheVariants as kind
use Rattle.td_model.specs.declared.catalog.Column.{Column}
use Rattle.td_model.specs.declared.history.Put.{Put}
use Rattle.td_model.specs.declared.history.What.TheVariants as what
use Rattle.td_model.specs.declared.history.Verdict.TheVariants.{Accept, Refuse}
use Rattle.td_model.specs.declared.language.Lit.{Lit}
use Rattle.td_model.specs.declared.report.Cause.{Cause}
use Rattle.td_model.specs.declared.report.Cause.TheVariants as cause
use Rattle.td_model.specs.Catalog.{Catalog}
use Rattle.td_limits.specs.declared.limits.TheConstants.{INSERT_ROWS, TABLES}
use Rattle.td_model.specs.declared.report.Many.TheVariants as many
use Rattle.td_verdict.specs.Causes.{when, first_cause, accepted_or}
use Rattle.td_verdict.specs.Names.{is_first, is_time, lacks_time}
use Rattle.td_verdict.specs.Values.{number_at, value_of}
use Rattle.td_verdict.specs.Writes.{first_given, is_mismatch, is_outside, first_column, mismatch_of, outside_of, tag_cells, tags_cause, is_full, place_of, first_place, time_at, cell_at, is_before, time_from, put_of, rows_cause, groups_cause, groups_verdict}
use Rattle.td_fields.specs.declared.literals.Said.{Said}
use Rattle.td_fields.specs.Said.{said_at, number_said, value_said}
use Rattle.td_fields.proofs.Read.{suits_read, null_read, fits_read, number_read, value_read, cell_read}
use Rattle.td_bind.specs.declared.literals.Fault.{Fault}
use Rattle.td_bind.specs.declared.literals.Fault.TheVariants.{Mismatch, Outside}
use Rattle.td_bind.specs.Literals.{said_group, is_at_fault, first_said, time_said, cell_said, put_said, HasKinds, said_cause, tags_said, cells_said}

-- ---- the first column that is wrong

mismatch_test : (moment : ℕ) (table : List Column) (c : Column) (l : Lit) → is_at_fault Mismatch table (c, said_at c.kind moment l) ≡ is_mismatch moment (c, l)
mismatch_test moment table c l = ap not (suits_read c.kind moment l)

outside_test : (moment : ℕ) (table : List Column) (c : Column) (l : Lit) → is_at_fault Outside table (c, said_at c.kind moment l) ≡ is_outside table moment (c, l)
outside_test moment table c l = λ i. is_first table c.name && null_read c.kind moment l i || not (fits_read c.kind moment l i)

first_of : (b : Bool) (c : Column) (s : Said) (l : Lit) (x : Option (Column × Said)) (y : Option (Column × Lit)) → option_map (λ (p : Column × Said). p.0) x ≡ option_map (λ (p : Column × Lit). p.0) y
    → option_map (λ (p : Column × Said). p.0) (cond b (Some (c, s)) x) ≡ option_map (λ (p : Column × Lit). p.0) (cond b (Some (c, l)) y)
first_of true c s l x y h = refl
first_of false c s l x y h = h

module _ (f : Fault) (test : Column × Lit → Bool) (moment : ℕ) (table : List Column) (same : (c : Column) (l : Lit) → is_at_fault f table (c, said_at c.kind moment l) ≡ test (c, l)) where
  column_is : (columns : List Column) (group : List Lit) → first_said (is_at_fault f table) columns (said_group moment columns group) ≡ first_column test columns group
  column_is [] group = refl
  column_is (c ∷ cs) [] = refl
  column_is (c ∷ cs) (l ∷ ls) =
      let s : Said = said_at c.kind moment l in
      let rest : Option (Column × Said) = find (is_at_fault f table) (zip cs (said_group moment cs ls)) in
      ap (λ b. option_map (λ (p : Column × Said). p.0) (cond b (Some (c, s)) rest)) (same c l)
      ∙ first_of (test (c, l)) c s l rest (find test (zip cs ls)) (column_is cs ls)

  in_groups : (columns : List Column) (groups : List (List Lit)) → first_given (first_said (is_at_fault f table) columns) (map (said_group moment columns) groups) ≡ first_given (first_column test columns) groups
  in_groups columns [] = refl
  in_groups columns (g ∷ gs) = λ i. option_or (column_is columns g i) (in_groups columns gs i)

-- ---- what is said at a place

at_place : (moment : ℕ) (places : List Column) (group : List Lit) (i : ℕ) (k : Kind) → option_map (λ (d : Column). d.kind) (slice_get places i) ≡ Some k → slice_get (said_group moment places group) i ≡ option_map (said_at k moment) (slice_get group i)
at_place moment [] group i k h = absurd (cc)
at_place moment (p ∷ places) [] i k h = refl
at_place moment (p ∷ places) (l ∷ group) zero k h = let same : p.kind ≡ k = same_Some p.kind k h in ap (λ (k : Kind). Some (said_at k moment l)) same
at_place moment (p ∷ places) (l ∷ group) (suc i) k h = at_place moment places group i k h

numbers_are : (k : Kind) (moment : ℕ) (o : Option Lit) → option_and_then number_said (option_map (said_at k moment) o) ≡ option_and_then (number_at k moment) o
numbers_are k moment None = refl
numbers_are k moment (Some l) = number_read k moment l

values_are : (k : Kind) (moment : ℕ) (o : Option Lit) → option_map value_said (option_map (said_at k moment) o) ≡ option_map (value_of k moment) o
values_are k moment None = refl
values_are k moment (Some l) = ap Some (value_read k moment l)

-- each place of a column has a kind
HasKind : List Column → Kind → Option ℕ → Type 0
HasKind places k place = (i : ℕ) → place ≡ Some i → option_map (λ (d : Column). d.kind) (slice_get places i) ≡ Some k

time_is : (moment : ℕ) (places : List Column) (group : List Lit) (first : Option ℕ) → HasKind places kind.Time first → time_said (said_group moment places group) first ≡ time_at moment group first
unfolding HasKind
time_is moment places group None h = refl
time_is moment places group (Some i) h = ap (option_and_then number_said) (at_place moment places group i kind.Time (h i refl)) ∙ numbers_are kind.Time moment (slice_get group i)

cell_is : (moment : ℕ) (places : List Column) (group : List Lit) (k : Kind) (place : Option ℕ) → HasKind places k place → cell_said (said_group moment places group) place ≡ cell_at moment group k place
unfolding HasKind
cell_is moment places group k None h = refl
cell_is moment places group k (Some i) h = ap (option_map value_said) (at_place moment places group i k (h i refl)) ∙ values_are k moment (slice_get group i)

cells_are : (moment : ℕ) (places : List Column) (group : List Lit) (cs : List Column) → AllByRecursion (λ (c : Column). HasKind places c.kind (place_of places c.name)) cs
    → map (cell_said (said_group moment places group)) (map (λ (c : Column). place_of places c.name) cs) ≡ map (λ (c : Column). cell_at moment group c.kind (place_of places c.name)) cs
cells_are moment places group [] h = refl
cells_are moment places group (c ∷ cs) h = λ i. cell_is moment places group c.kind (place_of places c.name) h.0 i ∷ cells_are moment places group cs h.1 i

is_time_kind : (k : Kind) → not (is_time k) ≡ false → k ≡ kind.Time
is_time_kind kind.Time h = refl
is_time_kind kind.Bool h = absurd (true≢false h)
is_time_kind kind.I8 h = absurd (true≢false h)
is_time_kind kind.I16 h = absurd (true≢false h)
is_time_kind kind.I32 h = absurd (true≢false h)
is_time_kind kind.I64 h = absurd (true≢false h)
is_time_kind kind.U8 h = absurd (true≢false h)
is_time_kind kind.U16 h = absurd (true≢false h)
is_time_kind kind.U32 h = absurd (true≢false h)
is_time_kind kind.U64 h = absurd (true≢false h)
is_time_kind kind.Wide h = absurd (true≢false h)
is_time_kind (kind.Text w) h = absurd (true≢false h)

pub first_kind : (columns places : List Column) → lacks_time columns ≡ false → HasKinds columns places → (i : ℕ) → first_place columns places ≡ Some i → option_map (λ (d : Column). d.kind) (slice_get places i) ≡ Some kind.Time
first_kind [] places time kinds i h = absurd (true≢false time)
first_kind (c ∷ cs) places time kinds i h =
    All-head (λ (c : Column). (i : ℕ) → place_of places c.name ≡ Some i → option_map (λ (d : Column). d.kind) (slice_get places i) ≡ Some c.kind) c cs kinds i h
    ∙ ap (λ (k : Kind). Some k) (is_time_kind c.kind time)

-- ---- groups

module _ (moment : ℕ) (columns places : List Column) (time : lacks_time columns ≡ false) (kinds : HasKinds columns places) where
  first : Option ℕ
  first = first_place columns places

  first_is : HasKind places kind.Time first
  unfolding HasKind first
  first_is = first_kind columns places time kinds

  kinds_are : AllByRecursion (λ (c : Column). HasKind places c.kind (place_of places c.name)) (drop 1 columns)
  unfolding HasKind
  kinds_are =
      let P : Column → Type 0 = λ c. (i : ℕ) → place_of places c.name ≡ Some i → option_map (λ (d : Column). d.kind) (slice_get places i) ≡ Some c.kind in
      recursion_from_All P (drop 1 columns) (All-drop P 1 columns kinds)

  put_is : (table : ℕ) (group : List Lit) → put_said table (first_place columns places) (map (λ (c : Column). place_of places c.name) (drop 1 columns)) (said_group moment places group) ≡ put_of table columns places moment group
  unfolding first
  put_is table group = λ i. record {
    key = record { table = table; ts = time_from (unwrap_or (time_is moment places group (first_place columns places) first_is i) (pos 0)) };
    cells = cells_are moment places group (drop 1 columns) kinds_are i;
  }

  puts_are : (table : ℕ) (groups : List (List Lit)) → map (put_said table (first_place columns places) (map (λ (c : Column). place_of places c.name) (drop 1 columns))) (map (said_group moment places) groups) ≡ map (put_of table columns places moment) groups
  puts_are table [] = refl
  puts_are table (g ∷ gs) = λ i. put_is table g i ∷ puts_are table gs i

  before_is : (edge : ℕ) (groups : List (List Lit)) → list_any (λ said. is_before edge (time_said said (first_place columns places))) (map (said_group moment places) groups) ≡ list_any (λ group. is_before edge (time_at moment group (first_place columns places))) groups
  unfolding first
  before_is edge [] = refl
  before_is edge (g ∷ gs) = λ i. is_before edge (time_is moment places g (first_place columns places) first_is i) || before_is edge gs i

  length_is : (groups : List (List Lit)) → length (map (said_group moment places) groups) ≡ length groups
  length_is [] = refl
  length_is (g ∷ gs) = ap suc (length_is gs)

  -- whether a group has another count of literals
  abbrev other_length : List (List Lit) → Bool
  other_length groups = list_any (λ group. not (length group == length places)) groups

  cause_is : (edge : ℕ) (groups : List (List Lit)) → other_length groups ≡ false → groups_cause columns places groups edge moment ≡ said_cause columns places (map (said_group moment places) groups) edge
  cause_is edge groups same =
      let rest : List (Option Cause) = mismatch_of (first_given (first_column (is_mismatch moment) places) groups) ∷ outside_of (first_given (first_column (is_outside columns moment) places) groups) ∷ rows_cause columns places groups edge moment ∷ [] in
      ap (λ b. first_cause (when b cause.Arity ∷ rest)) same
      ∙ sym (λ i. first_cause (
      mismatch_of (in_groups Mismatch (is_mismatch moment) moment columns (mismatch_test moment columns) places groups i)
      ∷ outside_of (in_groups Outside (is_outside columns moment) moment columns (outside_test moment columns) places groups i)
      ∷ first_cause (when (nat_lt INSERT_ROWS (length_is groups i)) (cause.TooMany many.Rows INSERT_ROWS) ∷ when (before_is edge groups i) (cause.BeforeEdge edge) ∷ [])
      ∷ []))

  pub refused_length : (table edge : ℕ) (groups : List (List Lit)) → list_any (λ group. not (length group == length places)) groups ≡ true → Refuse cause.Arity ≡ groups_verdict table columns places groups edge moment
  refused_length table edge groups other =
      let rest : List (Option Cause) = mismatch_of (first_given (first_column (is_mismatch moment) places) groups) ∷ outside_of (first_given (first_column (is_outside columns moment) places) groups) ∷ rows_cause columns places groups edge moment ∷ [] in
      sym (ap (λ b. accepted_or (first_cause (when b cause.Arity ∷ rest)) (what.Put (map (put_of table columns places moment) groups)) (length groups)) other)

  pub refused_cause : (table edge : ℕ) (groups : List (List Lit)) (why : Cause) → other_length groups ≡ false → Some why ≡ said_cause columns places (map (said_group moment places) groups) edge → Refuse why ≡ groups_verdict table columns places groups edge moment
  refused_cause table edge groups why same h =
      ap (λ o. accepted_or o (what.Put (map (put_of table columns places moment) groups)) (length groups)) (h ∙ sym (cause_is edge groups same))

  pub accepted_puts : (table edge : ℕ) (groups : List (List Lit)) (puts : List Put) (rows : ℕ) → other_length groups ≡ false → None ≡ said_cause columns places (map (said_group moment places) groups) edge
      → puts ≡ map (put_said table (first_place columns places) (map (λ (c : Column). place_of places c.name) (drop 1 columns))) (map (said_group moment places) groups) → rows ≡ length groups
      → Accept (what.Put puts) rows ≡ groups_verdict table columns places groups edge moment
  accepted_puts table edge groups puts rows same h are count =
      (λ i. Accept (what.Put ((are ∙ puts_are table groups) i)) (count i))
      ∙ ap (λ o. accepted_or o (what.Put (map (put_of table columns places moment) groups)) (length groups)) (h ∙ sym (cause_is edge groups same))

-- ---- tags

pub tags_are_said : (moment : ℕ) (tags : List Column) (lits : List Lit) (c : Catalog) → (length lits == length tags) ≡ true → tags_cause tags lits moment c ≡ tags_said tags (said_group moment tags lits) c
tags_are_said moment tags lits c long =
    let rest : List (Option Cause) = mismatch_of (first_column (is_mismatch moment) tags lits) ∷ outside_of (first_column (is_outside [] moment) tags lits) ∷ when (is_full c) (cause.TooMany many.Tables TABLES) ∷ [] in
    ap (λ b. first_cause (when (not b) cause.Arity ∷ rest)) long
    ∙ sym (λ i. first_cause (
    mismatch_of (column_is Mismatch (is_mismatch moment) moment [] (mismatch_test moment []) tags lits i)
    ∷ outside_of (column_is Outside (is_outside [] moment) moment [] (outside_test moment []) tags lits i)
    ∷ when (is_full c) (cause.TooMany many.Tables TABLES) ∷ []))

pub cells_are_said : (moment : ℕ) (tags : List Column) (lits : List Lit) → cells_said tags (said_group moment tags lits) lits ≡ tag_cells moment tags lits
cells_are_said moment [] lits = refl
cells_are_said moment (t ∷ tags) [] = refl
cells_are_said moment (t ∷ tags) (l ∷ lits) = λ i. cell_read t.kind moment l i ∷ cells_are_said moment tags lits i
