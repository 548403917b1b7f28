-- What CREATE TABLE of a subtable meets, where its supertable is found, its name is free, and it has a literal for each tag.
use Rattle.std.proofs.Common.{◌≡◌, ℕ, Bool, true, false, ◌||◌, not, ◌==◌, List, [], ◌∷◌, length, Option, Some, None, is_some, refl, sym, ap, ◌∙◌}
use Rattle.td_layer.specs.declared.values.Cell.{Cell}
use Rattle.td_model.specs.declared.catalog.Column.{Column}
use Rattle.td_model.specs.declared.history.What.{What}
use Rattle.td_model.specs.declared.history.What.TheVariants as what
use Rattle.td_model.specs.declared.history.Verdict.TheVariants.{Accept, Refuse}
use Rattle.td_model.specs.declared.language.Lit.{Lit}
use Rattle.td_model.specs.declared.report.Cause.{Cause}
use Rattle.td_model.specs.declared.report.Cause.TheVariants as cause
use Rattle.td_model.specs.Catalog.{Catalog, stable_named}
use Rattle.td_verdict.specs.Causes.{when, first_cause, accepted_or}
use Rattle.td_verdict.specs.Names.{is_table, is_target, is_taken, number_or_none, stable_schema}
use Rattle.td_verdict.specs.Writes.{tags_cause, tag_cells, stable_cause, make_sub_cause, make_sub_verdict}
use Rattle.td_bind.specs.Literals.{said_group, tags_said, cells_said}
use Rattle.td_bind.proofs.Read.{tags_are_said, cells_are_said}

found : (t g : Bool) (o : Option ℕ) (n : ℕ) → Some n ≡ o → first_cause (when (not (t || is_some o || g)) cause.UnknownStable ∷ when (not (is_some o)) cause.NotAStable ∷ []) ≡ None
found t g None n h = absurd (cc)
found true g (Some m) n h = refl
found false g (Some m) n h = refl

last : (x : Option Cause) → first_cause (None ∷ None ∷ x ∷ []) ≡ x
last None = refl
last (Some why) = refl

module _ (name stable : List ℕ) (lits : List Lit) (moment : ℕ) (c : Catalog) (number : ℕ) (is : Some number ≡ stable_named stable c) (free : is_taken name c ≡ false)
    (columns : List Column) (of : columns ≡ (stable_schema (Some number) c).tags) (literals : List Lit) (same : literals ≡ lits) (long : (length literals == length columns) ≡ true) where
  tags : List Column
  tags = (stable_schema (stable_named stable c) c).tags

  columns_are : columns ≡ tags
  unfolding tags
  columns_are = of ∙ ap (λ (o : Option ℕ). (stable_schema o c).tags) is

  cause_is : make_sub_cause name stable tags lits moment c ≡ tags_said columns (said_group moment columns literals) c
  cause_is =
      let none : stable_cause stable c ≡ None = found (is_table stable c) (is_target stable c) (stable_named stable c) number is in
      (λ i. first_cause (none i ∷ when (free i) cause.NameTaken ∷ tags_cause (sym columns_are i) (sym same i) moment c ∷ []))
      ∙ last (tags_cause columns literals moment c)
      ∙ tags_are_said moment columns literals c long

  abbrev made : What
  made = what.MakeSub name (number_or_none (stable_named stable c)) (tag_cells moment tags lits)

  pub sub_refused : (why : Cause) → Some why ≡ tags_said columns (said_group moment columns literals) c → Refuse why ≡ make_sub_verdict name stable lits moment c
  unfolding tags
  sub_refused why h = ap (λ o. accepted_or o made 0) (h ∙ sym cause_is)

  pub sub_accepted : None ≡ tags_said columns (said_group moment columns literals) c → (copy : List ℕ) → copy ≡ name → (cells : List Cell) → cells ≡ cells_said columns (said_group moment columns literals) literals
      → Accept (what.MakeSub copy number cells) 0 ≡ make_sub_verdict name stable lits moment c
  unfolding tags
  sub_accepted h copy named cells are =
      let all : cells ≡ tag_cells moment tags lits = are ∙ cells_are_said moment columns literals ∙ (λ i. tag_cells moment (columns_are i) (same i)) in
      let n : number ≡ number_or_none (stable_named stable c) = ap (λ (o : Option ℕ). number_or_none o) is in
      (λ i. Accept (what.MakeSub (named i) (n i) (all i)) 0) ∙ ap (λ o. accepted_or o made 0) (h ∙ sym cause_is)
