use Rattle.std.proofs.Common.{◌≡◌, List, [], ◌∷◌, ◌++◌, Option, Some, None, ap, sym, subst, ◌∙◌, refl}
use Rattle.td_layer.specs.declared.values.Cell.{Cell}
use Rattle.td_model.specs.declared.catalog.Column.{Column}
use Rattle.td_model.specs.declared.history.What.{What}
use Rattle.td_model.specs.declared.history.What.TheVariants as what
use Rattle.td_model.specs.Catalog.{Catalog}
use Rattle.td_verdict.specs.Valid.{IsValid}
use Rattle.td_catalog.specs.Kept.{Kept, CanFollow, IsReadyFor}
use Rattle.td_catalog.specs.Parts.{change_by}
use Rattle.td_catalog.proofs.After.{changed-step}
use Rattle.td_catalog.proofs.Valid.{follows_valid}
use Rattle.td_catalog.proofs.catalog.Catalog.apply.Goals as goal

pub returns-in-Nothing-clause-after : goal.returns-in-Nothing-clause-after
returns-in-Nothing-clause-after c =
    let none : ◌≡◌ {A = Option What} None c.args.change = ap change_by (sym c.in-Nothing.is) ∙ c.change.view_is in
    λ past e same of. changed-step past e c.args.self.now.catalog c.args.self.now.catalog None refl same (none ∙ of)

-- a change that is ready for a valid catalog leaves one that is valid
stays : (w : What) (change : Option What) (kept old : Kept) → Some w ≡ change → IsReadyFor change kept → old ≡ kept → IsValid old.catalog → CanFollow w kept.catalog × IsValid kept.catalog
stays w change kept old is ready same valid = ((subst (λ o. IsReadyFor o kept) (sym is) ready).0, subst (λ (k : Kept). IsValid k.catalog) same valid)

pub add_stable-requires-clause-valid : goal.add_stable-requires-clause-valid
add_stable-requires-clause-valid c =
    let w : What = what.MakeStable c.in-Stable.def.name c.in-Stable.def.schema in
    let both = stays w c.args.change c.args.self.now _ (ap change_by (sym c.in-Stable.is) ∙ c.change.view_is) c.requires c.self.view_is c.self.invariant.valid in
    follows_valid w c.args.self.now.catalog both.1 both.0

pub add_table-requires-clause-valid : goal.add_table-requires-clause-valid
add_table-requires-clause-valid c =
    let old : Catalog = c.args.self.now.catalog in
    let w : What = what.MakeTable c.in-Plain.name c.in-Plain.columns in
    let both = stays w c.args.change c.args.self.now _ (ap change_by (sym c.in-Plain.is) ∙ c.change.view_is) c.requires c.self.view_is c.self.invariant.valid in
    subst (λ (tags : List Cell). IsValid (record old { tables = old.tables ++ record { name = c.in-Plain.name; parent = None; columns = c.in-Plain.columns; tags = tags } ∷ [] })) (sym c.new-tags.ensures)
    (follows_valid w old both.1 both.0)

pub add_table-requires-in-Sub-clause-valid : goal.add_table-requires-in-Sub-clause-valid
add_table-requires-in-Sub-clause-valid c =
    let old : Catalog = c.args.self.now.catalog in
    let w : What = what.MakeSub c.in-Sub.name c.in-Sub.stable c.in-Sub.tags in
    let both = stays w c.args.change c.args.self.now _ (ap change_by (sym c.in-Sub.is) ∙ c.change.view_is) c.requires c.self.view_is c.self.invariant.valid in
    subst (λ (columns : List Column). IsValid (record old { tables = old.tables ++ record { name = c.in-Sub.name; parent = Some c.in-Sub.stable; columns = columns; tags = c.in-Sub.tags } ∷ [] })) (sym c.new-in-Sub.ensures)
    (follows_valid w old both.1 both.0)

pub add_stream-requires-clause-valid : goal.add_stream-requires-clause-valid
add_stream-requires-clause-valid c =
    let w : What = what.MakeStream c.in-Stream.def in
    let both = stays w c.args.change c.args.self.now _ (ap change_by (sym c.in-Stream.is) ∙ c.change.view_is) c.requires c.self.view_is c.self.invariant.valid in
    follows_valid w c.args.self.now.catalog both.1 both.0
