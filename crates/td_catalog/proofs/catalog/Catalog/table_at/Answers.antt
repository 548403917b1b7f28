use Rattle.std.proofs.Common.{◌≡◌, ℕ, subst, ◌-◌, length, ap, sym, ◌∙◌, Some}
use Rattle.std.specs.Option.{option_map}
use Rattle.std.specs.List.{slice_get}
use Rattle.std.specs.Map.{values_of}
use Rattle.std.specs.Map.Iter.{deref_pair}
use Rattle.std.proofs.lemmas.Option.{slice_get-map}
use Rattle.td_catalog.specs.declared.catalog.Table.{Table}
use Rattle.td_catalog.specs.Tables.{table_of, HasParent}
use Rattle.td_catalog.proofs.Names.{All-slice_get}
use Rattle.td_model.specs.Catalog.{table_at}
use Rattle.td_catalog.proofs.catalog.Catalog.table_at.Goals as goal

-- the table that is lent stands at its place among those that are kept
at : (c : goal.After-unwrap) → slice_get (values_of c.self.inside.tables.entries) (c.args.table - 1) ≡ Some c.unwrap.result.1.now
at c =
    slice_get-map (λ e. e.1) c.self.inside.tables.entries (c.args.table - 1)
    ∙ ap (option_map (λ e. e.1)) (sym c.get_index.ensures.entry)
    ∙ ap (λ r. option_map (λ e. e.1) (option_map deref_pair r)) c.unwrap.ensures

pub returns-clause-table : goal.returns-clause-table
returns-clause-table c =
    ap (λ k. table_at c.args.table k.catalog) (sym c.self.view_is)
    ∙ slice_get-map table_of (values_of c.self.inside.tables.entries) (c.args.table - 1)
    ∙ ap (option_map table_of) (at c)

pub returns-clause-parent : goal.returns-clause-parent
returns-clause-parent c =
    let P : ℕ → Table → Type 0 = λ n t. HasParent n t t.parent in
    let a = c.self.inside in
    let held = All-slice_get (P (length (values_of a.stables.entries))) (values_of a.tables.entries) (c.args.table - 1) c.unwrap.result.1.now c.self.invariant.parents (at c) in
    subst (λ n. P n c.unwrap.result.1.now) (ap (λ k. length k.catalog.stables) c.self.view_is) held
