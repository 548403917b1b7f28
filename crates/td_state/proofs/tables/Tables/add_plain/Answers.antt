use Rattle.std.proofs.Common.{◌∙◌, [], None, ap, refl}
use Rattle.td_manifest.specs.declared.head.HeadTable.TheVariants as heads
use Rattle.td_state.specs.Heads.{with_table}
use Rattle.td_state.proofs.Made.{plain_made, right_tables}
use Rattle.td_state.proofs.tables.Tables.add_plain.Goals as goal

pub invariant_of-self : goal.invariant_of-self
invariant_of-self c =
    right_tables c.self.inside.version c.self.inside.moment c.self.inside.catalog.catalog c.self.inside.contents.kept c.set_table_latest.new.self.kept
    c.args.self.now.state.catalog.tables (record { name = c.in_ok-name.name; parent = None; columns = c.in_ok-columns.columns; tags = [] }) c.args.latest
    c.self.invariant (ap (λ h. h.state.catalog.tables) c.self.view_is ∙ ap (λ s. s.catalog.tables) c.in_ok-make.ensures) refl c.requires.latest c.set_table_latest.ensures

pub returns : goal.returns
returns c =
    plain_made c.args.self.now.state c.self.inside.version c.self.inside.moment c.self.inside.catalog.catalog c.self.inside.contents.kept c.set_table_latest.new.self.kept c.in_ok-name.name c.in_ok-columns.columns c.args.latest
    (ap (λ h. h.state) c.self.view_is ∙ c.in_ok-make.ensures) c.set_table_latest.ensures
    ∙ (λ i. with_table (heads.Plain (c.in_ok-name.ensures i) (c.in_ok-columns.ensures i) c.args.latest) c.args.self.now.state)
