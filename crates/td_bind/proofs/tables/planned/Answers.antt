use Rattle.std.proofs.Common.{sym, ap, subst, ◌∙◌}
use Rattle.td_verdict.specs.Plans.{planned}
use Rattle.td_bind.specs.Tables.{IsThere, numbers_of}
use Rattle.td_bind.proofs.ByNumber.{one_planned, none_planned}
use Rattle.td_bind.proofs.tables.planned.Goals as goal

pub returns-in_ok-tables-in-Table : goal.returns-in_ok-tables-in-Table
returns-in_ok-tables-in-Table c =
    let ps = c.args.comparisons.now in
    let catalog = c.args.catalog.now.catalog in
    c.in_ok-tables-in-Table.ensures
    ∙ one_planned c.in-Table.table c.args.columns ps catalog (subst (λ s. IsThere s catalog) c.in-Table.is c.requires.there)
    ∙ ap (λ s. numbers_of (planned s c.args.columns ps catalog)) (sym c.in-Table.is)

pub returns-in-Other : goal.returns-in-Other
returns-in-Other c =
    let ps = c.args.comparisons.now in
    let catalog = c.args.catalog.now.catalog in
    c.new.ensures ∙ none_planned c.args.columns ps catalog ∙ ap (λ s. numbers_of (planned s c.args.columns ps catalog)) (sym c.in-Other.is)
