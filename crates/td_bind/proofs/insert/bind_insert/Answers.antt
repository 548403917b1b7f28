use Rattle.std.proofs.Common.{◌≡◌, sym, ap, subst, false, ◌∙◌}
use Rattle.td_catalog.proofs.Apart.{apart_first}
use Rattle.td_verdict.specs.Names.{names_of, stands_twice}
use Rattle.td_bind.specs.Literals.{HasKinds}
use Rattle.td_bind.proofs.Suited.{all_kinds, chosen_kinds}
use Rattle.td_bind.proofs.insert.bind_insert.Goals as goal

pub bind_groups-requires-clause-kinds : goal.bind_groups-requires-clause-kinds
bind_groups-requires-clause-kinds c =
    let schema = c.in-Some-find_table.schema.now in
    subst (λ columns. HasKinds columns columns) (sym c.as_slice-columns.ensures)
    (all_kinds schema.columns (apart_first (names_of schema.columns) (names_of schema.tags) c.in-Some-find_table.ensures.valid.apart))

pub bind_groups-requires-in-Some-names-clause-kinds : goal.bind_groups-requires-in-Some-names-clause-kinds
bind_groups-requires-in-Some-names-clause-kinds c =
    let schema = c.in-Some-find_table.schema.now in
    let columns = c.as_slice-columns.result.now in
    let apart : stands_twice (names_of columns) ≡ false = ap (λ cs. stands_twice (names_of cs)) c.as_slice-columns.ensures ∙ apart_first (names_of schema.columns) (names_of schema.tags) c.in-Some-find_table.ensures.valid.apart in
    subst (HasKinds columns) (sym (c.as_slice-in-Some-names.ensures ∙ c.in_ok-places-in-Some-names.ensures)) (chosen_kinds columns c.as_slice.result.now apart)
