use Rattle.std.proofs.Common.{◌++◌, ◌∷◌, [], cond, sym, ap, ◌∙◌}
use Rattle.td_query.specs.Planned.{keyed}
use Rattle.td_query.specs.Sums.{Sum, sum_of, with_row}
use Rattle.td_query.proofs.SumRows.{sum-row}
use Rattle.td_query.proofs.summing.add_wanted.Goals as goal

pub returns-in_ok-add : goal.returns-in_ok-add
returns-in_ok-add c = λ rows same.
    let places = c.args.asked.now.places.now in
    let e = keyed c.args.table.now.number c.args.found.now in
    c.in_ok-add.ensures
    ∙ ap (λ (s : Sum). with_row places s e) same
    ∙ sum-row places rows e
    ∙ ap (λ b. sum_of places (rows ++ cond b (e ∷ []) [])) (sym c.if-is_wanted.true ∙ c.is_wanted.ensures)
