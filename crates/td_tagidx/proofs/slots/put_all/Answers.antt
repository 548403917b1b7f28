use Rattle.std.proofs.Common.{◌≡◌, ℕ, ◌+◌, not, List, ◌∷◌, drop, sum_by, ◌==◌, sym, ap, ◌∙◌, rules}
use Rattle.std.proofs.lemmas.Fn.{filter_same}
use Rattle.std.proofs.lemmas.List.{drop_more}
use Rattle.td_layer.specs.declared.values.Cell.{Cell}
use Rattle.td_tagidx.specs.Order.{table_of}
use Rattle.td_tagidx.specs.Slots.{slots_from, of_others}
use Rattle.td_tagidx.proofs.Filed.{put_next, others_next}
use Rattle.td_tagidx.proofs.slots.put_all.Goals as goal

pub returns-in-Err-clause-kept : goal.returns-in-Err-clause-kept
returns-in-Err-clause-kept c =
    filter_same _ (λ s. not (table_of s.mark == c.args.table)) _ (λ x b f' t. search rules) _ _ c.retain.ensures.filtered
    ∙ ap (of_others c.args.table) c.in-Err.ensures.kept
    ∙ c.loop-place.invariant.others

pub loop-place-preserved : goal.loop-place-preserved
loop-place-preserved c =
    let table : ℕ = c.args.table in
    let place : ℕ = c.loop-place.place in
    let cells : List Cell = c.args.cells.now in
    let rest : List Cell = drop (place + 1) cells in
    let a : Cell = c.index-cells-place.result in
    let is : drop place cells ≡ a ∷ rest = drop_more cells place a c.loop-place-test.true ∙ ap (λ x. x ∷ rest) (sym c.index-cells-place.is) in
    record {
      others = ap (of_others table) c.in_default.ensures.put ∙ others_next table place a c.loop-place.slots.keys ∙ c.loop-place.invariant.others;
      same = λ f.
          ap (λ ks. sum_by f ks + sum_by f (slots_from table (place + 1) rest)) c.in_default.ensures.put
          ∙ put_next table place a cells rest c.args.slots.now.keys c.loop-place.slots.keys c.requires
          (λ g. ap (λ xs. sum_by g c.loop-place.slots.keys + sum_by g (slots_from table place xs)) (sym is) ∙ c.loop-place.invariant.same g)
          f;
    }
