use Rattle.std.proofs.Common.{◌≡◌, map, sum_by, sym, ap, ◌∙◌}
use Rattle.std.proofs.lemmas.Result.{IfOk-weaker}
use Rattle.td_model.specs.Tags.{matching}
use Rattle.td_tagidx.specs.declared.order.Slot.{Slot}
use Rattle.td_tagidx.specs.Subtables.{subtable_of}
use Rattle.td_tagidx.specs.Order.{table_of, slot_cmp}
use Rattle.td_tagidx.specs.Slots.{between, HasSame}
use Rattle.td_tagidx.proofs.Found.{between_is, none_is, edges-rise}
use Rattle.td_tagidx.proofs.index.found.Goals as goal

pub returns-in-Some : goal.returns-in-Some
returns-in-Some c = λ f.
    ap (λ xs. sum_by f xs) c.new.ensures.items
    ∙ none_is c.args.subtables.now c.args.op c.in-Some.field-0 (sym c.edges_of.ensures ∙ c.in-Some.is) c.args.tag c.args.lit.now (sym c.is_comparable.ensures ∙ c.if-not-is_comparable.true) f

pub tables_between-requires : goal.tables_between-requires
tables_between-requires c =
    let start = c.in_ok-start-in-Some-2.ensures.same in
    let end = c.in_ok-end-in-Some-2.ensures.same in
    (λ j. slot_cmp (record { place = c.args.tag; cell = start j; mark = c.in-Some.field-0.0 }) (record { place = c.args.tag; cell = end j; mark = c.in-Some.field-0.1 }))
    ∙ edges-rise c.args.op c.in-Some.field-0.0 c.in-Some.field-0.1 (sym c.edges_of.ensures ∙ c.in-Some.is) c.args.tag c.args.lit.now

pub returns-in_ok-end-in-Some-2 : goal.returns-in_ok-end-in-Some-2
returns-in_ok-end-in-Some-2 c =
    let start = c.in_ok-start-in-Some-2.ensures.same in
    let end = c.in_ok-end-in-Some-2.ensures.same in
    let from : Slot = record { place = c.args.tag; cell = c.in_ok-start-in-Some-2.start; mark = c.in-Some.field-0.0 } in
    let to : Slot = record { place = c.args.tag; cell = c.in_ok-end-in-Some-2.end; mark = c.in-Some.field-0.1 } in
    let found = between_is c.args.subtables.now c.args.slots.now.keys c.requires c.args.op c.in-Some.field-0.0 c.in-Some.field-0.1 (sym c.edges_of.ensures ∙ c.in-Some.is) c.args.tag c.args.lit.now (sym c.is_comparable.ensures ∙ c.if-not-is_comparable.false) in
    IfOk-weaker c.tables_between.result
    (λ tables. tables.items ≡ map (λ (s : Slot). table_of s.mark) (between from to c.args.slots.now.keys))
    (λ tables. HasSame tables.items (matching c.args.tag c.args.op c.args.lit.now (map subtable_of c.args.subtables.now)))
    (λ tables is. λ f.
    ap (λ xs. sum_by f xs) is
    ∙ (λ j. sum_by f (map (λ (s : Slot). table_of s.mark) (between (record { place = c.args.tag; cell = start j; mark = c.in-Some.field-0.0 }) (record { place = c.args.tag; cell = end j; mark = c.in-Some.field-0.1 }) c.args.slots.now.keys)))
    ∙ found f)
    c.tables_between.ensures
