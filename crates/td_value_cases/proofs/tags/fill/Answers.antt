use Rattle.std.proofs.Common.{◌≡◌, ℕ, ◌+◌, ◌<◌, All, ap, sym, subst, ◌∙◌, arith}
use Rattle.std.specs.Ordering.{nat_cmp}
use Rattle.std.specs.Map.{keys_of}
use Rattle.std.specs.BTreeMap.{insert_entry}
use Rattle.std.proofs.lemmas.List.Elements.{All-weaker}
use Rattle.std.proofs.lemmas.Map.Views.{All-keys-insert_entry}
use Rattle.td_tagidx.specs.Indexed.{Subtables}
use Rattle.td_value_cases.proofs.Absent.{absent_above}
use Rattle.td_value_cases.proofs.tags.fill.Goals as goal

pub prepare-requires : goal.prepare-requires
prepare-requires c = absent_above c.loop-table.table c.loop-table.index.subtables c.loop-table.invariant

pub loop-table-preserved : goal.loop-table-preserved
loop-table-preserved c =
    let es : Subtables = c.loop-table.index.subtables in
    let t : ℕ = c.loop-table.table in
    let change = c.in_ok-change.change in
    let key : change.0 ≡ t = ap (λ p. p.0) c.in_ok-change.ensures.change in
    let new : c.add.new.self.subtables ≡ insert_entry nat_cmp es change.0 change.1 = c.add.ensures ∙ ap (λ xs. insert_entry nat_cmp xs change.0 change.1) c.in_ok-change.ensures.unchanged in
    let weaker = All-weaker (λ k. k < t) (λ k. k < t + 1) (λ k h. omega arith) (keys_of es) c.loop-table.invariant in
    subst (λ (xs : Subtables). All (λ k. k < t + 1) (keys_of xs)) (sym new) (All-keys-insert_entry nat_cmp change.0 change.1 (λ k. k < t + 1) es weaker (omega arith))
