use Rattle.std.proofs.Common.{ℕ, List, map, sum_by, sym, ap, ◌∙◌}
use Rattle.td_model.specs.Tags.{matching, tag_matches}
use Rattle.td_tagidx.specs.Indexed.{Subtables}
use Rattle.td_tagidx.specs.Slots.{HasSame}
use Rattle.td_tagidx.specs.Subtables.{subtable_of}
use Rattle.td_tagidx.specs.Inside.{with_last}
use Rattle.td_tagidx.proofs.Answer.{in_order, same_added, same_left, same_alone}
use Rattle.td_tagidx.proofs.index.TagIndex.find.Goals.{in-Some+then-tag_matches+in_ok-push, in-Some+else-tag_matches, in_default}
use Rattle.td_tagidx.proofs.index.TagIndex.find.Goals as goal

filed : (c : goal.After-from_vec) → HasSame c.in_ok-numbers.numbers.items (matching c.args.tag c.args.op c.args.lit.now (map subtable_of c.self.inside.subtables.items))
filed c = λ f. c.in_ok-numbers.ensures f ∙ ap (λ xs. sum_by f (matching c.args.tag c.args.op c.args.lit.now (map subtable_of xs))) c.deref.ensures.value

same : (c : goal.After-from_vec) → HasSame c.match-self.numbers.items (matching c.args.tag c.args.op c.args.lit.now (with_last c.self.inside.last (map subtable_of c.self.inside.subtables.items)))
same c =
    let es : Subtables = map subtable_of c.self.inside.subtables.items in
    let xs : List ℕ = c.in_ok-numbers.numbers.items in
    elim c.match-self.branch [
      | in-Some+then-tag_matches+in_ok-push w ↦ λ f.
          ap (λ v. sum_by f v.items) w.numbers-is ∙ ap (λ zs. sum_by f zs) w.in_ok-push.ensures.items
          ∙ same_added c.args.tag c.args.op c.args.lit.now c.self.inside.last es xs (filed c) w.in-Some.last w.in-Some.is (c.self.invariant.apart w.in-Some.last w.in-Some.is) (sym (w.tag_matches.ensures ∙ ap (tag_matches c.args.tag c.args.op c.args.lit.now) w.as_slice.ensures) ∙ w.if-tag_matches.true) f
      | in-Some+else-tag_matches w ↦ λ f.
          ap (λ v. sum_by f v.items) w.numbers-is
          ∙ same_left c.args.tag c.args.op c.args.lit.now c.self.inside.last es xs (filed c) w.in-Some.last w.in-Some.is (c.self.invariant.apart w.in-Some.last w.in-Some.is) (sym (w.tag_matches.ensures ∙ ap (tag_matches c.args.tag c.args.op c.args.lit.now) w.as_slice.ensures) ∙ w.if-tag_matches.false) f
      | in_default w ↦ λ f.
          ap (λ v. sum_by f v.items) w.numbers-is
          ∙ same_alone c.args.tag c.args.op c.args.lit.now c.self.inside.last es xs (filed c) w.in_default.is f
    ]

pub returns : goal.returns
returns c =
    c.from_vec.ensures
    ∙ in_order c.args.tag c.args.op c.args.lit.now c.self.inside.last c.self.inside.subtables.items c.self.invariant.filed.numbered c.match-self.numbers.items c.sort_unstable.new.self.items (same c) c.sort_unstable.ensures.permutation c.sort_unstable.ensures.sorted
    ∙ (λ j. matching c.args.tag c.args.op c.args.lit.now (c.self.view_is j).subtables)
