use Rattle.std.proofs.Common.{ℕ, ◌+◌, ◌++◌, ◌∙◌, ap, length, List}
use Rattle.std.specs.Int.{w32, to_le_bytes}
use Rattle.std.specs.List.{flat_map}
use Rattle.td_manifest.specs.declared.head.HeadSet.{HeadSet}
use Rattle.td_manifest.specs.Files.{set_items}
use Rattle.td_manifest.specs.Writing.{can_put_set}
use Rattle.td_manifest.proofs.WritingLaws.{head_pass, same_can_put}
use Rattle.td_manifest.proofs.PlaceLaws.{stream_place_is}
use Rattle.td_manifest.proofs.places.place_of_stream.Goals as goal

pub put_list-requires-clause-few : goal.put_list-requires-clause-few
put_list-requires-clause-few c = (same_can_put can_put_set c.args.head.now.sets c.as_slice.result.now c.as_slice.ensures (head_pass c.args.head.now c.requires).sets).0

pub put_list-requires-clause-can_put : goal.put_list-requires-clause-can_put
put_list-requires-clause-can_put c = (same_can_put can_put_set c.args.head.now.sets c.as_slice.result.now c.as_slice.ensures (head_pass c.args.head.now c.requires).sets).1

pub returns : goal.returns
returns c =
    let h = c.args.head.now in
    let bytes : List HeadSet → List ℕ = λ ss. to_le_bytes w32 (length ss) ++ flat_map set_items.spelled ss in
    let listed = ap (λ (ss : List HeadSet). c.in_ok-before.before ++ bytes ss) c.as_slice.ensures in
    let fronted = ap (λ (l : List ℕ). l ++ bytes h.sets) c.in_ok-before.ensures in
    ap (λ (n : ℕ). n + 24) c.len.ensures ∙ stream_place_is h c.put_list.new.out (c.in_ok-put_list.ensures ∙ listed ∙ fronted)
