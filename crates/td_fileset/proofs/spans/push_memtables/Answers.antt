use Rattle.std.proofs.Common.{◌≡◌, ℕ, ◌+◌, ◌∙◌, [], Option, Some, refl, arith}
use Rattle.td_layer.specs.Scans.{Places}
use Rattle.td_memtable.specs.Contents.{Contents}
use Rattle.td_fileset.specs.Stack.{Layer}
use Rattle.td_fileset.specs.Layered.{memtable_layer}
use Rattle.td_fileset.proofs.Reading.{layer_pushed, places_pushed}
use Rattle.td_fileset.proofs.spans.push_memtables.Goals as goal

pub loop-oldest-preserved : goal.loop-oldest-preserved
loop-oldest-preserved g c =
    let merging = c.loop-oldest.merging in
    let said = c.in_ok-push_scan.ensures in
    let kept = c.loop-oldest.invariant in
    let made = c.scan-scan.ensures in
    let layer : Contents → Option Layer = λ m. Some (memtable_layer (record { table = c.args.table; kinds = []; lo = c.args.lo; hi = c.args.hi }) m) in
    let none : Contents → Option Places = λ m. Some [] in
    record {
      layers = layer_pushed layer c.loop-oldest.left.now c.in-Some.newer.now c.in-Some.newer.now c.in-Some.oldest.now _ merging.layers c.push_scan.new.merging.layers _ c.in-Some.ensures.cases.0 refl (λ i. Some (record { cuts = made.cuts i; partials = made.left i })) said.pushed.layers_are kept.layers;
      places = places_pushed none c.loop-oldest.left.now c.in-Some.newer.now c.in-Some.newer.now c.in-Some.oldest.now (Some []) merging.damaged c.push_scan.new.merging.damaged _ c.in-Some.ensures.cases.0 refl refl said.pushed.places_are kept.places;
      waiting = said.waiting ∙ kept.waiting;
      room = said.room;
      files = said.files ∙ kept.files;
      failed = said.failed ∙ plain _ ∙ kept.failed;
      stays = said.stays ∙ kept.stays;
    }
  where
    plain : (n : ℕ) → n + 0 ≡ n
    plain n = omega arith
