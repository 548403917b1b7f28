use Rattle.std.proofs.Common.{◌≡◌, ℕ, ◌+◌, ◌∙◌, ap, sym, arith}
use Rattle.std.specs.Prelude.{sum}
use Rattle.td_fileset.specs.Sources.{InSttFile}
use Rattle.td_fileset.specs.Layered.{OpenSet}
use Rattle.td_fileset.specs.Opened.{Readers, with_kept, with_files, span_of, told_file, told_damage}
use Rattle.td_fileset.proofs.Reading.{layer_pushed, places_pushed}
use Rattle.td_fileset.proofs.Seen.{stt_reads, stt_layer, stt_damage}
use Rattle.td_fileset.proofs.spans.push_stt.Goals as goal

counted : (count old taken new sum_old sum_new all : ℕ) → old ≡ taken + count → new + sum_new ≡ (taken + sum_old) + count → old + sum_old ≡ all → new + sum_new ≡ all
counted count old taken new sum_old sum_new all a b c = omega (arith, a, b, c)

pub loop-reader-preserved : goal.loop-reader-preserved
loop-reader-preserved g c =
    let span = span_of c.args.span in
    let was = c.loop-reader.set in
    let merging = c.loop-reader.merging in
    let taken = c.take_oldest.new.self in
    let now = c.push_scan.new.set in
    let scan = c.scan-scan.result in
    let bytes = g.R.FileBytes.bytes c.in-Some.reader in
    let file = g.R.FileBytes.file c.in-Some.reader in
    let size = g.R.FileBytes.size c.in-Some.reader in
    let reads = stt_reads span bytes file size in
    let made = c.scan-scan.ensures in
    let said = c.in_ok-push_scan.ensures in
    let kept = c.loop-reader.invariant in
    let left = c.in-Some.ensures in
    let long = ap (λ (s : OpenSet). s.stt) left.files in
    let same = ap (λ (s : Readers). s.files.stt) said.stays in
    record {
      layers = layer_pushed (told_file span) was.files.stt taken.files.stt now.files.stt reads _ merging.layers c.push_scan.new.merging.layers _ long same (stt_layer span bytes file size scan made.want made.told made.left) said.pushed.layers_are kept.layers;
      places = places_pushed (told_damage span) was.files.stt taken.files.stt now.files.stt reads _ merging.damaged c.push_scan.new.merging.damaged _ long same (stt_damage span bytes file size scan made.want made.told made.file) said.pushed.places_are kept.places;
      waiting = said.waiting ∙ kept.waiting;
      room = said.room;
      files =
          said.files
          ∙ (λ i. with_files merging.reads (with_kept InSttFile (record { kept = InSttFile; bytes = made.told i; file = made.file i; size = made.size i }) taken.files))
          ∙ sym (ap (with_files merging.reads) left.files)
          ∙ kept.files;
      failed = counted (g.R.FileBytes.count c.in-Some.reader) was.failed taken.failed now.failed (sum merging.counts) (sum c.push_scan.new.merging.counts) _ left.failed (said.failed ∙ ap (λ n. (taken.failed + sum merging.counts) + n) made.count) kept.failed;
      main = ap (λ (s : Readers). s.files.main) said.stays ∙ sym (ap (λ (s : OpenSet). s.main) left.files) ∙ kept.main;
    }
