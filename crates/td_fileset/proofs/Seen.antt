-- What scans of open files stand for, by what they read.
use Rattle.std.proofs.Common.{◌≡◌, ℕ, List, [], Option, Some, None, refl, ap, ◌∙◌}
use Rattle.std.specs.Option.{option_map}
use Rattle.td_sttfile.specs.Scanned.{Want as SttWant, scanned as stt_scanned, cuts_of_file, damaged_places as stt_damaged}
use Rattle.td_sttfile.specs.Scanning.{Scan as SttScan, cuts_of as stt_cuts, damaged_of as stt_damaged_of}
use Rattle.td_datafile.specs.Scanned.{Want as DataWant, scanned as data_scanned, damaged_places as data_damaged}
use Rattle.td_datafile.specs.Scanning.{Scan as DataScan, damaged_of as data_damaged_of}
use Rattle.td_fileset.specs.Sources.{Reads, layer_of, InSttFile, InDataFile}
use Rattle.td_fileset.specs.Layered.{Span, stt_want, data_want, bytes_layer}
use Rattle.td_fileset.specs.Opened.{told_file, told_damage}

module _ (span : Span) (told : Option (List ℕ)) (file size : ℕ) where
  abbrev pub stt_reads : Reads
  stt_reads = record { kept = InSttFile; bytes = told; file = file; size = size }

  abbrev pub data_reads : Reads
  data_reads = record { kept = InDataFile; bytes = told; file = file; size = size }

  pub stt_layer : (s : SttScan) → s.want ≡ stt_want span → s.told ≡ told → s.left ≡ option_map (λ all. (stt_scanned s.want all).partials) told → layer_of s.left (stt_cuts s) ≡ told_file span stt_reads
  stt_layer s want is left = ap (λ o. layer_of o (stt_cuts s)) (left ∙ ap (λ (w : SttWant). option_map (λ all. (stt_scanned w all).partials) told) want) ∙ ap (λ (t : Option (List ℕ)). layer_of (option_map (λ all. (stt_scanned (stt_want span) all).partials) told) (option_map cuts_of_file t)) is ∙ by told
    where
      by : (t : Option (List ℕ)) → layer_of (option_map (λ all. (stt_scanned (stt_want span) all).partials) t) (option_map cuts_of_file t) ≡ option_map (bytes_layer span InSttFile) t
      by None = refl
      by (Some all) = refl

  pub data_layer : (s : DataScan) → s.want ≡ data_want span → s.left ≡ option_map (λ all. (data_scanned s.want all).partials) told → layer_of s.left (Some []) ≡ told_file span data_reads
  data_layer s want left = ap (λ o. layer_of o (Some [])) (left ∙ ap (λ (w : DataWant). option_map (λ all. (data_scanned w all).partials) told) want) ∙ by told
    where
      by : (t : Option (List ℕ)) → layer_of (option_map (λ all. (data_scanned (data_want span) all).partials) t) (Some []) ≡ option_map (bytes_layer span InDataFile) t
      by None = refl
      by (Some all) = refl

  pub stt_damage : (s : SttScan) → s.want ≡ stt_want span → s.told ≡ told → s.file ≡ file → stt_damaged_of s ≡ told_damage span stt_reads
  stt_damage s want is at = λ i. option_map (stt_damaged (want i) (at i)) (is i)

  pub data_damage : (s : DataScan) → s.want ≡ data_want span → s.told ≡ told → s.file ≡ file → data_damaged_of s ≡ told_damage span data_reads
  data_damage s want is at = λ i. option_map (data_damaged (want i) (at i)) (is i)
