-- A span's merge: its layers and places, and what it does to the count of faults.
use Rattle.std.proofs.Common.{◌≡◌, ℕ, ◌+◌, ◌-◌, ◌^◌, ◌≤◌, List, [], ◌++◌, map, Option, Some, None, ap, ◌∙◌, subst, arith}
use Rattle.std.specs.Prelude.{IfSome, Result, Ok, Err, min}
use Rattle.std.specs.Option.{option_map}
use Rattle.td_layer.specs.declared.values.Row.{Row}
use Rattle.td_layer.specs.declared.scans.ScanFault.{ScanFault}
use Rattle.td_layer.specs.declared.scans.ScanFault.TheVariants.{ReadFault, Damaged, NoMemory}
use Rattle.td_layer.specs.Scans.{Places, Explains, HasScanCause}
use Rattle.td_memtable.specs.Contents.{Contents}
use Rattle.td_fileset.specs.Stack.{Layer, rows_of}
use Rattle.td_fileset.specs.Sources.{Reads}
use Rattle.td_fileset.specs.Merged.{Merged, nothing_merged, held}
use Rattle.td_fileset.specs.Layered.{OpenSet, listed, Span, memtable_layer}
use Rattle.td_fileset.specs.Opened.{told_file, told_damage, over_layers, beside_places, span_layers, span_places, timed, shown_count}

module _ (ms : List Contents) (s : OpenSet) (span own : Span) (stt : List Reads) (m0 m1 m2 m3 : Merged) where
  pub layers_pushed : m0 ≡ nothing_merged → stt ≡ s.stt → m1.layers ≡ over_layers (map (told_file own) (listed s.main)) m0.layers → m2.layers ≡ over_layers (map (told_file own) stt) m1.layers
      → m3.layers ≡ over_layers (map (λ (m : Contents). Some (memtable_layer span m)) ms) m2.layers → m3.layers ≡ span_layers ms s span own
  layers_pushed none same a b c =
      c ∙ ap (over_layers (map (λ (m : Contents). Some (memtable_layer span m)) ms))
      (b ∙ (λ i. over_layers (map (told_file own) (same i)) ((a ∙ ap (λ (m : Merged). over_layers (map (told_file own) (listed s.main)) m.layers) none) i)))

  pub places_pushed : m0 ≡ nothing_merged → stt ≡ s.stt → m1.damaged ≡ beside_places (map (told_damage own) (listed s.main)) m0.damaged → m2.damaged ≡ beside_places (map (told_damage own) stt) m1.damaged
      → m3.damaged ≡ beside_places (map (λ (m : Contents). Some []) ms) m2.damaged → m3.damaged ≡ span_places ms s own
  places_pushed none same a b c =
      c ∙ ap (beside_places (map (λ (m : Contents). Some []) ms))
      (b ∙ (λ i. beside_places (map (told_damage own) (same i)) ((a ∙ ap (λ (m : Merged). beside_places (map (told_damage own) (listed s.main)) m.damaged) none) i)))

-- ---- rows and steps

pub found_told : (before found : List (ℕ × Row)) (o told : Option (List Layer)) → o ≡ told → IfSome (option_map rows_of o) (λ rows. found ≡ before ++ timed rows) → IfSome told (λ layers. found ≡ before ++ timed (rows_of layers))
found_told before found o told e h = subst (λ (q : Option (List Layer)). IfSome q (λ layers. found ≡ before ++ timed (rows_of layers))) e (by o h)
  where
    by : (o : Option (List Layer)) → IfSome (option_map rows_of o) (λ rows. found ≡ before ++ timed rows) → IfSome o (λ layers. found ≡ before ++ timed (rows_of layers))
    by None h = tt
    by (Some layers) h = h

pub most_told : (before now : ℕ) (o told : Option (List Layer)) → o ≡ told → IfSome o (λ layers. now ≤ before + held layers) → IfSome told (λ layers. now ≤ before + held layers)
most_told before now o told e h = subst (λ (q : Option (List Layer)). IfSome q (λ layers. now ≤ before + held layers)) e h

pub none_taken : (before now : ℕ) (o : Option (List Layer)) → now ≡ before → IfSome o (λ layers. now ≤ before + held layers)
none_taken before now None e = tt
none_taken before now (Some layers) e = omega (arith, e)

-- ---- faults

-- others' faults count beside those of a merge
pub cause_beside : {X : Type 0} (places : Option Places) (x a b : ℕ) (r : Result X ScanFault) → HasScanCause places (min a (2 ^ 64 - 1)) (min b (2 ^ 64 - 1)) r → HasScanCause places (shown_count (x + a)) (shown_count (x + b)) r
cause_beside {X} places x a b (Ok v) h = record { later = later x a b h.later; kept = same x a b h.kept; fault = tt }
  where
    later : (x a b : ℕ) → min a (2 ^ 64 - 1) ≤ min b (2 ^ 64 - 1) → min (x + a) (2 ^ 64 - 1) ≤ min (x + b) (2 ^ 64 - 1)
    later x a b h = omega (arith, h)

    same : (x a b : ℕ) → min b (2 ^ 64 - 1) ≡ min a (2 ^ 64 - 1) → min (x + b) (2 ^ 64 - 1) ≡ min (x + a) (2 ^ 64 - 1)
    same x a b h = omega (arith, h)
cause_beside {X} places x a b (Err e) h = record { later = later x a b h.later; kept = tt; fault = by e h.fault }
  where
    later : (x a b : ℕ) → min a (2 ^ 64 - 1) ≤ min b (2 ^ 64 - 1) → min (x + a) (2 ^ 64 - 1) ≤ min (x + b) (2 ^ 64 - 1)
    later x a b h = omega (arith, h)

    same : (x a b : ℕ) → min b (2 ^ 64 - 1) ≡ min a (2 ^ 64 - 1) → min (x + b) (2 ^ 64 - 1) ≡ min (x + a) (2 ^ 64 - 1)
    same x a b h = omega (arith, h)

    rises : (x a b : ℕ) → min (min a (2 ^ 64 - 1) + 1) (2 ^ 64 - 1) ≤ min b (2 ^ 64 - 1) → min (min (x + a) (2 ^ 64 - 1) + 1) (2 ^ 64 - 1) ≤ min (x + b) (2 ^ 64 - 1)
    rises x a b h = omega (arith, h)

    by : (e : ScanFault) → Explains places (min a (2 ^ 64 - 1)) (min b (2 ^ 64 - 1)) e → Explains places (shown_count (x + a)) (shown_count (x + b)) e
    by ReadFault f = rises x a b f
    by (Damaged file at) f = (same x a b f.0, f.1)
    by NoMemory f = same x a b f

-- what a merge found is the set's cause
pub cause_of_span : {X : Type 0} (told places : Option Places) (failed left a b : ℕ) (r : Result X ScanFault) → told ≡ places → left + a ≡ failed → HasScanCause told (min a (2 ^ 64 - 1)) (min b (2 ^ 64 - 1)) r → HasScanCause places (shown_count failed) (shown_count (left + b)) r
cause_of_span {X} told places failed left a b r e is h =
    subst (λ (n : ℕ). HasScanCause places (shown_count n) (shown_count (left + b)) r) is
    (subst (λ (p : Option Places). HasScanCause p (shown_count (left + a)) (shown_count (left + b)) r) e (cause_beside told left a b r h))

pub cause_err : {X Y : Type 0} (places : Option Places) (a b : ℕ) (e : ScanFault) → HasScanCause {X = X} places a b (Err e) → HasScanCause {X = Y} places a b (Err e)
cause_err places a b e h = record { later = h.later; kept = tt; fault = h.fault }
