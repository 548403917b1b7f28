-- A piece more of a span, for rows, steps and faults.
use Rattle.std.proofs.Common.{◌≡◌, ℕ, zero, suc, ◌+◌, ◌≤◌, ◌<◌, Bool, true, false, ◌&&◌, eqb, leb, List, [], ◌∷◌, ◌++◌, length, map, get_or, Option, Some, None, refl, sym, ap, ◌∙◌, subst, arith}
use Rattle.std.specs.Prelude.{IfSome, sum, slice_set, Result, Err}
use Rattle.std.proofs.lemmas.Bool.Decides.{nat_tests}
use Rattle.std.proofs.lemmas.List.{append-nil}
use Rattle.td_layer.specs.declared.values.Key.{Key}
use Rattle.td_layer.specs.declared.values.Row.{Row}
use Rattle.td_layer.specs.declared.scans.ScanFault.{ScanFault}
use Rattle.td_layer.specs.Scans.{Places, rows_in, HasScanCause}
use Rattle.td_memtable.specs.Contents.{Contents}
use Rattle.td_fileset.specs.Stack.{Layer, rows_of}
use Rattle.td_fileset.specs.Merged.{told_places, held}
use Rattle.td_fileset.specs.Sources.{Reads}
use Rattle.td_fileset.specs.Layered.{OpenSet, Span, last_ts, failed_of, table_layers, table_places, are_sound, partials_in}
use Rattle.td_fileset.specs.Opened.{Readers, AddsRows, TakesSteps, shown_count, timed}
use Rattle.td_fileset.specs.Pieces.{set_at, piece_layers, piece_places, IsNumberOf, IsPiece}
use Rattle.td_fileset.proofs.Filters.{in_span, filter_none, for_all}
use Rattle.td_fileset.proofs.Indexed.{files_of, set_there, cause_at}
use Rattle.td_fileset.proofs.Placed.{piece_cause}
use Rattle.td_fileset.proofs.Stepped.{step_found, step_most}

-- ---- one set of some

-- One of some sets, by its number
module _ (rs : List Readers) (set : Option ℕ) (i : ℕ) (d : Readers) (is : set ≡ Some i) (number : IsNumberOf (files_of rs) set) where
  within : i < length rs
  within = by rs i (subst (IsNumberOf (files_of rs)) is number)
    where
      by : (rs : List Readers) (i : ℕ) → i < length (files_of rs) → i < length rs
      by [] i lt = lt
      by (r ∷ rs) zero lt = omega arith
      by (r ∷ rs) (suc i) lt = let rest = by rs i (omega (arith, lt)) in omega (arith, rest)

  -- what holds of its files
  pub at_set : (P : OpenSet → Type 0) → P (get_or rs i d).files → P (set_at (files_of rs) set)
  at_set P h = subst P (sym (set_there rs i d within) ∙ ap (set_at (files_of rs)) (sym is)) h

  -- its cause is that of all
  pub set_cause : {X : Type 0} (places : OpenSet → Option Places) (y : Readers) (r : Result X ScanFault) → HasScanCause (places (get_or rs i d).files) (shown_count (get_or rs i d).failed) (shown_count y.failed) r
      → HasScanCause (places (set_at (files_of rs) set)) (shown_count (sum (map (λ (r : Readers). r.failed) rs))) (shown_count (sum (map (λ (r : Readers). r.failed) (slice_set rs i y)))) r
  set_cause {X} places y r h = cause_at (places (set_at (files_of rs) set)) rs i y d r within (at_set (λ (s : OpenSet). HasScanCause {X = X} (places s) (shown_count (get_or rs i d).failed) (shown_count y.failed) r) h)

-- the readers of no file never failed
pub none_failed : {R : Type 0} (f : R → Reads) (count : R → ℕ) (rs : List R) (o : Option R) → map f rs ≡ [] → o ≡ None → failed_of count rs o ≡ 0
none_failed {R} f count [] o e n = ap (failed_of count []) n
none_failed {R} f count (r ∷ rs) o e n = absurd (cc)

-- ---- the end of a span

-- nothing lies from one timestamp to an earlier one
no_span : (table from hi : ℕ) (key : Key) → hi < from → in_span table from hi key ≡ false
no_span table from hi key lt = by (eqb key.table table) key.ts
  where
    by : (b : Bool) (ts : ℕ) → (b && (leb from ts && leb ts hi)) ≡ false
    by true ts = grind (arith, nat_tests)
    by false ts = refl

beyond : (table from hi : ℕ) (rows : List (Key × Row)) → hi < from → rows_in table from hi rows ≡ []
beyond table from hi rows lt =
    ap timed (filter_none (λ (e : Key × Row). in_span table from hi e.0) rows (for_all (λ (e : Key × Row). in_span table from hi e.0 ≡ false) rows (λ e. no_span table from hi e.0 lt)))

nothing_behind : (xs ys : List (ℕ × Row)) → ys ≡ [] → xs ++ ys ≡ xs
nothing_behind xs ys e = ap (λ l. xs ++ l) e ∙ append-nil xs

module _ (ms : List Contents) (sets : List OpenSet) (span : Span) where
  abbrev layers : List Layer
  layers = table_layers ms sets (span.table, span.kinds)

  abbrev IsSoundHere : Type 0
  IsSoundHere = are_sound (span.table, span.kinds) sets ≡ true

  -- Rows from one timestamp on are still to be added to those that were found, and so many steps are left for them.
  abbrev pub AreLeft : List (ℕ × Row) → List (ℕ × Row) → ℕ → Type 0
  AreLeft before found from = IsSoundHere
      → before ++ rows_in span.table span.lo span.hi (rows_of layers) ≡ found ++ rows_in span.table from span.hi (rows_of layers)

  abbrev pub StepsLeft : ℕ → ℕ → ℕ → Type 0
  StepsLeft before now from = IsSoundHere
      → now + partials_in span.table from span.hi layers ≤ before + partials_in span.table span.lo span.hi layers

  -- where no timestamp is left, all were added
  pub all_added : (before found : List (ℕ × Row)) (from : ℕ) → span.hi < from → AreLeft before found from → AddsRows ms sets span before found
  all_added before found from lt h = λ sound. sym (h sound ∙ nothing_behind found (rows_in span.table from span.hi (rows_of layers)) (beyond span.table from span.hi (rows_of layers) lt))

  pub steps_taken : (before now from : ℕ) → StepsLeft before now from → TakesSteps ms sets span before now
  steps_taken before now from h = λ sound. less now (partials_in span.table from span.hi layers) (before + partials_in span.table span.lo span.hi layers) (h sound)
    where
      less : (a b c : ℕ) → a + b ≤ c → a ≤ c
      less a b c h = omega (arith, h)

-- ---- a piece

-- Readers of some sets now, whose files are those of the sets; and the span of a piece of theirs
module _ (ms : List Contents) (now sets : List OpenSet) (same : now ≡ sets) (span part : Span) (from to : ℕ) (set : Option ℕ) (piece : IsPiece now from span.hi to set) (g : span.hi ≤ last_ts)
    (is : part ≡ record { table = span.table; kinds = span.kinds; lo = from; hi = to }) where
  here : IsPiece sets from span.hi to set
  here = subst (λ (s : List OpenSet). IsPiece s from span.hi to set) same piece

  pub piece_added : (before found more : List (ℕ × Row)) → IfSome (piece_layers ms now set part) (λ ls. more ≡ found ++ timed (rows_of ls)) → AreLeft ms sets span before found from → AreLeft ms sets span before more (to + 1)
  piece_added before found more h left = λ sound.
      step_found ms sets span.table span.kinds from span.hi to set here g sound found more (before ++ rows_in span.table span.lo span.hi (rows_of (table_layers ms sets (span.table, span.kinds))))
      (subst (λ (o : Option (List Layer)). IfSome o (λ ls. more ≡ found ++ timed (rows_of ls))) (λ i. piece_layers ms (same i) set (is i)) h)
      (left sound)

  pub piece_steps : (before old new : ℕ) → IfSome (piece_layers ms now set part) (λ ls. new ≤ old + held ls) → StepsLeft ms sets span before old from → StepsLeft ms sets span before new (to + 1)
  piece_steps before old new h left = λ sound.
      step_most ms sets span.table span.kinds from span.hi to set here g sound old new (before + partials_in span.table span.lo span.hi (table_layers ms sets (span.table, span.kinds)))
      (subst (λ (o : Option (List Layer)). IfSome o (λ ls. new ≤ old + held ls)) (λ i. piece_layers ms (same i) set (is i)) h)
      (left sound)

  -- a fault of a piece is one of the span, where nothing failed before
  pub piece_fault : (a b c : ℕ) (e : ScanFault) → b ≡ a → HasScanCause {X = Unit {0}} (piece_places ms now set part) b c (Err e) → HasScanCause {X = Unit {0}} (told_places (table_places sets (span.table, span.kinds))) a c (Err e)
  piece_fault a b c e count h =
      piece_cause ms sets set (record { table = span.table; kinds = span.kinds; lo = from; hi = to }) a c (Err e) up_to
      (subst (λ (n : ℕ). HasScanCause {X = Unit {0}} (piece_places ms sets set (record { table = span.table; kinds = span.kinds; lo = from; hi = to })) n c (Err e)) count
      (subst (λ o. HasScanCause {X = Unit {0}} o b c (Err e)) (λ i. piece_places ms (same i) set (is i)) h))
    where
      up_to : to ≤ last_ts
      up_to = omega (arith, here.within, g)
