-- The files of a set count in its day range alone.
use Rattle.std.proofs.Common.{◌≡◌, ℕ, ◌≤◌, leb, Bool, true, false, cond, ◌&&◌, List, [], ◌∷◌, ◌++◌, map, filter, Option, None, refl, sym, ap, ◌∙◌, arith}
use Rattle.std.specs.List.{flat_map, list_all}
use Rattle.std.specs.FinMap.Entries.{find}
use Rattle.std.proofs.lemmas.Bool.{and_parts, and_from, leb-true, le-leb, false_from_ne_true, both_ways}
use Rattle.td_cols.specs.declared.kinds.Kind.{Kind}
use Rattle.td_layer.specs.declared.values.Key.{Key}
use Rattle.td_layer.specs.declared.values.Row.{Row}
use Rattle.td_layer.specs.declared.parts.Partial.{Partial}
use Rattle.td_layer.specs.Keys.{key_cmp}
use Rattle.td_layer.specs.Parts.{act}
use Rattle.td_layer.specs.Scans.{is_cut}
use Rattle.td_fileio.specs.Days.{day_start, day_end, is_in_day}
use Rattle.td_fileset.specs.Stack.{Layer, part_of, row_at}
use Rattle.td_fileset.specs.Ranges.{only}
use Rattle.td_fileset.specs.Sources.{Reads}
use Rattle.td_fileset.specs.Layered.{OpenSet, files_of, whole, file_layer, in_day, set_layers, is_sound, are_sound}
use Rattle.td_fileset.proofs.Filters.{cut_day}
use Rattle.td_fileset.proofs.Pieced.{above}
use Rattle.td_fileset.proofs.Ranged.{only_found}
use Rattle.td_levels.specs.Levels.{SetFiles, Files, open_set, open_sets}

-- layers over others lie above their row
pub row_over : (q : Key) (xs ys : List Layer) → row_at q (xs ++ ys) ≡ above q xs (row_at q ys)
row_over q [] ys = refl
row_over q (x ∷ xs) ys = ap (act (part_of q x)) (row_over q xs ys)

-- a layer in a day range does to a key of the day what it did, and to others nothing
pub part_in_day : (range : ℕ) (q : Key) (l : Layer) (row : Option Row) → act (part_of q (in_day range l)) row ≡ cond (is_in_day range q.ts) (act (part_of q l) row) row
part_in_day range q l row =
    ap (λ (c : Bool). act (record { cut = c; put = find key_cmp q (only (λ (key : Key). is_in_day range key.ts) l.partials) }) row) (cut_day range q l.cuts)
    ∙ ap (λ (p : Option Partial). act (record { cut = is_in_day range q.ts && is_cut q l.cuts; put = p }) row) (only_found (λ (key : Key). is_in_day range key.ts) l.partials q)
    ∙ by (is_in_day range q.ts)
  where
    by : (b : Bool) → act (record { cut = b && is_cut q l.cuts; put = cond b (find key_cmp q l.partials) None }) row ≡ cond b (act (record { cut = is_cut q l.cuts; put = find key_cmp q l.partials }) row) row
    by true = refl
    by false = refl

-- a set of another day does nothing to a key
pub idle : (t : ℕ × List Kind) (s : OpenSet) (q : Key) (row : Option Row) → is_in_day s.range q.ts ≡ false → above q (set_layers t s) row ≡ row
idle t s q row h = each (files_of s)
  where
    each : (rs : List Reads) → above q (map (λ (r : Reads). in_day s.range (file_layer (whole t.0 t.1) r)) rs) row ≡ row
    each [] = refl
    each (r ∷ rs) =
        part_in_day s.range q (file_layer (whole t.0 t.1) r) (above q (map (λ (r : Reads). in_day s.range (file_layer (whole t.0 t.1) r)) rs) row)
        ∙ ap (λ (b : Bool). cond b (act (part_of q (file_layer (whole t.0 t.1) r)) (above q (map (λ (r : Reads). in_day s.range (file_layer (whole t.0 t.1) r)) rs) row)) (above q (map (λ (r : Reads). in_day s.range (file_layer (whole t.0 t.1) r)) rs) row)) h
        ∙ each rs

-- ---- some of the sets

-- the row that sets make of a key of a table
abbrev pub sets_row : ℕ × List Kind → Key → List OpenSet → Option Row
sets_row t q sets = row_at q (flat_map (set_layers t) sets)

pub first_set : (t : ℕ × List Kind) (q : Key) (s : OpenSet) (ss : List OpenSet) → sets_row t q (s ∷ ss) ≡ above q (set_layers t s) (sets_row t q ss)
first_set t q s ss = row_over q (set_layers t s) (flat_map (set_layers t) ss)

pub idle_first : (t : ℕ × List Kind) (q : Key) (s : OpenSet) (ss : List OpenSet) → is_in_day s.range q.ts ≡ false → sets_row t q (s ∷ ss) ≡ sets_row t q ss
idle_first t q s ss h = first_set t q s ss ∙ idle t s q (sets_row t q ss) h

module _ (files : Files) (keep : SetFiles → Bool) (t : ℕ × List Kind) where
  -- a key has the same row where no set of its day is left out
  pub kept_row : (q : Key) (sets : List SetFiles) → ((s : SetFiles) → keep s ≡ false → is_in_day s.range q.ts ≡ false)
      → sets_row t q (open_sets files (filter keep sets)) ≡ sets_row t q (open_sets files sets)
  kept_row q [] apart = refl
  kept_row q (s ∷ ss) apart = by (keep s) refl (kept_row q ss apart)
    where
      by : (b : Bool) → keep s ≡ b → sets_row t q (open_sets files (filter keep ss)) ≡ sets_row t q (open_sets files ss)
          → sets_row t q (open_sets files (cond b (s ∷ filter keep ss) (filter keep ss))) ≡ sets_row t q (open_sets files (s ∷ ss))
      by true e rest =
          first_set t q (open_set files s) (open_sets files (filter keep ss))
          ∙ ap (above q (set_layers t (open_set files s))) rest
          ∙ sym (first_set t q (open_set files s) (open_sets files ss))
      by false e rest = rest ∙ sym (idle_first t q (open_set files s) (open_sets files ss) (apart s e))

  pub kept_sound : (sets : List SetFiles) → are_sound t (open_sets files sets) ≡ true → are_sound t (open_sets files (filter keep sets)) ≡ true
  kept_sound [] h = refl
  kept_sound (s ∷ ss) h =
      let own : Bool = list_all (λ (r : Reads). is_sound (whole t.0 t.1) r.kept r.bytes) (files_of (open_set files s)) in
      let parts = and_parts own (are_sound t (open_sets files ss)) h in
      by (keep s) parts.0 (kept_sound ss parts.1)
    where
      by : (b : Bool) → list_all (λ (r : Reads). is_sound (whole t.0 t.1) r.kept r.bytes) (files_of (open_set files s)) ≡ true → are_sound t (open_sets files (filter keep ss)) ≡ true
          → are_sound t (open_sets files (cond b (s ∷ filter keep ss) (filter keep ss))) ≡ true
      by true own rest = and_from _ _ own rest
      by false own rest = rest

-- ---- days

-- what a timestamp of a day range is
pub in_day_ends : (range ts : ℕ) → is_in_day range ts ≡ true → (day_start range ≤ ts) × (ts ≤ day_end range)
in_day_ends range ts h = let parts = and_parts (leb (day_start range) ts) (leb ts (day_end range)) h in (leb-true (day_start range) ts parts.0, leb-true ts (day_end range) parts.1)

-- a timestamp at or above an edge lies in no day range below it
pub below_edge : (edge range ts : ℕ) → day_start edge ≤ ts → leb edge range ≡ false → is_in_day range ts ≡ false
below_edge edge range ts from out = false_from_ne_true (is_in_day range ts) (λ h. let ends = in_day_ends range ts h in both_ways (leb edge range) out (le-leb edge range (omega (arith, ends.0, ends.1, from))))

-- a timestamp lies in no day range that a range of timestamps with it doesn't meet
pub not_met : (edge lo hi range ts : ℕ) → day_start edge ≤ ts → lo ≤ ts → ts ≤ hi → (leb edge range && (leb (day_start range) hi && leb lo (day_end range))) ≡ false → is_in_day range ts ≡ false
not_met edge lo hi range ts from low high out =
    false_from_ne_true (is_in_day range ts) (λ h.
    let ends = in_day_ends range ts h in
    both_ways (leb edge range && (leb (day_start range) hi && leb lo (day_end range))) out
    (and_from (leb edge range) (leb (day_start range) hi && leb lo (day_end range)) (le-leb edge range (omega (arith, ends.0, ends.1, from)))
    (and_from (leb (day_start range) hi) (leb lo (day_end range)) (le-leb (day_start range) hi (omega (arith, ends.0, high))) (le-leb lo (day_end range) (omega (arith, ends.1, low))))))
