-- File sets with a file more for each of some day ranges, of which those below an edge are left out.
use Rattle.std.proofs.Common.{◌≡◌, ℕ, ◌==◌, nat_lt, Bool, true, false, cond, ◌||◌, List, [], ◌∷◌, ◌++◌, map, Option, Some, None, refl, sym, ap, subst, ◌∙◌, arith}
use Rattle.std.specs.List.{flat_map, list_all, AllByRecursion}
use Rattle.std.specs.Option.{option_map}
use Rattle.std.proofs.lemmas.Bool.{and_parts, and_from, eqb-true, eqb-false, false_from_ne_true}
use Rattle.std.proofs.lemmas.List.Elements.{recursion_from_All}
use Rattle.td_cols.specs.declared.kinds.Kind.{Kind}
use Rattle.td_layer.specs.declared.values.Key.{Key}
use Rattle.td_layer.specs.declared.values.Row.{Row}
use Rattle.td_layer.specs.Parts.{act}
use Rattle.td_fileio.specs.Days.{is_in_day}
use Rattle.td_commit.specs.Sound.{RiseAbove, Rise}
use Rattle.td_commit.specs.Given.{is_in_any}
use Rattle.td_fileset.specs.Stack.{Layer, part_of}
use Rattle.td_fileset.specs.Ranges.{only}
use Rattle.td_fileset.specs.Sources.{Reads, InSttFile, InDataFile}
use Rattle.td_fileset.specs.Layered.{OpenSet, files_of, whole, file_layer, in_day, set_layers, is_sound, are_sound}
use Rattle.td_fileset.proofs.Filters.{all_append}
use Rattle.td_fileset.proofs.Pieced.{above}
use Rattle.td_levels.specs.Levels.{SetFiles, Files, reads_of, open_set, open_sets}
use Rattle.td_levels.specs.Ranges.{with_file}
use Rattle.td_levels.specs.Laws.{KeepFiles}
use Rattle.td_levels.proofs.Days.{part_in_day, idle, sets_row, first_set, in_day_ends}

-- ---- files that hold what they held

module _ (files files' : Files) where
  same_reads : (ns : List ℕ) → AllByRecursion (λ (n : ℕ). files' n ≡ files n) ns → map (reads_of files InSttFile) ns ≡ map (reads_of files' InSttFile) ns
  same_reads [] h = refl
  same_reads (n ∷ ns) h = λ i. record { kept = InSttFile; bytes = sym h.0 i; file = n; size = 0 } ∷ same_reads ns h.1 i

  same_main : (o : Option ℕ) → ((n : ℕ) → o ≡ Some n → files' n ≡ files n) → option_map (reads_of files InDataFile) o ≡ option_map (reads_of files' InDataFile) o
  same_main None h = refl
  same_main (Some n) h = λ i. Some (record { kept = InDataFile; bytes = sym (h n refl) i; file = n; size = 0 })

  pub same_sets : (sets : List SetFiles) → AllByRecursion (KeepFiles files files') sets → open_sets files sets ≡ open_sets files' sets
  same_sets [] h = refl
  same_sets (s ∷ ss) h =
      let stt = same_reads s.stt (recursion_from_All (λ (n : ℕ). files' n ≡ files n) s.stt h.0.stt) in
      let main = same_main s.main h.0.main in
      let rest = same_sets ss h.1 in
      λ i. record { range = s.range; stt = stt i; main = main i } ∷ rest i

-- ---- days

pub one_day : (a b ts : ℕ) → is_in_day a ts ≡ true → is_in_day b ts ≡ true → a ≡ b
one_day a b ts h k =
    let ends = in_day_ends a ts h in
    let others = in_day_ends b ts k in
    omega (arith, ends.0, ends.1, others.0, others.1)

pub other_day : (a b ts : ℕ) → is_in_day a ts ≡ true → (b ≡ a → ⊥) → is_in_day b ts ≡ false
other_day a b ts h other = false_from_ne_true (is_in_day b ts) (λ k. other (one_day b a ts k h))

-- a timestamp of a day range lies in none of later ones
pub none_later : (last ts : ℕ) (ranges : List ℕ) → RiseAbove last ranges → is_in_day last ts ≡ true → is_in_any ranges ts ≡ false
none_later last ts [] rise is = refl
none_later last ts (r ∷ rs) rise is =
    let lt = rise.0 in
    ap (λ (b : Bool). b || is_in_any rs ts) (other_day last r ts is (λ e. omega (arith, e, lt))) ∙ none_later last ts rs (above_more rs rise.1) is
  where
    above_more : (rs : List ℕ) → RiseAbove r rs → RiseAbove last rs
    above_more [] above = tt
    above_more (s ∷ ss) above = let next = above.0 in let first = rise.0 in (omega (arith, first, next), above.1)

pub rise_of_rest : (range : ℕ) (ranges : List ℕ) → RiseAbove range ranges → Rise ranges
rise_of_rest range [] rise = tt
rise_of_rest range (r ∷ rs) rise = rise.1

-- ---- layers without partials

-- no layer has a partial
abbrev pub AreEmpty : List Layer → Type 0
AreEmpty layers = AllByRecursion (λ (l : Layer). l.partials ≡ []) layers

pub empty_day : (r : ℕ) (l : Layer) → l.partials ≡ [] → (in_day r l).partials ≡ []
empty_day r l h = ap (only (λ (key : Key). is_in_day r key.ts)) h

pub split : (xs ys : List Layer) → AreEmpty (xs ++ ys) → AreEmpty xs × AreEmpty ys
split [] ys h = (tt, h)
split (x ∷ xs) ys h = let rest = split xs ys h.1 in ((h.0, rest.0), rest.1)

-- ---- one more file

module _ (files : Files) (t : ℕ × List Kind) (range n : ℕ) where
  -- the layer of the new file
  abbrev pub new_layer : Layer
  new_layer = file_layer (whole t.0 t.1) (reads_of files InSttFile n)

  -- the files of a set, in another day range
  abbrev own_set : SetFiles → ℕ → OpenSet
  own_set s r = record { range = r; stt = map (reads_of files InSttFile) s.stt; main = option_map (reads_of files InDataFile) s.main }

  pub with_row_of : (q : Key) (sets : List SetFiles) → sets_row t q (open_sets files (with_file range n sets)) ≡ cond (is_in_day range q.ts) (act (part_of q new_layer) (sets_row t q (open_sets files sets))) (sets_row t q (open_sets files sets))
  with_row_of q [] = part_in_day range q new_layer None
  with_row_of q (s ∷ ss) = by (s.range == range) (nat_lt range s.range) refl refl (with_row_of q ss)
    where
      -- a set of another day above
      past : (b : Bool) → is_in_day range q.ts ≡ b → (b ≡ true → is_in_day s.range q.ts ≡ false) → (row : Option Row)
          → above q (set_layers t (open_set files s)) (cond b (act (part_of q new_layer) row) row) ≡ cond b (act (part_of q new_layer) (above q (set_layers t (open_set files s)) row)) (above q (set_layers t (open_set files s)) row)
      past true is out row =
          idle t (open_set files s) q (act (part_of q new_layer) row) (out refl)
          ∙ sym (ap (act (part_of q new_layer)) (idle t (open_set files s) q row (out refl)))
      past false is out row = refl

      by : (a b : Bool) → (s.range == range) ≡ a → nat_lt range s.range ≡ b
          → sets_row t q (open_sets files (with_file range n ss)) ≡ cond (is_in_day range q.ts) (act (part_of q new_layer) (sets_row t q (open_sets files ss))) (sets_row t q (open_sets files ss))
          → sets_row t q (open_sets files (cond a (record { range = range; stt = n ∷ s.stt; main = s.main } ∷ ss) (cond b (record { range = range; stt = n ∷ []; main = None } ∷ s ∷ ss) (s ∷ with_file range n ss))))
          ≡ cond (is_in_day range q.ts) (act (part_of q new_layer) (sets_row t q (open_sets files (s ∷ ss)))) (sets_row t q (open_sets files (s ∷ ss)))
      by true b e lt rest =
          part_in_day range q new_layer (sets_row t q ((own_set s range) ∷ open_sets files ss))
          ∙ ap (λ (r : ℕ). cond (is_in_day range q.ts) (act (part_of q new_layer) (sets_row t q (own_set s r ∷ open_sets files ss))) (sets_row t q (own_set s r ∷ open_sets files ss))) (sym (eqb-true s.range range e))
      by false true e lt rest = part_in_day range q new_layer (sets_row t q (open_sets files (s ∷ ss)))
      by false false e lt rest =
          first_set t q (open_set files s) (open_sets files (with_file range n ss))
          ∙ ap (above q (set_layers t (open_set files s))) rest
          ∙ past (is_in_day range q.ts) refl (λ is. other_day range s.range q.ts is (eqb-false s.range range e)) (sets_row t q (open_sets files ss))
          ∙ ap (λ (row : Option Row). cond (is_in_day range q.ts) (act (part_of q new_layer) row) row) (sym (first_set t q (open_set files s) (open_sets files ss)))

  pub with_sound : (sets : List SetFiles) → is_sound (whole t.0 t.1) InSttFile (files n) ≡ true → are_sound t (open_sets files sets) ≡ true → are_sound t (open_sets files (with_file range n sets)) ≡ true
  with_sound [] new h = and_from _ _ (and_from _ _ new refl) refl
  with_sound (s ∷ ss) new h =
      let own : Bool = list_all (λ (r : Reads). is_sound (whole t.0 t.1) r.kept r.bytes) (files_of (open_set files s)) in
      let parts = and_parts own (are_sound t (open_sets files ss)) h in
      by (s.range == range) (nat_lt range s.range) parts.0 parts.1 (with_sound ss new parts.1)
    where
      by : (a b : Bool) → list_all (λ (r : Reads). is_sound (whole t.0 t.1) r.kept r.bytes) (files_of (open_set files s)) ≡ true → are_sound t (open_sets files ss) ≡ true → are_sound t (open_sets files (with_file range n ss)) ≡ true
          → are_sound t (open_sets files (cond a (record { range = range; stt = n ∷ s.stt; main = s.main } ∷ ss) (cond b (record { range = range; stt = n ∷ []; main = None } ∷ s ∷ ss) (s ∷ with_file range n ss)))) ≡ true
      by true b own others rest = and_from _ _ (and_from _ _ new own) others
      by false true own others rest = and_from _ _ (and_from _ _ new refl) (and_from _ _ own others)
      by false false own others rest = and_from _ _ own rest

  pub with_none : (sets : List SetFiles) → new_layer.partials ≡ [] → AreEmpty (flat_map (set_layers t) (open_sets files sets)) → AreEmpty (flat_map (set_layers t) (open_sets files (with_file range n sets)))
  with_none [] new h = (empty_day range new_layer new, tt)
  with_none (s ∷ ss) new h =
      let parts = split (set_layers t (open_set files s)) (flat_map (set_layers t) (open_sets files ss)) h in
      by (s.range == range) (nat_lt range s.range) refl parts.0 parts.1 (with_none ss new parts.1)
    where
      by : (a b : Bool) → (s.range == range) ≡ a → AreEmpty (set_layers t (open_set files s)) → AreEmpty (flat_map (set_layers t) (open_sets files ss)) → AreEmpty (flat_map (set_layers t) (open_sets files (with_file range n ss)))
          → AreEmpty (flat_map (set_layers t) (open_sets files (cond a (record { range = range; stt = n ∷ s.stt; main = s.main } ∷ ss) (cond b (record { range = range; stt = n ∷ []; main = None } ∷ s ∷ ss) (s ∷ with_file range n ss)))))
      by true b e own others rest =
          (empty_day range new_layer new, all_append (λ (l : Layer). l.partials ≡ []) (set_layers t (own_set s range)) (flat_map (set_layers t) (open_sets files ss)) (subst (λ (r : ℕ). AreEmpty (set_layers t (own_set s r))) (eqb-true s.range range e) own) others)
      by false true e own others rest = (empty_day range new_layer new, all_append (λ (l : Layer). l.partials ≡ []) (set_layers t (open_set files s)) (flat_map (set_layers t) (open_sets files ss)) own others)
      by false false e own others rest = all_append (λ (l : Layer). l.partials ≡ []) (set_layers t (open_set files s)) (flat_map (set_layers t) (open_sets files (with_file range n ss))) own rest
