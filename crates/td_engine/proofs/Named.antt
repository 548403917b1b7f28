-- The files of the next head are finished.
use Rattle.std.proofs.Common.{◌≡◌, ℕ, ◌==◌, nat_lt, nat_le, Bool, true, false, cond, List, [], ◌∷◌, ◌++◌, map, filter, reverse, Option, Some, None, All, refl, ap, subst}
use Rattle.std.specs.List.{AllByRecursion}
use Rattle.std.proofs.lemmas.List.{reverse-reverse}
use Rattle.std.proofs.lemmas.List.Elements.{All-from_recursion, recursion_from_All, All-cons, All-nil}
use Rattle.td_outside.specs.Image.{Image}
use Rattle.td_outside.specs.Files.{IsFinished}
use Rattle.td_manifest.specs.declared.head.HeadSet.{HeadSet}
use Rattle.td_manifest.specs.Files.{main_file, files_of, all_files}
use Rattle.td_fileset.specs.declared.file_set.FileSet.{FileSet}
use Rattle.td_levels.specs.Levels.{SetFiles}
use Rattle.td_levels.specs.Sets.{set_of, sets_of}
use Rattle.td_levels.specs.Ranges.{with_file, with_files, sets_from}
use Rattle.td_stands.specs.Heads.{set_files}
use Rattle.td_making.specs.Making.{head_set}
use Rattle.td_active.specs.Stored.{names_of, AreFinished}
use Rattle.td_engine.proofs.Added.{all_parts, all_both, reversed}

module _ (image : Image) where
  -- the files of a set are finished
  abbrev pub AreDone : SetFiles → Type 0
  AreDone s = All (λ (n : ℕ). IsFinished n image) (names_of s)

  first_file : (range n : ℕ) → IsFinished n image → AreDone (record { range = range; stt = n ∷ []; main = None })
  first_file range n done = All-cons (λ (n : ℕ). IsFinished n image) n [] done (All-nil (λ (n : ℕ). IsFinished n image))

  more_file : (n : ℕ) (s : SetFiles) → IsFinished n image → AreDone s → AreDone (record { range = s.range; stt = n ∷ s.stt; main = s.main })
  more_file n s done own = All-cons (λ (n : ℕ). IsFinished n image) n (names_of s) done own

  file_done : (range n : ℕ) (sets : List SetFiles) → IsFinished n image → AllByRecursion AreDone sets → AllByRecursion AreDone (with_file range n sets)
  file_done range n [] done all = (first_file range n done, tt)
  file_done range n (s ∷ ss) done all = by (s.range == range) (nat_lt range s.range) (file_done range n ss done all.1)
    where
      by : (a b : Bool) → AllByRecursion AreDone (with_file range n ss)
          → AllByRecursion AreDone (cond a (record { range = range; stt = n ∷ s.stt; main = s.main } ∷ ss) (cond b (record { range = range; stt = n ∷ []; main = None } ∷ s ∷ ss) (s ∷ with_file range n ss)))
      by true b rest = (more_file n s done all.0, all.1)
      by false true rest = (first_file range n done, (all.0, all.1))
      by false false rest = (all.0, rest)

  files_done : (ranges numbers : List ℕ) (sets : List SetFiles) → AllByRecursion (λ (n : ℕ). IsFinished n image) numbers → AllByRecursion AreDone sets → AllByRecursion AreDone (with_files ranges numbers sets)
  files_done [] numbers sets done all = all
  files_done (range ∷ ranges) [] sets done all = all
  files_done (range ∷ ranges) (n ∷ numbers) sets done all = files_done ranges numbers (with_file range n sets) done.1 (file_done range n sets done.0 all)

  some_done : (keep : SetFiles → Bool) (sets : List SetFiles) → AllByRecursion AreDone sets → AllByRecursion AreDone (filter keep sets)
  some_done keep [] all = tt
  some_done keep (s ∷ ss) all = by (keep s) (some_done keep ss all.1)
    where
      by : (b : Bool) → AllByRecursion AreDone (filter keep ss) → AllByRecursion AreDone (cond b (s ∷ filter keep ss) (filter keep ss))
      by true rest = (all.0, rest)
      by false rest = rest

  -- the sets with the new files are finished
  pub next_done : (edge : ℕ) (ranges numbers : List ℕ) (sets : List SetFiles) → All (λ (n : ℕ). IsFinished n image) numbers → AreFinished sets image → AreFinished (sets_from edge (with_files ranges numbers sets)) image
  next_done edge ranges numbers sets done all =
      let each = files_done ranges numbers sets (recursion_from_All (λ (n : ℕ). IsFinished n image) numbers done) (recursion_from_All AreDone sets all) in
      All-from_recursion AreDone (sets_from edge (with_files ranges numbers sets)) (some_done (λ (s : SetFiles). nat_le edge s.range) (with_files ranges numbers sets) each)

  unreversed : (xs : List ℕ) → AllByRecursion (λ (n : ℕ). IsFinished n image) (reverse xs) → AllByRecursion (λ (n : ℕ). IsFinished n image) xs
  unreversed xs all = subst (λ (l : List ℕ). AllByRecursion (λ (n : ℕ). IsFinished n image) l) (reverse-reverse xs) (reversed (λ (n : ℕ). IsFinished n image) (reverse xs) all)

  named_by : (s : HeadSet) (main : Option ℕ) → AllByRecursion (λ (n : ℕ). IsFinished n image) (names_of (set_files (record s { main = main }))) → AllByRecursion (λ (n : ℕ). IsFinished n image) (main_file main ++ s.stt)
  named_by s None all = unreversed s.stt (all_parts (λ (n : ℕ). IsFinished n image) (reverse s.stt) [] all).0
  named_by s (Some n) all = let parts = all_parts (λ (n : ℕ). IsFinished n image) (reverse s.stt) (n ∷ []) all in (parts.1.0, unreversed s.stt parts.0)

  named_done : (sets : List HeadSet) → AllByRecursion AreDone (map set_files sets) → AllByRecursion (λ (n : ℕ). IsFinished n image) (all_files sets)
  named_done [] all = tt
  named_done (s ∷ ss) all =
      all_both (λ (n : ℕ). IsFinished n image) (files_of s) (all_files ss) (named_by s s.main (recursion_from_All (λ (n : ℕ). IsFinished n image) (names_of (set_files s)) all.0)) (named_done ss all.1)

  pub all_named : (sets : List HeadSet) → AreFinished (map set_files sets) image → All (λ (n : ℕ). IsFinished n image) (all_files sets)
  all_named sets all = All-from_recursion (λ (n : ℕ). IsFinished n image) (all_files sets) (named_done sets (recursion_from_All AreDone (map set_files sets) all))

-- a head has file sets as they are kept
pub head_sets_are : (sets : List FileSet) → map set_files (map head_set sets) ≡ sets_of sets
head_sets_are [] = refl
head_sets_are (s ∷ ss) = ap (λ (l : List SetFiles). set_of s ∷ l) (head_sets_are ss)
