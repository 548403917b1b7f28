-- The files of the sets of a commit are those of the sets before, or new.
use Rattle.std.proofs.Common.{◌≡◌, inl, inr, ℕ, Bool, true, false, cond, List, [], ◌∷◌, ◌++◌, map, reverse, None, All, Contains, refl, sym, subst}
use Rattle.std.specs.Prelude.{nat_eq, nat_lt, nat_le}
use Rattle.std.specs.List.{AllByRecursion, flat_map}
use Rattle.std.proofs.lemmas.List.Elements.{All-from_recursion, All-contains_itself, All-weaker, recursion_from_All}
use Rattle.td_sttfile.proofs.Walks.{all_of_reversed}
use Rattle.td_manifest.specs.Files.{all_files, files_of, main_file}
use Rattle.td_fileset.specs.declared.file_set.FileSet.{FileSet}
use Rattle.td_levels.specs.Levels.{SetFiles}
use Rattle.td_levels.specs.Ranges.{sets_from, with_file, with_files}
use Rattle.td_levels.specs.Sets.{set_of, sets_of}
use Rattle.td_making.specs.Making.{IsOf, files_in, head_set}

module _ (P : ℕ → Type 0) where
  abbrev Each : SetFiles → Type 0
  Each s = AllByRecursion P (files_in s)

  all_append : (xs ys : List ℕ) → AllByRecursion P xs → AllByRecursion P ys → AllByRecursion P (xs ++ ys)
  all_append [] ys a b = b
  all_append (x ∷ xs) ys a b = (a.0, all_append xs ys a.1 b)

  all_left : (xs ys : List ℕ) → AllByRecursion P (xs ++ ys) → AllByRecursion P xs
  all_left [] ys h = tt
  all_left (x ∷ xs) ys h = (h.0, all_left xs ys h.1)

  all_right : (xs ys : List ℕ) → AllByRecursion P (xs ++ ys) → AllByRecursion P ys
  all_right [] ys h = h
  all_right (x ∷ xs) ys h = all_right xs ys h.1

  file_in : (range file : ℕ) (ss : List SetFiles) → P file → AllByRecursion Each ss → AllByRecursion Each (with_file range file ss)
  file_in range file [] here all = ((here, tt), tt)
  file_in range file (s ∷ ss) here all = by (nat_eq s.range range) (nat_lt range s.range) (file_in range file ss here all.1)
    where
      by : (b c : Bool) → AllByRecursion Each (with_file range file ss) → AllByRecursion Each (cond b (record { range = range; stt = file ∷ s.stt; main = s.main } ∷ ss) (cond c (record { range = range; stt = file ∷ []; main = None } ∷ s ∷ ss) (s ∷ with_file range file ss)))
      by true c rest = ((here, all.0), all.1)
      by false true rest = ((here, tt), all)
      by false false rest = (all.0, rest)

  files_all : (ranges files : List ℕ) (ss : List SetFiles) → AllByRecursion P files → AllByRecursion Each ss → AllByRecursion Each (with_files ranges files ss)
  files_all [] files ss new all = all
  files_all (range ∷ ranges) [] ss new all = all
  files_all (range ∷ ranges) (file ∷ files) ss new all = files_all ranges files (with_file range file ss) new.1 (file_in range file ss new.0 all)

  from_all : (edge : ℕ) (ss : List SetFiles) → AllByRecursion Each ss → AllByRecursion Each (sets_from edge ss)
  from_all edge [] all = tt
  from_all edge (s ∷ ss) all = by (nat_le edge s.range) (from_all edge ss all.1)
    where
      by : (b : Bool) → AllByRecursion Each (sets_from edge ss) → AllByRecursion Each (cond b (s ∷ sets_from edge ss) (sets_from edge ss))
      by true rest = (all.0, rest)
      by false rest = rest

  one_set : (s : FileSet) → Each (set_of s) → AllByRecursion P (files_of (head_set s))
  one_set s h =
      let numbers = map (λ (p : ℕ × ℕ). p.0) s.stt in
      all_append (main_file s.main) numbers (all_right (reverse numbers) (main_file s.main) h)
      (all_of_reversed P numbers (reverse numbers) refl (all_left (reverse numbers) (main_file s.main) h))

  all_sets : (sets : List FileSet) → AllByRecursion Each (sets_of sets) → AllByRecursion P (all_files (map head_set sets))
  all_sets [] all = tt
  all_sets (s ∷ ss) all = all_append (files_of (head_set s)) (all_files (map head_set ss)) (one_set s all.0) (all_sets ss all.1)

  -- each file of some sets
  each_of : (sets : List SetFiles) → AllByRecursion P (flat_map files_in sets) → AllByRecursion Each sets
  each_of [] h = tt
  each_of (s ∷ ss) h = (all_left (files_in s) (flat_map files_in ss) h, each_of ss (all_right (files_in s) (flat_map files_in ss) h))

pub files_known : (old : List SetFiles) (edge : ℕ) (ranges numbers : List ℕ) (sets : List FileSet) → sets_of sets ≡ sets_from edge (with_files ranges numbers old) → All (IsOf old numbers) (all_files (map head_set sets))
files_known old edge ranges numbers sets is =
    let P : ℕ → Type 0 = IsOf old numbers in
    let before : AllByRecursion P (flat_map files_in old) = recursion_from_All P (flat_map files_in old) (All-weaker (Contains (flat_map files_in old)) P (λ n h. inl h) (flat_map files_in old) (All-contains_itself (flat_map files_in old))) in
    let new : AllByRecursion P numbers = recursion_from_All P numbers (All-weaker (Contains numbers) P (λ n h. inr h) numbers (All-contains_itself numbers)) in
    let all = from_all P edge (with_files ranges numbers old) (files_all P ranges numbers old new (each_of P old before)) in
    All-from_recursion P (all_files (map head_set sets)) (all_sets P sets (subst (λ (ss : List SetFiles). AllByRecursion (λ (s : SetFiles). AllByRecursion P (files_in s)) ss) (sym is) all))
