-- What making files and swapping the head leave of the image of a store.
use Rattle.std.specs.Prelude.{◌≡◌, ◌<◌, ◌^◌, ◌-◌, ◌⊎◌, false, ℕ, List, [], ◌∷◌, ◌++◌, map, All, Contains, Option, Some, None, IsSome, IfSome}
use Rattle.std.specs.List.{flat_map}
use Rattle.td_outside.specs.Image.{Image, Along, put}
use Rattle.td_outside.specs.Files.{after_swap, IsFinished, IsOnce, lists}
use Rattle.td_outside.specs.Logs.{after_log_drop, after_failed_log_drop}
use Rattle.td_manifest.specs.declared.head.Head.{Head}
use Rattle.td_manifest.specs.declared.head.HeadSet.{HeadSet}
use Rattle.td_manifest.specs.Files.{all_files, is_used, main_file}
use Rattle.td_manifest.specs.Heads.{IsHead}
use Rattle.td_fileset.specs.declared.file_set.FileSet.{FileSet}
use Rattle.td_levels.specs.Levels.{Levels, SetFiles}
use Rattle.td_levels.specs.Ranges.{AreByRange, with_files, sets_from}
use Rattle.td_levels.specs.Sets.{sets_of}

-- ---- files in making

-- the image holds what it held, but for files in making and doubts
pub record SameHeld (before now : Image) : Type 0 where
  pub head : now.head ≡ before.head
  pub logs : now.logs ≡ before.logs
  pub files : now.files ≡ before.files
  pub readers : now.readers ≡ before.readers

-- A finished file was added with these bytes, under a number that no finished file and no open reader had.
pub record AddsFile (n : ℕ) (bytes : List ℕ) (before now : Image) : Type 0 where
  pub head : now.head ≡ before.head
  pub logs : now.logs ≡ before.logs
  pub readers : now.readers ≡ before.readers
  pub free : before.files n ≡ None
  pub unread : before.readers n ≡ 0
  pub files : now.files ≡ put n (Some bytes) before.files

-- a writer that tells its bytes was finished
abbrev pub AddsTold : ℕ → Option (List ℕ) → Image → Image → Type 0
AddsTold n written before now = IfSome written (λ bytes. AddsFile n bytes before now)

-- a number stands behind others, and its file was added, where the store tells its image
pub record AddsOne
    (written : Option (List ℕ)) (before now : List ℕ) (told told' : Option Image)
    : Type 0 where
  pub number : ℕ
  pub pushed : now ≡ before ++ number ∷ []
  pub image : Along (AddsTold number written) told told'

-- Some finished files may have been added. The image holds else what it held.
pub record AddsSome (before now : Image) : Type 0 where
  pub head : now.head ≡ before.head
  pub logs : now.logs ≡ before.logs
  pub readers : now.readers ≡ before.readers
  pub kept : (n : ℕ) → IsSome (before.files n) → now.files n ≡ before.files n

-- Finished files with these contents were added under these numbers, each of which stands once and was the number of no
-- finished file and of no open reader. No other file came or went.
pub record Adds (numbers : List ℕ) (contents : List (Option (List ℕ))) (before now : Image) : Type 0 where
  pub some : AddsSome before now
  pub free : All (λ (n : ℕ). before.files n ≡ None) numbers
  pub unread : All (λ (n : ℕ). before.readers n ≡ 0) numbers
  pub once : IsOnce numbers
  pub finished : All (λ (n : ℕ). IsFinished n now) numbers
  pub are : map now.files numbers ≡ contents
  pub others : (n : ℕ) → lists n numbers ≡ false → now.files n ≡ before.files n

-- ---- the next head

-- a data file, where there is one, can stand in a head behind these files
abbrev pub MainFits : Option ℕ → List ℕ → Type 0
MainFits None used = Unit {0}
MainFits (Some file) used = (file < 2 ^ 64 - 1) × (is_used file used ≡ false)

-- the head with file sets
abbrev pub with_sets : List HeadSet → Head → Head
with_sets sets h = record h { sets = sets }

-- a file set as a head has it
abbrev pub head_set : FileSet → HeadSet
head_set s = record { range = s.range; main = s.main; stt = map (λ (p : ℕ × ℕ). p.0) s.stt }

-- the numbers of the files of a set
abbrev pub files_in : SetFiles → List ℕ
files_in s = s.stt ++ main_file s.main

-- a file is one of these sets, or has one of these numbers
abbrev pub IsOf : List SetFiles → List ℕ → ℕ → Type 0
IsOf sets numbers n = Contains (flat_map files_in sets) n ⊎ Contains numbers n

-- The file sets are those with the new files, of which none is wholly below the edge of the head; they stand by day
-- range. The bytes are the head with them. Each file that it names is one of the sets before, or a new one.
pub record IsNextHead
    (l : Levels) (h : Head) (ranges numbers : List ℕ) (sets : List FileSet) (bytes : List ℕ)
    : Type 0 where
  pub sets_are : sets_of sets ≡ sets_from h.edge (with_files ranges numbers l.sets)
  pub by_range : AreByRange (sets_of sets)
  pub head : IsHead bytes (with_sets (map head_set sets) h)
  pub files : All (IsOf l.sets numbers) (all_files (map head_set sets))

-- ---- the swap

-- the head is swapped, and the older log is gone
abbrev pub after_swaps : List ℕ → ℕ → Image → Image
after_swaps bytes older image = after_log_drop older (after_swap bytes image)

-- the head is swapped, and the older log couldn't be dropped
abbrev pub after_failed_drop : List ℕ → ℕ → Image → Image
after_failed_drop bytes older image = after_failed_log_drop older (after_swap bytes image)
