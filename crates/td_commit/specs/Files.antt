-- The files of a memtable, and the causes of faults of several writers.
use Rattle.std.specs.Prelude.{◌≡◌, ℕ, ◌≤◌, ◌⊎◌, List, [], ◌∷◌, Option, Result, OnOk, IsErrOf}
use Rattle.std.specs.List.{AllZip}
use Rattle.std.specs.Option.{option_map}
use Rattle.td_outside.specs.declared.faults.IoFault.{IoFault}
use Rattle.td_outside.specs.declared.faults.IoFault.TheVariants.{Failed, NoMemory}
use Rattle.td_outside.specs.Causes.{Rose}
use Rattle.td_fileio.specs.declared.lists.TableRows.{TableRows}
use Rattle.td_sttfile.specs.Written.{bytes_of_list}
use Rattle.td_commit.specs.declared.frozen.Frozen.{Frozen}
use Rattle.td_commit.specs.Clipped.{AreTablesFrom}

-- What was written to a writer that had nothing, where it tells its bytes: the file of a day range, with each table
-- that has a put or a cut there.
pub record IsFileOf (f : Frozen) (range : ℕ) (before after : Option (List ℕ)) : Type 0 where
  pub tables : List TableRows
  pub are : AreTablesFrom f range 1 tables
  pub written : after ≡ option_map (λ _. bytes_of_list range tables) before

-- a file for each of some day ranges, in their order
abbrev pub AreFilesOf : Frozen → List ℕ → List (Option (List ℕ)) → List (Option (List ℕ)) → Type 0
AreFilesOf f [] [] [] = Unit {0}
AreFilesOf f (range ∷ ranges) (before ∷ befores) (after ∷ afters) =
    IsFileOf f range before after × AreFilesOf f ranges befores afters
AreFilesOf f [] [] (after ∷ afters) = ⊥
AreFilesOf f [] (before ∷ befores) afters = ⊥
AreFilesOf f (range ∷ ranges) [] afters = ⊥
AreFilesOf f (range ∷ ranges) (before ∷ befores) [] = ⊥

-- one of some counts rose
abbrev pub OneRose : List ℕ → List ℕ → Type 0
OneRose [] afters = ⊥
OneRose (before ∷ befores) [] = ⊥
OneRose (before ∷ befores) (after ∷ afters) = Rose before after ⊎ OneRose befores afters

-- Counts of faults never fall. A failure comes only where one of them rose; want of memory, and no fault, leave all.
pub record HasFaults {T : Type 0} (befores afters : List ℕ) (result : Result T IoFault) : Type 0 where
  pub later : AllZip (λ (before after : ℕ). before ≤ after) befores afters
  pub failed : IsErrOf result Failed → OneRose befores afters
  pub no_memory : IsErrOf result NoMemory → afters ≡ befores
  pub kept : OnOk result (afters ≡ befores)
