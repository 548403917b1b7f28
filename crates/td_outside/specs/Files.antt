-- What the calls on files and on the head make of an image.
use Rattle.std.specs.Prelude.{◌≡◌, ℕ, ◌+◌, ◌-◌, ◌<◌, ◌≤◌, Bool, true, false, ◌==◌, ◌⊎◌, List, [], ◌∷◌, ◌++◌, take, drop, Option, Some, None, IfSome, IsSome, is_some, Result, IfOk}
use Rattle.std.specs.List.{list_any}
use Rattle.td_outside.specs.Image.{Image, put}

-- whether a list has a number
abbrev pub lists : ℕ → List ℕ → Bool
lists n names = list_any (λ m. m == n) names

-- each number stands once
abbrev pub IsOnce : List ℕ → Type 0
IsOnce [] = Unit {0}
IsOnce (n ∷ names) = (lists n names ≡ false) × IsOnce names

-- these are the numbers of the finished files, each once
pub record NamesFiles (names : List ℕ) (image : Image) : Type 0 where
  pub each : (n : ℕ) → lists n names ≡ is_some (image.files n)
  pub once : IsOnce names

-- a file is finished
abbrev pub IsFinished : ℕ → Image → Type 0
IsFinished n image = IsSome (image.files n)

-- a file is finished and no reader of it is open
abbrev pub IsUnread : ℕ → Image → Type 0
IsUnread n image = IsFinished n image × (image.readers n ≡ 0)

-- a number is new: it is the number of no finished file, of no file in making and of no open reader
pub record IsNew (n : ℕ) (image : Image) : Type 0 where
  pub finished : image.files n ≡ None
  pub making : image.making n ≡ false
  pub readers : image.readers n ≡ 0

-- a file of this name is in making
abbrev pub after_create : ℕ → Image → Image
after_create name image = record image { making = put name true image.making }

-- A file of this name is no longer in making; whether something of it may be there after a crash.
abbrev pub after_abandon : ℕ → Bool → Image → Image
after_abandon name stray image =
    record image {
      making = put name false image.making;
      doubt = record image.doubt { strays = put name stray image.doubt.strays };
    }

-- an unfinished file is given up; it may stay behind for a crash
abbrev pub GivesUp : ℕ → Image → Image → Type 0
GivesUp name old new = (stray : Bool) × (new ≡ after_abandon name stray old)

-- the file in making under a name is finished with these bytes, under a number
abbrev pub after_finish : ℕ → ℕ → List ℕ → Image → Image
after_finish name n bytes image =
    record image {
      files = put n (Some bytes) image.files;
      making = put name false image.making;
      doubt = record image.doubt {
        strays = put n false image.doubt.strays;
        removed = put n false image.doubt.removed;
      };
    }

-- The file in making under a name is finished with these bytes, under a number that no finished file and no open reader
-- had.
pub record Finishes (name n : ℕ) (bytes : List ℕ) (old new : Image) : Type 0 where
  pub free : old.files n ≡ None
  pub unread : old.readers n ≡ 0
  pub image : new ≡ after_finish name n bytes old

-- one more reader of a file is open, and one less
abbrev pub after_open : ℕ → Image → Image
after_open n image = record image { readers = put n (image.readers n + 1) image.readers }

abbrev pub after_close : ℕ → Image → Image
after_close n image = record image { readers = put n (image.readers n - 1) image.readers }

-- a finished file is gone
abbrev pub after_remove : ℕ → Image → Image
after_remove n image =
    record image {
      files = put n None image.files;
      doubt = record image.doubt { removed = put n false image.doubt.removed };
    }

-- a removal failed: the file is there, and a crash may leave it or not
abbrev pub after_failed_remove : ℕ → Image → Image
after_failed_remove n image = record image { doubt = record image.doubt { removed = put n true image.doubt.removed } }

-- the head is these bytes
abbrev pub after_swap : List ℕ → Image → Image
after_swap bytes image = record image { head = Some bytes; doubt = record image.doubt { heads = [] } }

-- A swap of the head failed: one of the old and the new head is there, and a crash may leave the other.
abbrev pub SwapFails : List ℕ → Image → Image → Type 0
SwapFails bytes old new =
    (new ≡ record old { doubt = record old.doubt { heads = old.doubt.heads ++ Some bytes ∷ [] } })
    ⊎ (new ≡ record old { head = Some bytes; doubt = record old.doubt { heads = old.doubt.heads ++ old.head ∷ [] } })

-- A read at a place of a file of this size gives bytes within it: at least one where there is one and there is room.
pub record ReadsWithin {E : Type 0} (size at room : ℕ) (result : Result ℕ E) : Type 0 where
  pub fits : IfOk result (λ n. n ≤ room)
  pub within : IfOk result (λ n. 0 < n → at + n ≤ size)
  pub some : IfOk result (λ n. at < size → 0 < room → 0 < n)

-- what was read is what stands there
abbrev pub ReadsAt : {E : Type 0} → Option (List ℕ) → ℕ → List ℕ → Result ℕ E → Type 0
ReadsAt told at buf result = IfSome told (λ bytes. IfOk result (λ n. take n buf ≡ take n (drop at bytes)))
