-- Reading parts of a file.
use Rattle.std.specs.Prelude.{◌≡◌, ℕ, ◌-◌, min, List, length, take, drop, Option, IfSome}

-- these bytes stand at a place of a file, where it tells its bytes
abbrev pub StandsAt : Option (List ℕ) → ℕ → List ℕ → Type 0
StandsAt told at bytes = IfSome told (λ all. bytes ≡ take (length bytes) (drop at all))

-- a reader reads the file that it read before
pub record IsSameFile (bytes bytes' : Option (List ℕ)) (file file' size size' : ℕ) : Type 0 where
  pub bytes_are : bytes' ≡ bytes
  pub file_is : file' ≡ file
  pub size_is : size' ≡ size

-- a part of a file: so many bytes from a place on, or those that are left there
pub record IsPart (told : Option (List ℕ)) (size at most : ℕ) (part : List ℕ) : Type 0 where
  pub long : length part ≡ min most (size - at)
  pub stands : IfSome told (λ all. part ≡ take most (drop at all))

-- bytes that were read ahead, from a place on, stand there
pub record IsAhead (told : Option (List ℕ)) (from : ℕ) (bytes : List ℕ) : Type 0 where
  pub stands : IfSome told (λ all. bytes ≡ take (length bytes) (drop from all))
