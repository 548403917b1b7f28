-- What reading a whole source and writing a whole text did.
use Rattle.std.specs.Prelude.{◌≡◌, ℕ, ◌+◌, ◌≤◌, List, length, take, Option, Result, OnOk, OnErr}
use Rattle.std.specs.Io.KnownBytes.{Consumes, IsAtEnd, Appends}
use Rattle.td_limits.specs.declared.limits.TheConstants.{SCRIPT_BYTES}
use Rattle.td_outside.specs.Causes.{Rose}
use Rattle.td_top.specs.declared.stream.ReadFault.{ReadFault}
use Rattle.td_top.specs.declared.stream.ReadFault.TheVariants.{NoMemory, TooLarge, Input}

-- the bytes were read, and the source is at its end
pub record ReadWhole (left left' : Option (List ℕ)) (bytes : List ℕ) : Type 0 where
  pub read : Consumes left left' bytes
  pub at_end : IsAtEnd left'
  pub few : length bytes ≤ SCRIPT_BYTES

-- one byte more than a script may have was read
abbrev pub ReadTooMuch : Option (List ℕ) → Option (List ℕ) → Type 0
ReadTooMuch left left' = (bytes : List ℕ) × Consumes left left' bytes × (length bytes ≡ SCRIPT_BYTES + 1)

-- why reading ended early
abbrev pub ReadFaultIs : Option (List ℕ) → Option (List ℕ) → ℕ → ℕ → ReadFault → Type 0
ReadFaultIs left left' count count' NoMemory = count' ≡ count
ReadFaultIs left left' count count' TooLarge = ReadTooMuch left left' × (count' ≡ count)
ReadFaultIs left left' count count' Input = Rose count count'

-- at most one byte more than a script may have was taken
abbrev pub TookFew : Option (List ℕ) → Option (List ℕ) → Type 0
TookFew left left' = (bytes : List ℕ) × Consumes left left' bytes × (length bytes ≤ SCRIPT_BYTES + 1)

-- the count of bytes given rose by at most that many
abbrev pub GaveFew : ℕ → ℕ → Type 0
GaveFew given given' = given' ≤ given + (SCRIPT_BYTES + 1)

-- a front of the text was written
abbrev pub WroteFront : Option (List ℕ) → Option (List ℕ) → List ℕ → Type 0
WroteFront written written' text = (n : ℕ) × (n ≤ length text) × Appends written written' (take n text)

-- What writing a whole text did: the text was written and no write failed, or a front of it was and one did.
pub record Writes {T E : Type 0}
    (written written' : Option (List ℕ)) (count count' : ℕ) (result : Result T E) (text : List ℕ)
    : Type 0 where
  pub ok : OnOk result (Appends written written' text)
  pub calm : OnOk result (count' ≡ count)
  pub err : OnErr result (WroteFront written written' text)
  pub cause : OnErr result (Rose count count')
