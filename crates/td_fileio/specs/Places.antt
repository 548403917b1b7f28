-- Places of a file: what reading gives there, and where it finds a fault.
use Rattle.std.specs.Prelude.{◌≡◌, ℕ, ◌+◌, ◌-◌, List, length, take, drop, Option, IfSome, Result, Ok, Err}
use Rattle.td_layer.specs.declared.scans.ScanFault.{ScanFault}
use Rattle.td_layer.specs.declared.scans.ScanFault.TheVariants.{ReadFault, Damaged, NoMemory}
use Rattle.td_codec.specs.Fields.{Read, Field}

-- What is read of a file: a value, with the place behind it; or the place of the first field that is cut short or
-- breaks its rule.
abbrev pub Placed : Type 0 → Type 0
Placed A = Result (A × ℕ) ℕ

-- what reading a part gives that begins at a place, as a value and the place so many bytes behind that, or as the
-- place of a fault
abbrev pub placed : {A : Type 0} → ℕ → ℕ → ℕ → Read A → Placed A
placed at size long (Ok x) = Ok (x.0, at + size)
placed at size long (Err left) = Err (at + (long - left))

-- a field that stands at a place in a part of so many bytes
abbrev pub field_at : {A : Type 0} → Field A → ℕ → ℕ → List ℕ → Placed A
field_at field size at bytes =
    placed at size (length (take size (drop at bytes))) (field.read (take size (drop at bytes)))

-- What a function answered, seen by view, is what reading gives of a file by its number, where the file tells its
-- bytes. A reader that failed and want of memory say nothing.
abbrev pub GivesPlaced : {X Y : Type 0} → (X → Y) → Option (List ℕ) → ℕ → Result X ScanFault
    → (List ℕ → Result Y ℕ) → Type 0
GivesPlaced view told file (Ok x) read = IfSome told (λ all. read all ≡ Ok (view x))
GivesPlaced view told file (Err (Damaged f at)) read = (f ≡ file) × IfSome told (λ all. read all ≡ Err at)
GivesPlaced view told file (Err ReadFault) read = Unit {0}
GivesPlaced view told file (Err NoMemory) read = Unit {0}
