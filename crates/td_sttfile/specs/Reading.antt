-- Reading a file from a place on.
use Rattle.std.specs.Prelude.{◌≡◌, ℕ, ◌+◌, ◌-◌, ◌*◌, ◌%◌, ◌≤◌, nat_lt, if◌then◌else◌, List, drop, Option, IfSome, Result, Ok, Err}
use Rattle.td_layer.specs.declared.scans.ScanFault.{ScanFault}
use Rattle.td_layer.specs.declared.scans.ScanFault.TheVariants.{ReadFault, Damaged, NoMemory}
use Rattle.td_codec.specs.Fields.{Read}

-- What a function answered, seen as a value and the place behind it, is what reading gives of a file of this size from
-- a place on, where the file tells its bytes. A reader that failed and want of memory say nothing.
abbrev pub GivesFrom : {X Y : Type 0} → (X → Y × ℕ) → Option (List ℕ) → ℕ → ℕ → ℕ → Result X ScanFault
    → (List ℕ → Read Y) → Type 0
GivesFrom view told file size at (Ok x) read =
    ((view x).1 ≤ size) × IfSome told (λ all. read (drop at all) ≡ Ok ((view x).0, drop (view x).1 all))
GivesFrom view told file size at (Err (Damaged f place)) read =
    (f ≡ file) × ((place ≤ size) × IfSome told (λ all. read (drop at all) ≡ Err (size - place)))
GivesFrom view told file size at (Err ReadFault) read = Unit {0}
GivesFrom view told file size at (Err NoMemory) read = Unit {0}

-- the place behind so many fields of one width, or the place of the first that the end of the file cuts short
abbrev pub place_behind : ℕ → ℕ → ℕ → ℕ → ℕ → Result ℕ ScanFault
place_behind file size at width count =
    (if nat_lt (size - at) (width * count) then Err (Damaged file (size - (size - at) % width))
    else Ok (at + width * count))

-- A function of a part of a file answered what reading gives, where the file's bytes are damaged, or there was no
-- memory.
abbrev pub Answered : {A : Type 0} → ℕ → Result A ScanFault → Result A ℕ → Type 0
Answered file (Ok x) read = read ≡ Ok x
Answered file (Err (Damaged f place)) read = (f ≡ file) × (read ≡ Err place)
Answered file (Err ReadFault) read = ⊥
Answered file (Err NoMemory) read = Unit {0}

-- a fault that says nothing of the file's bytes
abbrev pub IsNoDamage : ScanFault → Type 0
IsNoDamage (Damaged f place) = ⊥
IsNoDamage ReadFault = Unit {0}
IsNoDamage NoMemory = Unit {0}
