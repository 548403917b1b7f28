-- Faults of reading a file.
use Rattle.std.specs.Prelude.{◌≡◌, ℕ, Result, Ok, Err}
use Rattle.td_layer.specs.declared.scans.ScanFault.{ScanFault}
use Rattle.td_layer.specs.declared.scans.ScanFault.TheVariants.{ReadFault, Damaged, NoMemory}

-- a fault that says nothing of the file's bytes
abbrev pub IsNoDamage : ScanFault → Type 0
IsNoDamage (Damaged f place) = ⊥
IsNoDamage ReadFault = Unit {0}
IsNoDamage NoMemory = Unit {0}

-- A function of a part of a file answered what reading gives, where the file's bytes are damaged, or there was no
-- memory.
abbrev pub Answered : {A : Type 0} → ℕ → Result A ScanFault → Result A ℕ → Type 0
Answered file (Ok x) read = read ≡ Ok x
Answered file (Err (Damaged f place)) read = (f ≡ file) × (read ≡ Err place)
Answered file (Err ReadFault) read = ⊥
Answered file (Err NoMemory) read = Unit {0}
