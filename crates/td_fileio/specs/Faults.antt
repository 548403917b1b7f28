-- The fault of a part of a file as a fault of the file.
use Rattle.std.specs.Prelude.{ℕ, ◌+◌, ◌-◌}
use Rattle.td_layer.specs.declared.scans.ScanFault.{ScanFault}
use Rattle.td_layer.specs.declared.scans.ScanFault.TheVariants as scans
use Rattle.td_codec.specs.declared.fault.ReadFault.{ReadFault}
use Rattle.td_codec.specs.declared.fault.ReadFault.TheVariants as faults

-- by the number of the file, and the place and the length of the part
abbrev pub scan_fault_of : ℕ → ℕ → ℕ → ReadFault → ScanFault
scan_fault_of file at long faults.NoMemory = scans.NoMemory
scan_fault_of file at long (faults.Broken left) = scans.Damaged file (at + (long - left))
