-- Writing bytes through those that wait.
use Rattle.std.specs.Prelude.{◌≡◌, ℕ, List, Option, Result, OnOk}
use Rattle.std.specs.Io.KnownBytes.{append_known}
use Rattle.td_outside.specs.declared.faults.IoFault.{IoFault}
use Rattle.td_outside.specs.Causes.{HasFault}

-- What adding bytes to a writer did: what it has been given, with what waits for it, grew by these; it is the writer
-- of the same file; and a fault has its cause.
pub record Adds {T : Type 0} (sent sent' : Option (List ℕ)) (name name' count count' : ℕ) (result : Result T IoFault)
    (bytes : List ℕ) : Type 0 where
  pub ok : OnOk result (sent' ≡ append_known sent bytes)
  pub name_is : name' ≡ name
  pub cause : HasFault count count' result
