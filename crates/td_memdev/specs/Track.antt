-- Which calls of an object fail, and what each call counts.
use Rattle.std.specs.Prelude.{◌≡◌, ℕ, Bool, if◌then◌else◌, ◌==◌, ◌&&◌, List, Result, Ok, Err, true, false}
use Rattle.std.specs.List.{list_any}
use Rattle.td_outside.specs.Causes.{raised}
use Rattle.td_outside.specs.declared.faults.IoFault.{IoFault}
use Rattle.td_outside.specs.declared.faults.IoFault.TheVariants.{Failed, NoMemory}

-- an object's number, how many calls it had that can fail, which calls fail of which object, and how many faults it
-- counts
pub record Track : Type 0 where
  pub object : ℕ
  pub calls : ℕ
  pub fails : List (ℕ × ℕ)
  pub faults : ℕ

-- whether the list names the object's next call
abbrev pub is_next_listed : Track → Bool
is_next_listed track = list_any (λ pair. (pair.0 == track.object) && (pair.1 == raised track.calls 1)) track.fails

-- after a call: it is counted, and where the list named it a fault is counted too
abbrev pub after_call : Track → Track
after_call track =
    record track {
      calls = raised track.calls 1;
      faults = (if is_next_listed track then raised track.faults 1 else track.faults);
    }

-- after the faults of another were taken over
abbrev pub with_faults : ℕ → Track → Track
with_faults count track = record track { faults = raised track.faults count }

-- A call fails exactly where the list says so, and counts no other fault.
pub record IsAsListed (old new : Track) (failed : Bool) : Type 0 where
  pub fails : failed ≡ is_next_listed old
  pub counts : new ≡ after_call old

-- The same of a call that takes memory: it may find none, whatever the list says.
abbrev pub FailsAsListed : {T : Type 0} → Track → Track → Result T IoFault → Type 0
FailsAsListed old new (Ok value) = IsAsListed old new false
FailsAsListed old new (Err Failed) = IsAsListed old new true
FailsAsListed old new (Err NoMemory) = new ≡ old
