-- What contracts see of the devices of the system.
use Rattle.std.specs.Prelude.{ℕ, Bool}

-- an input: how many bytes it gave, and how often it failed
pub record Counts : Type 0 where
  pub given : ℕ
  pub faults : ℕ

-- a reader: the number of its file, its size in bytes, and how often it failed
pub record Reading : Type 0 where
  pub number : ℕ
  pub size : ℕ
  pub faults : ℕ

-- a writer: the number of its file, and how often it failed
pub record Writing : Type 0 where
  pub number : ℕ
  pub faults : ℕ

-- a place: whether its store is out, how often it failed, and how often the stores failed that it took back
pub record Holding : Type 0 where
  pub is_out : Bool
  pub faults : ℕ
  pub taken : ℕ
