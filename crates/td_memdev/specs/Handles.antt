-- What contracts see of a reader and a writer in memory.
use Rattle.std.specs.Prelude.{ℕ, List}
use Rattle.td_memdev.specs.Track.{Track}

-- the number of the file, its bytes, and the reader's calls
pub record Reading : Type 0 where
  pub number : ℕ
  pub bytes : List ℕ
  pub track : Track

-- the name of the file in making, the bytes that were written, and the writer's calls
pub record Writing : Type 0 where
  pub number : ℕ
  pub written : List ℕ
  pub track : Track
