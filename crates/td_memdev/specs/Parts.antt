-- The image of a store that is made of parts.
use Rattle.std.specs.Prelude.{ℕ, false, List, Option}
use Rattle.std.specs.Option.{option_map}
use Rattle.td_outside.specs.Image.{Image, no_doubt}
use Rattle.td_outside.specs.Crash.{stable_log}
use Rattle.td_memdev.specs.Tables.{find}

-- this head, these logs and these files by number, all of them stable, and nothing else
abbrev pub parts_image : Option (List ℕ) → List (ℕ × List ℕ) → List (ℕ × List ℕ) → Image
parts_image head logs files = record {
  head = head;
  logs = λ n. option_map (λ pair. stable_log pair.1) (find (λ pair. pair.0) n logs);
  files = λ n. option_map (λ pair. pair.1) (find (λ pair. pair.0) n files);
  making = λ n. false;
  readers = λ n. 0;
  doubt = no_doubt;
}
