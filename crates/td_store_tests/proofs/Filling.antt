-- A store of these parts is filled.
use Rattle.std.proofs.Common.{◌≡◌, ℕ, List, [], ◌∷◌, length, Option, refl, sym, subst, arith}
use Rattle.td_outside.specs.Image.{Image}
use Rattle.td_memdev.specs.Parts.{parts_image}
use Rattle.td_memdev.specs.Tables.{IsTable}
use Rattle.td_store_tests.specs.Filled.{IsFilled}

-- one entry is a table
pub one_is_table : (table : List (ℕ × List ℕ)) (n : ℕ) (bytes : List ℕ) → table ≡ (n, bytes) ∷ [] → IsTable (λ (pair : ℕ × List ℕ). pair.0) table
one_is_table table n bytes is = subst (λ (t : List (ℕ × List ℕ)). IsTable (λ (pair : ℕ × List ℕ). pair.0) t) (sym is) (refl, tt)

parts_filled : (head : Option (List ℕ)) (log file : List ℕ) → length log ≡ 2 → IsFilled (parts_image head ((1, log) ∷ []) ((2, file) ∷ []))
parts_filled head log file two = record {
  append = omega (arith, two);
  gate = omega (arith, two);
  sync = tt;
  finished = refl;
  unread = (refl, refl);
}

pub filled : (image : Image) (head : Option (List ℕ)) (logs files : List (ℕ × List ℕ)) (log file : List ℕ) → length log ≡ 2 → logs ≡ (1, log) ∷ [] → files ≡ (2, file) ∷ [] → image ≡ parts_image head logs files → IsFilled image
filled image head logs files log file two l f is =
    let parts : IsFilled (parts_image head logs files) = rw (l, f) (parts_filled head log file two) in
    subst (λ (i : Image). IsFilled i) (sym is) parts
