-- A number above those of all subtables isn't in an index.
use Rattle.std.proofs.Common.{◌≡◌, ℕ, ◌<◌, false, cond, List, [], ◌∷◌, Some, None, refl, ap, ◌∙◌, arith, All}
use Rattle.std.specs.Ordering.{nat_cmp}
use Rattle.std.specs.Map.{lookup, keys_of}
use Rattle.std.specs.BTreeMap.{is_at}
use Rattle.std.proofs.lemmas.List.Elements.{All-head, All-tail}
use Rattle.std.proofs.lemmas.Bool.Decides.{nat_tests}
use Rattle.td_layer.specs.declared.values.Cell.{Cell}

below_not_at : (k t : ℕ) → k < t → is_at (nat_cmp t) k ≡ false
below_not_at k t h = grind (arith, nat_tests)

pub absent_above : (t : ℕ) (es : List (ℕ × List Cell)) → All (λ k. k < t) (keys_of es) → lookup (is_at (nat_cmp t)) es ≡ None
absent_above t [] h = refl
absent_above t (e ∷ es) h =
    let rest = absent_above t es (All-tail (λ k. k < t) e.0 (keys_of es) h) in
    ap (λ b. cond b (Some e.1) (lookup (is_at (nat_cmp t)) es)) (below_not_at e.0 t (All-head (λ k. k < t) e.0 (keys_of es) h)) ∙ rest
