-- The order of two lists of which one has ended.
use Rattle.std.proofs.Common.{◌≡◌, ◌<◌, List, [], ◌∷◌, length, refl, arith}
use Rattle.std.specs.Cmp.Lexicographic.{slice_cmp}
use Rattle.std.specs.declared.cmp.Ordering.TheVariants.{Less, Equal, Greater}
use Rattle.td_layer.specs.declared.values.Cell.{Cell}
use Rattle.td_verdict.specs.Parts.{cell_cmp}

pub left_ended : (xs ys : List Cell) → length xs < 1 → length ys ≡ 0 → slice_cmp cell_cmp xs ys ≡ Equal
left_ended [] [] short none = refl
left_ended [] (y ∷ ys) short none = absurd (omega (arith, none))
left_ended (x ∷ xs) ys short none = absurd (omega (arith, short))

pub left_ended_first : (xs ys : List Cell) → length xs < 1 → 0 < length ys → slice_cmp cell_cmp xs ys ≡ Less
left_ended_first [] [] short some = absurd (omega (arith, some))
left_ended_first [] (y ∷ ys) short some = refl
left_ended_first (x ∷ xs) ys short some = absurd (omega (arith, short))

pub right_ended : (x : Cell) (xs ys : List Cell) → length ys < 1 → slice_cmp cell_cmp (x ∷ xs) ys ≡ Greater
right_ended x xs [] short = refl
right_ended x xs (y ∷ ys) short = absurd (omega (arith, short))
