-- The order of partitions is total, and those that it doesn't tell apart are the same.
use Rattle.std.proofs.Common.{◌≡◌, ℕ, zero, suc, ℤ, pos, true, false, List, refl, sym, ap, ◌∙◌}
use Rattle.std.specs.Cmp.{IsTotalOrder}
use Rattle.std.specs.FinMap.{slice_cmp-IsAntisymmetric, nat_cmp-IsAntisymmetric, int_cmp-IsAntisymmetric}
use Rattle.std.specs.Ordering.{nat_cmp, int_cmp, int_eq, ordering_then}
use Rattle.std.specs.Cmp.Lexicographic.{slice_cmp}
use Rattle.std.specs.declared.cmp.Ordering.{Ordering}
use Rattle.std.specs.declared.cmp.Ordering.TheVariants.{Less, Equal, Greater}
use Rattle.std.proofs.lemmas.Cmp.{nat_cmp_total, int_cmp_total, nat_list_cmp_total, on_total, then_total, lists_total}
use Rattle.td_layer.specs.declared.values.Cell.{Cell}
use Rattle.td_layer.specs.declared.values.Cell.TheVariants as cell
use Rattle.td_verdict.specs.Parts.{rank, number, place, text, cell_cmp, part_cmp}

cell_total : IsTotalOrder cell_cmp
cell_total = then_total (on_total rank nat_cmp_total) (then_total (on_total number int_cmp_total) (then_total (on_total place nat_cmp_total) (on_total text nat_list_cmp_total)))

pub part_total : IsTotalOrder part_cmp
part_total = lists_total cell_total

-- ---- a cell is told by what it is ordered by
cell_from : ℕ → ℤ → ℕ → List ℕ → Cell
cell_from zero n p t = cell.Null
cell_from (suc zero) n zero t = cell.Truth (int_eq n (pos 1))
cell_from (suc zero) n (suc p) t = cell.Num n
cell_from (suc (suc zero)) n p t = cell.Str t
cell_from (suc (suc (suc r))) n p t = cell.Frac n p

told : (c : Cell) → cell_from (rank c) (number c) (place c) (text c) ≡ c
unfolding cell_from
told cell.Null = refl
told (cell.Truth true) = refl
told (cell.Truth false) = refl
told (cell.Num n) = refl
told (cell.Str t) = refl
told (cell.Frac sum count) = refl

both_equal : (a b : Ordering) → ordering_then a b ≡ Equal → (a ≡ Equal) × (b ≡ Equal)
both_equal Less b e = absurd (cc)
both_equal Equal b e = (refl, e)
both_equal Greater b e = absurd (cc)

same_cell : (a b : Cell) → cell_cmp a b ≡ Equal → a ≡ b
same_cell a b e =
    let texts = slice_cmp nat_cmp (text a) (text b) in
    let places = nat_cmp (place a) (place b) in
    let numbers = int_cmp (number a) (number b) in
    let one = both_equal (nat_cmp (rank a) (rank b)) (ordering_then numbers (ordering_then places texts)) e in
    let two = both_equal numbers (ordering_then places texts) one.1 in
    let three = both_equal places texts two.1 in
    sym (told a)
    ∙ ap (λ r. cell_from r (number a) (place a) (text a)) (nat_cmp-IsAntisymmetric (rank a) (rank b) one.0)
    ∙ ap (λ n. cell_from (rank b) n (place a) (text a)) (int_cmp-IsAntisymmetric (number a) (number b) two.0)
    ∙ ap (λ p. cell_from (rank b) (number b) p (text a)) (nat_cmp-IsAntisymmetric (place a) (place b) three.0)
    ∙ ap (cell_from (rank b) (number b) (place b)) (slice_cmp-IsAntisymmetric nat_cmp-IsAntisymmetric (text a) (text b) three.1)
    ∙ told b

pub same_part : (a b : List Cell) → part_cmp a b ≡ Equal → a ≡ b
same_part a b e = slice_cmp-IsAntisymmetric same_cell a b e
