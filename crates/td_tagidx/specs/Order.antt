-- The order of slots.
use Rattle.std.specs.Prelude.{ℕ, ℤ, pos, Bool, true, false, List, []}
use Rattle.std.specs.Option.{unwrap_or}
use Rattle.std.specs.Ordering.{nat_cmp, int_cmp, ordering_then}
use Rattle.std.specs.Cmp.{IsTotalOrder, nat_cmp_total, int_cmp_total, on_total, then_total}
use Rattle.std.specs.Cmp.Lexicographic.{slice_cmp, nat_list_cmp_total}
use Rattle.std.specs.declared.cmp.Ordering.{Ordering}
use Rattle.td_layer.specs.declared.values.Cell.{Cell}
use Rattle.td_layer.specs.declared.values.Cell.TheVariants as cell
use Rattle.td_model.specs.Tags.{number_of, text_of}
use Rattle.td_tagidx.specs.declared.order.Slot.{Slot}
use Rattle.td_tagidx.specs.declared.order.Mark.{Mark}
use Rattle.td_tagidx.specs.declared.order.Mark.TheVariants as mark

-- the kinds of cells in their order: NULL, numbers, quotients, texts
abbrev pub kind_of : Cell → ℕ
kind_of cell.Null = 0
kind_of (cell.Truth b) = 1
kind_of (cell.Num n) = 1
kind_of (cell.Frac sum count) = 2
kind_of (cell.Str text) = 3

-- whether cells of this one's kind compare
abbrev pub is_comparable : Cell → Bool
is_comparable cell.Null = false
is_comparable (cell.Truth b) = true
is_comparable (cell.Num n) = true
is_comparable (cell.Frac sum count) = false
is_comparable (cell.Str text) = true

abbrev pub number_or_nought : Cell → ℤ
number_or_nought a = unwrap_or (number_of a) (pos 0)

abbrev pub text_or_empty : Cell → List ℕ
text_or_empty a = unwrap_or (text_of a) []

-- cells of one kind
abbrev pub cell_order : Cell → Cell → Ordering
cell_order a b =
    ordering_then (int_cmp (number_or_nought a) (number_or_nought b))
    (slice_cmp nat_cmp (text_or_empty a) (text_or_empty b))

-- the rank of a mark among those of a kind of cells
abbrev pub kind_side : Mark → ℕ
kind_side mark.KindStart = 0
kind_side mark.CellStart = 1
kind_side (mark.Table table) = 1
kind_side mark.CellEnd = 1
kind_side mark.KindEnd = 2

-- the rank of a mark among those of equal cells
abbrev pub cell_side : Mark → ℕ
cell_side mark.KindStart = 0
cell_side mark.CellStart = 0
cell_side (mark.Table table) = 1
cell_side mark.CellEnd = 2
cell_side mark.KindEnd = 2

-- the number of a mark's subtable, and 0 where it is of none
abbrev pub table_of : Mark → ℕ
table_of mark.KindStart = 0
table_of mark.CellStart = 0
table_of (mark.Table table) = table
table_of mark.CellEnd = 0
table_of mark.KindEnd = 0

-- slots by their place, by the kind of their cell, and by their mark among those of the kind
abbrev pub group_order : Slot → Slot → Ordering
group_order a b =
    ordering_then (nat_cmp a.place b.place) (ordering_then (nat_cmp (kind_of a.cell) (kind_of b.cell))
    (nat_cmp (kind_side a.mark) (kind_side b.mark)))

-- marks among those of equal cells, and then by the number of the subtable
abbrev pub mark_order : Mark → Mark → Ordering
mark_order a b = ordering_then (nat_cmp (cell_side a) (cell_side b)) (nat_cmp (table_of a) (table_of b))

unfoldable pub slot_cmp : Slot → Slot → Ordering
slot_cmp a b = ordering_then (group_order a b) (ordering_then (cell_order a.cell b.cell) (mark_order a.mark b.mark))

pub slots_total : IsTotalOrder slot_cmp
unfolding slot_cmp
slots_total =
    then_total (then_total (on_total (λ (s : Slot). s.place) nat_cmp_total)
    (then_total (on_total (λ (s : Slot). kind_of s.cell) nat_cmp_total)
    (on_total (λ (s : Slot). kind_side s.mark) nat_cmp_total)))
    (then_total (then_total (on_total (λ (s : Slot). number_or_nought s.cell) int_cmp_total)
    (on_total (λ (s : Slot). text_or_empty s.cell) nat_list_cmp_total))
    (then_total (on_total (λ (s : Slot). cell_side s.mark) nat_cmp_total)
    (on_total (λ (s : Slot). table_of s.mark) nat_cmp_total)))
