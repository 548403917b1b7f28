-- Slots of subtables, and those between two others.
use Rattle.std.specs.Prelude.{◌≡◌, ◌+◌, ℕ, Bool, not, ◌&&◌, ◌==◌, List, [], ◌∷◌, filter, sum_by}
use Rattle.std.specs.Ordering.{is_lt, is_le}
use Rattle.td_layer.specs.declared.values.Cell.{Cell}
use Rattle.td_tagidx.specs.declared.index.Subtable.{Subtable}
use Rattle.td_tagidx.specs.declared.order.Slot.{Slot}
use Rattle.td_tagidx.specs.declared.order.Mark.TheVariants as mark
use Rattle.td_tagidx.specs.Order.{slot_cmp, table_of}

-- whether a slot lies behind one and before another
abbrev pub is_between : Slot → Slot → Slot → Bool
is_between from to s = is_lt (slot_cmp from s) && not (is_le (slot_cmp to s))

abbrev pub between : Slot → Slot → List Slot → List Slot
between from to slots = filter (is_between from to) slots

-- the slots of a subtable's cells, of which the first has a given place
abbrev pub slots_from : ℕ → ℕ → List Cell → List Slot
slots_from table place [] = []
slots_from table place (a ∷ cells) =
    record { place = place; cell = a; mark = mark.Table table } ∷ slots_from table (place + 1) cells

abbrev pub slots_of : Subtable → List Slot
slots_of s = slots_from s.table 0 s.tags

-- the slots that aren't of a subtable
abbrev pub of_others : ℕ → List Slot → List Slot
of_others table slots = filter (λ s. not (table_of s.mark == table)) slots

-- two lists have the same elements, each as often, perhaps in another order: any sum over them is the same
abbrev pub HasSame : {X : Type 0} → List X → List X → Type 0
HasSame {X} xs ys = (f : X → ℕ) → sum_by f xs ≡ sum_by f ys
