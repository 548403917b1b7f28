use Rattle.std.proofs.Common.{◌≡◌, ℕ, ◌+◌, drop, sum_by}
use Rattle.td_tagidx.specs.declared.order.Slot.{Slot}
use Rattle.td_tagidx.specs.Slots.{slots_from, of_others}
use Rattle.td_tagidx.proofs.slots.put_all.Given as goal

pub record Puts (l : goal.Live-loop-place) : Type 0 where
  pub others : of_others l.table l.slots.keys ≡ l.initial.slots.keys
  pub same : (f : Slot → ℕ) → sum_by f l.slots.keys + sum_by f (slots_from l.table l.place (drop l.place l.cells)) ≡ sum_by f (slots_from l.table 0 l.cells) + sum_by f l.initial.slots.keys

abbrev pub invariant-loop-place : goal.invariant-loop-place
invariant-loop-place l = Puts l
