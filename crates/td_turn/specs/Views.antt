-- What a seat at the turn's table knows, how a step changes it, and what all seats add up to.
use Rattle.std.specs.Prelude.{ℕ, ◌+◌, ◌-◌, ◌==◌, List, [], ◌∷◌, ◌++◌, Some, None}
use Rattle.atomic_table.specs.Seated.{TableId}
use Rattle.td_limits.specs.declared.limits.TheConstants.{PASS_PARTS}
use Rattle.td_turn.specs.declared.rule.View.{View}
use Rattle.td_turn.specs.declared.rule.Stage.{Stage}
use Rattle.td_turn.specs.declared.rule.Stage.TheVariants.{Idle, Waits, Holds}
use Rattle.td_turn.specs.Passes.{PassShown, HeldShown, one_if, longer, shorter, versions_after}

-- a sum over all views
abbrev pub total : {A : Type 0} → (A → ℕ) → List A → ℕ
total f [] = 0
total f (x ∷ xs) = f x + total f xs

-- 1 where the ticket is had at this stage
abbrev pub ticket_at : ℕ → Stage → ℕ
ticket_at t Idle = 0
ticket_at t (Waits n) = one_if (n == t)
ticket_at t (Holds n) = one_if (n == t)

-- 1 where the slot is out at this stage
abbrev pub slot_at : Stage → ℕ
slot_at Idle = 0
slot_at (Waits n) = 0
slot_at (Holds n) = 1

module _ {B E : Type 0} where
  -- the view of the first seat
  abbrev pub opening_view : B → View B E
  opening_view b = record { base = Some b; seen = []; also = []; versions = []; parts = PASS_PARTS; stage = Idle }

  abbrev pub spent_view : View B E
  spent_view = record { base = None; seen = []; also = []; versions = []; parts = 0; stage = Idle }

  abbrev pub at_stage : Stage → View B E → View B E
  at_stage stage v = record v { stage = stage }

  -- the slot was taken, with this list
  abbrev pub taken_view : ℕ → List E → View B E → View B E
  taken_view ticket list v = record v { seen = list; stage = Holds ticket }

  -- n versions were added after k, and the list is now this
  abbrev pub counted_view : ℕ → ℕ → List E → View B E → View B E
  counted_view k n list v = record v { seen = list; versions = v.versions ++ versions_after k n }

  -- what a view keeps where it is split, and what the new seat gets
  abbrev pub kept_view : View B E → View B E
  kept_view v = record v { parts = v.parts - 1 }

  abbrev pub new_view : View B E → View B E
  new_view v = record { base = v.base; seen = v.seen; also = []; versions = []; parts = 1; stage = Idle }

  -- two views in one. It keeps the shorter list beside the longer until it is told that the one begins the other
  abbrev pub joined_view : View B E → View B E → View B E
  joined_view v w =
      record {
        base = v.base;
        seen = longer v.seen w.seen;
        also = shorter v.seen w.seen;
        versions = v.versions ++ w.versions;
        parts = v.parts + w.parts;
        stage = Idle;
      }

  abbrev pub told_view : View B E → View B E
  told_view v = record v { also = [] }

  -- what contracts see of a pass, and of the value while it is held
  abbrev pub pass_shown : TableId → View B E → PassShown B E
  pass_shown name v = record { name = name; base = v.base; seen = v.seen; versions = v.versions; parts = v.parts }

  abbrev pub held_shown : {S : Type 0} → TableId → View B E → S → HeldShown S B E
  held_shown name v x =
      record { name = name; base = v.base; taken = v.seen; versions = v.versions; parts = v.parts; value = x }
