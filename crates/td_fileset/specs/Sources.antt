-- What contracts see of a scan that is merged with others.
use Rattle.std.specs.Prelude.{◌≡◌, ℕ, Bool, true, false, cond, List, [], ◌∷◌, Option, Some, None, IfSome}
use Rattle.std.specs.Option.{option_map, option_and_then}
use Rattle.std.specs.Ordering.{eq_by_cmp}
use Rattle.td_layer.specs.declared.values.Key.{Key}
use Rattle.td_layer.specs.declared.values.Row.{Row}
use Rattle.td_layer.specs.declared.parts.Partial.{Partial}
use Rattle.td_layer.specs.Columns.{AreColumnCells}
use Rattle.td_layer.specs.Keys.{key_cmp, InKeyOrder}
use Rattle.td_layer.specs.Parts.{act}
use Rattle.td_layer.specs.Scans.{Cut, Places, is_cut}
use Rattle.td_fileset.specs.declared.source.Ahead.{Ahead}
use Rattle.td_fileset.specs.declared.source.Ahead.TheVariants as ahead
use Rattle.td_fileset.specs.Stack.{Layer}

-- what a scan goes over
pub data Kept : Type 0 where
  InMemory : Kept
  InSttFile : Kept
  InDataFile : Kept

-- What a scan reads: what it goes over, and the bytes of a file where they are told, its number and its length.
pub record Reads : Type 0 where
  pub kept : Kept
  pub bytes : Option (List ℕ)
  pub file : ℕ
  pub size : ℕ

-- A scan with the first of its partials that isn't used yet: the partials behind that one, the cuts and the damaged
-- places of the scan where they are told, its count of faults, and whether a call of it has answered Ok.
pub record Fed : Type 0 where
  pub ahead : Ahead
  pub left : Option (List (Key × Partial))
  pub cuts : Option (List Cut)
  pub damaged : Option Places
  pub count : ℕ
  pub begun : Bool
  pub reads : Reads

-- the partial that waits, and those behind it; at the end there is none
abbrev pub with_first : Ahead → List (Key × Partial) → List (Key × Partial)
with_first ahead.Unread rest = rest
with_first (ahead.First key partial) rest = (key, partial) ∷ rest
with_first ahead.End rest = []

-- a layer, where both its partials and its cuts are told
abbrev pub layer_of : Option (List (Key × Partial)) → Option (List Cut) → Option Layer
layer_of left cuts = option_and_then (λ rest. option_map (λ all. record { cuts = all; partials = rest }) cuts) left

-- the layer of a scan as far as it isn't used yet, where the scan tells it
abbrev pub told_layer : Fed → Option Layer
told_layer f = layer_of (option_map (with_first f.ahead) f.left) f.cuts

abbrev pub is_read : Ahead → Bool
is_read ahead.Unread = false
is_read (ahead.First key partial) = true
is_read ahead.End = true

-- how many partials wait: one or none
abbrev pub waits : Ahead → ℕ
waits ahead.Unread = 0
waits (ahead.First key partial) = 1
waits ahead.End = 0

-- the cells of a partial that waits can stand in columns
abbrev pub HasValues : Ahead → Type 0
HasValues ahead.Unread = Unit {0}
HasValues (ahead.First key partial) = AreColumnCells partial.cells
HasValues ahead.End = Unit {0}

-- a scan of which it is known what comes next
pub record IsSettled (f : Fed) : Type 0 where
  pub read : is_read f.ahead ≡ true
  pub begun : f.begun ≡ true
  pub order : IfSome (told_layer f) (λ (l : Layer). InKeyOrder l.partials)
  pub values : HasValues f.ahead

-- the key of a partial that waits, and the partial where it is of a key
abbrev pub key_ahead : Ahead → Option Key
key_ahead ahead.Unread = None
key_ahead (ahead.First key partial) = Some key
key_ahead ahead.End = None

abbrev pub put_ahead : Key → Ahead → Option Partial
put_ahead key ahead.Unread = None
put_ahead key (ahead.First first partial) = cond (eq_by_cmp key_cmp key first) (Some partial) None
put_ahead key ahead.End = None

-- what a scan does to the row of a key, where no key before it waits, and where the scan tells its cuts
abbrev pub acted : Key → Fed → Option Row → Option (Option Row)
acted key f row = option_map (λ cuts. act (record { cut = is_cut key cuts; put = put_ahead key f.ahead }) row) f.cuts

-- the partial of a key is used
abbrev pub ahead_past : Key → Ahead → Ahead
ahead_past key ahead.Unread = ahead.Unread
ahead_past key (ahead.First first partial) = cond (eq_by_cmp key_cmp key first) ahead.Unread (ahead.First first partial)
ahead_past key ahead.End = ahead.End

abbrev pub past : Key → Fed → Fed
past key f =
    record {
      ahead = ahead_past key f.ahead;
      left = f.left;
      cuts = f.cuts;
      damaged = f.damaged;
      count = f.count;
      begun = f.begun;
      reads = f.reads;
    }
