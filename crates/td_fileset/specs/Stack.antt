-- Layers that stand on one another, and the rows that they make.
use Rattle.std.specs.Prelude.{◌≡◌, List, [], ◌∷◌, map, Option, Some, None}
use Rattle.std.specs.List.{flat_map}
use Rattle.std.specs.FinMap.Entries.{find, put}
use Rattle.td_layer.specs.declared.values.Key.{Key}
use Rattle.td_layer.specs.declared.values.Row.{Row}
use Rattle.td_layer.specs.declared.parts.Partial.{Partial}
use Rattle.td_layer.specs.declared.parts.Part.{Part}
use Rattle.td_layer.specs.Keys.{key_cmp, InKeyOrder}
use Rattle.td_layer.specs.Parts.{act}
use Rattle.td_layer.specs.Scans.{Cut, is_cut}

-- a layer: its cuts, and its partials by key
pub record Layer : Type 0 where
  pub cuts : List Cut
  pub partials : List (Key × Partial)

-- What a layer does to the row of a key: a cut of the layer stands under its own put.
abbrev pub part_of : Key → Layer → Part
part_of key l = record { cut = is_cut key l.cuts; put = find key_cmp key l.partials }

-- The row of a key under layers, of which the newest stands first: each does its part to what the older ones leave.
abbrev pub row_at : Key → List Layer → Option Row
row_at key [] = None
row_at key (l ∷ older) = act (part_of key l) (row_at key older)

-- the keys that layers have partials of
abbrev pub keys_of : List Layer → List Key
keys_of layers = flat_map (λ (l : Layer). map (λ (e : Key × Partial). e.0) l.partials) layers

-- rows by key with the row of one key, if it has one
abbrev pub with_row : Key → Option Row → List (Key × Row) → List (Key × Row)
with_row key None rows = rows
with_row key (Some row) rows = put key_cmp key row rows

-- the rows of some keys, by key
abbrev pub rows_at : List Layer → List Key → List (Key × Row)
rows_at layers [] = []
rows_at layers (key ∷ keys) = with_row key (row_at key layers) (rows_at layers keys)

-- The rows under layers, of which the newest stands first, by key: those of the keys that a layer has a partial of.
unfoldable pub rows_of : List Layer → List (Key × Row)
rows_of layers = rows_at layers (keys_of layers)

-- The rows are in the order of their keys, and the row of each key is found among them.
abbrev pub AreInOrder : Type 0
AreInOrder = (layers : List Layer) → InKeyOrder (rows_of layers)

abbrev pub AreFound : Type 0
AreFound = (layers : List Layer) (key : Key) → find key_cmp key (rows_of layers) ≡ row_at key layers

-- Rows in the order of their keys are one list, where each key has one row.
abbrev pub AreDetermined : Type 0
AreDetermined = (rows others : List (Key × Row)) → InKeyOrder rows → InKeyOrder others
    → ((key : Key) → find key_cmp key rows ≡ find key_cmp key others) → rows ≡ others
