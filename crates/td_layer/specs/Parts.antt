-- What a part does to the row of its key, and the part that does what two of them do.
use Rattle.std.specs.Prelude.{◌≡◌, false, List, [], ◌∷◌, length, Option, Some, None, if◌then◌else◌}
use Rattle.td_layer.specs.declared.values.Value.{Value}
use Rattle.td_layer.specs.declared.values.Value.TheVariants.{Null}
use Rattle.td_layer.specs.declared.values.Row.{Row}
use Rattle.td_layer.specs.declared.parts.Partial.{Partial}
use Rattle.td_layer.specs.declared.parts.Part.{Part}

-- named values over a row's values; where there is no value below, a column that isn't named is NULL
abbrev pub over : List (Option Value) → List Value → List Value
over [] vs = []
over (Some v ∷ cs) [] = v ∷ over cs []
over (None ∷ cs) [] = Null ∷ over cs []
over (Some v ∷ cs) (w ∷ ws) = v ∷ over cs ws
over (None ∷ cs) (w ∷ ws) = w ∷ over cs ws

-- A put over the row that is there. A new row has the birth of the put, and a row that is there keeps its own.
abbrev pub lay : Partial → Option Row → Row
lay p None = record { birth = p.birth; values = over p.cells [] }
lay p (Some row) = record { birth = row.birth; values = over p.cells row.values }

abbrev pub lay_if_any : Option Partial → Option Row → Option Row
lay_if_any None row = row
lay_if_any (Some p) row = Some (lay p row)

-- A part is a cut, then a put: a cut leaves no row, and then the put is laid.
abbrev pub act : Part → Option Row → Option Row
act p row = lay_if_any p.put (if p.cut then None else row)

-- cells over cells: a cell that names no value leaves the one below
abbrev pub cell_over : Option Value → Option Value → Option Value
cell_over (Some v) below = Some v
cell_over None below = below

abbrev pub cells_over : List (Option Value) → List (Option Value) → List (Option Value)
cells_over [] ds = ds
cells_over (c ∷ cs) [] = c ∷ cs
cells_over (c ∷ cs) (d ∷ ds) = cell_over c d ∷ cells_over cs ds

-- a put over a put, which keeps the birth of the lower one
abbrev pub put_over : Option Partial → Option Partial → Option Partial
put_over None under = under
put_over (Some p) None = Some p
put_over (Some p) (Some q) = Some (record { birth = q.birth; cells = cells_over p.cells q.cells })

-- The part that does what `under` and then `over` do.
abbrev pub composed : Part → Part → Part
composed upper under = if upper.cut then upper else record { cut = under.cut; put = put_over upper.put under.put }

-- the part that does nothing
abbrev pub no_part : Part
no_part = record { cut = false; put = None }

-- where there are two puts, they have equally many cells
abbrev pub HaveOneWidth : Option Partial → Option Partial → Type 0
HaveOneWidth (Some p) (Some q) = length p.cells ≡ length q.cells
HaveOneWidth (Some p) None = Unit {0}
HaveOneWidth None q = Unit {0}

-- A composition does what its parts do, one after the other.
abbrev pub ActsAsBoth : Type 0
ActsAsBoth =
    (upper under : Part) (row : Option Row) → HaveOneWidth upper.put under.put
    → act (composed upper under) row ≡ act upper (act under row)

abbrev pub IsAssociative : Type 0
IsAssociative = (a b c : Part) → composed (composed a b) c ≡ composed a (composed b c)
