-- What is laid over a row can stand in columns, where both can.
use Rattle.std.proofs.Common.{◌≡◌, Bool, true, false, List, [], ◌∷◌, Option, Some, None, sym, subst}
use Rattle.std.specs.Prelude.{IfSome, if◌then◌else◌}
use Rattle.td_layer.specs.declared.values.Key.{Key}
use Rattle.td_layer.specs.declared.values.Value.{Value}
use Rattle.td_layer.specs.declared.values.Row.{Row}
use Rattle.td_layer.specs.declared.parts.Partial.{Partial}
use Rattle.td_layer.specs.Columns.{AreColumnCells, AreColumnValues}
use Rattle.td_layer.specs.Parts.{over, lay}
use Rattle.td_fileset.specs.declared.source.Ahead.{Ahead}
use Rattle.td_fileset.specs.declared.source.Ahead.TheVariants.{First}
use Rattle.td_fileset.specs.Sources.{HasValues}

over_values : (cells : List (Option Value)) (values : List Value) → AreColumnCells cells → AreColumnValues values → AreColumnValues (over cells values)
over_values [] vs h g = tt
over_values (Some v ∷ cs) [] h g = (h.0, over_values cs [] h.1 tt)
over_values (None ∷ cs) [] h g = (tt, over_values cs [] h.1 tt)
over_values (Some v ∷ cs) (w ∷ ws) h g = (h.0, over_values cs ws h.1 g.1)
over_values (None ∷ cs) (w ∷ ws) h g = (g.0, over_values cs ws h.1 g.1)

lay_values : (p : Partial) (row : Option Row) → AreColumnCells p.cells → IfSome row (λ (r : Row). AreColumnValues r.values) → AreColumnValues (lay p row).values
lay_values p None h g = over_values p.cells [] h tt
lay_values p (Some row) h g = over_values p.cells row.values h g

uncut_values : (cut : Bool) (row : Option Row) → IfSome row (λ (r : Row). AreColumnValues r.values) → IfSome (if cut then None else row) (λ (r : Row). AreColumnValues r.values)
uncut_values true row g = tt
uncut_values false row g = g

pub laid_values : (ahead : Ahead) (key : Key) (p : Partial) (cut : Bool) (row under : Option Row) (laid : Row) → ahead ≡ First key p → HasValues ahead → IfSome row (λ (r : Row). AreColumnValues r.values)
    → under ≡ (if cut then None else row) → laid ≡ lay p under → AreColumnValues laid.values
laid_values ahead key p cut row under laid is values has u l =
    let cells = subst HasValues is values in
    let low = subst (λ (o : Option Row). IfSome o (λ (r : Row). AreColumnValues r.values)) (sym u) (uncut_values cut row has) in
    subst (λ (r : Row). AreColumnValues r.values) (sym l) (lay_values p under cells low)
