-- Rows after puts.
use Rattle.std.specs.Prelude.{ℕ, List, [], ◌∷◌}
use Rattle.td_model.specs.declared.history.Put.{Put}
use Rattle.td_model.specs.State.{Rows, row_at, with_row, lay}

-- the rows after one put at a moment, and after some, one after another
abbrev pub row_after : ℕ → Put → Rows → Rows
row_after moment p rows = with_row p.key (lay p.cells moment (row_at p.key rows)) rows

abbrev pub rows_after : ℕ → List Put → Rows → Rows
rows_after moment [] rows = rows
rows_after moment (p ∷ ps) rows = rows_after moment ps (row_after moment p rows)
