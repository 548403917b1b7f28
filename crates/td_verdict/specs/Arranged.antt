-- The order of an answer's windows, and the part of them that is shown.
use Rattle.std.specs.Prelude.{int_le, if◌then◌else◌, List, [], ◌∷◌, map, reverse}
use Rattle.td_layer.specs.declared.values.Cell.{Cell}
use Rattle.td_model.specs.declared.language.OrderBy.{OrderBy}
use Rattle.td_model.specs.declared.language.OrderBy.TheVariants as order
use Rattle.td_model.specs.declared.language.Query.{Query}
use Rattle.td_model.specs.declared.windows.WinRow.{WinRow}
use Rattle.td_verdict.specs.Answers.{cut}

-- a row put among others, behind those that start no later
abbrev pub put_by_start : List WinRow → WinRow → List WinRow
put_by_start [] w = w ∷ []
put_by_start (v ∷ vs) w = if int_le v.key.start w.key.start then v ∷ put_by_start vs w else w ∷ v ∷ vs

abbrev pub put_by_starts : List WinRow → List WinRow → List WinRow
put_by_starts rows [] = rows
put_by_starts rows (w ∷ ws) = put_by_starts (put_by_start rows w) ws

-- rows by start, and those of one start in their former order
abbrev pub by_start : List WinRow → List WinRow
by_start rows = put_by_starts [] rows

-- ORDER BY _wstart; DESC is the ascending list reversed
abbrev pub arranged : OrderBy → List WinRow → List WinRow
arranged order.Plain rows = rows
arranged (order.Asc name) rows = by_start rows
arranged (order.Desc name) rows = reverse (by_start rows)

-- the cells of the rows that ORDER BY, OFFSET and LIMIT leave
abbrev pub cells_shown : List WinRow → List (List Cell)
cells_shown rows = map (λ (w : WinRow). w.cells) rows

abbrev pub answer_of_rows : Query → List WinRow → List (List Cell)
answer_of_rows q rows = cells_shown (cut q (arranged q.order rows))
