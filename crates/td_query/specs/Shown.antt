-- Windows that are lent.
use Rattle.std.specs.Prelude.{List, map}
use Rattle.td_model.specs.declared.windows.WinRow.{WinRow}
use Rattle.td_query.specs.declared.arranging.Shown.{Shown}
use Rattle.td_query.specs.declared.gathering.Group.{Group}

abbrev pub all_shown : List Shown → List WinRow
all_shown rows = map (λ (s : Shown). s.row.now) rows

abbrev pub windows_in : Group → List WinRow
windows_in g = g.windows
