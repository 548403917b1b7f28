-- Which values can be written wherever they stand.
use Rattle.std.specs.Prelude.{Bool, ◌&&◌}
use Rattle.td_model.specs.declared.windows.WinRow.{WinRow}
use Rattle.td_codec.specs.Fields.{signed_64}
use Rattle.td_codec.specs.Values.{cell_list, win_key}

-- whether a row has bytes, whatever stands before it
abbrev pub win_row_fits : WinRow → Bool
win_row_fits row = win_key.fits row.key && (signed_64.fits row.end && cell_list.fits row.cells)
