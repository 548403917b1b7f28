-- A value that is laid.
use Rattle.std.specs.Prelude.{Option, Some, None}
use Rattle.td_layer.specs.declared.values.Value.{Value}
use Rattle.td_layer.specs.declared.values.Value.TheVariants.{Null}

-- a named value, else the one below, else NULL
abbrev pub laid_value : Option Value → Option Value → Value
laid_value (Some v) below = v
laid_value None (Some w) = w
laid_value None None = Null
