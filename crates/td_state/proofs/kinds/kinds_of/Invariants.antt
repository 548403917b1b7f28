use Rattle.std.proofs.Common.{◌≡◌, map, take}
use Rattle.td_model.specs.declared.catalog.Column.{Column}
use Rattle.td_state.proofs.kinds.kinds_of.Given as goal

-- so many kinds are there
abbrev pub invariant-loop-column : goal.invariant-loop-column
invariant-loop-column l = l.kinds ≡ map (λ (k : Column). k.kind) (take l.column-index l.columns)
