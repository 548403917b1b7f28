use Rattle.std.proofs.Common.{◌≡◌, ◌++◌, drop, map}
use Rattle.td_model.specs.declared.catalog.Column.{Column}
use Rattle.td_verdict.specs.Writes.{place_of}
use Rattle.td_bind.proofs.puts.places_of.Given as goal

abbrev pub invariant-loop-column : goal.invariant-loop-column
invariant-loop-column l = map (λ (c : Column). place_of l.places c.name) l.columns ≡ l.all ++ map (λ (c : Column). place_of l.places c.name) (drop l.column-index l.columns)
