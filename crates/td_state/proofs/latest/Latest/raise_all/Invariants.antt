use Rattle.std.proofs.Common.{◌≡◌}
use Rattle.std.specs.Prelude.{drop}
use Rattle.td_state.specs.Latest.{raised_all}
use Rattle.td_state.proofs.latest.Latest.raise_all.Given as goal

abbrev pub invariant-loop-put : goal.invariant-loop-put
invariant-loop-put l = raised_all l.catalog.catalog (drop l.put-index l.puts) l.self.greatest ≡ raised_all l.catalog.catalog l.puts l.initial.self.greatest
