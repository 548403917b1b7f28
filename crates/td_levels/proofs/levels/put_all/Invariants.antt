use Rattle.std.proofs.Common.{◌≡◌, ◌+◌, drop, All}
use Rattle.td_model.specs.Catalog.{Catalog}
use Rattle.td_verdict.specs.Sound.{IsPut}
use Rattle.td_levels.specs.Fits.{FitsMemtable}
use Rattle.td_levels.specs.Taken.{with_puts}
use Rattle.td_levels.proofs.levels.put_all.Given as goal

-- what the puts that are left make of the memtable is what all make of the first one; so many parts are held, and the
-- memtable fits
abbrev pub invariant-loop-put : goal.invariant-loop-put
invariant-loop-put l =
    (with_puts l.moment (drop l.put-index l.puts) l.memtable ≡ with_puts l.moment l.puts l.initial.memtable)
    × (l.memtable.held ≡ l.initial.memtable.held + l.put-index)
    × ((c : Catalog) → FitsMemtable c l.initial.memtable → All (IsPut c) l.puts → FitsMemtable c l.memtable)
