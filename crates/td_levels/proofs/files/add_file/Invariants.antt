use Rattle.std.proofs.Common.{◌≡◌, ◌++◌}
use Rattle.td_levels.specs.Ranges.{with_file}
use Rattle.td_levels.specs.Sets.{sets_of}
use Rattle.td_levels.proofs.Adding.{left}
use Rattle.td_levels.proofs.files.add_file.Given as goal

-- the sets so far, and what becomes of those that are left, are the sets with the file
abbrev pub invariant-sets : goal.invariant-sets
invariant-sets l =
    sets_of l.all.items ++ left l.waits l.new.range l.new.file (sets_of l.set-iterator.rest.items)
    ≡ with_file l.new.range l.new.file (sets_of l.initial.set-iterator.rest.items)
