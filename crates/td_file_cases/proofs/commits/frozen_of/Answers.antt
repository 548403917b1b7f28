use Rattle.td_file_cases.proofs.Kept.{can_write}
use Rattle.td_file_cases.proofs.commits.frozen_of.Goals as goal

pub returns-clause-sound : goal.returns-clause-sound
returns-clause-sound c =
    can_write (record { number = 1; from = 0; version = 1; ranges = c.in_ok-ranges.ranges; memtable = c.args.memtable; kinds = c.in_ok-kinds.kinds }) c.requires c.in_ok-ranges.ensures c.in_ok-kinds.ensures
