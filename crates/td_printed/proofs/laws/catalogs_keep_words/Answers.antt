use Rattle.std.proofs.Common.{◌∷◌, [], ◌+◌, refl}
use Rattle.td_printed.proofs.Kept.{entry_keeps, turn_keeps}
use Rattle.td_printed.proofs.laws.catalogs_keep_words.Goals as goal

pub returns-clause-empty : goal.returns-clause-empty
returns-clause-empty c = record { stables = tt; tables = tt; streams = tt }

pub returns-clause-entry : goal.returns-clause-entry
returns-clause-entry c = λ q s cursors session ordinal moment w rows h words is. entry_keeps q s cursors moment w rows
    (s ∷ []) (record s { version = s.version + 1; moment = moment }) h words refl is

pub returns-clause-turn : goal.returns-clause-turn
returns-clause-turn c = turn_keeps
