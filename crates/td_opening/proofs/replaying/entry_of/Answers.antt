use Rattle.td_opening.proofs.Items.{entry_accepted, entry_refused}
use Rattle.td_opening.proofs.replaying.entry_of.Goals as goal

pub returns-clause-accepted : goal.returns-clause-accepted
returns-clause-accepted c = entry_accepted c.args.text.now c.in_ok-stmt.stmt c.args.item.now c.args.tables.now.state c.judge_item-entry.result c.in_ok-stmt.ensures c.judge_item-entry.ensures.accepted

pub returns-clause-refused : goal.returns-clause-refused
returns-clause-refused c = entry_refused c.args.text.now c.in_ok-stmt.stmt c.args.item.now c.args.tables.now.state c.judge_item-entry.result c.in_ok-stmt.ensures c.judge_item-entry.ensures.refused
