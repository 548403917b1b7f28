use Rattle.td_opening.proofs.Entered.{column_cells}
use Rattle.td_opening.proofs.replaying.take_in.Goals as goal

pub prepare-requires-clause-cells : goal.prepare-requires-clause-cells
prepare-requires-clause-cells c =
    column_cells c.args.entry.what c.args.tables.now.state.catalog c.is_sound.ensures.catalog
    c.requires.takes.follows
