use Rattle.td_state.proofs.Parts.{both, has_place, still_room}
use Rattle.td_state.proofs.contents.Contents.apply.Goals as goal

pub place-requires : goal.place-requires
place-requires c = has_place c.args.entry.now.what c.args.catalog.now.catalog c.args.self.now c.args.part c.requires.subtables c.requires.part c.requires.room.1

pub note-requires : goal.note-requires
note-requires c = still_room c.args.entry.now.what c.args.self.now.room c.place.new.self.room c.place.ensures.stables c.place.ensures.tables c.requires.room.0

pub returns : goal.returns
returns c = both c.args.entry.now.what c.args.version c.args.catalog.now.catalog c.args.self.now.kept c.place.new.self.kept c.note.new.self.kept c.args.part c.requires.part c.place.ensures.kept c.note.ensures
