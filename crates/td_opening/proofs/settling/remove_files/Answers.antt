use Rattle.std.proofs.Common.{arith}
use Rattle.std.specs.Prelude.{slice_index_or}
use Rattle.td_opening.proofs.Numbered.{index_is}
use Rattle.td_opening.proofs.Removing.{told_unread}
use Rattle.td_opening.proofs.settling.remove_files.Goals as goal

pub remove-requires : goal.remove-requires
remove-requires g c =
    let i = c.loop-name.name-index in
    let names = c.args.names.now in
    let lt = c.loop-name-test.true in
    record {
      unread = told_unread c.args.named.now names i (slice_index_or names i 0) (g.S.Store.told c.args.store.now)
          (g.S.Store.told c.loop-name.store) (omega (arith, lt)) (index_is names i (omega (arith, lt))) c.requires.names
          c.requires.unread c.loop-name.invariant.swept;
    }
