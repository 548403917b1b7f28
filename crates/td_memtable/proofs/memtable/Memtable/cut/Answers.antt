use Rattle.std.proofs.Common.{◌<◌, sym, subst}
use Rattle.td_limits.specs.declared.limits.TheConstants.{MEMTABLE_PARTS}
use Rattle.td_memtable.specs.Contents.{Contents, key_at}
use Rattle.td_memtable.proofs.Sound.{sound_after_cut, at_most_later}
use Rattle.td_memtable.proofs.memtable.Memtable.cut.Goals as goal

pub invariant_of-self-2 : goal.invariant_of-self-2
invariant_of-self-2 c =
    let m : Contents = record { puts = c.self.inside.puts; cuts = c.self.inside.cuts; held = c.self.inside.held } in
    let room = subst (λ (m : Contents). m.held < MEMTABLE_PARTS) (sym c.self.view_is) c.requires.room in
    let le = at_most_later c.args.lo c.args.hi _ _ c.if-lo-hi.false c.later_end-end.ensures in
    sound_after_cut m (key_at c.args.table c.args.lo) (key_at c.args.table c.args.hi) (key_at c.args.table c.args.lo) _ _ _ le c.self.invariant room c.in_ok-puts.ensures c.in_ok-cuts.ensures
