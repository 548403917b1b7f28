use Rattle.std.proofs.Common.{◌<◌, sym, subst}
use Rattle.td_limits.specs.declared.limits.TheConstants.{MEMTABLE_PARTS}
use Rattle.td_memtable.specs.Contents.{Contents, IsSound}
use Rattle.td_memtable.proofs.Sound.{sound_after_put}
use Rattle.td_memtable.proofs.memtable.Memtable.put.Goals as goal

pub invariant_of-self : goal.invariant_of-self
invariant_of-self c = subst (λ puts. IsSound (record { puts = puts; cuts = c.self.inside.cuts; held = c.self.inside.held })) (sym c.in_err-set.ensures.err) c.self.invariant

pub invariant_of-self-2 : goal.invariant_of-self-2
invariant_of-self-2 c =
    let m : Contents = record { puts = c.self.inside.puts; cuts = c.self.inside.cuts; held = c.self.inside.held } in
    let room = subst (λ (m : Contents). m.held < MEMTABLE_PARTS) (sym c.self.view_is) c.requires.room in
    sound_after_put m c.args.put.now.key (record { birth = c.args.birth; cells = c.args.put.now.cells }) _ _ _ c.self.invariant room c.requires.values c.in_ok-set.ensures.ok c.in_ok-part.ensures c.get.ensures
