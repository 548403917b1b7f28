use Rattle.std.proofs.Common.{◌≡◌, ℕ, ◌+◌, ◌≤◌, [], Err, length, refl, ap, subst, ◌∙◌}
use Rattle.std.specs.Prelude.{map, sum}
use Rattle.std.specs.Option.{option_map}
use Rattle.std.proofs.lemmas.List.Elements.{All-nil, All-same}
use Rattle.td_outside.specs.Causes.{Rose, raised}
use Rattle.td_outside.specs.declared.faults.IoFault.TheVariants as faults
use Rattle.td_making.proofs.Stores.{later_then, over_later, rose_then, same_self, same_then}
use Rattle.td_making.proofs.making.create_all.Goals as goal

pub loop-init : goal.loop-init
loop-init g c = record {
  image = same_self (g.S.Store.told c.args.store.now);
  number = ap length c.new-files.ensures;
  empty = All-same (λ w. g.S.Writer.Writer.written w ≡ option_map (λ _. []) (g.S.Store.told c.args.store.now)) c.new-files.result [] c.new-files.ensures (All-nil (λ w. g.S.Writer.Writer.written w ≡ option_map (λ _. []) (g.S.Store.told c.args.store.now)));
  clean = All-same (λ w. g.S.Writer.Writer.count w ≡ 0) c.new-files.result [] c.new-files.ensures (All-nil (λ w. g.S.Writer.Writer.count w ≡ 0));
  kept = refl;
}

pub loop-preserved : goal.loop-preserved
loop-preserved g c = record {
  image = same_then (g.S.Store.told c.args.store.now) (g.S.Store.told c.loop.store) (g.S.Store.told c.add_new.new.store) c.loop.invariant.image c.add_new.ensures.image;
  number = c.in_default.ensures.ok ∙ ap (λ n. n + 1) c.loop.invariant.number;
  empty = c.in_default.ensures.empty c.loop.invariant.empty;
  clean = c.in_default.ensures.clean c.loop.invariant.clean;
  kept = c.in_default.ensures.kept ∙ c.loop.invariant.kept;
}

pub returns-in-Err-clause-image : goal.returns-in-Err-clause-image
returns-in-Err-clause-image g c =
    same_then (g.S.Store.told c.args.store.now) (g.S.Store.told c.add_new.new.store) (g.S.Store.told c.abandon_all.new.store)
    (same_then (g.S.Store.told c.args.store.now) (g.S.Store.told c.loop.store) (g.S.Store.told c.add_new.new.store) c.loop.invariant.image c.add_new.ensures.image)
    c.abandon_all.ensures.image

pub returns-in-Err-clause-later : goal.returns-in-Err-clause-later
returns-in-Err-clause-later g c =
    later_then (g.S.Store.count c.args.store.now) (g.S.Store.count c.add_new.new.store) (g.S.Store.count c.abandon_all.new.store)
    (subst (λ (n : ℕ). raised n 0 ≤ g.S.Store.count c.add_new.new.store) c.loop.invariant.kept c.add_new.ensures.count) (over_later (g.S.Store.count c.add_new.new.store) (sum (map g.S.Writer.Writer.count c.add_new.new.files)) (g.S.Store.count c.abandon_all.new.store) c.abandon_all.ensures.count)

pub returns-in-Err-clause-failed : goal.returns-in-Err-clause-failed
returns-in-Err-clause-failed g c =
    λ is.
    let same : c.in-Err.fault ≡ faults.Failed = cc in
    rose_then (g.S.Store.count c.args.store.now) (g.S.Store.count c.add_new.new.store) (g.S.Store.count c.abandon_all.new.store)
    (subst (λ (n : ℕ). Rose n (g.S.Store.count c.add_new.new.store)) c.loop.invariant.kept (c.in-Err.ensures.failed (ap Err same))) (over_later (g.S.Store.count c.add_new.new.store) (sum (map g.S.Writer.Writer.count c.add_new.new.files)) (g.S.Store.count c.abandon_all.new.store) c.abandon_all.ensures.count)
