use Rattle.std.proofs.Common.{◌≡◌, ◌+◌, ◌≤◌, map, reverse, take, drop, length}
use Rattle.std.specs.Prelude.{All, IsSome, IfSome}
use Rattle.td_outside.specs.Causes.{raised}
use Rattle.td_outside.specs.Image.{Along}
use Rattle.td_making.specs.Making.{Adds, AddsSome}
use Rattle.td_making.proofs.making.finish_all.Given as goal

-- the files behind those that are left are finished, the last first
abbrev pub invariant-loop-file : goal.invariant-loop-file
invariant-loop-file g l = record {
  some : Along AddsSome (g.S.Store.told l.fn.store) (g.S.Store.told l.store);
  adds : Along (Adds (reverse l.numbers.items) (map g.S.Writer.Writer.written (drop (length l.files) l.fn.files))) (g.S.Store.told l.fn.store) (g.S.Store.told l.store);
  front : l.files ≡ take (length l.files) l.fn.files;
  told : IfSome (g.S.Store.told l.store) (λ _. All IsSome (map g.S.Writer.Writer.written l.files));
  number : length l.numbers.items + length l.files ≡ length l.fn.files;
  count : raised (g.S.Store.count l.fn.store) 0 ≤ g.S.Store.count l.store;
}

abbrev pub decreases-loop-file : goal.decreases-loop-file
decreases-loop-file g l = length l.files
