use Rattle.std.proofs.Common.{◌≡◌, [], length}
use Rattle.std.specs.Prelude.{All}
use Rattle.std.specs.Option.{option_map}
use Rattle.td_outside.specs.Image.{Along}
use Rattle.td_making.specs.Making.{SameHeld}
use Rattle.td_making.proofs.making.create_all.Given as goal

-- so many files are begun, and the image holds what it held
abbrev pub invariant-loop : goal.invariant-loop
invariant-loop g l = record {
  image : Along SameHeld (g.S.Store.told l.initial.store) (g.S.Store.told l.store);
  number : length l.files ≡ l.counter;
  empty : All (λ w. g.S.Writer.Writer.written w ≡ option_map (λ _. []) (g.S.Store.told l.store)) l.files;
  clean : All (λ w. g.S.Writer.Writer.count w ≡ 0) l.files;
  kept : g.S.Store.count l.store ≡ g.S.Store.count l.initial.store;
}
