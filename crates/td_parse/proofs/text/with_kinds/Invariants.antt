use Rattle.std.proofs.Common.{◌≡◌, ◌++◌}
use Rattle.std.specs.Vec.Iter.{into_iter_items}
use Rattle.td_parse.specs.Statements.{lexemes, places}
use Rattle.td_parse.proofs.text.with_kinds.Given as goal

-- what is made so far, and what is left to make, is all
abbrev pub invariant-loop-spanned : goal.invariant-loop-spanned
invariant-loop-spanned l = record {
  kinds : l.lexemes.items ++ lexemes (into_iter_items l.spanned-iterator) ≡ lexemes l.fn.found.items;
  ats : l.places.items ++ places (into_iter_items l.spanned-iterator) ≡ places l.fn.found.items;
}
