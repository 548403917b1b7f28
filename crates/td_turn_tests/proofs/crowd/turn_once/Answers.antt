use Rattle.std.proofs.Common.{ℕ, suc, ◌≤◌, List, ◌++◌, ap, ◌∙◌, arith}
use Rattle.td_turn.specs.Passes.{numbers_from, versions_after}
use Rattle.td_turn.proofs.Lists.{numbers_append, length_numbers}
use Rattle.td_turn_tests.proofs.crowd.turn_once.Goals as goal

pub give-requires-clause-list : goal.give-requires-clause-list
give-requires-clause-list g c κs =
    let old : ℕ = c.value-tally.result.now.count in
    let entries : ℕ = c.raise-entries.result in
    let more : List ℕ = numbers_from (suc old) entries in (
      more,
      numbers_append 1 old entries c.raise-entries.new.self.count (suc old) c.raise-entries.ensures (omega arith)
          ∙ ap (λ l. l ++ more) (ap (λ t. versions_after 0 t.count) c.value-tally.ensures.value ∙ c.take-held.ensures.list.0),
      length_numbers (suc old) entries,
    )

pub give-requires-clause-room : goal.give-requires-clause-room
give-requires-clause-room g c κs =
    let within : c.raise-entries.new.self.count ≤ 1000000 = c.raise-entries.new.self.within in
    omega (arith, length_numbers 1 c.raise-entries.new.self.count)
