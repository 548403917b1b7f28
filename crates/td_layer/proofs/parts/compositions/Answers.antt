use Rattle.std.proofs.Common.{refl}
use Rattle.td_layer.proofs.Composed.{acts, associates, unit_under}
use Rattle.td_layer.proofs.parts.compositions.Goals as goal

pub returns-clause-acts : goal.returns-clause-acts
returns-clause-acts c = λ upper under row w. acts upper.cut upper.put under.cut under.put row w

pub returns-clause-associative : goal.returns-clause-associative
returns-clause-associative c = λ a b d. associates a.cut a.put b.cut b.put d

pub returns-clause-unit_over : goal.returns-clause-unit_over
returns-clause-unit_over c = λ p. refl

pub returns-clause-unit_under : goal.returns-clause-unit_under
returns-clause-unit_under c = λ p. unit_under p.cut p.put
