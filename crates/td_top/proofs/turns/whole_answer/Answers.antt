use Rattle.std.proofs.Common.{◌≡◌, ◌∙◌, ◌<◌, ◌^◌, length, take, drop}
use Rattle.td_model.specs.declared.language.Stmt.TheVariants as stmt
use Rattle.td_told.specs.Verdict.{answer}
use Rattle.td_top.proofs.Turned.{answered}
use Rattle.td_top.proofs.turns.whole_answer.Goals as goal

pub returns-in-Ok-clause-answer : goal.returns-in-Ok-clause-answer
returns-in-Ok-clause-answer g c q s sees =
    let prefix : c.prefix-prefix.result ≡ c.args.pinned.now.prefix = search in
    let names : c.in_ok-header.header ≡ c.args.pinned.now.header = c.in_ok-header.ensures ∙ c.header.ensures in
    let rows : c.in-Ok.rows ≡ take 18446744073709551615 (drop 0 (answer (stmt.Select q) s)) = c.in-Ok.ensures.rows q s 0 sees in
    let few : length (answer (stmt.Select q) s) < 2 ^ 63 = c.in-Ok.ensures.few q s 0 sees in
    answered c.args.pinned.now q s c.prefix-prefix.result c.in_ok-header.header c.in-Ok.rows sees prefix names rows few
