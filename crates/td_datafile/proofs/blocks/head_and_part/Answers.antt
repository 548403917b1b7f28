use Rattle.std.proofs.Common.{ℕ, Vec, Global, take, Err, ap, subst, ◌∙◌}
use Rattle.std.proofs.lemmas.Result.{err_from_is_err_and}
use Rattle.td_block.specs.declared.header.Head.{Head}
use Rattle.td_block.specs.Headers.{head_found}
use Rattle.td_datafile.specs.Reading.{Answered}
use Rattle.td_datafile.specs.Blocks.{moved}
use Rattle.td_datafile.proofs.Heads.{head_read, head_fails}
use Rattle.td_datafile.proofs.blocks.head_and_part.Goals as goal

pub returns-in_err-head-clause-read : goal.returns-in_err-head-clause-read
returns-in_err-head-clause-read g c =
    let p = err_from_is_err_and c.from_residual-in_err-head.result c.from_residual-in_err-head.ensures.1 in
    let front = c.front_of.ensures ∙ ap (take 14) c.as_slice.ensures.value in
    let e = c.in_err-head.field-0.0 in
    let fault = subst (λ (n : ℕ). Answered n (Err e) (moved c.args.at (head_found c.front_of.result.now))) c.in_ok-part.ensures.file.file_is c.in_err-head.ensures in
    rw (p.1, p.2) (head_fails {X = Head × Vec ℕ Global} (λ x. x.0) (g.F.FileBytes.bytes c.args.file.now) (g.F.FileBytes.file c.args.file.now) c.args.size c.args.at c.in_ok-part.part.items c.front_of.result.now e c.requires.most front c.in_ok-part.ensures.part.stands fault)

pub returns-clause-read : goal.returns-clause-read
returns-clause-read g c =
    let front = c.front_of.ensures ∙ ap (take 14) c.as_slice.ensures.value in
    head_read (g.F.FileBytes.bytes c.args.file.now) c.args.size c.args.at c.in_ok-part.part.items c.front_of.result.now c.in_ok-head.head c.requires.most front c.in_ok-part.ensures.part.stands c.in_ok-head.ensures
